-- A backslash that stands alone, or begins a continuation.
use Prim.Native.Nat.{ℕ, ◌+◌}
use mathlib.Core.Path.{sym, ◌∙◌, ◌≡◌}
use mathlib.Core.List.{List}
use lib.ListN.{drop}
use Rattle.definition.specs.SyntaxKind.{Kind}
use Rattle.definition.specs.Newline.{chars}
use Rattle.definition.specs.Pre.{alone, backslash, done}
use Rattle.text.specs.Newline.{newline_len}
use Rattle.pre.specs.Scan.{from, token}
use Rattle.pre.proofs.Froms.{done_is}
use Rattle.pre.proofs.Scans.{back_alone, back_go, back_stop}

module _ (s : List ℕ) (at w : ℕ) (v : w ≡ newline_len (chars (drop at s))) where
  pub back_bare : w ≡ 0 → token Kind.BACKSLASH at ≡ from (backslash alone) 0 at s
  back_bare z = sym (back_stop alone (done Kind.LINECONT) back_alone at s w v z)

  pub back_cont : (w ≡ 0 → ⊥) → token Kind.LINECONT (at + w) ≡ from (backslash alone) 0 at s
  back_cont z = sym (back_go alone (done Kind.LINECONT) back_alone at s w v z ∙ done_is Kind.LINECONT (at + w) s)
