-- The UTF-8 check along a source: what is left of the rest, for what its state wants, is what is left of the whole.
use Rattle.std.specs.Prelude.{Option, Some, None}
use Prim.Native.Nat.{ℕ, ◌+◌, ◌≤◌, ◌<◌}
use mathlib.Core.Path.{◌≡◌, sym, ap, ◌∙◌}
use mathlib.Core.List.{List, []}
use lib.ListN.{length, drop, get_or}
use Rattle.definition.specs.Utf8.{left, broken}
use Rattle.text.specs.Utf8.{wants, next_wants, wanted_after, Passes}
use Rattle.text.specs.declared.utf8.State.{State}
use Rattle.text.proofs.Ascii.{pass_over}
use Rattle.text.proofs.Utf8s.{go_on, left_more}

pub record Checking (src : List ℕ) (s : State) (i : ℕ) : Type 0 where
  pub within : i ≤ length src
  pub rest : left [] src ≡ left (wants s) (drop i src)

module _ (src : List ℕ) (s : State) (i : ℕ) (k : Checking src s i) where
  further : (n : Option State) → i < length src → next_wants n ≡ wanted_after (wants s) (get_or src i 0) → left [] src ≡ go_on (next_wants n) (drop (i + 1) src)
  further n h e = k.rest ∙ left_more src (wants s) i h ∙ ap (λ o. go_on o (drop (i + 1) src)) (sym e)

  -- A byte that is wanted, and the ASCII behind it.
  pub wanted_byte : (n : Option State) (t : State) (to : ℕ) → i < length src → next_wants n ≡ wanted_after (wants s) (get_or src i 0) → n ≡ Some t
      → Passes t src (i + 1) to → Checking src t to
  wanted_byte n t to h e q p = record {
    within = p.within;
    rest = further n h e ∙ ap (λ n. go_on (next_wants n) (drop (i + 1) src)) q ∙ pass_over t src (i + 1) to p;
  }

  pub unwanted_byte : (n : Option State) → i < length src → next_wants n ≡ wanted_after (wants s) (get_or src i 0) → n ≡ None → broken ≡ left [] src
  unwanted_byte n h e q = sym (further n h e ∙ ap (λ n. go_on (next_wants n) (drop (i + 1) src)) q)
