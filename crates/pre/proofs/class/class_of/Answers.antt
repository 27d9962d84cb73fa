-- `class_of` reads the entry of a byte.
use Prim.Native.Nat.{ℕ, ◌<◌}
use mathlib.Core.Path.{◌≡◌, ap, ◌∙◌}
use mathlib.Core.List.{List}
use native.Mathlib.Omega.{arith}
use lib.ListN.{get_or, length}
use Rattle.std.proofs.Common.{rules}
use Rattle.std.proofs.lemmas.List.{get_or-map}
use Rattle.syntax_kind.specs.Number.{number, kind_of}
use Rattle.syntax_kind.specs.declared.kind.SyntaxKind.{SyntaxKind}
use Rattle.pre.specs.Table.{class_number, class_table, values}
use Rattle.pre.proofs.Classes.{class_kind}
use Rattle.pre.proofs.Values.{value_at, length_values}
use Rattle.pre.proofs.class.class_of.Goals as goal

read : (t : List SyntaxKind) (b : ℕ) (d : SyntaxKind) → t ≡ class_table → b < 256 → number (get_or t b d) ≡ class_number b
unfolding class_table
read t b d e h =
    let v = values class_number 0 256 in
    let l : b < length v = omega (arith, length_values class_number 256 0) in
    ap (λ t. number (get_or t b d)) e ∙ ap number (get_or-map kind_of v b 0 d l) ∙ ap (λ n. number (kind_of n)) (value_at class_number 256 b h) ∙ class_kind b

pub returns : goal.returns
returns c = search (read, rules)
