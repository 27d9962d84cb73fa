-- `whitespace` reads up to the next byte that is no blank.
use Prim.Native.Nat.{ℕ, ◌+◌, ◌<◌, ◌≤◌, max}
use mathlib.Core.Path.{◌≡◌, sym}
use mathlib.Core.List.{List}
use native.Mathlib.Decide.{dec_lt}
use native.Mathlib.Omega.{arith}
use lib.ListN.{length, get_or}
use Rattle.std.proofs.Common.{rules}
use Rattle.definition.specs.SyntaxKind.{Kind}
use Rattle.definition.specs.Pre.{whitespace, kind_of}
use Rattle.syntax_kind.specs.Number.{number}
use Rattle.syntax_kind.specs.declared.kind.SyntaxKind.{SyntaxKind}
use Rattle.syntax_kind.specs.declared.kind.SyntaxKind.TheVariants as kind
use Rattle.pre.specs.Table.{class_number}
use Rattle.pre.specs.Scan.{from, token}
use Rattle.pre.proofs.Classes.{closed_blank}
use Rattle.pre.proofs.States.{whitespace_goes, whitespace_stops}
use Rattle.pre.proofs.Froms.{from_end}
use Rattle.pre.proofs.Scans.{Same, same_end, same_go, same_stop}
use Rattle.pre.proofs.whitespace.whitespace.Goals as goal

module _ (s : List ℕ) (at i : ℕ) (k : Same s whitespace at whitespace i) where
  ended : length s ≤ i → token Kind.WS i ≡ from whitespace 0 at s
  unfolding kind_of
  ended h = same_end s whitespace at whitespace i k h

  passed : (at ≤ length s → i ≤ length s) → length s ≤ i → (e : ℕ) → e ≡ max at (length s) → token Kind.WS e ≡ from whitespace 0 at s
  unfolding kind_of
  passed b h e q = elim (dec_lt at (length s)) [
    | yes l ↦ let n : e ≡ i = omega (arith, b (omega arith)) in rw n (ended h)
    | no l ↦ let n : e ≡ at = omega arith in rw n (sym (from_end whitespace 0 at s (omega arith)))
  ]

  module _ (h : i < length s) (r : SyntaxKind) (e : number r ≡ class_number (get_or s i 0)) where
    goes : r ≡ kind.WS → Same s whitespace at whitespace (i + 1)
    goes z = same_go s whitespace at whitespace i k h whitespace (closed_blank _ r e z) (whitespace_goes _ r e z)

    stops : (r ≡ kind.WS → ⊥) → token Kind.WS i ≡ from whitespace 0 at s
    unfolding kind_of
    stops z = same_stop s whitespace at whitespace i k h (whitespace_stops _ r e z)

pub loop-i-preserved : goal.loop-i-preserved
loop-i-preserved c = search (goes, rules)

pub returns-in_default : goal.returns-in_default
returns-in_default c = search (stops, rules)

pub returns : goal.returns
returns c = search (passed, rules)
