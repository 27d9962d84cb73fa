-- `PreLexer::next` gives the token where the pre-lexer stands, and the state behind it.
use Prim.Native.Nat.{ℕ, ◌+◌, ◌-◌, ◌≤◌, ◌<◌}
use mathlib.Core.Path.{◌≡◌, ap}
use mathlib.Core.Bool.{Bool}
use mathlib.Core.List.{List}
use native.Mathlib.Omega.{arith}
use lib.ListN.{length, take, drop, get_or}
use borrow.Author.Tests.{lt-ltb, le-ltb}
use Rattle.std.proofs.Common.{rules, Some, None}
use Rattle.definition.specs.Pre.{begin, flag}
use Rattle.theorems.specs.Walk.{name_kind}
use Rattle.syntax_kind.specs.Number.{number}
use Rattle.syntax_kind.specs.declared.kind.SyntaxKind.{SyntaxKind}
use Rattle.pre.specs.Scan.{Token, from, told, first, pre_step, pre_next, stepped}
use Rattle.pre.specs.declared.token.Token as code
use Rattle.pre.specs.declared.PreLexer.{PreLexer}
use Rattle.pre.proofs.Froms.{Ends, from_fits}
use Rattle.pre.proofs.PreLexer.next.Goals as goal

module _ (l : PreLexer) (s : List ℕ) where
  ended : length s ≤ l.at → None ≡ pre_next l s
  unfolding pre_next
  ended h = rw (le-ltb l.at (length s) h)

  one : (t : code.Token) (k : SyntaxKind) (f : Bool) → l.at < length s → told t ≡ first l s
      → number k ≡ name_kind (number t.kind) (take (t.end - l.at) (drop l.at s)) → f ≡ flag l.angle (get_or s l.at 0)
      → stepped (Some (record { kind = k; next = record { at = t.end; angle = f } })) ≡ pre_next l s
  unfolding pre_step pre_next
  one t k f h e p q = rw (lt-ltb l.at (length s) h, ← e, p, q)

module _ (s : List ℕ) (at : ℕ) (f : Bool) (t : code.Token) (h : at < length s) (e : told t ≡ from (begin f (get_or s at 0)) (get_or s at 0) (at + 1) s) where
  bounds : Ends (at + 1) (length s) t.end
  bounds =
      let z : t.end ≡ (from (begin f (get_or s at 0)) (get_or s at 0) (at + 1) s).end = ap (λ (r : Token). r.end) e in
      rw z (from_fits _ _ (at + 1) s (omega arith))

  below : at < t.end
  below = omega (arith, bounds.low)

  above : t.end ≤ length s
  above = bounds.high

pub returns-then-src-at : goal.returns-then-src-at
returns-then-src-at c = search (ended, rules)

pub name-kind-requires : goal.name-kind-requires
name-kind-requires c = search (below, above, rules)

pub returns : goal.returns
returns c = search (one, rules)
