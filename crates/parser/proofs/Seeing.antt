-- What is seen is what is left where the lexer stands.
use Rattle.std.specs.Prelude.{if◌then◌else◌, Option, Some, None}
use Prim.Native.Nat.{ℕ, ◌≤◌}
use mathlib.Core.Path.{◌≡◌, refl, sym, ◌∙◌}
use mathlib.Core.Bool.{Bool, true, false}
use mathlib.Core.List.{List}
use borrow.Author.Tests.{ne_eqb, eqb-false}
use native.Mathlib.Omega.{arith}
use mir.Val.{Fits}
use mir.Syntax.{w32}
use lib.Dec.{eqb}
use lib.ListN.{length}
use Rattle.definition.specs.Text.{Kind}
use Rattle.definition.specs.Calls.{longest_source}
use Rattle.theorems.specs.Step.{Stepped}
use Rattle.theorems.specs.LeavesFrom.{leaf_kind}
use Rattle.theorems.proofs.LeavesFrom.{leaves_step, leaves_over, stop_between}
use Rattle.syntax_kind.specs.Number.{number}
use Rattle.glue.specs.declared.Step.{Step}
use Rattle.glue.specs.Next.{Nexts}
use Rattle.parser.specs.Rest.{unread, Held, Sees}

-- A leaf's kind is not 0.
some_leaf : (k : ℕ) → (k ≡ 0 → ⊥) → leaf_kind k ≡ 0 → ⊥
some_leaf k h = go (eqb k Kind.LINECONT) refl
  where
    go : (b : Bool) → eqb k Kind.LINECONT ≡ b → (if b then Kind.WS else k) ≡ 0 → ⊥
    go true e z = absurd (omega arith)
    go false e z = h z

-- A step of the lexer is seen as the leaf of its token.
pub seen_step : (src : List ℕ) (at : ℕ) (f : Bool) (k e : ℕ) (g : Bool) → Stepped src at f k e g → (j : ℕ) → j ≡ leaf_kind k
    → Sees src at f (record { kind = j; start = at; end = e; angle = g })
unfolding unread Held
seen_step src at f k e g u j h =
    let z : eqb j 0 ≡ false = ne_eqb j 0 (λ w. some_leaf k u.some_kind (sym h ∙ w)) in
    record {
      rest = rw (z, h) (sym (leaves_step src at f k e g u));
      held = λ n. (stop_between src at f k e g u, u.forward);
      starts = refl;
      over = λ w. absurd (eqb-false j 0 z w);
    }

module _ (src : List ℕ) (at : ℕ) (angle : Bool) (x : Option Step) (y : Nexts src (record { input = record { at = at; angle = angle } }) x) where
  module _ (t : Step) (q : x ≡ Some t) where
    stepped : Stepped src at angle (number t.kind) t.next.input.at t.next.input.angle
    unfolding Nexts
    stepped = rw q at y

    pub end_fits : length src ≤ longest_source → Fits w32 t.next.input.at
    end_fits h = omega (arith, stepped.within)

    pub seen_token : (k : ℕ) → k ≡ leaf_kind (number t.kind) → Sees src at angle (record { kind = k; start = at; end = t.next.input.at; angle = t.next.input.angle })
    seen_token k e = seen_step src at angle _ _ _ stepped k e

  pub seen_end : x ≡ None → Sees src at angle (record { kind = 0; start = at; end = at; angle = angle })
  unfolding Nexts unread Held
  seen_end q = let o : length src ≤ at = rw q at y in record { rest = sym (leaves_over src at angle o); held = λ h. absurd (h refl); starts = refl; over = λ w. (refl, o) }
