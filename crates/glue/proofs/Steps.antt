-- A step of the lexer, from the step of the pre-lexer.
use Rattle.std.specs.Prelude.{Option, Some, None}
use Rattle.std.proofs.lemmas.Option.{none-some}
use Prim.Native.Nat.{ℕ, ◌≤◌, ◌<◌}
use mathlib.Core.Path.{◌≡◌, refl, sym, ap, ◌∙◌}
use mathlib.Core.Bool.{Bool, true, false, ◌&&◌, ◌||◌, false≢true}
use mathlib.Core.List.{List}
use mathlib.Core.Option.{none}
use native.Mathlib.Omega.{arith}
use lib.Dec.{ltb}
use lib.ListN.{length}
use borrow.Author.Tests.{ltb-true, ltb-false}
use Rattle.definition.specs.SyntaxKind.{Kind}
use Rattle.definition.specs.Glue.{glued, glues}
use Rattle.theorems.specs.Step.{Stepped, Gluing}
use Rattle.theorems.proofs.Lexing.Gluing.{glue_start}
use Rattle.theorems.proofs.Lexing.Glues.{every, settled_none}
use Rattle.theorems.proofs.Lexing.PreAt.{glue_settled}
use Rattle.syntax_kind.specs.Number.{number}
use Rattle.syntax_kind.specs.declared.kind.SyntaxKind.TheVariants as kind
use Rattle.syntax_kind.proofs.Numbers.{other_kind}
use Rattle.pre.specs.Scan.{first, Step, pre_step, pre_next, stepped}
use Rattle.pre.specs.declared.PreLexer.{PreLexer}
use Rattle.pre.specs.declared.PreStep.{PreStep}
use Rattle.glue.specs.declared.Lexer.{Lexer}
use Rattle.glue.specs.declared.Step as glue
use Rattle.glue.specs.Next.{settled, Operator, Nexts}
use Rattle.glue.proofs.Periods.{pre_from}

-- The pre-lexer answers a token within the source, or the end.
record Answered (l : PreLexer) (s : List ℕ) (r : Step) : Type 0 where
  inside : l.at < length s
  is : r ≡ pre_step l s

some_is : (x y : Step) → Some x ≡ Some y → x ≡ y
some_is x y e = cc

module _ (l : PreLexer) (s : List ℕ) (o : Option PreStep) (e : stepped o ≡ pre_next l s) where
  answered : (r : PreStep) → o ≡ Some r → Answered l s (record { kind = number r.kind; next = r.next })
  unfolding pre_next
  answered r z = go (ltb l.at (length s)) refl
    where
      go : (t : Bool) → ltb l.at (length s) ≡ t → Answered l s (record { kind = number r.kind; next = r.next })
      go true h = record { inside = ltb-true _ _ h; is = some_is _ _ (ap stepped (sym z) ∙ e ∙ rw h) }
      go false h = absurd (none-some _ (sym (ap stepped (sym z) ∙ e ∙ rw h)))

  ended : o ≡ None → length s ≤ l.at
  unfolding pre_next
  ended z = go (ltb l.at (length s)) refl
    where
      go : (t : Bool) → ltb l.at (length s) ≡ t → length s ≤ l.at
      go true h = absurd (none-some (pre_step l s) (ap stepped (sym z) ∙ e ∙ rw h))
      go false h = ltb-false _ _ h

-- Nothing glues to the kinds before PERIOD, nor to those between HASH and LEFT_OP.
settled_by : (k : ℕ) → settled k ≡ true → (x : ℕ) → glued glues k x ≡ none
unfolding settled every
settled_by k e x = go (ltb k Kind.PERIOD) (ltb Kind.HASH k) (ltb k Kind.LEFT_OP) refl refl refl e
  where
    go : (t u v : Bool) → ltb k Kind.PERIOD ≡ t → ltb Kind.HASH k ≡ u → ltb k Kind.LEFT_OP ≡ v → (t || (u && v)) ≡ true → glued glues k x ≡ none
    go true u v a b c e = let y : k < Kind.PERIOD = ltb-true _ _ a in settled_none 0 Kind.DIGITS k x refl (omega arith) (omega arith)
    go false true true a b c e =
        let y : Kind.HASH < k = ltb-true _ _ b in let z : k < Kind.LEFT_OP = ltb-true _ _ c in
        settled_none Kind.QUOTE_STRING Kind.ERROR k x refl (omega arith) (omega arith)
    go false true false a b c e = absurd (false≢true e)
    go false false v a b c e = absurd (false≢true e)

module _ (s : List ℕ) (l : Lexer) (o : Option PreStep) (e : stepped o ≡ pre_next l.input s) where
  -- At the end of the source the pre-lexer has none, and so the lexer.
  pub step_end : o ≡ None → Nexts s l None
  unfolding Nexts
  step_end z = ended l.input s o e z

  module _ (r : PreStep) (z : o ≡ Some r) where
    -- Else its pre-token begins a token,
    began_by : (t : Step) → Answered l.input s t → Gluing s l.input.at l.input.angle t.kind t.next.at t.next.angle
    unfolding pre_step
    began_by t a = glue_start _ _ _ _ _ _ (rw a.is (pre_from s l.input.at l.input.angle (first l.input s) a.inside refl))

    began : Gluing s l.input.at l.input.angle (number r.kind) r.next.at r.next.angle
    began = began_by (record { kind = number r.kind; next = r.next }) (answered l.input s o e r z)

    -- which is whole, or a PERIOD, or an operator that may go on.
    pub step_settled : (t : Bool) → t ≡ settled (number r.kind) → t ≡ true → Stepped s l.input.at l.input.angle (number r.kind) r.next.at r.next.angle
    step_settled t e z = glue_settled _ _ _ _ _ _ began (settled_by (number r.kind) (sym e ∙ z))

    pub step_period : r.kind ≡ kind.PERIOD → Gluing s l.input.at l.input.angle Kind.PERIOD r.next.at r.next.angle
    step_period z = rw (ap number z) at began

    pub step_operator : (r.kind ≡ kind.PERIOD → ⊥) → Operator s l.input.at l.input.angle (number r.kind) r.next.at r.next.angle
    step_operator n = record { gluing = began; other = other_kind r.kind kind.PERIOD n }

pub step_stepped : (s : List ℕ) (l : Lexer) (r : glue.Step)
    → Stepped s l.input.at l.input.angle (number r.kind) r.next.input.at r.next.input.angle → Nexts s l (Some r)
unfolding Nexts
step_stepped s l r p = p
