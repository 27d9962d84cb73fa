-- The answer of the call: what was read, if nothing follows it.
use Rattle.std.specs.Prelude.{Result, Ok, Err, Some, None, ⊤}
use Rattle.std.specs.Prelude as options
use Prim.Native.Nat.{ℕ}
use mathlib.Core.Path.{◌≡◌, refl, sym, ap, ◌∙◌}
use mathlib.Core.Bool.{true, false}
use mathlib.Core.List.{List}
use mathlib.Core.Option.{Option, none, some}
use borrow.Author.Tests.{ne_eqb, eqb-true, eqb-false}
use lib.Dec.{eqb}
use native.Mathlib.Omega.{arith}
use lib.IntN.{ℤ, pos}
use Rattle.definition.specs.Tree.{Leaf}
use Rattle.definition.specs.Calls.{refusal, source_checks}
use Rattle.definition.specs.Condition.Value.{ValueRefusal, Outcome, value, refused}
use Rattle.definition.specs.Condition.Expression.{Expr, solid, most_open}
use Rattle.definition.specs.Condition.Meaning.{names, first}
use Rattle.definition.specs.Condition.Reader.{whole, made, tree}
use Rattle.definition.specs.Condition.Valuing.{source_leaves, no_expression, of_tree, valuing, answer}
use Rattle.theorems.specs.LeavesFrom.{leaves_from}
use Rattle.theorems.specs.Climbing.{fold, expression_of}
use Rattle.theorems.proofs.Condition.Working.{mapped, made_tree, meaning_fold}
use Rattle.theorems.proofs.Condition.Equations.{made_is}
use Rattle.theorems.proofs.Condition.Whole.{answers, one_answer}
use Rattle.theorems.proofs.Condition.Range.{eleven}
use Rattle.arithmetic.specs.declared.Value.{Value}
use Rattle.arithmetic.specs.Told.{told}
use Rattle.arithmetic.specs.Answers.{Answers}
use Rattle.text.specs.Refusal.{number}
use Rattle.text.specs.declared.refusal.Refusal.{Refusal}
use Rattle.text.specs.declared.refusal.Refusal.TheVariants as kinds
use Rattle.text.specs.declared.refusal.Refusal.TheVariants.{Length, Utf8, Concats, Entries, Errors, Lines, Lookup, Output, Cut, Expression, Name, Range}
use Rattle.parser.specs.declared.Seen.{Seen}
use Rattle.condition.specs.declared.Step.{Step}
use Rattle.condition.specs.Steps.{left, Follows, worth, told_step, Gets}
use Rattle.condition.specs.Promise.{outcome_of, answer_of, Values}
use Rattle.condition.proofs.Standing.{left_none, left_leaf}

-- Every refusal has a number other than 0.
some_number : (r : Refusal) → number r ≡ 0 → ⊥
some_number Length e = omega arith
some_number Utf8 e = omega arith
some_number Concats e = omega arith
some_number Entries e = omega arith
some_number Errors e = omega arith
some_number Lines e = omega arith
some_number Lookup e = omega arith
some_number Output e = omega arith
some_number kinds.Kind e = omega arith
some_number Cut e = omega arith
some_number Expression e = omega arith
some_number Name e = omega arith
some_number Range e = omega arith

-- An answer that has both numbers of an outcome, and tells it.
record Has (r : Value) (o : Outcome) : Type 0 where
  numbers : answer_of r ≡ answer o
  outcome : outcome_of r ≡ o

has : (o : Result ℤ Refusal) (r : Value) → Answers o r → Has r (told o)
unfolding answer outcome_of
has (Ok z) r a = record { numbers = λ i. record { refusal = a.refusal_is i; value = a.value_is i }; outcome = rw (a.refusal_is, a.value_is) refl }
has (Err e) r a = record {
  numbers = λ i. record { refusal = a.refusal_is i; value = a.value_is i };
  outcome = rw (a.refusal_is, ne_eqb (number e) 0 (some_number e)) refl;
}

-- What the call must answer, by what was read.
abbrev of_made : Option Outcome → Outcome
of_made none = no_expression
of_made (some o) = o

module _ (src list text : List ℕ) where
  valued_tree : (L : List Leaf) → of_made (made (worth list text) L) ≡ of_tree list text (tree L)
  unfolding of_tree mapped
  valued_tree L = ap of_made (made_tree (worth list text) L) ∙ go (tree L)
    where
      go : (o : Option Expr) → of_made (mapped (fold (worth list text)) o) ≡ of_tree list text o
      go none = refl
      go (some e) = meaning_fold (λ w. first text w (names list)) e

  -- The outcome where the source is accepted, and where it is refused.
  valuing_accepted : refusal (source_checks src) ≡ 0 → valuing src list text ≡ of_made (whole (expression_of (worth list text) most_open 0 (solid (source_leaves src))))
  unfolding valuing
  valuing_accepted z = rw (valuing, z) (sym (valued_tree (source_leaves src)) ∙ ap of_made (made_is (worth list text) (source_leaves src)))

  valuing_refused : (n : ℕ) → n ≡ refusal (source_checks src) → (n ≡ 0 → ⊥) → refused n ≡ valuing src list text
  unfolding valuing
  valuing_refused n e z = rw (← e, ne_eqb n 0 z, valuing) (ap (λ n. refused n) e)

  -- All that is promised follows from the outcome.
  module _ (r : Value) (h : Has r (valuing src list text)) where
    refused_zero : (o : Outcome) → answer_of r ≡ answer o → (r.refusal ≡ 0 → ⊥) → r.value ≡ pos 0
    unfolding answer
    refused_zero (value z) q n = absurd (n (ap (λ v. v.refusal) q))
    refused_zero (refused m) q n = ap (λ v. v.value) q

    eleven_as : (o : Outcome) → answer_of r ≡ answer o → r.refusal ≡ ValueRefusal.EXPRESSION → o ≡ no_expression
    unfolding answer
    eleven_as (value z) q e = let k : r.refusal ≡ 0 = ap (λ v. v.refusal) q in absurd (omega arith)
    eleven_as (refused m) q e = ap (λ n. refused n) (sym (ap (λ v. v.refusal) q) ∙ e)

    refusal_as : {n : ℕ} → valuing src list text ≡ refused n → r.refusal ≡ n
    unfolding answer
    refusal_as e = ap (λ v. v.refusal) (h.numbers ∙ ap answer e)

    promised : Values src list text r
    promised = record {
      outcome = h.numbers;
      grammar = rw h.outcome (answers src list text);
      one_answer = λ o a. one_answer src list text a ∙ sym h.outcome;
      refused_0 = refused_zero (valuing src list text) h.numbers;
      source_first = λ z. refusal_as (sym (valuing_refused (refusal (source_checks src)) refl z));
      eleven = λ z. (
        λ e. (eleven src list text z).0 (eleven_as (valuing src list text) h.numbers e),
        λ n. refusal_as ((eleven src list text z).1 n),
      );
    }

  -- So the answer that is made from it is promised.
  pub values_of : (o : Result ℤ Refusal) (r : Value) → told o ≡ valuing src list text → Answers o r → Values src list text r
  values_of o r e a = promised r (rw (sym e) (has o r a))

  -- A refused source,
  pub outcome_refused : {o : Result ℤ Refusal} {r y : Refusal} → number r ≡ refusal (source_checks src) → o ≡ Err y → y ≡ r → told o ≡ valuing src list text
  outcome_refused {o} {r} e p q = ap told p ∙ ap (λ y. refused (number y)) q ∙ valuing_refused (number r) e (some_number r)

  -- and one that was read.
  module _ (passed : 0 ≡ refusal (source_checks src)) (x : Seen) (f : Follows src 0 false x) where
    outcome_made : {r : options.Option Step} → Gets src (expression_of (worth list text) most_open 0 (left src x)) r → of_made (whole (told_step src r)) ≡ valuing src list text
    unfolding leaves_from
    outcome_made g =
        sym (valuing_accepted (sym passed) ∙ ap (λ L. of_made (whole (expression_of (worth list text) most_open 0 L))) (sym f.rest) ∙ ap (λ y. of_made (whole y)) (sym g.is))

    pub outcome_nothing : Gets src (expression_of (worth list text) most_open 0 (left src x)) None → no_expression ≡ valuing src list text
    unfolding whole
    outcome_nothing g = outcome_made g

    module _ (a : Step) (g : Gets src (expression_of (worth list text) most_open 0 (left src x)) (Some a)) where
      pub outcome_followed : eqb a.next.kind 0 ≡ false → no_expression ≡ valuing src list text
      unfolding whole
      outcome_followed k =
          let e : no_expression ≡ of_made (whole (told_step src (Some a))) = rw (left_leaf src a.next g.stands (eqb-false _ _ k)) refl in e ∙ outcome_made g

      pub outcome_valued : eqb a.next.kind 0 ≡ true → told a.value ≡ valuing src list text
      unfolding whole
      outcome_valued k =
          let e : told a.value ≡ of_made (whole (told_step src (Some a))) = rw (left_none src a.next g.stands (eqb-true _ _ k)) refl in e ∙ outcome_made g
