-- The output is cleared, and stays so where the call is refused.
use Rattle.std.specs.Prelude.{Result, Ok, Err, IfOk, IfErr}
use Rattle.std.proofs.Common.{rules}
use Prim.Native.Nat.{ℕ, ◌≤◌}
use mathlib.Core.Path.{◌≡◌, refl, ap, ◌∙◌}
use mathlib.Core.Logic.{◌⊎◌, inl, inr}
use mathlib.Core.List.{List}
use lib.ListN.{length, length-replicate}
use Rattle.definition.specs.Unescaped.{unescaped}
use Rattle.definition.specs.Calls.{fills, unescaping}
use Rattle.text.specs.Refusal.{code}
use Rattle.text.specs.Answers.{Answers}
use Rattle.text.specs.declared.Counted.{Counted}
use Rattle.text.specs.declared.refusal.Refusal.{Refusal}
use Rattle.table.specs.Fills.{Fills, Written}
use Rattle.table.proofs.Tables.{zeros}
use Rattle.table.proofs.Outcomes.{refused_fills, whole_fills}
use Rattle.unescaped.proofs.unescape.Goals as goal

-- The answer of a result from an output t₀ of zeros, which is left as it came or cleared where the call is refused.
module _ (k : ℕ) (numbers : List ℕ) (room : ℕ) (r : Counted) (t₀ t : List ℕ) (z : t₀ ≡ zeros room) where
  still : (t ≡ t₀) ⊎ (t ≡ zeros (length t₀)) → t ≡ zeros room
  still (inl e) = e ∙ z
  still (inr e) = e ∙ ap (λ s. zeros (length s)) z ∙ ap zeros (length-replicate room 0)

  either_fills : (o : Result ℕ Refusal) → code o ≡ k → Answers o r → IfOk o (λ n. Written numbers t₀ n t) → IfOk o (λ n. n ≤ length t)
      → IfErr o (λ x. (t ≡ t₀) ⊎ (t ≡ zeros (length t₀))) → Fills (fills k (length numbers) numbers room) r t
  either_fills (Ok n) e a w f l = whole_fills k numbers room r t (Ok n) t₀ refl e a w f z
  either_fills (Err x) e a w f l = refused_fills k (length numbers) numbers room r t (Err x) refl e a (still l)

pub returns : goal.returns
unfolding unescaping
returns c =
    let text = c.args.text.now in
    let outcome = c.unescaped_into in
    let k = outcome.ensures.code ∙ ap (λ m. (unescaping text m).refused) c.fill.auto.self in
    either_fills _ (unescaped text) (length c.args.output.now) _ c.fill.new.self _ (search rules) outcome.result k c.from.ensures outcome.ensures.written
    outcome.ensures.fits outcome.ensures.refused
