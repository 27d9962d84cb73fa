-- ASCII is passed over.
use Prim.Native.Nat.{ℕ, ◌+◌, ◌<◌}
use native.Mathlib.Omega.{arith}
use mathlib.Core.Path.{◌≡◌, refl, ◌∙◌}
use mathlib.Core.List.{List, []}
use borrow.Author.Tests.{ltb-true}
use lib.ListN.{length, drop, get_or}
use Rattle.definition.specs.Text.{some}
use Rattle.definition.specs.Utf8.{char_forms, left}
use Rattle.text.specs.Utf8.{wants, wanted_after, above_ascii, Passes}
use Rattle.text.specs.declared.utf8.State.{State}
use Rattle.text.proofs.Stretches.{stretch_same}
use Rattle.text.proofs.Utf8s.{first_in, follow_range, left_more}

-- ASCII is one byte a character.
one_low : (src : List ℕ) (i : ℕ) → i < length src → get_or src i 0 < above_ascii → left [] (drop i src) ≡ left [] (drop (i + 1) src)
unfolding wanted_after follow_range char_forms
one_low src i h l = left_more src [] i h ∙ rw (← first_in 0 0x7F {r = some []} {b = get_or src i 0} refl (omega arith) (omega arith)) refl

-- So what is left behind ASCII is what was left before it.
module _ (q : State) (src : List ℕ) (i : ℕ) where
  pub pass_over : (to : ℕ) → Passes q src i to → left (wants q) (drop i src) ≡ left (wants q) (drop to src)
  pass_over = stretch_same src i (λ j. left (wants q) (drop j src)) (λ j h p. rw p.0 (one_low src j h (ltb-true _ above_ascii p.1)))
