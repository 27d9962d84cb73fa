-- `first` goes on as the forms say: its arms are ranges of first bytes that the forms treat alike.
use native.Mathlib.Omega.{arith}
use mathlib.Core.Path.{refl}
use Rattle.definition.specs.Utf8.{char_forms}
use Rattle.text.proofs.Utf8s.{follow_range, first_in}
use Rattle.text.proofs.utf8.first.Goals as goal

pub returns-in-224 : goal.returns-in-224
unfolding follow_range char_forms
returns-in-224 c = first_in 0xE0 0xE0 refl (omega arith) (omega arith)

pub returns-in-237 : goal.returns-in-237
unfolding follow_range char_forms
returns-in-237 c = first_in 0xED 0xED refl (omega arith) (omega arith)

pub returns-in-240 : goal.returns-in-240
unfolding follow_range char_forms
returns-in-240 c = first_in 0xF0 0xF0 refl (omega arith) (omega arith)

pub returns-in-244 : goal.returns-in-244
unfolding follow_range char_forms
returns-in-244 c = first_in 0xF4 0xF4 refl (omega arith) (omega arith)

pub returns-in-0-to-127 : goal.returns-in-0-to-127
unfolding follow_range char_forms
returns-in-0-to-127 c = first_in 0x00 0x7F refl (omega arith) (omega arith)

pub returns-in-194-to-223 : goal.returns-in-194-to-223
unfolding follow_range char_forms
returns-in-194-to-223 c = first_in 0xC2 0xDF refl (omega arith) (omega arith)

pub returns-in-225-to-236 : goal.returns-in-225-to-236
unfolding follow_range char_forms
returns-in-225-to-236 c = first_in 0xE1 0xEC refl (omega arith) (omega arith)

pub returns-in-238-to-239 : goal.returns-in-238-to-239
unfolding follow_range char_forms
returns-in-238-to-239 c = first_in 0xEE 0xEF refl (omega arith) (omega arith)

pub returns-in-241-to-243 : goal.returns-in-241-to-243
unfolding follow_range char_forms
returns-in-241-to-243 c = first_in 0xF1 0xF3 refl (omega arith) (omega arith)

pub returns-in_default : goal.returns-in_default
unfolding follow_range char_forms
returns-in_default c = first_in 0x80 0xC1 refl (omega arith) (omega arith)

pub returns-in_default-2 : goal.returns-in_default-2
unfolding follow_range char_forms
returns-in_default-2 c = first_in 0xF5 0xFF refl (omega arith) (omega arith)
