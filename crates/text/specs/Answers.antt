-- What a call answers that counts, or is refused.
use Rattle.std.specs.Prelude.{ℕ, ◌≡◌, Result, Ok, Err}
use Rattle.text.specs.Refusal.{code}
use Rattle.text.specs.declared.Counted.{Counted}
use Rattle.text.specs.declared.refusal.Refusal.{Refusal}

-- What a result counts: 0 where it is refused.
abbrev pub counted_by : Result ℕ Refusal → ℕ
counted_by (Ok n) = n
counted_by (Err r) = 0

pub record Answers (o : Result ℕ Refusal) (r : Counted) : Type 0 where
  pub refusal_is : r.refusal ≡ code o
  pub count_is : r.count ≡ counted_by o
