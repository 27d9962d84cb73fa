-- What holds of the value of an #if (Req 03).
use Rattle.std.specs.Prelude.{◌/◌, ◌^◌, ◌<◌, not, ◌↔◌, ℤ, pos, negsuc, nat_abs, ◌+ℤ◌, ◌*ℤ◌, ◌≤ℤ◌, ◌<ℤ◌, ◌≡◌, ◌∷◌}
use Rattle.std.specs.Int.Signed.{mag, non_neg, quot_z, rem_z, shr_z}
use Rattle.definition.specs.Text.{ℕ, true, List, [], none, some, one_of}
use Rattle.definition.specs.Tree.{Leaf}
use Rattle.definition.specs.Calls.{refusal, source_checks}
use Rattle.definition.specs.Condition.Value.{Outcome, value, refused, divided}
use Rattle.definition.specs.Condition.Expression.{Expr, Reads}
use Rattle.definition.specs.Condition.Reader.{tree}
use Rattle.definition.specs.Condition.Valuing.{source_leaves, no_expression, Answers, valuing}

-- Something holds of each of a list.
pub data All {A : Type 0} (P : A → Type 0) : List A → Type 0 where
  end : All P []
  ◌⋮◌ : {a : A} {as' : List A} → P a → All P as' → All P (a ∷ as')

infixr 30 ◌⋮◌
abbrev pub Numbers : List ℕ → Type 0  -- A list of 32-bit numbers.
Numbers = All (λ n. n < 2 ^ 32)

-- What holds of it by the grammar alone.
pub record Promise : Type 0 where
  -- A row of leaves has one expression at most.
  pub one_tree : (L : List Leaf) (e f : Expr) → Reads L e → Reads L f → e ≡ f
  -- The reader finds it exactly if there is one.
  pub found : (L : List Leaf) (e : Expr) → (tree L ≡ some e) ↔ Reads L e
  pub not_found : (L : List Leaf) → (tree L ≡ none) ↔ ((e : Expr) → Reads L e → ⊥)
  -- The call answers as the grammar says, and the grammar says one value or one refusal.
  pub answered : (src numbers text : List ℕ) → Answers src numbers text (valuing src numbers text)
  pub one_answer : (src numbers text : List ℕ) (o : Outcome) → Answers src numbers text o → o ≡ valuing src numbers text
  -- An accepted text is refused with 11 exactly if it has no expression, and else at most with 12 or 13; any text with one of six numbers.
  pub eleven : (src numbers text : List ℕ) → refusal (source_checks src) ≡ 0
      → (valuing src numbers text ≡ no_expression) ↔ ((e : Expr) → Reads (source_leaves src) e → ⊥)
  pub accepted : (src numbers text : List ℕ) (n : ℕ) → refusal (source_checks src) ≡ 0 → valuing src numbers text ≡ refused n → one_of (11 ∷ 12 ∷ 13 ∷ []) n ≡ true
  pub refusals : (src numbers text : List ℕ) (n : ℕ) → valuing src numbers text ≡ refused n → one_of (1 ∷ 2 ∷ 10 ∷ 11 ∷ 12 ∷ 13 ∷ []) n ≡ true
  -- Values are signed, 32 bits, if the numbers of the list have 32 bits.
  pub signed_32 : (src numbers text : List ℕ) (z : ℤ) → Numbers numbers → valuing src numbers text ≡ value z → mag z < 2 ^ 31

-- What the request says of division and of shifts.
pub record Arithmetic : Type 0 where
  -- Division truncates toward zero: absolute values are divided; the quotient of equal signs is not negative, that of unequal signs not positive.
  pub quotient_size : (x y : ℤ) → nat_abs (quot_z x y) ≡ nat_abs x / nat_abs y
  pub equal_signs : (x y : ℤ) → non_neg x ≡ non_neg y → pos 0 ≤ℤ quot_z x y
  pub unequal_signs : (x y : ℤ) → non_neg x ≡ not (non_neg y) → quot_z x y ≤ℤ pos 0
  -- A remainder is what that quotient leaves.
  pub remainder : (x y : ℤ) → x ≡ quot_z x y *ℤ y +ℤ rem_z x y
  -- By -1 it is always 0, and so never outside 32 bits.
  pub by_minus_1 : (x : ℤ) → rem_z x (negsuc 0) ≡ pos 0
  pub value_by_minus_1 : (x : ℤ) → divided rem_z x (negsuc 0) ≡ value (pos 0)
  -- Right shift rounds down.
  pub shift_low : (x : ℤ) (m : ℕ) → 0 < m → (shr_z x m *ℤ pos m) ≤ℤ x
  pub shift_high : (x : ℤ) (m : ℕ) → 0 < m → x <ℤ ((shr_z x m +ℤ pos 1) *ℤ pos m)
