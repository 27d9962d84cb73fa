-- Values are signed, 32 bits, and an expression of the grammar is refused with 12 or 13 only; so 11 says that there is none.
use Rattle.std.specs.Prelude.{if◌then◌else◌}
use Prim.Native.Nat.{ℕ, ◌^◌, ◌<◌}
use mathlib.Core.Path.{◌≡◌, refl, sym, ◌∙◌}
use mathlib.Core.Bool.{Bool, true, false, not, or-true, false≢true}
use mathlib.Core.List.{List, [], ◌∷◌}
use mathlib.Core.Logic.{◌↔◌}
use mathlib.Core.Option.{Option, none, some}
use native.Mathlib.Omega.{arith}
use lib.Dec.{eqb, ltb}
use lib.IntN.{ℤ, pos, negsuc, neg_ℤ}
use lib.Signed.{mag, lt_z, le_z, quot_z, rem_z}
use lib.Bits.{and_lt, or_lt, xor_lt}
use borrow.Author.Tests.{ltb-true, ltb-false}
use Rattle.definition.specs.Text.{one_of}
use Rattle.definition.specs.Tree.{Leaf}
use Rattle.definition.specs.Calls.{refusal, source_checks, too_long, not_utf8, cut_off}
use Rattle.definition.specs.Condition.Value.{Outcome, value, refused, is_zero, equal, within, truth, bits, signed, bitwise, flipped, divided, shifted}
use Rattle.definition.specs.Condition.Operators.{Binary, Unary, binaries, unaries, lookup, binary, unary}
use Rattle.definition.specs.Condition.Expression.{Expr, Reads, Operand, a_number, a_name, a_defined, a_defined_in, a_sign, a_bracket, Ranked, alone, joined}
use Rattle.definition.specs.Condition.Meaning.{Name, names, spells, first, valued, listed, after, joins, meaning}
use Rattle.definition.specs.Condition.Valuing.{source_leaves, no_expression, under, Answers, no_source, no_tree, the_tree, valuing}
use Rattle.theorems.specs.Condition.{All, end, ◌⋮◌, Numbers}
use Rattle.theorems.proofs.Condition.Whole.{one_answer}

-- A value, of 32 bits if Q holds, or one of these refusals.
pub data Comes (Q : Type 0) (ns : List ℕ) : Outcome → Type 0 where
  to_value : {z : ℤ} → (Q → mag z < 2 ^ 31) → Comes Q ns (value z)
  to_refusal : {n : ℕ} → one_of ns n ≡ true → Comes Q ns (refused n)

either : {A : Type 0} (P : A → Type 0) (b : Bool) (x y : A) → P x → P y → P (if b then x else y)
either P true x y h k = h
either P false x y h k = k

bits_32 : (z : ℤ) → mag z < 2 ^ 31 → bits z < 2 ^ 32
unfolding bits
bits_32 (pos n) h = omega arith
bits_32 (negsuc n) h = omega arith

signed_32 : (n : ℕ) → n < 2 ^ 32 → mag (signed n) < 2 ^ 31
unfolding signed
signed_32 n h = go (ltb n (2 ^ 31)) refl
  where
    go : (b : Bool) → ltb n (2 ^ 31) ≡ b → mag (signed n) < 2 ^ 31
    go true e = rw (e, signed) (ltb-true _ _ e)
    go false e = let k = ltb-false n (2 ^ 31) e in rw (e, signed) (omega arith)

flipped_32 : (x : ℤ) → mag x < 2 ^ 31 → mag (flipped x) < 2 ^ 31
flipped_32 (pos n) h = h
flipped_32 (negsuc n) h = h

-- What the left side alone decides is a value of 32 bits.
data Decides : Option ℤ → Type 0 where
  undecided : Decides none
  decided_as : {z : ℤ} → mag z < 2 ^ 31 → Decides (some z)

-- What holds of all of a list holds of the first that passes a test.
module _ {A : Type 0} (test : A → Bool) (pick : List A → Option A) (at_end : pick [] ≡ none) (at_more : (a : A) (l : List A) → pick (a ∷ l) ≡ (if test a then some a else pick l)) where
  picked : {P : A → Type 0} {l : List A} → All P l → {o : A} → pick l ≡ some o → P o
  picked end e = let q : ◌≡◌ {A = ℕ} 0 1 = cc in absurd (omega arith)
  picked {P = P} (◌⋮◌ {a = a} {as' = l} h hs) {o} e = go (test a) (sym (at_more a l) ∙ e) (λ q. picked hs q)
    where
      go : (b : Bool) → (if b then some a else pick l) ≡ some o → (pick l ≡ some o → P o) → P o
      go true e ih = let q : a ≡ o = cc in rw (← q) h
      go false e ih = ih e

found : {A : Type 0} {P : A → Type 0} {os : List A} → All P os → (kind : A → ℕ) (k : ℕ) {o : A} → lookup kind os k ≡ some o → P o
unfolding lookup
found h kind k = picked (λ o. eqb (kind o) k) (λ os. lookup kind os k) refl (λ o os. refl) h

-- Where Q says that the names' values have 32 bits.
module _ (Q : Type 0) where
  abbrev In : ℤ → Type 0
  In z = Q → mag z < 2 ^ 31

  abbrev Fits : Outcome → Type 0
  Fits = Comes Q (12 ∷ 13 ∷ [])

  fits_within : (z : ℤ) → Fits (within z)
  unfolding within
  fits_within z = go (ltb (mag z) (2 ^ 31)) refl
    where
      go : (b : Bool) → ltb (mag z) (2 ^ 31) ≡ b → Fits (within z)
      go true e = rw (e, within) (to_value (λ q. ltb-true _ _ e))
      go false e = rw (e, within) (to_refusal refl)

  fits_truth : (b : Bool) → Fits (truth b)
  fits_truth true = to_value {z = pos 1} (λ q. omega arith)
  fits_truth false = to_value {z = pos 0} (λ q. omega arith)

  fits_bitwise : {f : ℕ → ℕ → ℕ} → ((a b : ℕ) → a < 2 ^ 32 → b < 2 ^ 32 → f a b < 2 ^ 32) → (x y : ℤ) → In x → In y → Fits (bitwise f x y)
  fits_bitwise {f} h x y a b = to_value (λ q. signed_32 (f (bits x) (bits y)) (h (bits x) (bits y) (bits_32 x (a q)) (bits_32 y (b q))))

  fits_divided : (f : ℤ → ℤ → ℤ) (x y : ℤ) → Fits (divided f x y)
  fits_divided f x y = either Fits (is_zero y) _ _ (to_refusal refl) (fits_within (f x y))

  fits_shifted : (f : ℕ → ℤ) (y : ℤ) → Fits (shifted f y)
  unfolding shifted
  fits_shifted f (negsuc n) = to_refusal refl
  fits_shifted f (pos n) = go (ltb n 32) refl
    where
      go : (b : Bool) → ltb n 32 ≡ b → Fits (shifted f (pos n))
      go true e = rw (e, shifted) (fits_within (f (2 ^ n)))
      go false e = rw (e, shifted) (to_refusal refl)

  -- The operators give such outcomes at such values: all of the two tables.
  record Good (o : Binary) : Type 0 where
    does_fits : (x y : ℤ) → In x → In y → Fits (o.does x y)
    decided_fits : (x : ℤ) → Decides (o.decided x)

  record GoodSign (o : Unary) : Type 0 where
    does_fits : (x : ℤ) → In x → Fits (o.does x)

  plain : {k r : ℕ} {f : ℤ → ℤ → Outcome} → ((x y : ℤ) → In x → In y → Fits (f x y)) → Good (record { kind = k; rank = r; decided = λ x. none; does = f })
  plain h = record { does_fits = h; decided_fits = λ x. undecided }

  logical : {k r : ℕ} {d : ℤ → Option ℤ} → ((x : ℤ) → Decides (d x)) → Good (record { kind = k; rank = r; decided = d; does = λ x y. truth (not (is_zero y)) })
  logical h = record { does_fits = λ x y h k. fits_truth (not (is_zero y)); decided_fits = h }

  good_binaries : All Good binaries
  unfolding binaries
  good_binaries =
      plain (λ x y h k. fits_within _) ⋮ plain (λ x y h k. fits_divided quot_z x y) ⋮ plain (λ x y h k. fits_divided rem_z x y) ⋮
      plain (λ x y h k. fits_within _) ⋮ plain (λ x y h k. fits_within _) ⋮
      plain (λ x y h k. fits_shifted _ y) ⋮ plain (λ x y h k. fits_shifted _ y) ⋮
      plain (λ x y h k. fits_truth (lt_z x y)) ⋮ plain (λ x y h k. fits_truth (lt_z y x)) ⋮
      plain (λ x y h k. fits_truth (le_z x y)) ⋮ plain (λ x y h k. fits_truth (le_z y x)) ⋮
      plain (λ x y h k. fits_truth (equal x y)) ⋮ plain (λ x y h k. fits_truth (not (equal x y))) ⋮
      plain (fits_bitwise (and_lt 32)) ⋮ plain (fits_bitwise (xor_lt 32)) ⋮ plain (fits_bitwise (or_lt 32)) ⋮
      logical (λ x. either Decides (is_zero x) _ _ (decided_as {z = pos 0} (omega arith)) undecided) ⋮
      logical (λ x. either Decides (is_zero x) _ _ undecided (decided_as {z = pos 1} (omega arith))) ⋮ end

  good_unaries : All GoodSign unaries
  unfolding unaries
  good_unaries =
      record { does_fits = λ x h. to_value h } ⋮ record { does_fits = λ x h. fits_within (neg_ℤ x) } ⋮
      record { does_fits = λ x h. to_value (λ q. flipped_32 x (h q)) } ⋮ record { does_fits = λ x h. fits_truth (is_zero x) } ⋮ end

  good_binary : {o : Binary} (k : ℕ) → binary k ≡ some o → Good o
  unfolding binary
  good_binary k e = found good_binaries (λ o. o.kind) k e

  good_unary : {o : Unary} (k : ℕ) → unary k ≡ some o → GoodSign o
  unfolding unary
  good_unary k e = found good_unaries (λ o. o.kind) k e

  fits_after : {f : ℤ → Outcome} {x : Outcome} → Fits x → ((z : ℤ) → In z → Fits (f z)) → Fits (after x f)
  unfolding after
  fits_after (to_value {z = z} h) k = k z h
  fits_after (to_refusal e) k = to_refusal e

  fits_joins : {o : Binary} {x y : Outcome} → Good o → Fits x → Fits y → Fits (joins o x y)
  unfolding joins
  fits_joins {o} {x} {y} g p q = fits_after p (λ z h. go z h (g.decided_fits z))
    where
      go : (z : ℤ) → In z → {d : Option ℤ} → Decides d → Fits (elim d [ some u ↦ value u | none ↦ after y (λ v. o.does z v) ])
      go z h (decided_as k) = to_value (λ q. k)
      go z h undecided = fits_after q (λ v k. g.does_fits z v h k)

  fits_defined : (o : Option Name) → Fits (listed o)
  unfolding listed
  fits_defined none = fits_truth false
  fits_defined (some n) = fits_truth true

  module _ (look : List ℕ → Option Name) (known : Q → (w : List ℕ) (n : Name) → look w ≡ some n → n.bits < 2 ^ 32) where
    fits_name : (w : List ℕ) → Fits (valued (look w))
    unfolding valued
    fits_name w = go (look w) refl
      where
        go : (o : Option Name) → look w ≡ o → Fits (valued o)
        go none e = to_refusal refl
        go (some n) e = either Fits (eqb n.mark 0) _ _ (to_refusal refl) (to_value (λ q. signed_32 n.bits (known q w n e)))

    mutual
      unfolding meaning

      operand_fits : {e : Expr} {L R : List Leaf} → Operand e L R → Fits (meaning look e)
      operand_fits (a_number {n = n} e f) = fits_within (pos n)
      operand_fits (a_name {w = w} e f) = fits_name w
      operand_fits (a_defined {w = w} e f g) = fits_defined (look w)
      operand_fits (a_defined_in {w = w} e f g h k) = fits_defined (look w)
      operand_fits (a_sign {t = t} e p) = fits_after (operand_fits p) (good_unary t.kind e).does_fits
      operand_fits (a_bracket e p f) = meaning_fits p

      pub meaning_fits : {r : ℕ} {e : Expr} {L R : List Leaf} → Ranked r e L R → Fits (meaning look e)
      meaning_fits (alone p) = operand_fits p
      meaning_fits (joined {t = t} h p e q) = fits_joins (good_binary t.kind e) (meaning_fits p) (meaning_fits q)

-- The names of a list of 32-bit numbers have such values.
names_32 : {numbers : List ℕ} → Numbers numbers → All (λ (n : Name). n.bits < 2 ^ 32) (names numbers)
unfolding names
names_32 end = end
names_32 (a ⋮ end) = end
names_32 (a ⋮ b ⋮ end) = end
names_32 (a ⋮ b ⋮ c ⋮ end) = end
names_32 (a ⋮ b ⋮ c ⋮ d ⋮ ns) = d ⋮ names_32 ns

first_32 : {ns : List Name} → All (λ (n : Name). n.bits < 2 ^ 32) ns → (text w : List ℕ) (n : Name) → first text w ns ≡ some n → n.bits < 2 ^ 32
unfolding first
first_32 h text w n e = picked (spells text w) (first text w) refl (λ m ns. refl) h e

-- So an expression comes to a value of 32 bits, if the numbers have 32 bits, or to 12 or 13.
pub under_fits : {L : List Leaf} {e : Expr} (numbers text : List ℕ) → Reads L e → Comes (Numbers numbers) (12 ∷ 13 ∷ []) (under numbers text e)
under_fits numbers text x = meaning_fits (Numbers numbers) (λ w. first text w (names numbers)) (λ h w n e. first_32 (names_32 h) text w n e) x.grammar

pub refused_as : {Q : Type 0} {ns : List ℕ} {n : ℕ} → Comes Q ns (refused n) → one_of ns n ≡ true
refused_as (to_refusal e) = e

pub valued_as : {Q : Type 0} {ns : List ℕ} {z : ℤ} → Comes Q ns (value z) → Q → mag z < 2 ^ 31
valued_as (to_value h) = h

-- A call whose text is accepted answers 11 exactly if the grammar has no expression for it within the levels.
pub eleven : (src numbers text : List ℕ) → refusal (source_checks src) ≡ 0
    → (valuing src numbers text ≡ no_expression) ↔ ((e : Expr) → Reads (source_leaves src) e → ⊥)
eleven src numbers text p =
    (λ q e x. false≢true (refused_as (rw (one_answer src numbers text (the_tree p x) ∙ q) at (under_fits numbers text x))), λ f. sym (one_answer src numbers text (no_tree p f)))

-- It answers with a value or one of 11, 12 and 13, and any call with a value or one of six refusals.
one_more : {Q : Type 0} {n : ℕ} {ns : List ℕ} {o : Outcome} → Comes Q ns o → Comes Q (n ∷ ns) o
one_more (to_value h) = to_value h
one_more {n = m} (to_refusal {n = n} e) = to_refusal {n = n} (rw e (or-true (eqb n m)))

text_refusal : (src : List ℕ) → eqb (refusal (source_checks src)) 0 ≡ false → one_of (1 ∷ 2 ∷ 10 ∷ 11 ∷ 12 ∷ 13 ∷ []) (refusal (source_checks src)) ≡ true
unfolding refusal
text_refusal src e = go (too_long src).fails (not_utf8 src).fails (cut_off src).fails e
  where
    three : Bool → Bool → Bool → ℕ
    three a b c = if a then 1 else if b then 2 else if c then 10 else 0

    go : (a b c : Bool) → eqb (three a b c) 0 ≡ false → one_of (1 ∷ 2 ∷ 10 ∷ 11 ∷ 12 ∷ 13 ∷ []) (three a b c) ≡ true
    go true b c e = refl
    go false true c e = refl
    go false false true e = refl
    go false false false e = sym e

module _ {src numbers text : List ℕ} where
  pub accepted_refusals : {o : Outcome} → refusal (source_checks src) ≡ 0 → Answers src numbers text o → Comes (Numbers numbers) (11 ∷ 12 ∷ 13 ∷ []) o
  accepted_refusals p (no_source q e) = absurd (false≢true (sym (rw (← q, p) at e)))
  accepted_refusals p (no_tree q f) = to_refusal refl
  accepted_refusals p (the_tree q x) = one_more (under_fits numbers text x)

  pub call_told : {o : Outcome} → Answers src numbers text o → Comes (Numbers numbers) (1 ∷ 2 ∷ 10 ∷ 11 ∷ 12 ∷ 13 ∷ []) o
  call_told (no_source {n = n} p e) = to_refusal {n = n} (rw (← p) (text_refusal src (rw p e)))
  call_told (no_tree p f) = to_refusal refl
  call_told (the_tree p x) = one_more (one_more (one_more (one_more (under_fits numbers text x))))
