-- What a line says, from its first byte on.
use borrow.Author.Tests.{ne_eqb}
use native.Mathlib.Omega.{arith}
use Rattle.std.proofs.Common.{ℕ, ◌≡◌, ◌≢◌, refl, ◌+◌, ◌*◌, ◌<◌, ◌≤◌, List, [], ◌∷◌, length, take, drop, get_or}
use Rattle.values.specs.Lines.{digit, bytes}

-- No byte, where there is none.
pub none_said : (line : List ℕ) → length line ≡ 0 → bytes line ≡ []
unfolding bytes
none_said [] h = refl
none_said (a ∷ s) h = absurd (omega (arith, h))

plain : (a : ℕ) (s : List ℕ) → a ≢ 92 → bytes (a ∷ s) ≡ a ∷ bytes s
unfolding bytes
plain a [] h = rw (ne_eqb a 92 h) refl
plain a (b ∷ []) h = rw (ne_eqb a 92 h) refl
plain a (b ∷ c ∷ s) h = rw (ne_eqb a 92 h) refl

cut : (s : List ℕ) → length s < 2 → bytes (92 ∷ s) ≡ []
unfolding bytes
cut [] h = refl
cut (b ∷ []) h = refl
cut (b ∷ c ∷ s) h = absurd (omega arith)

escaped : (s : List ℕ) → 2 ≤ length s → bytes (92 ∷ s) ≡ (16 * digit (get_or (take 2 s) 0 0) + digit (get_or (take 2 s) 1 0)) ∷ bytes (drop 2 s)
unfolding bytes
escaped [] h = absurd (omega arith)
escaped (b ∷ []) h = absurd (omega arith)
escaped (b ∷ c ∷ s) h = refl

module _ (line : List ℕ) (a : ℕ) (s : List ℕ) (e : line ≡ a ∷ s) where
  -- A byte that is no backslash stands for itself.
  pub plain_said : a ≢ 92 → bytes line ≡ a ∷ bytes s
  plain_said h = rw e (plain a s h)

  -- A backslash stands for no byte, where fewer than two digits are behind it,
  pub cut_said : a ≡ 92 → length s < 2 → bytes line ≡ []
  cut_said f h = rw (e, f) (cut s h)

  -- and else for that of the two.
  pub escaped_said : (digits behind : List ℕ) → a ≡ 92 → 2 ≤ length s → digits ≡ take 2 s → behind ≡ drop 2 s
      → bytes line ≡ (16 * digit (get_or digits 0 0) + digit (get_or digits 1 0)) ∷ bytes behind
  escaped_said digits behind f h d q = rw (e, f, d, q) (escaped s h)
