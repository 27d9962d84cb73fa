-- The last bits of a number that is read digit by digit.
use Rattle.std.proofs.Common.{ℕ, ◌≡◌, ◌∙◌, refl, sym, ◌+◌, ◌*◌, ◌%◌, List, [], ◌∷◌}
use mathlib.Core.Path.{ap}
use Rattle.std.proofs.Math.Nat.{mod-add-mod}
use Rattle.std.proofs.lemmas.Nat.{mul-mod_first}
use Rattle.std.specs.List.{fold}
use Rattle.values.specs.Lines.{digit}

module _ (m : ℕ) where
  -- One digit more, under a modulus,
  abbrev pub kept : ℕ → ℕ → ℕ
  kept n b = (n * 10 + digit b) % m

  kept_same : (n b : ℕ) → kept (n % m) b ≡ (n * 10 + digit b) % m
  kept_same n b = sym (mod-add-mod (n % m * 10) m (digit b)) ∙ ap (λ x. (x + digit b) % m) (mul-mod_first n 10 m) ∙ mod-add-mod (n * 10) m (digit b)

  -- and all of them.
  pub last_bits : (word : List ℕ) (n : ℕ) → fold kept (n % m) word ≡ fold (λ n b. n * 10 + digit b) n word % m
  last_bits [] n = refl
  last_bits (b ∷ word) n = ap (λ x. fold kept x word) (kept_same n b) ∙ last_bits word (n * 10 + digit b)
