-- What kind of literal a text is, by its first two bytes.
use Prim.Native.Nat.{ℕ, ◌+◌, ◌≤◌, ◌<◌}
use mathlib.Core.Path.{◌≡◌, refl, ap, ◌∙◌}
use mathlib.Core.Bool.{true, ◌||◌}
use mathlib.Core.Logic.{◌⊎◌, inl, inr}
use lib.Dec.{eqb}
use mathlib.Core.List.{List, [], ◌∷◌}
use lib.ListN.{length, drop, get_or}
use lib.IntN.{pos}
use borrow.Author.Tests.{ne_eqb}
use Rattle.definition.specs.Text.{byte}
use Rattle.definition.specs.Unescaped.{unescaped}
use Rattle.definition.specs.Condition.Value.{Outcome, value, within}
use Rattle.definition.specs.Condition.Literal.{digit_value, digits, number_of, literal}
use Rattle.definition.specs.Condition.Valuing.{no_expression}
use Rattle.unescaped.specs.Skips.{Skips}
use Rattle.unescaped.proofs.Continuations.{nothing_past}
use Rattle.literal.specs.Comes.{comes, number_comes, literal_comes}

-- What marks a hexadecimal literal.
marks : (b : ℕ) → (b ≡ byte "X") ⊎ (b ≡ byte "x") → eqb b (byte "x") || eqb b (byte "X") ≡ true
marks b (inl e) = rw e refl
marks b (inr e) = rw e refl

-- A literal that does not begin with 0 is decimal, whatever its length.
not_zero : (b : ℕ) (bs : List ℕ) → (b ≡ byte "0" → ⊥) → number_of 10 (b ∷ bs) ≡ literal (b ∷ bs)
unfolding literal
not_zero b [] z = refl
not_zero b (c ∷ bs) z = rw (ne_eqb b (byte "0") z)

-- The first byte that is kept stands at a,
module _ (text : List ℕ) (a : ℕ) (k : Skips text 0 a) (o : Outcome) where
  pub empty : o ≡ no_expression → length text ≤ a → o ≡ literal_comes (unescaped text)
  unfolding literal comes
  empty e h = rw (e, k.rest, nothing_past text a h)

  module _ (h : a < length text) where
    pub decimal : (get_or text a 0 ≡ byte "0" → ⊥) → o ≡ number_comes 10 (unescaped (drop a text)) → o ≡ literal_comes (unescaped text)
    decimal z e = e ∙ ap comes (rw (k.rest, k.stands h) (not_zero _ _ z))

    -- it is 0, and the second stands at b.
    module _ (z : get_or text a 0 ≡ byte "0") (b : ℕ) (l : Skips text (a + 1) b) where
      pub zero_alone : o ≡ value (pos 0) → length text ≤ b → o ≡ literal_comes (unescaped text)
      unfolding literal comes number_of digits digit_value within
      zero_alone e m = rw (e, k.rest, k.stands h, z, l.rest, nothing_past text b m)

      module _ (m : b < length text) (c : ℕ) (q : c ≡ get_or text b 0) where
        pub hexadecimal : (c ≡ byte "X") ⊎ (c ≡ byte "x") → o ≡ number_comes 16 (unescaped (drop (b + 1) text)) → o ≡ literal_comes (unescaped text)
        unfolding literal
        hexadecimal t e = rw (e, k.rest, k.stands h, z, l.rest, l.stands m, ← q, marks c t)

        pub octal : ((c ≡ byte "X") ⊎ (c ≡ byte "x") → ⊥) → o ≡ number_comes 8 (unescaped (drop b text)) → o ≡ literal_comes (unescaped text)
        unfolding literal
        octal n e = rw (e, k.rest, k.stands h, z, l.rest, l.stands m, ← q, ne_eqb c (byte "x") (λ x. n (inr x)), ne_eqb c (byte "X") (λ x. n (inl x)))
