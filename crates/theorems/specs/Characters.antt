-- Characters (RFC 3629, section 4) and sources that end inside one (Req 01), said of rows of bytes.
use Rattle.std.specs.Prelude.{ℕ, ◌≡◌, true, ◌⊎◌, List, [], ◌∷◌, ◌++◌}
use Rattle.definition.specs.Utf8.{Span, CharForm, within, char_forms}

-- The bytes lie within the spans, one in each.
unfoldable pub Fits : List Span → List ℕ → Type 0
Fits [] [] = Unit {0}
Fits [] (b ∷ bs) = ⊥
Fits (s ∷ ss) [] = ⊥
Fits (s ∷ ss) (b ∷ bs) = (within s b ≡ true) × Fits ss bs

-- They have one of these forms.
unfoldable pub HasForm : List CharForm → List ℕ → Type 0
HasForm [] bs = ⊥
HasForm (f ∷ fs) bs = Fits (f.first ∷ f.later) bs ⊎ HasForm fs bs

-- They are one character.
abbrev pub Character : List ℕ → Type 0
Character = HasForm char_forms

-- They are characters, one after another.
pub data Characters : List ℕ → Type 0 where
  no_more : Characters []
  one_more : (c : List ℕ) {bs : List ℕ} → Character c → Characters bs → Characters (c ++ bs)

-- Whole characters can be taken off the front so that what remains is not empty, and is a character once more bytes follow.
pub record EndsInside (bs : List ℕ) : Type 0 where
  pub front : List ℕ
  pub rest : List ℕ
  pub more : List ℕ
  pub all : bs ≡ front ++ rest
  pub whole : Characters front
  pub remains : rest ≡ [] → ⊥
  pub wanting : more ≡ [] → ⊥
  pub begins : Character (rest ++ more)
