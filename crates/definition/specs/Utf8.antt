-- UTF-8, from RFC 3629, section 4.
use Rattle.std.specs.Prelude.{◌∷◌, if◌then◌else◌}
use Rattle.definition.specs.Text.{ℕ, Bool, true, false, List, [], Option, none, some, among}

-- The bytes from low to high.
pub record Span : Type 0 where
  pub low : ℕ
  pub high : ℕ

infix 80 ◌⋯◌
abbrev pub ◌⋯◌ : ℕ → ℕ → Span
a ⋯ b = record { low = a; high = b }

abbrev pub within : Span → ℕ → Bool
within s b = among s.low s.high b

-- A form of character: its first byte, and the bytes after it.
pub record CharForm : Type 0 where
  pub first : Span
  pub later : List Span

abbrev char_form : Span → List Span → CharForm
char_form a l = record { first = a; later = l }

abbrev Utf8Tail : Span
Utf8Tail = 0x80 ⋯ 0xBF

-- UTF8-1 to UTF8-4, in the order of the section.
unfoldable pub char_forms : List CharForm
char_forms =
    char_form (0x00 ⋯ 0x7F) []
    ∷ char_form (0xC2 ⋯ 0xDF) (Utf8Tail ∷ [])
    ∷ char_form (0xE0 ⋯ 0xE0) (0xA0 ⋯ 0xBF ∷ Utf8Tail ∷ [])
    ∷ char_form (0xE1 ⋯ 0xEC) (Utf8Tail ∷ Utf8Tail ∷ [])
    ∷ char_form (0xED ⋯ 0xED) (0x80 ⋯ 0x9F ∷ Utf8Tail ∷ [])
    ∷ char_form (0xEE ⋯ 0xEF) (Utf8Tail ∷ Utf8Tail ∷ [])
    ∷ char_form (0xF0 ⋯ 0xF0) (0x90 ⋯ 0xBF ∷ Utf8Tail ∷ Utf8Tail ∷ [])
    ∷ char_form (0xF1 ⋯ 0xF3) (Utf8Tail ∷ Utf8Tail ∷ Utf8Tail ∷ [])
    ∷ char_form (0xF4 ⋯ 0xF4) (0x80 ⋯ 0x8F ∷ Utf8Tail ∷ Utf8Tail ∷ [])
    ∷ []

-- The bytes that must follow a first byte; none: it begins no character.
unfoldable pub follow : List CharForm → ℕ → Option (List Span)
follow [] b = none
follow (f ∷ fs) b = if within f.first b then some f.later else follow fs b

-- What is left when whole characters are taken off the front: nothing, the beginning of a character, or neither.
pub data Left : Type 0 where
  nothing cut broken : Left

-- The same of bytes in front of which a character has begun that still wants the given ones.
unfoldable pub left : List Span → List ℕ → Left
left [] [] = nothing
left (s ∷ ss) [] = cut
left [] (b ∷ bs) = elim (follow char_forms b) [ some ss ↦ left ss bs | none ↦ broken ]
left (s ∷ ss) (b ∷ bs) = elim (within s b) [ true ↦ left ss bs | false ↦ broken ]

-- Which of them it is.
abbrev pub is_nothing : Left → Bool
is_nothing nothing = true
is_nothing cut = false
is_nothing broken = false

abbrev pub is_cut : Left → Bool
is_cut nothing = false
is_cut cut = true
is_cut broken = false

-- Whether the bytes are UTF-8.
unfoldable pub utf8 : List ℕ → Bool
utf8 bs = is_nothing (left [] bs)

-- Whether they end inside a character (Req 01).
unfoldable pub ends_inside : List ℕ → Bool
ends_inside bs = is_cut (left [] bs)
