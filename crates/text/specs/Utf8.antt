-- The automaton of the UTF-8 check: which bytes each of its states still wants, and what its answer says in the words of the definition.
use Rattle.std.specs.Prelude.{ℕ, ◌≡◌, Bool, true, List, [], ◌∷◌, ltb, if◌then◌else◌, ⊤, Some, None, Result, Ok, Err}
use Rattle.std.specs.Prelude as std
use Rattle.std.proofs.Math.Option.{Option, none, some}
use Rattle.definition.specs.Utf8.{Span, ◌⋯◌, within, char_forms, follow, nothing, cut, broken}
use Rattle.definition.specs.Utf8 as definition
use Rattle.text.specs.Stretch.{Stretch}
use Rattle.text.specs.declared.refusal.Refusal.{Refusal}
use Rattle.text.specs.declared.refusal.Refusal.TheVariants as refusal
use Rattle.text.specs.declared.utf8.State.{State}
use Rattle.text.specs.declared.utf8.State.TheVariants.{Start, Tail1, Tail2, Tail3, AfterE0, AfterED, AfterF0, AfterF4}
use Rattle.text.specs.declared.utf8.Utf8Error.{Utf8Error}
use Rattle.text.specs.declared.utf8.Utf8Error.TheVariants.{Cut, Broken}

abbrev tail : Span
tail = 0x80 ⋯ 0xBF

-- The bytes that a state still wants.
abbrev pub wants : State → List Span
wants Start = []
wants Tail1 = tail ∷ []
wants Tail2 = tail ∷ tail ∷ []
wants Tail3 = tail ∷ tail ∷ tail ∷ []
wants AfterE0 = 0xA0 ⋯ 0xBF ∷ tail ∷ []
wants AfterED = 0x80 ⋯ 0x9F ∷ tail ∷ []
wants AfterF0 = 0x90 ⋯ 0xBF ∷ tail ∷ tail ∷ []
wants AfterF4 = 0x80 ⋯ 0x8F ∷ tail ∷ tail ∷ []

abbrev pub next_wants : std.Option State → Option (List Span)
next_wants (Some s) = some (wants s)
next_wants None = none

-- The bytes that are still wanted behind one byte more; none: that byte is not wanted.
unfoldable pub wanted_after : List Span → ℕ → Option (List Span)
wanted_after [] b = follow char_forms b
wanted_after (s ∷ ss) b = if within s b then some ss else none

-- The answer in the definition's words.
abbrev pub told : Result ⊤ Utf8Error → definition.Left
told (Ok x) = nothing
told (Err Cut) = cut
told (Err Broken) = broken

-- The refusal that an error means.
abbrev pub Refuses : Utf8Error → Refusal → Type 0
Refuses Cut r = r ≡ refusal.Cut
Refuses Broken r = r ≡ refusal.Utf8

-- ASCII is below this.
abbrev pub above_ascii : ℕ
above_ascii = 128

abbrev pub is_ascii : ℕ → Bool
is_ascii b = ltb b above_ascii

-- All that is passed over in a state is ASCII, where any character may follow.
abbrev pub Passes : State → List ℕ → ℕ → ℕ → Type 0
Passes q = Stretch (λ b. (q ≡ Start) × (is_ascii b ≡ true))
