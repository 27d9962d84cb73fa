-- Which directive a word is: its place in the tables of the definition, and what the search for it answers.
use Rattle.std.specs.Prelude.{ℕ, zero, suc, ◌≤◌, ◌≡◌, Bool, false, List, [], ◌∷◌, map}
use Rattle.std.proofs.Math.Option.{Option, none, some}
use Prim.Native.Char.{code}
use Prim.Native.String.{String, [] as ε, ◌∷◌ as ◌◂◌}
use Rattle.definition.specs.Text.{same, Kind}
use Rattle.definition.specs.Unescaped.{unescaped}
use Rattle.definition.specs.Tree.{Leaf}
use Rattle.definition.specs.Parser.{nothing}
use Rattle.definition.specs.Syntax.{Directive, directive_named, directives, relexed}
use Rattle.definition.specs.Grammar.{words, rest_after}

-- The places of the fourteen words, and the number of an unknown one.
abbrev pub Word : record { INCLUDE : ℕ; DEFINE : ℕ; UNDEF : ℕ; LINE : ℕ; ERROR : ℕ; PRAGMA : ℕ; VERSION : ℕ; IF : ℕ; IFDEF : ℕ; IFNDEF : ℕ; ELIF : ℕ; ELSE : ℕ; ENDIF : ℕ; EXTENSION : ℕ; UNKNOWN : ℕ }
Word = record { INCLUDE = 0; DEFINE = 1; UNDEF = 2; LINE = 3; ERROR = 4; PRAGMA = 5; VERSION = 6; IF = 7; IFDEF = 8; IFNDEF = 9; ELIF = 10; ELSE = 11; ENDIF = 12; EXTENSION = 13; UNKNOWN = 14 }

-- The bytes of a word, as `ascii` has them, but open to every proof: so the functions that compare with one word need no proof of their own.
abbrev pub letters : String → List ℕ
letters ε = []
letters (c ◂ s) = code c ∷ letters s

-- The row of a table at a place; none behind its last.
unfoldable pub row_at : {A : Type 0} → List A → ℕ → Option A
row_at [] w = none
row_at (x ∷ xs) zero = some x
row_at (x ∷ xs) (suc w) = row_at xs w

-- The fourteen words in the order of the tables.
unfoldable pub spellings : List (List ℕ)
spellings = map (λ x. x.spelt) words

unfoldable pub spelling : ℕ → Option (List ℕ)  -- The word at a place; none: unknown.
spelling w = row_at spellings w

unfoldable pub spelt_as : ℕ → List ℕ → Bool  -- Whether a text, unescaped, is the word at a place.
spelt_as w text = elim (spelling w) [ none ↦ false | some s ↦ same (unescaped text) s ]

-- w is the place of the text's directive, in the reader's table and in the grammar's; UNKNOWN has no row.
pub record Finds (text : List ℕ) (w : ℕ) : Type 0 where
  pub most : w ≤ Word.UNKNOWN
  pub row : (n : ℕ) (again : List Leaf → List Leaf) → directive_named (directives n again) (unescaped text) ≡ row_at (directives n again) w
  pub rest : rest_after words (unescaped text) ≡ row_at (map (λ x. x.rest) words) w

-- The directive at a place; n: where the source ends. An unknown word has none: its node is an ERROR, and nothing is read behind it.
unfoldable pub directive_at : ℕ → ℕ → Directive
directive_at n w = elim (row_at (directives n relexed) w) [ none ↦ record { spelt = []; node_kind = Kind.ERROR; reads = nothing } | some d ↦ d ]
