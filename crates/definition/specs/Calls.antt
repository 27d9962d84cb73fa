-- The seven calls (01, "The call" and "Refused, in checking order"): each outcome, on whatever it is handed.
use Rattle.std.specs.Prelude.{◌-◌, ◌||◌, ◌∷◌, ◌++◌, if◌then◌else◌}
use Rattle.definition.specs.Text.{ℕ, Bool, false, not, List, [], eqb, ltb, length, replicate, Kind}
use Rattle.definition.specs.Utf8.{utf8, ends_inside}
use Rattle.definition.specs.Unescaped.{unescaped}
use Rattle.definition.specs.LineMap.{line_starts, get_line_and_col, line_table}
use Rattle.definition.specs.Glue.{tokens, token_numbers, pasted_kind}
use Rattle.definition.specs.Tree.{Entry, entries, entry_numbers, body_concats}
use Rattle.definition.specs.Error.{Err, error_numbers}
use Rattle.definition.specs.Syntax.{parse, parse_define_body}

abbrev pub longest_source : ℕ  -- Refusal 1 begins above it.
longest_source = 16_777_216

abbrev pub most_concats : ℕ  -- Refusal 3 begins above it.
most_concats = 256

-- A refusal: its number, and whether its condition holds.
pub record Check : Type 0 where
  pub number : ℕ
  pub fails : Bool

-- A number is given if its condition holds and no earlier one of the call does.
unfoldable pub refusal : List Check → ℕ
refusal [] = 0
refusal (c ∷ cs) = if c.fails then c.number else refusal cs

-- Whether some body holds too many ##.
unfoldable pub too_many : List ℕ → Bool
too_many [] = false
too_many (n ∷ ns) = ltb most_concats n || too_many ns

-- The nine refusals of 01 and that of Req 01, by their conditions.
abbrev pub Refusal : record { LENGTH : ℕ; UTF8 : ℕ; CONCATS : ℕ; ENTRIES : ℕ; ERRORS : ℕ; LINES : ℕ; LOOKUP : ℕ; OUTPUT : ℕ; KIND : ℕ; CUT : ℕ }
Refusal = record { LENGTH = 1; UTF8 = 2; CONCATS = 3; ENTRIES = 4; ERRORS = 5; LINES = 6; LOOKUP = 7; OUTPUT = 8; KIND = 9; CUT = 10 }

abbrev pub too_long : List ℕ → Check  -- 1: the source or text is longer.
too_long src = record { number = Refusal.LENGTH; fails = ltb longest_source (length src) }

abbrev pub not_utf8 : List ℕ → Check  -- 2: it is not UTF-8, nor does it end inside a character.
not_utf8 src = record { number = Refusal.UTF8; fails = not (utf8 src || ends_inside src) }

abbrev pub cut_off : List ℕ → Check  -- 10, Req 01: it ends inside a character.
cut_off src = record { number = Refusal.CUT; fails = ends_inside src }

abbrev pub utf8_checks : List ℕ → List Check  -- Req 01: 10 is checked with 2, which keeps the rest.
utf8_checks src = not_utf8 src ∷ cut_off src ∷ []

abbrev pub source_checks : List ℕ → List Check  -- What every call on a source or text checks first.
source_checks src = too_long src ∷ utf8_checks src

abbrev pub too_many_concats : List ℕ → Check  -- 3: some body holds more ##.
too_many_concats counts = record { number = Refusal.CONCATS; fails = too_many counts }

-- ENTRIES, ERRORS, LINES and OUTPUT: the numbers don't fit a table of that length.
abbrev pub short_table : ℕ → List ℕ → ℕ → Check
short_table number numbers room = record { number = number; fails = ltb room (length numbers) }

abbrev pub no_line_table : List ℕ → Check  -- 7: a lookup's line table does not start at 0, or does not rise strictly.
no_line_table lines = record { number = Refusal.LOOKUP; fails = not (line_table lines) }

abbrev pub no_kind : ℕ → Check  -- 9: a pasted kind is 0, 35 or above 86.
no_kind k = record { number = Refusal.KIND; fails = eqb k 0 || eqb k Kind.LINECONT || ltb Kind.ROOT k }

-- What a call leaves of a count and in a table: the numbers and then 0, or zeros alone after a refusal.
abbrev pub counted : ℕ → ℕ → ℕ
counted refused n = if eqb refused 0 then n else 0

unfoldable pub padded : List ℕ → ℕ → List ℕ  -- What follows the last used number is 0.
padded numbers room = numbers ++ replicate (room - length numbers) 0

unfoldable pub filled : ℕ → List ℕ → ℕ → List ℕ  -- Zeros alone after a refusal.
filled refused numbers room = if eqb refused 0 then padded numbers room else replicate room 0

-- The full reading of a source: its entries, errors and lines, and how many ## each body holds.
pub record Full : Type 0 where
  pub entry_list : List Entry
  pub error_list : List Err
  pub lines : List ℕ
  pub concats : List ℕ

unfoldable pub full_reading : List ℕ → Full  -- By the directive reader and the line table.
full_reading src = let got = parse src in
    record { entry_list = entries 0 0 got.tree; error_list = got.errs; lines = line_starts src; concats = body_concats got.tree }

abbrev pub entries_of : Full → List ℕ  -- The numbers of its entry table.
entries_of f = entry_numbers f.entry_list

abbrev pub errors_of : Full → List ℕ  -- The numbers of its error table.
errors_of f = error_numbers f.lines f.error_list

-- Reading a source, with three tables of these lengths.
pub record Reading : Type 0 where
  pub refused : ℕ
  pub entry_count : ℕ
  pub error_count : ℕ
  pub line_count : ℕ
  pub entry_table : List ℕ
  pub error_table : List ℕ
  pub line_table : List ℕ

abbrev pub reading_checks : List ℕ → Full → ℕ → ℕ → ℕ → List Check  -- Reading checks 1, 2, 10, 3 to 6.
reading_checks src f entry_room error_room line_room =
    source_checks src ++ (too_many_concats f.concats ∷
    short_table Refusal.ENTRIES (entries_of f) entry_room ∷ short_table Refusal.ERRORS (errors_of f) error_room ∷ short_table Refusal.LINES f.lines line_room ∷ [])

unfoldable pub outcome : ℕ → Full → ℕ → ℕ → ℕ → Reading  -- The full reading, or zeros, under a refusal number.
outcome r f entry_room error_room line_room = record {
  refused = r;
  entry_count = counted r (length f.entry_list);
  error_count = counted r (length f.error_list);
  line_count = counted r (length f.lines);
  entry_table = filled r (entries_of f) entry_room;
  error_table = filled r (errors_of f) error_room;
  line_table = filled r f.lines line_room;
}

unfoldable pub reading : List ℕ → ℕ → ℕ → ℕ → Reading  -- `Parser::parse`.
reading src entry_room error_room line_room =
    let f = full_reading src in
    outcome (refusal (reading_checks src f entry_room error_room line_room)) f entry_room error_room line_room

-- A call that fills one table.
pub record Filled : Type 0 where
  pub refused : ℕ
  pub count : ℕ
  pub table : List ℕ

abbrev pub fills : ℕ → ℕ → List ℕ → ℕ → Filled  -- Its answer under a refusal number.
fills r n numbers room = record { refused = r; count = counted r n; table = filled r numbers room }

unfoldable pub reading_body : List ℕ → ℕ → Filled  -- `Parser::parse_define_body` checks 1, 2, 10, 3, 4.
reading_body src room =
    let tree = parse_define_body src in
    let es = entries 0 0 tree in
    let ns = entry_numbers es in
    fills (refusal (source_checks src ++ (too_many_concats (body_concats tree) ∷ short_table Refusal.ENTRIES ns room ∷ []))) (length es) ns room

unfoldable pub listing_tokens : List ℕ → ℕ → Filled  -- `Lexer` checks 1, 2, 10, 4.
listing_tokens src room =
    let ts = tokens false src in
    let ns = token_numbers 0 ts in
    fills (refusal (source_checks src ++ (short_table Refusal.ENTRIES ns room ∷ []))) (length ts) ns room

unfoldable pub building_lines : List ℕ → ℕ → Filled  -- The line table checks 1, 2, 10, 6.
building_lines src room =
    let ns = line_starts src in
    fills (refusal (source_checks src ++ (short_table Refusal.LINES ns room ∷ []))) (length ns) ns room

unfoldable pub unescaping : List ℕ → ℕ → Filled  -- `Unescaped::chars` checks 1, 2, 10, 8.
unescaping src room =
    let ns = unescaped src in
    fills (refusal (source_checks src ++ (short_table Refusal.OUTPUT ns room ∷ []))) (length ns) ns room

-- Looking up an offset, and pasting two kinds.
pub record Looked : Type 0 where
  pub refused : ℕ
  pub line : ℕ
  pub column : ℕ

unfoldable pub looking_up : List ℕ → ℕ → Looked  -- `LineMap::get_line_and_col` checks 7.
looking_up lines offset =
    let r = refusal (no_line_table lines ∷ []) in
    let at = get_line_and_col lines offset in
    record { refused = r; line = counted r at.line; column = counted r at.column }

pub record Pasted : Type 0 where
  pub refused : ℕ
  pub kind : ℕ

unfoldable pub pasting : ℕ → ℕ → Pasted  -- `SyntaxKind::paste` checks 9.
pasting lhs rhs =
    let r = refusal (no_kind lhs ∷ no_kind rhs ∷ []) in
    record { refused = r; kind = counted r (pasted_kind lhs rhs) }
