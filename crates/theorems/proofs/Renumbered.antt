-- What Req 01 changes in the answers of the five calls on a source.
use Rattle.std.specs.Prelude.{if◌then◌else◌}
use Prim.Native.Nat.{ℕ}
use mathlib.Core.Path.{◌≡◌, refl, ap}
use mathlib.Core.Bool.{Bool, true, false, not, ◌||◌}
use mathlib.Core.Logic.{inl, inr}
use mathlib.Core.List.{List, [], ◌∷◌, ◌++◌}
use borrow.Author.Tests.{eqb-false}
use lib.ListN.{length, replicate}
use lib.Dec.{eqb, ltb}
use Rattle.definition.specs.Utf8.{Left, nothing, cut, broken, left, is_nothing, is_cut, utf8, ends_inside}
use Rattle.definition.specs.LineMap.{line_starts}
use Rattle.definition.specs.Unescaped.{unescaped}
use Rattle.definition.specs.Glue.{tokens, token_numbers}
use Rattle.definition.specs.Tree.{Entry, entries, entry_numbers, body_concats}
use Rattle.definition.specs.Syntax.{parse_define_body}
use Rattle.definition.specs.Calls.{Check, Refusal, longest_source, refusal, source_checks, too_many_concats, short_table, counted, padded, filled, Full, full_reading, entries_of, errors_of, outcome, reading, Filled, fills, reading_body, listing_tokens, building_lines, unescaping}
use Rattle.theorems.specs.Renumbered.{checks_before, Renumbered, Stays, ReadingStays}
use Rattle.theorems.proofs.Refusals.{lacks, not_given}

-- The checks of a source, before and now, with other checks after them.
module _ (src : List ℕ) (cs : List Check) where
  abbrev before : ℕ
  before = refusal (checks_before src ++ cs)

  abbrev now : ℕ
  now = refusal (source_checks src ++ cs)

  -- Both numbers, by whether the source is too long and what is left of it.
  abbrev before_by : Bool → Left → ℕ
  before_by t l = if t then Refusal.LENGTH else (if not (is_nothing l) then Refusal.UTF8 else refusal cs)

  abbrev now_by : Bool → Left → ℕ
  now_by t l = if t then Refusal.LENGTH else (if not (is_nothing l || is_cut l) then Refusal.UTF8 else (if is_cut l then Refusal.CUT else refusal cs))

  renumbered : lacks Refusal.CUT cs ≡ true → Renumbered before now
  unfolding refusal utf8 ends_inside
  renumbered h = go (ltb longest_source (length src)) (left [] src)
    where
      go : (t : Bool) (l : Left) → Renumbered (before_by t l) (now_by t l)
      go true l = record { of_2 = λ e. inl e; of_others = λ n. refl; was_2 = λ e. absurd (eqb-false Refusal.LENGTH Refusal.CUT refl e) }
      go false nothing = record { of_2 = λ e. inl e; of_others = λ n. refl; was_2 = λ e. absurd (not_given Refusal.CUT cs refl h e) }
      go false cut = record { of_2 = λ e. inr refl; of_others = λ n. absurd (n refl); was_2 = λ e. refl }
      go false broken = record { of_2 = λ e. inl refl; of_others = λ n. refl; was_2 = λ e. refl }

  -- None is 0 unless both are.
  both_0 : eqb now 0 ≡ eqb before 0
  unfolding refusal utf8 ends_inside
  both_0 = go (ltb longest_source (length src)) (left [] src)
    where
      go : (t : Bool) (l : Left) → eqb (now_by t l) 0 ≡ eqb (before_by t l) 0
      go true l = refl
      go false nothing = refl
      go false cut = refl
      go false broken = refl

  -- So counts and tables are the same.
  same_count : (n : ℕ) → counted now n ≡ counted before n
  same_count n = ap (λ b. if b then n else 0) both_0

  same_table : (numbers : List ℕ) (room : ℕ) → filled now numbers room ≡ filled before numbers room
  unfolding filled
  same_table numbers room = ap (λ b. if b then padded numbers room else replicate room 0) both_0

  fills_stays : lacks Refusal.CUT cs ≡ true → (n : ℕ) (numbers : List ℕ) (room : ℕ) → Stays (fills before n numbers room) (fills now n numbers room)
  fills_stays h n numbers room = record { number = renumbered h; count_is = same_count n; table_is = same_table numbers room }

-- Reading a source.
module _ (src : List ℕ) (a b c : ℕ) where
  abbrev f : Full
  f = full_reading src

  abbrev table_checks : List Check
  table_checks =
      too_many_concats f.concats ∷
      short_table Refusal.ENTRIES (entries_of f) a ∷ short_table Refusal.ERRORS (errors_of f) b ∷ short_table Refusal.LINES f.lines c ∷ []

  pub reading_stays : ReadingStays (outcome (refusal (checks_before src ++ table_checks)) f a b c) (reading src a b c)
  unfolding reading outcome lacks
  reading_stays = record {
    number = renumbered src table_checks refl;
    entry_count_is = same_count src table_checks _;
    error_count_is = same_count src table_checks _;
    line_count_is = same_count src table_checks _;
    entry_table_is = same_table src table_checks _ a;
    error_table_is = same_table src table_checks _ b;
    line_table_is = same_table src table_checks _ c;
  }

-- The calls that fill one table.
module _ (src : List ℕ) (room : ℕ) where
  abbrev before_with : List Check → ℕ → List ℕ → Filled
  before_with cs n numbers = fills (refusal (checks_before src ++ cs)) n numbers room

  abbrev body_entries : List Entry
  body_entries = entries 0 0 (parse_define_body src)

  pub body_stays : Stays
      (before_with
      (too_many_concats (body_concats (parse_define_body src)) ∷ short_table Refusal.ENTRIES (entry_numbers body_entries) room ∷ [])
      (length body_entries) (entry_numbers body_entries))
      (reading_body src room)
  unfolding reading_body lacks
  body_stays = fills_stays src _ refl _ _ room

  pub tokens_stay : Stays
      (before_with (short_table Refusal.ENTRIES (token_numbers 0 (tokens false src)) room ∷ []) (length (tokens false src)) (token_numbers 0 (tokens false src)))
      (listing_tokens src room)
  unfolding listing_tokens lacks
  tokens_stay = fills_stays src _ refl _ _ room

  pub lines_stay : Stays (before_with (short_table Refusal.LINES (line_starts src) room ∷ []) (length (line_starts src)) (line_starts src)) (building_lines src room)
  unfolding building_lines lacks
  lines_stay = fills_stays src _ refl _ _ room

  pub unescape_stays : Stays (before_with (short_table Refusal.OUTPUT (unescaped src) room ∷ []) (length (unescaped src)) (unescaped src)) (unescaping src room)
  unfolding unescaping lacks
  unescape_stays = fills_stays src _ refl _ _ room
