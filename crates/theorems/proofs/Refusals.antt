-- The refusals of the seven calls.
use Rattle.std.specs.Prelude.{if◌then◌else◌}
use Prim.Native.Nat.{ℕ, ◌+◌, ◌*◌, ◌<◌, ◌≤◌}
use mathlib.Core.Path.{◌≡◌, refl, ap, ◌∙◌}
use mathlib.Core.Bool.{Bool, true, false, not, ◌&&◌, false≢true, or-true, and-eq-true_iff}
use mathlib.Core.Logic.{◌↔◌, ◌⊎◌, inl, inr}
use mathlib.Core.List.{List, [], ◌∷◌, ◌++◌}
use borrow.Author.Tests.{ltb-true, ltb-false, lt-ltb, le-ltb, eqb-true, eqb-false, eq-eqb, ne_eqb, not-true}
use native.Mathlib.Omega.{arith}
use lib.ListN.{length}
use lib.Dec.{eqb, ltb}
use Rattle.definition.specs.Runs.{text}
use Rattle.definition.specs.Utf8.{Left, nothing, cut, broken, left, is_nothing, is_cut, utf8, ends_inside}
use Rattle.definition.specs.LineMap.{line_starts, rises, line_table}
use Rattle.definition.specs.Unescaped.{unescaped}
use Rattle.definition.specs.Glue.{Token, tokens, token_numbers}
use Rattle.definition.specs.Tree.{Entry, Width, entries, entry_numbers, body_concats}
use Rattle.definition.specs.Error.{Err, error_numbers}
use Rattle.definition.specs.Syntax.{parse_define_body}
use Rattle.definition.specs.Calls.{Check, Refusal, longest_source, most_concats, refusal, too_many, too_long, not_utf8, cut_off, source_checks, too_many_concats, short_table, no_line_table, no_kind, counted, filled, full_reading, reading_checks, outcome, reading, reading_body, listing_tokens, building_lines, unescaping, looking_up, pasting}
use Rattle.theorems.specs.Characters.{Characters, EndsInside}
use Rattle.theorems.specs.Refusals.{Pass, Given, Refuses, Zeros, Utf8Refusals, SomeOver, Rises, LineTable}
use Rattle.theorems.proofs.Characters.{utf8_when, ends_inside_when}

-- A number is given exactly if its condition holds and no earlier one does.
refusal_given : (cs : List Check) (n : ℕ) → 0 < n → refusal cs ≡ n → Given n cs
unfolding refusal Pass
refusal_given [] n h e = absurd (omega arith)
refusal_given (c ∷ cs) n h e = go c.fails refl (λ q. refusal_given cs n h q)
  where
    go : (b : Bool) → c.fails ≡ b → (refusal cs ≡ n → Given n cs) → Given n (c ∷ cs)
    go true f ih = record { before = []; check = c; later = cs; all = refl; number_is = rw (f, refusal) at e; holds = f; no_earlier = tt }
    go false f ih =
        let g : Given n cs = ih (rw (f, refusal) at e) in
        record { before = c ∷ g.before; check = g.check; later = g.later; all = ap (λ l. c ∷ l) g.all; number_is = g.number_is; holds = g.holds; no_earlier = (f, g.no_earlier) }

first_refusal : (before later : List Check) (c : Check) → c.fails ≡ true → Pass before → refusal (before ++ (c ∷ later)) ≡ c.number
unfolding refusal Pass
first_refusal [] later c f p = rw (f, refusal) refl
first_refusal (b ∷ before) later c f p = rw (p.0, refusal) (first_refusal before later c f p.1)

given_refusal : (cs : List Check) (n : ℕ) → Given n cs → refusal cs ≡ n
given_refusal cs n g = ap refusal g.all ∙ first_refusal g.before g.later g.check g.holds g.no_earlier ∙ g.number_is

-- None has this number.
unfoldable pub lacks : ℕ → List Check → Bool
lacks n [] = true
lacks n (c ∷ cs) = not (eqb c.number n) && lacks n cs

-- No number is 0, so that 0 says that no condition holds.
abbrev pub numbered : List Check → Bool
numbered = lacks 0

refusal_pass : (cs : List Check) → numbered cs ≡ true → refusal cs ≡ 0 → Pass cs
unfolding refusal Pass lacks
refusal_pass [] h e = tt
refusal_pass (c ∷ cs) h e = go c.fails refl (λ q. refusal_pass cs k.1 q)
  where
    k : (not (eqb c.number 0) ≡ true) × (numbered cs ≡ true)
    k = (and-eq-true_iff (not (eqb c.number 0)) (numbered cs)).0 h

    go : (b : Bool) → c.fails ≡ b → (refusal cs ≡ 0 → Pass cs) → Pass (c ∷ cs)
    go true f ih = absurd (eqb-false c.number 0 (not-true (eqb c.number 0) k.0) (rw (f, refusal) at e))
    go false f ih = (f, ih (rw (f, refusal) at e))

pass_refusal : (cs : List Check) → Pass cs → refusal cs ≡ 0
unfolding refusal Pass
pass_refusal [] p = refl
pass_refusal (c ∷ cs) p = rw (p.0, refusal) (pass_refusal cs p.1)

-- A number that no check has is not given.
pub not_given : (n : ℕ) (cs : List Check) → eqb 0 n ≡ false → lacks n cs ≡ true → refusal cs ≡ n → ⊥
unfolding refusal lacks
not_given n [] z h e = eqb-false 0 n z e
not_given n (c ∷ cs) z h e =
    let k = (and-eq-true_iff (not (eqb c.number n)) (lacks n cs)).0 h in go c.fails (eqb-false c.number n (not-true _ k.0)) (not_given n cs z k.1) e
  where
    go : (t : Bool) → (c.number ≡ n → ⊥) → (refusal cs ≡ n → ⊥) → (if t then c.number else refusal cs) ≡ n → ⊥
    go true k ih q = k q
    go false k ih q = ih q

refuses : (cs : List Check) → numbered cs ≡ true → Refuses (refusal cs) cs
refuses cs h = record { given = λ n p. (refusal_given cs n p, given_refusal cs n); accepted = (refusal_pass cs h, pass_refusal cs) }

zeros : (r n : ℕ) (numbers : List ℕ) (room : ℕ) → Zeros r (counted r n) room (filled r numbers room)
unfolding filled
zeros r n numbers room = record { count_0 = λ h. rw (ne_eqb r 0 h) refl; table_0 = λ h. rw (ne_eqb r 0 h) refl }

-- Reading a source: 1, 2, 10, 3 to 6.
module _ (src : List ℕ) (a b c : ℕ) where
  pub reading_refuses : Refuses (reading src a b c).refused (reading_checks src (full_reading src) a b c)
  unfolding reading outcome lacks
  reading_refuses = refuses (reading_checks src (full_reading src) a b c) refl

  pub reading_zero_entries : Zeros (reading src a b c).refused (reading src a b c).entry_count a (reading src a b c).entry_table
  unfolding reading outcome
  reading_zero_entries = zeros _ _ _ a

  pub reading_zero_errors : Zeros (reading src a b c).refused (reading src a b c).error_count b (reading src a b c).error_table
  unfolding reading outcome
  reading_zero_errors = zeros _ _ _ b

  pub reading_zero_lines : Zeros (reading src a b c).refused (reading src a b c).line_count c (reading src a b c).line_table
  unfolding reading outcome
  reading_zero_lines = zeros _ _ _ c

-- The calls that fill one table.
module _ (src : List ℕ) (room : ℕ) where
  abbrev body_entries : List ℕ
  body_entries = entry_numbers (entries 0 0 (parse_define_body src))

  -- Reading a define body: 1, 2, 10, 3, 4.
  pub body_refuses : Refuses
      (reading_body src room).refused
      (source_checks src ++ (too_many_concats (body_concats (parse_define_body src)) ∷ short_table Refusal.ENTRIES body_entries room ∷ []))
  unfolding reading_body lacks
  body_refuses = refuses _ refl

  pub body_zeros : Zeros (reading_body src room).refused (reading_body src room).count room (reading_body src room).table
  unfolding reading_body
  body_zeros = zeros _ _ _ room

  -- Listing tokens: 1, 2, 10, 4.
  pub tokens_refuses : Refuses
      (listing_tokens src room).refused
      (source_checks src ++ (short_table Refusal.ENTRIES (token_numbers 0 (tokens false src)) room ∷ []))
  unfolding listing_tokens lacks
  tokens_refuses = refuses _ refl

  pub tokens_zeros : Zeros (listing_tokens src room).refused (listing_tokens src room).count room (listing_tokens src room).table
  unfolding listing_tokens
  tokens_zeros = zeros _ _ _ room

  -- Building the line table: 1, 2, 10, 6.
  pub lines_refuses : Refuses
      (building_lines src room).refused (source_checks src ++ (short_table Refusal.LINES (line_starts src) room ∷ []))
  unfolding building_lines lacks
  lines_refuses = refuses _ refl

  pub lines_zeros : Zeros (building_lines src room).refused (building_lines src room).count room (building_lines src room).table
  unfolding building_lines
  lines_zeros = zeros _ _ _ room

  -- Unescaping: 1, 2, 10, 8.
  pub unescape_refuses : Refuses
      (unescaping src room).refused (source_checks src ++ (short_table Refusal.OUTPUT (unescaped src) room ∷ []))
  unfolding unescaping lacks
  unescape_refuses = refuses _ refl

  pub unescape_zeros : Zeros (unescaping src room).refused (unescaping src room).count room (unescaping src room).table
  unfolding unescaping
  unescape_zeros = zeros _ _ _ room

-- Looking up an offset: 7. Pasting two kinds: 9. A refused one answers zeros.
module _ (lines : List ℕ) (offset : ℕ) where
  pub lookup_refuses : Refuses (looking_up lines offset).refused (no_line_table lines ∷ [])
  unfolding looking_up lacks
  lookup_refuses = refuses _ refl

  pub lookup_zeros : ((looking_up lines offset).refused ≡ 0 → ⊥) → ((looking_up lines offset).line ≡ 0) × ((looking_up lines offset).column ≡ 0)
  unfolding looking_up
  lookup_zeros h = (rw (ne_eqb _ 0 h) refl, rw (ne_eqb _ 0 h) refl)

module _ (lhs rhs : ℕ) where
  pub paste_refuses : Refuses (pasting lhs rhs).refused (no_kind lhs ∷ no_kind rhs ∷ [])
  unfolding pasting lacks
  paste_refuses = refuses _ refl

  pub paste_zeros : ((pasting lhs rhs).refused ≡ 0 → ⊥) → (pasting lhs rhs).kind ≡ 0
  unfolding pasting
  paste_zeros h = rw (ne_eqb _ 0 h) refl

-- The conditions, in 01's words.
pub length_entries : (es : List Entry) → length (entry_numbers es) ≡ Width.entry * length es
unfolding entry_numbers
length_entries [] = refl
length_entries (e ∷ es) = let h : length (entry_numbers es) ≡ Width.entry * length es = length_entries es in omega arith

pub length_errors : (lines : List ℕ) (es : List Err) → length (error_numbers lines es) ≡ Width.error * length es
unfolding error_numbers
length_errors lines [] = refl
length_errors lines (e ∷ es) = let h : length (error_numbers lines es) ≡ Width.error * length es = length_errors lines es in omega arith

pub length_tokens : (at : ℕ) (ts : List Token) → length (token_numbers at ts) ≡ Width.token * length ts
unfolding token_numbers
length_tokens at [] = refl
length_tokens at (t ∷ ts) =
    let h : length (token_numbers (at + length (text t)) ts) ≡ Width.token * length ts = length_tokens (at + length (text t)) ts in omega arith

pub short_when : (number room : ℕ) (numbers : List ℕ) → ((short_table number numbers room).fails ≡ true) ↔ (room < length numbers)
short_when number room numbers = (ltb-true room (length numbers), lt-ltb room (length numbers))

pub too_long_when : (src : List ℕ) → ((too_long src).fails ≡ true) ↔ (longest_source < length src)
too_long_when src = (ltb-true longest_source (length src), lt-ltb longest_source (length src))

-- A condition that does not hold.
pub unmet : (b : Bool) → (b ≡ true → ⊥) → b ≡ false
unmet true h = absurd (h refl)
unmet false h = refl

-- 10 exactly if the source ends inside a character, 2 exactly if it is neither characters nor that.
pub cut_off_when : (src : List ℕ) → ((cut_off src).fails ≡ true) ↔ EndsInside src
cut_off_when src = ends_inside_when src

pub not_utf8_when : (src : List ℕ) → ((not_utf8 src).fails ≡ true) ↔ ((Characters src → ⊥) × (EndsInside src → ⊥))
not_utf8_when src = (
  λ e. (λ w. false≢true (rw ((utf8_when src).1 w) at e), λ c. false≢true (rw ((ends_inside_when src).1 c, or-true (utf8 src)) at e)),
  λ n. rw (unmet (utf8 src) (λ u. n.0 ((utf8_when src).0 u)), unmet (ends_inside src) (λ c. n.1 ((ends_inside_when src).0 c))),
)

-- A source that is UTF-8 does not end inside a character,
whole_end : (src : List ℕ) → utf8 src ≡ true → ends_inside src ≡ false
unfolding utf8 ends_inside
whole_end src u = go (left [] src) u
  where
    go : (l : Left) → is_nothing l ≡ true → is_cut l ≡ false
    go nothing e = refl
    go cut e = absurd (false≢true e)
    go broken e = refl

-- and passes if it is not too long,
pub source_passes : (src : List ℕ) → length src ≤ longest_source → utf8 src ≡ true → Pass (source_checks src)
unfolding Pass
source_passes src n u = (le-ltb longest_source (length src) n, (rw u, (whole_end src u, tt)))

-- and checks after others pass if both do.
pub pass_then : (xs ys : List Check) → Pass xs → Pass ys → Pass (xs ++ ys)
unfolding Pass
pass_then [] ys p q = q
pass_then (x ∷ xs) ys p q = (p.0, pass_then xs ys p.1 q)

-- Which sources are refused by 10 and by 2, whatever else a call checks after them.
module _ (src : List ℕ) (cs : List Check) (ten : lacks Refusal.CUT cs ≡ true) (two : lacks Refusal.UTF8 cs ≡ true) where
  abbrev by : Bool → Bool → Bool → ℕ
  by t n c = if t then Refusal.LENGTH else (if n then Refusal.UTF8 else (if c then Refusal.CUT else refusal cs))

  by_10 : (t n c : Bool) → by t n c ≡ Refusal.CUT → (t ≡ false) × (c ≡ true)
  by_10 true n c e = absurd (eqb-false Refusal.LENGTH Refusal.CUT refl e)
  by_10 false true c e = absurd (eqb-false Refusal.UTF8 Refusal.CUT refl e)
  by_10 false false true e = (refl, refl)
  by_10 false false false e = absurd (not_given Refusal.CUT cs refl ten e)

  by_2 : (t n c : Bool) → by t n c ≡ Refusal.UTF8 → (t ≡ false) × (n ≡ true)
  by_2 true n c e = absurd (eqb-false Refusal.LENGTH Refusal.UTF8 refl e)
  by_2 false true c e = (refl, refl)
  by_2 false false true e = absurd (eqb-false Refusal.CUT Refusal.UTF8 refl e)
  by_2 false false false e = absurd (not_given Refusal.UTF8 cs refl two e)

  utf8_refusals : Utf8Refusals src (refusal (source_checks src ++ cs))
  unfolding refusal
  utf8_refusals = record {
    cut_off = (
      λ e. let (t, c) = by_10 (too_long src).fails (not_utf8 src).fails (ends_inside src) e in (ltb-false _ _ t, (cut_off_when src).0 c),
      λ h. rw (le-ltb longest_source (length src) h.0, (cut_off_when src).1 h.1, or-true (utf8 src)),
    );
    not_utf8 = (
      λ e. let (t, n) = by_2 (too_long src).fails (not_utf8 src).fails (ends_inside src) e in (ltb-false _ _ t, (not_utf8_when src).0 n),
      λ h. rw (le-ltb longest_source (length src) h.0, (not_utf8_when src).1 h.1),
    );
  }

pub reading_utf8 : (src : List ℕ) (a b c : ℕ) → Utf8Refusals src (reading src a b c).refused
unfolding reading outcome lacks
reading_utf8 src a b c = utf8_refusals src _ refl refl

module _ (src : List ℕ) (room : ℕ) where
  pub body_utf8 : Utf8Refusals src (reading_body src room).refused
  unfolding reading_body lacks
  body_utf8 = utf8_refusals src _ refl refl

  pub tokens_utf8 : Utf8Refusals src (listing_tokens src room).refused
  unfolding listing_tokens lacks
  tokens_utf8 = utf8_refusals src _ refl refl

  pub lines_utf8 : Utf8Refusals src (building_lines src room).refused
  unfolding building_lines lacks
  lines_utf8 = utf8_refusals src _ refl refl

  pub unescape_utf8 : Utf8Refusals src (unescaping src room).refused
  unfolding unescaping lacks
  unescape_utf8 = utf8_refusals src _ refl refl

some_over : (ns : List ℕ) → too_many ns ≡ true → SomeOver ns
unfolding too_many SomeOver
some_over [] e = absurd (false≢true e)
some_over (n ∷ ns) e = go (ltb most_concats n) refl (some_over ns)
  where
    go : (b : Bool) → ltb most_concats n ≡ b → (too_many ns ≡ true → SomeOver ns) → (most_concats < n) ⊎ SomeOver ns
    go true q ih = inl (ltb-true most_concats n q)
    go false q ih = inr (ih (rw q at e))

over_some : (ns : List ℕ) → SomeOver ns → too_many ns ≡ true
unfolding too_many SomeOver
over_some [] h = absurd h
over_some (n ∷ ns) (inl l) = rw (lt-ltb most_concats n l) refl
over_some (n ∷ ns) (inr s) = rw (over_some ns s) (or-true (ltb most_concats n))

pub too_many_when : (ns : List ℕ) → ((too_many_concats ns).fails ≡ true) ↔ SomeOver ns
too_many_when ns = (some_over ns, over_some ns)

rises_up : (s : ℕ) (ts : List ℕ) → rises s ts ≡ true → Rises s ts
unfolding rises Rises
rises_up s [] e = tt
rises_up s (t ∷ ts) e = let h = (and-eq-true_iff (ltb s t) (rises t ts)).0 e in (ltb-true s t h.0, rises_up t ts h.1)

up_rises : (s : ℕ) (ts : List ℕ) → Rises s ts → rises s ts ≡ true
unfolding rises Rises
up_rises s [] h = refl
up_rises s (t ∷ ts) h = rw (lt-ltb s t h.0) (up_rises t ts h.1)

pub line_table_when : (lines : List ℕ) → (line_table lines ≡ true) ↔ LineTable lines
unfolding line_table LineTable
line_table_when [] = (λ e. absurd (false≢true e), λ h. absurd h)
line_table_when (s ∷ ss) = (
  λ e. let h = (and-eq-true_iff (eqb s 0) (rises s ss)).0 e in (eqb-true s 0 h.0, rises_up s ss h.1),
  λ h. rw (eq-eqb s 0 h.0) (up_rises s ss h.1),
)
