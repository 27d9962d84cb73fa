-- The outcomes of a reading of a source that was written as far as its tables go.
use Rattle.std.specs.Prelude.{⊤, Result, Ok, Err}
use Prim.Native.Nat.{ℕ, ◌*◌, ◌/◌, ◌≤◌, ◌<◌}
use mathlib.Core.Path.{◌≡◌, refl, ap, sym, ◌∙◌}
use mathlib.Core.Bool.{Bool, true, false}
use mathlib.Core.List.{List, []}
use native.Mathlib.Decide.{dec_le}
use native.Mathlib.Omega.{arith}
use lib.ListN.{length, take}
use lib.Seq.{sets}
use Rattle.definition.specs.Tree.{Width}
use Rattle.definition.specs.LineMap.{line_table}
use Rattle.definition.specs.Error.{error_numbers}
use Rattle.definition.specs.Calls.{Refusal, longest_source, refusal, source_checks, Full, full_reading, entries_of, errors_of, too_many}
use Rattle.theorems.proofs.Refusals.{length_entries, length_errors}
use Rattle.theorems.proofs.Lexing.Lines.{few_lines}
use Rattle.table.specs.Row.{far}
use Rattle.table.proofs.Tables.{zeros}
use Rattle.text.specs.Refusal.{number, code}
use Rattle.text.specs.declared.refusal.Refusal.{Refusal as Code}
use Rattle.text.proofs.Refusals.{source_length}
use Rattle.error.specs.Lines.{Starts, resolved}
use Rattle.error.proofs.Resolved.{resolved_written}
use Rattle.error.proofs.Starting.{lines_rise}
use Rattle.tables.specs.declared.Reading.{Reading}
use Rattle.tables.specs.declared.Ends.{Ends}
use Rattle.reading.specs.Promise.{Whole, ReadsSource}
use Rattle.reading.specs.Parsed.{Ended, due, Accepted}
use Rattle.tables.specs.Decided.{ended_checks, Refused, Countable, Fit, cleared_behind, Finished}
use Rattle.reading.proofs.Promises.{refused_by, accepted_by, refused_source, refused_concats, refused_entries, refused_errors, refused_lines, not_refused}
use Rattle.tables.proofs.Ending.{ended_over, ended_entries, ended_errors, ended_lines, ended_well}
use Rattle.reading.proofs.Codes.{above}
use Rattle.reading.proofs.Fitting.{front_is, cleared_is, laid_short, laid_fits, laid_table, laid_end, laid_cleared}
use Rattle.theorems.proofs.Weights.{few_entries, few_errors}

-- A source that is refused.
pub first_due : (src : List ℕ) (a b c : ℕ) (o : Result ⊤ Code) (y : Code) → code o ≡ refusal (source_checks src) → o ≡ Err y → number y ≡ due src a b c
first_due src a b c o y e q =
    let n : number y ≡ refusal (source_checks src) = sym (ap code q) ∙ e in
    sym (refused_source src a b c (number y) n (above y))

-- One that is not.
module _ (src t e l : List ℕ) (r : ℕ) (q : r ≡ refusal (source_checks src)) (z : r ≡ 0)
    (x : Ends) (t₁ e₁ l₁ : List ℕ) (k : Ended src t e l x t₁ e₁ l₁)
    (bt : length t₁ ≡ length t) (be : length e₁ ≡ length e) (bl : length l₁ ≡ length l) (nt : length t < far) (ne : length e < far) where
  abbrev full : Full
  full = full_reading src

  few_bytes : length src ≤ longest_source
  few_bytes = source_length src r q z

  -- The entries, where no body holds too many ##.
  many_entries : length (entries_of full) ≡ Width.entry * length full.entry_list
  many_entries = length_entries full.entry_list

  entries_countable : Countable (length full.entry_list)
  unfolding full_reading
  entries_countable = omega (arith, few_entries src, few_bytes)

  -- The errors, which have no lines and columns yet.
  abbrev bare : List ℕ
  bare = error_numbers [] full.error_list

  many_errors : length (errors_of full) ≡ Width.error * length full.error_list
  many_errors = length_errors full.lines full.error_list

  many_bare : length bare ≡ Width.error * length full.error_list
  many_bare = length_errors [] full.error_list

  errors_countable : Countable (length full.error_list)
  unfolding full_reading
  errors_countable = omega (arith, few_errors src, few_bytes)

  module _ (h : x.errors ≤ length e₁) where
    errors_fit : length (errors_of full) ≤ length e
    errors_fit = omega (arith, many_errors, many_bare, laid_fits k.errors ne h)

    errors_end : x.errors ≡ length (errors_of full)
    errors_end = omega (arith, many_errors, many_bare, laid_end k.errors ne h)

    error_count : x.errors / Width.error ≡ length full.error_list
    error_count = omega (arith, errors_end, many_errors)

    errors_located : resolved full.lines e₁ 0 (x.errors / Width.error) ≡ sets e 0 (errors_of full)
    errors_located = rw (laid_table k.errors ne h, error_count) (resolved_written full.lines [] full.error_list e (laid_fits k.errors ne h))

  -- The lines.
  lines_countable : Countable (length full.lines)
  unfolding full_reading
  lines_countable = omega (arith, few_lines src, few_bytes)

  module _ (h : x.lines ≤ length l₁) where
    lines_fit : length full.lines ≤ length l
    lines_fit = omega (arith, k.lines.count_is)

    lines_are : take x.lines l₁ ≡ full.lines
    lines_are = front_is full.lines l l₁ x.lines k.lines.table_is k.lines.count_is lines_fit

    lines_start : Starts l₁ x.lines
    unfolding full_reading
    lines_start = record { within = h; rising = ap line_table lines_are ∙ lines_rise src }

  -- Everything fits.
  record Good : Type 0 where
    not_over : x.over ≡ false
    entries : x.entries ≤ length t₁
    errors : x.errors ≤ length e₁
    lines : x.lines ≤ length l₁

  module _ (g : Good) where
    entry_count : x.entries / Width.entry ≡ length full.entry_list
    entry_count = omega (arith, laid_end (k.entries g.not_over) nt g.entries, many_entries)

    good_fit : Fit x t₁ e₁ l₁
    good_fit = record {
      entries = g.entries;
      errors = g.errors;
      lines = lines_start g.lines;
      entry_count = omega (arith, entry_count, entries_countable);
      error_count = omega (arith, error_count g.errors, errors_countable);
      line_count = omega (arith, k.lines.count_is, lines_countable);
    }

    good_whole : (a : Reading) (t₂ e₂ l₂ : List ℕ) → Finished x t₁ e₁ l₁ a t₂ e₂ l₂ → Whole full (length t) (length e) (length l) a t₂ e₂ l₂
    good_whole a t₂ e₂ l₂ f = record {
      entry_count = ap (λ (y : Reading). y.entries) f.answer ∙ entry_count;
      error_count = ap (λ (y : Reading). y.errors) f.answer ∙ error_count g.errors;
      line_count = ap (λ (y : Reading). y.lines) f.answer ∙ k.lines.count_is;
      entry_table = f.entry_table ∙ laid_cleared (k.entries g.not_over) nt g.entries;
      error_table = f.error_table
          ∙ ap (λ y. cleared_behind x.errors (resolved y e₁ 0 (x.errors / Width.error))) (lines_are g.lines)
          ∙ cleared_is (errors_of full) e _ x.errors (errors_located g.errors) (errors_end g.errors) (errors_fit g.errors);
      line_table = f.line_table ∙ cleared_is full.lines l l₁ x.lines k.lines.table_is k.lines.count_is (lines_fit g.lines);
    }

  -- What is found where the reading ended is the refusal of the call; where it is none, everything fits.
  abbrev found : ℕ
  found = refusal (ended_checks x (length t₁) (length e₁) (length l₁))

  record Decided (n : ℕ) : Type 0 where
    same : due src (length t) (length e) (length l) ≡ n
    good : n ≡ 0 → Good

  refuse : (n : ℕ) → (n ≡ 0 → ⊥) → due src (length t) (length e) (length l) ≡ n → n ≡ found → Decided found
  refuse n d h i = rw (← i) (record { same = h; good = λ j. absurd (d j) })

  decided : Decided found
  decided = go x.over refl
    where
      told : (b : Bool) → x.over ≡ b → too_many full.concats ≡ b
      told b o = sym k.over ∙ o

      lines : (o : x.over ≡ false) (i : x.entries ≤ length t₁) (j : x.errors ≤ length e₁) → Decided found
      lines o i j = elim (dec_le x.lines (length l₁)) [
        | yes h ↦
            let s : 0 ≡ found = ended_well x _ _ _ o i j h in
            rw (← s) (record {
              same = not_refused src _ _ _ r q z (told false o) (laid_fits (k.entries o) nt i) (errors_fit j) (lines_fit h);
              good = λ n. record { not_over = o; entries = i; errors = j; lines = h };
            })
        | no h ↦
            refuse Refusal.LINES (λ n. omega arith)
            (refused_lines src _ _ _ r q z (told false o) (laid_fits (k.entries o) nt i) (errors_fit j) (omega (arith, k.lines.count_is)))
            (ended_lines x _ _ _ o i j (omega arith))
      ]

      errors : (o : x.over ≡ false) (i : x.entries ≤ length t₁) → Decided found
      errors o i = elim (dec_le x.errors (length e₁)) [
        | yes h ↦ lines o i h
        | no h ↦
            refuse Refusal.ERRORS (λ n. omega arith)
            (refused_errors src _ _ _ r q z (told false o) (laid_fits (k.entries o) nt i) (omega (arith, many_errors, many_bare, laid_short k.errors (λ n. omega (arith, many_bare)) (omega arith))))
            (ended_errors x _ _ _ o i (omega arith))
      ]

      go : (b : Bool) → x.over ≡ b → Decided found
      go true o = refuse Refusal.CONCATS (λ n. omega arith) (refused_concats src _ _ _ r q z (told true o)) (ended_over x _ _ _ o)
      go false o = elim (dec_le x.entries (length t₁)) [
        | yes h ↦ errors o h
        | no h ↦
            refuse Refusal.ENTRIES (λ n. omega arith)
            (refused_entries src _ _ _ r q z (told false o) (laid_short (k.entries o) (λ n. omega (arith, many_entries, entries_countable)) (omega arith)))
            (ended_entries x _ _ _ o (omega arith))
      ]

  -- By what the test of the tables says the source is refused,
  module _ (o : Result ⊤ Code) (i : code o ≡ refusal (ended_checks x (length t₁) (length e₁) (length l₁))) where
    pub later_due : (y : Code) → o ≡ Err y → number y ≡ due src (length t) (length e) (length l)
    later_due y p = sym (ap code p) ∙ i ∙ sym decided.same

    -- or its reading fits.
    pub accepted : (u : ⊤) → o ≡ Ok u → Accepted src t e l x t₁ e₁ l₁
    accepted u p =
        let n : found ≡ 0 = sym i ∙ ap code p in
        let g : Good = decided.good n in
        record { passed = sym q ∙ z; none = decided.same ∙ n; ended = k; not_over = g.not_over; fit = good_fit g }

-- The answers, of tables that kept their lengths.
module _ (src t e l t₁ e₁ l₁ : List ℕ) (bt : length t₁ ≡ length t) (be : length e₁ ≡ length e) (bl : length l₁ ≡ length l) (a : Reading) (t₂ e₂ l₂ : List ℕ) where
  pub refused_read : (y : Code) → number y ≡ due src (length t) (length e) (length l) → Refused (number y) (length t₁) (length e₁) (length l₁) a t₂ e₂ l₂
      → ReadsSource src (length t) (length e) (length l) a t₂ e₂ l₂
  refused_read y d f =
      rw f.answer (refused_by src _ _ _ (number y) t₂ e₂ l₂ (above y) (sym d)
      (f.entry_table ∙ ap zeros bt) (f.error_table ∙ ap zeros be) (f.line_table ∙ ap zeros bl))

  pub accepted_read : (x : Ends) → length t < far → length e < far → Accepted src t e l x t₁ e₁ l₁ → Finished x t₁ e₁ l₁ a t₂ e₂ l₂
      → ReadsSource src (length t) (length e) (length l) a t₂ e₂ l₂
  accepted_read x nt ne k f =
      let g : Good src t e l _ refl k.passed x t₁ e₁ l₁ k.ended bt be bl nt ne
      = record { not_over = k.not_over; entries = k.fit.entries; errors = k.fit.errors; lines = k.fit.lines.within } in
      accepted_by src _ _ _ a t₂ e₂ l₂ k.none (ap (λ (y : Reading). y.refusal) f.answer)
      (good_whole src t e l _ refl k.passed x t₁ e₁ l₁ k.ended bt be bl nt ne g a t₂ e₂ l₂ f)
