-- The outcome of a reading: all its promises follow from one equation, and the equation from what was written and where.
use Prim.Native.Nat.{ℕ, ◌≤◌, ◌<◌}
use mathlib.Core.Path.{◌≡◌, refl, ap, sym, ◌∙◌}
use mathlib.Core.Bool.{true, false}
use mathlib.Core.List.{List, [], ◌∷◌}
use lib.ListN.{length}
use borrow.Author.Tests.{lt-ltb, le-ltb, ne_eqb}
use Rattle.definition.specs.Tree.{Forest, entries, entry_numbers, body_concats}
use Rattle.definition.specs.Syntax.{parse_define_body}
use Rattle.definition.specs.Calls.{Check, Refusal, Full, full_reading, entries_of, errors_of, padded, filled, refusal, too_many, too_many_concats, short_table, source_checks, reading_checks, outcome, reading, reading_body}
use Rattle.theorems.proofs.Refusals.{reading_refuses, reading_zero_entries, reading_zero_errors, reading_zero_lines, body_refuses, body_zeros}
use Rattle.theorems.proofs.Demand3.{demand3}
use Rattle.text.specs.declared.Counted.{Counted}
use Rattle.table.specs.Fills.{Fills}
use Rattle.table.proofs.Tables.{zeros}
use Rattle.text.proofs.Refusals.{source_refused, source_passed}
use Rattle.tables.specs.declared.Reading.{Reading}
use Rattle.reading.specs.Promise.{left_by, Whole, ReadsSource, body_checks, ReadsDefineBody}

-- What a reading checks after its source.
abbrev later_checks : Full → ℕ → ℕ → ℕ → List Check
later_checks f a b c =
    too_many_concats f.concats ∷ short_table Refusal.ENTRIES (entries_of f) a ∷ short_table Refusal.ERRORS (errors_of f) b ∷ short_table Refusal.LINES f.lines c ∷ []

module _ (src : List ℕ) (a b c : ℕ) where
  abbrev full : Full
  full = full_reading src

  -- The counts and the tables of an accepted source.
  whole_of : (reading src a b c).refused ≡ 0 → (r : Reading) (x y z : List ℕ) → left_by r x y z ≡ reading src a b c → Whole full a b c r x y z
  unfolding reading outcome filled
  whole_of h r x y z e =
      let k : refusal (reading_checks src full a b c) ≡ 0 = h in
      let q : left_by r x y z ≡ outcome 0 full a b c = e ∙ ap (λ n. outcome n full a b c) k in
      record {
        entry_count = ap (λ o. o.entry_count) q;
        error_count = ap (λ o. o.error_count) q;
        line_count = ap (λ o. o.line_count) q;
        entry_table = ap (λ o. o.entry_table) q;
        error_table = ap (λ o. o.error_table) q;
        line_table = ap (λ o. o.line_table) q;
      }

  -- The equation of demand 2 gives the rest.
  pub promised : (r : Reading) (x y z : List ℕ) → left_by r x y z ≡ reading src a b c → ReadsSource src a b c r x y z
  promised r x y z e = record {
    refusal = rw (ap (λ o. o.refused) e) (reading_refuses src a b c);
    zero_entries = rw (ap (λ o. o.refused) e, ap (λ o. o.entry_count) e, ap (λ o. o.entry_table) e) (reading_zero_entries src a b c);
    zero_errors = rw (ap (λ o. o.refused) e, ap (λ o. o.error_count) e, ap (λ o. o.error_table) e) (reading_zero_errors src a b c);
    zero_lines = rw (ap (λ o. o.refused) e, ap (λ o. o.line_count) e, ap (λ o. o.line_table) e) (reading_zero_lines src a b c);
    whole = λ h. whole_of (sym (ap (λ o. o.refused) e) ∙ h) r x y z e;
    outcome = e;
    demand3 = λ h. rw e (demand3 src a b c (sym (ap (λ o. o.refused) e) ∙ h));
  }

  -- Refused by k, with zeros,
  pub refused_by : (k : ℕ) (x y z : List ℕ) → (k ≡ 0 → ⊥) → refusal (reading_checks src full a b c) ≡ k → x ≡ zeros a → y ≡ zeros b → z ≡ zeros c
      → ReadsSource src a b c (record { refusal = k; entries = 0; errors = 0; lines = 0 }) x y z
  unfolding reading outcome filled
  refused_by k x y z d e p q s = promised _ x y z (rw (e, ne_eqb k 0 d, p, q, s) refl)

  -- or accepted.
  pub accepted_by : (r : Reading) (x y z : List ℕ) → refusal (reading_checks src full a b c) ≡ 0 → r.refusal ≡ 0 → Whole full a b c r x y z
      → ReadsSource src a b c r x y z
  unfolding reading outcome filled
  accepted_by r x y z e n w =
      promised r x y z (rw (e, n, w.entry_count, w.error_count, w.line_count, w.entry_table, w.error_table, w.line_table) refl)

  -- The refusals after those of the source, in their order.
  module _ (r : ℕ) (e : r ≡ refusal (source_checks src)) where
    pub refused_source : (r ≡ 0 → ⊥) → refusal (reading_checks src full a b c) ≡ r
    refused_source d = source_refused src r e _ d

    module _ (z : r ≡ 0) where
      passed : refusal (reading_checks src full a b c) ≡ refusal (later_checks full a b c)
      passed = source_passed src r e (later_checks full a b c) z

      pub refused_concats : too_many full.concats ≡ true → refusal (reading_checks src full a b c) ≡ Refusal.CONCATS
      unfolding refusal
      refused_concats h = passed ∙ rw h refl

      module _ (h : too_many full.concats ≡ false) where
        pub refused_entries : a < length (entries_of full) → refusal (reading_checks src full a b c) ≡ Refusal.ENTRIES
        unfolding refusal
        refused_entries i = passed ∙ rw (h, lt-ltb a (length (entries_of full)) i) refl

        module _ (i : length (entries_of full) ≤ a) where
          pub refused_errors : b < length (errors_of full) → refusal (reading_checks src full a b c) ≡ Refusal.ERRORS
          unfolding refusal
          refused_errors j = passed ∙ rw (h, le-ltb a (length (entries_of full)) i, lt-ltb b (length (errors_of full)) j) refl

          module _ (j : length (errors_of full) ≤ b) where
            pub refused_lines : c < length full.lines → refusal (reading_checks src full a b c) ≡ Refusal.LINES
            unfolding refusal
            refused_lines k = passed ∙ rw (h, le-ltb a (length (entries_of full)) i, le-ltb b (length (errors_of full)) j, lt-ltb c (length full.lines) k) refl

            pub not_refused : length full.lines ≤ c → refusal (reading_checks src full a b c) ≡ 0
            unfolding refusal
            not_refused k = passed ∙ rw (h, le-ltb a (length (entries_of full)) i, le-ltb b (length (errors_of full)) j, le-ltb c (length full.lines) k) refl

-- The same of a define body.
module _ (src : List ℕ) (a : ℕ) where
  abbrev tree : Forest
  tree = parse_define_body src

  abbrev numbers : List ℕ
  numbers = entry_numbers (entries 0 0 tree)

  pub body_promised : (r : Counted) (t : List ℕ) → Fills (reading_body src a) r t → ReadsDefineBody src a r t
  unfolding reading_body filled
  body_promised r t f =
      record {
        refusal = rw f.refusal_is (body_refuses src a);
        zero_entries = rw (f.refusal_is, f.count_is, f.table_is) (body_zeros src a);
        whole = λ h.
            let k : refusal (body_checks src a) ≡ 0 = sym f.refusal_is ∙ h in
            record { entry_count = f.count_is ∙ rw k refl; entry_table = f.table_is ∙ rw k refl };
        outcome = f;
      }

  -- Refused by k, with zeros,
  pub body_refused_by : (k : ℕ) (r : Counted) (t : List ℕ) → (k ≡ 0 → ⊥) → refusal (body_checks src a) ≡ k → r ≡ record { refusal = k; count = 0 } → t ≡ zeros a
      → ReadsDefineBody src a r t
  unfolding reading_body filled
  body_refused_by k r t d e i q =
      rw i (body_promised _ t (record { refusal_is = sym e; count_is = rw (e, ne_eqb k 0 d) refl; table_is = rw (e, ne_eqb k 0 d) q }))

  -- or accepted.
  pub body_accepted_by : (n : ℕ) (r : Counted) (t : List ℕ) → refusal (body_checks src a) ≡ 0 → n ≡ length (entries 0 0 tree) → r ≡ record { refusal = 0; count = n }
      → t ≡ padded numbers a → ReadsDefineBody src a r t
  unfolding reading_body filled
  body_accepted_by n r t e c i q = rw i (body_promised _ t (record { refusal_is = sym e; count_is = rw e c; table_is = rw e q }))

  -- The refusals after those of the source, in their order.
  module _ (r : ℕ) (e : r ≡ refusal (source_checks src)) where
    pub body_refused_source : (r ≡ 0 → ⊥) → refusal (body_checks src a) ≡ r
    body_refused_source d = source_refused src r e _ d

    module _ (z : r ≡ 0) where
      body_passed : refusal (body_checks src a) ≡ refusal (too_many_concats (body_concats tree) ∷ short_table Refusal.ENTRIES numbers a ∷ [])
      body_passed = source_passed src r e _ z

      pub body_refused_concats : too_many (body_concats tree) ≡ true → refusal (body_checks src a) ≡ Refusal.CONCATS
      unfolding refusal
      body_refused_concats h = body_passed ∙ rw h refl

      module _ (h : too_many (body_concats tree) ≡ false) where
        pub body_refused_entries : a < length numbers → refusal (body_checks src a) ≡ Refusal.ENTRIES
        unfolding refusal
        body_refused_entries i = body_passed ∙ rw (h, lt-ltb a (length numbers) i) refl

        pub body_not_refused : length numbers ≤ a → refusal (body_checks src a) ≡ 0
        unfolding refusal
        body_not_refused i = body_passed ∙ rw (h, le-ltb a (length numbers) i) refl
