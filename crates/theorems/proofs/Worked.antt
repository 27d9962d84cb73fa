-- The worked and the recorded readings: the law that turns their computed tests into an equation for each, and the grammar on them.
use Prim.Native.Nat.{ℕ, ◌*◌}
use mathlib.Core.Path.{◌≡◌, refl, ap, ap₂, sym, ◌∙◌, subst, subst⁻¹}
use mathlib.Core.Bool.{true, false≢true, and-eq-true_iff}
use mathlib.Core.List.Memᴰ
use mathlib.Core.List.{List, [], ◌∷◌, ◌++◌, map, Memᴰ}
use mathlib.Core.Logic.{inl, inr, ◌↔◌}
use lib.Dec.{eqb}
use lib.ListN.{length, take, drop, get_or}
use lib.Seq.{take-append_seam}
use borrow.Author.Tests.{eqb-true}
use Rattle.definition.specs.Text.{same}
use Rattle.definition.specs.Tree.{Leaf, Entry, Width, entry_numbers}
use Rattle.definition.specs.Grammar.{Keeps}
use Rattle.definition.specs.Calls.{full_reading, entries_of, errors_of, Reading, outcome, reading, filled, padded}
use Rattle.definition.specs.Listed.{listed}
use Rattle.definition.proofs.Worked.{Worked, worked, all_listed, worked_listed}
use Rattle.definition.proofs.Recorded.{recorded, recorded_listed}
use Rattle.theorems.specs.Demand3.{entries_in, leaf_entries, leaf_of, leaves_read}
use Rattle.theorems.proofs.Refusals.{length_entries}
use Rattle.theorems.proofs.Entries.{entries_back}
use Rattle.theorems.proofs.Demand3.{accepted, demand3}

pub same_equal : (xs ys : List ℕ) → same xs ys ≡ true → xs ≡ ys
unfolding same
same_equal [] [] e = refl
same_equal [] (y ∷ ys) e = absurd (false≢true e)
same_equal (x ∷ xs) [] e = absurd (false≢true e)
same_equal (x ∷ xs) (y ∷ ys) e =
    let h = (and-eq-true_iff (eqb x y) (same xs ys)).0 e in
    ap₂ (λ a l. a ∷ l) (eqb-true x y h.0) (same_equal xs ys h.1)

each_listed : (ws : List Worked) → all_listed ws ≡ true → (w : Worked) → Memᴰ w ws → listed w.source ≡ w.numbers
unfolding all_listed
each_listed [] e w m = absurd (Memᴰ.not-nil m)
each_listed (v ∷ ws) e w m =
    let h = (and-eq-true_iff (same (listed v.source) v.numbers) (all_listed ws)).0 e in
    elim (Memᴰ.cases_cons m) [
      | inl q ↦ rw q (same_equal (listed v.source) v.numbers h.0)
      | inr k ↦ each_listed ws h.1 w k
    ]

pub worked_readings : (w : Worked) → Memᴰ w worked → listed w.source ≡ w.numbers
worked_readings w m = each_listed worked worked_listed w m

pub recorded_readings : (w : Worked) → Memᴰ w recorded → listed w.source ≡ w.numbers
recorded_readings w m = each_listed recorded recorded_listed w m

-- The leaves of a listing: its entries of form 0, each with the source's bytes from its start to its end.
unfoldable pub listed_leaves : List ℕ → List ℕ → List Leaf
listed_leaves src numbers = map (leaf_of src) (leaf_entries (entries_in (get_or numbers 1 0) (drop 4 numbers)))

-- A reading as it is listed.
unfoldable listing : Reading → List ℕ
listing r = r.refused ∷ r.entry_count ∷ r.error_count ∷ r.line_count
    ∷ (take (Width.entry * r.entry_count) r.entry_table
    ++ (take (Width.error * r.error_count) r.error_table ++ take r.line_count r.line_table))

whole : (es : List Entry) (zs more : List ℕ)
    → entries_in (length es) (take (Width.entry * length es) (entry_numbers es ++ zs) ++ more) ≡ entries_in (length es) (entry_numbers es ++ zs)
whole es zs more = rw (← length_entries es, take-append_seam (entry_numbers es) zs) (entries_back es more ∙ sym (entries_back es zs))

module _ (src : List ℕ) where
  abbrev exact : Reading
  exact = let f = full_reading src in reading src (length (entries_of f)) (length (errors_of f)) (length f.lines)

  is_listing : listed src ≡ listing exact
  unfolding listed listing
  is_listing = refl

  -- The leaves of an accepted reading's listing are those of its table.
  same_leaves : exact.refused ≡ 0 → listed_leaves src (listing exact) ≡ leaves_read src exact
  unfolding listed_leaves listing outcome filled padded
  same_leaves h =
      let es : List Entry = (full_reading src).entry_list in
      subst⁻¹ (λ r. listed_leaves src (listing r) ≡ leaves_read src r) (accepted src _ _ _ h)
      (ap (λ l. map (leaf_of src) (leaf_entries l)) (whole es _ _))

  -- It has no error exactly when they keep the grammar.
  at_exact : exact.refused ≡ 0 → (exact.error_count ≡ 0) ↔ Keeps (listed_leaves src (listing exact))
  at_exact h = rw (same_leaves h) (demand3 src _ _ _ h).errors_or_grammar

  by_grammar : (numbers : List ℕ) → listed src ≡ numbers → get_or numbers 0 0 ≡ 0 → (get_or numbers 2 0 ≡ 0) ↔ Keeps (listed_leaves src numbers)
  unfolding listing
  by_grammar numbers e = subst (λ l. get_or l 0 0 ≡ 0 → (get_or l 2 0 ≡ 0) ↔ Keeps (listed_leaves src l)) (sym is_listing ∙ e) at_exact

-- A worked or recorded reading without errors keeps the grammar, and one with errors breaks it.
pub kept_or_broken : (w : Worked) → Memᴰ w (worked ++ recorded) → get_or w.numbers 0 0 ≡ 0
    → (get_or w.numbers 2 0 ≡ 0) ↔ Keeps (listed_leaves w.source w.numbers)
kept_or_broken w m =
    by_grammar w.source w.numbers (elim (Memᴰ.append_cases worked m) [ inl k ↦ worked_readings w k | inr k ↦ recorded_readings w k ])
