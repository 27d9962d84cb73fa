-- Every call on a source answers as on the source with tabs (Req 02): refusal, counts and tables.
use Rattle.std.specs.Prelude.{if◌then◌else◌}
use Prim.Native.Nat.{ℕ, zero, suc, ◌+◌, ◌-◌, ◌≤◌}
use native.Mathlib.Omega.{arith}
use mathlib.Core.Path.{◌≡◌, refl, ap, ap₂, sym, ◌∙◌}
use mathlib.Core.Bool.{Bool, true, false, not, ◌&&◌, ◌||◌, and-eq-true_iff}
use mathlib.Core.List.{List, [], ◌∷◌, ◌++◌, map-append}
use mathlib.Core.Option.{Option, none, some, none-ne-some, some-injective}
use lib.Dec.{eqb, leb, ltb}
use lib.ListN.{length, length-map, replicate}
use borrow.Author.Tests.{leb-true, lt-leb}
use Rattle.definition.specs.SyntaxKind.{Kind}
use Rattle.definition.specs.Utf8.{Span, CharForm, within, char_forms, follow, left, is_nothing, is_cut, utf8, ends_inside}
use Rattle.definition.specs.Newline.{VT}
use Rattle.definition.specs.LineMap.{line_starts}
use Rattle.definition.specs.Unescaped.{unescaped}
use Rattle.definition.specs.Glue.{tokens, token_numbers}
use Rattle.definition.specs.Tree.{Leaf, long, Forest, nil, leaf, node, leaves, size, entries, leaf_entry, node_entry, entry_numbers, body_kind, concat_ops, body_concats}
use Rattle.definition.specs.Syntax.{parse, parse_define_body}
use Rattle.definition.specs.Calls.{Check, Refusal, longest_source, refusal, source_checks, too_many_concats, short_table, counted, padded, filled, full_reading, entries_of, errors_of, outcome, reading, Filled, fills, reading_body, listing_tokens, building_lines, unescaping}
use Rattle.theorems.specs.Tabbed.{TAB, as_tab, tabbed, tabbed_leaf, tabbed_row, tabbed_forest, tabbed_filled}
use Rattle.theorems.proofs.Tabbed.Tokens.{by_tab, tokens_tabbed, numbers_tabbed, lines_tabbed, unescaped_tabbed}
use Rattle.theorems.proofs.Tabbed.Readers.{if_as}
use Rattle.theorems.proofs.Tabbed.Items.{parse_tabbed, define_body_tabbed}

-- UTF-8: neither tab is a later byte of a character.
abbrev high : List Span → Bool
high [] = true
high (s ∷ ss) = leb 128 s.low && high ss

abbrev all_high : List CharForm → Bool
all_high [] = true
all_high (f ∷ fs) = high f.later && all_high fs

follow_high : (fs : List CharForm) (b : ℕ) (ss : List Span) → all_high fs ≡ true → follow fs b ≡ some ss → high ss ≡ true
unfolding follow
follow_high [] b ss h e = absurd (none-ne-some ss e)
follow_high (f ∷ fs) b ss h e = let p = (and-eq-true_iff (high f.later) (all_high fs)).0 h in go (within f.first b) refl p.0 (follow_high fs b ss p.1)
  where
    go : (t : Bool) → within f.first b ≡ t → high f.later ≡ true → (follow fs b ≡ some ss → high ss ≡ true) → high ss ≡ true
    go true w h ih = rw (some-injective f.later ss (rw (w, follow) at e)) at h
    go false w h ih = ih (rw (w, follow) at e)

within_tab : (s : Span) → leb 128 s.low ≡ true → within s TAB ≡ within s VT
within_tab s h =
    let l : 128 ≤ s.low = leb-true 128 s.low h in
    rw (lt-leb s.low TAB (omega arith), lt-leb s.low VT (omega arith)) refl

-- The first bytes are told apart by no form, and every later span is high.
first_tab : (b : ℕ) → follow char_forms (as_tab b) ≡ follow char_forms b
unfolding follow char_forms
first_tab b = by_tab (follow char_forms) refl b

forms_high : all_high char_forms ≡ true
unfolding char_forms
forms_high = refl

left_tabbed : (ss : List Span) (bs : List ℕ) → high ss ≡ true → left ss (tabbed bs) ≡ left ss bs
unfolding left
left_tabbed [] [] h = refl
left_tabbed (s ∷ ss) [] h = refl
left_tabbed [] (b ∷ bs) h = go (follow char_forms b) refl (λ ss. left_tabbed ss bs)
  where
    go : (o : Option (List Span)) → follow char_forms b ≡ o → ((ss : List Span) → high ss ≡ true → left ss (tabbed bs) ≡ left ss bs)
        → left [] (tabbed (b ∷ bs)) ≡ left [] (b ∷ bs)
    go none e ih = let z = first_tab b ∙ e in rw (e, z, left) refl
    go (some ss) e ih = let z = first_tab b ∙ e in rw (e, z, left) (ih ss (follow_high char_forms b ss forms_high e))
left_tabbed (s ∷ ss) (b ∷ bs) h = let p = (and-eq-true_iff (leb 128 s.low) (high ss)).0 h in go (within s b) refl (by_tab (within s) (within_tab s p.0) b) (left_tabbed ss bs p.1)
  where
    go : (t : Bool) → within s b ≡ t → within s (as_tab b) ≡ within s b → left ss (tabbed bs) ≡ left ss bs
        → left (s ∷ ss) (tabbed (b ∷ bs)) ≡ left (s ∷ ss) (b ∷ bs)
    go true e q ih = let z = q ∙ e in rw (e, z, left) ih
    go false e q ih = let z = q ∙ e in rw (e, z, left) refl

-- So the checks of a source are the same.
checks_tabbed : (src : List ℕ) → source_checks (tabbed src) ≡ source_checks src
unfolding utf8 ends_inside
checks_tabbed src =
    ap₂
    (λ n l. record { number = Refusal.LENGTH; fails = ltb longest_source n } ∷ record { number = Refusal.UTF8; fails = not (is_nothing l || is_cut l) } ∷ record { number = Refusal.CUT; fails = is_cut l } ∷ [])
    (length-map src as_tab)
    (left_tabbed [] src refl)

-- A row of trees has the same entries, and as many ##.
size_tabbed : (f : Forest) → size (tabbed_forest f) ≡ size f
unfolding size tabbed_forest
size_tabbed nil = refl
size_tabbed (leaf t f) = ap₂ (λ m n. m + n) (length-map t.bytes as_tab) (size_tabbed f)
size_tabbed (node k c f) = ap₂ (λ m n. m + n) (size_tabbed c) (size_tabbed f)

entries_tabbed : (l at : ℕ) (f : Forest) → entries l at (tabbed_forest f) ≡ entries l at f
unfolding entries tabbed_forest
entries_tabbed l at nil = refl
entries_tabbed l at (leaf t f) =
    ap (λ n. leaf_entry t.kind l at (at + n) ∷ entries l (at + n) (tabbed_forest f)) (length-map t.bytes as_tab)
    ∙ ap (λ es. leaf_entry t.kind l at (at + long t) ∷ es) (entries_tabbed l (at + long t) f)
entries_tabbed l at (node k c f) =
    ap (λ n. node_entry k l at (at + n) ∷ (entries (l + 1) at (tabbed_forest c) ++ entries l (at + n) (tabbed_forest f))) (size_tabbed c)
    ∙ ap₂ (λ es fs. node_entry k l at (at + size c) ∷ (es ++ fs)) (entries_tabbed (l + 1) at c) (entries_tabbed l (at + size c) f)

ops_tabbed : (ts : List Leaf) → concat_ops (tabbed_row ts) ≡ concat_ops ts
unfolding concat_ops
ops_tabbed [] = refl
ops_tabbed (t ∷ ts) = ap (λ n. (if eqb t.kind Kind.PP_CONCAT_OP then 1 else 0) + n) (ops_tabbed ts)

forest_leaves : (f : Forest) → leaves (tabbed_forest f) ≡ tabbed_row (leaves f)
unfolding leaves tabbed_forest
forest_leaves nil = refl
forest_leaves (leaf t f) = ap (λ l. tabbed_leaf t ∷ l) (forest_leaves f)
forest_leaves (node k c f) = ap₂ ◌++◌ (forest_leaves c) (forest_leaves f) ∙ sym (map-append tabbed_leaf (leaves c) (leaves f))

concats_tabbed : (f : Forest) → body_concats (tabbed_forest f) ≡ body_concats f
unfolding body_concats tabbed_forest
concats_tabbed nil = refl
concats_tabbed (leaf t f) = concats_tabbed f
concats_tabbed (node k c f) =
    ap₂
    (λ n l. elim (body_kind k) [ true ↦ n ∷ [] | false ↦ l ] ++ body_concats (tabbed_forest f))
    (ap concat_ops (forest_leaves c) ∙ ops_tabbed (leaves c))
    (concats_tabbed c)
    ∙ ap (λ l. elim (body_kind k) [ true ↦ concat_ops (leaves c) ∷ [] | false ↦ body_concats c ] ++ l) (concats_tabbed f)

-- The full reading, and the calls.
full_tabbed : (src : List ℕ) → full_reading (tabbed src) ≡ full_reading src
unfolding full_reading
full_tabbed src =
    ap₂ (λ g ls. record { entry_list = entries 0 0 g.tree; error_list = g.errs; lines = ls; concats = body_concats g.tree }) (parse_tabbed src) (lines_tabbed src)
    ∙ ap₂ (λ es ns. record { entry_list = es; error_list = (parse src).errs; lines = line_starts src; concats = ns }) (entries_tabbed 0 0 (parse src).tree) (concats_tabbed (parse src).tree)

pub reading_tabbed : (src : List ℕ) (a b c : ℕ) → reading (tabbed src) a b c ≡ reading src a b c
unfolding reading
reading_tabbed src a b c =
    ap₂
    (λ cs f. outcome (refusal (cs ++ (too_many_concats f.concats ∷
    short_table Refusal.ENTRIES (entries_of f) a ∷ short_table Refusal.ERRORS (errors_of f) b ∷ short_table Refusal.LINES f.lines c ∷ []))) f a b c)
    (checks_tabbed src)
    (full_tabbed src)

module _ (src : List ℕ) (room : ℕ) where
  pub reading_body_tabbed : reading_body (tabbed src) room ≡ reading_body src room
  unfolding reading_body
  reading_body_tabbed =
      let f : Forest = parse_define_body src in
      ap₂
      (λ cs f. fills (refusal (cs ++ (too_many_concats (body_concats f) ∷ short_table Refusal.ENTRIES (entry_numbers (entries 0 0 f)) room ∷ []))) (length (entries 0 0 f)) (entry_numbers (entries 0 0 f)) room)
      (checks_tabbed src)
      (define_body_tabbed src)
      ∙ ap₂
      (λ es ns. fills (refusal (source_checks src ++ (too_many_concats ns ∷ short_table Refusal.ENTRIES (entry_numbers es) room ∷ []))) (length es) (entry_numbers es) room)
      (entries_tabbed 0 0 f)
      (concats_tabbed f)

  -- A call that fills its table with these numbers and has one check besides.
  abbrev one_table : ℕ → List Check → ℕ → List ℕ → Filled
  one_table k cs n ns = fills (refusal (cs ++ (short_table k ns room ∷ []))) n ns room

  pub listing_tokens_tabbed : listing_tokens (tabbed src) room ≡ listing_tokens src room
  unfolding listing_tokens
  listing_tokens_tabbed =
      ap₂ (λ cs ts. one_table Refusal.ENTRIES cs (length ts) (token_numbers 0 ts)) (checks_tabbed src) (tokens_tabbed false src)
      ∙ ap₂ (one_table Refusal.ENTRIES (source_checks src)) (length-map (tokens false src) _) (numbers_tabbed 0 (tokens false src))

  pub building_lines_tabbed : building_lines (tabbed src) room ≡ building_lines src room
  unfolding building_lines
  building_lines_tabbed = ap₂ (λ cs ns. one_table Refusal.LINES cs (length ns) ns) (checks_tabbed src) (lines_tabbed src)

-- Unescaping gives the bytes back: tabs where there were vertical tabs.
zeros_tabbed : (n : ℕ) → replicate n 0 ≡ tabbed (replicate n 0)
zeros_tabbed zero = refl
zeros_tabbed (suc n) = ap (λ l. 0 ∷ l) (zeros_tabbed n)

filled_tabbed : (r : ℕ) (ns : List ℕ) (room : ℕ) → filled r (tabbed ns) room ≡ tabbed (filled r ns room)
unfolding filled padded
filled_tabbed r ns room =
    ap₂
    (λ x y. if eqb r 0 then x else y)
    (ap (λ n. tabbed ns ++ replicate (room - n) 0) (length-map ns as_tab)
    ∙ ap (λ l. tabbed ns ++ l) (zeros_tabbed (room - length ns))
    ∙ sym (map-append as_tab ns (replicate (room - length ns) 0)))
    (zeros_tabbed room)
    ∙ if_as tabbed (eqb r 0) (ns ++ replicate (room - length ns) 0) (replicate room 0)

pub unescaping_tabbed : (src : List ℕ) (room : ℕ) → unescaping (tabbed src) room ≡ tabbed_filled (unescaping src room)
unfolding unescaping
unescaping_tabbed src room =
    let ns : List ℕ = unescaped src in
    let r : ℕ = refusal (source_checks src ++ (short_table Refusal.OUTPUT ns room ∷ [])) in
    ap₂ (λ cs ms. fills (refusal (cs ++ (short_table Refusal.OUTPUT ms room ∷ []))) (length ms) ms room) (checks_tabbed src) (unescaped_tabbed src)
    ∙ ap (λ n. fills (refusal (source_checks src ++ (record { number = Refusal.OUTPUT; fails = ltb room n } ∷ []))) n (tabbed ns) room) (length-map ns as_tab)
    ∙ ap (λ t. record { refused = r; count = counted r (length ns); table = t }) (filled_tabbed r ns room)
