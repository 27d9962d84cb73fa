-- Demand 3 of every accepted source, whatever the three table lengths.
use Prim.Native.Nat.{ℕ, ◌+◌, ◌-◌, ◌≤◌}
use mathlib.Core.Path.{◌≡◌, refl, ap, sym, ◌∙◌, subst}
use mathlib.Core.List.{List, [], ◌∷◌, map, append-nil}
use mathlib.Core.Logic.{◌↔◌}
use native.Mathlib.Omega.{arith}
use native.Mathlib.Nat.{zero-add}
use lib.ListN.{length, replicate, length-map}
use Rattle.definition.specs.Tree.{Leaf, bytes, Forest, leaves, size, entries, entry_numbers}
use Rattle.definition.specs.Syntax.{parse}
use Rattle.definition.specs.Grammar.{Keeps}
use Rattle.definition.specs.Calls.{Reading, full_reading, outcome, reading, padded, filled}
use Rattle.theorems.specs.Demand3.{Demand3, leaf_entries, leaf_of, counted_leaves, leaves_read}
use Rattle.theorems.proofs.Replay.Whole.{tiled, placed_leaves, few_leaves, replayed}
use Rattle.theorems.proofs.Grammar.Items.{sound, complete, unique}
use Rattle.theorems.proofs.Entries.{entries_back, Chain, chained, chain_first, chain_follow, chain_last, length_bytes, leaves_back}

-- An accepted reading leaves the full reading.
pub accepted : (src : List ℕ) (a b c : ℕ) → (reading src a b c).refused ≡ 0 → reading src a b c ≡ outcome 0 (full_reading src) a b c
unfolding reading outcome
accepted src a b c h = ap (λ r. outcome r (full_reading src) a b c) h

no_length : {A : Type 0} (l : List A) → length l ≡ 0 → l ≡ []
no_length [] e = refl
no_length (x ∷ l) e = absurd (omega arith)

-- No error is met exactly where the leaves keep the grammar.
keeps : (src : List ℕ) → ((parse src).errs ≡ []) ↔ Keeps (leaves (parse src).tree)
keeps src =
    let n : ℕ = length src in
    let L : List Leaf = leaves (parse src).tree in
    (λ e. sound n n L (few_leaves src) (replayed src ∙ e), λ k. sym (replayed src) ∙ complete n n k.0 L (few_leaves src) k.1)

module _ (src : List ℕ) (a b c : ℕ) where
  abbrev full : Reading
  full = outcome 0 (full_reading src) a b c

  abbrev tree : Forest
  tree = (parse src).tree

  -- The counted leaves of the table are those of the tree.
  table_leaves : counted_leaves full ≡ leaf_entries (entries 0 0 tree)
  unfolding outcome full_reading filled padded
  table_leaves = ap leaf_entries (entries_back (entries 0 0 tree) (replicate (a - length (entry_numbers (entries 0 0 tree))) 0))

  read_leaves : leaves_read src full ≡ leaves tree
  read_leaves =
      ap (map (leaf_of src)) table_leaves
      ∙ leaves_back src 0 0 tree (record { others = []; is = sym (append-nil (bytes (leaves tree)) ∙ tiled src) }) (placed_leaves src)

  whole : 0 + size tree ≡ length src
  whole = zero-add (size tree) ∙ sym (length_bytes tree) ∙ ap length (tiled src)

  chain : Chain 0 (counted_leaves full) (length src)
  chain = subst (λ n. Chain 0 (counted_leaves full) n) whole (subst (λ l. Chain 0 l (0 + size tree)) (sym table_leaves) (chained 0 0 tree))

  error_count : full.error_count ≡ length (parse src).errs
  unfolding outcome full_reading
  error_count = refl

  empty : src ≡ [] → counted_leaves full ≡ []
  empty e =
      let z : length (leaves tree) ≤ 0 = subst (λ n. length (leaves tree) ≤ n) (ap length e) (few_leaves src) in
      let y : length (counted_leaves full) ≡ length (leaves tree) = sym (length-map (counted_leaves full) (leaf_of src)) ∙ ap length read_leaves in
      no_length (counted_leaves full) (omega arith)

  joined_leaves : bytes (leaves_read src full) ≡ src
  joined_leaves = ap bytes read_leaves ∙ tiled src

  of_full : Demand3 src full
  unfolding bytes
  of_full = record {
    first_at_0 = λ e es q. chain_first 0 (length src) (counted_leaves full) es e chain q;
    each_follows = chain_follow 0 (length src) (counted_leaves full) chain;
    last_at_end = λ e es q. chain_last 0 (length src) (counted_leaves full) es e chain q;
    joined_leaves = joined_leaves;
    no_leaf = (λ q. sym joined_leaves ∙ ap (λ l. bytes (map (leaf_of src) l)) q, empty);
    errors_or_grammar = (
      λ q. subst Keeps (sym read_leaves) ((keeps src).0 (no_length (parse src).errs (sym error_count ∙ q))),
      λ k. error_count ∙ ap length ((keeps src).1 (subst Keeps read_leaves k)),
    );
    one_way = λ cs ds x y. unique cs ds (leaves_read src full) x y;
  }

pub demand3 : (src : List ℕ) (a b c : ℕ) → (reading src a b c).refused ≡ 0 → Demand3 src (reading src a b c)
demand3 src a b c h = subst (λ r. Demand3 src r) (sym (accepted src a b c h)) (of_full src a b c)
