-- Demand 3, said of the counted numbers that a reading leaves in its tables (01, "The words of demand 3").
use Rattle.std.specs.Prelude.{ℕ, zero, suc, ◌≡◌, ◌↔◌, List, [], ◌∷◌, ◌++◌, map, eqb, length, get_or, drop, if◌then◌else◌}
use Rattle.std.proofs.Math.Seq.{slice}
use Rattle.definition.specs.Tree.{Leaf, bytes, Entry, Width, Form}
use Rattle.definition.specs.Grammar.{Cut, Division, Keeps}
use Rattle.definition.specs.Calls.{Reading}

-- The first n entries of an entry table.
unfoldable pub entries_in : ℕ → List ℕ → List Entry
entries_in zero table = []
entries_in (suc n) table =
    record { form = get_or table 0 0; kind = get_or table 1 0; level = get_or table 2 0; start = get_or table 3 0; end = get_or table 4 0 }
    ∷ entries_in n (drop Width.entry table)

-- The entries of form 0, in table order.
unfoldable pub leaf_entries : List Entry → List Entry
leaf_entries [] = []
leaf_entries (e ∷ es) = if eqb e.form Form.leaf then e ∷ leaf_entries es else leaf_entries es

-- The leaf of an entry: its kind, and the source's bytes from its start to its end.
unfoldable pub leaf_of : List ℕ → Entry → Leaf
leaf_of src e = record { kind = e.kind; start = e.start; bytes = slice e.start e.end src }

-- Each entry starts where the one before it ends.
unfoldable pub Follow : List Entry → Type 0
Follow [] = Unit {0}
Follow (e ∷ []) = Unit {0}
Follow (e ∷ f ∷ es) = (f.start ≡ e.end) × Follow (f ∷ es)

-- The counted leaves of a reading, as entries and as leaves.
abbrev pub counted_leaves : Reading → List Entry
counted_leaves r = leaf_entries (entries_in r.entry_count r.entry_table)

abbrev pub leaves_read : List ℕ → Reading → List Leaf
leaves_read src r = map (leaf_of src) (counted_leaves r)

pub record Demand3 (src : List ℕ) (r : Reading) : Type 0 where
  -- The first leaf starts at byte 0,
  pub first_at_0 : (e : Entry) (es : List Entry) → counted_leaves r ≡ e ∷ es → e.start ≡ 0
  -- each later one where the leaf before it ends,
  pub each_follows : Follow (counted_leaves r)
  -- and the last ends where the source ends,
  pub last_at_end : (e : Entry) (es : List Entry) → counted_leaves r ≡ es ++ (e ∷ []) → e.end ≡ length src
  -- so that the leaves, joined in order, are the source byte for byte;
  pub joined_leaves : bytes (leaves_read src r) ≡ src
  -- there is no leaf exactly when the source is empty.
  pub no_leaf : (counted_leaves r ≡ []) ↔ (src ≡ [])
  -- The error list is empty exactly when the leaves keep the directive grammar of 01;
  pub errors_or_grammar : (r.error_count ≡ 0) ↔ Keeps (leaves_read src r)
  -- and where they keep it, that grammar divides them into items in exactly one way.
  pub one_way : (cs ds : List Cut) → Division cs (leaves_read src r) → Division ds (leaves_read src r) → cs ≡ ds
