-- The entries of a row of trees: appending, wrapping, and the leaves among them.
use Prim.Native.Nat.{ℕ, zero, suc, ◌+◌}
use mathlib.Core.Path.{◌≡◌, refl, ap, ap₂, sym, ◌∙◌, subst}
use mathlib.Core.Bool.{Bool, true, false}
use mathlib.Core.List.{List, [], ◌∷◌, ◌++◌, map, append_assoc, map-append}
use native.Mathlib.Nat.{add_assoc, add-zero, zero-add, suc-add}
use native.Mathlib.Omega.{arith}
use lib.ListN.{length, take, drop, length-append}
use lib.Seq.{slice, take-nil, drop-drop, take-append_seam, drop-append_seam}
use lib.Dec.{eqb}
use Rattle.definition.specs.Tree.{Leaf, long, bytes, Forest, nil, leaf, node, leaves, size, Entry, Form, entries, entry_numbers}
use Rattle.theorems.proofs.Tiling.Leaves.{bytes_append}
use Rattle.theorems.specs.Placed.{Placed}
use Rattle.theorems.specs.Demand3.{entries_in, leaf_entries, leaf_of, Follow}

-- A row of trees has the bytes of its leaves.
pub size_leaves : (f : Forest) → size f ≡ length (bytes (leaves f))
unfolding size leaves bytes
size_leaves nil = refl
size_leaves (leaf t f) = ap (λ n. long t + n) (size_leaves f) ∙ sym (length-append t.bytes (bytes (leaves f)))
size_leaves (node k c f) =
    rw (size_leaves c, size_leaves f) (sym (length-append (bytes (leaves c)) (bytes (leaves f)))) ∙ ap length (sym (bytes_append (leaves c) (leaves f)))

-- The numbers of entries give the entries back, whatever follows them.
pub entries_back : (es : List Entry) (zs : List ℕ) → entries_in (length es) (entry_numbers es ++ zs) ≡ es
unfolding entries_in entry_numbers
entries_back [] zs = refl
entries_back (e ∷ es) zs = ap (λ l. e ∷ l) (entries_back es zs)

-- The leaves among the entries.
leaf_entries_++ : (a b : List Entry) → leaf_entries (a ++ b) ≡ leaf_entries a ++ leaf_entries b
unfolding leaf_entries
leaf_entries_++ [] b = refl
leaf_entries_++ (e ∷ a) b = go (eqb e.form Form.leaf) refl (leaf_entries_++ a b)
  where
    go : (x : Bool) → eqb e.form Form.leaf ≡ x → leaf_entries (a ++ b) ≡ leaf_entries a ++ leaf_entries b
        → leaf_entries ((e ∷ a) ++ b) ≡ leaf_entries (e ∷ a) ++ leaf_entries b
    go true q ih = rw (q, leaf_entries) (ap (λ l. e ∷ l) ih)
    go false q ih = rw (q, leaf_entries) ih

-- Entries that follow one another from a to b.
unfoldable pub Chain : ℕ → List Entry → ℕ → Type 0
Chain a [] b = a ≡ b
Chain a (e ∷ es) b = (e.start ≡ a) × Chain e.end es b

chain_++ : (a b c : ℕ) (es fs : List Entry) → Chain a es b → Chain b fs c → Chain a (es ++ fs) c
unfolding Chain
chain_++ a b c [] fs h k = rw h k
chain_++ a b c (e ∷ es) fs h k = (h.0, chain_++ e.end b c es fs h.1 k)

pub chained : (l a : ℕ) (f : Forest) → Chain a (leaf_entries (entries l a f)) (a + size f)
unfolding Chain leaf_entries entries size
chained l a nil = omega arith
chained l a (leaf t f) =
    (refl, subst (λ x. Chain (a + long t) (leaf_entries (entries l (a + long t) f)) x) (add_assoc a (long t) (size f)) (chained l (a + long t) f))
chained l a (node k c f) =
    let es : List Entry = leaf_entries (entries (l + 1) a c) in
    let fs : List Entry = leaf_entries (entries l (a + size c) f) in
    let h : Chain (a + size c) fs (a + (size c + size f)) = subst (λ x. Chain (a + size c) fs x) (add_assoc a (size c) (size f)) (chained l (a + size c) f) in
    rw (leaf_entries_++ (entries (l + 1) a c) (entries l (a + size c) f)) (chain_++ a (a + size c) (a + (size c + size f)) es fs (chained (l + 1) a c) h)

pub chain_first : (a b : ℕ) (l es : List Entry) (e : Entry) → Chain a l b → l ≡ e ∷ es → e.start ≡ a
unfolding Chain
chain_first a b l es e h q = (rw q at h).0

pub chain_follow : (a b : ℕ) (es : List Entry) → Chain a es b → Follow es
unfolding Chain Follow
chain_follow a b [] h = tt
chain_follow a b (e ∷ []) h = tt
chain_follow a b (e ∷ f ∷ es) h = (h.1.0, chain_follow e.end b (f ∷ es) h.1)

chain_end : (a b : ℕ) (es : List Entry) (e : Entry) → Chain a (es ++ (e ∷ [])) b → e.end ≡ b
unfolding Chain
chain_end a b [] e h = h.1
chain_end a b (f ∷ es) e h = chain_end f.end b es e h.1

pub chain_last : (a b : ℕ) (l es : List Entry) (e : Entry) → Chain a l b → l ≡ es ++ (e ∷ []) → e.end ≡ b
chain_last a b l es e h q = chain_end a b es e (rw q at h)

-- The leaves of the entries, with the source's bytes from start to end, are the leaves of the trees.
pub length_bytes : (f : Forest) → length (bytes (leaves f)) ≡ size f
unfolding bytes leaves size
length_bytes nil = refl
length_bytes (leaf t f) = length-append t.bytes (bytes (leaves f)) ∙ ap (λ n. long t + n) (length_bytes f)
length_bytes (node k c f) =
    let x : length (bytes (leaves c)) ≡ size c = length_bytes c in
    let y : length (bytes (leaves f)) ≡ size f = length_bytes f in
    rw (bytes_append (leaves c) (leaves f), length-append (bytes (leaves c)) (bytes (leaves f))) (omega arith)

-- A part of a list, by its start and its length.
pub slice_take : (a n : ℕ) (l : List ℕ) → slice a (a + n) l ≡ take n (drop a l)
slice_take zero n l = rw (zero-add n) refl
slice_take (suc a) n [] = rw (suc-add a n) (sym (take-nil n))
slice_take (suc a) n (x ∷ l) = rw (suc-add a n) (slice_take a n l)

-- What stands in the source from a on begins with these bytes.
pub record Begins (src : List ℕ) (a : ℕ) (bs : List ℕ) : Type 0 where
  pub others : List ℕ
  pub is : drop a src ≡ bs ++ others

begins_after : (src : List ℕ) (a : ℕ) (xs ys : List ℕ) → Begins src a (xs ++ ys) → Begins src (a + length xs) ys
begins_after src a xs ys b = record {
  others = b.others;
  is = sym (drop-drop (length xs) a src) ∙ ap (drop (length xs)) (b.is ∙ append_assoc xs ys b.others) ∙ drop-append_seam xs (ys ++ b.others);
}

begins_front : (src : List ℕ) (a : ℕ) (xs ys : List ℕ) → Begins src a (xs ++ ys) → Begins src a xs
begins_front src a xs ys b = record { others = ys ++ b.others; is = b.is ∙ append_assoc xs ys b.others }

placed_front : (a : ℕ) (xs ys : List Leaf) → Placed a (xs ++ ys) → Placed a xs
unfolding Placed
placed_front a [] ys h = tt
placed_front a (t ∷ xs) ys h = (h.0, h.1, placed_front (a + long t) xs ys h.2)

placed_after : (a : ℕ) (xs ys : List Leaf) → Placed a (xs ++ ys) → Placed (a + length (bytes xs)) ys
unfolding Placed bytes
placed_after a [] ys h = rw (add-zero a) h
placed_after a (t ∷ xs) ys h =
    rw (length-append t.bytes (bytes xs), ← add_assoc a (long t) (length (bytes xs))) (placed_after (a + long t) xs ys h.2)

pub leaves_back : (src : List ℕ) (l a : ℕ) (f : Forest) → Begins src a (bytes (leaves f)) → Placed a (leaves f)
    → map (leaf_of src) (leaf_entries (entries l a f)) ≡ leaves f
unfolding leaf_entries entries leaves leaf_of bytes Placed
leaves_back src l a nil b p = refl
leaves_back src l a (leaf t f) b p =
    let x : slice a (a + long t) src ≡ t.bytes
    = slice_take a (long t) src ∙ ap (take (long t)) (begins_front src a t.bytes (bytes (leaves f)) b).is ∙ take-append_seam t.bytes _ in
    let y : a ≡ t.start = sym p.0 in
    let z : map (leaf_of src) (leaf_entries (entries l (a + long t) f)) ≡ leaves f
    = leaves_back src l (a + long t) f (begins_after src a t.bytes (bytes (leaves f)) b) p.2 in
    λ i. record { kind = t.kind; start = y i; bytes = x i } ∷ z i
leaves_back src l a (node k c f) b p =
    let b' : Begins src a (bytes (leaves c) ++ bytes (leaves f)) = rw (bytes_append (leaves c) (leaves f)) at b in
    let x : map (leaf_of src) (leaf_entries (entries (l + 1) a c)) ≡ leaves c
    = leaves_back src (l + 1) a c (begins_front src a (bytes (leaves c)) (bytes (leaves f)) b') (placed_front a (leaves c) (leaves f) p) in
    let y : map (leaf_of src) (leaf_entries (entries l (a + size c) f)) ≡ leaves f
    = leaves_back src l (a + size c) f
    (rw (length_bytes c) at (begins_after src a (bytes (leaves c)) (bytes (leaves f)) b'))
    (rw (length_bytes c) at (placed_after a (leaves c) (leaves f) p)) in
    ap (map (leaf_of src)) (leaf_entries_++ (entries (l + 1) a c) (entries l (a + size c) f))
    ∙ map-append (leaf_of src) (leaf_entries (entries (l + 1) a c)) (leaf_entries (entries l (a + size c) f)) ∙ ap₂ (λ u v. u ++ v) x y
