-- Tiling: what a reader takes and what it leaves join to what it was given, and lie where that lay.
use Prim.Native.Nat.{ℕ, ◌+◌, ◌≤◌}
use mathlib.Core.Path.{◌≡◌, refl, ap, sym, ◌∙◌, subst}
use mathlib.Core.Bool.{true}
use mathlib.Core.List.{List, [], ◌∷◌, ◌++◌, append_assoc}
use lib.ListN.{length, length-append}
use native.Mathlib.Omega.{arith}
use Rattle.definition.specs.Runs.{joined, text}
use Rattle.definition.specs.Glue.{Token, tokens}
use Rattle.definition.specs.Tree.{Leaf, long, placed, bytes, leaf, leaves}
use Rattle.definition.specs.Error.{Err}
use Rattle.definition.specs.Parser.{Got, Reader, ◌then◌}
use Rattle.definition.specs.Syntax.{relexed}
use Rattle.theorems.specs.Placed.{Placed}
use Rattle.theorems.proofs.Lexing.Tokens.{joined_tokens}
use Rattle.theorems.proofs.Tiling.Leaves.{leaves-▹}
use Rattle.theorems.proofs.Tiling.Steady.{SteadyAt, pushing}

-- One row of leaves in another's place: the same bytes, and it lies wherever the other lies.
pub record Recut (us ts : List Leaf) : Type 0 where
  pub joins : bytes us ≡ bytes ts
  pub lies : (a : ℕ) → Placed a ts → Placed a us

pub recut_same : {us ts : List Leaf} → us ≡ ts → Recut us ts
recut_same e = record { joins = ap bytes e; lies = λ a h. subst (Placed a) (sym e) h }

pub recut_twice : {us vs ts : List Leaf} → Recut us vs → Recut vs ts → Recut us ts
recut_twice r s = record { joins = r.joins ∙ s.joins; lies = λ a h. r.lies a (s.lies a h) }

-- Behind the same leaves.
pub recut_behind : (a : List Leaf) {us ts : List Leaf} → Recut us ts → Recut (a ++ us) (a ++ ts)
unfolding bytes Placed
recut_behind [] r = r
recut_behind (t ∷ a) r =
    let s = recut_behind a r in
    record { joins = ap (λ l. t.bytes ++ l) s.joins; lies = λ x h. (h.0, h.1, s.lies (x + long t) h.2) }

-- A reading tiles the row that it was given.
abbrev pub Tiles : Got → List Leaf → Type 0
Tiles g ts = Recut (leaves g.tree ++ g.rest) ts

abbrev pub Tiled : Reader → Type 0
Tiled p = (ts : List Leaf) → Tiles (p ts) ts

pub tiles_steady : (p : Reader) (ts : List Leaf) → SteadyAt p ts → Tiles (p ts) ts
tiles_steady p ts s = recut_same s.same

pub tiles_then : (p q : Reader) (ts : List Leaf) → Tiles (p ts) ts → Tiles (q (p ts).rest) (p ts).rest → Tiles ((p then q) ts) ts
unfolding ◌then◌
tiles_then p q ts hp hq =
    let b : Got = q (p ts).rest in
    recut_twice
    (recut_same (rw (leaves-▹ (p ts).tree b.tree) (append_assoc (leaves (p ts).tree) (leaves b.tree) b.rest)))
    (recut_twice (recut_behind (leaves (p ts).tree) hq) hp)

pub tiles_push : (t : Leaf) (es : List Err) (g : Got) (ts : List Leaf) → Tiles g ts → Tiles (pushing (leaf t) es g) (t ∷ ts)
unfolding leaves
tiles_push t es g ts h = recut_behind (t ∷ []) h

-- The leaves of tokens.
pub bytes_placed : (at : ℕ) (ts : List Token) → bytes (placed at ts) ≡ joined ts
unfolding bytes placed joined
bytes_placed at [] = refl
bytes_placed at (t ∷ ts) = ap (λ l. text t ++ l) (bytes_placed (at + length (text t)) ts)

pub placed_lies : (at : ℕ) (ts : List Token) → Placed at (placed at ts)
unfolding placed Placed
placed_lies at [] = tt
placed_lies at (t ∷ ts) = (refl, omega arith, placed_lies (at + length (text t)) ts)

-- Lexing again keeps the bytes and the place.
pub recut_relexed : (ts : List Leaf) → Recut (relexed ts) ts
unfolding relexed Placed
recut_relexed [] = recut_same refl
recut_relexed (t ∷ ts) =
    let again : List Token = tokens true (bytes (t ∷ ts)) in
    record {
      joins = bytes_placed t.start again ∙ joined_tokens true (bytes (t ∷ ts));
      lies = λ a h. subst (λ x. Placed x (placed t.start again)) h.0 (placed_lies t.start again);
    }

-- Leaves that lie somewhere are no more than their bytes.
pub few : (a : ℕ) (ts : List Leaf) → Placed a ts → length ts ≤ length (bytes ts)
unfolding Placed bytes
few a [] h = omega arith
few a (t ∷ ts) h = rw (length-append t.bytes (bytes ts)) (omega (arith, h.1, few (a + long t) ts h.2))
