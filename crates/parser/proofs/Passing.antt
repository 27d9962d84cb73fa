-- Passing over trivia, and writing what was passed over.
use Prim.Native.Nat.{ℕ, ◌≤◌, ◌<◌}
use native.Mathlib.Omega.{arith}
use mathlib.Core.Path.{◌≡◌, refl, sym, ap, ◌∙◌}
use mathlib.Core.Bool.{Bool, true, false}
use mathlib.Core.List.{List, [], ◌∷◌}
use borrow.Author.Tests.{lt-ltb, le-ltb}
use lib.ListN.{length, drop}
use Rattle.definition.specs.Glue.{Token, tokens}
use Rattle.definition.specs.Tree.{Leaf, placed}
use Rattle.definition.specs.Parser.{trivia, while, after, peek}
use Rattle.theorems.specs.LeavesFrom.{leaves_from}
use Rattle.theorems.proofs.Tiling.Leaves.{while_yes, while_stop, after_yes, after_stop}
use Rattle.tree.specs.Machine.{sheet, leafed, leafs}
use Rattle.tree.specs.declared.Pen.{Pen}
use Rattle.parser.specs.declared.Seen.{Seen}
use Rattle.parser.specs.declared.trivia.Trivia.{Trivia}
use Rattle.parser.specs.Rest.{leaf_seen, unread, Held, Sees, trivial}
use Rattle.parser.specs.Passed.{row_of, before, Passes, Behind}
use Rattle.parser.proofs.Taking.{none_seen, one_seen, not_peeked, some_trivia, Writing, tree_behind, write_more, tree_done}

-- A leaf that is seen does not start before its own start,
not_before : (src : List ℕ) (x : Seen) (m : ℕ) → m ≤ x.start → peek (before m) (unread src x) ≡ false
not_before src x m l = not_peeked src x (before m) (le-ltb x.start m l)

-- and none that is left at a place starts before it.
none_before : (src : List ℕ) (at : ℕ) (f : Bool) → while (before at) (leaves_from src at f) ≡ []
unfolding leaves_from placed peek
none_before src at f = while_stop (before at) (leaves_from src at f) (go (tokens f (drop at src)))
  where
    go : (ts : List Token) → peek (before at) (placed at ts) ≡ false
    go [] = refl
    go (t ∷ ts) = le-ltb at at (omega arith)

-- One leaf further.
module _ (src : List ℕ) (x n : Seen) (h : Held src x) (z : x.kind ≡ 0 → ⊥) (k : Sees src x.end x.angle n) where
  seen : unread src x ≡ leaf_seen src x ∷ unread src n
  seen = one_seen src x z ∙ ap (λ l. leaf_seen src x ∷ l) (sym k.rest)

  one_fewer : length (unread src n) < length (unread src x)
  one_fewer = rw seen (omega arith)

  one_while : (p : Leaf → Bool) → p (leaf_seen src x) ≡ true → while p (unread src x) ≡ leaf_seen src x ∷ while p (unread src n)
  one_while p e = ap (while p) seen ∙ while_yes p (leaf_seen src x) (unread src n) e

  one_after : (p : Leaf → Bool) → p (leaf_seen src x) ≡ true → after p (unread src x) ≡ after p (unread src n)
  one_after p e = ap (after p) seen ∙ after_yes p (leaf_seen src x) (unread src n) e

  earlier : x.start < n.start
  unfolding Held
  earlier = omega (arith, (h z).1, k.starts)

-- Where the loop stands: the trivia that is left is the rest of the trivia from x on.
pub record Passing (src : List ℕ) (x next : Seen) : Type 0 where
  pub rest : after trivia (unread src next) ≡ after trivia (unread src x)
  pub row : (m : ℕ) → next.start ≤ m → while (before m) (unread src next) ≡ while trivia (unread src next)
      → while (before m) (unread src x) ≡ while trivia (unread src x)
  pub held : Held src next

passing_none : (src : List ℕ) (x : Seen) → Held src x → Passing src x x
passing_none src x h = record { rest = refl; row = λ m l q. q; held = h }

passing_on : (src : List ℕ) (x next n : Seen) → Passing src x next → trivial next.kind ≡ true → Sees src next.end next.angle n → Passing src x n
passing_on src x next n i e k =
    let z : next.kind ≡ 0 → ⊥ = some_trivia next.kind e in
    let s : next.start < n.start = earlier src next n i.held z k in
    record {
      rest = sym (one_after src next n i.held z k trivia e) ∙ i.rest;
      row = λ m l q. i.row m (omega arith) (
          one_while src next n i.held z k (before m) (lt-ltb next.start m (omega arith)) ∙ ap (λ l. leaf_seen src next ∷ l) q ∙ sym (one_while src next n i.held z k trivia e)
          );
      held = k.held;
    }

pub passing_start : (src : List ℕ) (x next : Seen) → Held src x → trivial x.kind ≡ true → Sees src x.end x.angle next → Passing src x next
passing_start src x next h e k = passing_on src x x next (passing_none src x h) e k

module _ (src : List ℕ) (x next : Seen) (i : Passing src x next) (b : Bool) (d : b ≡ trivial next.kind) where
  module _ (e : b ≡ true) (n : Seen) (k : Sees src next.end next.angle n) where
    pub passing_more : Passing src x n
    passing_more = passing_on src x next n i (sym d ∙ e) k

    pub passing_fewer : length (unread src n) < length (unread src next)
    passing_fewer = one_fewer src next n i.held (some_trivia next.kind (sym d ∙ e)) k

  pub passing_done : Held src x → b ≡ false → (r : Trivia) → r ≡ row_of x next → Passes src x r
  passing_done h e r q =
      let f : peek trivia (unread src next) ≡ false = not_peeked src next trivia (sym d ∙ e) in
      let g : peek (before next.start) (unread src next) ≡ false = not_before src next next.start (omega arith) in
      rw q (record {
        first_is = refl;
        passed = record {
          rest = sym (after_stop trivia (unread src next) f) ∙ i.rest;
          row = i.row next.start (omega arith) (while_stop (before next.start) (unread src next) g ∙ sym (while_stop trivia (unread src next) f));
          first_held = h;
          next_held = i.held;
        };
      })

-- No trivia is seen.
pub passes_none : (src : List ℕ) (x : Seen) (b : Bool) → Held src x → b ≡ trivial x.kind → b ≡ false → (r : Trivia) → r ≡ row_of x x → Passes src x r
passes_none src x b h d e r q = passing_done src x x (passing_none src x h) b d h e r q

pub passes_trivia : (x : Seen) (b : Bool) → b ≡ trivial x.kind → b ≡ true → trivial x.kind ≡ true
passes_trivia x b d e = sym d ∙ e

pub passes_behind : (src : List ℕ) (at : ℕ) (angle : Bool) (x : Seen) (r : Trivia) → Sees src at angle x → Passes src x r → Behind src at angle r
passes_behind src at angle x r k p = record { first_is = ap (unread src) p.first_is ∙ k.rest; passed = p.passed }

-- Writing what starts before a place.
module _ (src t₀ : List ℕ) (p₀ : Pen) (x₀ : Seen) (m : ℕ) (t : List ℕ) (p : Pen) (x : Seen) (i : Writing src (before m) t₀ p₀ x₀ t p x) where
  abbrev Eaten : List ℕ → Pen → Type 0
  Eaten t' p' = sheet t' p' ≡ leafs (sheet t₀ p₀) (while (before m) (unread src x₀))

  pub eat_past : m ≤ x.start → Eaten t p
  eat_past l = tree_done i (not_before src x m l)

  pub eat_end : x.kind ≡ 0 → Eaten t p
  unfolding peek
  eat_end e = tree_done i (rw (none_seen src x e) refl)

  module _ (l : x.start < m) (z : x.kind ≡ 0 → ⊥) (t' : List ℕ) (p' : Pen) (w : sheet t' p' ≡ leafed x.kind x.start x.end (sheet t p)) where
    module _ (n : Seen) (k : Sees src x.end x.angle n) where
      pub eat_more : length t' ≡ length t → Writing src (before m) t₀ p₀ x₀ t' p' n
      eat_more e = write_more i z (lt-ltb x.start m l) t' p' w n k.rest k.held e

      pub eat_fewer : length (unread src n) < length (unread src x)
      eat_fewer = one_fewer src x n i.held z k

    pub eat_stop : x.end ≡ m → Eaten t' p'
    unfolding leafs
    eat_stop e =
        let s : while (before m) (leaves_from src x.end x.angle) ≡ [] = rw (← e) (none_before src x.end x.angle) in
        rw s at (tree_behind i z (lt-ltb x.start m l) t' p' w)

    pub eat_long : length t' ≡ length t → length t' ≡ length t₀
    eat_long e = e ∙ i.long
