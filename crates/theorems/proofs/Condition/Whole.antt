-- One tree at most, found exactly if there is one; so one value or one refusal.
use Prim.Native.Nat.{ℕ, ◌≤◌, max}
use mathlib.Core.Path.{◌≡◌, refl, ap, sym}
use mathlib.Core.Bool.{Bool, true, false}
use mathlib.Core.List.{List, [], ◌∷◌}
use mathlib.Core.Logic.{◌↔◌}
use mathlib.Core.Option.{Option, none, some}
use native.Mathlib.Omega.{arith}
use lib.Dec.{eqb}
use lib.ListN.{length}
use borrow.Author.Tests.{eqb-true}
use Rattle.definition.specs.Tree.{Leaf}
use Rattle.definition.specs.Calls.{refusal, source_checks}
use Rattle.definition.specs.Condition.Value.{Outcome, refused}
use Rattle.definition.specs.Condition.Expression.{Expr, depth, Ranked, solid, most_open, Reads}
use Rattle.definition.specs.Condition.Reader.{trees, Got, got, over, expression, whole, made, tree}
use Rattle.definition.specs.Condition.Valuing.{source_leaves, Answers, no_source, no_tree, the_tree, of_tree, valuing}
use Rattle.theorems.proofs.Condition.Complete.{front, Ends, ended, complete_ranked}
use Rattle.theorems.proofs.Condition.Sound.{Each, not_got, that, Full, from, sound, sound_climb}

-- Nothing follows the whole row.
at_end : {r : ℕ} → Ends r []
unfolding front over
at_end = record { none_ahead = refl }

found : {e : Expr} {L : List Leaf} (d : ℕ) → Ranked 0 e L [] → depth e ≤ d → expression trees (length L) d 0 L ≡ got e []
found {L = L} d p h = ended (complete_ranked p at_end 0 (omega arith) (length L) d (omega arith) h) at_end

-- Two derivations of the same leaves give equal trees.
pub unambiguous : {e f : Expr} {L : List Leaf} → Ranked 0 e L [] → Ranked 0 f L [] → e ≡ f
unambiguous {e} {f} p q =
    let x = found (max (depth e) (depth f)) p (omega arith) in
    let y = found (max (depth e) (depth f)) q (omega arith) in
    cc

pub one_reading : {L : List Leaf} {e f : Expr} → Reads L e → Reads L f → e ≡ f
one_reading x y = unambiguous x.grammar y.grammar

-- The reader finds a tree exactly if the grammar has one within the levels.
pub tree_complete : {L : List Leaf} {e : Expr} → Reads L e → tree L ≡ some e
unfolding made whole
tree_complete x = rw (found most_open x.grammar x.levels)

data Known (L : List Leaf) : Option Expr → Type 0 where
  reads : {e : Expr} → Reads L e → Known L (some e)
  nothing_read : Known L none

known : (L : List Leaf) → Known L (tree L)
unfolding made whole expression
known L = go (from n most_open 0 M (sound n most_open M) (λ a R x h. sound_climb n most_open 0 a M R x h))
  where
    M : List Leaf
    M = solid L

    n : ℕ
    n = length M

    go : {g : Got Expr} → Each (Full most_open 0 (solid L)) g → Known L (whole g)
    go not_got = nothing_read
    go (that {R = []} x) = reads (record { grammar = x.it; levels = x.levels })
    go (that {R = t ∷ R} x) = nothing_read

pub tree_sound : {L : List Leaf} {e : Expr} → tree L ≡ some e → Reads L e
tree_sound {L} {e} q = go (rw q at (known L))
  where
    go : Known L (some e) → Reads L e
    go (reads x) = x

pub tree_exact : (L : List Leaf) (e : Expr) → (tree L ≡ some e) ↔ Reads L e
tree_exact L e = (tree_sound, tree_complete)

-- And finds none exactly if there is none.
pub no_tree_exact : (L : List Leaf) → (tree L ≡ none) ↔ ((e : Expr) → Reads L e → ⊥)
no_tree_exact L = (λ q e x. let z : ◌≡◌ {A = ℕ} 0 1 = cc (tree_complete x) in omega arith, go (tree L) refl)
  where
    go : (o : Option Expr) → tree L ≡ o → ((e : Expr) → Reads L e → ⊥) → tree L ≡ none
    go none q h = q
    go (some e) q h = absurd (h e (tree_sound q))

-- The call answers what the grammar says, and the grammar says one thing.
module _ (src numbers text : List ℕ) where
  pub answers : Answers src numbers text (valuing src numbers text)
  unfolding valuing of_tree
  answers = go (eqb (refusal (source_checks src)) 0) refl (tree (source_leaves src)) refl
    where
      go : (b : Bool) → eqb (refusal (source_checks src)) 0 ≡ b → (o : Option Expr) → tree (source_leaves src) ≡ o → Answers src numbers text (valuing src numbers text)
      go false e o q = rw (e, valuing) (no_source refl e)
      go true e none q = rw (e, valuing, q) (no_tree (eqb-true _ _ e) ((no_tree_exact (source_leaves src)).0 q))
      go true e (some x) q = rw (e, valuing, q) (the_tree (eqb-true _ _ e) (tree_sound q))

  pub one_answer : {o : Outcome} → Answers src numbers text o → o ≡ valuing src numbers text
  unfolding valuing of_tree
  one_answer (no_source p e) = rw (valuing, p, e) (ap refused (sym p))
  one_answer (no_tree p h) = rw (valuing, p, (no_tree_exact (source_leaves src)).1 h)
  one_answer (the_tree p x) = rw (valuing, p, tree_complete x)
