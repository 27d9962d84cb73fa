-- Runs one after the other: the events of rows of trees that are made of others.
use Prim.Native.Nat.{ℕ}
use mathlib.Core.Path.{◌≡◌, refl, ap, sym, ◌∙◌}
use mathlib.Core.List.{List, [], ◌∷◌, ◌++◌, append_assoc}
use Rattle.definition.specs.Tree.{Forest, nil, leaf, node, ◌▹◌, row}
use Rattle.definition.specs.Tree as tree
use Rattle.definition.specs.Syntax.{last_stop}
use Rattle.tree.specs.Machine.{Event, Open, Shut, Leaf, leaf_event, events, Sheet, Writer, with_levels, leafed, leafs, step, run}

pub run_++ : (w : Writer) (a b : List Event) → run w (a ++ b) ≡ run (run w a) b
unfolding run
run_++ w [] b = refl
run_++ w (e ∷ a) b = run_++ (step e w) a b

pub events-▹ : (f g : Forest) → events (f ▹ g) ≡ events f ++ events g
unfolding events ◌▹◌
events-▹ nil g = refl
events-▹ (leaf t f) g = ap (λ es. leaf_event t ∷ es) (events-▹ f g)
events-▹ (node k c f) g =
    ap (λ es. Open ∷ (events c ++ (Shut k ∷ es))) (events-▹ f g)
    ∙ ap (λ es. Open ∷ es) (sym (append_assoc (events c) (Shut k ∷ events f) (events g)))

-- One row after the other.
pub run-▹ : (w : Writer) (f g : Forest) → run w (events (f ▹ g)) ≡ run (run w (events f)) (events g)
run-▹ w f g = ap (run w) (events-▹ f g) ∙ run_++ w (events f) (events g)

-- A node over a row.
pub run_node : (w : Writer) (k : ℕ) (c f : Forest) → run w (events (node k c f)) ≡ run (step (Shut k) (run (step Open w) (events c))) (events f)
unfolding run events
run_node w k c f = run_++ (step Open w) (events c) (Shut k ∷ events f)

-- Leaves: the open levels stay as they are.
pub leaf_step : (k a b : ℕ) (s s' : Sheet) (o : List ℕ) → s' ≡ leafed k a b s → with_levels o s' ≡ step (Leaf k a b) (with_levels o s)
unfolding step
leaf_step k a b s s' o e = ap (with_levels o) e

pub run_row : (o : List ℕ) (s : Sheet) (ts : List tree.Leaf) → run (with_levels o s) (events (row ts)) ≡ with_levels o (leafs s ts)
unfolding run events row step leafs
run_row o s [] = refl
run_row o s (t ∷ ts) = run_row o (leafed t.kind t.start (tree.stop t) s) ts

-- The pen stands where the last leaf ends.
pub leafs_pos : (s : Sheet) (ts : List tree.Leaf) → (leafs s ts).pen.pos ≡ last_stop s.pen.pos ts
unfolding leafs leafed last_stop
leafs_pos s [] = refl
leafs_pos s (t ∷ ts) = leafs_pos (leafed t.kind t.start (tree.stop t) s) ts
