-- Readers one after the other, in either order and behind trivia.
use mathlib.Core.Path.{◌≡◌, refl, ap}
use mathlib.Core.Bool.{Bool, true, false}
use mathlib.Core.List.{List, [], ◌∷◌, append_assoc}
use Prim.Native.Nat.{ℕ}
use Rattle.definition.specs.Tree.{Leaf, Forest, nil, leaf, node, row, ◌▹◌}
use Rattle.definition.specs.Parser.{trivia, while, after, peek, Got, push, Reader, ◌then◌, skip, skip_trivia}
use Rattle.definition.specs.Syntax.{args}
use Rattle.theorems.proofs.Tiling.Leaves.{while_yes, while_stop, after_yes, after_stop}

-- Forests joined in either order,
pub ▹-assoc : (f g h : Forest) → (f ▹ g) ▹ h ≡ f ▹ (g ▹ h)
unfolding ◌▹◌
▹-assoc nil g h = refl
▹-assoc (leaf t f) g h = ap (leaf t) (▹-assoc f g h)
▹-assoc (node k c f) g h = ap (node k c) (▹-assoc f g h)

-- and so readers.
pub then_assoc : (p q r : Reader) (ts : List Leaf) → (p then q then r) ts ≡ ((p then q) then r) ts
unfolding ◌then◌
then_assoc p q r ts =
    let a : Got = p ts in
    let b : Got = q a.rest in
    let d : Got = r b.rest in
    rw (▹-assoc a.tree b.tree d.tree, append_assoc a.errs b.errs d.errs) refl

-- An argument list takes the trivia that it begins with first.
pub args_skip : (n : ℕ) (first : Bool) (ts : List Leaf) → args n first ts ≡ (skip_trivia then args n first) ts
unfolding args ◌then◌ skip_trivia skip while after row ◌▹◌ peek
args_skip n first [] = refl
args_skip n first (t ∷ ts) = go (trivia t) refl (args_skip n first ts)
  where
    go : (b : Bool) → trivia t ≡ b → args n first ts ≡ (skip_trivia then args n first) ts → args n first (t ∷ ts) ≡ (skip_trivia then args n first) (t ∷ ts)
    go true e h = rw (while_yes trivia t ts e, after_yes trivia t ts e, e) (ap (push t) h)
    go false e h = rw (while_stop trivia (t ∷ ts) e, after_stop trivia (t ∷ ts) e) refl
