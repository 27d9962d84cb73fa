-- A reading told again: it tiles its row, begins with the row's first leaf, and another reader gets the same from its leaves.
use Prim.Native.Nat.{ℕ}
use mathlib.Core.Path.{◌≡◌, refl, ap, sym, ◌∙◌, subst}
use mathlib.Core.List.{List, [], ◌∷◌, ◌++◌, append_assoc, append-nil}
use mathlib.Core.Option.{Option, none, some}
use Rattle.definition.specs.Tree.{Leaf, Forest, nil, leaf, node, leaves}
use Rattle.definition.specs.Error.{Err}
use Rattle.definition.specs.Parser.{Got, Reader, ◌then◌}
use Rattle.definition.specs.Syntax.{Line}
use Rattle.theorems.proofs.Tiling.Leaves.{leaves-▹}
use Rattle.theorems.proofs.Tiling.Steady.{Heads, heads_append, leaving, Starts, Again, starts_same, again_then, SteadyAt, pushing, starts_push, again_push}
use Rattle.theorems.proofs.Tiling.Tiles.{recut_same, recut_twice, recut_behind, Tiles, tiles_steady, tiles_then, tiles_push}

-- The reader q tells what was got from the row again.
pub record Retold (q : Reader) (g : Got) (ts : List Leaf) : Type 0 where
  pub tiles : Tiles g ts
  pub starts : Starts g ts
  pub again : Again q g

pub retold_steady : (p : Reader) (ts : List Leaf) → SteadyAt p ts → Retold p (p ts) ts
retold_steady p ts s = record { tiles = tiles_steady p ts s; starts = starts_same (p ts) ts s.same; again = s.again }

-- The other reader may be any that reads alike wherever the first leaf is this one.
pub retold_like : (p q : Reader) (g : Got) (ts : List Leaf) → ((us : List Leaf) → Heads ts us → p us ≡ q us) → Retold q g ts → Retold p g ts
retold_like p q g ts e r =
    record {
      tiles = r.tiles;
      starts = r.starts;
      again = λ us h. e (leaves g.tree ++ us) (r.starts us h) ∙ r.again us h;
    }

-- One reader and then the next.
starts_then : (p q : Reader) (ts : List Leaf) → Starts (p ts) ts → Starts (q (p ts).rest) (p ts).rest → Starts ((p then q) ts) ts
unfolding ◌then◌
starts_then p q ts a b us h =
    let vs : List Leaf = leaves (q (p ts).rest).tree in
    rw (leaves-▹ (p ts).tree (q (p ts).rest).tree, append_assoc (leaves (p ts).tree) vs us) (a (vs ++ us) (b us h))

pub retold_then : (p p' q q' : Reader) (ts : List Leaf) → Retold p' (p ts) ts → Retold q' (q (p ts).rest) (p ts).rest → Retold (p' then q') ((p then q) ts) ts
retold_then p p' q q' ts a b =
    record {
      tiles = tiles_then p q ts a.tiles b.tiles;
      starts = starts_then p q ts a.starts b.starts;
      again = again_then p p' q q' ts a.again b.again b.starts;
    }

-- Behind a leaf, what follows need not begin alike.
pub retold_push : (t : Leaf) (p q : Reader) → ((us : List Leaf) → p (t ∷ us) ≡ pushing (leaf t) [] (q us))
    → (g : Got) (ts : List Leaf) → Tiles g ts → Again q g → Retold p (pushing (leaf t) [] g) (t ∷ ts)
unfolding leaves
retold_push t p q i g ts h a =
    record {
      tiles = tiles_push t [] g ts h;
      starts = starts_push t (leaf t) [] (λ c. refl) g ts;
      again = again_push t (leaf t) [] (λ c. refl) p q i g a;
    }

-- Lines: the kind of the node goes by the errors.
abbrev pub lined : (List Err → Option ℕ) → Got → Line
lined k g = record { node_kind = k g.errs; got = g }

abbrev pub line_leaving : Line → List Leaf → Line
line_leaving l us = record { node_kind = l.node_kind; got = leaving l.got us }

pub record RetoldLine (m : List Leaf → Line) (l : Line) (ts : List Leaf) : Type 0 where
  pub tiles : Tiles l.got ts
  pub starts : Starts l.got ts
  pub again : (us : List Leaf) → Heads l.got.rest us → m (leaves l.got.tree ++ us) ≡ line_leaving l us

pub retold_lined : (m : List Leaf → Line) (k : List Err → Option ℕ) (q : Reader) (g : Got) (ts : List Leaf)
    → ((us : List Leaf) → Heads ts us → m us ≡ lined k (q us)) → Retold q g ts → RetoldLine m (lined k g) ts
retold_lined m k q g ts e r =
    record {
      tiles = r.tiles;
      starts = r.starts;
      again = λ us h. e (leaves g.tree ++ us) (r.starts us h) ∙ ap (lined k) (r.again us h);
    }

-- A line behind some leaves, as one item.
abbrev pub shut : (Forest → Forest) → Line → Got
shut f l =
    record {
      tree = elim l.node_kind [ none ↦ f l.got.tree | some k ↦ node k (f l.got.tree) nil ];
      errs = l.got.errs;
      rest = l.got.rest;
    }

module _ (before : List Leaf) (f : Forest → Forest) (e : (c : Forest) → leaves (f c) ≡ before ++ leaves c) where
  pub leaves_shut : (l : Line) → leaves (shut f l).tree ≡ before ++ leaves l.got.tree
  unfolding leaves
  leaves_shut l = go l.node_kind
    where
      go : (o : Option ℕ) → leaves (elim o [ none ↦ f l.got.tree | some k ↦ node k (f l.got.tree) nil ]) ≡ before ++ leaves l.got.tree
      go none = e l.got.tree
      go (some k) = append-nil (leaves (f l.got.tree)) ∙ e l.got.tree

  pub retold_shut : (p : Reader) (m : List Leaf → Line) (l : Line) (ts : List Leaf)
      → ((us : List Leaf) → Heads ts us → p (before ++ us) ≡ shut f (m us)) → RetoldLine m l ts → Retold p (shut f l) (before ++ ts)
  retold_shut p m l ts i r =
      let c : List Leaf = leaves l.got.tree in
      let j : (us : List Leaf) → leaves (shut f l).tree ++ us ≡ before ++ (c ++ us) = λ us. rw (leaves_shut l) (append_assoc before c us) in
      record {
        tiles = recut_twice (recut_same (j l.got.rest)) (recut_behind before r.tiles);
        starts = λ us h. subst (Heads (before ++ ts)) (sym (j us)) (heads_append before ts (c ++ us) (r.starts us h));
        again = λ us h. ap p (j us) ∙ i (c ++ us) (r.starts us h) ∙ ap (shut f) (r.again us h);
      }
