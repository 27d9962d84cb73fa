-- Steady readers take their leaves as they are, and read them the same again; the laws of the combinators.
use Prim.Native.Nat.{ℕ}
use mathlib.Core.Path.{◌≡◌, refl, ap, ◌∙◌, subst}
use mathlib.Core.Bool.{Bool, true, false}
use mathlib.Core.List.{List, [], ◌∷◌, ◌++◌, append_assoc, append-nil}
use Rattle.definition.specs.Tree.{Leaf, Forest, nil, leaf, node, ◌▹◌, leaves, row}
use Rattle.definition.specs.Error.{Err}
use Rattle.definition.specs.Parser.{trivia, while, after, peek, Got, raise, Reader, ◌then◌, wrap, skip, skip_trivia, nothing, bump, maybe}
use Rattle.theorems.proofs.Grammar.Clean.{peek_after}
use Rattle.theorems.proofs.Tiling.Leaves.{leaves-▹, leaves_row, while_after, while_again, after_again}

-- Two rows that are both empty or have the same first leaf.
abbrev pub Heads : List Leaf → List Leaf → Type 0
Heads [] [] = Unit {0}
Heads [] (x ∷ xs) = ⊥
Heads (t ∷ ts) [] = ⊥
Heads (t ∷ ts) (x ∷ xs) = t ≡ x

pub heads_self : (ts : List Leaf) → Heads ts ts
heads_self [] = tt
heads_self (t ∷ ts) = refl

pub heads_append : (a ts us : List Leaf) → Heads ts us → Heads (a ++ ts) (a ++ us)
heads_append [] ts us h = h
heads_append (t ∷ a) ts us h = refl

-- What holds of every row with that first leaf holds of a row that heads alike.
pub heads_nil : (P : List Leaf → Type 0) → P [] → (us : List Leaf) → Heads [] us → P us
heads_nil P h [] e = h
heads_nil P h (x ∷ us) e = absurd e

pub heads_cons : (P : List Leaf → Type 0) (t : Leaf) (ts : List Leaf) → ((vs : List Leaf) → P (t ∷ vs)) → (us : List Leaf) → Heads (t ∷ ts) us → P us
heads_cons P t ts h [] e = absurd e
heads_cons P t ts h (x ∷ us) e = subst (λ y. P (y ∷ us)) e (h us)

pub peek_heads : (p : Leaf → Bool) (ts us : List Leaf) → Heads ts us → peek p us ≡ peek p ts
unfolding peek
peek_heads p [] us = heads_nil (λ us. peek p us ≡ false) refl us
peek_heads p (t ∷ ts) us = heads_cons (λ us. peek p us ≡ p t) t ts (λ vs. refl) us

-- What follows the leading leaves that pass a test begins with none.
pub stops : (p : Leaf → Bool) (ts us : List Leaf) → Heads (after p ts) us → peek p us ≡ false
stops p ts us h = peek_heads p (after p ts) us h ∙ peek_after p ts

-- What was got, with another row left.
abbrev pub leaving : Got → List Leaf → Got
leaving g us = record { tree = g.tree; errs = g.errs; rest = us }

-- The leaves were taken as they are.
abbrev pub Same : Got → List Leaf → Type 0
Same g ts = leaves g.tree ++ g.rest ≡ ts

-- They begin as the row that was read.
abbrev pub Starts : Got → List Leaf → Type 0
Starts g ts = (us : List Leaf) → Heads g.rest us → Heads ts (leaves g.tree ++ us)

-- A reader gets the same from the leaves that were taken, whatever follows, if it begins with the same leaf.
abbrev pub Again : Reader → Got → Type 0
Again q g = (us : List Leaf) → Heads g.rest us → q (leaves g.tree ++ us) ≡ leaving g us

pub starts_same : (g : Got) (ts : List Leaf) → Same g ts → Starts g ts
starts_same g ts s us h = subst (λ r. Heads r (leaves g.tree ++ us)) s (heads_append (leaves g.tree) g.rest us h)

-- Both, at one row and at every row.
pub record SteadyAt (p : Reader) (ts : List Leaf) : Type 0 where
  pub same : Same (p ts) ts
  pub again : Again p (p ts)

abbrev pub Steady : Reader → Type 0
Steady p = (ts : List Leaf) → SteadyAt p ts

-- One reader and then the next.
pub again_then : (p p' q q' : Reader) (ts : List Leaf)
    → Again p' (p ts) → Again q' (q (p ts).rest) → Starts (q (p ts).rest) (p ts).rest → Again (p' then q') ((p then q) ts)
unfolding ◌then◌
again_then p p' q q' ts hp hq s us h =
    let a : Got = p ts in
    let b : Got = q a.rest in
    let vs : List Leaf = leaves b.tree ++ us in
    let e : leaves (a.tree ▹ b.tree) ++ us ≡ leaves a.tree ++ vs = rw (leaves-▹ a.tree b.tree) (append_assoc (leaves a.tree) (leaves b.tree) us) in
    ap (λ l. seq (p' l)) e ∙ ap seq (hp vs (s us h)) ∙ ap (glue a) (hq us h)
  where
    glue : Got → Got → Got
    glue a b = record { tree = a.tree ▹ b.tree; errs = a.errs ++ b.errs; rest = b.rest }

    seq : Got → Got
    seq a = glue a (q' a.rest)

pub steady_then : (p q : Reader) → Steady p → Steady q → Steady (p then q)
unfolding ◌then◌
steady_then p q hp hq ts =
    let r : List Leaf = (p ts).rest in
    record {
      same = rw (leaves-▹ (p ts).tree (q r).tree)
          (append_assoc (leaves (p ts).tree) (leaves (q r).tree) (q r).rest ∙ ap (λ l. leaves (p ts).tree ++ l) (hq r).same ∙ (hp ts).same);
      again = again_then p p q q ts (hp ts).again (hq r).again (starts_same (q r) r (hq r).same);
    }

-- One node over what a reader takes, its kind by the errors.
abbrev pub over : (List Err → ℕ) → Got → Got
over k a = record { tree = node (k a.errs) a.tree nil; errs = a.errs; rest = a.rest }

pub steady_over : (k : List Err → ℕ) (p : Reader) → Steady p → Steady (λ ts. over k (p ts))
unfolding leaves
steady_over k p h ts =
    record {
      same = rw append-nil (h ts).same;
      again = λ us e. rw append-nil (ap (over k) ((h ts).again us e));
    }

pub steady_wrap : (k : ℕ) (p : Reader) → Steady p → Steady (wrap k p)
unfolding wrap
steady_wrap k p = steady_over (λ es. k) p

-- An error in front.
pub steady_raise : (e : Err) (p : Reader) → Steady p → Steady (λ ts. raise e (p ts))
steady_raise e p h ts = record { same = (h ts).same; again = λ us x. ap (λ g. raise e g) ((h ts).again us x) }

-- Nothing is taken: the tree has no leaf.
pub steady_still : (f : Forest) (es : List Err) → leaves f ≡ [] → Steady (λ ts. record { tree = f; errs = es; rest = ts })
steady_still f es e ts = record { same = rw e refl; again = λ us h. rw e refl }

pub steady_nothing : Steady nothing
unfolding nothing leaves
steady_nothing = steady_still nil [] refl

-- The leading leaves that pass a test, in any tree that has them for leaves.
pub steady_while : (p : Leaf → Bool) (f : List Leaf → Forest) (e : List Leaf → List Err) → ((ts : List Leaf) → leaves (f ts) ≡ ts)
    → Steady (λ ts. record { tree = f (while p ts); errs = e (while p ts); rest = after p ts })
steady_while p f e h ts =
    record {
      same = rw (h (while p ts)) (while_after p ts);
      again = λ us x. let q : peek p us ≡ false = stops p ts us x in
          rw (h (while p ts), while_again p ts us q, after_again p ts us q) refl;
    }

pub steady_skip : (p : Leaf → Bool) → Steady (skip p)
unfolding skip
steady_skip p = steady_while p row (λ ts. []) leaves_row

pub steady_trivia : Steady skip_trivia
unfolding skip_trivia
steady_trivia = steady_skip trivia

-- A reader that reads as a steady one does wherever the first leaf is this one.
pub steady_like : (p r : Reader) (ts : List Leaf) → ((us : List Leaf) → Heads ts us → p us ≡ r us) → SteadyAt r ts → SteadyAt p ts
steady_like p r ts e s =
    let i : p ts ≡ r ts = e ts (heads_self ts) in
    record {
      same = rw i s.same;
      again = rw i (λ us h. e (leaves (r ts).tree ++ us) (starts_same (r ts) ts s.same us h) ∙ s.again us h);
    }

pub steady_like_nil : (p r : Reader) → p [] ≡ r [] → SteadyAt r [] → SteadyAt p []
steady_like_nil p r e = steady_like p r [] (heads_nil (λ us. p us ≡ r us) e)

pub steady_like_cons : (p r : Reader) (t : Leaf) (ts : List Leaf) → ((us : List Leaf) → p (t ∷ us) ≡ r (t ∷ us)) → SteadyAt r (t ∷ ts) → SteadyAt p (t ∷ ts)
steady_like_cons p r t ts e = steady_like p r (t ∷ ts) (heads_cons (λ us. p us ≡ r us) t ts e)

pub steady_maybe : (p : Leaf → Bool) (r : Reader) → Steady r → Steady (maybe p r)
unfolding maybe
steady_maybe p r s ts = go (peek p ts) refl
  where
    go : (b : Bool) → peek p ts ≡ b → SteadyAt (maybe p r) ts
    go true e = steady_like (maybe p r) r ts (λ us h. let q : peek p us ≡ true = peek_heads p ts us h ∙ e in rw (q, maybe)) (s ts)
    go false e = steady_like (maybe p r) nothing ts (λ us h. let q : peek p us ≡ false = peek_heads p ts us h ∙ e in rw (q, maybe)) (steady_nothing ts)

-- A reader that puts its first leaf, and errors perhaps, in front of what another gets behind it.
abbrev pub pushing : (Forest → Forest) → List Err → Got → Got
pushing f es g = record { tree = f g.tree; errs = es ++ g.errs; rest = g.rest }

module _ (t : Leaf) (f : Forest → Forest) (es : List Err) (e : (c : Forest) → leaves (f c) ≡ t ∷ leaves c) where
  pub starts_push : (g : Got) (ts : List Leaf) → Starts (pushing f es g) (t ∷ ts)
  starts_push g ts us h = rw (e g.tree) refl

  module _ (p q : Reader) (i : (us : List Leaf) → p (t ∷ us) ≡ pushing f es (q us)) where
    pub again_push : (g : Got) → Again q g → Again p (pushing f es g)
    again_push g a us h = rw (e g.tree) (i (leaves g.tree ++ us) ∙ ap (pushing f es) (a us h))

    pub steady_push : (ts : List Leaf) → SteadyAt q ts → SteadyAt p (t ∷ ts)
    steady_push ts s =
        record {
          same = rw (i ts, e (q ts).tree) (ap (λ l. t ∷ l) s.same);
          again = rw (i ts) (again_push (q ts) s.again);
        }

pub steady_bump : Steady bump
unfolding bump nothing leaves
steady_bump [] = steady_like_nil bump nothing refl (steady_nothing [])
steady_bump (t ∷ ts) = steady_push t (leaf t) [] (λ c. refl) bump nothing (λ us. refl) ts (steady_nothing ts)
