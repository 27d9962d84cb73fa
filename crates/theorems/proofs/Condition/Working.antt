-- Working out while reading is reading and then working out: every maker goes with the trees.
use Prim.Native.Nat.{ℕ, zero, suc}
use mathlib.Core.Path.{◌≡◌, refl, ap, ap₂}
use mathlib.Core.Bool.{Bool, true, false}
use mathlib.Core.List.{List, [], ◌∷◌}
use mathlib.Core.Option.{Option, none, some}
use lib.ListN.{length}
use Rattle.definition.specs.SyntaxKind.{Kind}
use Rattle.definition.specs.Tree.{Leaf}
use Rattle.definition.specs.Parser.{is}
use Rattle.definition.specs.Condition.Operators.{Binary}
use Rattle.definition.specs.Condition.Expression.{Expr, number, name, defined, sign, bracket, both, solid, most_open}
use Rattle.definition.specs.Condition.Meaning.{Name, after, joins, meaning}
use Rattle.definition.specs.Condition.Reader.{Maker, trees, Got, got, nothing, ◌▸◌, Begin, digits, ident, asks, opens, other, signs, begin, goes_on, asked_in, asked, closed, deeper, operand, climb, expression, whole, made, tree}
use Rattle.theorems.specs.Climbing.{fold, values}

unfoldable pub through : {A B : Type 0} → (A → B) → Got A → Got B
through f nothing = nothing
through f (got a R) = got (f a) R

unfoldable pub mapped : {A B : Type 0} → (A → B) → Option A → Option B
mapped f none = none
mapped f (some a) = some (f a)

through_then : {A B : Type 0} (f : A → B) (g : Got A) (h : A → List Leaf → Got A) (k : B → List Leaf → Got B)
    → ((a : A) (R : List Leaf) → k (f a) R ≡ through f (h a R)) → (through f g ▸ k) ≡ through f (g ▸ h)
unfolding through ◌▸◌
through_then f nothing h k e = refl
through_then f (got a R) h k e = e a R

module _ {A : Type 0} (make : Maker A) where
  abbrev f : Expr → A
  f e = fold make e

  fold_asked_in : (L : List Leaf) → asked_in make L ≡ through f (asked_in trees L)
  unfolding asked_in through fold
  fold_asked_in [] = refl
  fold_asked_in (u ∷ []) = refl
  fold_asked_in (u ∷ c ∷ R) = go (is Kind.IDENT_KW u) refl (is Kind.RPAREN c) refl
    where
      go : (a : Bool) → is Kind.IDENT_KW u ≡ a → (b : Bool) → is Kind.RPAREN c ≡ b → asked_in make (u ∷ c ∷ R) ≡ through f (asked_in trees (u ∷ c ∷ R))
      go true p true q = rw (p, asked_in, q)
      go true p false q = rw (p, asked_in, q)
      go false p b q = rw (p, asked_in)

  fold_asked : (L : List Leaf) → asked make L ≡ through f (asked trees L)
  unfolding asked through fold
  fold_asked [] = refl
  fold_asked (u ∷ R) = go (is Kind.IDENT_KW u) refl (is Kind.LPAREN u) refl
    where
      go : (a : Bool) → is Kind.IDENT_KW u ≡ a → (b : Bool) → is Kind.LPAREN u ≡ b → asked make (u ∷ R) ≡ through f (asked trees (u ∷ R))
      go true p b q = rw (p, asked)
      go false p true q = rw (p, asked, q) (fold_asked_in R)
      go false p false q = rw (p, asked, q)

  fold_closed : (e : Expr) (L : List Leaf) → closed make (f e) L ≡ through f (closed trees e L)
  unfolding closed through fold
  fold_closed e [] = refl
  fold_closed e (c ∷ R) = go (is Kind.RPAREN c) refl
    where
      go : (b : Bool) → is Kind.RPAREN c ≡ b → closed make (f e) (c ∷ R) ≡ through f (closed trees e (c ∷ R))
      go true q = rw (q, closed)
      go false q = rw (q, closed)

  fold_from : (n d r : ℕ) (L : List Leaf) → operand make n d L ≡ through f (operand trees n d L)
      → ((a : Expr) (M : List Leaf) → climb make n d r (f a) M ≡ through f (climb trees n d r a M))
      → (operand make n d L ▸ (λ a M. climb make n d r a M)) ≡ through f (operand trees n d L ▸ (λ a M. climb trees n d r a M))
  fold_from n d r L p q = rw p (through_then f (operand trees n d L) (λ a M. climb trees n d r a M) (λ a M. climb make n d r a M) q)

  mutual
    unfolding operand climb deeper through fold

    pub fold_operand : (n d : ℕ) (L : List Leaf) → operand make n d L ≡ through f (operand trees n d L)
    fold_operand zero d L = refl
    fold_operand (suc n) d [] = refl
    fold_operand (suc n) d (t ∷ L) =
        go d (begin t) refl (λ d. fold_operand n d L) (λ d. fold_from n d 0 L (fold_operand n d L) (λ a M. fold_climb n d 0 a M))
      where
        go : (d : ℕ) (b : Begin) → begin t ≡ b → ((d : ℕ) → operand make n d L ≡ through f (operand trees n d L))
            → ((d : ℕ) → (operand make n d L ▸ (λ a M. climb make n d 0 a M)) ≡ through f (operand trees n d L ▸ (λ a M. climb trees n d 0 a M)))
            → operand make (suc n) d (t ∷ L) ≡ through f (operand trees (suc n) d (t ∷ L))
        go d (digits k) e ih ihs = rw (e, operand)
        go d ident e ih ihs = rw (e, operand)
        go d asks e ih ihs = rw (e, operand) (fold_asked L)
        go zero opens e ih ihs = rw (e, operand)
        go (suc d) opens e ih ihs =
            rw (e, operand, ihs d) (through_then f (operand trees n d L ▸ (λ a M. climb trees n d 0 a M)) (λ a M. closed trees a M) (λ a M. closed make a M) (λ a R. fold_closed a R))
        go d other e ih ihs = rw (e, operand)
        go zero (signs o) e ih ihs = rw (e, operand)
        go (suc d) (signs o) e ih ihs =
            rw (e, operand, ih d) (through_then f (operand trees n d L) (λ a M. got (sign o a) M) (λ a M. got (make.sign o a) M) (λ a R. refl))

    pub fold_climb : (n d r : ℕ) (a : Expr) (M : List Leaf) → climb make n d r (f a) M ≡ through f (climb trees n d r a M)
    fold_climb zero d r a M = refl
    fold_climb (suc n) d r a [] = refl
    fold_climb (suc n) d r a (t ∷ M) =
        go (goes_on r t) refl (λ s. fold_from n d s M (fold_operand n d M) (λ b N. fold_climb n d s b N)) (λ b N. fold_climb n d r b N)
      where
        go : (o : Option Binary) → goes_on r t ≡ o
            → ((s : ℕ) → (operand make n d M ▸ (λ a M. climb make n d s a M)) ≡ through f (operand trees n d M ▸ (λ a M. climb trees n d s a M)))
            → ((b : Expr) (N : List Leaf) → climb make n d r (f b) N ≡ through f (climb trees n d r b N))
            → climb make (suc n) d r (f a) (t ∷ M) ≡ through f (climb trees (suc n) d r a (t ∷ M))
        go none e right on = rw (e, climb)
        go (some o) e right on =
            rw (e, climb, right (suc o.rank))
            (through_then f (operand trees n d M ▸ (λ b N. climb trees n d (suc o.rank) b N)) (λ b N. climb trees n d r (both o a b) N)
            (λ b N. climb make n d r (make.both o (f a) b) N) (λ b N. on (both o a b) N))

  pub made_tree : (L : List Leaf) → made make L ≡ mapped f (tree L)
  unfolding made expression mapped whole through
  made_tree L = rw (fold_from n most_open 0 M (fold_operand n most_open M) (λ a R. fold_climb n most_open 0 a R)) (go (operand trees n most_open M ▸ (λ a R. climb trees n most_open 0 a R)))
    where
      M : List Leaf
      M = solid L

      n : ℕ
      n = length M

      go : (g : Got Expr) → whole (through f g) ≡ mapped f (whole g)
      go nothing = refl
      go (got e []) = refl
      go (got e (t ∷ R)) = refl

-- What an expression comes to is what it is made into.
pub meaning_fold : (look : List ℕ → Option Name) (e : Expr) → fold (values look) e ≡ meaning look e
unfolding fold meaning
meaning_fold look (number n) = refl
meaning_fold look (name w) = refl
meaning_fold look (defined w) = refl
meaning_fold look (sign o e) = ap (λ x. after x o.does) (meaning_fold look e)
meaning_fold look (bracket e) = meaning_fold look e
meaning_fold look (both o a b) = ap₂ (joins o) (meaning_fold look a) (meaning_fold look b)
