-- The readers without their count, one equation a case: what code is proved against. And trivia, leaf by leaf.
use Prim.Native.Nat.{ℕ, zero, suc, ◌+◌, ◌≤◌, ◌<◌}
use mathlib.Core.Path.{◌≡◌, refl, ap}
use mathlib.Core.Bool.{Bool, true, false}
use mathlib.Core.List.{List, [], ◌∷◌}
use mathlib.Core.Option.{Option, none, some}
use native.Mathlib.Omega.{arith}
use lib.ListN.{length}
use Rattle.definition.specs.SyntaxKind.{Kind}
use Rattle.definition.specs.Tree.{Leaf}
use Rattle.definition.specs.Parser.{is, trivia, after}
use Rattle.definition.specs.Condition.Operators.{Binary, Unary}
use Rattle.definition.specs.Condition.Expression.{word, solid, most_open}
use Rattle.definition.specs.Condition.Reader.{Maker, Got, got, nothing, ◌▸◌, Begin, digits, ident, asks, opens, other, signs, begin, goes_on, asked_in, asked, closed, deeper, operand, climb, expression, whole, made}
use Rattle.theorems.specs.Climbing.{operand_of, climb_of, expression_of}
use Rattle.theorems.proofs.Condition.Sound.{Each, not_got, that, each_then}

-- k leaves or more are taken.
pub record Takes {A : Type 0} (k : ℕ) (L : List Leaf) (a : A) (R : List Leaf) : Type 0 where
  pub shorter : k + length R ≤ length L

-- The next reader matters only at what was got.
then_same : {A : Type 0} {P : A → List Leaf → Type 0} {g : Got A} (h k : A → List Leaf → Got A) → Each P g → ((a : A) (R : List Leaf) → P a R → h a R ≡ k a R) → (g ▸ h) ≡ (g ▸ k)
unfolding ◌▸◌
then_same h k not_got e = refl
then_same h k (that {e = a} {R = R} p) e = e a R p

module _ {A : Type 0} (make : Maker A) where
  short_asked_in : (t o : Leaf) (L : List Leaf) → Each (Takes {A = A} 1 (t ∷ o ∷ L)) (asked_in make L)
  unfolding asked_in
  short_asked_in t o [] = not_got
  short_asked_in t o (u ∷ []) = not_got
  short_asked_in t o (u ∷ c ∷ R) = go (is Kind.IDENT_KW u) refl (is Kind.RPAREN c) refl
    where
      go : (a : Bool) → is Kind.IDENT_KW u ≡ a → (b : Bool) → is Kind.RPAREN c ≡ b → Each (Takes {A = A} 1 (t ∷ o ∷ u ∷ c ∷ R)) (asked_in make (u ∷ c ∷ R))
      go true p true q = rw (p, asked_in, q) (that {R = R} record { shorter = omega arith })
      go true p false q = rw (p, asked_in, q) not_got
      go false p b q = rw (p, asked_in) not_got

  short_asked : (t : Leaf) (L : List Leaf) → Each (Takes {A = A} 1 (t ∷ L)) (asked make L)
  unfolding asked
  short_asked t [] = not_got
  short_asked t (u ∷ R) = go (is Kind.IDENT_KW u) refl (is Kind.LPAREN u) refl
    where
      go : (a : Bool) → is Kind.IDENT_KW u ≡ a → (b : Bool) → is Kind.LPAREN u ≡ b → Each (Takes {A = A} 1 (t ∷ u ∷ R)) (asked make (u ∷ R))
      go true p b q = rw (p, asked) (that {R = R} record { shorter = omega arith })
      go false p true q = rw (p, asked, q) (short_asked_in t u R)
      go false p false q = rw (p, asked, q) not_got

  short_closed : (t : Leaf) (L : List Leaf) (a : A) (R : List Leaf) → Takes 1 L a R → Each (Takes {A = A} 1 (t ∷ L)) (closed make a R)
  unfolding closed
  short_closed t L a [] x = not_got
  short_closed t L a (c ∷ R) x = go (is Kind.RPAREN c) refl
    where
      go : (b : Bool) → is Kind.RPAREN c ≡ b → Each (Takes {A = A} 1 (t ∷ L)) (closed make a (c ∷ R))
      go true q = rw (q, closed) (that {R = R} record { shorter = let h = x.shorter in omega arith })
      go false q = rw (q, closed) not_got

  short_from : (n d r : ℕ) (L : List Leaf) → Each (Takes 1 L) (operand make n d L) → ((a : A) (M : List Leaf) → Each (Takes 0 M) (climb make n d r a M))
      → Each (Takes 1 L) (operand make n d L ▸ (λ a M. climb make n d r a M))
  short_from n d r L x k = each_then (λ a M. climb make n d r a M) x (λ a M p. weaker M (λ c R q. record { shorter = let h = p.shorter in let j = q.shorter in omega arith }) (k a M))
    where
      weaker : (M : List Leaf) → ((c : A) (R : List Leaf) → Takes 0 M c R → Takes 1 L c R) → {g : Got A} → Each (Takes 0 M) g → Each (Takes 1 L) g
      weaker M f not_got = not_got
      weaker M f (that {e = c} {R = R} q) = that (f c R q)

  mutual
    unfolding operand climb deeper

    pub short : (n d : ℕ) (L : List Leaf) → Each (Takes 1 L) (operand make n d L)
    short zero d L = not_got
    short (suc n) d [] = not_got
    short (suc n) d (t ∷ L) = go d (begin t) refl (λ d. short n d L) (λ d. short_from n d 0 L (short n d L) (λ a M. short_climb n d 0 a M))
      where
        go : (d : ℕ) (b : Begin) → begin t ≡ b → ((d : ℕ) → Each (Takes 1 L) (operand make n d L))
            → ((d : ℕ) → Each (Takes 1 L) (operand make n d L ▸ (λ a M. climb make n d 0 a M))) → Each (Takes 1 (t ∷ L)) (operand make (suc n) d (t ∷ L))
        go d (digits k) e ih ihs = rw (e, operand) (that {R = L} record { shorter = omega arith })
        go d ident e ih ihs = rw (e, operand) (that {R = L} record { shorter = omega arith })
        go d asks e ih ihs = rw (e, operand) (short_asked t L)
        go zero opens e ih ihs = rw (e, operand) not_got
        go (suc d) opens e ih ihs = rw (e, operand) (each_then (λ a M. closed make a M) (ihs d) (short_closed t L))
        go d other e ih ihs = rw (e, operand) not_got
        go zero (signs o) e ih ihs = rw (e, operand) not_got
        go (suc d) (signs o) e ih ihs = rw (e, operand) (each_then (λ a M. got (make.sign o a) M) (ih d) (λ a R x. that {R = R} record { shorter = let h = x.shorter in omega arith }))

    pub short_climb : (n d r : ℕ) (a : A) (M : List Leaf) → Each (Takes 0 M) (climb make n d r a M)
    short_climb zero d r a M = not_got
    short_climb (suc n) d r a [] = that {R = []} record { shorter = omega arith }
    short_climb (suc n) d r a (t ∷ M) = go (goes_on r t) refl (λ s. short_from n d s M (short n d M) (λ b N. short_climb n d s b N)) (λ b N. short_climb n d r b N)
      where
        on_to : {N : List Leaf} → length N ≤ length M → {g : Got A} → Each (Takes 0 N) g → Each (Takes 0 (t ∷ M)) g
        on_to h not_got = not_got
        on_to h (that {R = R} q) = that {R = R} record { shorter = let j = q.shorter in omega arith }

        go : (o : Option Binary) → goes_on r t ≡ o → ((s : ℕ) → Each (Takes 1 M) (operand make n d M ▸ (λ a N. climb make n d s a N)))
            → ((b : A) (N : List Leaf) → Each (Takes 0 N) (climb make n d r b N)) → Each (Takes 0 (t ∷ M)) (climb make (suc n) d r a (t ∷ M))
        go none e right on = rw (e, climb) (that {R = t ∷ M} record { shorter = omega arith })
        go (some o) e right on =
            rw (e, climb) (each_then (λ b N. climb make n d r (make.both o a b) N) (right (suc o.rank)) (λ b N x. on_to (let h = x.shorter in omega arith) (on (make.both o a b) N)))

  -- A count that is large enough does not matter.
  stable_from : (n m d r : ℕ) (L : List Leaf) → operand make n d L ≡ operand make m d L
      → ((a : A) (M : List Leaf) → length M < length L → climb make n d r a M ≡ climb make m d r a M)
      → (operand make n d L ▸ (λ a M. climb make n d r a M)) ≡ (operand make m d L ▸ (λ a M. climb make m d r a M))
  stable_from n m d r L p q = rw p (then_same (λ a M. climb make n d r a M) (λ a M. climb make m d r a M) (short m d L) (λ a M x. q a M (let h = x.shorter in omega arith)))

  mutual
    unfolding operand climb deeper

    stable : (n m d : ℕ) (L : List Leaf) → length L ≤ n → length L ≤ m → operand make n d L ≡ operand make m d L
    stable zero zero d L h k = refl
    stable zero (suc m) d [] h k = refl
    stable zero (suc m) d (t ∷ L) h k = absurd (omega arith)
    stable (suc n) zero d [] h k = refl
    stable (suc n) zero d (t ∷ L) h k = absurd (omega arith)
    stable (suc n) (suc m) d [] h k = refl
    stable (suc n) (suc m) d (t ∷ L) h k =
        go d (begin t) refl (λ d. stable n m d L (omega arith) (omega arith))
        (λ d. stable_from n m d 0 L (stable n m d L (omega arith) (omega arith)) (λ a M x. stable_climb n m d 0 a M (omega arith) (omega arith)))
      where
        go : (d : ℕ) (b : Begin) → begin t ≡ b → ((d : ℕ) → operand make n d L ≡ operand make m d L)
            → ((d : ℕ) → (operand make n d L ▸ (λ a M. climb make n d 0 a M)) ≡ (operand make m d L ▸ (λ a M. climb make m d 0 a M)))
            → operand make (suc n) d (t ∷ L) ≡ operand make (suc m) d (t ∷ L)
        go d (digits k) e ih ihs = rw (e, operand)
        go d ident e ih ihs = rw (e, operand)
        go d asks e ih ihs = rw (e, operand)
        go zero opens e ih ihs = rw (e, operand)
        go (suc d) opens e ih ihs = rw (e, operand, ihs d)
        go d other e ih ihs = rw (e, operand)
        go zero (signs o) e ih ihs = rw (e, operand)
        go (suc d) (signs o) e ih ihs = rw (e, operand, ih d)

    stable_climb : (n m d r : ℕ) (a : A) (M : List Leaf) → length M < n → length M < m → climb make n d r a M ≡ climb make m d r a M
    stable_climb zero m d r a M h k = absurd (omega arith)
    stable_climb (suc n) zero d r a M h k = absurd (omega arith)
    stable_climb (suc n) (suc m) d r a [] h k = refl
    stable_climb (suc n) (suc m) d r a (t ∷ M) h k =
        go (goes_on r t) refl
        (λ s. stable_from n m d s M (stable n m d M (omega arith) (omega arith)) (λ b N x. stable_climb n m d s b N (omega arith) (omega arith)))
        (λ b N x. stable_climb n m d r b N (omega arith) (omega arith))
      where
        go : (o : Option Binary) → goes_on r t ≡ o
            → ((s : ℕ) → (operand make n d M ▸ (λ a N. climb make n d s a N)) ≡ (operand make m d M ▸ (λ a N. climb make m d s a N)))
            → ((b : A) (N : List Leaf) → length N < length M → climb make n d r b N ≡ climb make m d r b N)
            → climb make (suc n) d r a (t ∷ M) ≡ climb make (suc m) d r a (t ∷ M)
        go none e right on = rw (e, climb)
        go (some o) e right on =
            rw (e, climb, right (suc o.rank))
            (then_same (λ b N. climb make n d r (make.both o a b) N) (λ b N. climb make m d r (make.both o a b) N)
            (short_from m d (suc o.rank) M (short m d M) (λ b N. short_climb m d (suc o.rank) b N))
            (λ b N x. on (make.both o a b) N (let h = x.shorter in omega arith)))

  counted : (n d r : ℕ) (L : List Leaf) → length L ≤ n → (operand make n d L ▸ (λ a M. climb make n d r a M)) ≡ expression_of make d r L
  unfolding operand_of climb_of expression_of
  counted n d r L h =
      rw (stable n (length L) d L h (omega arith))
      (then_same (λ a M. climb make n d r a M) (λ a M. climb make (suc (length M)) d r a M) (short (length L) d L)
      (λ a M x. stable_climb n (suc (length M)) d r a M (let k = x.shorter in omega arith) (omega arith)))

  pub short_expression : (d r : ℕ) (L : List Leaf) → Each (Takes 1 L) (expression_of make d r L)
  short_expression d r L = rw (← counted (length L) d r L (omega arith)) (short_from (length L) d r L (short (length L) d L) (λ a M. short_climb (length L) d r a M))

  pub made_is : (L : List Leaf) → made make L ≡ whole (expression_of make most_open 0 (solid L))
  unfolding made expression
  made_is L = ap whole (counted (length (solid L)) most_open 0 (solid L) (omega arith))

  module _ (d : ℕ) (t : Leaf) (L : List Leaf) where
    pub at_number : {k : ℕ} → begin t ≡ digits k → operand_of make d (t ∷ L) ≡ got (make.number k) L
    unfolding operand_of operand
    at_number e = rw (e, operand)

    pub at_name : begin t ≡ ident → operand_of make d (t ∷ L) ≡ got (make.name (word t)) L
    unfolding operand_of operand
    at_name e = rw (e, operand)

    pub at_defined : begin t ≡ asks → operand_of make d (t ∷ L) ≡ asked make L
    unfolding operand_of operand
    at_defined e = rw (e, operand)

    pub at_other : begin t ≡ other → operand_of make d (t ∷ L) ≡ nothing
    unfolding operand_of operand
    at_other e = rw (e, operand)

    pub at_sign : {o : Unary} → begin t ≡ signs o → operand_of make (suc d) (t ∷ L) ≡ operand_of make d L ▸ (λ a M. got (make.sign o a) M)
    unfolding operand_of operand deeper
    at_sign e = rw (e, operand)

    pub too_deep_sign : {o : Unary} → begin t ≡ signs o → operand_of make 0 (t ∷ L) ≡ nothing
    unfolding operand_of operand deeper
    too_deep_sign e = rw (e, operand)

    pub too_deep_open : begin t ≡ opens → operand_of make 0 (t ∷ L) ≡ nothing
    unfolding operand_of operand deeper
    too_deep_open e = rw (e, operand)

    pub at_open : begin t ≡ opens → operand_of make (suc d) (t ∷ L) ≡ expression_of make d 0 L ▸ (λ a M. closed make a M)
    unfolding operand deeper operand_of
    at_open e = rw (e, operand, counted (length L) d 0 L (omega arith))

  module _ (d r : ℕ) (a : A) (t : Leaf) (M : List Leaf) where
    pub at_stop : goes_on r t ≡ none → climb_of make d r a (t ∷ M) ≡ got a (t ∷ M)
    unfolding climb_of climb
    at_stop e = rw (e, climb)

    pub at_operator : {o : Binary} → goes_on r t ≡ some o → climb_of make d r a (t ∷ M) ≡ expression_of make d (suc o.rank) M ▸ (λ b N. climb_of make d r (make.both o a b) N)
    unfolding climb climb_of
    at_operator {o} e =
        rw (e, climb, counted (suc (length M)) d (suc o.rank) M (omega arith))
        (then_same (λ b N. climb make (suc (length M)) d r (make.both o a b) N) (λ b N. climb make (suc (length N)) d r (make.both o a b) N)
        (short_expression d (suc o.rank) M)
        (λ b N x. stable_climb (suc (length M)) (suc (length N)) d r (make.both o a b) N (let h = x.shorter in omega arith) (omega arith)))

  pub nothing_left : (d : ℕ) → operand_of make d [] ≡ nothing
  unfolding operand_of operand
  nothing_left d = refl

  pub nothing_ahead : (d r : ℕ) (a : A) → climb_of make d r a [] ≡ got a []
  unfolding climb_of climb
  nothing_ahead d r a = refl

-- Trivia is passed over, and any other leaf counts.
pub solid_trivia : (t : Leaf) (L : List Leaf) → trivia t ≡ true → solid (t ∷ L) ≡ solid L
unfolding solid
solid_trivia t L e = rw (e, solid)

pub solid_leaf : (t : Leaf) (L : List Leaf) → trivia t ≡ false → solid (t ∷ L) ≡ t ∷ solid L
unfolding solid
solid_leaf t L e = rw (e, solid)

pub solid_after : (L : List Leaf) → solid (after trivia L) ≡ solid L
unfolding after solid
solid_after [] = refl
solid_after (t ∷ L) = go (trivia t) refl (solid_after L)
  where
    go : (b : Bool) → trivia t ≡ b → solid (after trivia L) ≡ solid L → solid (after trivia (t ∷ L)) ≡ solid (t ∷ L)
    go true e ih = rw (e, after, solid) ih
    go false e ih = let q : after trivia (t ∷ L) ≡ t ∷ L = rw (e, after) in ap solid q
