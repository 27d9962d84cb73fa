-- What is read is an expression of the grammar, within the levels that may be opened.
use Prim.Native.Nat.{ℕ, zero, suc, ◌≤◌, ◌<◌}
use mathlib.Core.Path.{◌≡◌, refl, ap, ◌∙◌}
use mathlib.Core.Bool.{Bool, true, false}
use mathlib.Core.List.{List, [], ◌∷◌}
use mathlib.Core.Option.{Option, none, some}
use native.Mathlib.Omega.{arith}
use lib.Dec.{leb}
use borrow.Author.Tests.{leb-true, leb-false}
use Rattle.definition.specs.SyntaxKind.{Kind}
use Rattle.definition.specs.Tree.{Leaf}
use Rattle.definition.specs.Parser.{is}
use Rattle.definition.specs.Condition.Operators.{Binary, binary}
use Rattle.definition.specs.Condition.Expression.{Expr, sign, both, depth, Operand, a_number, a_name, a_defined, a_defined_in, a_sign, a_bracket, Ranked, alone, joined}
use Rattle.definition.specs.Condition.Reader.{trees, Got, got, nothing, ◌▸◌, Begin, digits, ident, asks, opens, other, signs, begin, over, goes_on, asked_in, asked, closed, deeper, operand, climb}
use Rattle.theorems.proofs.Condition.Cases.{Begins, b_digits, b_ident, b_asks, b_opens, b_other, b_signs, begins}
use Rattle.theorems.proofs.Condition.Complete.{front, Ends}

-- What holds of the expression that was got, if one was.
pub data Each {A : Type 0} (P : A → List Leaf → Type 0) : Got A → Type 0 where
  not_got : Each P nothing
  that : {e : A} {R : List Leaf} → P e R → Each P (got e R)

pub each_then : {A : Type 0} {P Q : A → List Leaf → Type 0} {g : Got A} (f : A → List Leaf → Got A) → Each P g → ((e : A) (R : List Leaf) → P e R → Each Q (f e R)) → Each Q (g ▸ f)
unfolding ◌▸◌
each_then f not_got k = not_got
each_then f (that {e = e} {R = R} h) k = k e R h

-- An operand, and an expression behind which no operator goes on, within d levels.
pub record Fine (d : ℕ) (L : List Leaf) (e : Expr) (R : List Leaf) : Type 0 where
  pub it : Operand e L R
  pub levels : depth e ≤ d

pub record Full (d r : ℕ) (L : List Leaf) (e : Expr) (R : List Leaf) : Type 0 where
  pub it : Ranked r e L R
  pub levels : depth e ≤ d
  pub ends : Ends r R

-- A left side that any operator ahead may join.
pub record Ready (r : ℕ) (a : Expr) (L M : List Leaf) : Type 0 where
  pub now : Ranked r a L M
  pub next : {o : Binary} → front M ≡ some o → r ≤ o.rank → Ranked o.rank a L M

sound_asked_in : (d : ℕ) (t o : Leaf) → is Kind.DEFINED t ≡ true → is Kind.LPAREN o ≡ true → (L : List Leaf) → Each (Fine d (t ∷ o ∷ L)) (asked_in trees L)
unfolding asked_in depth
sound_asked_in d t o e f [] = not_got
sound_asked_in d t o e f (u ∷ []) = not_got
sound_asked_in d t o e f (u ∷ c ∷ R) = go (is Kind.IDENT_KW u) refl (is Kind.RPAREN c) refl
  where
    go : (a : Bool) → is Kind.IDENT_KW u ≡ a → (b : Bool) → is Kind.RPAREN c ≡ b → Each (Fine d (t ∷ o ∷ u ∷ c ∷ R)) (asked_in trees (u ∷ c ∷ R))
    go true g true h = rw (g, asked_in, h) (that record { it = a_defined_in e f g refl h; levels = omega arith })
    go true g false h = rw (g, asked_in, h) not_got
    go false g b h = rw (g, asked_in) not_got

sound_asked : (d : ℕ) (t : Leaf) → is Kind.DEFINED t ≡ true → (L : List Leaf) → Each (Fine d (t ∷ L)) (asked trees L)
unfolding asked depth
sound_asked d t e [] = not_got
sound_asked d t e (u ∷ R) = go (is Kind.IDENT_KW u) refl (is Kind.LPAREN u) refl
  where
    go : (a : Bool) → is Kind.IDENT_KW u ≡ a → (b : Bool) → is Kind.LPAREN u ≡ b → Each (Fine d (t ∷ u ∷ R)) (asked trees (u ∷ R))
    go true g b h = rw (g, asked) (that record { it = a_defined e g refl; levels = omega arith })
    go false g true h = rw (g, asked, h) (sound_asked_in d t u e h R)
    go false g false h = rw (g, asked, h) not_got

sound_closed : (d : ℕ) (t : Leaf) → is Kind.LPAREN t ≡ true → (L : List Leaf) (e : Expr) (R : List Leaf) → Full d 0 L e R → Each (Fine (suc d) (t ∷ L)) (closed trees e R)
unfolding closed depth
sound_closed d t i L e [] x = not_got
sound_closed d t i L e (c ∷ R) x = go (is Kind.RPAREN c) refl
  where
    go : (b : Bool) → is Kind.RPAREN c ≡ b → Each (Fine (suc d) (t ∷ L)) (closed trees e (c ∷ R))
    go true h = rw (h, closed) (that record { it = a_bracket i x.it h; levels = let l = x.levels in omega arith })
    go false h = rw (h, closed) not_got

ready : {d : ℕ} {L : List Leaf} {r : ℕ} {e : Expr} {R : List Leaf} → Fine d L e R → Ready r e L R
ready f = record { now = alone f.it; next = λ q l. alone f.it }

-- An expression is an operand and what is climbed to from it.
pub from : (n d r : ℕ) (L : List Leaf) → Each (Fine d L) (operand trees n d L)
    → ((a : Expr) (M : List Leaf) → Ready r a L M → depth a ≤ d → Each (Full d r L) (climb trees n d r a M)) → Each (Full d r L) (operand trees n d L ▸ (λ e M. climb trees n d r e M))
from n d r L x k = each_then (λ e M. climb trees n d r e M) x (λ e R f. k e R (ready f) f.levels)

-- The operator that goes on.
record Goes (r : ℕ) (t : Leaf) (o : Binary) : Type 0 where
  is_it : binary t.kind ≡ some o
  high : r ≤ o.rank

goes : (r : ℕ) (t : Leaf) {o : Binary} → goes_on r t ≡ some o → Goes r t o
unfolding over
goes r t {o} e = go (binary t.kind) refl e
  where
    go : (x : Option Binary) → binary t.kind ≡ x → over r x ≡ some o → Goes r t o
    go none f g = let z : ◌≡◌ {A = ℕ} 0 1 = cc in absurd (omega arith)
    go (some p) f g = test (leb r p.rank) refl
      where
        test : (b : Bool) → leb r p.rank ≡ b → Goes r t o
        test true h = let q : p ≡ o = cc (rw (h, over) at g) in record { is_it = f ∙ ap some q; high = rw (← q) (leb-true r p.rank h) }
        test false h = let z : ◌≡◌ {A = ℕ} 0 1 = cc (rw (h, over) at g) in absurd (omega arith)

-- Where none of rank r or higher is in front, a lower one may be.
lower : {r : ℕ} {M : List Leaf} {o : Binary} → Ends r M → front M ≡ some o → o.rank < r
unfolding over
lower {r} {M} {o} e f = test (leb r o.rank) refl (rw f at e.none_ahead)
  where
    test : (b : Bool) → leb r o.rank ≡ b → over r (some o) ≡ none → o.rank < r
    test true h g = let z : ◌≡◌ {A = ℕ} 0 1 = cc (rw (h, over) at g) in absurd (omega arith)
    test false h g = leb-false r o.rank h

-- The operator joins its two sides into a left side.
join_ready : {d r : ℕ} {t : Leaf} {o : Binary} {a b : Expr} {L M N : List Leaf}
    → Ready r a L (t ∷ M) → Goes r t o → Full d (suc o.rank) M b N → Ready r (both o a b) L N
unfolding front
join_ready {r = r} {o = o} x g f =
    let y = x.next g.is_it g.high in
    record {
      now = joined g.high y g.is_it f.it;
      next = λ {o = p} q l. let h : p.rank ≤ o.rank = omega (arith, lower f.ends q) in joined h y g.is_it f.it;
    }

mutual
  unfolding operand climb depth deeper front over

  pub sound : (n d : ℕ) (L : List Leaf) → Each (Fine d L) (operand trees n d L)
  sound zero d L = not_got
  sound (suc n) d [] = not_got
  sound (suc n) d (t ∷ L) = go d (begin t) refl (begins t) (λ d. sound n d L) (λ d. from n d 0 L (sound n d L) (λ a M x h. sound_climb n d 0 a L M x h))
    where
      go : (d : ℕ) (b : Begin) → begin t ≡ b → Begins t b → ((d : ℕ) → Each (Fine d L) (operand trees n d L))
          → ((d : ℕ) → Each (Full d 0 L) (operand trees n d L ▸ (λ e M. climb trees n d 0 e M))) → Each (Fine d (t ∷ L)) (operand trees (suc n) d (t ∷ L))
      go d (digits k) e (b_digits f g) ih ihs = rw (e, operand) (that record { it = a_number f g; levels = omega arith })
      go d ident e (b_ident f) ih ihs = rw (e, operand) (that record { it = a_name f refl; levels = omega arith })
      go d asks e (b_asks f) ih ihs = rw (e, operand) (sound_asked d t f L)
      go zero opens e (b_opens f) ih ihs = rw (e, operand) not_got
      go (suc d) opens e (b_opens f) ih ihs = rw (e, operand) (each_then (λ e M. closed trees e M) (ihs d) (sound_closed d t f L))
      go d other e b_other ih ihs = rw (e, operand) not_got
      go zero (signs o) e (b_signs f) ih ihs = rw (e, operand) not_got
      go (suc d) (signs o) e (b_signs f) ih ihs =
          rw (e, operand) (each_then (λ e M. got (sign o e) M) (ih d) (λ a R x. that record { it = a_sign f x.it; levels = let l = x.levels in omega arith }))

  pub sound_climb : (n d r : ℕ) (a : Expr) (L M : List Leaf) → Ready r a L M → depth a ≤ d → Each (Full d r L) (climb trees n d r a M)
  sound_climb zero d r a L M x h = not_got
  sound_climb (suc n) d r a L [] x h = that record { it = x.now; levels = h; ends = record { none_ahead = refl } }
  sound_climb (suc n) d r a L (t ∷ M) x h =
      go (goes_on r t) refl
      (λ s. from n d s M (sound n d M) (λ b N y k. sound_climb n d s b M N y k))
      (λ b N y k. sound_climb n d r b L N y k)
    where
      go : (o : Option Binary) → goes_on r t ≡ o
          → ((s : ℕ) → Each (Full d s M) (operand trees n d M ▸ (λ e M. climb trees n d s e M)))
          → ((b : Expr) (N : List Leaf) → Ready r b L N → depth b ≤ d → Each (Full d r L) (climb trees n d r b N)) → Each (Full d r L) (climb trees (suc n) d r a (t ∷ M))
      go none e right on = rw (e, climb) (that record { it = x.now; levels = h; ends = record { none_ahead = e } })
      go (some o) e right on =
          let g = goes r t e in
          rw (e, climb) (each_then (λ b N. climb trees n d r (both o a b) N) (right (suc o.rank)) (λ b N f.
          on (both o a b) N (join_ready x g f) (let l = f.levels in omega arith)))
