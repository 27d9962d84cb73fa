-- Every expression of the grammar is read.
use Prim.Native.Nat.{ℕ, zero, suc, ◌≤◌, ◌<◌}
use mathlib.Core.Path.{◌≡◌, refl, ◌∙◌}
use mathlib.Core.Bool.{Bool, true, false}
use mathlib.Core.List.{List, [], ◌∷◌}
use mathlib.Core.Option.{Option, none, some}
use native.Mathlib.Omega.{arith}
use lib.Dec.{leb}
use lib.ListN.{length}
use borrow.Author.Tests.{le-leb, leb-false, lt-leb}
use Rattle.definition.specs.SyntaxKind.{Kind}
use Rattle.definition.specs.Tree.{Leaf}
use Rattle.definition.specs.Parser.{is}
use Rattle.definition.specs.Condition.Operators.{Binary, binaries, lookup, binary}
use Rattle.definition.specs.Condition.Expression.{Expr, both, depth, Operand, a_number, a_name, a_defined, a_defined_in, a_sign, a_bracket, Ranked, alone, joined}
use Rattle.definition.specs.Condition.Reader.{trees, got, ◌▸◌, over, goes_on, asked_in, asked, closed, deeper, operand, climb, expression}
use Rattle.theorems.proofs.Condition.Cases.{of_kind, begin_sign, begin_number, begin_name, begin_asks, begin_opens}

-- The operator in front, and that none of rank r or higher stands there.
unfoldable pub front : List Leaf → Option Binary
front [] = none
front (t ∷ M) = binary t.kind

pub record Ends (r : ℕ) (M : List Leaf) : Type 0 where
  pub none_ahead : over r (front M) ≡ none

over_none : {r s : ℕ} (o : Option Binary) → r ≤ s → over r o ≡ none → over s o ≡ none
unfolding over
over_none none h e = refl
over_none {r} {s} (some o) h e = go (leb r o.rank) refl
  where
    go : (b : Bool) → leb r o.rank ≡ b → over s (some o) ≡ none
    go true q = let z : ◌≡◌ {A = ℕ} 0 1 = cc (rw (q, over) at e) in absurd (omega arith)
    go false q = let f = leb-false r o.rank q in rw (lt-leb s o.rank (omega arith))

pub ends_up : {r s : ℕ} {M : List Leaf} → r ≤ s → Ends r M → Ends s M
ends_up {M = M} h e = record { none_ahead = over_none (front M) h e.none_ahead }

over_some : {r : ℕ} (o : Binary) → r ≤ o.rank → over r (some o) ≡ some o
unfolding over
over_some {r} o h = rw (le-leb r o.rank h)

over_next : (o : Binary) → over (suc o.rank) (some o) ≡ none
unfolding over
over_next o = rw (lt-leb (suc o.rank) o.rank (omega arith))

-- Each piece takes a leaf or more.
mutual
  pub shorter : {e : Expr} {L R : List Leaf} → Operand e L R → length R < length L
  shorter (a_number e f) = omega arith
  shorter (a_name e f) = omega arith
  shorter (a_defined e f g) = omega arith
  shorter (a_defined_in e f g h k) = omega arith
  shorter (a_sign e p) = let h = shorter p in omega arith
  shorter (a_bracket e p f) = let h = ranked_shorter p in omega arith

  pub ranked_shorter : {r : ℕ} {e : Expr} {L R : List Leaf} → Ranked r e L R → length R < length L
  ranked_shorter (alone p) = shorter p
  ranked_shorter (joined h p e q) = let x = ranked_shorter p in let y = ranked_shorter q in omega arith

-- No operator is at the end of a bracket.
closes : {r : ℕ} {R : List Leaf} (c : Leaf) → is Kind.RPAREN c ≡ true → Ends r (c ∷ R)
unfolding front over binary lookup binaries
closes c e = record { none_ahead = rw (of_kind c e) }

-- A reader stops where no operator follows.
climb_ends : (n d r : ℕ) (a : Expr) (M : List Leaf) → Ends r M → climb trees (suc n) d r a M ≡ got a M
unfolding climb front over
climb_ends n d r a [] h = refl
climb_ends n d r a (t ∷ M) h = rw (h.none_ahead, climb)

-- An operator of its own rank goes on, and does not end what is looser.
goes_on_at : {r : ℕ} {o : Binary} (t : Leaf) → binary t.kind ≡ some o → r ≤ o.rank → goes_on r t ≡ some o
goes_on_at {o = o} t e h = rw e (over_some o h)

ends_at : {o : Binary} (t : Leaf) (M : List Leaf) → binary t.kind ≡ some o → Ends (suc o.rank) (t ∷ M)
unfolding front
ends_at {o} t M e = record { none_ahead = rw e (over_next o) }

-- Reading an expression is climbing from it, with as much left to count as remains.
pub record Climbs (n d r : ℕ) (a : Expr) (L M : List Leaf) : Type 0 where
  pub left : ℕ
  pub enough : length M < left
  pub same : expression trees n d r L ≡ climb trees left d r a M

pub ended : {n d r : ℕ} {a : Expr} {L M : List Leaf} → Climbs n d r a L M → Ends r M → expression trees n d r L ≡ got a M
ended {n} {d} {r} {a} {L} {M} x e = go x.left x.enough x.same
  where
    go : (m : ℕ) → length M < m → expression trees n d r L ≡ climb trees m d r a M → expression trees n d r L ≡ got a M
    go zero h p = absurd (omega arith)
    go (suc m) h p = p ∙ climb_ends m d r a M e

mutual
  unfolding operand climb expression depth deeper ◌▸◌ asked asked_in closed

  pub complete : {e : Expr} {L R : List Leaf} → Operand e L R → (n d : ℕ) → length L ≤ n → depth e ≤ d → operand trees n d L ≡ got e R
  complete (a_number e f) zero d h k = absurd (omega arith)
  complete (a_number {t = t} e f) (suc n) d h k = rw (begin_number t e f, operand)
  complete (a_name e f) zero d h k = absurd (omega arith)
  complete (a_name {t = t} e f) (suc n) d h k = rw (begin_name t e, operand, f)
  complete (a_defined e f g) zero d h k = absurd (omega arith)
  complete (a_defined {t = t} e f g) (suc n) d h k = rw (begin_asks t e, operand, f, g)
  complete (a_defined_in e f g w q) zero d h k = absurd (omega arith)
  complete (a_defined_in {t = t} {o = o} e f g w q) (suc n) d h k = rw (begin_asks t e, operand, of_kind o f, g, w, q)
  complete (a_sign e p) zero d h k = absurd (omega arith)
  complete (a_sign e p) (suc n) zero h k = absurd (omega arith)
  complete (a_sign {t = t} e p) (suc n) (suc d) h k = rw (begin_sign t e, operand, complete p n d (omega arith) (omega arith))
  complete (a_bracket e p f) zero d h k = absurd (omega arith)
  complete (a_bracket e p f) (suc n) zero h k = absurd (omega arith)
  complete (a_bracket {t = t} {c = c} {e = e} {L = L} {R = R} i p f) (suc n) (suc d) h k =
      let x = complete_ranked p (closes c f) 0 (omega arith) n d (omega arith) (omega arith) in
      let y : expression trees n d 0 L ≡ got e (c ∷ R) = ended x (closes c f) in
      rw (begin_opens t i, operand, y, f)

  pub complete_ranked : {r : ℕ} {e : Expr} {L R : List Leaf} → Ranked r e L R → Ends (suc r) R → (s : ℕ) → s ≤ r
      → (n d : ℕ) → length L ≤ n → depth e ≤ d → Climbs n d s e L R
  complete_ranked (alone p) z s l n d h k = record { left = n; enough = let x = shorter p in omega arith; same = rw (complete p n d h k, expression) }
  complete_ranked (joined {t = t} {o = o} {a = a} {b = b} {L = L} {M = M} {R = R} h p e q) z s l n d i k =
      let x = complete_ranked p (ends_at t M e) s (omega arith) n d i (omega arith) in
      let u = ranked_shorter p in
      let v = ranked_shorter q in
      step x.left x.enough x.same (λ m j. ended (complete_ranked q (ends_up (omega arith) z) (suc o.rank) (omega arith) m d j (omega arith)) (ends_up (omega arith) z))
    where
      step : (m : ℕ) → length (t ∷ M) < m → expression trees n d s L ≡ climb trees m d s a (t ∷ M)
          → ((m : ℕ) → length M ≤ m → expression trees m d (suc o.rank) M ≡ got b R) → Climbs n d s (both o a b) L R
      step zero f w ih = absurd (omega arith)
      step (suc m) f w ih = record { left = m; enough = omega (arith, ranked_shorter q); same = w ∙ rw (goes_on_at {r = s} t e (omega arith), climb, ih m (omega arith)) }
