-- Signs, brackets and operators: what the readers that call each other get.
use Rattle.std.specs.Prelude.{if◌then◌else◌, Result, Some, None}
use Rattle.std.specs.Prelude as options
use Prim.Native.Nat.{ℕ, suc, ◌-◌, ◌≤◌, ◌<◌}
use mathlib.Core.Path.{◌≡◌, refl, sym, ap, ◌∙◌}
use mathlib.Core.Bool.{Bool, true, false, false≢true}
use mathlib.Core.List.{List, [], ◌∷◌}
use mathlib.Core.Option.{Option, none, some}
use native.Mathlib.Omega.{arith}
use borrow.Author.Tests.{eq-eqb, ne_eqb, eqb-true, eqb-false, le-leb, lt-leb}
use lib.Dec.{eqb}
use lib.ListN.{length}
use Rattle.definition.specs.SyntaxKind.{Kind}
use Rattle.definition.specs.Tree.{Leaf}
use Rattle.definition.specs.Parser.{is, peek}
use Rattle.definition.specs.Condition.Value.{Outcome}
use Rattle.definition.specs.Condition.Operators.{Binary, Unary, binaries, unaries, lookup, binary, unary}
use Rattle.definition.specs.Condition.Meaning.{after}
use Rattle.definition.specs.Condition.Reader.{Maker, Got, got, nothing, ◌▸◌, Begin, digits, ident, asks, opens, other, signs, begin, over, goes_on, closed}
use Rattle.theorems.specs.Climbing.{operand_of, climb_of, expression_of}
use Rattle.theorems.proofs.Condition.Cases.{begin_sign, begin_opens, Begins, b_digits, b_ident, b_asks, b_opens, b_other, b_signs, begins}
use Rattle.theorems.proofs.Condition.Sound.{Each, that}
use Rattle.theorems.proofs.Condition.Equations.{Takes, short, short_expression, at_number, at_name, at_defined, at_other, at_sign, too_deep_sign, too_deep_open, at_open, at_stop, at_operator, nothing_left, nothing_ahead}
use lib.IntN.{ℤ}
use Rattle.text.specs.declared.refusal.Refusal.{Refusal}
use Rattle.arithmetic.specs.Told.{told, joined, signed_by, binary_of, unary_of, rank_number, is_unary}
use Rattle.parser.specs.declared.Seen.{Seen}
use Rattle.parser.specs.Rest.{leaf_seen}
use Rattle.condition.specs.declared.Step.{Step}
use Rattle.condition.specs.Steps.{left, Stands, Follows, worth, told_step, Gets, simple, shut}
use Rattle.condition.proofs.Standing.{left_none, left_leaf, left_kind, left_next, fewer_left}
use Rattle.condition.proofs.Getting.{step, gets_nothing, gets_got}

-- The same outcome of another reader.
gets_is : {src : List ℕ} {g h : Got Outcome} {r : options.Option Step} → h ≡ g → Gets src g r → Gets src h r
gets_is q x = record { is = x.is ∙ sym q; stands = x.stands }

-- The end of a bracket.
shut_not : (o : Outcome) (L : List Leaf) → peek (is Kind.RPAREN) L ≡ false → shut o L ≡ nothing
unfolding shut peek
shut_not o [] e = refl
shut_not o (c ∷ R) e = rw (e, shut)

-- What a bracket holds, and its end.
module _ (src : List ℕ) {g : Got Outcome} where
  pub nothing_held : Gets src g None → Gets src (g ▸ shut) None
  unfolding ◌▸◌
  nothing_held x = gets_nothing (ap (λ y. y ▸ shut) (sym x.is))

  module _ (a : Step) (x : Gets src g (Some a)) where
    pub unclosed : eqb a.next.kind Kind.RPAREN ≡ false → Gets src (g ▸ shut) None
    unfolding ◌▸◌
    unclosed k =
        gets_nothing (ap (λ y. y ▸ shut) (sym x.is) ∙ shut_not (told a.value) (left src a.next) (left_kind src a.next x.stands Kind.RPAREN (λ z. omega arith) ∙ k))

    pub closed_here : a.next.kind ≡ Kind.RPAREN → (n : Seen) → Follows src a.next.end a.next.angle n → Gets src (g ▸ shut) (Some (step n a.value))
    unfolding ◌▸◌ shut
    closed_here k n f =
        gets_got f.stands refl (ap (λ y. y ▸ shut) (sym x.is) ∙ rw (left_next src a.next x.stands n f (λ z. omega (arith, k, z)), eq-eqb _ _ k, shut))

-- A bracket's end gives what it holds.
closed_shut : (list text : List ℕ) (a : Outcome) (L : List Leaf) → closed (worth list text) a L ≡ shut a L
unfolding closed shut
closed_shut list text a [] = refl
closed_shut list text a (c ∷ R) = refl

shut_after : (list text : List ℕ) (g : Got Outcome) → (g ▸ (λ a M. closed (worth list text) a M)) ≡ (g ▸ shut)
unfolding ◌▸◌
shut_after list text nothing = refl
shut_after list text (got a R) = closed_shut list text a R

-- A sign of the definition, by its kind.
pub data SignOf (k : ℕ) : Type 0 where
  sign_of : {o : Unary} → unary k ≡ some o → SignOf k

sign_kind : (k : ℕ) → is_unary (unary k) ≡ true → SignOf k
unfolding is_unary
sign_kind k e = go (unary k) refl e
  where
    go : (o : Option Unary) → unary k ≡ o → is_unary o ≡ true → SignOf k
    go none q e = absurd (false≢true e)
    go (some o) q e = sign_of q

some_sign : (k : ℕ) (b : Bool) → b ≡ is_unary (unary k) → b ≡ true → k ≡ 0 → ⊥
unfolding is_unary unary lookup unaries
some_sign k b w e z = false≢true (sym (ap (λ k. is_unary (unary k)) z) ∙ sym w ∙ e)

some_open : (x : Seen) → x.kind ≡ Kind.LPAREN → x.kind ≡ 0 → ⊥
some_open x k z = omega (arith, k, z)

-- Behind a sign or an opened bracket fewer leaves are left.
module _ (src : List ℕ) (x : Seen) (s : Stands src x) (n : Seen) (f : Follows src x.end x.angle n) where
  pub sign_fewer : (b : Bool) → b ≡ is_unary (unary x.kind) → b ≡ true → length (left src n) < length (left src x)
  sign_fewer b w e = fewer_left src x s n f (some_sign x.kind b w e)

  pub open_fewer : x.kind ≡ Kind.LPAREN → length (left src n) < length (left src x)
  open_fewer k = fewer_left src x s n f (some_open x k)

after_sign : (o : Unary) (k : ℕ) (g : Outcome) → unary k ≡ some o → signed_by k g ≡ after g o.does
unfolding unary_of
after_sign o k g q = rw q refl

-- An operand without signs and brackets, by its first leaf.
unfoldable signed_leaf : Leaf → Bool
signed_leaf t = is_unary (unary t.kind)

no_sign : (k : ℕ) {o : Unary} → is_unary (unary k) ≡ false → unary k ≡ some o → ⊥
unfolding is_unary
no_sign k q f = false≢true (sym q ∙ ap is_unary f)

simple_operand : (list text : List ℕ) (d : ℕ) (L : List Leaf) → peek (is Kind.LPAREN) L ≡ false → peek signed_leaf L ≡ false
    → operand_of (worth list text) d L ≡ simple (worth list text) L
unfolding simple peek signed_leaf
simple_operand list text d [] p q = nothing_left (worth list text) d
simple_operand list text d (t ∷ L) p q = by (begin t) refl (begins t)
  where
    by : (k : Begin) → begin t ≡ k → Begins t k → operand_of (worth list text) d (t ∷ L) ≡ simple (worth list text) (t ∷ L)
    by (digits n) e (b_digits f g) = at_number (worth list text) d t L e ∙ rw (e, simple) refl
    by ident e (b_ident f) = at_name (worth list text) d t L e ∙ rw (e, simple) refl
    by asks e (b_asks f) = at_defined (worth list text) d t L e ∙ rw (e, simple) refl
    by opens e (b_opens f) = absurd (false≢true (sym p ∙ f))
    by other e b_other = at_other (worth list text) d t L e ∙ rw (e, simple) refl
    by (signs o) e (b_signs f) = absurd (no_sign t.kind q f)

module _ (src list text : List ℕ) (x : Seen) (s : Stands src x) (d : ℕ) where
  abbrev made : ℕ → List Leaf → Got Outcome
  made = operand_of (worth list text)

  one_more : (d ≡ 0 → ⊥) → d ≡ suc (d - 1)
  one_more z = omega arith

  module _ (b : Bool) (w : b ≡ is_unary (unary x.kind)) where
    module _ (e : b ≡ true) where
      here : x.kind ≡ 0 → ⊥
      here = some_sign x.kind b w e

      pub sign_too_deep : d ≡ 0 → Gets src (made d (left src x)) None
      sign_too_deep z = go (sign_kind x.kind (sym w ∙ e))
        where
          go : SignOf x.kind → Gets src (made d (left src x)) None
          go (sign_of q) = gets_nothing (rw (z, left_leaf src x s here) (too_deep_sign (worth list text) d (leaf_seen src x) _ (begin_sign (leaf_seen src x) q)))

      module _ (z : d ≡ 0 → ⊥) (n : Seen) (f : Follows src x.end x.angle n) where
        operand_is : {o : Unary} → unary x.kind ≡ some o → made (d - 1) (left src n) ▸ (λ y M. got (after y o.does) M) ≡ made d (left src x)
        operand_is {o} q =
            sym (ap (made d) (left_next src x s n f here) ∙ ap (λ m. made m (leaf_seen src x ∷ left src n)) (one_more z) ∙ at_sign (worth list text) (d - 1) (leaf_seen src x) (left src n) (begin_sign (leaf_seen src x) q))

        pub signs_nothing : Gets src (made (d - 1) (left src n)) None → Gets src (made d (left src x)) None
        unfolding ◌▸◌
        signs_nothing g = go (sign_kind x.kind (sym w ∙ e))
          where
            go : SignOf x.kind → Gets src (made d (left src x)) None
            go (sign_of {o} q) = gets_nothing (sym (ap (λ y. y ▸ (λ y M. got (after y o.does) M)) g.is ∙ operand_is q))

        pub signs_operand : (a : Step) (v : Result ℤ Refusal) → Gets src (made (d - 1) (left src n)) (Some a) → told v ≡ signed_by x.kind (told a.value) → Gets src (made d (left src x)) (Some (step a.next v))
        unfolding ◌▸◌
        signs_operand a v g h = go (sign_kind x.kind (sym w ∙ e))
          where
            go : SignOf x.kind → Gets src (made d (left src x)) (Some (step a.next v))
            go (sign_of {o} q) =
                gets_got g.stands (h ∙ after_sign o x.kind (told a.value) q) (sym (ap (λ y. y ▸ (λ y M. got (after y o.does) M)) g.is ∙ operand_is q))

    module _ (e : b ≡ false) where
      -- Neither a sign nor a bracket: an operand without them.
      pub operand_simple : (x.kind ≡ Kind.LPAREN → ⊥) → {r : options.Option Step} → Gets src (simple (worth list text) (left src x)) r → Gets src (made d (left src x)) r
      unfolding peek signed_leaf
      operand_simple k g = gets_is (simple_operand list text d (left src x) (left_kind src x s Kind.LPAREN (λ z. omega arith) ∙ ne_eqb _ _ k) (by (eqb x.kind 0) refl)) g
        where
          by : (b : Bool) → eqb x.kind 0 ≡ b → peek signed_leaf (left src x) ≡ false
          by true z = rw (left_none src x s (eqb-true _ _ z)) refl
          by false z = rw (left_leaf src x s (eqb-false _ _ z)) (sym w ∙ e)

  -- A bracket.
  module _ (k : x.kind ≡ Kind.LPAREN) where
    pub open_too_deep : d ≡ 0 → Gets src (made d (left src x)) None
    open_too_deep z =
        gets_nothing (rw (z, left_leaf src x s (some_open x k)) (too_deep_open (worth list text) d (leaf_seen src x) _ (begin_opens (leaf_seen src x) (eq-eqb _ _ k))))

    module _ (z : d ≡ 0 → ⊥) (n : Seen) (f : Follows src x.end x.angle n) where
      pub opens_bracket : {r : options.Option Step} → Gets src (expression_of (worth list text) (d - 1) 0 (left src n) ▸ shut) r → Gets src (made d (left src x)) r
      opens_bracket g =
          gets_is (ap (made d) (left_next src x s n f (some_open x k)) ∙ ap (λ m. made m (leaf_seen src x ∷ left src n)) (one_more z)
          ∙ at_open (worth list text) (d - 1) (leaf_seen src x) (left src n) (begin_opens (leaf_seen src x) (eq-eqb _ _ k)) ∙ shut_after list text _) g

-- An operator of the definition, by its rank.
pub data Ranks (k r : ℕ) : Type 0 where
  ranks : {o : Binary} → binary k ≡ some o → r ≡ suc o.rank → Ranks k r

operator_kind : (k r above : ℕ) → above ≡ rank_number (binary k) → r < above → Ranks k above
unfolding rank_number
operator_kind k r above q h = go (binary k) refl
  where
    go : (o : Option Binary) → binary k ≡ o → Ranks k above
    go none e = let z : above ≡ 0 = q ∙ ap rank_number e in absurd (omega arith)
    go (some o) e = ranks e (q ∙ ap rank_number e)

stops : (k r above : ℕ) → above ≡ rank_number (binary k) → above ≤ r → over r (binary k) ≡ none
unfolding over rank_number
stops k r above w h = go (binary k) refl
  where
    go : (o : Option Binary) → binary k ≡ o → over r (binary k) ≡ none
    go none e = rw e refl
    go (some o) e = let q : above ≡ suc o.rank = w ∙ ap rank_number e in rw (e, over, lt-leb r o.rank (omega arith))

-- What was got is shorter.
got_fewer : {k : ℕ} {L R : List Leaf} {g : Got Outcome} {o : Outcome} → Each (Takes {A = Outcome} (suc k) L) g → g ≡ got o R → length R < length L
got_fewer {k} {L} {R} {o = o} e q = go (rw q at e)
  where
    go : Each (Takes {A = Outcome} (suc k) L) (got o R) → length R < length L
    go (that t) = omega (arith, t.shorter)

-- The operators behind what was read.
abbrev climbing : (src list text : List ℕ) (d r : ℕ) → Step → Got Outcome
climbing src list text d r a = climb_of (worth list text) d r (told a.value) (left src a.next)

-- Where the loop over operators stands: it began behind the first operand, at a₀.
pub record Climbs (src list text : List ℕ) (d r : ℕ) (a₀ a : Step) : Type 0 where
  pub same : climbing src list text d r a ≡ climbing src list text d r a₀
  pub stands : Stands src a.next
  pub fewer : length (left src a.next) ≤ length (left src a₀.next)

module _ (src list text : List ℕ) (x : Seen) (d r : ℕ) where
  abbrev W : Maker Outcome
  W = worth list text

  abbrev wanted : Got Outcome
  wanted = expression_of W d r (left src x)

  -- No operand was read.
  pub not_begun : Gets src (operand_of (worth list text) d (left src x)) None → Gets src wanted None
  unfolding expression_of ◌▸◌
  not_begun g = gets_nothing (rw (sym g.is) refl)

  module _ (a₀ : Step) (g₀ : Gets src (operand_of (worth list text) d (left src x)) (Some a₀)) where
    told_first : operand_of W d (left src x) ≡ got (told a₀.value) (left src a₀.next)
    told_first = sym g₀.is

    first_fewer : length (left src a₀.next) < length (left src x)
    unfolding operand_of
    first_fewer = got_fewer (short W (length (left src x)) d (left src x)) told_first

    from_first : climbing src list text d r a₀ ≡ wanted
    unfolding expression_of ◌▸◌
    from_first = rw told_first refl

    module _ (a : Step) (i : Climbs src list text d r a₀ a) (above : ℕ) (w : above ≡ rank_number (binary a.next.kind)) where
      abbrev t : Seen
      t = a.next

      -- No operator of this rank goes on.
      pub climbed : above ≤ r → Gets src wanted (Some a)
      climbed h = record { is = sym (by (eqb t.kind 0) refl) ∙ i.same ∙ from_first; stands = i.stands }
        where
          by : (b : Bool) → eqb t.kind 0 ≡ b → climbing src list text d r a ≡ got (told a.value) (left src t)
          by true z = rw (left_none src t i.stands (eqb-true _ _ z)) (nothing_ahead W d r (told a.value))
          by false z = rw (left_leaf src t i.stands (eqb-false _ _ z)) (at_stop W d r (told a.value) (leaf_seen src t) _ (stops t.kind r above w h))

      -- An operator goes on, with an expression of the next rank.
      module _ (h : r < above) (n : Seen) (f : Follows src t.end t.angle n) where
        some_operator : t.kind ≡ 0 → ⊥
        unfolding rank_number binary lookup binaries
        some_operator z = let q : above ≡ 0 = w ∙ ap (λ k. rank_number (binary k)) z in omega arith

        pub climb_fewer : length (left src n) < length (left src x)
        climb_fewer = omega (arith, first_fewer, i.fewer, fewer_left src t i.stands n f some_operator)

        module _ {b : options.Option Step} (g : Gets src (expression_of W d above (left src n)) b) where
          onward : {o : Binary} → binary t.kind ≡ some o → above ≡ suc o.rank
              → told_step src b ▸ (λ y N. climb_of W d r (joined t.kind (told a.value) y) N) ≡ climbing src list text d r a₀
          unfolding over binary_of
          onward {o} e q =
              let l = le-leb r o.rank (omega arith) in
              let p : goes_on r (leaf_seen src t) ≡ some o = rw (e, l) refl in
              rw (g.is, q, e)
              (sym (at_operator W d r (told a.value) (leaf_seen src t) (left src n) p) ∙ ap (climb_of W d r (told a.value)) (sym (left_next src t i.stands n f some_operator)) ∙ i.same)

        pub not_joined : Gets src (expression_of W d above (left src n)) None → Gets src wanted None
        unfolding ◌▸◌
        not_joined g = go (operator_kind t.kind r above w h)
          where
            go : Ranks t.kind above → Gets src wanted None
            go (ranks p q) = record { is = onward g p q ∙ from_first; stands = tt }

        module _ (b : Step) (g : Gets src (expression_of W d above (left src n)) (Some b)) (v : Result ℤ Refusal) (j : told v ≡ joined t.kind (told a.value) (told b.value)) where
          pub nearer : length (left src b.next) < length (left src t)
          nearer =
              let l = got_fewer (short_expression W d above (left src n)) (sym g.is) in
              omega (arith, l, fewer_left src t i.stands n f some_operator)

          pub climbs_on : Climbs src list text d r a₀ (step b.next v)
          unfolding ◌▸◌
          climbs_on = go (operator_kind t.kind r above w h)
            where
              go : Ranks t.kind above → Climbs src list text d r a₀ (step b.next v)
              go (ranks p q) = record {
                same = ap (λ o. climb_of W d r o (left src b.next)) j ∙ onward g p q;
                stands = g.stands;
                fewer = omega (arith, nearer, i.fewer);
              }
