-- What the readers get: nothing, or an expression and what is left behind it.
use Rattle.std.specs.Prelude.{if◌then◌else◌, Result, Ok, Err, Some, None}
use Rattle.std.specs.Prelude as options
use Prim.Native.Nat.{ℕ, ◌^◌}
use mathlib.Core.Path.{◌≡◌, refl, sym, ap, ◌∙◌}
use mathlib.Core.Bool.{Bool, true, false, false≢true}
use mathlib.Core.List.{List, [], ◌∷◌}
use mathlib.Core.Option.{Option, none, some}
use native.Mathlib.Omega.{arith}
use borrow.Author.Tests.{eq-eqb, ne_eqb}
use lib.Dec.{eqb, ltb}
use lib.IntN.{ℤ, pos}
use lib.Signed.{mag}
use Rattle.definition.specs.SyntaxKind.{Kind}
use Rattle.definition.specs.Tree.{Leaf}
use Rattle.definition.specs.Parser.{is, peek}
use Rattle.definition.specs.Condition.Value.{ValueRefusal, Outcome, value, refused, outside, within}
use Rattle.definition.specs.Condition.Literal.{literal}
use Rattle.definition.specs.Condition.Operators.{unaries, lookup, unary}
use Rattle.definition.specs.Condition.Expression.{word, solid}
use Rattle.definition.specs.Condition.Meaning.{valued, listed}
use Rattle.definition.specs.Condition.Reader.{Got, got, nothing, Begin, digits, ident, asks, opens, other, signs, begin, asked_in, asked}
use Rattle.theorems.specs.LeavesFrom.{leaves_from}
use Rattle.theorems.proofs.Condition.Cases.{of_kind, begin_number, begin_name, begin_asks, Begins, b_digits, b_ident, b_asks, b_opens, b_other, b_signs, begins, asked_in_other, asked_in_open, asked_in_name, asked_name, asked_bracket, asked_other}
use Rattle.text.specs.Refusal.{number}
use Rattle.text.specs.declared.refusal.Refusal.{Refusal}
use Rattle.text.specs.declared.refusal.Refusal.TheVariants as kinds
use Rattle.text.specs.declared.refusal.Refusal.TheVariants.{Length, Utf8, Concats, Entries, Errors, Lines, Lookup, Output, Cut, Expression, Name, Range}
use Rattle.definition.specs.Condition.Valuing.{no_expression}
use Rattle.arithmetic.specs.Told.{told}
use Rattle.literal.specs.Comes.{comes, literal_comes}
use Rattle.parser.specs.declared.Seen.{Seen}
use Rattle.parser.specs.Rest.{leaf_seen}
use Rattle.condition.specs.declared.Step.{Step}
use Rattle.condition.specs.Steps.{left, Stands, Follows, look_in, worth, Gets, numbered, simple}
use Rattle.condition.proofs.Standing.{left_leaf, left_kind, left_next}

-- An expression that was read, of the code.
abbrev pub step : Seen → Result ℤ Refusal → Step
step n v = record { next = n; value = v }

-- Nothing was read.
pub gets_nothing : {src : List ℕ} {g : Got Outcome} → g ≡ nothing → Gets src g None
gets_nothing e = record { is = sym e; stands = tt }

-- An expression was read.
pub gets_got : {src : List ℕ} {g : Got Outcome} {v : Result ℤ Refusal} {n : Seen} {o : Outcome} → Stands src n → told v ≡ o → g ≡ got o (left src n) → Gets src g (Some (step n v))
gets_got {src} {n = n} s t e = record { is = ap (λ o. got o (left src n)) t ∙ sym e; stands = s }

-- An operand by its first leaf: a DIGITS leaf,
begin_no_number : (t : Leaf) → is Kind.DIGITS t ≡ true → literal (word t) ≡ none → begin t ≡ other
unfolding begin unary lookup unaries
begin_no_number t e f = rw (of_kind t e, f)

digits_simple : (list text : List ℕ) (t : Leaf) (L : List Leaf) → is Kind.DIGITS t ≡ true → simple (worth list text) (t ∷ L) ≡ numbered (t ∷ L)
unfolding simple numbered
digits_simple list text t L e = go (literal (word t)) refl
  where
    go : (l : Option ℕ) → literal (word t) ≡ l → simple (worth list text) (t ∷ L) ≡ numbered (t ∷ L)
    go none f = rw (begin_no_number t e f, simple, f, numbered)
    go (some n) f = rw (begin_number t e f, simple, f, numbered)

-- or one that begins none.
none_simple : (list text : List ℕ) (L : List Leaf) → peek (is Kind.DIGITS) L ≡ false → peek (is Kind.IDENT_KW) L ≡ false → peek (is Kind.DEFINED) L ≡ false
    → simple (worth list text) L ≡ nothing
unfolding simple peek
none_simple list text [] a b c = refl
none_simple list text (t ∷ L) a b c = go (begin t) refl (begins t)
  where
    go : (k : Begin) → begin t ≡ k → Begins t k → simple (worth list text) (t ∷ L) ≡ nothing
    go (digits n) e (b_digits f g) = absurd (false≢true (sym a ∙ f))
    go ident e (b_ident f) = absurd (false≢true (sym b ∙ f))
    go asks e (b_asks f) = absurd (false≢true (sym c ∙ f))
    go opens e (b_opens f) = rw (e, simple)
    go other e b_other = rw (e, simple)
    go (signs o) e (b_signs f) = rw (e, simple)

-- Only one refusal is that of no expression.
expression_is : (r : Refusal) → number r ≡ ValueRefusal.EXPRESSION → r ≡ Expression
expression_is Length e = absurd (omega arith)
expression_is Utf8 e = absurd (omega arith)
expression_is Concats e = absurd (omega arith)
expression_is Entries e = absurd (omega arith)
expression_is Errors e = absurd (omega arith)
expression_is Lines e = absurd (omega arith)
expression_is Lookup e = absurd (omega arith)
expression_is Output e = absurd (omega arith)
expression_is kinds.Kind e = absurd (omega arith)
expression_is Cut e = absurd (omega arith)
expression_is Expression e = refl
expression_is Name e = absurd (omega arith)
expression_is Range e = absurd (omega arith)

-- The number of an outcome's refusal.
abbrev code : Outcome → ℕ
code (value z) = 0
code (refused n) = n

told_expression : (v : Result ℤ Refusal) → told v ≡ no_expression → v ≡ Err Expression
told_expression (Ok z) e = let n : 0 ≡ ValueRefusal.EXPRESSION = ap code e in absurd (omega arith)
told_expression (Err r) e = ap (λ r. Err r) (expression_is r (ap code e))

code_within : (z : ℤ) → code (within z) ≡ ValueRefusal.EXPRESSION → ⊥
unfolding within
code_within z = go (ltb (mag z) (2 ^ 31))
  where
    go : (b : Bool) → code (if b then value z else outside) ≡ ValueRefusal.EXPRESSION → ⊥
    go true e = omega arith
    go false e = omega arith

module _ (src : List ℕ) (x : Seen) (s : Stands src x) where
  abbrev leaf : Leaf
  leaf = leaf_seen src x

  -- Another kind is seen.
  seen_other : (k : ℕ) → (k ≡ 0 → ⊥) → (x.kind ≡ k → ⊥) → peek (is k) (left src x) ≡ false
  seen_other k n h = left_kind src x s k n ∙ ne_eqb x.kind k h

  -- A DIGITS leaf, by what its literal comes to.
  module _ (z : x.kind ≡ 0 → ⊥) (v : Result ℤ Refusal) (t : told v ≡ literal_comes (word leaf)) where
    pub number_none : v ≡ Err Expression → Gets src (numbered (left src x)) None
    unfolding numbered comes
    number_none h = go (literal (word leaf)) refl
      where
        go : (l : Option ℕ) → literal (word leaf) ≡ l → Gets src (numbered (left src x)) None
        go none e = gets_nothing (rw (left_leaf src x s z, e, numbered))
        go (some m) e = absurd (code_within (pos m) (ap code (sym (t ∙ ap comes e) ∙ ap told h)))

    pub number_some : (v ≡ Err Expression → ⊥) → (n : Seen) → Follows src x.end x.angle n → Gets src (numbered (left src x)) (Some (step n v))
    unfolding numbered comes
    number_some h n f = go (literal (word leaf)) refl
      where
        go : (l : Option ℕ) → literal (word leaf) ≡ l → Gets src (numbered (left src x)) (Some (step n v))
        go none e = absurd (h (told_expression v (t ∙ ap comes e)))
        go (some m) e = gets_got f.stands (t ∙ ap comes e) (rw (left_next src x s n f z, e, numbered))

  module _ (list text : List ℕ) where
    -- The name behind `defined (`, and the bracket's end.
    pub in_other : eqb x.kind Kind.IDENT_KW ≡ false → Gets src (asked_in (worth list text) (left src x)) None
    in_other h = gets_nothing (asked_in_other (worth list text) (left src x) (left_kind src x s Kind.IDENT_KW (λ z. omega arith) ∙ h))

    module _ (k : x.kind ≡ Kind.IDENT_KW) (c : Seen) (f : Follows src x.end x.angle c) where
      at_name : left src x ≡ leaf ∷ left src c
      at_name = left_next src x s c f (λ z. omega (arith, k, z))

      pub in_open : eqb c.kind Kind.RPAREN ≡ false → Gets src (asked_in (worth list text) (left src x)) None
      in_open h =
          gets_nothing (ap (asked_in (worth list text)) at_name ∙ asked_in_open (worth list text) leaf (left src c) (left_kind src c f.stands Kind.RPAREN (λ z. omega arith) ∙ h))

      pub in_name : c.kind ≡ Kind.RPAREN → (n : Seen) → Follows src c.end c.angle n → (v : Result ℤ Refusal) → told v ≡ listed (look_in list text (word leaf))
          → Gets src (asked_in (worth list text) (left src x)) (Some (step n v))
      in_name h n g v t =
          gets_got g.stands t (
          ap (asked_in (worth list text)) (at_name ∙ ap (λ l. leaf ∷ l) (left_next src c f.stands n g (λ z. omega (arith, h, z))))
          ∙ asked_in_name (worth list text) leaf (leaf_seen src c) (left src n) (eq-eqb _ _ k) (eq-eqb _ _ h))

      -- What is behind `defined`: a name,
      pub is_name : (v : Result ℤ Refusal) → told v ≡ listed (look_in list text (word leaf)) → Gets src (asked (worth list text) (left src x)) (Some (step c v))
      is_name v t = gets_got f.stands t (ap (asked (worth list text)) at_name ∙ asked_name (worth list text) leaf (left src c) (eq-eqb _ _ k))

      -- An operand that is a name.
      pub a_name : (v : Result ℤ Refusal) → told v ≡ valued (look_in list text (word leaf)) → Gets src (simple (worth list text) (left src x)) (Some (step c v))
      unfolding simple
      a_name v t = gets_got f.stands t (rw (at_name, begin_name leaf (eq-eqb _ _ k), simple))

    -- one in brackets,
    pub in_brackets : x.kind ≡ Kind.LPAREN → (n : Seen) → Follows src x.end x.angle n → {r : options.Option Step} → Gets src (asked_in (worth list text) (left src n)) r
        → Gets src (asked (worth list text) (left src x)) r
    in_brackets k n f g = rw (left_next src x s n f (λ z. omega (arith, k, z)), asked_bracket (worth list text) leaf (left src n) (eq-eqb _ _ k)) g

    -- or neither.
    pub no_name : (x.kind ≡ Kind.IDENT_KW → ⊥) → (x.kind ≡ Kind.LPAREN → ⊥) → Gets src (asked (worth list text) (left src x)) None
    no_name h k = gets_nothing (asked_other (worth list text) (left src x) (seen_other Kind.IDENT_KW (λ z. omega arith) h) (seen_other Kind.LPAREN (λ z. omega arith) k))

    -- An operand that is `defined` with a name,
    pub a_defined : x.kind ≡ Kind.DEFINED → (n : Seen) → Follows src x.end x.angle n → {r : options.Option Step} → Gets src (asked (worth list text) (left src n)) r
        → Gets src (simple (worth list text) (left src x)) r
    unfolding simple
    a_defined k n f g = rw (left_next src x s n f (λ z. omega (arith, k, z)), begin_asks leaf (eq-eqb _ _ k), simple) g

    -- a DIGITS leaf,
    pub a_number : x.kind ≡ Kind.DIGITS → {r : options.Option Step} → Gets src (numbered (left src x)) r → Gets src (simple (worth list text) (left src x)) r
    a_number k g =
        let q = left_leaf src x s (λ z. omega (arith, k, z)) in
        rw (q, digits_simple list text leaf (solid (leaves_from src x.end x.angle)) (eq-eqb _ _ k)) (rw q at g)

    -- or another leaf, or none.
    pub no_operand : (x.kind ≡ Kind.DIGITS → ⊥) → (x.kind ≡ Kind.IDENT_KW → ⊥) → (x.kind ≡ Kind.DEFINED → ⊥) → Gets src (simple (worth list text) (left src x)) None
    no_operand a b c =
        gets_nothing (none_simple list text (left src x) (seen_other Kind.DIGITS (λ z. omega arith) a) (seen_other Kind.IDENT_KW (λ z. omega arith) b) (seen_other Kind.DEFINED (λ z. omega arith) c))
