-- Readers that are clean exactly on their grammar.
use Prim.Native.Nat.{ℕ}
use mathlib.Core.Path.{◌≡◌, refl, subst}
use mathlib.Core.Bool.{Bool, true, false, ◌||◌}
use mathlib.Core.List.{List, [], ◌∷◌, cons-ne-nil, append_assoc}
use lib.Dec.{eqb}
use Rattle.definition.specs.SyntaxKind.{Kind}
use Rattle.definition.specs.Tree.{Leaf}
use Rattle.definition.specs.Parser.{is, trivia, peek, Reader, ◌then◌, wrap, skip_trivia, nothing, bump, maybe, expect_one}
use Rattle.definition.specs.Syntax.{ident, pp_if_ident, colon, pp_extension}
use Rattle.definition.specs.Grammar.{One, one, ◌⨟◌, ◌⨾◌, Nothing, empty, t*, IDENT_KW, Rest, rest_of}
use Rattle.theorems.proofs.Grammar.Clean.{Clean, clean_then, then_clean, of_kind, clean_trivia, trivia_clean}

-- A grammar says of L and R that L begins with it and that R follows.
abbrev pub Rel : Type 1
Rel = List Leaf → List Leaf → Type 0

pub record Exact (r : Reader) (G : Rel) : Type 0 where
  pub to : {L R : List Leaf} → G L R → Clean r L R
  pub from : {L R : List Leaf} → Clean r L R → G L R

pub exact_then : (p q : Reader) {G H : Rel} → Exact p G → Exact q H → Exact (p then q) (G ⨟ H)
exact_then p q {G} {H} x y = record { to = to; from = λ c. let b = then_clean p q c in x.from b.first ⨾ y.from b.second }
  where
    to : {L R : List Leaf} → (G ⨟ H) L R → Clean (p then q) L R
    to (g ⨾ h) = clean_then p q (x.to g) (y.to h)

-- Three readers in a row may be grouped either way.
pub exact_assoc : (p q r : Reader) {G H I : Rel} → Exact (p then q then r) (G ⨟ H ⨟ I) → Exact ((p then q) then r) ((G ⨟ H) ⨟ I)
unfolding ◌then◌
exact_assoc p q r {G} {H} {I} x = record { to = to; from = λ c. from (x.from (record { clear = rw append_assoc at c.clear })) }
  where
    to : {L R : List Leaf} → ((G ⨟ H) ⨟ I) L R → Clean ((p then q) then r) L R
    to ((g ⨾ h) ⨾ i) = record { clear = rw append_assoc (x.to (g ⨾ h ⨾ i)).clear }

    from : {L R : List Leaf} → (G ⨟ H ⨟ I) L R → ((G ⨟ H) ⨟ I) L R
    from (g ⨾ h ⨾ i) = (g ⨾ h) ⨾ i

-- Trivia before a piece is skipped exactly when the piece begins with none.
pub record Solid (G : Rel) : Type 0 where
  pub begins : {L R : List Leaf} → G L R → peek trivia L ≡ false

pub exact_lead : (q : Reader) {G : Rel} → Exact q G → Solid G → Exact (skip_trivia then q) (t* ⨟ G)
exact_lead q {G} y f = record { to = to; from = λ c. let b = then_clean skip_trivia q c in (trivia_clean b.first).passed ⨾ y.from b.second }
  where
    to : {L R : List Leaf} → (t* ⨟ G) L R → Clean (skip_trivia then q) L R
    to (m ⨾ g) = clean_then skip_trivia q (clean_trivia m (f.begins g)) (y.to g)

pub solid_one : (k : ℕ) → (eqb k Kind.WS || eqb k Kind.COMMENT) ≡ false → Solid (One (is k))
unfolding peek
solid_one k h = record { begins = begins }
  where
    begins : {L R : List Leaf} → One (is k) L R → peek trivia L ≡ false
    begins (one {t = t} e) = rw (of_kind t e) h

pub solid_ident : Solid IDENT_KW
solid_ident = solid_one Kind.IDENT_KW refl

pub solid_then : {G H : Rel} → Solid G → Solid (G ⨟ H)
solid_then {G} {H} f = record { begins = begins }
  where
    begins : {L R : List Leaf} → (G ⨟ H) L R → peek trivia L ≡ false
    begins (g ⨾ h) = f.begins g

-- A node, and nothing.
pub exact_wrap : (k : ℕ) (p : Reader) {G : Rel} → Exact p G → Exact (wrap k p) G
unfolding wrap
exact_wrap k p x = record { to = λ g. record { clear = (x.to g).clear }; from = λ c. x.from (record { clear = c.clear }) }

pub exact_nothing : Exact nothing Nothing
unfolding nothing
exact_nothing = record { to = to; from = λ {L} c. rw (← c.clear.1) empty }
  where
    to : {L R : List Leaf} → Nothing L R → Clean nothing L R
    to empty = record { clear = (refl, refl) }

-- What may be there is read exactly if its first leaf is there.
pub data If (p : Leaf → Bool) (r : Reader) : List Leaf → List Leaf → Type 0 where
  there : {t : Leaf} {L R : List Leaf} → p t ≡ true → Clean r (t ∷ L) R → If p r (t ∷ L) R
  not_there : {L : List Leaf} → peek p L ≡ false → If p r L L

pub exact_maybe : (p : Leaf → Bool) (r : Reader) → Exact (maybe p r) (If p r)
unfolding maybe nothing peek
exact_maybe p r = record { to = to; from = λ {L} c. from L c }
  where
    to : {L R : List Leaf} → If p r L R → Clean (maybe p r) L R
    to (there e c) = record { clear = rw (e, maybe) c.clear }
    to (not_there e) = record { clear = rw (e, maybe) (refl, refl) }

    from : (L : List Leaf) {R : List Leaf} → Clean (maybe p r) L R → If p r L R
    from [] c = subst (If p r []) c.clear.1 (not_there refl)
    from (t ∷ L) {R} c = go (p t) refl
      where
        go : (b : Bool) → p t ≡ b → If p r (t ∷ L) R
        go true e = there e (record { clear = rw (e, maybe) at c.clear })
        go false e = subst (If p r (t ∷ L)) (rw (e, maybe) at c.clear.1) (not_there e)

-- One leaf of a kind.
pub exact_one : (n k : ℕ) → Exact (expect_one n k) (One (is k))
unfolding expect_one
exact_one n k = record { to = to; from = λ {L} c. from L c }
  where
    to : {L R : List Leaf} → One (is k) L R → Clean (expect_one n k) L R
    to (one e) = record { clear = rw (e, expect_one) (refl, refl) }

    from : (L : List Leaf) {R : List Leaf} → Clean (expect_one n k) L R → One (is k) L R
    from [] c = absurd (cons-ne-nil _ _ c.clear.0)
    from (t ∷ L) {R} c = go (is k t) refl
      where
        go : (b : Bool) → is k t ≡ b → One (is k) (t ∷ L) R
        go true e = subst (One (is k) (t ∷ L)) (rw (e, expect_one) at c.clear.1) (one e)
        go false e = absurd (cons-ne-nil _ _ (rw (e, expect_one) at c.clear.0))

-- The colon of an extension with what follows it.
pub exact_colon : (n : ℕ) (r : Reader) {G : Rel} → Exact r G → Exact (colon n r) (One (is Kind.COLON) ⨟ G)
unfolding colon ◌then◌ bump
exact_colon n r {G} x = record { to = to; from = λ {L} c. from L c }
  where
    to : {L R : List Leaf} → (One (is Kind.COLON) ⨟ G) L R → Clean (colon n r) L R
    to (one e ⨾ g) = record { clear = rw (e, colon) (x.to g).clear }

    from : (L : List Leaf) {R : List Leaf} → Clean (colon n r) L R → (One (is Kind.COLON) ⨟ G) L R
    from [] c = absurd (cons-ne-nil _ _ c.clear.0)
    from (t ∷ L) {R} c = go (is Kind.COLON t) refl
      where
        go : (b : Bool) → is Kind.COLON t ≡ b → (One (is Kind.COLON) ⨟ G) (t ∷ L) R
        go true e = one e ⨾ x.from (record { clear = rw (e, colon) at c.clear })
        go false e = absurd (cons-ne-nil _ _ (rw (e, colon) at c.clear.0))

-- The rests that are an identifier, or two with a colon between them.
module _ (n : ℕ) where
  pub exact_ident : Exact (ident n) IDENT_KW
  exact_ident = exact_one n Kind.IDENT_KW

  pub exact_if_ident : Exact (pp_if_ident n) (rest_of Rest.ident)
  unfolding pp_if_ident
  exact_if_ident = exact_lead _ (exact_wrap _ _ exact_ident) solid_ident

  pub exact_extension : Exact (pp_extension n) (rest_of Rest.extension)
  unfolding pp_extension
  exact_extension =
      let after_colon = exact_lead _ exact_ident solid_ident in
      let after_name = exact_lead _ (exact_colon n _ after_colon) (solid_then (solid_one _ refl)) in
      exact_lead _ (exact_then _ _ exact_ident after_name) (solid_then solid_ident)
