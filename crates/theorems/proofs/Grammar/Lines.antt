-- What follows a HASH is read exactly: a group, or a directive up to its line's end.
use Prim.Native.Nat.{ℕ, zero}
use mathlib.Core.Path.{◌≡◌, refl, subst}
use mathlib.Core.Bool.{Bool, true, false}
use mathlib.Core.List.{List, [], ◌∷◌, cons-ne-nil}
use mathlib.Core.Option.{Option, none, some}
use mathlib.Core.Logic.{◌⊎◌, inl, inr}
use Rattle.definition.specs.Tree.{Leaf}
use Rattle.definition.specs.Parser.{trivia, newline_leaf, peek, Reader, ◌then◌, nothing, bump}
use Rattle.definition.specs.Syntax.{Directive, directive, unknown, pp_rs_ident, control_line}
use Rattle.definition.specs.Grammar.{One, one, no_more, ◌⨟◌, ◌⨾◌, Eol, at_newline, at_end, t*, lparen, word_leaf, Closes, Rest, rest_of, Content, no_word, a_word}
use Rattle.theorems.proofs.Grammar.Clean.{Clean, clean_then, of_kind, none_pass, clean_bump, bump_clean}
use Rattle.theorems.proofs.Grammar.Exact.{Rel}
use Rattle.theorems.proofs.Grammar.Groups.{exact_group}
use Rattle.theorems.proofs.Grammar.Words.{tail, Agree, neither, both, rest_behind, directive_of, agreed}
use Rattle.theorems.proofs.Grammar.Plain.{id}

-- The lines with a directive or with no word, and the groups, behind HASH and its trivia.
abbrev pub Line : Rel
Line = Content ⨟ t* ⨟ Eol

abbrev pub Group : Rel
Group = One lparen ⨟ Closes zero

module _ (n : ℕ) where
  abbrev pub line : Reader
  line ts = (control_line n id ts).got

  -- The four cases of a line that is not at the end.
  module _ (t : Leaf) (L : List Leaf) where
    at_eol : newline_leaf t ≡ true → line (t ∷ L) ≡ bump (t ∷ L)
    unfolding control_line
    at_eol e = rw (e, line, control_line)

    at_group : newline_leaf t ≡ false → lparen t ≡ true → line (t ∷ L) ≡ (bump then pp_rs_ident t 0) (t ∷ L)
    unfolding control_line
    at_group e f = rw (e, line, control_line, f)

    at_word : (d : Directive) → newline_leaf t ≡ false → lparen t ≡ false → directive_of n t ≡ some d
        → line (t ∷ L) ≡ directive t d (t ∷ L)
    unfolding control_line
    at_word d e f g = rw (e, line, control_line, f, g)

    at_unknown : newline_leaf t ≡ false → lparen t ≡ false → directive_of n t ≡ none
        → line (t ∷ L) ≡ unknown t (t ∷ L)
    unfolding control_line
    at_unknown e f g = rw (e, line, control_line, f, g)

  -- What the grammar allows behind HASH is read with no error.
  pub clean_group : {L R : List Leaf} → Group L R → Clean line L R
  clean_group (one {t = t} {R = M} e ⨾ g) =
      record { clear = rw (at_group t M (rw (of_kind t e)) e) (clean_then bump (pp_rs_ident t 0) clean_bump ((exact_group t 0).to g)).clear }

  pub clean_empty : {L R : List Leaf} → Eol L R → Clean line L R
  unfolding control_line nothing bump
  clean_empty (at_newline {t = t} {R = R} e) = record { clear = rw (at_eol t R e) (refl, refl) }
  clean_empty at_end = record { clear = (refl, refl) }

  pub clean_word : {t : Leaf} {r : Rest} {L R : List Leaf}
      → word_leaf t ≡ true → rest_behind t ≡ some r → (rest_of r ⨟ t* ⨟ Eol) L R → Clean line (t ∷ L) R
  unfolding directive
  clean_word {t} {r} {L} {R} p q g = go (directive_of n t) refl (rw q at (agreed n t))
    where
      go : (o : Option Directive) → directive_of n t ≡ o → Agree t (some r) o → Clean line (t ∷ L) R
      go (some d) e (both x) =
          let f = none_pass (trivia t) (newline_leaf t) (lparen t) p in
          record { clear = rw (at_word t L d f.1 f.2 e) (clean_then bump (d.reads then tail t) clean_bump (x.to g)).clear }
      go none e x = elim x [ ]

  -- And the other way round.
  pub line_clean : (L : List Leaf) {R : List Leaf} → peek trivia L ≡ false → Clean line L R → Group L R ⊎ Line L R
  unfolding control_line nothing bump peek directive unknown
  line_clean [] p c = inr (subst (Line []) c.clear.1 (no_word ⨾ no_more ⨾ at_end))
  line_clean (t ∷ L) {R} p c = go (newline_leaf t) refl (lparen t) refl (rest_behind t) refl (directive_of n t) refl (agreed n t)
    where
      with_word : {r : Rest} → word_leaf t ≡ true → rest_behind t ≡ some r → (rest_of r ⨟ t* ⨟ Eol) L R → Line (t ∷ L) R
      with_word e q (x ⨾ m) = a_word e q x ⨾ m

      go : (x : Bool) → newline_leaf t ≡ x → (y : Bool) → lparen t ≡ y
          → (a : Option Rest) → rest_behind t ≡ a
          → (o : Option Directive) → directive_of n t ≡ o
          → Agree t a o → Group (t ∷ L) R ⊎ Line (t ∷ L) R
      go true e y f a g o h m = inr (subst (Line (t ∷ L)) (rw (at_eol t L e) at c.clear.1) (no_word ⨾ no_more ⨾ at_newline e))
      go false e true f a g o h m =
          let d = bump_clean (pp_rs_ident t 0) (record { clear = rw (at_group t L e f) at c.clear }) in
          inl (one f ⨾ (exact_group t 0).from d)
      go false e false f none g none h neither = absurd (cons-ne-nil _ _ (rw (at_unknown t L e f h) at c.clear.0))
      go false e false f (some r) g (some d) h (both x) =
          let b = bump_clean (d.reads then tail t) (record { clear = rw (at_word t L d e f h) at c.clear }) in
          inr (with_word (rw (p, e, f)) g (x.from b))
      go false e false f none g (some d) h m = elim m [ ]
      go false e false f (some r) g none h m = elim m [ ]
