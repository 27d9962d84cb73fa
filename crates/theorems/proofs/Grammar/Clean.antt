-- Readers that meet no error, and what they leave. Here and below `clean-x` says that x is read with no error, `x-clean` that what is read so is x.
use Prim.Native.Nat.{ℕ}
use mathlib.Core.Path.{◌≡◌, refl, ap, sym}
use mathlib.Core.Bool.{Bool, true, false, not, ◌||◌, true≢false}
use mathlib.Core.List.{List, [], ◌∷◌, ◌++◌, cons-ne-nil}
use borrow.Author.Tests.{eqb-true, not-true}
use Rattle.definition.specs.Tree.{Leaf}
use Rattle.definition.specs.Error.{Err}
use Rattle.definition.specs.Parser.{is, trivia, newline_leaf, inline, after, peek, Got, Reader, ◌then◌, skip, skip_trivia, bump}
use Rattle.definition.specs.Grammar.{Many, no_more, one_more, t*}

-- A reading with no error that leaves R, and a reader that reads L so.
abbrev pub Clear : Got → List Leaf → Type 0
Clear g R = (g.errs ≡ []) × (g.rest ≡ R)

pub record Clean (p : Reader) (L R : List Leaf) : Type 0 where
  pub clear : Clear (p L) R

-- Two readers are clean one after the other exactly when each is.
pub clean_then : (p q : Reader) {L M R : List Leaf} → Clean p L M → Clean q M R → Clean (p then q) L R
unfolding ◌then◌
clean_then p q a b = record { clear = rw (a.clear.0, a.clear.1, ◌then◌) b.clear }

pub record Both (p q : Reader) (L R : List Leaf) : Type 0 where
  pub middle : List Leaf
  pub first : Clean p L middle
  pub second : Clean q middle R

no_errors : (a b : List Err) → a ++ b ≡ [] → (a ≡ []) × (b ≡ [])
no_errors [] b e = (refl, e)
no_errors (x ∷ a) b e = absurd (cons-ne-nil x (a ++ b) e)

pub then_clean : (p q : Reader) {L R : List Leaf} → Clean (p then q) L R → Both p q L R
unfolding ◌then◌
then_clean p q {L} c =
    let e = no_errors (p L).errs (q (p L).rest).errs c.clear.0 in
    record { middle = (p L).rest; first = record { clear = (e.0, refl) }; second = record { clear = (e.1, c.clear.1) } }

-- The kind of a leaf decides its tests.
pub of_kind : {k : ℕ} (t : Leaf) → is k t ≡ true → t.kind ≡ k
of_kind {k} t e = eqb-true t.kind k e

pub trivia_inline : (t : Leaf) → trivia t ≡ true → inline t ≡ true
trivia_inline t e = go (newline_leaf t) refl
  where
    go : (b : Bool) → newline_leaf t ≡ b → inline t ≡ true
    go true q = absurd (true≢false (sym (rw (of_kind t q) at e)))
    go false q = ap not q

-- Where none of some tests passes each fails.
pub or_left : (a b : Bool) → (a || b) ≡ false → a ≡ false
or_left true b e = e
or_left false b e = refl

pub or_right : (a b : Bool) → (a || b) ≡ false → b ≡ false
or_right true true e = e
or_right true false e = refl
or_right false b e = e

pub none_pass : (a b c : Bool) → not (a || b || c) ≡ true → (a ≡ false) × (b ≡ false) × (c ≡ false)
none_pass a b c e =
    let f = not-true (a || b || c) e in
    let g = or_left (a || b) c f in
    (or_left a b g, or_right a b g, or_right (a || b) c f)

-- The leaves left after all that pass a test.
pub after_many : {p : Leaf → Bool} {L R : List Leaf} → Many p L R → peek p R ≡ false → after p L ≡ R
unfolding after peek
after_many {R = []} no_more h = refl
after_many {R = t ∷ ts} no_more h = rw (h, after)
after_many (one_more e m) h = rw (e, after) (after_many m h)

-- They are as many as can be: the next one does not pass.
pub record Skipped (p : Leaf → Bool) (L R : List Leaf) : Type 0 where
  pub passed : Many p L R
  pub next : peek p R ≡ false

pub skipped : (p : Leaf → Bool) (L : List Leaf) → Skipped p L (after p L)
unfolding after peek
skipped p [] = record { passed = no_more; next = refl }
skipped p (t ∷ L) = go (p t) refl (skipped p L)
  where
    go : (b : Bool) → p t ≡ b → Skipped p L (after p L) → Skipped p (t ∷ L) (after p (t ∷ L))
    go true e ih = rw (e, after) (record { passed = one_more e ih.passed; next = ih.next })
    go false e ih = rw (e, after) (record { passed = no_more; next = e })

pub peek_after : (p : Leaf → Bool) (L : List Leaf) → peek p (after p L) ≡ false
peek_after p L = (skipped p L).next

pub many_many : {p : Leaf → Bool} {L M R : List Leaf} → Many p L M → Many p M R → Many p L R
many_many no_more k = k
many_many (one_more e m) k = one_more e (many_many m k)

-- Trivia belongs to its line.
pub many_inline : {L R : List Leaf} → t* L R → Many inline L R
many_inline no_more = no_more
many_inline (one_more {t = t} e m) = one_more (trivia_inline t e) (many_inline m)

pub inline_after : (L : List Leaf) → after inline (after trivia L) ≡ after inline L
inline_after L =
    let s = skipped inline (after trivia L) in
    sym (after_many (many_many (many_inline (skipped trivia L).passed) s.passed) s.next)

-- Skipping meets no error.
pub clean_skip : {p : Leaf → Bool} {L R : List Leaf} → Many p L R → peek p R ≡ false → Clean (skip p) L R
unfolding skip
clean_skip m h = record { clear = (refl, after_many m h) }

pub clean_trivia : {L R : List Leaf} → t* L R → peek trivia R ≡ false → Clean skip_trivia L R
unfolding skip_trivia
clean_trivia m h = clean_skip m h

pub trivia_clean : {L R : List Leaf} → Clean skip_trivia L R → Skipped trivia L R
unfolding skip_trivia skip
trivia_clean {L} c = rw c.clear.1 at (skipped trivia L)

-- A leaf is taken with no error.
pub clean_bump : {t : Leaf} {R : List Leaf} → Clean bump (t ∷ R) R
unfolding bump
clean_bump = record { clear = (refl, refl) }

pub bump_clean : (q : Reader) {t : Leaf} {L R : List Leaf} → Clean (bump then q) (t ∷ L) R → Clean q L R
unfolding ◌then◌ bump
bump_clean q c = record { clear = c.clear }
