-- What is left of a source, in terms of characters.
use Prim.Native.Nat.{ℕ, suc, ◌≤◌}
use mathlib.Core.Path.{◌≡◌, refl, ◌∙◌}
use mathlib.Core.Bool.{Bool, true, false, and-false, false≢true, and-eq-true_iff}
use mathlib.Core.Logic.{◌↔◌, inl, inr}
use mathlib.Core.List.{List, [], ◌∷◌, ◌++◌, map, append-nil, append_assoc, cons≢nil}
use mathlib.Core.Option.{Option, none, some, some-injective, none-ne-some}
use borrow.Author.Tests.{leb-true, lt-leb}
use native.Mathlib.Omega.{arith}
use lib.Dec.{leb}
use Rattle.definition.specs.Utf8.{Span, CharForm, within, char_forms, follow, Left, nothing, cut, broken, left, is_nothing, is_cut, utf8, ends_inside}
use Rattle.theorems.specs.Characters.{Fits, HasForm, Character, Characters, no_more, one_more, EndsInside}

-- Bytes that fit what is wanted are taken off,
fits_left : (ss : List Span) (a rest : List ℕ) → Fits ss a → left ss (a ++ rest) ≡ left [] rest
unfolding left Fits
fits_left [] [] rest h = refl
fits_left [] (b ∷ a) rest h = absurd h
fits_left (s ∷ ss) [] rest h = absurd h
fits_left (s ∷ ss) (b ∷ a) rest h = rw (h.0, left) (fits_left ss a rest h.1)

-- and too few of them are the beginning of a character.
fits_cut : (ss : List Span) (a more : List ℕ) → (more ≡ [] → ⊥) → Fits ss (a ++ more) → left ss a ≡ cut
unfolding left Fits
fits_cut [] [] [] w h = absurd (w refl)
fits_cut [] [] (m ∷ more) w h = absurd h
fits_cut [] (b ∷ a) more w h = absurd h
fits_cut (s ∷ ss) [] more w h = refl
fits_cut (s ∷ ss) (b ∷ a) more w h = rw (h.0, left) (fits_cut ss a more w h.1)

-- The lowest byte of each span.
abbrev lows : List Span → List ℕ
lows ss = map (λ s. s.low) ss

-- The first bytes of each form lie above those of the forms before it, and its spans are not empty.
data Apart : ℕ → List CharForm → Type 0 where
  last : {n : ℕ} → Apart n []
  next : {n : ℕ} {f : CharForm} {fs : List CharForm}
      → n ≤ f.first.low → f.first.low ≤ f.first.high → Fits f.later (lows f.later)
      → Apart (suc f.first.high) fs → Apart n (f ∷ fs)

apart : Apart 0 char_forms
unfolding char_forms Fits
apart = search (last, next, tt, leb-true) depth 16

-- So the first byte of a character tells its form,
begins : {n : ℕ} {fs : List CharForm} (b : ℕ) (a : List ℕ) → Apart n fs → HasForm fs (b ∷ a)
    → (ss : List Span) × (follow fs b ≡ some ss) × Fits ss a × (n ≤ b)
unfolding HasForm Fits follow
begins b a last h = absurd h
begins b a (next {f} n o l p) (inl h) =
    let w = (and-eq-true_iff (leb f.first.low b) (leb b f.first.high)).0 h.0 in
    (f.later, rw (h.0, follow) refl, h.1, omega (arith, leb-true))
begins b a (next {f} n o l p) (inr h) =
    let (ss, e, k, m) = begins b a p h in (ss, rw (lt-leb b f.first.high m, and-false, follow) e, k, omega arith)

-- and a byte that begins one makes one with what may follow, and something may.
abbrev Follows : List CharForm → ℕ → List Span → Type 0
Follows fs b ss = Fits ss (lows ss) × ((a : List ℕ) → Fits ss a → HasForm fs (b ∷ a))

follows : {n : ℕ} {fs : List CharForm} (b : ℕ) (ss : List Span) → Apart n fs → follow fs b ≡ some ss → Follows fs b ss
unfolding HasForm Fits follow
follows b ss last e = absurd (none-ne-some ss e)
follows b ss (next {f} {fs} n o l p) e = go (within f.first b) refl (follows b ss p)
  where
    go : (x : Bool) → within f.first b ≡ x → (follow fs b ≡ some ss → Follows fs b ss) → Follows (f ∷ fs) b ss
    go true w ih = let q = some-injective f.later ss (rw (w, follow) at e) in rw (← q) (l, λ a h. inl (w, h))
    go false w ih = let (l, m) = ih (rw (w, follow) at e) in (l, λ a h. inr (m a h))

-- Characters in front change nothing of what is left; the beginning of one is cut.
character_left : (c rest : List ℕ) → Character c → left [] (c ++ rest) ≡ left [] rest
unfolding left
character_left [] rest h = refl
character_left (b ∷ a) rest h = let (ss, e, k, m) = begins b a apart h in rw (e, left) (fits_left ss a rest k)

characters_left : {front : List ℕ} (rest : List ℕ) → Characters front → left [] (front ++ rest) ≡ left [] rest
characters_left rest no_more = refl
characters_left rest (one_more c h hs) = rw append_assoc (character_left c _ h ∙ characters_left rest hs)

begun_cut : (c more : List ℕ) → (c ≡ [] → ⊥) → (more ≡ [] → ⊥) → Character (c ++ more) → left [] c ≡ cut
unfolding left
begun_cut [] more r w h = absurd (r refl)
begun_cut (b ∷ a) more r w h = let (ss, e, k, m) = begins b (a ++ more) apart h in rw (e, left) (fits_cut ss a more w k)

-- What each answer says of the bytes.
abbrev Says : Left → List ℕ → Type 0
Says nothing bs = Characters bs
Says cut bs = EndsInside bs
Says broken bs = Unit {0}

-- The bytes so far are characters, or end inside one that still wants these.
Begun : List Span → List ℕ → Type 0
Begun [] p = Characters p
Begun (s ∷ ss) p = EndsInside p × ((b : ℕ) → within s b ≡ true → Begun ss (p ++ (b ∷ [])))

characters_then : {p : List ℕ} (c : List ℕ) → Characters p → Character c → Characters (p ++ c)
characters_then c no_more h = rw append-nil at (one_more c h no_more)
characters_then c (one_more d k ks) h = rw append_assoc (one_more d k (characters_then c ks h))

begun : (ss : List Span) (b : ℕ) (c p : List ℕ) → Characters p → Fits ss (lows ss) → ((a : List ℕ) → Fits ss a → Character (b ∷ (c ++ a)))
    → Begun ss (p ++ (b ∷ c))
unfolding Begun Fits
begun [] b c p hp l m = characters_then (b ∷ c) hp (rw append-nil at (m [] tt))
begun (s ∷ ss) b c p hp l m = (
  record { front = p; rest = b ∷ c; more = lows (s ∷ ss); all = refl; whole = hp; remains = cons≢nil; wanting = cons≢nil; begins = m _ l },
  λ d w. rw append_assoc (begun ss b (c ++ (d ∷ [])) p hp l.1 (λ a h. rw append_assoc (m (d ∷ a) (w, h)))),
)

-- The answer is right.
abbrev Told : List Span → List ℕ → List ℕ → Type 0
Told ss p bs = Begun ss p → Says (left ss bs) (p ++ bs)

told : (ss : List Span) (p bs : List ℕ) → Told ss p bs
unfolding left Begun
told [] p [] h = rw append-nil h
told (s ∷ ss) p [] h = rw append-nil h.0
told [] p (b ∷ bs) h = go (follow char_forms b) refl (λ ss. told ss (p ++ (b ∷ [])) bs)
  where
    go : (o : Option (List Span)) → follow char_forms b ≡ o → ((ss : List Span) → Told ss (p ++ (b ∷ [])) bs) → Says (left [] (b ∷ bs)) (p ++ (b ∷ bs))
    go none e ih = rw (e, left) tt
    go (some ss) e ih = let (l, m) = follows b ss apart e in rw (e, left) (rw append_assoc at (ih ss (begun ss b [] p h l m)))
told (s ∷ ss) p (b ∷ bs) h = go (within s b) refl (told ss (p ++ (b ∷ [])) bs)
  where
    go : (t : Bool) → within s b ≡ t → Told ss (p ++ (b ∷ [])) bs → Says (left (s ∷ ss) (b ∷ bs)) (p ++ (b ∷ bs))
    go true w ih = rw (w, left) (rw append_assoc at (ih (h.1 b w)))
    go false w ih = rw (w, left) tt

module _ (src : List ℕ) where
  says : Says (left [] src) src
  unfolding Begun
  says = told [] [] src no_more

  -- Nothing is left exactly of characters; a beginning exactly of what ends inside one.
  pub whole_when : (left [] src ≡ nothing) ↔ Characters src
  unfolding left
  whole_when = (λ e. rw e at says, λ h. rw append-nil at (characters_left [] h))

  pub cut_when : (left [] src ≡ cut) ↔ EndsInside src
  cut_when = (
    λ e. rw e at says,
    λ h. rw h.all (characters_left h.rest h.whole ∙ begun_cut h.rest h.more h.remains h.wanting h.begins),
  )

  -- What follows from each answer.
  answers : (x : Left) → Says x src
      → (is_nothing x ≡ true → Characters src)
      × (is_cut x ≡ true → EndsInside src)
      × ((Characters src → ⊥) × (EndsInside src → ⊥) → x ≡ broken)
  answers nothing k = (λ e. k, λ e. absurd (false≢true e), λ h. absurd (h.0 k))
  answers cut k = (λ e. absurd (false≢true e), λ e. k, λ h. absurd (h.1 k))
  answers broken k = (λ e. absurd (false≢true e), λ e. absurd (false≢true e), λ h. refl)

  -- Neither is left exactly of the others.
  pub neither_when : (left [] src ≡ broken) ↔ ((Characters src → ⊥) × (EndsInside src → ⊥))
  neither_when = (λ e. (λ h. false≢true (cc (whole_when.1 h)), λ h. false≢true (cc (cut_when.1 h))), (answers (left [] src) says).2)

  -- The same of the two tests of the definition.
  pub utf8_when : (utf8 src ≡ true) ↔ Characters src
  unfolding utf8
  utf8_when = ((answers (left [] src) says).0, λ h. rw (whole_when.1 h, utf8) refl)

  pub ends_inside_when : (ends_inside src ≡ true) ↔ EndsInside src
  unfolding ends_inside
  ends_inside_when = ((answers (left [] src) says).1, λ h. rw (cut_when.1 h, ends_inside) refl)
