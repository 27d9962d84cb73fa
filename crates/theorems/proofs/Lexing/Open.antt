-- Tokens that end only before a character which does not go on with them: words, numbers, blanks and comments from // on.
use Prim.Native.Nat.{ℕ, ◌<◌}
use mathlib.Core.Path.{◌≡◌, refl, ap, sym}
use mathlib.Core.Bool.{Bool, true, false, not, false≢true}
use mathlib.Core.List.{List, [], ◌∷◌}
use mathlib.Core.Option.{Option, none, some, none-ne-some}
use lib.Dec.{eqb}
use lib.ListN.{length, drop, get_or}
use lib.Seq.{drop-cons}
use Rattle.definition.specs.Text.{one_of, byte}
use Rattle.definition.specs.SyntaxKind.{Kind}
use Rattle.definition.specs.Newline.{newline, blank, char_more}
use Rattle.definition.specs.Pre.{State, ident, single_comment, whitespace, backslash, digits, in_ident, in_comment, in_digits, more, kind_of}
use Rattle.definition.specs.Glue.{glued, glues}
use Rattle.theorems.specs.Walk.{walk, name_kind}
use Rattle.theorems.proofs.Lexing.Glues.{every, glued_none}
use Rattle.theorems.proofs.Lexing.Sorts.{Next, next_if, next_is, next_none, walk_ends}
use Rattle.theorems.proofs.Lexing.Walk.{walk_same, walk_more, walk_stop}
use Rattle.theorems.proofs.Lexing.Firsts.{named_kind}

-- Their sorts.
pub data Open : Type 0 where
  words numbers blanks comments : Open

-- The states of such a token, cut where the last character is a backslash.
pub data In : Open → State → Type 0 where
  word : In words ident
  cut_word : In words (backslash in_ident)
  number : (e d : Bool) → In numbers (digits e d)
  cut_number : (e d : Bool) → In numbers (backslash (in_digits e d))
  blanks_only : In blanks whitespace
  comment : In comments single_comment
  cut_comment : In comments (backslash in_comment)

in_next : {o : Open} (q : State) (c : ℕ) → In o q → Next (In o) (more q c)
unfolding more
in_next _ c word = search (next_if, next_is, next_none, word, cut_word)
in_next _ c cut_word = search (next_if, next_is, next_none, word)
in_next _ c (number e d) = search (next_if, next_is, next_none, number, cut_number) depth 9
in_next _ c (cut_number e d) = search (next_if, next_is, next_none, number)
in_next _ c blanks_only = search (next_if, next_is, next_none, blanks_only)
in_next _ c comment = search (next_if, next_is, next_none, comment, cut_comment)
in_next _ c cut_comment = next_is comment

-- What holds of the kinds that it may have.
unfoldable pub Kinds : Open → (ℕ → Type 0) → Type 0
Kinds words P = P Kind.IDENT_KW × P Kind.BACKSLASH
Kinds numbers P = P Kind.DIGITS × P Kind.BACKSLASH
Kinds blanks P = P Kind.WS
Kinds comments P = P Kind.COMMENT

in_kind : {o : Open} (P : ℕ → Type 0) → Kinds o P → (q : State) → In o q → P (kind_of q)
unfolding Kinds kind_of
in_kind P k _ word = k.0
in_kind P k _ cut_word = k.1
in_kind P k _ (number e d) = k.0
in_kind P k _ (cut_number e d) = k.1
in_kind P k _ blanks_only = k
in_kind P k _ comment = k
in_kind P k _ cut_comment = k

pub open_kind : {o : Open} (P : ℕ → Type 0) → Kinds o P → (q : State) (c : ℕ) (bs : List ℕ) → In o q → P (walk q c bs).kind
open_kind {o} P k q c bs h = walk_ends (In o) P in_next (in_kind P k) q c bs h

-- Kinds to which nothing glues. A continuation is not among them.
abbrev pub quiet : ℕ → Bool
quiet k = one_of (Kind.IDENT_KW ∷ Kind.DEFINED ∷ Kind.DIGITS ∷ Kind.BACKSLASH ∷ Kind.WS ∷ Kind.NEWLINE ∷ Kind.COMMENT ∷ []) k

pub quiet_settled : (k : ℕ) → quiet k ≡ true → (x : ℕ) → glued glues k x ≡ none
unfolding every
quiet_settled k h x = glued_none (λ g. not (quiet g.lhs)) glues k x refl (λ j. ap not h)

pub quiet_no_linecont : (k : ℕ) → quiet k ≡ true → k ≡ Kind.LINECONT → ⊥
quiet_no_linecont k h z = false≢true (rw z at h)

kinds_quiet : (o : Open) → Kinds o (λ k. quiet k ≡ true)
unfolding Kinds
kinds_quiet words = (refl, refl)
kinds_quiet numbers = (refl, refl)
kinds_quiet blanks = refl
kinds_quiet comments = refl

pub open_quiet : {o : Open} (q : State) (c : ℕ) (bs xs : List ℕ) → In o q → quiet (name_kind (walk q c bs).kind xs) ≡ true
open_quiet {o} q c bs xs h = named_kind (λ k. quiet k ≡ true) refl (walk q c bs).kind xs (open_kind (λ k. quiet k ≡ true) (kinds_quiet o) q c bs h)

-- What holds of the first byte, if there is one.
unfoldable pub Head : (ℕ → Type 0) → List ℕ → Type 0
Head B [] = Unit {0}
Head B (b ∷ bs) = B b

pub head_at : (B : ℕ → Type 0) (s : List ℕ) (e : ℕ) → e < length s → Head B (drop e s) → B (get_or s e 0)
unfolding Head
head_at B s e h k = rw (drop-cons s e 0 h) at k

-- Such a token ends with the source, or before a byte that does not go on with its last state.
open_stops : {o : Open} (B : ℕ → Type 0) → ((q : State) (b : ℕ) → In o q → more q b ≡ none → B b)
    → (q : State) (c : ℕ) (bs : List ℕ) → In o q → Head B (drop (walk q c bs).long bs)
unfolding walk Head
open_stops B k q c [] h = tt
open_stops {o} B k q c (b ∷ bs) h = go (char_more c b) refl (more q b) refl (λ p x y. open_stops B k p x bs y)
  where
    go : (n : Option ℕ) → char_more c b ≡ n → (m : Option State) → more q b ≡ m
        → ((p : State) (x : ℕ) → In o p → Head B (drop (walk p x bs).long bs)) → Head B (drop (walk q c (b ∷ bs)).long (b ∷ bs))
    go (some c') e m d ih = rw (walk_same c b bs q c' e) (ih q c' h)
    go none e (some q') d ih = rw (walk_more c b bs q q' e d) (ih q' b ((in_next q b h).holds q' d))
    go none e none d ih = rw (walk_stop c b bs q e d) (k q b h d)

-- Blanks end before a byte that is no blank,
blanks_stop : (q : State) (b : ℕ) → In blanks q → more q b ≡ none → blank b ≡ false
unfolding more
blanks_stop _ b blanks_only e = go (blank b) refl
  where
    go : (t : Bool) → blank b ≡ t → blank b ≡ false
    go false h = h
    go true h = absurd (none-ne-some whitespace (sym (rw h at e)))

pub blanks_end : (c : ℕ) (bs : List ℕ) → Head (λ b. blank b ≡ false) (drop (walk whitespace c bs).long bs)
blanks_end c bs = open_stops (λ b. blank b ≡ false) blanks_stop whitespace c bs blanks_only

-- and a comment from // on at a newline.
comment_stop : (q : State) (b : ℕ) → In comments q → more q b ≡ none → newline b ≡ true
unfolding more
comment_stop _ b comment e = go (newline b) (eqb b (byte "\\")) refl refl
  where
    go : (t u : Bool) → newline b ≡ t → eqb b (byte "\\") ≡ u → newline b ≡ true
    go true u h k = h
    go false true h k = absurd (none-ne-some (backslash in_comment) (sym (rw (h, k) at e)))
    go false false h k = absurd (none-ne-some single_comment (sym (rw (h, k) at e)))
comment_stop _ b cut_comment e = absurd (none-ne-some single_comment (sym e))

pub comment_end : (c : ℕ) (bs : List ℕ) → Head (λ b. newline b ≡ true) (drop (walk single_comment c bs).long bs)
comment_end c bs = open_stops (λ b. newline b ≡ true) comment_stop single_comment c bs comment
