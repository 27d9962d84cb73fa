-- Lines that begin no directive, by their first bytes.
use Rattle.std.specs.Prelude.{if◌then◌else◌}
use Prim.Native.Nat.{ℕ, suc, ◌+◌, ◌≤◌, ◌<◌}
use mathlib.Core.Path.{◌≡◌, refl, ap, sym, ◌∙◌}
use mathlib.Core.Bool.{Bool, true, false, not, ◌&&◌, ◌||◌, and-eq-true_iff}
use mathlib.Core.List.{List, [], ◌∷◌}
use native.Mathlib.Numerals.{add-one}
use native.Mathlib.Omega.{arith}
use native.Mathlib.Decide.{dec_lt}
use lib.Dec.{eqb}
use lib.ListN.{length, drop, get_or, drop_of_length-le}
use lib.Seq.{drop-cons, drop-drop}
use borrow.Author.Tests.{eqb-true, eqb-false, ne_eqb, not-true}
use Rattle.definition.specs.Text.{ascii, byte}
use Rattle.definition.specs.SyntaxKind.{Kind}
use Rattle.definition.specs.Newline.{newline, blank, char_more}
use Rattle.definition.specs.Pre.{State, done, slash, ident, single_comment, quote_string, angle_string, digits, find, puncts, begin, flag, more, kind_of}
use Rattle.definition.specs.Runs.{text}
use Rattle.definition.specs.Glue.{Token}
use Rattle.definition.specs.Tree.{Leaf, placed}
use Rattle.definition.specs.Parser.{is, trivia, after, peek}
use Rattle.theorems.specs.Walk.{Walk, walk, longer, name_kind}
use Rattle.theorems.specs.Step.{Stepped, PreStepped}
use Rattle.theorems.specs.LeavesFrom.{leaves_from, leaf_kind, leaf_between}
use Rattle.theorems.specs.TextLines.{Text}
use Rattle.theorems.proofs.Lexing.Glues.{every}
use Rattle.theorems.proofs.Lexing.Gluing.{glue_start}
use Rattle.theorems.proofs.Lexing.PreAt.{walk_at, pre_at, glue_settled}
use Rattle.theorems.proofs.Lexing.Sorts.{Next, next_if, next_is, next_none, walk_ends}
use Rattle.theorems.proofs.Lexing.Walk.{walk_more, walk_stop}
use Rattle.theorems.proofs.Lexing.Firsts.{First, first_kind, may_find, find_kind}
use Rattle.theorems.proofs.Lexing.Open.{Kinds, open_kind, quiet_settled, Head, head_at, comment_end}
use Rattle.theorems.proofs.Lexing.Open as open_tokens
use Rattle.theorems.proofs.LeavesFrom.{leaves_step, leaves_over}
use Rattle.theorems.proofs.Tiling.Leaves.{after_yes, after_stop}

-- Kinds of tokens whose leaves are neither trivia nor HASH.
abbrev plain : ℕ → Bool
plain k = let j = leaf_kind k in not (eqb j Kind.WS || eqb j Kind.COMMENT) && not (eqb j Kind.HASH)

-- The states of tokens that end with such a kind.
record Plain (q : State) : Type 0 where
  ends : (c : ℕ) (bs : List ℕ) → plain (walk q c bs).kind ≡ true

-- Words and numbers,
word : Plain ident
unfolding Kinds
word = record { ends = λ c bs. open_kind (λ k. plain k ≡ true) (refl, refl) ident c bs open_tokens.word }

number : Plain (digits false false)
unfolding Kinds
number = record { ends = λ c bs. open_kind (λ k. plain k ≡ true) (refl, refl) (digits false false) c bs (open_tokens.number false false) }

-- strings, and tokens that have ended.
data Closed : State → Type 0 where
  quote : Closed quote_string
  angle : Closed angle_string
  ended : (k : ℕ) → plain k ≡ true → Closed (done k)

closed_next : (q : State) (c : ℕ) → Closed q → Next Closed (more q c)
unfolding more
closed_next _ c quote = next_if (eqb c (byte "\"")) (next_is (ended Kind.QUOTE_STRING refl)) (next_is quote)
closed_next _ c angle = next_if (eqb c (byte ">")) (next_is (ended Kind.ANGLE_STRING refl)) (next_is angle)
closed_next _ c (ended k e) = next_none

closed_kind : (q : State) → Closed q → plain (kind_of q) ≡ true
unfolding kind_of
closed_kind _ quote = refl
closed_kind _ angle = refl
closed_kind _ (ended k e) = e

closed : (q : State) → Closed q → Plain q
closed q h = record { ends = λ c bs. walk_ends Closed (λ k. plain k ≡ true) closed_next closed_kind q c bs h }

-- Single characters: HASH is the kind of # alone.
single : (b : ℕ) → (b ≡ byte "#" → ⊥) → Plain (done (find b puncts Kind.PERIOD))
unfolding may_find ascii
single b n = closed _ (ended _ (find_kind plain refl b puncts Kind.PERIOD (rw (ne_eqb b (byte "#") n))))

plain_if : (t : Bool) (p q : State) → Plain p → Plain q → Plain (if t then p else q)
plain_if true p q h k = h
plain_if false p q h k = k

begin_plain : (f : Bool) (b : ℕ) → blank b ≡ false → (b ≡ byte "#" → ⊥) → (b ≡ byte "/" → ⊥) → (b ≡ byte "\\" → ⊥) → Plain (begin f b)
unfolding begin
begin_plain f b e n m k = rw (e, ne_eqb b (byte "\\") k, ne_eqb b (byte "/") m) (search (plain_if, single, word, number, closed, quote, angle, ended) depth 9)

begin_newline : (f : Bool) (b : ℕ) → newline b ≡ true → Plain (begin f b)
unfolding begin
begin_newline f b e = rw e (search (plain_if, word, number, closed, ended))

-- A row of tokens whose first is plain begins no directive.
text_first : (at : ℕ) (ts : List Token) → First plain ts → Text (placed at ts)
unfolding First placed peek after
text_first at [] h = refl
text_first at (t ∷ ts) h =
    let x : Leaf = record { kind = leaf_kind t.kind; start = at; bytes = text t } in
    let p = (and-eq-true_iff (not (trivia x)) (not (is Kind.HASH x))).0 h in
    rw (after_stop trivia (x ∷ placed (at + length (text t)) ts) (not-true (trivia x) p.0)) (not-true (is Kind.HASH x) p.1)

module _ (s : List ℕ) (at : ℕ) (f : Bool) (h : at < length s) where
  abbrev first : ℕ
  first = get_or s at 0

  text_kind : plain (walk_at s at f).kind ≡ true → Text (leaves_from s at f)
  unfolding leaves_from every
  text_kind k = text_first at _ (first_kind plain refl refl s at f h k)

  text_begin : Plain (begin f first) → Text (leaves_from s at f)
  text_begin p = text_kind (p.ends first (drop (suc at) s))

  -- A byte that begins no HASH, no blanks, no continuation and no comment.
  pub text_byte : blank first ≡ false → (first ≡ byte "#" → ⊥) → (first ≡ byte "/" → ⊥) → (first ≡ byte "\\" → ⊥) → Text (leaves_from s at f)
  text_byte e n m k = text_begin (begin_plain f first e n m k)

-- At a newline, or at the end of the source.
text_end : (s : List ℕ) (e : ℕ) (f : Bool) → Head (λ b. newline b ≡ true) (drop e s) → Text (leaves_from s e f)
unfolding after peek
text_end s e f k = elim (dec_lt e (length s)) [
  | yes h ↦ text_begin s e f h (begin_newline f (get_or s e 0) (head_at (λ b. newline b ≡ true) s e h k))
  | no h ↦ rw (leaves_over s e f (omega arith))
]

-- A token of trivia, behind which no directive begins.
pub text_behind : (s : List ℕ) (at : ℕ) (f : Bool) (k e : ℕ) (g : Bool) → Stepped s at f k e g → trivia (leaf_between s k at e) ≡ true → Text (leaves_from s e g) → Text (leaves_from s at f)
text_behind s at f k e g u t h = rw (leaves_step s at f k e g u) (ap (peek (is Kind.HASH)) (after_yes trivia (leaf_between s k at e) (leaves_from s e g) t) ∙ h)

-- A slash that begins no comment of several lines: alone, or the first of two.
begin_slash : (f : Bool) → begin f (byte "/") ≡ slash
unfolding begin
begin_slash true = refl
begin_slash false = refl

flag_slash : (f : Bool) → flag f (byte "/") ≡ f
unfolding flag
flag_slash true = refl
flag_slash false = refl

module _ (bs : List ℕ) where
  slash_alone : (x : ℕ) → (x ≡ byte "/" → ⊥) → (x ≡ byte "*" → ⊥) → (walk slash (byte "/") (x ∷ bs)).kind ≡ Kind.SLASH
  unfolding more char_more kind_of
  slash_alone x n m = rw (walk_stop (byte "/") x bs slash refl (rw (ne_eqb x (byte "/") n, ne_eqb x (byte "*") m)))

  slash_comment : walk slash (byte "/") (byte "/" ∷ bs) ≡ longer (walk single_comment (byte "/") bs)
  unfolding more char_more
  slash_comment = walk_more (byte "/") (byte "/") bs slash single_comment refl refl

module _ (s : List ℕ) (at : ℕ) (f : Bool) (h : at < length s) (e : get_or s at 0 ≡ byte "/") where
  walk_is : walk_at s at f ≡ walk slash (byte "/") (drop (suc at) s)
  walk_is = rw (e, begin_slash f) refl

  -- A comment from // on: the line ends behind it.
  line_comment : (bs : List ℕ) → drop (suc at) s ≡ byte "/" ∷ bs → Text (leaves_from s at f)
  unfolding name_kind Kinds
  line_comment bs d =
      let w : Walk = walk single_comment (byte "/") bs in
      let stop : ℕ = at + suc (suc w.long) in
      let i : walk_at s at f ≡ longer w = walk_is ∙ ap (walk slash (byte "/")) d ∙ slash_comment bs in
      let k : w.kind ≡ Kind.COMMENT = open_kind (λ k. k ≡ Kind.COMMENT) refl single_comment (byte "/") bs open_tokens.comment in
      let p : PreStepped s at f Kind.COMMENT stop f = rw (i, k, e, flag_slash f) at (pre_at s at f h) in
      let m : suc at + suc w.long ≡ stop = omega arith in
      let r : drop stop s ≡ drop w.long bs = ap (λ n. drop n s) (sym m) ∙ sym (drop-drop (suc w.long) (suc at) s) ∙ ap (drop (suc w.long)) d in
      text_behind s at f Kind.COMMENT stop f (glue_settled _ _ _ _ _ _ (glue_start _ _ _ _ _ _ p) (quiet_settled Kind.COMMENT refl)) refl
      (text_end s stop f (rw r (comment_end (byte "/") bs)))

  slash_kind : (walk slash (byte "/") (drop (suc at) s)).kind ≡ Kind.SLASH → Text (leaves_from s at f)
  slash_kind k = text_kind s at f h (ap (λ w. plain w.kind) walk_is ∙ ap plain k)

  pub text_slash : (get_or s (at + 1) 0 ≡ byte "*" → ⊥) → Text (leaves_from s at f)
  unfolding walk kind_of
  text_slash n = elim (dec_lt (suc at) (length s)) [
    | yes l ↦ go l (eqb (get_or s (suc at) 0) (byte "/")) refl
    | no l ↦ slash_kind (ap (λ bs. (walk slash (byte "/") bs).kind) (let z : length s ≤ suc at = omega arith in drop_of_length-le s z))
  ]
    where
      go : suc at < length s → (t : Bool) → eqb (get_or s (suc at) 0) (byte "/") ≡ t → Text (leaves_from s at f)
      go l true q = line_comment (drop (suc (suc at)) s) (drop-cons s (suc at) 0 l ∙ ap (λ x. x ∷ drop (suc (suc at)) s) (eqb-true _ _ q))
      go l false q =
          slash_kind (rw (drop-cons s (suc at) 0 l) (slash_alone (drop (suc (suc at)) s) (get_or s (suc at) 0) (eqb-false _ _ q) (λ z. n (ap (λ i. get_or s i 0) (add-one at) ∙ z))))
