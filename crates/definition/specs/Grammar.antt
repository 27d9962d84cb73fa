-- The directive grammar of 01, "Directives", over leaves. `G L R` says that L begins with a G and that R follows it.
use Rattle.std.specs.Prelude.{◌≡◌, ◌||◌, ◌∷◌, if◌then◌else◌}
use Rattle.definition.specs.Text.{ℕ, zero, suc, Bool, true, false, not, List, [], Option, none, some, ascii, same, Kind}
use Rattle.definition.specs.Unescaped.{unescaped}
use Rattle.definition.specs.Tree.{Leaf}
use Rattle.definition.specs.Parser.{is, trivia, newline_leaf, inline, peek}

-- One leaf that passes a test.
pub data One (p : Leaf → Bool) : List Leaf → List Leaf → Type 0 where
  one : {t : Leaf} {R : List Leaf} → p t ≡ true → One p (t ∷ R) R

-- Any number of them, or none.
pub data Many (p : Leaf → Bool) : List Leaf → List Leaf → Type 0 where
  no_more : {R : List Leaf} → Many p R R
  one_more : {t : Leaf} {L R : List Leaf} → p t ≡ true → Many p L R → Many p (t ∷ L) R

infixr 30 ◌⨟◌
infixr 30 ◌⨾◌
-- One thing and then another.
pub data ◌⨟◌ (G H : List Leaf → List Leaf → Type 0) : List Leaf → List Leaf → Type 0 where
  ◌⨾◌ : {L M R : List Leaf} → G L M → H M R → (G ⨟ H) L R

pub data Nothing : List Leaf → List Leaf → Type 0 where
  empty : {R : List Leaf} → Nothing R R

pub data Maybe (G : List Leaf → List Leaf → Type 0) : List Leaf → List Leaf → Type 0 where
  without : {R : List Leaf} → Maybe G R R
  with_it : {L R : List Leaf} → G L R → Maybe G L R

-- NEWLINE or the end of the whole row.
pub data Eol : List Leaf → List Leaf → Type 0 where
  at_newline : {t : Leaf} {R : List Leaf} → newline_leaf t ≡ true → Eol (t ∷ R) R
  at_end : Eol [] []

-- Trivia.
abbrev pub t* : List Leaf → List Leaf → Type 0
t* = Many trivia

abbrev pub IDENT_KW : List Leaf → List Leaf → Type 0  -- One identifier.
IDENT_KW = One (is Kind.IDENT_KW)

abbrev pub lparen : Leaf → Bool
lparen t = is Kind.LPAREN t

abbrev pub rparen : Leaf → Bool
rparen t = is Kind.RPAREN t

-- The leaf that a text line begins with, and the leaf that may be a directive's word.
abbrev pub text_leaf : Leaf → Bool
text_leaf t = not (trivia t || is Kind.HASH t || newline_leaf t)

abbrev pub word_leaf : Leaf → Bool
word_leaf t = not (trivia t || newline_leaf t || lparen t)

-- Up to and with the RPAREN that matches, with so many more open.
pub data Closes : ℕ → List Leaf → List Leaf → Type 0 where
  closed : {t : Leaf} {R : List Leaf} → rparen t ≡ true → Closes zero (t ∷ R) R
  inner : {t : Leaf} {d : ℕ} {L R : List Leaf} → rparen t ≡ true → Closes d L R → Closes (suc d) (t ∷ L) R
  opened : {t : Leaf} {d : ℕ} {L R : List Leaf} → lparen t ≡ true → Closes (suc d) L R → Closes d (t ∷ L) R
  passed : {t : Leaf} {d : ℕ} {L R : List Leaf} → (lparen t || rparen t) ≡ false → Closes d L R → Closes d (t ∷ L) R

-- Identifiers parted by commas up to RPAREN, trivia anywhere; true: an identifier may come, false: a comma.
pub data Params : Bool → List Leaf → List Leaf → Type 0 where
  ended : {b : Bool} {t : Leaf} {R : List Leaf} → rparen t ≡ true → Params b (t ∷ R) R
  space : {b : Bool} {t : Leaf} {L R : List Leaf} → trivia t ≡ true → Params b L R → Params b (t ∷ L) R
  name : {t : Leaf} {L R : List Leaf} → is Kind.IDENT_KW t ≡ true → Params false L R → Params true (t ∷ L) R
  comma : {t : Leaf} {L R : List Leaf} → is Kind.COMMA t ≡ true → Params true L R → Params false (t ∷ L) R

-- Arguments exactly if LPAREN follows with no trivia.
pub data Args : List Leaf → List Leaf → Type 0 where
  object : {R : List Leaf} → peek lparen R ≡ false → Args R R
  function : {t : Leaf} {L R : List Leaf} → lparen t ≡ true → Params true L R → Args (t ∷ L) R

-- The rests of the directives.
pub data Rest : Type 0 where
  any ident none_at_all version extension define : Rest

abbrev pub rest_of : Rest → List Leaf → List Leaf → Type 0  -- As 01 lists them.
rest_of any = Many inline
rest_of ident = t* ⨟ IDENT_KW
rest_of none_at_all = Nothing
rest_of version = t* ⨟ One (is Kind.DIGITS) ⨟ Maybe (t* ⨟ IDENT_KW)
rest_of extension = t* ⨟ IDENT_KW ⨟ t* ⨟ One (is Kind.COLON) ⨟ t* ⨟ IDENT_KW
rest_of define = t* ⨟ IDENT_KW ⨟ Args ⨟ Many inline

pub record WordRow : Type 0 where
  pub spelt : List ℕ
  pub rest : Rest

abbrev w : List ℕ → Rest → WordRow
w s r = record { spelt = s; rest = r }

unfoldable pub words : List WordRow  -- The fourteen words.
words =
    w (ascii "include") any ∷ w (ascii "define") define ∷ w (ascii "undef") ident ∷ w (ascii "line") any ∷ w (ascii "error") any ∷
    w (ascii "pragma") any ∷ w (ascii "version") version ∷ w (ascii "if") any ∷ w (ascii "ifdef") ident ∷ w (ascii "ifndef") ident ∷
    w (ascii "elif") any ∷ w (ascii "else") none_at_all ∷ w (ascii "endif") none_at_all ∷ w (ascii "extension") extension ∷ []

unfoldable pub rest_after : List WordRow → List ℕ → Option Rest  -- The rest of a word; none: it is no directive.
rest_after [] s = none
rest_after (x ∷ xs) s = if same x.spelt s then some x.rest else rest_after xs s

-- A word, compared unescaped, and its rest; or no word at all.
pub data Content : List Leaf → List Leaf → Type 0 where
  no_word : {R : List Leaf} → Content R R
  a_word : {t : Leaf} {r : Rest} {L R : List Leaf}
      → word_leaf t ≡ true → rest_after words (unescaped t.bytes) ≡ some r → rest_of r L R → Content (t ∷ L) R

pub data Sort : Type 0 where
  blank text group directive : Sort

-- The four items.
abbrev pub Item : Sort → List Leaf → List Leaf → Type 0
Item blank = t* ⨟ One newline_leaf
Item text = t* ⨟ One text_leaf ⨟ Many inline ⨟ Eol
Item group = t* ⨟ One (is Kind.HASH) ⨟ t* ⨟ One lparen ⨟ Closes zero
Item directive = t* ⨟ One (is Kind.HASH) ⨟ t* ⨟ Content ⨟ t* ⨟ Eol

-- A cut: which item stands before it, and the leaves behind it.
pub record Cut : Type 0 where
  pub sort : Sort
  pub behind : List Leaf

-- A division of a row of leaves into items; what remains after them is trivia.
abbrev pub Division : List Cut → List Leaf → Type 0
Division [] L = t* L []
Division (c ∷ cs) L = Item c.sort L c.behind × Division cs c.behind

-- Leaves keep the grammar when they can be divided.
abbrev pub Keeps : List Leaf → Type 0
Keeps L = (cs : List Cut) × Division cs L
