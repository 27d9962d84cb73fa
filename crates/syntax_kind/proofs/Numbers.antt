-- Two kinds of one number are the same.
use Prim.Native.Nat.{ℕ, zero, suc, ◌+◌, ◌-◌, ◌≤◌, ◌<◌}
use native.Mathlib.Omega.{arith}
use native.Mathlib.Nat.{add-zero}
use mathlib.Core.Path.{◌≡◌, refl, sym, ap, ◌∙◌}
use mathlib.Core.Bool.{Bool, true, ◌&&◌, and-eq-true_iff}
use mathlib.Core.List.{List, [], ◌∷◌, map}
use lib.ListN.{get_or, length}
use Rattle.syntax_kind.specs.Number.{number, numbered_kinds, kind_of}
use Rattle.syntax_kind.specs.declared.kind.SyntaxKind.{SyntaxKind}
use Rattle.syntax_kind.specs.declared.kind.SyntaxKind.TheVariants as kind

again : (k : SyntaxKind) → kind_of (number k) ≡ k
again kind.IDENT_KW = refl
again kind.DEFINED = refl
again kind.DIGITS = refl
again kind.PERIOD = refl
again kind.PLUS = refl
again kind.DASH = refl
again kind.SLASH = refl
again kind.ASTERISK = refl
again kind.PERCENT = refl
again kind.LANGLE = refl
again kind.RANGLE = refl
again kind.LBRACKET = refl
again kind.RBRACKET = refl
again kind.LPAREN = refl
again kind.RPAREN = refl
again kind.LBRACE = refl
again kind.RBRACE = refl
again kind.CARET = refl
again kind.BAR = refl
again kind.AMPERSAND = refl
again kind.TILDE = refl
again kind.EQUAL = refl
again kind.BANG = refl
again kind.COLON = refl
again kind.SEMICOLON = refl
again kind.COMMA = refl
again kind.QUESTION = refl
again kind.HASH = refl
again kind.QUOTE_STRING = refl
again kind.ANGLE_STRING = refl
again kind.BACKSLASH = refl
again kind.WS = refl
again kind.NEWLINE = refl
again kind.COMMENT = refl
again kind.LINECONT = refl
again kind.ERROR = refl
again kind.LEFT_OP = refl
again kind.RIGHT_OP = refl
again kind.INC_OP = refl
again kind.DEC_OP = refl
again kind.LE_OP = refl
again kind.GE_OP = refl
again kind.EQ_OP = refl
again kind.NE_OP = refl
again kind.AND_OP = refl
again kind.OR_OP = refl
again kind.XOR_OP = refl
again kind.MUL_ASSIGN = refl
again kind.DIV_ASSIGN = refl
again kind.ADD_ASSIGN = refl
again kind.MOD_ASSIGN = refl
again kind.LEFT_ASSIGN = refl
again kind.RIGHT_ASSIGN = refl
again kind.AND_ASSIGN = refl
again kind.XOR_ASSIGN = refl
again kind.OR_ASSIGN = refl
again kind.SUB_ASSIGN = refl
again kind.PP_CONCAT_OP = refl
again kind.PP_CONCAT = refl
again kind.PP_EMPTY = refl
again kind.PP_INCLUDE = refl
again kind.PP_INCLUDE_PATH = refl
again kind.PP_DEFINE = refl
again kind.PP_DEFINE_ARGS = refl
again kind.PP_DEFINE_ARG = refl
again kind.PP_DEFINE_BODY = refl
again kind.PP_UNDEF = refl
again kind.PP_IDENT = refl
again kind.PP_IF = refl
again kind.PP_IF_EXPR = refl
again kind.PP_IFDEF = refl
again kind.PP_IFNDEF = refl
again kind.PP_ELSE = refl
again kind.PP_ELIF = refl
again kind.PP_ENDIF = refl
again kind.PP_ERROR = refl
again kind.PP_ERROR_BODY = refl
again kind.PP_PRAGMA = refl
again kind.PP_PRAGMA_BODY = refl
again kind.PP_EXTENSION = refl
again kind.PP_VERSION = refl
again kind.PP_VERSION_NUMBER = refl
again kind.PP_VERSION_PROFILE = refl
again kind.PP_LINE = refl
again kind.PP_LINE_BODY = refl
again kind.ROOT = refl

pub same_kind : (a b : SyntaxKind) → number a ≡ number b → a ≡ b
same_kind a b e = sym (again a) ∙ ap kind_of e ∙ again b

-- 0 is no kind.
pub some_kind : (a : SyntaxKind) → number a ≡ 0 → ⊥
some_kind a e = let q : a ≡ kind.IDENT_KW = sym (again a) ∙ ap kind_of e in let z : ◌≡◌ {A = ℕ} 1 0 = ap number (sym q) ∙ e in omega arith

pub other_kind : (a b : SyntaxKind) → (a ≡ b → ⊥) → number a ≡ number b → ⊥
other_kind a b h e = h (same_kind a b e)

-- What the last arm of a match over kinds knows, as a fact of their numbers.
abbrev pub NoneOfKinds : Type 0 → SyntaxKind → List SyntaxKind → Type 0
NoneOfKinds T a [] = T
NoneOfKinds T a (k ∷ ks) = NoneOfKinds (T × (a ≡ k → ⊥)) a ks

-- Kinds in the order of their numbers, from n on.
abbrev from : ℕ → List SyntaxKind → List ℕ
from n [] = []
from n (k ∷ ks) = n ∷ from (suc n) ks

head_of : ℕ → List ℕ → ℕ
head_of d [] = d
head_of d (x ∷ xs) = x

tail_of : List ℕ → List ℕ
tail_of [] = []
tail_of (x ∷ xs) = xs

in_order : (ks : List SyntaxKind) (n : ℕ) → map number ks ≡ from n ks → (i : ℕ) (d : SyntaxKind) → i < length ks → number (get_or ks i d) ≡ n + i
unfolding head_of tail_of
in_order [] n e i d h = absurd (omega arith)
in_order (k ∷ ks) n e zero d h = ap (head_of 0) e ∙ sym (add-zero n)
in_order (k ∷ ks) n e (suc i) d h =
    let q : suc n + i ≡ n + suc i = omega arith in
    in_order ks (suc n) (ap tail_of e) i d (omega arith) ∙ q

pub numbered : (k : ℕ) (d : SyntaxKind) → 0 < k → k ≤ 86 → number (get_or numbered_kinds (k - 1) d) ≡ k
numbered k d h l =
    let q : 1 + (k - 1) ≡ k = omega arith in
    in_order numbered_kinds 1 refl (k - 1) d (omega arith) ∙ q

-- What a test says of every kind, it says of each.
abbrev pub all_kinds : (SyntaxKind → Bool) → List SyntaxKind → Bool
all_kinds p [] = true
all_kinds p (k ∷ ks) = p k && all_kinds p ks

all_at : (p : SyntaxKind → Bool) (ks : List SyntaxKind) (d : SyntaxKind) → p d ≡ true → all_kinds p ks ≡ true → (i : ℕ) → p (get_or ks i d) ≡ true
all_at p [] d e h i = e
all_at p (k ∷ ks) d e h zero = ((and-eq-true_iff (p k) (all_kinds p ks)).0 h).0
all_at p (k ∷ ks) d e h (suc i) = all_at p ks d e ((and-eq-true_iff (p k) (all_kinds p ks)).0 h).1 i

pub of_kinds : (p : SyntaxKind → Bool) → p kind.ERROR ≡ true → all_kinds p numbered_kinds ≡ true → (k : SyntaxKind) → p k ≡ true
of_kinds p e h k = rw (again k) at (all_at p numbered_kinds kind.ERROR e h (Prim.Native.Nat.pred (number k)))
