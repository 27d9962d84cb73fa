-- Facts that pin the definition where no short input of a call does: the kinds, limits, UTF-8 and pasting.
use Rattle.std.specs.Prelude.{◌∷◌, ◌++◌, if◌then◌else◌}
use mathlib.Core.Path.{◌≡◌, refl}
use mathlib.Core.Bool.{or-true}
use Rattle.definition.specs.Text.{ℕ, zero, suc, true, false, List, [], map, eqb, length, replicate, ascii, same}
use Rattle.definition.specs.SyntaxKind.{Kind as K}
use Rattle.definition.specs.Utf8.{char_forms, follow, left, cut, broken, utf8, ends_inside}
use Rattle.definition.specs.Newline.{LETTER, DIGIT, NEWLINE, WS, PUNCT, class}
use Rattle.definition.specs.Glue.{Glue, gl, glued, pasted_kind}
use Rattle.definition.specs.Calls.{refusal, too_many, outcome, reading, reading_body, listing_tokens, building_lines, unescaping, pasting}

-- The numbers from n on, so many.
unfoldable from : ℕ → ℕ → List ℕ
from n zero = []
from n (suc k) = n ∷ from (suc n) k

-- The kinds are 1 to 86, in the order of 01.
kinds_in_order :
    K.IDENT_KW ∷ K.DEFINED ∷ K.DIGITS ∷ K.PERIOD ∷ K.PLUS ∷ K.DASH ∷ K.SLASH ∷ K.ASTERISK ∷ K.PERCENT ∷ K.LANGLE ∷ K.RANGLE ∷
    K.LBRACKET ∷ K.RBRACKET ∷ K.LPAREN ∷ K.RPAREN ∷ K.LBRACE ∷ K.RBRACE ∷ K.CARET ∷ K.BAR ∷ K.AMPERSAND ∷ K.TILDE ∷ K.EQUAL ∷ K.BANG ∷
    K.COLON ∷ K.SEMICOLON ∷ K.COMMA ∷ K.QUESTION ∷ K.HASH ∷ K.QUOTE_STRING ∷ K.ANGLE_STRING ∷ K.BACKSLASH ∷ K.WS ∷ K.NEWLINE ∷
    K.COMMENT ∷ K.LINECONT ∷ K.ERROR ∷ K.LEFT_OP ∷ K.RIGHT_OP ∷ K.INC_OP ∷ K.DEC_OP ∷ K.LE_OP ∷ K.GE_OP ∷ K.EQ_OP ∷ K.NE_OP ∷ K.AND_OP ∷
    K.OR_OP ∷ K.XOR_OP ∷ K.MUL_ASSIGN ∷ K.DIV_ASSIGN ∷ K.ADD_ASSIGN ∷ K.MOD_ASSIGN ∷ K.LEFT_ASSIGN ∷ K.RIGHT_ASSIGN ∷ K.AND_ASSIGN ∷
    K.XOR_ASSIGN ∷ K.OR_ASSIGN ∷ K.SUB_ASSIGN ∷ K.PP_CONCAT_OP ∷ K.PP_CONCAT ∷ K.PP_EMPTY ∷ K.PP_INCLUDE ∷ K.PP_INCLUDE_PATH ∷
    K.PP_DEFINE ∷ K.PP_DEFINE_ARGS ∷ K.PP_DEFINE_ARG ∷ K.PP_DEFINE_BODY ∷ K.PP_UNDEF ∷ K.PP_IDENT ∷ K.PP_IF ∷ K.PP_IF_EXPR ∷ K.PP_IFDEF ∷
    K.PP_IFNDEF ∷ K.PP_ELSE ∷ K.PP_ELIF ∷ K.PP_ENDIF ∷ K.PP_ERROR ∷ K.PP_ERROR_BODY ∷ K.PP_PRAGMA ∷ K.PP_PRAGMA_BODY ∷ K.PP_EXTENSION ∷
    K.PP_VERSION ∷ K.PP_VERSION_NUMBER ∷ K.PP_VERSION_PROFILE ∷ K.PP_LINE ∷ K.PP_LINE_BODY ∷ K.ROOT ∷ [] ≡ from 1 86
unfolding from
kinds_in_order = refl

-- The classes of first bytes: 10 and 13 are newlines, 9, 11 (Req 02), 12 and 32 blanks.
classes : map class (from 0 256) ≡
    replicate 9 PUNCT ++ replicate 1 WS ++ replicate 1 NEWLINE ++ replicate 2 WS ++ replicate 1 NEWLINE ++ replicate 18 PUNCT
    ++ replicate 1 WS ++ replicate 15 PUNCT ++ replicate 10 DIGIT ++ replicate 7 PUNCT ++ replicate 26 LETTER ++ replicate 6 PUNCT
    ++ replicate 26 LETTER ++ replicate 133 PUNCT
unfolding class from
classes = refl

-- Rows of bytes are the same when each byte is, and none is left.
sames : same (ascii "ab") (ascii "ab") ∷ same (ascii "ab") (ascii "ac") ∷ same (ascii "ab") (ascii "bb") ∷ same (ascii "a") (ascii "ab") ∷
    same (ascii "ab") (ascii "a") ∷ [] ≡ true ∷ false ∷ false ∷ false ∷ false ∷ []
unfolding same ascii
sames = refl

-- Each call on a source refuses 1 above 16,777,216 bytes, whatever else holds; up to it 10 where the source ends inside a character, and 2
-- where it is neither that nor UTF-8.
abbrev refusals : List ℕ → ℕ → ℕ → ℕ → List ℕ
refusals src a b c =
    (reading src a b c).refused ∷ (reading_body src a).refused ∷ (listing_tokens src a).refused ∷ (building_lines src a).refused
    ∷ (unescaping src a).refused ∷ []

too_long : (src : List ℕ) (a b c : ℕ) → length src ≡ 16_777_217 → refusals src a b c ≡ 1 ∷ 1 ∷ 1 ∷ 1 ∷ 1 ∷ []
unfolding reading outcome reading_body listing_tokens building_lines unescaping refusal
too_long src a b c e = rw e

not_utf8 : (src : List ℕ) (a b c : ℕ) → length src ≡ 16_777_216 → utf8 src ≡ false → ends_inside src ≡ false
    → refusals src a b c ≡ 2 ∷ 2 ∷ 2 ∷ 2 ∷ 2 ∷ []
unfolding reading outcome reading_body listing_tokens building_lines unescaping refusal
not_utf8 src a b c e u i = rw (e, u, i)

cut_off : (src : List ℕ) (a b c : ℕ) → length src ≡ 16_777_216 → ends_inside src ≡ true → refusals src a b c ≡ 10 ∷ 10 ∷ 10 ∷ 10 ∷ 10 ∷ []
unfolding reading outcome reading_body listing_tokens building_lines unescaping refusal
cut_off src a b c e i = rw (e, i, or-true (utf8 src))

-- A body of 256 ## is read, one of 257 refused.
most : too_many (3 ∷ 256 ∷ []) ≡ false
unfolding too_many
most = refl

one_over : too_many (3 ∷ 257 ∷ []) ≡ true
unfolding too_many
one_over = refl

-- UTF-8: the first and the last character of each form of RFC 3629, and one between.
abbrev borders : List (List ℕ)
borders =
    (0x00 ∷ []) ∷ (0x7F ∷ []) ∷ (0xC2 ∷ 0x80 ∷ []) ∷ (0xDF ∷ 0xBF ∷ []) ∷ (0xE0 ∷ 0xA0 ∷ 0x80 ∷ []) ∷ (0xE0 ∷ 0xBF ∷ 0xBF ∷ []) ∷
    (0xE1 ∷ 0x80 ∷ 0x80 ∷ []) ∷ (0xEC ∷ 0xBF ∷ 0xBF ∷ []) ∷ (0xED ∷ 0x80 ∷ 0x80 ∷ []) ∷ (0xED ∷ 0x9F ∷ 0xBF ∷ []) ∷
    (0xEE ∷ 0x80 ∷ 0x80 ∷ []) ∷ (0xEE ∷ 0xBF ∷ 0xBF ∷ []) ∷ (0xEF ∷ 0xBF ∷ 0xBF ∷ []) ∷ (0xF0 ∷ 0x90 ∷ 0x80 ∷ 0x80 ∷ []) ∷
    (0xF0 ∷ 0xBF ∷ 0xBF ∷ 0xBF ∷ []) ∷ (0xF1 ∷ 0x80 ∷ 0x80 ∷ 0x80 ∷ []) ∷ (0xF3 ∷ 0xBF ∷ 0xBF ∷ 0xBF ∷ []) ∷
    (0xF4 ∷ 0x80 ∷ 0x80 ∷ 0x80 ∷ []) ∷ (0xF4 ∷ 0x8F ∷ 0xBF ∷ 0xBF ∷ []) ∷ []

-- One byte of a row put in another's place; the row cut off; and that at each later byte of rows.
unfoldable spoilt : ℕ → List ℕ → List (List ℕ)
spoilt x [] = []
spoilt x (b ∷ bs) = (x ∷ bs) ∷ map (λ c. b ∷ c) (spoilt x bs)

unfoldable cuts : List ℕ → List (List ℕ)
cuts [] = []
cuts (b ∷ bs) = [] ∷ map (λ c. b ∷ c) (cuts bs)

unfoldable later : (List ℕ → List (List ℕ)) → List (List ℕ) → List (List ℕ)
later f [] = []
later f ([] ∷ cs) = later f cs
later f ((b ∷ bs) ∷ cs) = map (λ c. b ∷ c) (f bs) ++ later f cs

unfoldable whole : List (List ℕ) → List ℕ
whole [] = []
whole (c ∷ cs) = c ++ whole cs

characters : utf8 (whole borders) ≡ true
unfolding utf8 left follow char_forms whole
characters = refl

-- A later byte that is none, and a character cut off.
spoilt_ones : map (left []) (later (spoilt 0x7F) borders ++ later (spoilt 0xC0) borders) ≡ replicate 76 broken
unfolding left follow char_forms later spoilt
spoilt_ones = refl

cut_ones : map (left []) (later cuts borders) ≡ replicate 38 cut
unfolding left follow char_forms later cuts
cut_ones = refl

-- Bytes that begin no character, overlong forms, surrogates, what lies above the last character, and a beginning behind or before one.
no_characters : map (left []) ((0x80 ∷ []) ∷ (0xBF ∷ []) ∷ (0xC0 ∷ []) ∷ (0xC1 ∷ []) ∷ (0xE0 ∷ 0x80 ∷ []) ∷ (0xE0 ∷ 0x9F ∷ []) ∷ (0xED ∷ 0xA0 ∷ []) ∷
    (0xF0 ∷ 0x80 ∷ []) ∷ (0xF0 ∷ 0x8F ∷ []) ∷ (0xF4 ∷ 0x90 ∷ []) ∷ (0xF5 ∷ []) ∷ (0xFF ∷ []) ∷ (0xFF ∷ 0xC3 ∷ []) ∷ (0xC3 ∷ 0xC3 ∷ []) ∷ []) ≡ replicate 14 broken
unfolding left follow char_forms
no_characters = refl

-- Pasting: of all pairs of tokens those that don't give ERROR, as the Rust has them.
unfoldable pasted_row : ℕ → ℕ → ℕ → List Glue
pasted_row a b k = if eqb k K.ERROR then [] else gl a b k ∷ []

unfoldable with_each : ℕ → List ℕ → List Glue
with_each a [] = []
with_each a (b ∷ bs) = pasted_row a b (pasting a b).kind ++ with_each a bs

unfoldable all_pairs : List ℕ → List ℕ → List Glue
all_pairs [] bs = []
all_pairs (a ∷ as') bs = with_each a bs ++ all_pairs as' bs

pairs_pasted : all_pairs (from 1 34 ++ from 36 23) (from 1 34 ++ from 36 23) ≡
    gl K.IDENT_KW K.IDENT_KW K.IDENT_KW ∷ gl K.IDENT_KW K.DEFINED K.IDENT_KW ∷ gl K.IDENT_KW K.DIGITS K.IDENT_KW ∷
    gl K.DIGITS K.IDENT_KW K.DIGITS ∷ gl K.DIGITS K.DIGITS K.DIGITS ∷ gl K.DIGITS K.PERIOD K.DIGITS ∷ gl K.DIGITS K.PLUS K.DIGITS ∷
    gl K.DIGITS K.DASH K.DIGITS ∷ gl K.PERIOD K.DIGITS K.DIGITS ∷ gl K.PLUS K.PLUS K.INC_OP ∷ gl K.PLUS K.EQUAL K.ADD_ASSIGN ∷
    gl K.DASH K.DASH K.DEC_OP ∷ gl K.DASH K.EQUAL K.SUB_ASSIGN ∷ gl K.SLASH K.EQUAL K.DIV_ASSIGN ∷ gl K.ASTERISK K.EQUAL K.MUL_ASSIGN ∷
    gl K.PERCENT K.EQUAL K.MOD_ASSIGN ∷ gl K.LANGLE K.LANGLE K.LEFT_OP ∷ gl K.LANGLE K.EQUAL K.LE_OP ∷ gl K.RANGLE K.RANGLE K.RIGHT_OP ∷
    gl K.RANGLE K.EQUAL K.GE_OP ∷ gl K.CARET K.CARET K.XOR_OP ∷ gl K.CARET K.EQUAL K.XOR_ASSIGN ∷ gl K.BAR K.BAR K.OR_OP ∷
    gl K.BAR K.EQUAL K.OR_ASSIGN ∷ gl K.AMPERSAND K.AMPERSAND K.AND_OP ∷ gl K.AMPERSAND K.EQUAL K.AND_ASSIGN ∷
    gl K.EQUAL K.EQUAL K.EQ_OP ∷ gl K.BANG K.EQUAL K.NE_OP ∷ gl K.HASH K.HASH K.PP_CONCAT_OP ∷ gl K.LEFT_OP K.EQUAL K.LEFT_ASSIGN ∷
    gl K.RIGHT_OP K.EQUAL K.RIGHT_ASSIGN ∷ []
unfolding all_pairs with_each pasted_row from pasting refusal pasted_kind glued
pairs_pasted = refl
