-- The worked readings of 01, as the program `listing` prints them, computed (`compare/pins.py` has the Rust's answers).
use Rattle.std.specs.Prelude.{◌&&◌, ◌∷◌, ◌++◌}
use Prim.Native.String.{String}
use mathlib.Core.Path.{◌≡◌, refl}
use Rattle.definition.specs.Text.{ℕ, Bool, true, List, [], ascii, same}
use Rattle.definition.specs.SyntaxKind.{Kind as K}
use Rattle.definition.specs.Listed.{listed}

pub record Worked : Type 0 where
  pub source : List ℕ
  pub numbers : List ℕ

abbrev pub reads : String → List ℕ → Worked
reads s n = record { source = ascii s; numbers = n }

-- A line of the listing each: refusal and counts of entries, errors and lines.
abbrev pub answer : ℕ → ℕ → ℕ → ℕ → List ℕ
answer r e x l = r ∷ e ∷ x ∷ l ∷ []

-- Form 1 or 0; kind, level, start, end.
abbrev pub node : ℕ → ℕ → ℕ → ℕ → List ℕ
node k l s e = 1 ∷ k ∷ l ∷ s ∷ e ∷ []

abbrev pub leaf : ℕ → ℕ → ℕ → ℕ → List ℕ
leaf k l s e = 0 ∷ k ∷ l ∷ s ∷ e ∷ []

-- Sort, start, end, line, column, actual kind, two expected kinds, start and end of the name.
abbrev pub error : ℕ → ℕ → ℕ → ℕ → ℕ → ℕ → ℕ → ℕ → ℕ → ℕ → List ℕ
error s a b l c k e f m n = s ∷ a ∷ b ∷ l ∷ c ∷ k ∷ e ∷ f ∷ m ∷ n ∷ []

abbrev pub line : ℕ → List ℕ
line s = s ∷ []

unfoldable pub worked : List Worked
worked =
    reads "" (answer 0 1 0 1 ++ node K.ROOT 0 0 0 ++ line 0) ∷
    reads "#" (answer 0 3 0 1 ++ node K.ROOT 0 0 1 ++ node K.ERROR 1 0 1 ++ leaf K.HASH 2 0 1 ++ line 0) ∷
    reads "#\n" (answer 0 4 0 2 ++ node K.ROOT 0 0 2 ++ node K.PP_EMPTY 1 0 2 ++ leaf K.HASH 2 0 1 ++ leaf K.NEWLINE 2 1 2 ++ line 0
    ++ line 2) ∷
    reads "#undef\nfoo\n" (answer 0 10 2 3 ++ node K.ROOT 0 0 11 ++ node K.PP_UNDEF 1 0 11 ++ leaf K.HASH 2 0 1 ++ leaf K.IDENT_KW 2 1 6
    ++ node K.PP_IDENT 2 6 7 ++ node K.ERROR 3 6 7 ++ leaf K.NEWLINE 4 6 7 ++ node K.ERROR 2 7 10 ++ leaf K.IDENT_KW 3 7 10
    ++ leaf K.NEWLINE 2 10 11 ++ error 4 6 7 0 6 K.NEWLINE K.IDENT_KW 0 0 0 ++ error 2 7 10 1 0 0 0 0 1 6 ++ line 0 ++ line 7 ++ line 11) ∷
    reads "#(a)\n" (answer 0 6 0 2 ++ node K.ROOT 0 0 5 ++ leaf K.HASH 1 0 1 ++ leaf K.LPAREN 1 1 2 ++ leaf K.IDENT_KW 1 2 3
    ++ leaf K.RPAREN 1 3 4 ++ leaf K.NEWLINE 1 4 5 ++ line 0 ++ line 5) ∷
    reads "/***/" (answer 0 2 0 1 ++ node K.ROOT 0 0 5 ++ leaf K.ERROR 1 0 5 ++ line 0) ∷
    reads "1.2.3" (answer 0 3 0 1 ++ node K.ROOT 0 0 5 ++ leaf K.DIGITS 1 0 3 ++ leaf K.DIGITS 1 3 5 ++ line 0) ∷
    reads "abc\\d" (answer 0 3 0 1 ++ node K.ROOT 0 0 5 ++ leaf K.BACKSLASH 1 0 4 ++ leaf K.IDENT_KW 1 4 5 ++ line 0) ∷
    reads "\n\r\n" (answer 0 3 0 3 ++ node K.ROOT 0 0 3 ++ leaf K.NEWLINE 1 0 2 ++ leaf K.NEWLINE 1 2 3 ++ line 0 ++ line 2 ++ line 3) ∷
    reads "<<<" (answer 0 3 0 1 ++ node K.ROOT 0 0 3 ++ leaf K.LEFT_OP 1 0 2 ++ leaf K.LANGLE 1 2 3 ++ line 0) ∷
    reads "#define F(a,) a\n" (answer 0 16 0 2 ++ node K.ROOT 0 0 16 ++ node K.PP_DEFINE 1 0 16 ++ leaf K.HASH 2 0 1
    ++ leaf K.IDENT_KW 2 1 7 ++ leaf K.WS 2 7 8 ++ leaf K.IDENT_KW 2 8 9 ++ node K.PP_DEFINE_ARGS 2 9 13 ++ leaf K.LPAREN 3 9 10
    ++ node K.PP_DEFINE_ARG 3 10 11 ++ leaf K.IDENT_KW 4 10 11 ++ leaf K.COMMA 3 11 12 ++ leaf K.RPAREN 3 12 13 ++ leaf K.WS 2 13 14
    ++ node K.PP_DEFINE_BODY 2 14 15 ++ leaf K.IDENT_KW 3 14 15 ++ leaf K.NEWLINE 2 15 16 ++ line 0 ++ line 16) ∷
    reads "#version\ncore\n" (answer 0 10 1 3 ++ node K.ROOT 0 0 14 ++ node K.PP_VERSION 1 0 14 ++ leaf K.HASH 2 0 1
    ++ leaf K.IDENT_KW 2 1 8 ++ node K.PP_VERSION_NUMBER 2 8 9 ++ node K.ERROR 3 8 9 ++ leaf K.NEWLINE 4 8 9
    ++ node K.PP_VERSION_PROFILE 2 9 13 ++ leaf K.IDENT_KW 3 9 13 ++ leaf K.NEWLINE 2 13 14 ++ error 4 8 9 0 8 K.NEWLINE K.DIGITS 0 0 0
    ++ line 0 ++ line 9 ++ line 14) ∷
    reads "#a" (answer 0 5 1 1 ++ node K.ROOT 0 0 2 ++ node K.ERROR 1 0 2 ++ leaf K.HASH 2 0 1 ++ node K.ERROR 2 1 2
    ++ leaf K.IDENT_KW 3 1 2 ++ error 1 1 2 0 1 0 0 0 1 2 ++ line 0) ∷ []

-- Whether the definition lists each source so.
unfoldable pub all_listed : List Worked → Bool
all_listed [] = true
all_listed (w ∷ ws) = same (listed w.source) w.numbers && all_listed ws

pub worked_listed : all_listed worked ≡ true
unfolding all_listed worked listed
worked_listed = refl
