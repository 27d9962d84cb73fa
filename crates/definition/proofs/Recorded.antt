-- Recorded answers of the Rust, for what the worked readings leave open (`compare/pins.py` writes them); where a source holds vertical
-- tabs, the answer to it with tabs (Req 02).
use Rattle.std.specs.Prelude.{◌∷◌, ◌++◌}
use mathlib.Core.Path.{◌≡◌, refl}
use Rattle.definition.specs.Text.{ℕ, true, List, [], ascii}
use Rattle.definition.specs.SyntaxKind.{Kind as K}
use Rattle.definition.specs.Listed.{listed}
use Rattle.definition.proofs.Worked.{Worked, reads, answer, node, leaf, error, line, all_listed}

-- The fourteen words, each good and bad; a body may be empty.
abbrev words : List Worked
words =
    reads "#include <a>\n#else x\n" (answer 0 15 1 3 ++ node K.ROOT 0 0 21 ++ node K.PP_INCLUDE 1 0 13 ++ leaf K.HASH 2 0 1
    ++ leaf K.IDENT_KW 2 1 8 ++ leaf K.WS 2 8 9 ++ node K.PP_INCLUDE_PATH 2 9 12 ++ leaf K.ANGLE_STRING 3 9 12 ++ leaf K.NEWLINE 2 12 13
    ++ node K.PP_ELSE 1 13 21 ++ leaf K.HASH 2 13 14 ++ leaf K.IDENT_KW 2 14 18 ++ leaf K.WS 2 18 19 ++ node K.ERROR 2 19 20
    ++ leaf K.IDENT_KW 3 19 20 ++ leaf K.NEWLINE 2 20 21 ++ error 2 19 20 1 6 0 0 0 14 18 ++ line 0 ++ line 13 ++ line 21) ∷
    reads "#include\n<a>" (answer 0 9 0 2 ++ node K.ROOT 0 0 12 ++ node K.PP_INCLUDE 1 0 9 ++ leaf K.HASH 2 0 1 ++ leaf K.IDENT_KW 2 1 8
    ++ node K.PP_INCLUDE_PATH 2 8 8 ++ leaf K.NEWLINE 2 8 9 ++ leaf K.LANGLE 1 9 10 ++ leaf K.IDENT_KW 1 10 11 ++ leaf K.RANGLE 1 11 12
    ++ line 0 ++ line 9) ∷
    reads "#include/*\n<*/<a>" (answer 0 7 0 2 ++ node K.ROOT 0 0 17 ++ node K.PP_INCLUDE 1 0 17 ++ leaf K.HASH 2 0 1
    ++ leaf K.IDENT_KW 2 1 8 ++ leaf K.COMMENT 2 8 14 ++ node K.PP_INCLUDE_PATH 2 14 17 ++ leaf K.ANGLE_STRING 3 14 17 ++ line 0
    ++ line 11) ∷
    reads "#include <a" (answer 0 7 0 1 ++ node K.ROOT 0 0 11 ++ node K.PP_INCLUDE 1 0 11 ++ leaf K.HASH 2 0 1 ++ leaf K.IDENT_KW 2 1 8
    ++ leaf K.WS 2 8 9 ++ node K.PP_INCLUDE_PATH 2 9 11 ++ leaf K.ERROR 3 9 11 ++ line 0) ∷
    reads "#include \"a\" <b>" (answer 0 11 0 1 ++ node K.ROOT 0 0 16 ++ node K.PP_INCLUDE 1 0 16 ++ leaf K.HASH 2 0 1
    ++ leaf K.IDENT_KW 2 1 8 ++ leaf K.WS 2 8 9 ++ node K.PP_INCLUDE_PATH 2 9 16 ++ leaf K.QUOTE_STRING 3 9 12 ++ leaf K.WS 3 12 13
    ++ leaf K.LANGLE 3 13 14 ++ leaf K.IDENT_KW 3 14 15 ++ leaf K.RANGLE 3 15 16 ++ line 0) ∷
    reads "#include a<b> <c>\n" (answer 0 13 0 2 ++ node K.ROOT 0 0 18 ++ node K.PP_INCLUDE 1 0 18 ++ leaf K.HASH 2 0 1
    ++ leaf K.IDENT_KW 2 1 8 ++ leaf K.WS 2 8 9 ++ node K.PP_INCLUDE_PATH 2 9 17 ++ leaf K.IDENT_KW 3 9 10
    ++ leaf K.ANGLE_STRING 3 10 13 ++ leaf K.WS 3 13 14 ++ leaf K.LANGLE 3 14 15 ++ leaf K.IDENT_KW 3 15 16 ++ leaf K.RANGLE 3 16 17
    ++ leaf K.NEWLINE 2 17 18 ++ line 0 ++ line 18) ∷
    reads "#define a b\n" (answer 0 10 0 2 ++ node K.ROOT 0 0 12 ++ node K.PP_DEFINE 1 0 12 ++ leaf K.HASH 2 0 1
    ++ leaf K.IDENT_KW 2 1 7 ++ leaf K.WS 2 7 8 ++ leaf K.IDENT_KW 2 8 9 ++ leaf K.WS 2 9 10 ++ node K.PP_DEFINE_BODY 2 10 11
    ++ leaf K.IDENT_KW 3 10 11 ++ leaf K.NEWLINE 2 11 12 ++ line 0 ++ line 12) ∷
    reads "#define 1\n" (answer 0 9 1 2 ++ node K.ROOT 0 0 10 ++ node K.PP_DEFINE 1 0 10 ++ leaf K.HASH 2 0 1 ++ leaf K.IDENT_KW 2 1 7
    ++ leaf K.WS 2 7 8 ++ node K.ERROR 2 8 9 ++ leaf K.DIGITS 3 8 9 ++ node K.PP_DEFINE_BODY 2 9 9 ++ leaf K.NEWLINE 2 9 10
    ++ error 4 8 9 0 8 K.DIGITS K.IDENT_KW 0 0 0 ++ line 0 ++ line 10) ∷
    reads "#define F (a)\n" (answer 0 12 0 2 ++ node K.ROOT 0 0 14 ++ node K.PP_DEFINE 1 0 14 ++ leaf K.HASH 2 0 1
    ++ leaf K.IDENT_KW 2 1 7 ++ leaf K.WS 2 7 8 ++ leaf K.IDENT_KW 2 8 9 ++ leaf K.WS 2 9 10 ++ node K.PP_DEFINE_BODY 2 10 13
    ++ leaf K.LPAREN 3 10 11 ++ leaf K.IDENT_KW 3 11 12 ++ leaf K.RPAREN 3 12 13 ++ leaf K.NEWLINE 2 13 14 ++ line 0 ++ line 14) ∷
    reads "#define f()\n" (answer 0 11 0 2 ++ node K.ROOT 0 0 12 ++ node K.PP_DEFINE 1 0 12 ++ leaf K.HASH 2 0 1
    ++ leaf K.IDENT_KW 2 1 7 ++ leaf K.WS 2 7 8 ++ leaf K.IDENT_KW 2 8 9 ++ node K.PP_DEFINE_ARGS 2 9 11 ++ leaf K.LPAREN 3 9 10
    ++ leaf K.RPAREN 3 10 11 ++ node K.PP_DEFINE_BODY 2 11 11 ++ leaf K.NEWLINE 2 11 12 ++ line 0 ++ line 12) ∷
    reads "#define f(a,b)c\n" (answer 0 17 0 2 ++ node K.ROOT 0 0 16 ++ node K.PP_DEFINE 1 0 16 ++ leaf K.HASH 2 0 1
    ++ leaf K.IDENT_KW 2 1 7 ++ leaf K.WS 2 7 8 ++ leaf K.IDENT_KW 2 8 9 ++ node K.PP_DEFINE_ARGS 2 9 14 ++ leaf K.LPAREN 3 9 10
    ++ node K.PP_DEFINE_ARG 3 10 11 ++ leaf K.IDENT_KW 4 10 11 ++ leaf K.COMMA 3 11 12 ++ node K.PP_DEFINE_ARG 3 12 13
    ++ leaf K.IDENT_KW 4 12 13 ++ leaf K.RPAREN 3 13 14 ++ node K.PP_DEFINE_BODY 2 14 15 ++ leaf K.IDENT_KW 3 14 15
    ++ leaf K.NEWLINE 2 15 16 ++ line 0 ++ line 16) ∷
    reads "#undef a\n" (answer 0 8 0 2 ++ node K.ROOT 0 0 9 ++ node K.PP_UNDEF 1 0 9 ++ leaf K.HASH 2 0 1 ++ leaf K.IDENT_KW 2 1 6
    ++ leaf K.WS 2 6 7 ++ node K.PP_IDENT 2 7 8 ++ leaf K.IDENT_KW 3 7 8 ++ leaf K.NEWLINE 2 8 9 ++ line 0 ++ line 9) ∷
    reads "#undef 1\n" (answer 0 9 1 2 ++ node K.ROOT 0 0 9 ++ node K.PP_UNDEF 1 0 9 ++ leaf K.HASH 2 0 1 ++ leaf K.IDENT_KW 2 1 6
    ++ leaf K.WS 2 6 7 ++ node K.PP_IDENT 2 7 8 ++ node K.ERROR 3 7 8 ++ leaf K.DIGITS 4 7 8 ++ leaf K.NEWLINE 2 8 9
    ++ error 4 7 8 0 7 K.DIGITS K.IDENT_KW 0 0 0 ++ line 0 ++ line 9) ∷
    reads "#line 1 2\n" (answer 0 10 0 2 ++ node K.ROOT 0 0 10 ++ node K.PP_LINE 1 0 10 ++ leaf K.HASH 2 0 1 ++ leaf K.IDENT_KW 2 1 5
    ++ leaf K.WS 2 5 6 ++ node K.PP_LINE_BODY 2 6 9 ++ leaf K.DIGITS 3 6 7 ++ leaf K.WS 3 7 8 ++ leaf K.DIGITS 3 8 9
    ++ leaf K.NEWLINE 2 9 10 ++ line 0 ++ line 10) ∷
    reads "#error x\n" (answer 0 8 0 2 ++ node K.ROOT 0 0 9 ++ node K.PP_ERROR 1 0 9 ++ leaf K.HASH 2 0 1 ++ leaf K.IDENT_KW 2 1 6
    ++ leaf K.WS 2 6 7 ++ node K.PP_ERROR_BODY 2 7 8 ++ leaf K.IDENT_KW 3 7 8 ++ leaf K.NEWLINE 2 8 9 ++ line 0 ++ line 9) ∷
    reads "#pragma x\n" (answer 0 8 0 2 ++ node K.ROOT 0 0 10 ++ node K.PP_PRAGMA 1 0 10 ++ leaf K.HASH 2 0 1 ++ leaf K.IDENT_KW 2 1 7
    ++ leaf K.WS 2 7 8 ++ node K.PP_PRAGMA_BODY 2 8 9 ++ leaf K.IDENT_KW 3 8 9 ++ leaf K.NEWLINE 2 9 10 ++ line 0 ++ line 10) ∷
    reads "#if\n#elif\n#line\n#error\n#pragma\n" (answer 0 26 0 6 ++ node K.ROOT 0 0 31 ++ node K.PP_IF 1 0 4 ++ leaf K.HASH 2 0 1
    ++ leaf K.IDENT_KW 2 1 3 ++ node K.PP_IF_EXPR 2 3 3 ++ leaf K.NEWLINE 2 3 4 ++ node K.PP_ELIF 1 4 10 ++ leaf K.HASH 2 4 5
    ++ leaf K.IDENT_KW 2 5 9 ++ node K.PP_IF_EXPR 2 9 9 ++ leaf K.NEWLINE 2 9 10 ++ node K.PP_LINE 1 10 16 ++ leaf K.HASH 2 10 11
    ++ leaf K.IDENT_KW 2 11 15 ++ node K.PP_LINE_BODY 2 15 15 ++ leaf K.NEWLINE 2 15 16 ++ node K.PP_ERROR 1 16 23
    ++ leaf K.HASH 2 16 17 ++ leaf K.IDENT_KW 2 17 22 ++ node K.PP_ERROR_BODY 2 22 22 ++ leaf K.NEWLINE 2 22 23
    ++ node K.PP_PRAGMA 1 23 31 ++ leaf K.HASH 2 23 24 ++ leaf K.IDENT_KW 2 24 30 ++ node K.PP_PRAGMA_BODY 2 30 30
    ++ leaf K.NEWLINE 2 30 31 ++ line 0 ++ line 4 ++ line 10 ++ line 16 ++ line 23 ++ line 31) ∷
    reads "#version 450 core\n" (answer 0 11 0 2 ++ node K.ROOT 0 0 18 ++ node K.PP_VERSION 1 0 18 ++ leaf K.HASH 2 0 1
    ++ leaf K.IDENT_KW 2 1 8 ++ leaf K.WS 2 8 9 ++ node K.PP_VERSION_NUMBER 2 9 12 ++ leaf K.DIGITS 3 9 12 ++ leaf K.WS 2 12 13
    ++ node K.PP_VERSION_PROFILE 2 13 17 ++ leaf K.IDENT_KW 3 13 17 ++ leaf K.NEWLINE 2 17 18 ++ line 0 ++ line 18) ∷
    reads "#version a\n" (answer 0 9 1 2 ++ node K.ROOT 0 0 11 ++ node K.PP_VERSION 1 0 11 ++ leaf K.HASH 2 0 1 ++ leaf K.IDENT_KW 2 1 8
    ++ leaf K.WS 2 8 9 ++ node K.PP_VERSION_NUMBER 2 9 10 ++ node K.ERROR 3 9 10 ++ leaf K.IDENT_KW 4 9 10 ++ leaf K.NEWLINE 2 10 11
    ++ error 4 9 10 0 9 K.IDENT_KW K.DIGITS 0 0 0 ++ line 0 ++ line 11) ∷
    reads "#version 1 a b\n" (answer 0 14 1 2 ++ node K.ROOT 0 0 15 ++ node K.PP_VERSION 1 0 15 ++ leaf K.HASH 2 0 1
    ++ leaf K.IDENT_KW 2 1 8 ++ leaf K.WS 2 8 9 ++ node K.PP_VERSION_NUMBER 2 9 10 ++ leaf K.DIGITS 3 9 10 ++ leaf K.WS 2 10 11
    ++ node K.PP_VERSION_PROFILE 2 11 12 ++ leaf K.IDENT_KW 3 11 12 ++ leaf K.WS 2 12 13 ++ node K.ERROR 2 13 14
    ++ leaf K.IDENT_KW 3 13 14 ++ leaf K.NEWLINE 2 14 15 ++ error 2 13 14 0 13 0 0 0 1 8 ++ line 0 ++ line 15) ∷
    reads "#version 1 defined\n" (answer 0 11 1 2 ++ node K.ROOT 0 0 19 ++ node K.PP_VERSION 1 0 19 ++ leaf K.HASH 2 0 1
    ++ leaf K.IDENT_KW 2 1 8 ++ leaf K.WS 2 8 9 ++ node K.PP_VERSION_NUMBER 2 9 10 ++ leaf K.DIGITS 3 9 10 ++ leaf K.WS 2 10 11
    ++ node K.ERROR 2 11 18 ++ leaf K.DEFINED 3 11 18 ++ leaf K.NEWLINE 2 18 19 ++ error 2 11 18 0 11 0 0 0 1 8 ++ line 0 ++ line 19) ∷
    reads "#if a\n" (answer 0 8 0 2 ++ node K.ROOT 0 0 6 ++ node K.PP_IF 1 0 6 ++ leaf K.HASH 2 0 1 ++ leaf K.IDENT_KW 2 1 3
    ++ leaf K.WS 2 3 4 ++ node K.PP_IF_EXPR 2 4 5 ++ leaf K.IDENT_KW 3 4 5 ++ leaf K.NEWLINE 2 5 6 ++ line 0 ++ line 6) ∷
    reads "#ifdef a\n" (answer 0 8 0 2 ++ node K.ROOT 0 0 9 ++ node K.PP_IFDEF 1 0 9 ++ leaf K.HASH 2 0 1 ++ leaf K.IDENT_KW 2 1 6
    ++ leaf K.WS 2 6 7 ++ node K.PP_IDENT 2 7 8 ++ leaf K.IDENT_KW 3 7 8 ++ leaf K.NEWLINE 2 8 9 ++ line 0 ++ line 9) ∷
    reads "#ifdef 1\n" (answer 0 9 1 2 ++ node K.ROOT 0 0 9 ++ node K.PP_IFDEF 1 0 9 ++ leaf K.HASH 2 0 1 ++ leaf K.IDENT_KW 2 1 6
    ++ leaf K.WS 2 6 7 ++ node K.PP_IDENT 2 7 8 ++ node K.ERROR 3 7 8 ++ leaf K.DIGITS 4 7 8 ++ leaf K.NEWLINE 2 8 9
    ++ error 4 7 8 0 7 K.DIGITS K.IDENT_KW 0 0 0 ++ line 0 ++ line 9) ∷
    reads "#ifndef a\n" (answer 0 8 0 2 ++ node K.ROOT 0 0 10 ++ node K.PP_IFNDEF 1 0 10 ++ leaf K.HASH 2 0 1 ++ leaf K.IDENT_KW 2 1 7
    ++ leaf K.WS 2 7 8 ++ node K.PP_IDENT 2 8 9 ++ leaf K.IDENT_KW 3 8 9 ++ leaf K.NEWLINE 2 9 10 ++ line 0 ++ line 10) ∷
    reads "#ifndef 1\n" (answer 0 9 1 2 ++ node K.ROOT 0 0 10 ++ node K.PP_IFNDEF 1 0 10 ++ leaf K.HASH 2 0 1 ++ leaf K.IDENT_KW 2 1 7
    ++ leaf K.WS 2 7 8 ++ node K.PP_IDENT 2 8 9 ++ node K.ERROR 3 8 9 ++ leaf K.DIGITS 4 8 9 ++ leaf K.NEWLINE 2 9 10
    ++ error 4 8 9 0 8 K.DIGITS K.IDENT_KW 0 0 0 ++ line 0 ++ line 10) ∷
    reads "#elif a\n" (answer 0 8 0 2 ++ node K.ROOT 0 0 8 ++ node K.PP_ELIF 1 0 8 ++ leaf K.HASH 2 0 1 ++ leaf K.IDENT_KW 2 1 5
    ++ leaf K.WS 2 5 6 ++ node K.PP_IF_EXPR 2 6 7 ++ leaf K.IDENT_KW 3 6 7 ++ leaf K.NEWLINE 2 7 8 ++ line 0 ++ line 8) ∷
    reads "#else\n" (answer 0 5 0 2 ++ node K.ROOT 0 0 6 ++ node K.PP_ELSE 1 0 6 ++ leaf K.HASH 2 0 1 ++ leaf K.IDENT_KW 2 1 5
    ++ leaf K.NEWLINE 2 5 6 ++ line 0 ++ line 6) ∷
    reads "#else x\n" (answer 0 8 1 2 ++ node K.ROOT 0 0 8 ++ node K.PP_ELSE 1 0 8 ++ leaf K.HASH 2 0 1 ++ leaf K.IDENT_KW 2 1 5
    ++ leaf K.WS 2 5 6 ++ node K.ERROR 2 6 7 ++ leaf K.IDENT_KW 3 6 7 ++ leaf K.NEWLINE 2 7 8 ++ error 2 6 7 0 6 0 0 0 1 5 ++ line 0
    ++ line 8) ∷
    reads "#endif\n" (answer 0 5 0 2 ++ node K.ROOT 0 0 7 ++ node K.PP_ENDIF 1 0 7 ++ leaf K.HASH 2 0 1 ++ leaf K.IDENT_KW 2 1 6
    ++ leaf K.NEWLINE 2 6 7 ++ line 0 ++ line 7) ∷
    reads "#endif x\n" (answer 0 8 1 2 ++ node K.ROOT 0 0 9 ++ node K.PP_ENDIF 1 0 9 ++ leaf K.HASH 2 0 1 ++ leaf K.IDENT_KW 2 1 6
    ++ leaf K.WS 2 6 7 ++ node K.ERROR 2 7 8 ++ leaf K.IDENT_KW 3 7 8 ++ leaf K.NEWLINE 2 8 9 ++ error 2 7 8 0 7 0 0 0 1 6 ++ line 0
    ++ line 9) ∷
    reads "#extension a : b\n" (answer 0 11 0 2 ++ node K.ROOT 0 0 17 ++ node K.PP_EXTENSION 1 0 17 ++ leaf K.HASH 2 0 1
    ++ leaf K.IDENT_KW 2 1 10 ++ leaf K.WS 2 10 11 ++ leaf K.IDENT_KW 2 11 12 ++ leaf K.WS 2 12 13 ++ leaf K.COLON 2 13 14
    ++ leaf K.WS 2 14 15 ++ leaf K.IDENT_KW 2 15 16 ++ leaf K.NEWLINE 2 16 17 ++ line 0 ++ line 17) ∷
    reads "#extension a\nb\n" (answer 0 9 1 3 ++ node K.ROOT 0 0 15 ++ node K.PP_EXTENSION 1 0 13 ++ leaf K.HASH 2 0 1
    ++ leaf K.IDENT_KW 2 1 10 ++ leaf K.WS 2 10 11 ++ leaf K.IDENT_KW 2 11 12 ++ leaf K.NEWLINE 2 12 13 ++ leaf K.IDENT_KW 1 13 14
    ++ leaf K.NEWLINE 1 14 15 ++ error 4 12 13 0 12 K.NEWLINE K.COLON 0 0 0 ++ line 0 ++ line 13 ++ line 15) ∷
    reads "#extension : b\n" (answer 0 10 2 2 ++ node K.ROOT 0 0 15 ++ node K.PP_EXTENSION 1 0 15 ++ leaf K.HASH 2 0 1
    ++ leaf K.IDENT_KW 2 1 10 ++ leaf K.WS 2 10 11 ++ node K.ERROR 2 11 12 ++ leaf K.COLON 3 11 12 ++ leaf K.WS 2 12 13
    ++ leaf K.IDENT_KW 2 13 14 ++ leaf K.NEWLINE 2 14 15 ++ error 4 11 12 0 11 K.COLON K.IDENT_KW 0 0 0
    ++ error 4 13 14 0 13 K.IDENT_KW K.COLON 0 0 0 ++ line 0 ++ line 15) ∷
    reads "#extension a b\n" (answer 0 9 1 2 ++ node K.ROOT 0 0 15 ++ node K.PP_EXTENSION 1 0 15 ++ leaf K.HASH 2 0 1
    ++ leaf K.IDENT_KW 2 1 10 ++ leaf K.WS 2 10 11 ++ leaf K.IDENT_KW 2 11 12 ++ leaf K.WS 2 12 13 ++ leaf K.IDENT_KW 2 13 14
    ++ leaf K.NEWLINE 2 14 15 ++ error 4 13 14 0 13 K.IDENT_KW K.COLON 0 0 0 ++ line 0 ++ line 15) ∷
    reads "#extension a:\nb\n" (answer 0 12 2 3 ++ node K.ROOT 0 0 16 ++ node K.PP_EXTENSION 1 0 16 ++ leaf K.HASH 2 0 1
    ++ leaf K.IDENT_KW 2 1 10 ++ leaf K.WS 2 10 11 ++ leaf K.IDENT_KW 2 11 12 ++ leaf K.COLON 2 12 13 ++ node K.ERROR 2 13 14
    ++ leaf K.NEWLINE 3 13 14 ++ node K.ERROR 2 14 15 ++ leaf K.IDENT_KW 3 14 15 ++ leaf K.NEWLINE 2 15 16
    ++ error 4 13 14 0 13 K.NEWLINE K.IDENT_KW 0 0 0 ++ error 2 14 15 1 0 0 0 0 1 10 ++ line 0 ++ line 14 ++ line 16) ∷
    reads "#ex\\\ntension a:b\n" (answer 0 9 0 3 ++ node K.ROOT 0 0 17 ++ node K.PP_EXTENSION 1 0 17 ++ leaf K.HASH 2 0 1
    ++ leaf K.IDENT_KW 2 1 12 ++ leaf K.WS 2 12 13 ++ leaf K.IDENT_KW 2 13 14 ++ leaf K.COLON 2 14 15 ++ leaf K.IDENT_KW 2 15 16
    ++ leaf K.NEWLINE 2 16 17 ++ line 0 ++ line 5 ++ line 17) ∷ []

-- The end of the source where more is expected (in a body with ##, as the Rust answers once its endless loop is mended).
abbrev ends : List Worked
ends =
    reads "#undef" (answer 0 6 1 1 ++ node K.ROOT 0 0 6 ++ node K.PP_UNDEF 1 0 6 ++ leaf K.HASH 2 0 1 ++ leaf K.IDENT_KW 2 1 6
    ++ node K.PP_IDENT 2 6 6 ++ node K.ERROR 3 6 6 ++ error 5 6 6 0 6 0 K.IDENT_KW 0 0 0 ++ line 0) ∷
    reads "#define" (answer 0 6 1 1 ++ node K.ROOT 0 0 7 ++ node K.PP_DEFINE 1 0 7 ++ leaf K.HASH 2 0 1 ++ leaf K.IDENT_KW 2 1 7
    ++ node K.ERROR 2 7 7 ++ node K.PP_DEFINE_BODY 2 7 7 ++ error 5 7 7 0 7 0 K.IDENT_KW 0 0 0 ++ line 0) ∷
    reads "#define f(" (answer 0 9 1 1 ++ node K.ROOT 0 0 10 ++ node K.PP_DEFINE 1 0 10 ++ leaf K.HASH 2 0 1 ++ leaf K.IDENT_KW 2 1 7
    ++ leaf K.WS 2 7 8 ++ leaf K.IDENT_KW 2 8 9 ++ node K.ERROR 2 9 10 ++ leaf K.LPAREN 3 9 10 ++ node K.PP_DEFINE_BODY 2 10 10
    ++ error 5 10 10 0 10 0 K.IDENT_KW K.RPAREN 0 0 ++ line 0) ∷
    reads "#define f(a" (answer 0 11 1 1 ++ node K.ROOT 0 0 11 ++ node K.PP_DEFINE 1 0 11 ++ leaf K.HASH 2 0 1 ++ leaf K.IDENT_KW 2 1 7
    ++ leaf K.WS 2 7 8 ++ leaf K.IDENT_KW 2 8 9 ++ node K.ERROR 2 9 11 ++ leaf K.LPAREN 3 9 10 ++ node K.PP_DEFINE_ARG 3 10 11
    ++ leaf K.IDENT_KW 4 10 11 ++ node K.PP_DEFINE_BODY 2 11 11 ++ error 5 11 11 0 11 0 K.COMMA K.RPAREN 0 0 ++ line 0) ∷
    reads "#version " (answer 0 7 1 1 ++ node K.ROOT 0 0 9 ++ node K.PP_VERSION 1 0 9 ++ leaf K.HASH 2 0 1 ++ leaf K.IDENT_KW 2 1 8
    ++ leaf K.WS 2 8 9 ++ node K.PP_VERSION_NUMBER 2 9 9 ++ node K.ERROR 3 9 9 ++ error 5 9 9 0 9 0 K.DIGITS 0 0 0 ++ line 0) ∷
    reads "#extension" (answer 0 5 2 1 ++ node K.ROOT 0 0 10 ++ node K.PP_EXTENSION 1 0 10 ++ leaf K.HASH 2 0 1
    ++ leaf K.IDENT_KW 2 1 10 ++ node K.ERROR 2 10 10 ++ error 5 10 10 0 10 0 K.IDENT_KW 0 0 0 ++ error 5 10 10 0 10 0 K.COLON 0 0 0
    ++ line 0) ∷
    reads "#extension a" (answer 0 6 1 1 ++ node K.ROOT 0 0 12 ++ node K.PP_EXTENSION 1 0 12 ++ leaf K.HASH 2 0 1
    ++ leaf K.IDENT_KW 2 1 10 ++ leaf K.WS 2 10 11 ++ leaf K.IDENT_KW 2 11 12 ++ error 5 12 12 0 12 0 K.COLON 0 0 0 ++ line 0) ∷
    reads "#extension a:" (answer 0 8 1 1 ++ node K.ROOT 0 0 13 ++ node K.PP_EXTENSION 1 0 13 ++ leaf K.HASH 2 0 1
    ++ leaf K.IDENT_KW 2 1 10 ++ leaf K.WS 2 10 11 ++ leaf K.IDENT_KW 2 11 12 ++ leaf K.COLON 2 12 13 ++ node K.ERROR 2 13 13
    ++ error 5 13 13 0 13 0 K.IDENT_KW 0 0 0 ++ line 0) ∷
    reads "#define a ##" (answer 0 10 0 1 ++ node K.ROOT 0 0 12 ++ node K.PP_DEFINE 1 0 12 ++ leaf K.HASH 2 0 1 ++ leaf K.IDENT_KW 2 1 7
    ++ leaf K.WS 2 7 8 ++ leaf K.IDENT_KW 2 8 9 ++ leaf K.WS 2 9 10 ++ node K.PP_DEFINE_BODY 2 10 12 ++ node K.PP_CONCAT 3 10 12
    ++ leaf K.PP_CONCAT_OP 4 10 12 ++ line 0) ∷
    reads "#if a##b" (answer 0 10 0 1 ++ node K.ROOT 0 0 8 ++ node K.PP_IF 1 0 8 ++ leaf K.HASH 2 0 1 ++ leaf K.IDENT_KW 2 1 3
    ++ leaf K.WS 2 3 4 ++ node K.PP_IF_EXPR 2 4 8 ++ node K.PP_CONCAT 3 4 8 ++ leaf K.IDENT_KW 4 4 5 ++ leaf K.PP_CONCAT_OP 4 5 7
    ++ leaf K.IDENT_KW 4 7 8 ++ line 0) ∷
    reads "#else" (answer 0 4 0 1 ++ node K.ROOT 0 0 5 ++ node K.PP_ELSE 1 0 5 ++ leaf K.HASH 2 0 1 ++ leaf K.IDENT_KW 2 1 5 ++ line 0) ∷
    reads "#else x" (answer 0 7 1 1 ++ node K.ROOT 0 0 7 ++ node K.PP_ELSE 1 0 7 ++ leaf K.HASH 2 0 1 ++ leaf K.IDENT_KW 2 1 5
    ++ leaf K.WS 2 5 6 ++ node K.ERROR 2 6 7 ++ leaf K.IDENT_KW 3 6 7 ++ error 2 6 7 0 6 0 0 0 1 5 ++ line 0) ∷
    reads "#a b" (answer 0 7 1 1 ++ node K.ROOT 0 0 4 ++ node K.ERROR 1 0 4 ++ leaf K.HASH 2 0 1 ++ node K.ERROR 2 1 4
    ++ leaf K.IDENT_KW 3 1 2 ++ leaf K.WS 3 2 3 ++ leaf K.IDENT_KW 3 3 4 ++ error 1 1 2 0 1 0 0 0 1 2 ++ line 0) ∷
    reads " #(" (answer 0 5 1 1 ++ node K.ROOT 0 0 3 ++ node K.ERROR 1 0 3 ++ leaf K.WS 2 0 1 ++ leaf K.HASH 2 1 2
    ++ leaf K.LPAREN 2 2 3 ++ error 5 2 3 0 2 0 K.RPAREN 0 0 0 ++ line 0) ∷
    reads "#define f(1" (answer 0 10 2 1 ++ node K.ROOT 0 0 11 ++ node K.PP_DEFINE 1 0 11 ++ leaf K.HASH 2 0 1 ++ leaf K.IDENT_KW 2 1 7
    ++ leaf K.WS 2 7 8 ++ leaf K.IDENT_KW 2 8 9 ++ node K.ERROR 2 9 11 ++ leaf K.LPAREN 3 9 10 ++ leaf K.DIGITS 3 10 11
    ++ node K.PP_DEFINE_BODY 2 11 11 ++ error 4 10 11 0 10 K.DIGITS K.IDENT_KW K.RPAREN 0 0 ++ error 5 11 11 0 11 0 K.COMMA K.RPAREN 0 0
    ++ line 0) ∷ []

-- Arguments: errors in an identifier's and in a comma's place; a NEWLINE is not swallowed.
abbrev args : List Worked
args =
    reads "#define f( a , b )\n" (answer 0 20 0 2 ++ node K.ROOT 0 0 19 ++ node K.PP_DEFINE 1 0 19 ++ leaf K.HASH 2 0 1
    ++ leaf K.IDENT_KW 2 1 7 ++ leaf K.WS 2 7 8 ++ leaf K.IDENT_KW 2 8 9 ++ node K.PP_DEFINE_ARGS 2 9 18 ++ leaf K.LPAREN 3 9 10
    ++ leaf K.WS 3 10 11 ++ node K.PP_DEFINE_ARG 3 11 12 ++ leaf K.IDENT_KW 4 11 12 ++ leaf K.WS 3 12 13 ++ leaf K.COMMA 3 13 14
    ++ leaf K.WS 3 14 15 ++ node K.PP_DEFINE_ARG 3 15 16 ++ leaf K.IDENT_KW 4 15 16 ++ leaf K.WS 3 16 17 ++ leaf K.RPAREN 3 17 18
    ++ node K.PP_DEFINE_BODY 2 18 18 ++ leaf K.NEWLINE 2 18 19 ++ line 0 ++ line 19) ∷
    reads "#define f(1 2)\n" (answer 0 14 2 2 ++ node K.ROOT 0 0 15 ++ node K.PP_DEFINE 1 0 15 ++ leaf K.HASH 2 0 1
    ++ leaf K.IDENT_KW 2 1 7 ++ leaf K.WS 2 7 8 ++ leaf K.IDENT_KW 2 8 9 ++ node K.ERROR 2 9 14 ++ leaf K.LPAREN 3 9 10
    ++ leaf K.DIGITS 3 10 11 ++ leaf K.WS 3 11 12 ++ leaf K.DIGITS 3 12 13 ++ leaf K.RPAREN 3 13 14 ++ node K.PP_DEFINE_BODY 2 14 14
    ++ leaf K.NEWLINE 2 14 15 ++ error 4 10 11 0 10 K.DIGITS K.IDENT_KW K.RPAREN 0 0 ++ error 4 12 13 0 12 K.DIGITS K.COMMA K.RPAREN 0 0
    ++ line 0 ++ line 15) ∷
    reads "#define f(a b c)d\n" (answer 0 19 1 2 ++ node K.ROOT 0 0 18 ++ node K.PP_DEFINE 1 0 18 ++ leaf K.HASH 2 0 1
    ++ leaf K.IDENT_KW 2 1 7 ++ leaf K.WS 2 7 8 ++ leaf K.IDENT_KW 2 8 9 ++ node K.ERROR 2 9 16 ++ leaf K.LPAREN 3 9 10
    ++ node K.PP_DEFINE_ARG 3 10 11 ++ leaf K.IDENT_KW 4 10 11 ++ leaf K.WS 3 11 12 ++ leaf K.IDENT_KW 3 12 13 ++ leaf K.WS 3 13 14
    ++ node K.PP_DEFINE_ARG 3 14 15 ++ leaf K.IDENT_KW 4 14 15 ++ leaf K.RPAREN 3 15 16 ++ node K.PP_DEFINE_BODY 2 16 17
    ++ leaf K.IDENT_KW 3 16 17 ++ leaf K.NEWLINE 2 17 18 ++ error 4 12 13 0 12 K.IDENT_KW K.COMMA K.RPAREN 0 0 ++ line 0 ++ line 18) ∷
    reads "#define f(a\n" (answer 0 12 1 2 ++ node K.ROOT 0 0 12 ++ node K.PP_DEFINE 1 0 12 ++ leaf K.HASH 2 0 1
    ++ leaf K.IDENT_KW 2 1 7 ++ leaf K.WS 2 7 8 ++ leaf K.IDENT_KW 2 8 9 ++ node K.ERROR 2 9 11 ++ leaf K.LPAREN 3 9 10
    ++ node K.PP_DEFINE_ARG 3 10 11 ++ leaf K.IDENT_KW 4 10 11 ++ node K.PP_DEFINE_BODY 2 11 11 ++ leaf K.NEWLINE 2 11 12
    ++ error 4 11 12 0 11 K.NEWLINE K.COMMA K.RPAREN 0 0 ++ line 0 ++ line 12) ∷
    reads "#define f(\n" (answer 0 10 1 2 ++ node K.ROOT 0 0 11 ++ node K.PP_DEFINE 1 0 11 ++ leaf K.HASH 2 0 1 ++ leaf K.IDENT_KW 2 1 7
    ++ leaf K.WS 2 7 8 ++ leaf K.IDENT_KW 2 8 9 ++ node K.ERROR 2 9 10 ++ leaf K.LPAREN 3 9 10 ++ node K.PP_DEFINE_BODY 2 10 10
    ++ leaf K.NEWLINE 2 10 11 ++ error 4 10 11 0 10 K.NEWLINE K.IDENT_KW K.RPAREN 0 0 ++ line 0 ++ line 11) ∷
    reads "#define f/**/(a)\n" (answer 0 12 0 2 ++ node K.ROOT 0 0 17 ++ node K.PP_DEFINE 1 0 17 ++ leaf K.HASH 2 0 1
    ++ leaf K.IDENT_KW 2 1 7 ++ leaf K.WS 2 7 8 ++ leaf K.IDENT_KW 2 8 9 ++ leaf K.COMMENT 2 9 13 ++ node K.PP_DEFINE_BODY 2 13 16
    ++ leaf K.LPAREN 3 13 14 ++ leaf K.IDENT_KW 3 14 15 ++ leaf K.RPAREN 3 15 16 ++ leaf K.NEWLINE 2 16 17 ++ line 0 ++ line 17) ∷
    reads "#define f(a,b,)\n" (answer 0 17 0 2 ++ node K.ROOT 0 0 16 ++ node K.PP_DEFINE 1 0 16 ++ leaf K.HASH 2 0 1
    ++ leaf K.IDENT_KW 2 1 7 ++ leaf K.WS 2 7 8 ++ leaf K.IDENT_KW 2 8 9 ++ node K.PP_DEFINE_ARGS 2 9 15 ++ leaf K.LPAREN 3 9 10
    ++ node K.PP_DEFINE_ARG 3 10 11 ++ leaf K.IDENT_KW 4 10 11 ++ leaf K.COMMA 3 11 12 ++ node K.PP_DEFINE_ARG 3 12 13
    ++ leaf K.IDENT_KW 4 12 13 ++ leaf K.COMMA 3 13 14 ++ leaf K.RPAREN 3 14 15 ++ node K.PP_DEFINE_BODY 2 15 15
    ++ leaf K.NEWLINE 2 15 16 ++ line 0 ++ line 16) ∷
    reads "#/*\n*/define f(a,,b)\r\n" (answer 0 17 2 3 ++ node K.ROOT 0 0 22 ++ node K.PP_DEFINE 1 0 22 ++ leaf K.HASH 2 0 1
    ++ leaf K.COMMENT 2 1 6 ++ leaf K.IDENT_KW 2 6 12 ++ leaf K.WS 2 12 13 ++ leaf K.IDENT_KW 2 13 14 ++ node K.ERROR 2 14 20
    ++ leaf K.LPAREN 3 14 15 ++ node K.PP_DEFINE_ARG 3 15 16 ++ leaf K.IDENT_KW 4 15 16 ++ leaf K.COMMA 3 16 17 ++ leaf K.COMMA 3 17 18
    ++ leaf K.IDENT_KW 3 18 19 ++ leaf K.RPAREN 3 19 20 ++ node K.PP_DEFINE_BODY 2 20 20 ++ leaf K.NEWLINE 2 20 22
    ++ error 4 17 18 1 13 K.COMMA K.IDENT_KW K.RPAREN 0 0 ++ error 4 18 19 1 14 K.IDENT_KW K.COMMA K.RPAREN 0 0 ++ line 0 ++ line 4
    ++ line 22) ∷
    reads "#define f((a)) b\n" (answer 0 16 2 2 ++ node K.ROOT 0 0 17 ++ node K.PP_DEFINE 1 0 17 ++ leaf K.HASH 2 0 1
    ++ leaf K.IDENT_KW 2 1 7 ++ leaf K.WS 2 7 8 ++ leaf K.IDENT_KW 2 8 9 ++ node K.ERROR 2 9 13 ++ leaf K.LPAREN 3 9 10
    ++ leaf K.LPAREN 3 10 11 ++ leaf K.IDENT_KW 3 11 12 ++ leaf K.RPAREN 3 12 13 ++ node K.PP_DEFINE_BODY 2 13 16
    ++ leaf K.RPAREN 3 13 14 ++ leaf K.WS 3 14 15 ++ leaf K.IDENT_KW 3 15 16 ++ leaf K.NEWLINE 2 16 17
    ++ error 4 10 11 0 10 K.LPAREN K.IDENT_KW K.RPAREN 0 0 ++ error 4 11 12 0 11 K.IDENT_KW K.COMMA K.RPAREN 0 0 ++ line 0 ++ line 17) ∷ []

-- Trivia before a HASH, behind it, and at the end of a line and of the source.
abbrev trivia : List Worked
trivia =
    reads " /**/ #else\n" (answer 0 8 0 2 ++ node K.ROOT 0 0 12 ++ node K.PP_ELSE 1 0 12 ++ leaf K.WS 2 0 1 ++ leaf K.COMMENT 2 1 5
    ++ leaf K.WS 2 5 6 ++ leaf K.HASH 2 6 7 ++ leaf K.IDENT_KW 2 7 11 ++ leaf K.NEWLINE 2 11 12 ++ line 0 ++ line 12) ∷
    reads "# /**/ else /**/ \n" (answer 0 11 0 2 ++ node K.ROOT 0 0 18 ++ node K.PP_ELSE 1 0 18 ++ leaf K.HASH 2 0 1 ++ leaf K.WS 2 1 2
    ++ leaf K.COMMENT 2 2 6 ++ leaf K.WS 2 6 7 ++ leaf K.IDENT_KW 2 7 11 ++ leaf K.WS 2 11 12 ++ leaf K.COMMENT 2 12 16
    ++ leaf K.WS 2 16 17 ++ leaf K.NEWLINE 2 17 18 ++ line 0 ++ line 18) ∷
    reads " # ( \n a ) #else\n" (answer 0 16 0 3 ++ node K.ROOT 0 0 17 ++ leaf K.WS 1 0 1 ++ leaf K.HASH 1 1 2 ++ leaf K.WS 1 2 3
    ++ leaf K.LPAREN 1 3 4 ++ leaf K.WS 1 4 5 ++ leaf K.NEWLINE 1 5 6 ++ leaf K.WS 1 6 7 ++ leaf K.IDENT_KW 1 7 8 ++ leaf K.WS 1 8 9
    ++ leaf K.RPAREN 1 9 10 ++ node K.PP_ELSE 1 10 17 ++ leaf K.WS 2 10 11 ++ leaf K.HASH 2 11 12 ++ leaf K.IDENT_KW 2 12 16
    ++ leaf K.NEWLINE 2 16 17 ++ line 0 ++ line 6 ++ line 17) ∷
    reads " # " (answer 0 5 0 1 ++ node K.ROOT 0 0 3 ++ node K.ERROR 1 0 3 ++ leaf K.WS 2 0 1 ++ leaf K.HASH 2 1 2 ++ leaf K.WS 2 2 3
    ++ line 0) ∷
    reads " # \n" (answer 0 6 0 2 ++ node K.ROOT 0 0 4 ++ node K.PP_EMPTY 1 0 4 ++ leaf K.WS 2 0 1 ++ leaf K.HASH 2 1 2
    ++ leaf K.WS 2 2 3 ++ leaf K.NEWLINE 2 3 4 ++ line 0 ++ line 4) ∷
    reads "\n #\\\n" (answer 0 6 0 3 ++ node K.ROOT 0 0 5 ++ leaf K.NEWLINE 1 0 1 ++ node K.ERROR 1 1 5 ++ leaf K.WS 2 1 2
    ++ leaf K.HASH 2 2 3 ++ leaf K.WS 2 3 5 ++ line 0 ++ line 1 ++ line 5) ∷
    reads " " (answer 0 2 0 1 ++ node K.ROOT 0 0 1 ++ leaf K.WS 1 0 1 ++ line 0) ∷
    reads "a # \n" (answer 0 6 0 2 ++ node K.ROOT 0 0 5 ++ leaf K.IDENT_KW 1 0 1 ++ leaf K.WS 1 1 2 ++ leaf K.HASH 1 2 3
    ++ leaf K.WS 1 3 4 ++ leaf K.NEWLINE 1 4 5 ++ line 0 ++ line 5) ∷
    reads " \n" (answer 0 3 0 2 ++ node K.ROOT 0 0 2 ++ leaf K.WS 1 0 1 ++ leaf K.NEWLINE 1 1 2 ++ line 0 ++ line 2) ∷
    reads " a\n" (answer 0 4 0 2 ++ node K.ROOT 0 0 3 ++ leaf K.WS 1 0 1 ++ leaf K.IDENT_KW 1 1 2 ++ leaf K.NEWLINE 1 2 3 ++ line 0
    ++ line 3) ∷
    reads "#ifdef/**/a/**/\n" (answer 0 9 0 2 ++ node K.ROOT 0 0 16 ++ node K.PP_IFDEF 1 0 16 ++ leaf K.HASH 2 0 1
    ++ leaf K.IDENT_KW 2 1 6 ++ leaf K.COMMENT 2 6 10 ++ node K.PP_IDENT 2 10 11 ++ leaf K.IDENT_KW 3 10 11 ++ leaf K.COMMENT 2 11 15
    ++ leaf K.NEWLINE 2 15 16 ++ line 0 ++ line 16) ∷
    reads "#version/**/1/**/a/**/\n" (answer 0 12 0 2 ++ node K.ROOT 0 0 23 ++ node K.PP_VERSION 1 0 23 ++ leaf K.HASH 2 0 1
    ++ leaf K.IDENT_KW 2 1 8 ++ leaf K.COMMENT 2 8 12 ++ node K.PP_VERSION_NUMBER 2 12 13 ++ leaf K.DIGITS 3 12 13
    ++ leaf K.COMMENT 2 13 17 ++ node K.PP_VERSION_PROFILE 2 17 18 ++ leaf K.IDENT_KW 3 17 18 ++ leaf K.COMMENT 2 18 22
    ++ leaf K.NEWLINE 2 22 23 ++ line 0 ++ line 23) ∷
    reads "#extension/**/a/**/:/**/b/**/\n" (answer 0 12 0 2 ++ node K.ROOT 0 0 30 ++ node K.PP_EXTENSION 1 0 30 ++ leaf K.HASH 2 0 1
    ++ leaf K.IDENT_KW 2 1 10 ++ leaf K.COMMENT 2 10 14 ++ leaf K.IDENT_KW 2 14 15 ++ leaf K.COMMENT 2 15 19 ++ leaf K.COLON 2 19 20
    ++ leaf K.COMMENT 2 20 24 ++ leaf K.IDENT_KW 2 24 25 ++ leaf K.COMMENT 2 25 29 ++ leaf K.NEWLINE 2 29 30 ++ line 0 ++ line 30) ∷
    reads "#define a/**/b/**/\n" (answer 0 11 0 2 ++ node K.ROOT 0 0 19 ++ node K.PP_DEFINE 1 0 19 ++ leaf K.HASH 2 0 1
    ++ leaf K.IDENT_KW 2 1 7 ++ leaf K.WS 2 7 8 ++ leaf K.IDENT_KW 2 8 9 ++ leaf K.COMMENT 2 9 13 ++ node K.PP_DEFINE_BODY 2 13 14
    ++ leaf K.IDENT_KW 3 13 14 ++ leaf K.COMMENT 2 14 18 ++ leaf K.NEWLINE 2 18 19 ++ line 0 ++ line 19) ∷
    reads "#else /**/ x /**/ \n" (answer 0 13 1 2 ++ node K.ROOT 0 0 19 ++ node K.PP_ELSE 1 0 19 ++ leaf K.HASH 2 0 1
    ++ leaf K.IDENT_KW 2 1 5 ++ leaf K.WS 2 5 6 ++ leaf K.COMMENT 2 6 10 ++ leaf K.WS 2 10 11 ++ node K.ERROR 2 11 18
    ++ leaf K.IDENT_KW 3 11 12 ++ leaf K.WS 3 12 13 ++ leaf K.COMMENT 3 13 17 ++ leaf K.WS 3 17 18 ++ leaf K.NEWLINE 2 18 19
    ++ error 2 11 18 0 11 0 0 0 1 5 ++ line 0 ++ line 19) ∷ []

-- Words that are none, and extra tokens.
abbrev unknowns : List Worked
unknowns =
    reads "#a \nb" (answer 0 8 1 2 ++ node K.ROOT 0 0 5 ++ node K.ERROR 1 0 4 ++ leaf K.HASH 2 0 1 ++ node K.ERROR 2 1 3
    ++ leaf K.IDENT_KW 3 1 2 ++ leaf K.WS 3 2 3 ++ leaf K.NEWLINE 2 3 4 ++ leaf K.IDENT_KW 1 4 5 ++ error 1 1 2 0 1 0 0 0 1 2 ++ line 0
    ++ line 4) ∷
    reads "#a b c\n" (answer 0 10 1 2 ++ node K.ROOT 0 0 7 ++ node K.ERROR 1 0 7 ++ leaf K.HASH 2 0 1 ++ node K.ERROR 2 1 6
    ++ leaf K.IDENT_KW 3 1 2 ++ leaf K.WS 3 2 3 ++ leaf K.IDENT_KW 3 3 4 ++ leaf K.WS 3 4 5 ++ leaf K.IDENT_KW 3 5 6
    ++ leaf K.NEWLINE 2 6 7 ++ error 1 1 2 0 1 0 0 0 1 2 ++ line 0 ++ line 7) ∷
    reads "# #a\n" (answer 0 8 1 2 ++ node K.ROOT 0 0 5 ++ node K.ERROR 1 0 5 ++ leaf K.HASH 2 0 1 ++ leaf K.WS 2 1 2
    ++ node K.ERROR 2 2 4 ++ leaf K.HASH 3 2 3 ++ leaf K.IDENT_KW 3 3 4 ++ leaf K.NEWLINE 2 4 5 ++ error 1 2 3 0 2 0 0 0 2 3 ++ line 0
    ++ line 5) ∷
    reads "#defined\n" (answer 0 6 1 2 ++ node K.ROOT 0 0 9 ++ node K.ERROR 1 0 9 ++ leaf K.HASH 2 0 1 ++ node K.ERROR 2 1 8
    ++ leaf K.DEFINED 3 1 8 ++ leaf K.NEWLINE 2 8 9 ++ error 1 1 8 0 1 0 0 0 1 8 ++ line 0 ++ line 9) ∷
    reads "#1\n" (answer 0 6 1 2 ++ node K.ROOT 0 0 3 ++ node K.ERROR 1 0 3 ++ leaf K.HASH 2 0 1 ++ node K.ERROR 2 1 2
    ++ leaf K.DIGITS 3 1 2 ++ leaf K.NEWLINE 2 2 3 ++ error 1 1 2 0 1 0 0 0 1 2 ++ line 0 ++ line 3) ∷
    reads "##a" (answer 0 3 0 1 ++ node K.ROOT 0 0 3 ++ leaf K.PP_CONCAT_OP 1 0 2 ++ leaf K.IDENT_KW 1 2 3 ++ line 0) ∷
    reads "#(((a))())#else\n" (answer 0 15 0 2 ++ node K.ROOT 0 0 16 ++ leaf K.HASH 1 0 1 ++ leaf K.LPAREN 1 1 2 ++ leaf K.LPAREN 1 2 3
    ++ leaf K.LPAREN 1 3 4 ++ leaf K.IDENT_KW 1 4 5 ++ leaf K.RPAREN 1 5 6 ++ leaf K.RPAREN 1 6 7 ++ leaf K.LPAREN 1 7 8
    ++ leaf K.RPAREN 1 8 9 ++ leaf K.RPAREN 1 9 10 ++ node K.PP_ELSE 1 10 16 ++ leaf K.HASH 2 10 11 ++ leaf K.IDENT_KW 2 11 15
    ++ leaf K.NEWLINE 2 15 16 ++ line 0 ++ line 16) ∷
    reads "#((a)" (answer 0 7 1 1 ++ node K.ROOT 0 0 5 ++ node K.ERROR 1 0 5 ++ leaf K.HASH 2 0 1 ++ leaf K.LPAREN 2 1 2
    ++ leaf K.LPAREN 2 2 3 ++ leaf K.IDENT_KW 2 3 4 ++ leaf K.RPAREN 2 4 5 ++ error 5 1 2 0 1 0 K.RPAREN 0 0 0 ++ line 0) ∷ []

-- ## in a body, a leading one, and one outside a body.
abbrev concats : List Worked
concats =
    reads "#define a ##b\n" (answer 0 12 0 2 ++ node K.ROOT 0 0 14 ++ node K.PP_DEFINE 1 0 14 ++ leaf K.HASH 2 0 1
    ++ leaf K.IDENT_KW 2 1 7 ++ leaf K.WS 2 7 8 ++ leaf K.IDENT_KW 2 8 9 ++ leaf K.WS 2 9 10 ++ node K.PP_DEFINE_BODY 2 10 13
    ++ node K.PP_CONCAT 3 10 13 ++ leaf K.PP_CONCAT_OP 4 10 12 ++ leaf K.IDENT_KW 4 12 13 ++ leaf K.NEWLINE 2 13 14 ++ line 0 ++ line 14) ∷
    reads "#define a b ## c d ## e /**/\n" (answer 0 24 0 2 ++ node K.ROOT 0 0 29 ++ node K.PP_DEFINE 1 0 29 ++ leaf K.HASH 2 0 1
    ++ leaf K.IDENT_KW 2 1 7 ++ leaf K.WS 2 7 8 ++ leaf K.IDENT_KW 2 8 9 ++ leaf K.WS 2 9 10 ++ node K.PP_DEFINE_BODY 2 10 23
    ++ node K.PP_CONCAT 3 10 23 ++ leaf K.IDENT_KW 4 10 11 ++ leaf K.WS 4 11 12 ++ leaf K.PP_CONCAT_OP 4 12 14 ++ leaf K.WS 4 14 15
    ++ leaf K.IDENT_KW 4 15 16 ++ leaf K.WS 4 16 17 ++ leaf K.IDENT_KW 4 17 18 ++ leaf K.WS 4 18 19 ++ node K.PP_CONCAT 4 19 23
    ++ leaf K.PP_CONCAT_OP 5 19 21 ++ leaf K.WS 5 21 22 ++ leaf K.IDENT_KW 5 22 23 ++ leaf K.WS 2 23 24 ++ leaf K.COMMENT 2 24 28
    ++ leaf K.NEWLINE 2 28 29 ++ line 0 ++ line 29) ∷
    reads "#define a /**/## b\n" (answer 0 14 0 2 ++ node K.ROOT 0 0 19 ++ node K.PP_DEFINE 1 0 19 ++ leaf K.HASH 2 0 1
    ++ leaf K.IDENT_KW 2 1 7 ++ leaf K.WS 2 7 8 ++ leaf K.IDENT_KW 2 8 9 ++ leaf K.WS 2 9 10 ++ leaf K.COMMENT 2 10 14
    ++ node K.PP_DEFINE_BODY 2 14 18 ++ node K.PP_CONCAT 3 14 18 ++ leaf K.PP_CONCAT_OP 4 14 16 ++ leaf K.WS 4 16 17
    ++ leaf K.IDENT_KW 4 17 18 ++ leaf K.NEWLINE 2 18 19 ++ line 0 ++ line 19) ∷
    reads "#define a ###b\n" (answer 0 13 0 2 ++ node K.ROOT 0 0 15 ++ node K.PP_DEFINE 1 0 15 ++ leaf K.HASH 2 0 1
    ++ leaf K.IDENT_KW 2 1 7 ++ leaf K.WS 2 7 8 ++ leaf K.IDENT_KW 2 8 9 ++ leaf K.WS 2 9 10 ++ node K.PP_DEFINE_BODY 2 10 14
    ++ node K.PP_CONCAT 3 10 14 ++ leaf K.PP_CONCAT_OP 4 10 12 ++ leaf K.HASH 4 12 13 ++ leaf K.IDENT_KW 4 13 14
    ++ leaf K.NEWLINE 2 14 15 ++ line 0 ++ line 15) ∷
    reads "#else ##\n" (answer 0 8 1 2 ++ node K.ROOT 0 0 9 ++ node K.PP_ELSE 1 0 9 ++ leaf K.HASH 2 0 1 ++ leaf K.IDENT_KW 2 1 5
    ++ leaf K.WS 2 5 6 ++ node K.ERROR 2 6 8 ++ leaf K.PP_CONCAT_OP 3 6 8 ++ leaf K.NEWLINE 2 8 9 ++ error 2 6 8 0 6 0 0 0 1 5 ++ line 0
    ++ line 9) ∷
    reads "#if ##\n" (answer 0 9 0 2 ++ node K.ROOT 0 0 7 ++ node K.PP_IF 1 0 7 ++ leaf K.HASH 2 0 1 ++ leaf K.IDENT_KW 2 1 3
    ++ leaf K.WS 2 3 4 ++ node K.PP_IF_EXPR 2 4 6 ++ node K.PP_CONCAT 3 4 6 ++ leaf K.PP_CONCAT_OP 4 4 6 ++ leaf K.NEWLINE 2 6 7
    ++ line 0 ++ line 7) ∷ []

-- Lines and columns of errors, behind newlines of two characters and in comments.
abbrev places : List Worked
places =
    reads "a\r\n #undef 1\n" (answer 0 12 1 3 ++ node K.ROOT 0 0 13 ++ leaf K.IDENT_KW 1 0 1 ++ leaf K.NEWLINE 1 1 3
    ++ node K.PP_UNDEF 1 3 13 ++ leaf K.WS 2 3 4 ++ leaf K.HASH 2 4 5 ++ leaf K.IDENT_KW 2 5 10 ++ leaf K.WS 2 10 11
    ++ node K.PP_IDENT 2 11 12 ++ node K.ERROR 3 11 12 ++ leaf K.DIGITS 4 11 12 ++ leaf K.NEWLINE 2 12 13
    ++ error 4 11 12 1 8 K.DIGITS K.IDENT_KW 0 0 0 ++ line 0 ++ line 3 ++ line 13) ∷
    reads "#undef\r\n #else\n" (answer 0 12 2 3 ++ node K.ROOT 0 0 15 ++ node K.PP_UNDEF 1 0 15 ++ leaf K.HASH 2 0 1
    ++ leaf K.IDENT_KW 2 1 6 ++ node K.PP_IDENT 2 6 8 ++ node K.ERROR 3 6 8 ++ leaf K.NEWLINE 4 6 8 ++ leaf K.WS 2 8 9
    ++ node K.ERROR 2 9 14 ++ leaf K.HASH 3 9 10 ++ leaf K.IDENT_KW 3 10 14 ++ leaf K.NEWLINE 2 14 15
    ++ error 4 6 8 0 6 K.NEWLINE K.IDENT_KW 0 0 0 ++ error 2 9 14 1 1 0 0 0 1 6 ++ line 0 ++ line 8 ++ line 15) ∷
    reads "\n\r#a" (answer 0 6 1 2 ++ node K.ROOT 0 0 4 ++ leaf K.NEWLINE 1 0 2 ++ node K.ERROR 1 2 4 ++ leaf K.HASH 2 2 3
    ++ node K.ERROR 2 3 4 ++ leaf K.IDENT_KW 3 3 4 ++ error 1 3 4 1 1 0 0 0 3 4 ++ line 0 ++ line 2) ∷
    reads "/*\r\n*/#else x" (answer 0 8 1 2 ++ node K.ROOT 0 0 13 ++ node K.PP_ELSE 1 0 13 ++ leaf K.COMMENT 2 0 6 ++ leaf K.HASH 2 6 7
    ++ leaf K.IDENT_KW 2 7 11 ++ leaf K.WS 2 11 12 ++ node K.ERROR 2 12 13 ++ leaf K.IDENT_KW 3 12 13 ++ error 2 12 13 1 8 0 0 0 7 11
    ++ line 0 ++ line 4) ∷ []

-- Vertical tabs (Req 02): before a HASH, between it and the word and behind that, beside other blanks and before a bracket; in text, in
-- comments and in strings.
abbrev vertical_tabs : List Worked
vertical_tabs =
    reads "\u{b}#\u{b}if\u{b}a\u{b}\n" (answer 0 11 0 2 ++ node K.ROOT 0 0 9 ++ node K.PP_IF 1 0 9 ++ leaf K.WS 2 0 1
    ++ leaf K.HASH 2 1 2 ++ leaf K.WS 2 2 3 ++ leaf K.IDENT_KW 2 3 5 ++ leaf K.WS 2 5 6 ++ node K.PP_IF_EXPR 2 6 7
    ++ leaf K.IDENT_KW 3 6 7 ++ leaf K.WS 2 7 8 ++ leaf K.NEWLINE 2 8 9 ++ line 0 ++ line 9) ∷
    reads " \u{b}\t# \u{b}\u{c}else\t\u{b}" (answer 0 7 0 1 ++ node K.ROOT 0 0 13 ++ node K.PP_ELSE 1 0 13 ++ leaf K.WS 2 0 3
    ++ leaf K.HASH 2 3 4 ++ leaf K.WS 2 4 7 ++ leaf K.IDENT_KW 2 7 11 ++ leaf K.WS 2 11 13 ++ line 0) ∷
    reads "#define\u{b}f\u{b}(a)\n" (answer 0 12 0 2 ++ node K.ROOT 0 0 14 ++ node K.PP_DEFINE 1 0 14 ++ leaf K.HASH 2 0 1
    ++ leaf K.IDENT_KW 2 1 7 ++ leaf K.WS 2 7 8 ++ leaf K.IDENT_KW 2 8 9 ++ leaf K.WS 2 9 10 ++ node K.PP_DEFINE_BODY 2 10 13
    ++ leaf K.LPAREN 3 10 11 ++ leaf K.IDENT_KW 3 11 12 ++ leaf K.RPAREN 3 12 13 ++ leaf K.NEWLINE 2 13 14 ++ line 0 ++ line 14) ∷
    reads "#define f(\u{b}a\u{b},\u{b})\u{b}a##\u{b}b\u{b}\n" (answer 0 24 0 2 ++ node K.ROOT 0 0 24 ++ node K.PP_DEFINE 1 0 24
    ++ leaf K.HASH 2 0 1 ++ leaf K.IDENT_KW 2 1 7 ++ leaf K.WS 2 7 8 ++ leaf K.IDENT_KW 2 8 9 ++ node K.PP_DEFINE_ARGS 2 9 16
    ++ leaf K.LPAREN 3 9 10 ++ leaf K.WS 3 10 11 ++ node K.PP_DEFINE_ARG 3 11 12 ++ leaf K.IDENT_KW 4 11 12 ++ leaf K.WS 3 12 13
    ++ leaf K.COMMA 3 13 14 ++ leaf K.WS 3 14 15 ++ leaf K.RPAREN 3 15 16 ++ leaf K.WS 2 16 17 ++ node K.PP_DEFINE_BODY 2 17 22
    ++ node K.PP_CONCAT 3 17 22 ++ leaf K.IDENT_KW 4 17 18 ++ leaf K.PP_CONCAT_OP 4 18 20 ++ leaf K.WS 4 20 21
    ++ leaf K.IDENT_KW 4 21 22 ++ leaf K.WS 2 22 23 ++ leaf K.NEWLINE 2 23 24 ++ line 0 ++ line 24) ∷
    reads "#include\u{b}<\u{b}>\u{b}\n" (answer 0 9 0 2 ++ node K.ROOT 0 0 14 ++ node K.PP_INCLUDE 1 0 14 ++ leaf K.HASH 2 0 1
    ++ leaf K.IDENT_KW 2 1 8 ++ leaf K.WS 2 8 9 ++ node K.PP_INCLUDE_PATH 2 9 12 ++ leaf K.ANGLE_STRING 3 9 12 ++ leaf K.WS 2 12 13
    ++ leaf K.NEWLINE 2 13 14 ++ line 0 ++ line 14) ∷
    reads "#\u{b}\n\u{b}#" (answer 0 8 0 2 ++ node K.ROOT 0 0 5 ++ node K.PP_EMPTY 1 0 3 ++ leaf K.HASH 2 0 1 ++ leaf K.WS 2 1 2
    ++ leaf K.NEWLINE 2 2 3 ++ node K.ERROR 1 3 5 ++ leaf K.WS 2 3 4 ++ leaf K.HASH 2 4 5 ++ line 0 ++ line 3) ∷
    reads "#\u{b}(\u{b})\u{b}#undef\u{b}\n\u{b}a" (answer 0 17 2 2 ++ node K.ROOT 0 0 16 ++ leaf K.HASH 1 0 1 ++ leaf K.WS 1 1 2
    ++ leaf K.LPAREN 1 2 3 ++ leaf K.WS 1 3 4 ++ leaf K.RPAREN 1 4 5 ++ node K.PP_UNDEF 1 5 16 ++ leaf K.WS 2 5 6 ++ leaf K.HASH 2 6 7
    ++ leaf K.IDENT_KW 2 7 12 ++ leaf K.WS 2 12 13 ++ node K.PP_IDENT 2 13 14 ++ node K.ERROR 3 13 14 ++ leaf K.NEWLINE 4 13 14
    ++ leaf K.WS 2 14 15 ++ node K.ERROR 2 15 16 ++ leaf K.IDENT_KW 3 15 16 ++ error 4 13 14 0 13 K.NEWLINE K.IDENT_KW 0 0 0
    ++ error 2 15 16 1 1 0 0 0 7 12 ++ line 0 ++ line 14) ∷
    reads "\u{b}a\u{b}=\u{b}\"\u{b}\";\n/*\u{b}*/#\\\n\u{b}//\u{b}\n" (answer 0 16 0 4 ++ node K.ROOT 0 0 23 ++ leaf K.WS 1 0 1
    ++ leaf K.IDENT_KW 1 1 2 ++ leaf K.WS 1 2 3 ++ leaf K.EQUAL 1 3 4 ++ leaf K.WS 1 4 5 ++ leaf K.QUOTE_STRING 1 5 8
    ++ leaf K.SEMICOLON 1 8 9 ++ leaf K.NEWLINE 1 9 10 ++ node K.PP_EMPTY 1 10 23 ++ leaf K.COMMENT 2 10 15 ++ leaf K.HASH 2 15 16
    ++ leaf K.WS 2 16 18 ++ leaf K.WS 2 18 19 ++ leaf K.COMMENT 2 19 22 ++ leaf K.NEWLINE 2 22 23 ++ line 0 ++ line 10 ++ line 18
    ++ line 23) ∷ []

-- A source that is not a text of ASCII.
abbrev reads_of : List ℕ → List ℕ → Worked
reads_of s n = record { source = s; numbers = n }

-- Sources that end inside a character.
abbrev cut_off : List Worked
cut_off =
    reads_of (0xE9 ∷ []) (answer 10 0 0 0) ∷
    reads_of (ascii "a" ++ (0xE2 ∷ 0x82 ∷ [])) (answer 10 0 0 0) ∷
    reads_of (ascii "#undef " ++ (0xC3 ∷ [])) (answer 10 0 0 0) ∷
    reads_of (ascii "//" ++ (0xF0 ∷ 0x9F ∷ 0x98 ∷ [])) (answer 10 0 0 0) ∷
    reads_of (ascii "#define a " ++ (0xC3 ∷ 0xA9 ∷ 0xC3 ∷ [])) (answer 10 0 0 0) ∷
    reads_of (0xF4 ∷ 0x8F ∷ 0xBF ∷ []) (answer 10 0 0 0) ∷ []

-- Sources that are not UTF-8 and not cut: other bytes at the end, and the beginning of a character before other bytes.
abbrev broken : List Worked
broken =
    reads_of (0xC0 ∷ []) (answer 2 0 0 0) ∷
    reads_of (0xC1 ∷ []) (answer 2 0 0 0) ∷
    reads_of (0xF5 ∷ []) (answer 2 0 0 0) ∷
    reads_of (0xE0 ∷ 0x80 ∷ []) (answer 2 0 0 0) ∷
    reads_of (0xED ∷ 0xA0 ∷ []) (answer 2 0 0 0) ∷
    reads_of (0xF0 ∷ 0x80 ∷ []) (answer 2 0 0 0) ∷
    reads_of (0xF4 ∷ 0x90 ∷ []) (answer 2 0 0 0) ∷
    reads_of (0xC3 ∷ 0xC3 ∷ []) (answer 2 0 0 0) ∷
    reads_of (0xFF ∷ 0xC3 ∷ []) (answer 2 0 0 0) ∷
    reads_of (0xE9 ∷ 0x20 ∷ []) (answer 2 0 0 0) ∷
    reads_of ((0xC3 ∷ []) ++ ascii "\n#a\n") (answer 2 0 0 0) ∷ []

unfoldable pub recorded : List Worked
recorded = words ++ ends ++ args ++ trivia ++ unknowns ++ concats ++ places ++ vertical_tabs ++ cut_off ++ broken

pub recorded_listed : all_listed recorded ≡ true
unfolding all_listed recorded listed
recorded_listed = refl
