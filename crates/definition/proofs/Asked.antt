-- The other calls, and tables of other lengths: recorded answers of the Rust (`compare/pins.py` writes them) with 01's rules for refusals;
-- where a source holds vertical tabs, the answer to it with tabs, and of unescaping the answer to it as it is (Req 02).
use Rattle.std.specs.Prelude.{◌+◌, ◌-◌, ◌&&◌, ◌∷◌, ◌++◌}
use Prim.Native.String.{String}
use mathlib.Core.Path.{◌≡◌, refl}
use Rattle.definition.specs.Text.{ℕ, Bool, true, List, [], length, replicate, ascii, same}
use Rattle.definition.specs.SyntaxKind.{Kind as K}
use Rattle.definition.specs.Utf8.{char_forms, follow, left, utf8, ends_inside}
use Rattle.definition.specs.Runs.{joined, runs, grouped}
use Rattle.definition.specs.Newline.{char_more, chars}
use Rattle.definition.specs.LineMap.{newline_ends, line_starts, last_line, get_line_and_col, rises, line_table}
use Rattle.definition.specs.Unescaped.{unescaped_chars, unescaped}
use Rattle.definition.specs.Pre.{kind_of, find, begin, flag, more, pre_begin, pre_more, pres}
use Rattle.definition.specs.Glue.{glued, flat, pre_kind, tokens, token_numbers, pasted_kind}
use Rattle.definition.specs.Tree.{placed, bytes, ◌▹◌, leaves, row, size, entries, entry_numbers, concat_ops, body_concats}
use Rattle.definition.specs.Error.{error_numbers}
use Rattle.definition.specs.Parser.{while, after, peek, ◌then◌, wrap, skip, skip_trivia, nothing, bump, maybe, expect_one}
use Rattle.definition.specs.Syntax.{nest, wrapped, pasted, pp_tokens_from, pp_tokens, all_trivia, trimmed, trailing, body, pp_body, args, define_args, pp_define, pp_if_ident, pp_version, colon, pp_extension, last_stop, extra, finish, directive_named, directive, unknown, depth, pp_rs_ident, pp_include, directives, control_line, hash_item, item, file, relexed, parse, parse_define_body}
use Rattle.definition.specs.Calls.{refusal, too_many, padded, filled, full_reading, outcome, Reading, reading, Filled, reading_body, listing_tokens, building_lines, unescaping, Looked, looking_up, Pasted, pasting}
use Rattle.definition.proofs.Worked.{answer as counts, node, leaf, error, line}

-- What a call leaves, and what it must leave: the refusal, the counts, and each number of the tables.
pub record Asked : Type 0 where
  pub got : List ℕ
  pub numbers : List ℕ

abbrev asks : List ℕ → List ℕ → Asked
asks g n = record { got = g; numbers = n }

-- The numbers that a call leaves: of those that fill one table, of reading, lookup and pasting.
abbrev shown : Filled → List ℕ
shown f = f.refused ∷ f.count ∷ f.table

abbrev read : Reading → List ℕ
read r = r.refused ∷ r.entry_count ∷ r.error_count ∷ r.line_count ∷ (r.entry_table ++ (r.error_table ++ r.line_table))

abbrev looked : Looked → List ℕ
looked l = l.refused ∷ l.line ∷ l.column ∷ []

abbrev pasted_as : Pasted → List ℕ
pasted_as p = p.refused ∷ p.kind ∷ []

-- A call with a table just long enough: a body, the tokens, the line table, the unescaped text; of bytes, and of a text.
abbrev bodies_of : List ℕ → List ℕ → Asked
bodies_of s n = asks (shown (reading_body s (length n - 2))) n

abbrev lists_of : List ℕ → List ℕ → Asked
lists_of s n = asks (shown (listing_tokens s (length n - 2))) n

abbrev breaks_of : List ℕ → List ℕ → Asked
breaks_of s n = asks (shown (building_lines s (length n - 2))) n

abbrev unescapes_of : List ℕ → List ℕ → Asked
unescapes_of s n = asks (shown (unescaping s (length n - 2))) n

abbrev bodies : String → List ℕ → Asked
bodies s n = bodies_of (ascii s) n

abbrev lists : String → List ℕ → Asked
lists s n = lists_of (ascii s) n

abbrev breaks : String → List ℕ → Asked
breaks s n = breaks_of (ascii s) n

abbrev unescapes : String → List ℕ → Asked
unescapes s n = unescapes_of (ascii s) n

-- Refusal and count.
abbrev answer : ℕ → ℕ → List ℕ
answer r n = r ∷ n ∷ []

-- Kind, start, end.
abbrev token : ℕ → ℕ → ℕ → List ℕ
token k s e = k ∷ s ∷ e ∷ []

-- Numbers.
abbrev numbers : List Asked
numbers =
    lists "1e5+3" (answer 0 1 ++ token K.DIGITS 0 5) ∷
    lists "1e.+-3" (answer 0 1 ++ token K.DIGITS 0 6) ∷
    lists "1ef+3" (answer 0 3 ++ token K.DIGITS 0 3 ++ token K.PLUS 3 4 ++ token K.DIGITS 4 5) ∷
    lists "0xE-1" (answer 0 1 ++ token K.DIGITS 0 5) ∷
    lists ".5" (answer 0 1 ++ token K.DIGITS 0 2) ∷
    lists "1.2." (answer 0 2 ++ token K.DIGITS 0 3 ++ token K.PERIOD 3 4) ∷
    lists "1..2" (answer 0 2 ++ token K.DIGITS 0 2 ++ token K.DIGITS 2 4) ∷
    lists "1-2" (answer 0 3 ++ token K.DIGITS 0 1 ++ token K.DASH 1 2 ++ token K.DIGITS 2 3) ∷
    lists "1_a" (answer 0 2 ++ token K.DIGITS 0 1 ++ token K.IDENT_KW 1 3) ∷
    lists "1\\\n.2" (answer 0 1 ++ token K.DIGITS 0 5) ∷
    lists "1e\\\n+2" (answer 0 1 ++ token K.DIGITS 0 6) ∷
    lists "1\\a" (answer 0 2 ++ token K.BACKSLASH 0 2 ++ token K.IDENT_KW 2 3) ∷ []

-- Names.
abbrev names : List Asked
names =
    lists "_aZ_09z" (answer 0 1 ++ token K.IDENT_KW 0 7) ∷
    lists "a\\\nb" (answer 0 1 ++ token K.IDENT_KW 0 4) ∷
    lists "a\\\\\n" (answer 0 2 ++ token K.BACKSLASH 0 2 ++ token K.LINECONT 2 4) ∷
    lists "a\\" (answer 0 1 ++ token K.BACKSLASH 0 2) ∷
    lists "defined" (answer 0 1 ++ token K.DEFINED 0 7) ∷
    lists "de\\\r\nfined" (answer 0 1 ++ token K.DEFINED 0 10) ∷
    lists "definedx" (answer 0 1 ++ token K.IDENT_KW 0 8) ∷
    lists "define" (answer 0 1 ++ token K.IDENT_KW 0 6) ∷
    lists "defined\\" (answer 0 1 ++ token K.BACKSLASH 0 8) ∷ []

-- Comments.
abbrev comments : List Asked
comments =
    lists "//a\\\nb\nc" (answer 0 3 ++ token K.COMMENT 0 6 ++ token K.NEWLINE 6 7 ++ token K.IDENT_KW 7 8) ∷
    lists "//\\" (answer 0 1 ++ token K.COMMENT 0 3) ∷
    lists "/*a*" (answer 0 1 ++ token K.ERROR 0 4) ∷
    lists "/**/a" (answer 0 2 ++ token K.COMMENT 0 4 ++ token K.IDENT_KW 4 5) ∷
    lists "/*a*b*/" (answer 0 1 ++ token K.COMMENT 0 7) ∷
    lists "/**a**/" (answer 0 1 ++ token K.ERROR 0 7) ∷
    lists "/\\\n/" (answer 0 3 ++ token K.SLASH 0 1 ++ token K.LINECONT 1 3 ++ token K.SLASH 3 4) ∷ []

-- Strings.
abbrev strings : List Asked
strings =
    lists "\"a" (answer 0 1 ++ token K.ERROR 0 2) ∷
    lists "\"a\nb\"c" (answer 0 2 ++ token K.QUOTE_STRING 0 5 ++ token K.IDENT_KW 5 6) ∷
    lists "\"\\\"" (answer 0 1 ++ token K.QUOTE_STRING 0 3) ∷
    lists "<a>" (answer 0 3 ++ token K.LANGLE 0 1 ++ token K.IDENT_KW 1 2 ++ token K.RANGLE 2 3) ∷ []

-- Blanks, continuations and newlines.
abbrev blanks : List Asked
blanks =
    lists " \t\u{c} a" (answer 0 2 ++ token K.WS 0 4 ++ token K.IDENT_KW 4 5) ∷
    lists "\u{b}" (answer 0 1 ++ token K.WS 0 1) ∷
    lists "\t\u{b}\u{c} \u{b}\u{b}a\u{b}" (answer 0 3 ++ token K.WS 0 6 ++ token K.IDENT_KW 6 7 ++ token K.WS 7 8) ∷
    lists "\\\u{b}\n1\u{b}\u{b}.\u{b}5" (answer 0 8 ++ token K.BACKSLASH 0 1 ++ token K.WS 1 2 ++ token K.NEWLINE 2 3
    ++ token K.DIGITS 3 4 ++ token K.WS 4 6 ++ token K.PERIOD 6 7 ++ token K.WS 7 8 ++ token K.DIGITS 8 9) ∷
    lists "/*\u{b}*/\u{b}\"\u{b}\"" (answer 0 3 ++ token K.COMMENT 0 5 ++ token K.WS 5 6 ++ token K.QUOTE_STRING 6 9) ∷
    lists "//\u{b}\\\u{b}\n\u{b}" (answer 0 3 ++ token K.COMMENT 0 5 ++ token K.NEWLINE 5 6 ++ token K.WS 6 7) ∷
    bodies "\u{b}##\u{b}a\u{b}\n" (answer 0 6 ++ node K.PP_DEFINE_BODY 0 0 5 ++ node K.PP_CONCAT 1 0 5 ++ leaf K.WS 2 0 1
    ++ leaf K.PP_CONCAT_OP 2 1 3 ++ leaf K.WS 2 3 4 ++ leaf K.IDENT_KW 2 4 5) ∷
    breaks "\u{b}\n\u{b}" (answer 0 2 ++ line 0 ++ line 2) ∷
    unescapes "\u{b}\\\n\u{b}" (answer 0 2 ++ ascii "\u{b}\u{b}") ∷
    lists "\\\n\\\r\n\\ " (answer 0 4 ++ token K.LINECONT 0 2 ++ token K.LINECONT 2 5 ++ token K.BACKSLASH 5 6 ++ token K.WS 6 7) ∷
    lists "\\" (answer 0 1 ++ token K.BACKSLASH 0 1) ∷
    lists "\n\r\n\r\r\n" (answer 0 3 ++ token K.NEWLINE 0 2 ++ token K.NEWLINE 2 4 ++ token K.NEWLINE 4 6) ∷ []

-- Other characters are one ERROR token each, of two to four bytes too.
abbrev others : List Asked
others =
    lists "@$`\u{7f}" (answer 0 4 ++ token K.ERROR 0 1 ++ token K.ERROR 1 2 ++ token K.ERROR 2 3 ++ token K.ERROR 3 4) ∷
    asks (shown (listing_tokens (0xC2 ∷ 0x80 ∷ 0xEF ∷ 0xBF ∷ 0xBF ∷ 0xF4 ∷ 0x8F ∷ 0xBF ∷ 0xBF ∷ []) 9))
    (answer 0 3 ++ token K.ERROR 0 2 ++ token K.ERROR 2 5 ++ token K.ERROR 5 9) ∷
    asks (shown (unescaping (92 ∷ 10 ∷ 0xC3 ∷ 0xA9 ∷ 92 ∷ []) 3)) (answer 0 3 ++ (0xC3 ∷ 0xA9 ∷ 92 ∷ [])) ∷ []

-- Each character of the row, each gluing step, and the longest match.
abbrev operators : List Asked
operators =
    lists ";,?#:~=!&|^}{)(][><%*/-+." (answer 0 25 ++ token K.SEMICOLON 0 1 ++ token K.COMMA 1 2 ++ token K.QUESTION 2 3
    ++ token K.HASH 3 4 ++ token K.COLON 4 5 ++ token K.TILDE 5 6 ++ token K.EQUAL 6 7 ++ token K.BANG 7 8 ++ token K.AMPERSAND 8 9
    ++ token K.BAR 9 10 ++ token K.CARET 10 11 ++ token K.RBRACE 11 12 ++ token K.LBRACE 12 13 ++ token K.RPAREN 13 14
    ++ token K.LPAREN 14 15 ++ token K.RBRACKET 15 16 ++ token K.LBRACKET 16 17 ++ token K.RANGLE 17 18 ++ token K.LANGLE 18 19
    ++ token K.PERCENT 19 20 ++ token K.ASTERISK 20 21 ++ token K.SLASH 21 22 ++ token K.DASH 22 23 ++ token K.PLUS 23 24
    ++ token K.PERIOD 24 25) ∷
    lists "<<>>++--<=>===!=&&||^^*=/=+=%=<<=>>=&=^=|=-=##.5" (answer 0 23 ++ token K.LEFT_OP 0 2 ++ token K.RIGHT_OP 2 4
    ++ token K.INC_OP 4 6 ++ token K.DEC_OP 6 8 ++ token K.LE_OP 8 10 ++ token K.GE_OP 10 12 ++ token K.EQ_OP 12 14
    ++ token K.NE_OP 14 16 ++ token K.AND_OP 16 18 ++ token K.OR_OP 18 20 ++ token K.XOR_OP 20 22 ++ token K.MUL_ASSIGN 22 24
    ++ token K.DIV_ASSIGN 24 26 ++ token K.ADD_ASSIGN 26 28 ++ token K.MOD_ASSIGN 28 30 ++ token K.LEFT_ASSIGN 30 33
    ++ token K.RIGHT_ASSIGN 33 36 ++ token K.AND_ASSIGN 36 38 ++ token K.XOR_ASSIGN 38 40 ++ token K.OR_ASSIGN 40 42
    ++ token K.SUB_ASSIGN 42 44 ++ token K.PP_CONCAT_OP 44 46 ++ token K.DIGITS 46 48) ∷
    lists "<<<=" (answer 0 2 ++ token K.LEFT_OP 0 2 ++ token K.LE_OP 2 4) ∷
    lists ">>>>=" (answer 0 2 ++ token K.RIGHT_OP 0 2 ++ token K.RIGHT_ASSIGN 2 5) ∷
    lists "+++" (answer 0 2 ++ token K.INC_OP 0 2 ++ token K.PLUS 2 3) ∷
    lists "###" (answer 0 2 ++ token K.PP_CONCAT_OP 0 2 ++ token K.HASH 2 3) ∷
    lists "<\\\n<" (answer 0 3 ++ token K.LANGLE 0 1 ++ token K.LINECONT 1 3 ++ token K.LANGLE 3 4) ∷ []

-- Bodies: leading trivia is kept, trailing trivia left out, and a newline ends the body.
abbrev define_bodies : List Asked
define_bodies =
    bodies "" (answer 0 1 ++ node K.PP_DEFINE_BODY 0 0 0) ∷
    bodies " " (answer 0 1 ++ node K.PP_DEFINE_BODY 0 0 0) ∷
    bodies "\n" (answer 0 1 ++ node K.PP_DEFINE_BODY 0 0 0) ∷
    bodies " a" (answer 0 3 ++ node K.PP_DEFINE_BODY 0 0 2 ++ leaf K.WS 1 0 1 ++ leaf K.IDENT_KW 1 1 2) ∷
    bodies " ## a" (answer 0 6 ++ node K.PP_DEFINE_BODY 0 0 5 ++ node K.PP_CONCAT 1 0 5 ++ leaf K.WS 2 0 1 ++ leaf K.PP_CONCAT_OP 2 1 3
    ++ leaf K.WS 2 3 4 ++ leaf K.IDENT_KW 2 4 5) ∷
    bodies "a\nb" (answer 0 2 ++ node K.PP_DEFINE_BODY 0 0 1 ++ leaf K.IDENT_KW 1 0 1) ∷
    bodies "a##b /**/\n" (answer 0 5 ++ node K.PP_DEFINE_BODY 0 0 4 ++ node K.PP_CONCAT 1 0 4 ++ leaf K.IDENT_KW 2 0 1
    ++ leaf K.PP_CONCAT_OP 2 1 3 ++ leaf K.IDENT_KW 2 3 4) ∷
    bodies "a b##c" (answer 0 7 ++ node K.PP_DEFINE_BODY 0 0 6 ++ leaf K.IDENT_KW 1 0 1 ++ leaf K.WS 1 1 2 ++ node K.PP_CONCAT 1 2 6
    ++ leaf K.IDENT_KW 2 2 3 ++ leaf K.PP_CONCAT_OP 2 3 5 ++ leaf K.IDENT_KW 2 5 6) ∷
    bodies "##" (answer 0 3 ++ node K.PP_DEFINE_BODY 0 0 2 ++ node K.PP_CONCAT 1 0 2 ++ leaf K.PP_CONCAT_OP 2 0 2) ∷
    bodies "#include <a>" (answer 0 7 ++ node K.PP_DEFINE_BODY 0 0 12 ++ leaf K.HASH 1 0 1 ++ leaf K.IDENT_KW 1 1 8 ++ leaf K.WS 1 8 9
    ++ leaf K.LANGLE 1 9 10 ++ leaf K.IDENT_KW 1 10 11 ++ leaf K.RANGLE 1 11 12) ∷ []

-- Cut inside a character, and broken: where no character stands whole, the rest of the source is not the beginning of one.
abbrev cut_or_broken : List Asked
cut_or_broken =
    bodies_of (0xE9 ∷ []) (answer 10 0) ∷
    bodies_of (ascii "a" ++ (0xE2 ∷ 0x82 ∷ [])) (answer 10 0) ∷
    bodies_of (0xC3 ∷ 0xC3 ∷ []) (answer 2 0) ∷
    bodies_of (0xFF ∷ 0xC3 ∷ []) (answer 2 0) ∷
    lists_of (0xE9 ∷ []) (answer 10 0) ∷
    lists_of (ascii "a" ++ (0xE2 ∷ 0x82 ∷ [])) (answer 10 0) ∷
    lists_of (0xC3 ∷ 0xC3 ∷ []) (answer 2 0) ∷
    lists_of (0xFF ∷ 0xC3 ∷ []) (answer 2 0) ∷
    breaks_of (0xE9 ∷ []) (answer 10 0) ∷
    breaks_of (ascii "a" ++ (0xE2 ∷ 0x82 ∷ [])) (answer 10 0) ∷
    breaks_of (0xC3 ∷ 0xC3 ∷ []) (answer 2 0) ∷
    breaks_of (0xFF ∷ 0xC3 ∷ []) (answer 2 0) ∷
    unescapes_of (0xE9 ∷ []) (answer 10 0) ∷
    unescapes_of (ascii "a" ++ (0xE2 ∷ 0x82 ∷ [])) (answer 10 0) ∷
    unescapes_of (0xC3 ∷ 0xC3 ∷ []) (answer 2 0) ∷
    unescapes_of (0xFF ∷ 0xC3 ∷ []) (answer 2 0) ∷ []

-- Line tables and unescaped texts.
abbrev lines_and_texts : List Asked
lines_and_texts =
    breaks "" (answer 0 1 ++ line 0) ∷
    breaks "\n\r\r\n\n" (answer 0 4 ++ line 0 ++ line 2 ++ line 4 ++ line 5) ∷
    breaks "a\r" (answer 0 2 ++ line 0 ++ line 2) ∷
    breaks "/*\n*/\\\n" (answer 0 3 ++ line 0 ++ line 3 ++ line 7) ∷
    unescapes "a\\\r\n\n\\b" (answer 0 4 ++ ascii "a\n\\b") ∷
    unescapes "\\\\\na" (answer 0 2 ++ ascii "\\a") ∷
    unescapes "\\" (answer 0 1 ++ ascii "\\") ∷ []

abbrev zeros : ℕ → List ℕ
zeros n = replicate n 0

-- So many ##.
abbrev concats : ℕ → List ℕ
concats n = replicate (n + n) 35

-- Tables too long and one number short, by 01; of two conditions at once the earlier is given.
abbrev tables : List Asked
tables =
    asks (shown (listing_tokens (ascii "a") 5)) (answer 0 1 ++ token K.IDENT_KW 0 1 ++ zeros 2) ∷
    asks (shown (listing_tokens (ascii "a") 2)) (answer 4 0 ++ zeros 2) ∷
    asks (shown (listing_tokens (0x80 ∷ []) 2)) (answer 2 0 ++ zeros 2) ∷
    asks (shown (building_lines (ascii "\n") 4)) (answer 0 2 ++ line 0 ++ line 1 ++ zeros 2) ∷
    asks (shown (building_lines (ascii "\n") 1)) (answer 6 0 ++ zeros 1) ∷
    asks (shown (building_lines (0x80 ∷ []) 0)) (answer 2 0) ∷
    asks (shown (unescaping (ascii "ab") 4)) (answer 0 2 ++ ascii "ab" ++ zeros 2) ∷
    asks (shown (unescaping (ascii "ab") 1)) (answer 8 0 ++ zeros 1) ∷
    asks (shown (unescaping (0x80 ∷ []) 0)) (answer 2 0) ∷
    asks (shown (unescaping (0xC2 ∷ []) 0)) (answer 10 0) ∷
    asks (shown (reading_body (ascii "") 7)) (answer 0 1 ++ node K.PP_DEFINE_BODY 0 0 0 ++ zeros 2) ∷
    asks (shown (reading_body (ascii "") 4)) (answer 4 0 ++ zeros 4) ∷
    asks (shown (reading_body (concats 257) 4)) (answer 3 0 ++ zeros 4) ∷
    asks (read (reading (ascii "#a") 27 11 3)) (counts 0 5 1 1 ++ node K.ROOT 0 0 2 ++ node K.ERROR 1 0 2 ++ leaf K.HASH 2 0 1
    ++ node K.ERROR 2 1 2 ++ leaf K.IDENT_KW 3 1 2 ++ zeros 2 ++ error 1 1 2 0 1 0 0 0 1 2 ++ zeros 1 ++ line 0 ++ zeros 2) ∷
    asks (read (reading (ascii "#a") 25 10 0)) (counts 6 0 0 0 ++ zeros 35) ∷
    asks (read (reading (ascii "#a") 25 9 0)) (counts 5 0 0 0 ++ zeros 34) ∷
    asks (read (reading (ascii "#a") 24 9 2)) (counts 4 0 0 0 ++ zeros 35) ∷
    asks (read (reading (ascii "#if\n#if" ++ concats 257) 4 0 0)) (counts 3 0 0 0 ++ zeros 4) ∷ []

-- A source that ends inside a character is refused for that, whatever its bodies and the tables are.
abbrev cut_tables : List Asked
cut_tables =
    asks (shown (listing_tokens (ascii "a" ++ (0xC2 ∷ [])) 2)) (answer 10 0 ++ zeros 2) ∷
    asks (shown (building_lines (ascii "\n" ++ (0xE2 ∷ 0x82 ∷ [])) 1)) (answer 10 0 ++ zeros 1) ∷
    asks (shown (unescaping (ascii "ab" ++ (0xF0 ∷ 0x9F ∷ 0x98 ∷ [])) 1)) (answer 10 0 ++ zeros 1) ∷
    asks (shown (reading_body (concats 257 ++ (0xC3 ∷ [])) 4)) (answer 10 0 ++ zeros 4) ∷
    asks (read (reading (ascii "#a" ++ (0xE2 ∷ [])) 24 9 0)) (counts 10 0 0 0 ++ zeros 33) ∷
    asks (read (reading (ascii "#if" ++ concats 257 ++ (10 ∷ 0xC3 ∷ [])) 4 0 0)) (counts 10 0 0 0 ++ zeros 4) ∷ []

-- How many ## each body holds, of the seven words with one; extra tokens, text, groups and arguments are none.
abbrev counts_of_concats : List Asked
counts_of_concats =
    asks (full_reading (ascii "#include ##\n#define a ##b##\n#line ##a##/**/##\n#error ##\n#pragma #### ##a##\n#if ##\n#elif a####\n")).concats
    (1 ∷ 2 ∷ 3 ∷ 1 ∷ 4 ∷ 1 ∷ 2 ∷ []) ∷
    asks (full_reading (ascii "#else ##\n## a\n#(##)#define f(##)##\n#version ##\n#a ##\n")).concats (1 ∷ []) ∷ []

-- Lookups: refusal, line, column. A line begins at its start; past the end the last line counts; a table starts at 0 and rises strictly.
abbrev lookups : List Asked
lookups =
    asks (looked (looking_up (0 ∷ []) 9)) (0 ∷ 0 ∷ 9 ∷ []) ∷
    asks (looked (looking_up (0 ∷ 2 ∷ 3 ∷ []) 1)) (0 ∷ 0 ∷ 1 ∷ []) ∷
    asks (looked (looking_up (0 ∷ 2 ∷ 3 ∷ []) 2)) (0 ∷ 1 ∷ 0 ∷ []) ∷
    asks (looked (looking_up (0 ∷ 2 ∷ 3 ∷ []) 9)) (0 ∷ 2 ∷ 6 ∷ []) ∷
    asks (looked (looking_up [] 9)) (7 ∷ 0 ∷ 0 ∷ []) ∷
    asks (looked (looking_up (1 ∷ 2 ∷ []) 9)) (7 ∷ 0 ∷ 0 ∷ []) ∷
    asks (looked (looking_up (0 ∷ 2 ∷ 2 ∷ []) 9)) (7 ∷ 0 ∷ 0 ∷ []) ∷
    asks (looked (looking_up (0 ∷ 2 ∷ 1 ∷ 3 ∷ []) 9)) (7 ∷ 0 ∷ 0 ∷ []) ∷ []

-- Pastes: refusal, kind. A kind is not 0, 35 or above 86.
abbrev pastes : List Asked
pastes =
    asks (pasted_as (pasting 1 86)) (0 ∷ 36 ∷ []) ∷ asks (pasted_as (pasting 86 1)) (0 ∷ 36 ∷ []) ∷
    asks (pasted_as (pasting 1 0)) (9 ∷ 0 ∷ []) ∷ asks (pasted_as (pasting 0 1)) (9 ∷ 0 ∷ []) ∷
    asks (pasted_as (pasting 1 35)) (9 ∷ 0 ∷ []) ∷ asks (pasted_as (pasting 35 1)) (9 ∷ 0 ∷ []) ∷
    asks (pasted_as (pasting 1 87)) (9 ∷ 0 ∷ []) ∷ asks (pasted_as (pasting 87 1)) (9 ∷ 0 ∷ []) ∷ []

unfoldable pub asked : List Asked
asked = numbers ++ names ++ comments ++ strings ++ blanks ++ others ++ operators ++ define_bodies ++ cut_or_broken ++ lines_and_texts ++ tables ++ cut_tables ++ counts_of_concats ++ lookups ++ pastes

-- Whether each call leaves these numbers.
unfoldable pub all_answered : List Asked → Bool
all_answered [] = true
all_answered (a ∷ as') = same a.got a.numbers && all_answered as'

pub asked_answered : all_answered asked ≡ true
unfolding all_answered asked ascii same char_forms follow left utf8 ends_inside joined runs grouped char_more chars newline_ends line_starts last_line get_line_and_col unescaped_chars unescaped kind_of find begin flag more pre_begin pre_more pres glued flat pre_kind tokens placed bytes ◌▹◌ leaves row size entries entry_numbers concat_ops body_concats error_numbers while after peek ◌then◌ wrap skip skip_trivia nothing bump maybe expect_one nest wrapped pasted pp_tokens_from pp_tokens all_trivia trimmed trailing body pp_body args define_args pp_define pp_if_ident pp_version colon pp_extension last_stop extra finish directive_named directive unknown depth pp_rs_ident pp_include directives control_line hash_item item file relexed parse refusal too_many padded filled full_reading outcome reading rises line_table token_numbers pasted_kind parse_define_body reading_body listing_tokens building_lines unescaping looking_up pasting
asked_answered = refl
