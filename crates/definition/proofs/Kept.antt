-- The grammar of 01: a row of leaves that keeps it, clause by clause, and rows that break it.
use Rattle.std.specs.Prelude.{◌∷◌}
use Prim.Native.String.{String}
use mathlib.Core.Path.{◌≡◌, refl, sym}
use mathlib.Core.Bool.{false≢true}
use Rattle.definition.specs.Text.{ℕ, zero, Bool, true, List, [], some, ascii, same}
use Rattle.definition.specs.SyntaxKind.{Kind as K}
use Rattle.definition.specs.Runs.{runs, grouped}
use Rattle.definition.specs.Newline.{char_more, chars}
use Rattle.definition.specs.Unescaped.{unescaped_chars, unescaped}
use Rattle.definition.specs.Tree.{Leaf}
use Rattle.definition.specs.Parser.{is, peek}
use Rattle.definition.specs.Grammar.{one, Many, no_more, one_more, ◌⨟◌, ◌⨾◌, empty, without, with_it, Eol, at_newline, at_end, t*, word_leaf, Closes, closed, inner, opened, passed, Params, ended, space, name, comma, Args, object, function, Rest, any, ident, none_at_all, version, extension, define, rest_of, words, rest_after, no_word, a_word, Sort, blank, text, group, directive, Item, Division, Keeps}

-- Leaves by their kind, and words.
abbrev bare : ℕ → Leaf
bare k = record { kind = k; start = 0; bytes = [] }

abbrev word : String → Leaf
word s = record { kind = K.IDENT_KW; start = 0; bytes = ascii s }

-- Trivia, NEWLINE, HASH, and an identifier that is no word.
abbrev T : Leaf
T = bare K.WS

abbrev N : Leaf
N = bare K.NEWLINE

abbrev H : Leaf
H = bare K.HASH

abbrev I : Leaf
I = bare K.IDENT_KW

-- One leaf of many; and an item in front of what keeps the grammar.
just : {p : Leaf → Bool} {t : Leaf} {R : List Leaf} → p t ≡ true → Many p (t ∷ R) R
just e = one_more e no_more

item_first : (s : Sort) {L R : List Leaf} → Item s L R → Keeps R → Keeps L
item_first s {R} i k = (record { sort = s; behind = R } ∷ k.0, (i, k.1))

-- A HASH with its word, which is followed by the rest of a kind.
worded : (r : Rest) {t h : Leaf} {L R S : List Leaf} → is K.HASH h ≡ true → word_leaf t ≡ true → rest_after words (unescaped t.bytes) ≡ some r
    → rest_of r L R → (t* ⨟ Eol) R S → Keeps S → Keeps (h ∷ t ∷ L)
worded r h w e x (s ⨾ n) k = item_first directive (no_more ⨾ one h ⨾ no_more ⨾ a_word w e x ⨾ s ⨾ n) k

-- A row that keeps it: blank, text, group, the six rests, no word, and the end in place of NEWLINE; and trivia at the end.
kept : Keeps (
    T ∷ N ∷
    T ∷ I ∷ H ∷ N ∷
    T ∷ H ∷ T ∷ bare K.LPAREN ∷ bare K.LPAREN ∷ N ∷ bare K.RPAREN ∷ bare K.RPAREN ∷
    H ∷ word "line" ∷ T ∷ I ∷ T ∷ N ∷
    H ∷ word "undef" ∷ T ∷ I ∷ T ∷ N ∷
    H ∷ word "else" ∷ T ∷ N ∷
    H ∷ word "version" ∷ T ∷ bare K.DIGITS ∷ N ∷
    H ∷ word "version" ∷ bare K.DIGITS ∷ T ∷ I ∷ N ∷
    H ∷ word "extension" ∷ T ∷ I ∷ T ∷ bare K.COLON ∷ T ∷ I ∷ N ∷
    H ∷ word "define" ∷ T ∷ I ∷ T ∷ bare K.LPAREN ∷ N ∷
    H ∷ word "define" ∷ I ∷ bare K.LPAREN ∷ T ∷ I ∷ bare K.COMMA ∷ I ∷ bare K.COMMA ∷ bare K.RPAREN ∷ I ∷ N ∷
    T ∷ H ∷ T ∷ N ∷
    H ∷ word "endif" ∷ [])
unfolding words rest_after same ascii unescaped unescaped_chars chars char_more grouped runs peek
kept =
    item_first blank (just refl ⨾ one refl)
    (item_first text (just refl ⨾ one refl ⨾ just refl ⨾ at_newline refl)
    (item_first group (just refl ⨾ one refl ⨾ just refl ⨾ one refl ⨾ opened refl (passed refl (inner refl (closed refl))))
    (worded any refl refl refl (one_more refl (just refl)) (just refl ⨾ at_newline refl)
    (worded ident refl refl refl (just refl ⨾ one refl) (just refl ⨾ at_newline refl)
    (worded none_at_all refl refl refl empty (just refl ⨾ at_newline refl)
    (worded version refl refl refl (just refl ⨾ one refl ⨾ without) (no_more ⨾ at_newline refl)
    (worded version refl refl refl (no_more ⨾ one refl ⨾ with_it (just refl ⨾ one refl)) (no_more ⨾ at_newline refl)
    (worded extension refl refl refl (just refl ⨾ one refl ⨾ just refl ⨾ one refl ⨾ just refl ⨾ one refl) (no_more ⨾ at_newline refl)
    (worded define refl refl refl (just refl ⨾ one refl ⨾ object refl ⨾ one_more refl (just refl)) (no_more ⨾ at_newline refl)
    (worded define refl refl refl (no_more ⨾ one refl ⨾ function refl (space refl (name refl (comma refl (name refl (comma refl (ended refl)))))) ⨾ just refl)
    (no_more ⨾ at_newline refl)
    (item_first directive (just refl ⨾ one refl ⨾ just refl ⨾ no_word ⨾ no_more ⨾ at_newline refl)
    (worded none_at_all refl refl refl empty (no_more ⨾ at_end) ([], no_more)))))))))))))

kept_trivia : Keeps (T ∷ [])
kept_trivia = ([], just refl)

-- What breaks it: something else than trivia behind the items,
no_tail : Division [] (I ∷ []) → ⊥
no_tail (one_more e x) = false≢true e

-- a line that goes on,
no_end : {R : List Leaf} → Eol (I ∷ []) R → ⊥
no_end (at_newline e) = false≢true e

-- a text line that begins with HASH,
no_text : {R : List Leaf} → Item text (H ∷ N ∷ []) R → ⊥
no_text (no_more ⨾ (one e ⨾ x)) = false≢true e
no_text (one_more e t ⨾ x) = false≢true e

-- a group with one RPAREN for two LPAREN,
no_group : {R : List Leaf} → Closes zero (bare K.LPAREN ∷ bare K.RPAREN ∷ []) R → ⊥
no_group (closed e) = false≢true e
no_group (opened e (opened f x)) = false≢true f
no_group (opened e (passed f x)) = false≢true (sym f)
no_group {R = R} (opened e (inner _ x)) = elim x [ ]
no_group (passed e x) = false≢true (sym e)

-- a NEWLINE in the rest of `line`,
no_line : rest_of any (N ∷ []) [] → ⊥
no_line (one_more e x) = false≢true e

-- anything in the rest of `else`,
no_rest : {L R : List Leaf} → rest_of none_at_all L R → L ≡ R
no_rest empty = refl

-- a macro without arguments where LPAREN follows,
no_object : Args (bare K.LPAREN ∷ []) (bare K.LPAREN ∷ []) → ⊥
unfolding peek
no_object (object e) = false≢true (sym e)
no_object (function _ x) = elim x [ ]

-- a comma where an identifier may come.
no_comma_first : {R : List Leaf} → Params true (bare K.COMMA ∷ bare K.RPAREN ∷ []) R → ⊥
no_comma_first (ended e) = false≢true e
no_comma_first (space e p) = false≢true e
no_comma_first (name e p) = false≢true e
