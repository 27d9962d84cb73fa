-- Kinds by their numbers.
use Rattle.std.specs.Prelude.{ℕ, Option, Some, None, List, [], ◌∷◌, pred, get_or}
use Rattle.definition.specs.SyntaxKind.{Kind}
use Rattle.syntax_kind.specs.declared.kind.SyntaxKind.{SyntaxKind}
use Rattle.syntax_kind.specs.declared.kind.SyntaxKind.TheVariants as kind

-- The number of a kind (01, "Directives").
abbrev pub number : SyntaxKind → ℕ
number kind.IDENT_KW = Kind.IDENT_KW
number kind.DEFINED = Kind.DEFINED
number kind.DIGITS = Kind.DIGITS
number kind.PERIOD = Kind.PERIOD
number kind.PLUS = Kind.PLUS
number kind.DASH = Kind.DASH
number kind.SLASH = Kind.SLASH
number kind.ASTERISK = Kind.ASTERISK
number kind.PERCENT = Kind.PERCENT
number kind.LANGLE = Kind.LANGLE
number kind.RANGLE = Kind.RANGLE
number kind.LBRACKET = Kind.LBRACKET
number kind.RBRACKET = Kind.RBRACKET
number kind.LPAREN = Kind.LPAREN
number kind.RPAREN = Kind.RPAREN
number kind.LBRACE = Kind.LBRACE
number kind.RBRACE = Kind.RBRACE
number kind.CARET = Kind.CARET
number kind.BAR = Kind.BAR
number kind.AMPERSAND = Kind.AMPERSAND
number kind.TILDE = Kind.TILDE
number kind.EQUAL = Kind.EQUAL
number kind.BANG = Kind.BANG
number kind.COLON = Kind.COLON
number kind.SEMICOLON = Kind.SEMICOLON
number kind.COMMA = Kind.COMMA
number kind.QUESTION = Kind.QUESTION
number kind.HASH = Kind.HASH
number kind.QUOTE_STRING = Kind.QUOTE_STRING
number kind.ANGLE_STRING = Kind.ANGLE_STRING
number kind.BACKSLASH = Kind.BACKSLASH
number kind.WS = Kind.WS
number kind.NEWLINE = Kind.NEWLINE
number kind.COMMENT = Kind.COMMENT
number kind.LINECONT = Kind.LINECONT
number kind.ERROR = Kind.ERROR
number kind.LEFT_OP = Kind.LEFT_OP
number kind.RIGHT_OP = Kind.RIGHT_OP
number kind.INC_OP = Kind.INC_OP
number kind.DEC_OP = Kind.DEC_OP
number kind.LE_OP = Kind.LE_OP
number kind.GE_OP = Kind.GE_OP
number kind.EQ_OP = Kind.EQ_OP
number kind.NE_OP = Kind.NE_OP
number kind.AND_OP = Kind.AND_OP
number kind.OR_OP = Kind.OR_OP
number kind.XOR_OP = Kind.XOR_OP
number kind.MUL_ASSIGN = Kind.MUL_ASSIGN
number kind.DIV_ASSIGN = Kind.DIV_ASSIGN
number kind.ADD_ASSIGN = Kind.ADD_ASSIGN
number kind.MOD_ASSIGN = Kind.MOD_ASSIGN
number kind.LEFT_ASSIGN = Kind.LEFT_ASSIGN
number kind.RIGHT_ASSIGN = Kind.RIGHT_ASSIGN
number kind.AND_ASSIGN = Kind.AND_ASSIGN
number kind.XOR_ASSIGN = Kind.XOR_ASSIGN
number kind.OR_ASSIGN = Kind.OR_ASSIGN
number kind.SUB_ASSIGN = Kind.SUB_ASSIGN
number kind.PP_CONCAT_OP = Kind.PP_CONCAT_OP
number kind.PP_CONCAT = Kind.PP_CONCAT
number kind.PP_EMPTY = Kind.PP_EMPTY
number kind.PP_INCLUDE = Kind.PP_INCLUDE
number kind.PP_INCLUDE_PATH = Kind.PP_INCLUDE_PATH
number kind.PP_DEFINE = Kind.PP_DEFINE
number kind.PP_DEFINE_ARGS = Kind.PP_DEFINE_ARGS
number kind.PP_DEFINE_ARG = Kind.PP_DEFINE_ARG
number kind.PP_DEFINE_BODY = Kind.PP_DEFINE_BODY
number kind.PP_UNDEF = Kind.PP_UNDEF
number kind.PP_IDENT = Kind.PP_IDENT
number kind.PP_IF = Kind.PP_IF
number kind.PP_IF_EXPR = Kind.PP_IF_EXPR
number kind.PP_IFDEF = Kind.PP_IFDEF
number kind.PP_IFNDEF = Kind.PP_IFNDEF
number kind.PP_ELSE = Kind.PP_ELSE
number kind.PP_ELIF = Kind.PP_ELIF
number kind.PP_ENDIF = Kind.PP_ENDIF
number kind.PP_ERROR = Kind.PP_ERROR
number kind.PP_ERROR_BODY = Kind.PP_ERROR_BODY
number kind.PP_PRAGMA = Kind.PP_PRAGMA
number kind.PP_PRAGMA_BODY = Kind.PP_PRAGMA_BODY
number kind.PP_EXTENSION = Kind.PP_EXTENSION
number kind.PP_VERSION = Kind.PP_VERSION
number kind.PP_VERSION_NUMBER = Kind.PP_VERSION_NUMBER
number kind.PP_VERSION_PROFILE = Kind.PP_VERSION_PROFILE
number kind.PP_LINE = Kind.PP_LINE
number kind.PP_LINE_BODY = Kind.PP_LINE_BODY
number kind.ROOT = Kind.ROOT

-- The number of a kind that may be none: 0 is no kind.
abbrev pub maybe : Option SyntaxKind → ℕ
maybe None = 0
maybe (Some k) = number k

-- The kinds in the order of their numbers, from 1.
abbrev pub numbered_kinds : List SyntaxKind
numbered_kinds =
    kind.IDENT_KW ∷ kind.DEFINED ∷ kind.DIGITS ∷ kind.PERIOD ∷ kind.PLUS ∷ kind.DASH ∷ kind.SLASH ∷ kind.ASTERISK ∷
    kind.PERCENT ∷ kind.LANGLE ∷ kind.RANGLE ∷ kind.LBRACKET ∷ kind.RBRACKET ∷ kind.LPAREN ∷ kind.RPAREN ∷ kind.LBRACE ∷
    kind.RBRACE ∷ kind.CARET ∷ kind.BAR ∷ kind.AMPERSAND ∷ kind.TILDE ∷ kind.EQUAL ∷ kind.BANG ∷ kind.COLON ∷
    kind.SEMICOLON ∷ kind.COMMA ∷ kind.QUESTION ∷ kind.HASH ∷ kind.QUOTE_STRING ∷ kind.ANGLE_STRING ∷ kind.BACKSLASH ∷ kind.WS ∷
    kind.NEWLINE ∷ kind.COMMENT ∷ kind.LINECONT ∷ kind.ERROR ∷ kind.LEFT_OP ∷ kind.RIGHT_OP ∷ kind.INC_OP ∷ kind.DEC_OP ∷
    kind.LE_OP ∷ kind.GE_OP ∷ kind.EQ_OP ∷ kind.NE_OP ∷ kind.AND_OP ∷ kind.OR_OP ∷ kind.XOR_OP ∷ kind.MUL_ASSIGN ∷
    kind.DIV_ASSIGN ∷ kind.ADD_ASSIGN ∷ kind.MOD_ASSIGN ∷ kind.LEFT_ASSIGN ∷ kind.RIGHT_ASSIGN ∷ kind.AND_ASSIGN ∷ kind.XOR_ASSIGN ∷ kind.OR_ASSIGN ∷
    kind.SUB_ASSIGN ∷ kind.PP_CONCAT_OP ∷ kind.PP_CONCAT ∷ kind.PP_EMPTY ∷ kind.PP_INCLUDE ∷ kind.PP_INCLUDE_PATH ∷ kind.PP_DEFINE ∷ kind.PP_DEFINE_ARGS ∷
    kind.PP_DEFINE_ARG ∷ kind.PP_DEFINE_BODY ∷ kind.PP_UNDEF ∷ kind.PP_IDENT ∷ kind.PP_IF ∷ kind.PP_IF_EXPR ∷ kind.PP_IFDEF ∷ kind.PP_IFNDEF ∷
    kind.PP_ELSE ∷ kind.PP_ELIF ∷ kind.PP_ENDIF ∷ kind.PP_ERROR ∷ kind.PP_ERROR_BODY ∷ kind.PP_PRAGMA ∷ kind.PP_PRAGMA_BODY ∷ kind.PP_EXTENSION ∷
    kind.PP_VERSION ∷ kind.PP_VERSION_NUMBER ∷ kind.PP_VERSION_PROFILE ∷ kind.PP_LINE ∷ kind.PP_LINE_BODY ∷ kind.ROOT ∷
    []

-- A kind by its number; ERROR above the last.
abbrev pub kind_of : ℕ → SyntaxKind
kind_of n = get_or numbered_kinds (pred n) kind.ERROR
