-- Glued tokens: the third stage of the lexer (01, "Gluing and lexing"; GLSL 3.7), and pasting two kinds.
use Rattle.std.specs.Prelude.{◌+◌, ◌&&◌, ◌∷◌, ◌++◌, if◌then◌else◌}
use Rattle.definition.specs.Text.{ℕ, Bool, List, [], map, Option, none, some, eqb, length, ascii, same, Kind}
use Rattle.definition.specs.Runs.{Run, text, joined, grouped}
use Rattle.definition.specs.Newline.{chars}
use Rattle.definition.specs.Unescaped.{unescaped_chars}
use Rattle.definition.specs.Pre.{Pre, pres, kind_of}

-- Two kinds, and the kind of the two together.
pub record Glue : Type 0 where
  pub lhs : ℕ
  pub rhs : ℕ
  pub both : ℕ

abbrev pub gl : ℕ → ℕ → ℕ → Glue
gl a b c = record { lhs = a; rhs = b; both = c }

-- The gluing steps; <<= and >>= are two steps each.
abbrev pub glues : List Glue
glues =
    gl Kind.LANGLE Kind.LANGLE Kind.LEFT_OP ∷ gl Kind.RANGLE Kind.RANGLE Kind.RIGHT_OP ∷
    gl Kind.PLUS Kind.PLUS Kind.INC_OP ∷ gl Kind.DASH Kind.DASH Kind.DEC_OP ∷
    gl Kind.LANGLE Kind.EQUAL Kind.LE_OP ∷ gl Kind.RANGLE Kind.EQUAL Kind.GE_OP ∷
    gl Kind.EQUAL Kind.EQUAL Kind.EQ_OP ∷ gl Kind.BANG Kind.EQUAL Kind.NE_OP ∷
    gl Kind.AMPERSAND Kind.AMPERSAND Kind.AND_OP ∷ gl Kind.BAR Kind.BAR Kind.OR_OP ∷
    gl Kind.CARET Kind.CARET Kind.XOR_OP ∷ gl Kind.ASTERISK Kind.EQUAL Kind.MUL_ASSIGN ∷
    gl Kind.SLASH Kind.EQUAL Kind.DIV_ASSIGN ∷ gl Kind.PLUS Kind.EQUAL Kind.ADD_ASSIGN ∷
    gl Kind.PERCENT Kind.EQUAL Kind.MOD_ASSIGN ∷ gl Kind.LEFT_OP Kind.EQUAL Kind.LEFT_ASSIGN ∷
    gl Kind.RIGHT_OP Kind.EQUAL Kind.RIGHT_ASSIGN ∷ gl Kind.AMPERSAND Kind.EQUAL Kind.AND_ASSIGN ∷
    gl Kind.CARET Kind.EQUAL Kind.XOR_ASSIGN ∷ gl Kind.BAR Kind.EQUAL Kind.OR_ASSIGN ∷
    gl Kind.DASH Kind.EQUAL Kind.SUB_ASSIGN ∷ gl Kind.HASH Kind.HASH Kind.PP_CONCAT_OP ∷
    gl Kind.PERIOD Kind.DIGITS Kind.DIGITS ∷ []

unfoldable pub glued : List Glue → ℕ → ℕ → Option ℕ  -- The first step for two kinds; none: they don't glue.
glued [] a b = none
glued (g ∷ gs) a b = if eqb g.lhs a && eqb g.rhs b then some g.both else glued gs a b

-- A token: its kind and its bytes, never none.
abbrev pub Token : Type 0
Token = Run ℕ ℕ

-- A run of tokens as one token.
unfoldable pub flat : {S : Type 0} → (Run Token S → ℕ) → Run Token S → Token
flat k r = record { kind = k r; head = r.head.head; tail = r.head.tail ++ joined r.tail }

abbrev pub defined : List ℕ  -- The word of DEFINED.
defined = ascii "defined"

-- An identifier that is `defined`, unescaped, is DEFINED.
unfoldable pub pre_kind : Run (Run ℕ ℕ) Pre → ℕ
pre_kind r =
    if eqb (kind_of r.kind.at) Kind.IDENT_KW && same (unescaped_chars (text r)) defined then Kind.DEFINED else kind_of r.kind.at

-- The tokens of a source; the flag says whether an angle string is expected.
unfoldable pub tokens : Bool → List ℕ → List Token
tokens f bs =
    map
    (flat (λ r. r.kind))
    (grouped (λ q t. t.kind) (λ q t. glued glues q t.kind) 0 (map (flat pre_kind) (pres f (chars bs))))

-- The numbers of a token listing: kind, start, end of each.
unfoldable pub token_numbers : ℕ → List Token → List ℕ
token_numbers at [] = []
token_numbers at (t ∷ ts) =
    t.kind ∷ at ∷ (at + length (text t)) ∷ token_numbers (at + length (text t)) ts

-- Pasting goes by the gluing steps, and an identifier or a number may be made longer.
abbrev pub pastes : List Glue
pastes =
    gl Kind.IDENT_KW Kind.DEFINED Kind.IDENT_KW ∷ gl Kind.IDENT_KW Kind.IDENT_KW Kind.IDENT_KW ∷
    gl Kind.IDENT_KW Kind.DIGITS Kind.IDENT_KW ∷ gl Kind.DIGITS Kind.IDENT_KW Kind.DIGITS ∷
    gl Kind.DIGITS Kind.DIGITS Kind.DIGITS ∷ gl Kind.DIGITS Kind.PERIOD Kind.DIGITS ∷
    gl Kind.DIGITS Kind.DASH Kind.DIGITS ∷ gl Kind.DIGITS Kind.PLUS Kind.DIGITS ∷ glues

-- The kind of two kinds pasted; ERROR if they don't paste.
unfoldable pub pasted_kind : ℕ → ℕ → ℕ
pasted_kind lhs rhs = elim (glued pastes lhs rhs) [ some k ↦ k | none ↦ Kind.ERROR ]
