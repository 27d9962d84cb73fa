-- What is read from a place of the source.
use Rattle.std.specs.Prelude.{ℕ, ◌+◌, ◌-◌, Bool, not, ◌&&◌, ◌||◌, List, eqb, ltb, length, drop, take, get_or, if◌then◌else◌, Option, Some, None}
use Rattle.definition.specs.Text.{byte}
use Rattle.definition.specs.Newline.{chars}
use Rattle.definition.specs.Pre.{State, begin, flag}
use Rattle.theorems.specs.Walk.{walk, name_kind}
use Rattle.text.specs.Newline.{newline_len}
use Rattle.syntax_kind.specs.Number.{number}
use Rattle.pre.specs.declared.token.Token as code
use Rattle.pre.specs.declared.PreLexer.{PreLexer}
use Rattle.pre.specs.declared.PreStep.{PreStep}

-- A token that is read: the number of its kind, and where it ends.
pub record Token : Type 0 where
  pub kind : ℕ
  pub end : ℕ

abbrev pub token : ℕ → ℕ → Token
token k e = record { kind = k; end = e }

-- What the code reads.
abbrev pub told : code.Token → Token
told t = token (number t.kind) t.end

-- The token in state q that goes on at i, where the byte before i belongs to the character c.
unfoldable pub from : State → ℕ → ℕ → List ℕ → Token
from q c i s = token (walk q c (drop i s)).kind (i + (walk q c (drop i s)).long)

-- The token where the pre-lexer stands, `defined` not yet told from other identifiers.
abbrev pub first : PreLexer → List ℕ → Token
first l s = from (begin l.angle (get_or s l.at 0)) (get_or s l.at 0) (l.at + 1) s

-- A step: the number of a token's kind, and the state behind it.
pub record Step : Type 0 where
  pub kind : ℕ
  pub next : PreLexer

-- The kind of the token where the pre-lexer stands, and the state behind it.
unfoldable pub pre_step : PreLexer → List ℕ → Step
pre_step l s = record {
  kind = name_kind (first l s).kind (take ((first l s).end - l.at) (drop l.at s));
  next = record { at = (first l s).end; angle = flag l.angle (get_or s l.at 0) };
}

unfoldable pub pre_next : PreLexer → List ℕ → Option Step
pre_next l s = if ltb l.at (length s) then Some (pre_step l s) else None

-- What the code steps.
abbrev pub stepped : Option PreStep → Option Step
stepped (Some t) = Some (record { kind = number t.kind; next = t.next })
stepped None = None

-- How many bytes to pass with the first character of a source: those of a newline, else its first byte.
unfoldable pub width_at : List ℕ → ℕ
width_at bs = let w : ℕ = newline_len (chars bs) in if eqb w 0 then 1 else w

-- Whether a dot, or a sign behind an e, goes on with a number.
abbrev pub takes_point : ℕ → Bool → Bool → Bool
takes_point b e d = (not d && eqb b (byte ".")) || (e && (eqb b (byte "+") || eqb b (byte "-")))
