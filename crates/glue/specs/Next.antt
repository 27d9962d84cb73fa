-- What a step of the lexer promises.
use Rattle.std.specs.Prelude.{ℕ, ◌≤◌, ◌≡◌, Bool, ◌&&◌, ◌||◌, List, eqb, ltb, length, if◌then◌else◌, Option, Some, None}
use Rattle.definition.specs.Text.{byte}
use Rattle.definition.specs.SyntaxKind.{Kind}
use Rattle.theorems.specs.Step.{Gluing, Stepped, glued_kind}
use Rattle.syntax_kind.specs.Number.{number}
use Rattle.pre.specs.Table.{class_number}
use Rattle.glue.specs.declared.Lexer.{Lexer}
use Rattle.glue.specs.declared.Step.{Step}

-- What the step from l promises: the first token of what l stands for, with what stands for the others, or the end of the source.
unfoldable pub Nexts : List ℕ → Lexer → Option Step → Type 0
Nexts s l (Some t) = Stepped s l.input.at l.input.angle (number t.kind) t.next.input.at t.next.input.angle
Nexts s l None = length s ≤ l.input.at

-- Whether nothing glues to a token of this kind.
unfoldable pub settled : ℕ → Bool
settled k = ltb k Kind.PERIOD || (ltb Kind.HASH k && ltb k Kind.LEFT_OP)

-- The kind of an operator together with a token that begins with b, 0 where they do not glue.
unfoldable pub peeked : ℕ → ℕ → Bool → ℕ
peeked k b angle = if angle && eqb b (byte "<") then 0 else glued_kind k (class_number b)

-- An operator that may glue on: it is no PERIOD.
pub record Operator (s : List ℕ) (start : ℕ) (f : Bool) (k e : ℕ) (g : Bool) : Type 0 where
  pub gluing : Gluing s start f k e g
  pub other : k ≡ Kind.PERIOD → ⊥
