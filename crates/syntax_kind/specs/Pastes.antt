-- What pasting promises.
use Rattle.std.specs.Prelude.{ℕ, ◌≡◌, Result, Ok, Err}
use Rattle.definition.specs.Calls as calls
use Rattle.text.specs.Refusal.{code}
use Rattle.text.specs.declared.refusal.Refusal.{Refusal}
use Rattle.syntax_kind.specs.Number.{number}
use Rattle.syntax_kind.specs.declared.kind.SyntaxKind.{SyntaxKind}
use Rattle.syntax_kind.specs.declared.paste.Pasted.{Pasted}

-- The answer is that of an outcome.
pub record Pastes (o : calls.Pasted) (r : Pasted) : Type 0 where
  pub refusal_is : r.refusal ≡ o.refused
  pub kind_is : r.kind ≡ o.kind

-- The number of a kind, 0 where it is refused.
abbrev pub pasted_number : Result SyntaxKind Refusal → ℕ
pasted_number (Ok k) = number k
pasted_number (Err r) = 0

-- The answer of a result.
abbrev pub answer : Result SyntaxKind Refusal → Pasted
answer r = record { refusal = code r; kind = pasted_number r }
