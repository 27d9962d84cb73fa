-- A kind by its number.
use Rattle.std.specs.Prelude.{ℕ, ◌≡◌, true, false, Result, Ok, Err}
use Rattle.definition.specs.Calls.{no_kind}
use Rattle.text.specs.declared.refusal.Refusal.{Refusal}
use Rattle.text.specs.declared.refusal.Refusal.TheVariants as refusal
use Rattle.syntax_kind.specs.Number.{number}
use Rattle.syntax_kind.specs.declared.kind.SyntaxKind.{SyntaxKind}

-- The kind has the number, or the number is none that is pasted (01, refusal 9).
abbrev pub Decodes : ℕ → Result SyntaxKind Refusal → Type 0
Decodes n (Ok k) = (number k ≡ n) × ((no_kind n).fails ≡ false)
Decodes n (Err r) = (r ≡ refusal.Kind) × ((no_kind n).fails ≡ true)
