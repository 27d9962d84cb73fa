-- The two glue, or do not paste.
use Rattle.std.proofs.Common.{rules}
use Rattle.syntax_kind.proofs.Pasting.{glued_or_error}
use Rattle.syntax_kind.proofs.paste.pasted_kind.Goals as goal

pub returns-in_default : goal.returns-in_default
returns-in_default c = search (glued_or_error, rules)
