-- A name of the code, as the definition has it.
use Rattle.std.specs.Prelude.{Option, Some, None}
use Rattle.definition.specs.Text as text
use Rattle.definition.specs.Condition.Meaning as meaning
use Rattle.names.specs.declared.Name.{Name}

abbrev pub named : Name → meaning.Name
named n = record { start = n.start; end = n.end; mark = n.mark; bits = n.bits }

abbrev pub found : Option Name → text.Option meaning.Name
found None = text.none
found (Some n) = text.some (named n)
