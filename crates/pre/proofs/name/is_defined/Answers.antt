-- `is_defined` compares with `defined` where the text may be it.
use mathlib.Core.Path.{refl, ◌∙◌}
use Rattle.std.proofs.Common.{rules}
use Rattle.definition.specs.Text.{ascii}
use Rattle.definition.specs.Glue.{defined}
use Rattle.unescaped.proofs.Comparing.{never}
use Rattle.pre.proofs.name.is_defined.Goals as goal

pub returns-then-may_be : goal.returns-then-may_be
unfolding ascii
returns-then-may_be c = search rules

pub returns-else-may_be : goal.returns-else-may_be
unfolding ascii
returns-else-may_be c = c.if-may_be.false ∙ never _ defined _ _ refl c.may_be.ensures c.if-may_be.false
