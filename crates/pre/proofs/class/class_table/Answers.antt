-- `class_table` holds the entry of every byte.
use Rattle.definition.specs.Text.{ascii}
use Rattle.definition.specs.Newline.{class}
use Rattle.definition.specs.Pre.{find}
use mathlib.Core.Path.{refl}
use Rattle.pre.specs.Table.{punct, class_number, class_number_of, class_table}
use Rattle.pre.proofs.class.class_table.Goals as goal

pub returns : goal.returns
unfolding class_table class_number class_number_of class punct find ascii
returns c = refl
