-- `finished` counts a reading, and leaves zeros behind its last numbers.
use Rattle.std.proofs.Common.{rules}
use mathlib.Core.Path.{◌∙◌}
use Rattle.tables.proofs.Ending.{errors_located}
use Rattle.tables.proofs.finished.Goals as goal

pub returns : goal.returns
returns c = record {
  answer = search rules;
  entry_table = c.clear_behind.ensures;
  error_table = c.clear_behind-2.ensures ∙ errors_located _ c.args.errors.now _ _ c.requires.errors c.resolve.ensures;
  line_table = c.clear_behind-3.ensures;
}
