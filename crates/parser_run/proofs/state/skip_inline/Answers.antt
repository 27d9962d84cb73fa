use Rattle.definition.specs.Parser.{inline}
use Rattle.parser_run.proofs.Laws.{took, skip_rowed}
use Rattle.parser_run.proofs.state.skip_inline.Goals as goal

pub returns : goal.returns
returns c = took (skip_rowed inline) c.args.src.now _ _ c.args.state _ c.skip_inline-run.result c.skip_inline-run.ensures c.with_run.ensures
