use Rattle.parser_run.proofs.Laws.{took, bump_rowed}
use Rattle.parser_run.proofs.state.bump.Goals as goal

pub returns : goal.returns
returns c = took bump_rowed c.args.src.now _ _ c.args.state _ c.bump-run.result c.bump-run.ensures c.with_run.ensures
