use Rattle.parser_run.proofs.Laws.{took, trivia_rowed}
use Rattle.parser_run.proofs.state.skip_trivia.Goals as goal

pub returns : goal.returns
returns c = took trivia_rowed c.args.src.now _ _ c.args.state _ c.skip_trivia-run.result c.skip_trivia-run.ensures c.with_run.ensures
