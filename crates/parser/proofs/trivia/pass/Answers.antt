use Rattle.parser.proofs.Passing.{passing_start, passing_more}
use Rattle.parser.proofs.trivia.pass.Goals as goal

pub trivia-init : goal.trivia-init
trivia-init c = passing_start _ _ _ c.requires.0 c.requires.1 c.see-next.ensures

pub trivia-preserved : goal.trivia-preserved
trivia-preserved c = passing_more _ _ _ c.trivia.invariant _ c.is_trivia.ensures c.trivia-test.true _ c.see-next-in-trivia.ensures
