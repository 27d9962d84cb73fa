-- `unexpected` is sort 4.
use Rattle.text.proofs.Cases.{cases}
use Rattle.parser_run.proofs.fault.unexpected.Statement.{statement}
use Rattle.parser_run.proofs.fault.unexpected.Tie as tie

pub unexpected_spec : {M : Type 1} → statement M
unexpected_spec = tie.close (tie.spec (λ c κs. search cases) (λ c κs. search cases) (λ c κs. search cases) (λ c. rw (c.wide.ensures, c.wide-2.ensures, c.wide-3.ensures)))
