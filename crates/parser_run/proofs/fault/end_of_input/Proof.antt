-- `end_of_input` is sort 5.
use Rattle.text.proofs.Cases.{cases}
use Rattle.parser_run.proofs.fault.end_of_input.Statement.{statement}
use Rattle.parser_run.proofs.fault.end_of_input.Tie as tie

pub end_of_input_spec : {M : Type 1} → statement M
end_of_input_spec = tie.close (tie.spec (λ c κs. search cases) (λ c κs. search cases) (λ c. rw (c.wide.ensures, c.wide-2.ensures)))
