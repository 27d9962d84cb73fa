-- `missing` goes by whether there is a leaf.
use Rattle.text.proofs.Cases.{cases}
use Rattle.parser_run.proofs.fault.missing.Statement.{statement}
use Rattle.parser_run.proofs.fault.missing.Tie as tie

pub missing_spec : {M : Type 1} → statement M
missing_spec = tie.close (tie.spec (λ c. search cases) (λ c κs. search cases) (λ c. search cases) (λ c κs. search cases) (λ c. search cases))
