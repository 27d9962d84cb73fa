use Rattle.names.proofs.Placing.{no_place, the_place}
use Rattle.names.proofs.place.Goals as goal

pub returns-then-rest-lt-WIDTH : goal.returns-then-rest-lt-WIDTH
returns-then-rest-lt-WIDTH c = no_place _ _ _ _ c.from_first-rest.ensures c.if-rest-lt-WIDTH.true

pub returns : goal.returns
returns c = the_place _ _ _ _ c.from_first-rest.ensures c.if-rest-lt-WIDTH.false
