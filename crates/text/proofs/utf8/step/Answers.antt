-- `step` goes on as what its state wants says.
use Rattle.text.specs.Utf8.{wanted_after}
use Rattle.text.proofs.utf8.step.Goals as goal

pub returns-in-Start : goal.returns-in-Start
unfolding wanted_after
returns-in-Start c = rw c.in-Start.is c.first.ensures

pub returns-in-Tail1 : goal.returns-in-Tail1
unfolding wanted_after
returns-in-Tail1 c = rw c.in-Tail1.is c.later.ensures

pub returns-in-Tail2 : goal.returns-in-Tail2
unfolding wanted_after
returns-in-Tail2 c = rw c.in-Tail2.is c.later-in-Tail2.ensures

pub returns-in-Tail3 : goal.returns-in-Tail3
unfolding wanted_after
returns-in-Tail3 c = rw c.in-Tail3.is c.later-in-Tail3.ensures

pub returns-in-AfterE0 : goal.returns-in-AfterE0
unfolding wanted_after
returns-in-AfterE0 c = rw c.in-AfterE0.is c.later-in-AfterE0.ensures

pub returns-in-AfterED : goal.returns-in-AfterED
unfolding wanted_after
returns-in-AfterED c = rw c.in-AfterED.is c.later-in-AfterED.ensures

pub returns-in-AfterF0 : goal.returns-in-AfterF0
unfolding wanted_after
returns-in-AfterF0 c = rw c.in-AfterF0.is c.later-in-AfterF0.ensures

pub returns-in-AfterF4 : goal.returns-in-AfterF4
unfolding wanted_after
returns-in-AfterF4 c = rw c.in-AfterF4.is c.later-in-AfterF4.ensures
