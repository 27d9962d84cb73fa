-- A byte that is kept is compared, and a continuation passed.
use Rattle.text.proofs.Cases.{cases}
use Rattle.unescaped.proofs.Continuations.{further}
use Rattle.unescaped.proofs.Comparing.{done, passed, over, matches, differs}
use Rattle.unescaped.proofs.eq_bytes.Goals.{then-word-k-via-then-word-k, then-word-k-via-else-word-k+then-text-i}
use Rattle.unescaped.proofs.eq_bytes.Goals as goal

pub returns-then-word-k : goal.returns-then-word-k
returns-then-word-k c =
    elim c.then-word-k.branch [
      | then-word-k-via-then-word-k w ↦ search (over, cases)
      | then-word-k-via-else-word-k+then-text-i w ↦ search (differs, cases)
    ]

pub loop-i-preserved-in-0 : goal.loop-i-preserved-in-0
loop-i-preserved-in-0 c = search (matches, cases)

pub overflow_add-i-in_default : goal.overflow_add-i-in_default
overflow_add-i-in_default c = search (further, cases)

pub loop-i-preserved : goal.loop-i-preserved
loop-i-preserved c = search (passed, cases)

pub returns : goal.returns
returns c = search (done, cases)
