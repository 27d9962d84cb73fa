-- Bytes that are kept are compared.
use Rattle.text.proofs.Cases.{cases}
use Rattle.unescaped.proofs.Pairing.{done, over, differs, matches}
use Rattle.unescaped.proofs.same_unescaped.Goals.{then-b-k-via-then-b-k, then-b-k-via-else-b-k+then-a-i}
use Rattle.unescaped.proofs.same_unescaped.Goals as goal

pub returns-then-b-k : goal.returns-then-b-k
returns-then-b-k c =
    elim c.then-b-k.branch [
      | then-b-k-via-then-b-k w ↦ search (over, cases)
      | then-b-k-via-else-b-k+then-a-i w ↦ search (differs, cases)
    ]

pub loop-i-preserved : goal.loop-i-preserved
loop-i-preserved c = search (matches, cases)

pub returns : goal.returns
returns c = search (done, cases)
