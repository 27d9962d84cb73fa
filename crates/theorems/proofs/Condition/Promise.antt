-- What holds of the value of an #if, put together.
use Rattle.theorems.specs.Condition.{Promise}
use Rattle.theorems.proofs.Condition.Whole.{one_reading, tree_exact, no_tree_exact, answers, one_answer}
use Rattle.theorems.proofs.Condition.Range.{refused_as, valued_as, eleven, accepted_refusals, call_told}

pub promise : Promise
promise = record {
  one_tree = λ L e f x y. one_reading x y;
  found = tree_exact;
  not_found = no_tree_exact;
  answered = answers;
  one_answer = λ src numbers text o a. one_answer src numbers text a;
  eleven = eleven;
  accepted = λ src numbers text n p q. refused_as (rw q at (accepted_refusals p (answers src numbers text)));
  refusals = λ src numbers text n q. refused_as (rw q at (call_told (answers src numbers text)));
  signed_32 = λ src numbers text z h q. valued_as (rw q at (call_told (answers src numbers text))) h;
}
