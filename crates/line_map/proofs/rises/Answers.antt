-- `rises` asks of each number and the next.
use Rattle.std.proofs.Common.{rules}
use Rattle.std.proofs.lemmas.List.Sorted.{answers_always}
use lib.Dec.{ltb}
use Rattle.line_map.proofs.Rising.{rising_answer}
use Rattle.line_map.proofs.rises.Goals as goal

pub returns : goal.returns
returns c = rising_answer c.args.lines.now _ (c.is_sorted_by.ensures.cases ltb (answers_always _ _ _ (λ f a r f' k. search rules)))
