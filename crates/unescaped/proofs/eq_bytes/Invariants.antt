-- `eq_bytes` compares a text, unescaped, with a word.
use Rattle.std.proofs.Common.{◌-◌, length}
use Rattle.unescaped.proofs.Comparing.{Comparing}
use Rattle.unescaped.proofs.eq_bytes.Given as goal

abbrev pub invariant-loop-i : goal.invariant-loop-i
invariant-loop-i l = Comparing l.text l.word l.i l.k

abbrev pub decreases-loop-i : goal.decreases-loop-i
decreases-loop-i l = length l.text - l.i
