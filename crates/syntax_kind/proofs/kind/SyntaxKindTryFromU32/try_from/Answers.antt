-- A number that is not refused has its place among the kinds.
use native.Mathlib.Omega.{arith}
use borrow.Author.Tests.{ne_eqb, le-ltb}
use Rattle.syntax_kind.proofs.Numbers.{numbered}
use Rattle.syntax_kind.proofs.kind.SyntaxKindTryFromU32.try_from.Goals as goal

pub returns : goal.returns
returns c = (
  rw c.kinds-all.ensures (numbered c.args.k _ (omega (arith, c.if-k-eq0.false)) c.if-k-2.false),
  rw (ne_eqb c.args.k 0 c.if-k-eq0.false, ne_eqb c.args.k 35 c.if-k.false, le-ltb 86 c.args.k c.if-k-2.false),
)
