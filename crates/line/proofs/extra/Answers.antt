use Rattle.line.proofs.Tails.{extra_known, extra_unknown}
use Rattle.line.proofs.extra.Goals as goal

pub returns-then-known : goal.returns-then-known
returns-then-known c =
    extra_known c.error_row.ensures c.args.w c.requires.held c.requires.word c.if-known.true c.peek-x.ensures c.named_error.ensures c.push_error.ensures

pub returns-else-known : goal.returns-else-known
returns-else-known c = extra_unknown c.error_row.ensures c.args.w c.if-known.false
