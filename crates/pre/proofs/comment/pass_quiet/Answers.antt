-- What the closure tells of each byte.
use Rattle.std.proofs.Common.{rules}
use Rattle.pre.specs.Passes.{in_line}
use Rattle.pre.proofs.Passings.{line_passed}
use Rattle.pre.proofs.comment.pass_quiet.Goals as goal

pub returns : goal.returns
returns c = line_passed c.args.src.now c.args.at _ c.type_inv.src (c.pass_to.ensures in_line (λ b r f p. search rules))
