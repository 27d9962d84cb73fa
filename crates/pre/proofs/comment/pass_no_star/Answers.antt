-- What the closure tells of each byte.
use Rattle.std.proofs.Common.{rules}
use Rattle.pre.specs.Passes.{no_star}
use Rattle.pre.proofs.Passings.{star_passed}
use Rattle.pre.proofs.comment.pass_no_star.Goals as goal

pub returns : goal.returns
returns c = star_passed c.args.src.now c.args.at _ (c.pass_steps.ensures no_star (λ b r f p. search rules))
