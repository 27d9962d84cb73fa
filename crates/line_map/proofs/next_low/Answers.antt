-- Quiet bytes are passed over in steps, and then byte by byte.
use Rattle.std.proofs.Common.{rules}
use Rattle.text.proofs.Stretches.{stretch_join}
use Rattle.line_map.specs.Quiet.{quiet}
use Rattle.line_map.proofs.next_low.Goals as goal

pub pass_each-requires-clause-within : goal.pass_each-requires-clause-within
unfolding quiet
pass_each-requires-clause-within c = ((c.pass_to-steps.ensures quiet (λ b r f p. search rules)).inside c.requires).within

pub returns-then-stand : goal.returns-then-stand
unfolding quiet
returns-then-stand c = (c.pass_to-steps.ensures quiet (λ b r f p. search rules)).inside c.requires

pub returns : goal.returns
unfolding quiet
returns c =
    stretch_join c.args.src.now c.args.at _ _
    ((c.pass_to-steps.ensures quiet (λ b r f p. search rules)).inside c.requires)
    (c.pass_each.ensures quiet (λ b r f p. search rules))
