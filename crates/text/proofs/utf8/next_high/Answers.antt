-- ASCII is passed over in steps, and then byte by byte.
use Rattle.std.proofs.Common.{rules}
use Rattle.text.specs.Utf8.{is_ascii}
use Rattle.text.proofs.Stretches.{stretch_join}
use Rattle.text.proofs.utf8.next_high.Goals as goal

pub pass_each-requires-clause-within : goal.pass_each-requires-clause-within
pass_each-requires-clause-within c = ((c.pass_steps-steps.ensures is_ascii (λ b r f p. search rules)).inside c.requires).within

pub returns : goal.returns
returns c =
    stretch_join c.args.src.now c.args.at _ _
    ((c.pass_steps-steps.ensures is_ascii (λ b r f p. search rules)).inside c.requires)
    (c.pass_each.ensures is_ascii (λ b r f p. search rules))
