use Rattle.directives.proofs.Parts.{version_profile, version_none}
use Rattle.directives.proofs.pp_version.Goals as goal

pub returns-then-profile : goal.returns-then-profile
returns-then-profile c = version_profile c.expect_node.ensures c.skip_trivia.ensures c.peek-profile.ensures c.if-profile.true c.node_bump.ensures

pub returns-else-profile : goal.returns-else-profile
returns-else-profile c = version_none c.expect_node.ensures c.skip_trivia.ensures c.peek-profile.ensures c.if-profile.false
