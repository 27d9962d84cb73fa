-- The character ends where it does as a token of any other kind.
use mathlib.Core.Path.{ap, ◌∙◌}
use Rattle.pre.specs.Scan.{Token, token}
use Rattle.pre.proofs.Characters.{wide_any}
use Rattle.pre.proofs.character.rest_of_character_number.Goals as goal

pub returns : goal.returns
returns c = ap (λ (t : Token). token c.args.kind t.end) c.rest_of_character-end.ensures ∙ wide_any _ c.args.kind c.args.b c.args.at c.args.src.now
