-- The number is kept under 2 to the 32 at each digit.
use Rattle.std.proofs.Common.{rules, ◌≡◌, ◌∙◌}
use Rattle.std.specs.List.{fold}
use Rattle.values.proofs.Decimal.{kept, last_bits}
use Rattle.values.proofs.lines.number.Goals as goal

pub returns : goal.returns
returns c =
    let e : c.fold.result ≡ fold (kept 4_294_967_296) 0 c.args.word.now = search rules in
    e ∙ last_bits 4_294_967_296 c.args.word.now 0
