-- `word` reads the rest of an identifier, at once where it ends in a look.
use Rattle.std.proofs.Common.{rules}
use Rattle.text.proofs.Places.{stood}
use Rattle.pre.specs.Words.{in_word}
use Rattle.pre.proofs.Words.{word_ends}
use Rattle.pre.proofs.ident.word.Goals as goal

pub returns-in-Some : goal.returns-in-Some
returns-in-Some c =
    let h = stood _ _ _ c.stand.ensures c.if-stand.true in
    word_ends c.args.src.now c.args.at _ c.in-Some.k h (c.in-Some.ensures.first in_word (λ b r f p. search rules)) (search rules)
