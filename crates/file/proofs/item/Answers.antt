use Rattle.std.proofs.Common.{rules, refl}
use Rattle.file.proofs.Hashing.{hash_proceeds}
use Rattle.file.proofs.Behind.{end_proceeds, text_proceeds}
use Rattle.file.proofs.item.Goals as goal

pub returns-then-directive : goal.returns-then-directive
returns-then-directive c = hash_proceeds c.buffer_trivia-before.ensures c.if-directive.true c.hash_item.ensures

pub returns-then-x-eq0 : goal.returns-then-x-eq0
returns-then-x-eq0 c =
    end_proceeds (search rules) refl refl c.buffer_trivia-before.ensures c.eat_trivia-pen.ensures c.run_of-p.ensures refl c.requires.some c.if-x-eq0.true refl

pub returns : goal.returns
returns c =
    text_proceeds (search rules) refl refl c.buffer_trivia-before.ensures c.eat_trivia-pen.ensures c.run_of-p.ensures c.if-x-eq0.false c.if-directive.false
    c.text_lines-p.ensures refl
