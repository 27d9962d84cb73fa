-- A word, blanks, a number.
use Rattle.text_lines.proofs.Quickly.{quick_word, quick_number, quick_blanks, word_after, word_within}
use Rattle.text_lines.proofs.quick.Goals as goal

pub name-kind-requires : goal.name-kind-requires
name-kind-requires c = (
  word_after c.args.source.src.now c.args.at c.word-t.result c.requires.within c.word-t.ensures,
  word_within c.args.source.src.now c.args.at c.word-t.result c.requires.within c.word-t.ensures,
)

pub returns-in-IDENT_KW : goal.returns-in-IDENT_KW
returns-in-IDENT_KW c =
    quick_word c.args.source.src.now c.args.at c.requires.within c.args.c c.requires.class c.word-t.result _ c.in-IDENT_KW.is c.word-t.ensures c.name-kind.ensures

pub returns-in-WS : goal.returns-in-WS
returns-in-WS c = quick_blanks c.args.source.src.now c.args.at c.requires.within c.args.c c.requires.class c.whitespace.result c.in-WS.is c.whitespace.ensures

pub returns-in-DIGITS : goal.returns-in-DIGITS
returns-in-DIGITS c = quick_number c.args.source.src.now c.args.at c.requires.within c.args.c c.requires.class c.digits.result c.in-DIGITS.is c.digits.ensures
