-- A word, blanks, or one character.
use Rattle.text_lines.proofs.Quickly.{quick_word, quick_blanks, quick_single, word_after, word_within}
use Rattle.tokens.proofs.quick.Goals as goal

pub name-kind-requires : goal.name-kind-requires
name-kind-requires c = (
  word_after c.args.src.now c.args.at c.ident-t.result c.requires.within c.ident-t.ensures,
  word_within c.args.src.now c.args.at c.ident-t.result c.requires.within c.ident-t.ensures,
)

pub returns-in-IDENT_KW : goal.returns-in-IDENT_KW
returns-in-IDENT_KW c =
    quick_word c.args.src.now c.args.at c.requires.within c.class_of-c.result c.class_of-c.ensures c.ident-t.result _ c.in-IDENT_KW.is c.ident-t.ensures
    c.name-kind.ensures

pub returns-in-WS : goal.returns-in-WS
returns-in-WS c =
    quick_blanks c.args.src.now c.args.at c.requires.within c.class_of-c.result c.class_of-c.ensures c.whitespace.result c.in-WS.is c.whitespace.ensures

pub returns-then-single : goal.returns-then-single
returns-then-single c =
    quick_single c.args.src.now c.args.at c.requires.within c.class_of-c.result c.class_of-c.ensures _ c.single.ensures c.if-single.true
