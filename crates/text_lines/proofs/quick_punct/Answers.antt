-- The character is a token alone, or nothing glues to it.
use Rattle.text_lines.proofs.Quickly.{quick_single, quick_unglued}
use Rattle.text_lines.proofs.quick_punct.Goals as goal

pub returns-then-single : goal.returns-then-single
returns-then-single c = quick_single c.args.source.src.now c.args.at c.requires.within c.args.c c.requires.class _ c.single.ensures c.if-single.true

pub returns-then-unglued : goal.returns-then-unglued
returns-then-unglued c =
    quick_unglued c.args.source.src.now c.args.at c.requires.within c.args.c c.requires.class _ c.class_of-d.result _ c.byte_at.ensures c.class_of-d.ensures
    c.unglued.ensures c.if-unglued.true
