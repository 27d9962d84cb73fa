-- `word_of` looks for the bytes of a leaf among the words.
use borrow.Author.Rules.{rules}
use Rattle.parser.proofs.Texts.{text_from, text_to, text_is}
use Rattle.syntax.proofs.section.word_of.Statement.{statement}
use Rattle.syntax.proofs.section.word_of.Tie as tie

pub word_of_spec : {M : Type 1} → statement M
word_of_spec = tie.close (tie.spec
    (λ c. search rules)
    (λ c. search rules)
    (λ c. text_from _ _ c.before.before.before.requires)
    (λ c. text_from _ _ c.before.before.before.requires)
    (λ c. text_to _ _ c.before.before.before.requires)
    (λ c κs. search rules)
    (λ c. rw (text_is _ _ c.before.before.before.before.before.requires) c.find_word.ensures))
