-- `spelt` compares a text, unescaped, with the word at a place.
use borrow.Author.Rules.{rules}
use Rattle.definition.specs.Text.{ascii}
use Rattle.definition.specs.Grammar.{words}
use Rattle.word.specs.Word.{row_at, spellings, spelling, spelt_as}
use Rattle.word.proofs.Search.{no_word}
use Rattle.word.proofs.spelt.Statement.{statement}
use Rattle.word.proofs.spelt.Tie as tie

pub spelt_spec : {M : Type 1} → statement M
unfolding ascii words row_at spellings spelling spelt_as
spelt_spec = tie.close (tie.spec
    (λ c κs. search rules) (λ c κs. search rules)
    (λ c κs. search rules) (λ c κs. search rules)
    (λ c κs. search rules) (λ c κs. search rules)
    (λ c κs. search rules) (λ c κs. search rules)
    (λ c κs. search rules) (λ c κs. search rules)
    (λ c κs. search rules) (λ c κs. search rules)
    (λ c κs. search rules) (λ c κs. search rules)
    (λ c. rw c.in-0.is c.is_include.ensures)
    (λ c. rw c.in-1.is c.is_define.ensures)
    (λ c. rw c.in-2.is c.is_undef.ensures)
    (λ c. rw c.in-3.is c.is_line.ensures)
    (λ c. rw c.in-4.is c.is_error.ensures)
    (λ c. rw c.in-5.is c.is_pragma.ensures)
    (λ c. rw c.in-6.is c.is_version.ensures)
    (λ c. rw c.in-7.is c.is_if.ensures)
    (λ c. rw c.in-8.is c.is_ifdef.ensures)
    (λ c. rw c.in-9.is c.is_ifndef.ensures)
    (λ c. rw c.in-10.is c.is_elif.ensures)
    (λ c. rw c.in-11.is c.is_else.ensures)
    (λ c. rw c.in-12.is c.is_endif.ensures)
    (λ c. rw c.in-13.is c.is_extension.ensures)
    (λ c. no_word c.before.before.args.w _ c.in_default.in_default-own.rest))
