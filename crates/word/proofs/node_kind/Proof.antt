-- `node_kind` is what the table says.
use mathlib.Core.Path.{refl}
use Rattle.definition.specs.Syntax.{directives}
use Rattle.word.specs.Word.{row_at, directive_at}
use Rattle.word.proofs.Search.{no_directive}
use Rattle.word.proofs.node_kind.Statement.{statement}
use Rattle.word.proofs.node_kind.Tie as tie

pub node_kind_spec : {M : Type 1} → statement M
unfolding directives row_at directive_at
node_kind_spec = tie.close (tie.spec
    (λ c n. rw c.in-0.is refl)
    (λ c n. rw c.in-1.is refl)
    (λ c n. rw c.in-2.is refl)
    (λ c n. rw c.in-3.is refl)
    (λ c n. rw c.in-4.is refl)
    (λ c n. rw c.in-5.is refl)
    (λ c n. rw c.in-6.is refl)
    (λ c n. rw c.in-7.is refl)
    (λ c n. rw c.in-8.is refl)
    (λ c n. rw c.in-9.is refl)
    (λ c n. rw c.in-10.is refl)
    (λ c n. rw c.in-11.is refl)
    (λ c n. rw c.in-12.is refl)
    (λ c n. rw c.in-13.is refl)
    (λ c n. rw (no_directive _ c.in_default.in_default-own.rest n) refl))
