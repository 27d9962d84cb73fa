-- The table is cleared where the call is refused.
use Rattle.std.proofs.Common.{rules}
use mathlib.Core.Path.{◌≡◌, ap, ◌∙◌}
use lib.ListN.{length}
use Rattle.table.proofs.Tables.{zeros}
use Rattle.tokens.proofs.Outcomes.{list_whole, list_refused}
use Rattle.tokens.proofs.list.Goals.{then-is_err, else-is_err}
use Rattle.tokens.proofs.list.Goals as goal

pub returns : goal.returns
returns c =
    let room = length c.args.tokens.now in
    let outcome = c.tokens_into-outcome in
    elim c.if-is_err.branch [
      | then-is_err w ↦
          let e : c.if-is_err.tokens ≡ zeros room = w.tokens-is ∙ w.clear.ensures ∙ ap zeros outcome.ensures.length in
          list_refused c.args.src.now room outcome.result _ _ (search rules) outcome.ensures.code c.into.ensures e
      | else-is_err w ↦ rw w.tokens-is (list_whole _ outcome.result _ _ (search rules) outcome.ensures.code c.into.ensures outcome.ensures.listed)
    ]
