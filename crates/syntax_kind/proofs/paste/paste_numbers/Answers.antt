-- A number that is no kind is refused, the left one first.
use Rattle.std.proofs.lemmas.Result.{err_from_is_err_and}
use Rattle.syntax_kind.proofs.Pasting.{left_refused, right_refused, both_pasted}
use Rattle.syntax_kind.proofs.paste.paste_numbers.Goals as goal

pub returns-in_err-lhs : goal.returns-in_err-lhs
returns-in_err-lhs c =
    let p = err_from_is_err_and c.from_residual.result c.from_residual.ensures.1 in
    left_refused c.args.lhs c.args.rhs c.in_err-lhs.ensures.1 c.from_residual.result _ _ p.1 p.2 c.in_err-lhs.ensures.0

pub returns-in_err-rhs : goal.returns-in_err-rhs
returns-in_err-rhs c =
    let p = err_from_is_err_and c.from_residual-in_err-rhs.result c.from_residual-in_err-rhs.ensures.1 in
    right_refused c.args.lhs c.args.rhs c.in_ok-lhs.ensures.1 c.in_err-rhs.ensures.1 c.from_residual-in_err-rhs.result _ _ p.1 p.2 c.in_err-rhs.ensures.0

pub returns : goal.returns
returns c = both_pasted c.args.lhs c.args.rhs _ _ _ c.in_ok-lhs.ensures c.in_ok-rhs.ensures c.pasted_kind.ensures
