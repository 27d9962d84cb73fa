use Rattle.rows.proofs.Tokens.{pasting_read}
use Rattle.rows.proofs.concat.rest_of_concat.Goals as goal

pub returns : goal.returns
returns c = pasting_read _ _ _ _ _ _ _ _ _ _ _ _ _ c.requires.passed c.requires.opened c.eat-held.ensures c.pp_concat-r.ensures c.finish_row.ensures
