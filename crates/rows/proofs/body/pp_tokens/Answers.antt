use Rattle.rows.proofs.Tokens.{row_start, tokens_end, tokens_first, tokens_wrap, tokens_fewer, tokens_more}
use Rattle.rows.proofs.body.pp_tokens.Goals as goal

pub row-init : goal.row-init
row-init c = row_start _ _ _ _ _ c.requires

pub returns-then-ends_row : goal.returns-then-ends_row
returns-then-ends_row c = tokens_end c.row.invariant c.ends_row.ensures c.if-ends_row.true

pub returns-then-x-eq-PP_CONCAT_OP : goal.returns-then-x-eq-PP_CONCAT_OP
returns-then-x-eq-PP_CONCAT_OP c = tokens_first c.row.invariant c.if-x-eq-PP_CONCAT_OP.true c.first_concat.ensures

pub returns-then-y-eq-PP_CONCAT_OP : goal.returns-then-y-eq-PP_CONCAT_OP
returns-then-y-eq-PP_CONCAT_OP c =
    tokens_wrap c.row.invariant c.ends_row.ensures c.if-ends_row.false c.behind-q.ensures c.if-x-eq-PP_CONCAT_OP.false c.eat-held.ensures
    c.if-y-eq-PP_CONCAT_OP.true c.wrapping_concat.ensures

pub row-smaller : goal.row-smaller
row-smaller c = tokens_fewer c.row.invariant c.ends_row.ensures c.if-ends_row.false c.behind-q.ensures

pub row-preserved : goal.row-preserved
row-preserved c =
    tokens_more c.row.invariant c.ends_row.ensures c.if-ends_row.false c.behind-q.ensures c.if-x-eq-PP_CONCAT_OP.false c.eat-held.ensures
    c.if-y-eq-PP_CONCAT_OP.false c.leaf-held.ensures c.eat-held.auto.table c.leaf-held.auto.table
