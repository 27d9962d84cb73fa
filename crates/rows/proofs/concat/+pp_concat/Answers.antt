use Rattle.rows.proofs.Concats.{leading_start, concat_ends, concat_fewer, concat_plain, concat_over, concat_inner}
use Rattle.rows.proofs.concat.+pp_concat.Goals as goal

pub paste-init : goal.paste-init
paste-init t c = leading_start _ _ _ _ _ _ c.requires.held c.requires.opened

pub returns-then-ends_row : goal.returns-then-ends_row
returns-then-ends_row t c = concat_ends c.paste.invariant c.leaf-b.ensures c.behind-p.ensures c.ends_row.ensures c.if-ends_row.true

pub paste-smaller-then-allowance-eq0 : goal.paste-smaller-then-allowance-eq0
paste-smaller-then-allowance-eq0 t c =
    concat_fewer c.paste.invariant c.leaf-b.ensures c.behind-p.ensures c.ends_row.ensures c.if-ends_row.false c.eat-held.ensures

pub paste-preserved-then-allowance-eq0 : goal.paste-preserved-then-allowance-eq0
paste-preserved-then-allowance-eq0 t c =
    concat_over c.paste.invariant c.leaf-b.ensures c.behind-p.ensures c.ends_row.ensures c.if-ends_row.false c.eat-held.ensures c.if-next-eq-PP_CONCAT_OP.true
    c.if-allowance-eq0.true c.leaf-b.auto.table c.eat-held.auto.table

pub returns-then-next-eq-PP_CONCAT_OP : goal.returns-then-next-eq-PP_CONCAT_OP
returns-then-next-eq-PP_CONCAT_OP t c =
    concat_inner c.paste.invariant c.leaf-b.ensures c.behind-p.ensures c.ends_row.ensures c.if-ends_row.false c.eat-held.ensures c.if-next-eq-PP_CONCAT_OP.true
    c.if-allowance-eq0.false c.start_node-a.ensures c.pp_concat-r.ensures c.finish_row.ensures

pub paste-smaller : goal.paste-smaller
paste-smaller t c = concat_fewer c.paste.invariant c.leaf-b.ensures c.behind-p.ensures c.ends_row.ensures c.if-ends_row.false c.eat-held.ensures

pub paste-preserved : goal.paste-preserved
paste-preserved t c =
    concat_plain c.paste.invariant c.leaf-b.ensures c.behind-p.ensures c.ends_row.ensures c.if-ends_row.false c.eat-held.ensures
    c.if-next-eq-PP_CONCAT_OP.false c.leaf-b.auto.table c.eat-held.auto.table
