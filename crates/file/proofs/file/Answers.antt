use Rattle.std.proofs.Common.{rules, refl}
use Rattle.file.proofs.Behind.{lines_fewer, lines_proceed}
use Rattle.file.proofs.Filing.{filing_more, filing_end}
use Rattle.file.proofs.file.Goals as goal

pub items-smaller-then-is_text : goal.items-smaller-then-is_text
items-smaller-then-is_text c = lines_fewer c.items.p c.is_text.ensures c.if-is_text.true c.items-test.true c.text_lines-p.ensures

pub items-preserved-then-is_text : goal.items-preserved-then-is_text
items-preserved-then-is_text c =
    filing_more c.items.invariant (lines_proceed (search rules) refl refl c.is_text.ensures c.if-is_text.true c.items-test.true c.text_lines-p.ensures refl)

pub items-preserved : goal.items-preserved
items-preserved c = filing_more c.items.invariant c.item.ensures

pub returns : goal.returns
returns c = filing_end c.items.invariant c.items-test.false
