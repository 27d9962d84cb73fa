-- The bytes behind the blanks tell.
use Rattle.text_lines.proofs.Showing.{shown_by}
use Rattle.text_lines.proofs.shows_text.Goals as goal

pub returns-then-i-source : goal.returns-then-i-source
returns-then-i-source c = shown_by c.args.source.src.now c.args.at c.whitespace-t.result c.whitespace-t.ensures _ _ c.if-i-source.true c.byte_at.ensures c.begins_text.ensures
