-- The end of a directive's line.
use Rattle.std.specs.Prelude.{ℕ, ◌≡◌, Bool, List, [], ◌∷◌, if◌then◌else◌}
use Rattle.definition.specs.Text.{Kind}
use Rattle.definition.specs.Tree.{Leaf}
use Rattle.definition.specs.Error.{Err, ErrorKind, named_error}
use Rattle.definition.specs.Parser.{inline, while, Reader, wrap, skip}
use Rattle.definition.specs.Syntax.{last_stop, extra}
use Rattle.parser.specs.declared.Seen.{Seen}
use Rattle.parser.specs.Rest.{leaf_seen, unread}
use Rattle.parser_run.specs.declared.Parser.{Parser}
use Rattle.parser_run.specs.Parses.{source_of, Parses}

-- The error for extra leaves, from the first of them and their end; w: the directive's word. An unknown one has none.
abbrev pub tail_errors : Bool → Leaf → Leaf → ℕ → List Err
tail_errors known w t end = if known then named_error ErrorKind.extra_tokens t.start end w ∷ [] else []

-- The extra leaves from x on, in their ERROR node.
abbrev pub extra_row : List ℕ → Bool → Leaf → Seen → Reader
extra_row src known w x = wrap Kind.ERROR (extra (tail_errors known w (leaf_seen src x) (last_stop 0 (while inline (unread src x)))))

-- The rest of the line went into an ERROR node, and the pen stands where its last leaf ends.
pub record ErrorRow (s s' : Parser) : Type 0 where
  pub parses : Parses (wrap Kind.ERROR (skip inline)) s s'
  pub pos : s'.state.run.pen.pos ≡ last_stop 0 (while inline (unread (source_of s) s.state.run.seen))
