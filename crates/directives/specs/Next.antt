-- A leaf that is expected behind trivia.
use Rattle.std.specs.Prelude.{ℕ}
use Rattle.definition.specs.Text.{Kind}
use Rattle.definition.specs.Parser.{is, Reader, ◌then◌, wrap, skip_trivia, maybe, expect_one}
use Rattle.definition.specs.Syntax.{define_args}

abbrev pub expect_next : ℕ → ℕ → Reader  -- A leaf of kind k. n: where the source ends.
expect_next n k = skip_trivia then expect_one n k

abbrev pub expect_node : ℕ → ℕ → ℕ → Reader  -- The same in a node.
expect_node n k node = skip_trivia then wrap node (expect_one n k)

abbrev pub define_head : ℕ → Reader  -- The name of a macro, and its arguments if LPAREN follows with no trivia.
define_head n = expect_next n Kind.IDENT_KW then maybe (is Kind.LPAREN) (define_args n)
