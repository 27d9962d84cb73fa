-- What the programs print, without the words: `listing` for a source (01, "Worked readings"), `values` for an expression.
use Rattle.std.specs.Prelude.{◌*◌, ◌∷◌, ◌++◌}
use Rattle.definition.specs.Text.{ℕ, take, List, [], length, ascii, same}
use Rattle.definition.specs.Utf8.{char_forms, follow, left, utf8, ends_inside}
use Rattle.definition.specs.Runs.{joined, runs, grouped}
use Rattle.definition.specs.Newline.{char_more, chars}
use Rattle.definition.specs.LineMap.{newline_ends, line_starts, last_line, get_line_and_col}
use Rattle.definition.specs.Unescaped.{unescaped_chars, unescaped}
use Rattle.definition.specs.Pre.{kind_of, find, begin, flag, more, pre_begin, pre_more, pres}
use Rattle.definition.specs.Glue.{glued, flat, pre_kind, tokens}
use Rattle.definition.specs.Tree.{Width, placed, bytes, ◌▹◌, leaves, row, size, entries, entry_numbers, concat_ops, body_concats}
use Rattle.definition.specs.Error.{error_numbers}
use Rattle.definition.specs.Parser.{while, after, peek, ◌then◌, wrap, skip, skip_trivia, nothing, bump, maybe, expect_one}
use Rattle.definition.specs.Syntax.{nest, wrapped, pasted, pp_tokens_from, pp_tokens, all_trivia, trimmed, trailing, body, pp_body, args, define_args, pp_define, pp_if_ident, pp_version, colon, pp_extension, last_stop, extra, finish, directive_named, directive, unknown, depth, pp_rs_ident, pp_include, directives, control_line, hash_item, item, file, relexed, parse}
use Rattle.definition.specs.Calls.{refusal, too_many, padded, filled, full_reading, entries_of, errors_of, outcome, reading}
use Rattle.definition.specs.Condition.Value.{within, bits, signed, shifted}
use Rattle.definition.specs.Condition.Literal.{digit_value, digits, number_of, literal}
use Rattle.definition.specs.Condition.Operators.{binaries, unaries, lookup, binary, unary}
use Rattle.definition.specs.Condition.Expression.{solid}
use Rattle.definition.specs.Condition.Meaning.{names, spells, first, valued, listed as listed_name, after as after_value, joins, meaning}
use Rattle.definition.specs.Condition.Reader.{◌▸◌, begin as begin_operand, over, deeper, asked_in, asked, closed, operand, climb, expression, whole, made}
use Rattle.definition.specs.Condition.Valuing.{of_tree, valuing, answer}

-- The reading with tables that are just long enough.
unfoldable pub listed : List ℕ → List ℕ
unfolding ascii same char_forms follow left utf8 ends_inside joined runs grouped char_more chars newline_ends line_starts last_line get_line_and_col unescaped_chars unescaped kind_of find begin flag more pre_begin pre_more pres glued flat pre_kind tokens placed bytes ◌▹◌ leaves row size entries entry_numbers concat_ops body_concats error_numbers while after peek ◌then◌ wrap skip skip_trivia nothing bump maybe expect_one nest wrapped pasted pp_tokens_from pp_tokens all_trivia trimmed trailing body pp_body args define_args pp_define pp_if_ident pp_version colon pp_extension last_stop extra finish directive_named directive unknown depth pp_rs_ident pp_include directives control_line hash_item item file relexed parse refusal too_many padded filled full_reading outcome reading
listed src =
    let f = full_reading src in
    let r = reading src (length (entries_of f)) (length (errors_of f)) (length f.lines) in
    r.refused ∷ r.entry_count ∷ r.error_count ∷ r.line_count
    ∷ (take (Width.entry * r.entry_count) r.entry_table
    ++ (take (Width.error * r.error_count) r.error_table ++ take r.line_count r.line_table))

-- Refusal and value of an expression, the value as its 32 bits.
unfoldable pub value_listed : List ℕ → List ℕ → List ℕ → List ℕ
unfolding ascii same char_forms follow left utf8 ends_inside joined runs grouped char_more chars unescaped_chars unescaped kind_of find begin flag more pre_begin pre_more pres glued flat pre_kind tokens placed refusal within bits signed shifted digit_value digits number_of literal binaries unaries lookup binary unary solid names spells first valued listed_name after_value joins meaning ◌▸◌ begin_operand over deeper asked_in asked closed operand climb expression whole made of_tree valuing answer
value_listed src numbers text = let a = answer (valuing src numbers text) in a.refusal ∷ bits a.value ∷ []
