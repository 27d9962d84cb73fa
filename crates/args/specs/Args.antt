-- The argument list of a `define`, one place after the other; first: an identifier's place, else a comma's.
use Rattle.std.specs.Prelude.{ℕ, ◌≡◌, Bool, true, false, ◌||◌, ◌&&◌, [], ◌∷◌, eqb, if◌then◌else◌}
use Rattle.definition.specs.Text.{Kind}
use Rattle.definition.specs.Parser.{is, peek, Got, Reader, wrap, bump}
use Rattle.definition.specs.Syntax.{wanted}
use Rattle.theorems.specs.BodyRows.{ends}
use Rattle.parser.specs.Rest.{unread}
use Rattle.parser_run.specs.declared.Parser.{Parser}
use Rattle.parser_run.specs.Parses.{source_of, Parses}
use Rattle.parser_run.specs.Expects.{expect_any}

abbrev pub dirty : Got → Bool  -- Whether an error was met.
dirty g = elim g.errs [ [] ↦ false | e ∷ es ↦ true ]

abbrev pub opening : Bool → ℕ → Bool  -- Whether a leaf of this kind is an argument.
opening first kind = first && eqb kind Kind.IDENT_KW

abbrev pub closing : ℕ → Bool  -- Whether the list ends at a leaf of this kind; 0: there is no leaf.
closing kind = ends kind || eqb kind Kind.RPAREN

-- One place of the list, at a leaf that is no trivia.
unfoldable pub place : ℕ → Bool → Reader
place n first ts = if first && peek (is Kind.IDENT_KW) ts then wrap Kind.PP_DEFINE_ARG bump ts else expect_any n (wanted first) Kind.RPAREN ts

-- The contract of a function that reads as p does and tells whether it met an error.
pub record Lists (p : Reader) (s s' : Parser) (bad : Bool) : Type 0 where
  pub parses : Parses p s s'
  pub bad_is : bad ≡ dirty (p (unread (source_of s) s.state.run.seen))
