-- Groups: brackets counted leaf by leaf, and whether a group closes.
use Rattle.std.specs.Prelude.{ℕ, ◌≡◌, ◌+◌, ◌-◌, Bool, true, false, List, [], ◌∷◌, eqb, if◌then◌else◌}
use Rattle.std.proofs.Math.Option.{none, some}
use Rattle.definition.specs.Text.{Kind}
use Rattle.definition.specs.Error.{Err}
use Rattle.definition.specs.Parser.{Got, Reader, ◌then◌, bump}
use Rattle.definition.specs.Syntax.{pp_rs_ident, Line}
use Rattle.parser.specs.declared.Seen.{Seen}
use Rattle.parser.specs.Rest.{leaf_seen, Takes}
use Rattle.parser_run.specs.declared.Parser.{Parser}
use Rattle.parser_run.specs.Parses.{source_of, Kept}

-- How many brackets are open behind a leaf of kind k, where n are open before it.
abbrev pub brackets : ℕ → ℕ → ℕ
brackets k n = if eqb k Kind.LPAREN then n + 1 else if eqb k Kind.RPAREN then n - 1 else n

-- A group from its LPAREN on, x.
abbrev pub group_at : List ℕ → Seen → Reader
group_at src x = bump then pp_rs_ident (leaf_seen src x) 0

abbrev pub none_met : List Err → Bool  -- It closes if there is no error.
none_met es = elim es [ [] ↦ true | e ∷ es ↦ false ]

abbrev pub closed : Got → Bool
closed g = none_met g.errs

abbrev pub nodeless : Line → Bool  -- Only a closed group has no node.
nodeless l = elim l.node_kind [ none ↦ true | some k ↦ false ]

-- Nothing but the entry table and the place of the reading changed.
pub record Aside (s s' : Parser) : Type 0 where
  pub kept : Kept s s'
  pub levels : s'.levels.now ≡ s.levels.now
  pub errors : s'.errors.now ≡ s.errors.now
  pub errs : s'.state.errs ≡ s.state.errs
  pub over : s'.state.over ≡ s.state.over

-- Leaves are taken as p takes them; an error that it meets is not logged.
pub record Gathers (p : Reader) (s s' : Parser) : Type 0 where
  pub aside : Aside s s'
  pub takes : Takes (source_of s) p s.table.now s.state.run s'.table.now s'.state.run
