-- What the functions ask that read an item from its HASH on.
use Rattle.std.specs.Prelude.{ℕ, ◌≡◌, false, List, length}
use Rattle.definition.specs.SyntaxKind.{Kind}
use Rattle.definition.specs.Syntax.{control_line, relexed}
use Rattle.parser.specs.declared.Seen.{Seen}
use Rattle.parser.specs.declared.trivia.Trivia.{Trivia}
use Rattle.parser.specs.Rest.{unread}
use Rattle.parser.specs.Passed.{Passes, Behind}
use Rattle.group.specs.Group.{nodeless}

-- A HASH is seen behind the trivia that begins at s, which is passed over.
pub record Hashed (src : List ℕ) (s : Seen) (before : Trivia) : Type 0 where
  pub passes : Passes src s before
  pub hash : before.next.kind ≡ Kind.HASH

-- The same, and the trivia behind the HASH is passed over too.
pub record Fronted (src : List ℕ) (s : Seen) (before after : Trivia) : Type 0 where
  pub hashed : Hashed src s before
  pub behind : Behind src before.next.end before.next.angle after

-- What follows a HASH and its trivia, from s on, has a node: it is no closed group.
pub record Noded (src : List ℕ) (s : Seen) : Type 0 where
  pub noded : nodeless (control_line (length src) relexed (unread src s)) ≡ false

-- The leaf that is seen is the LPAREN of a group that does not close.
pub record Unended (src : List ℕ) (s : Seen) : Type 0 where
  pub line : Noded src s
  pub lparen : s.kind ≡ Kind.LPAREN

-- The leaf that is seen may be a directive's word: it is no NEWLINE, and begins no group.
pub record Worded (src : List ℕ) (s : Seen) : Type 0 where
  pub some : s.kind ≡ 0 → ⊥
  pub inline : s.kind ≡ Kind.NEWLINE → ⊥
  pub no_group : s.kind ≡ Kind.LPAREN → ⊥
