-- What is promised of text lines, and of the tokens that are seen at once.
use Rattle.std.specs.Prelude.{ℕ, ◌≤◌, ◌<◌, length, ◌≡◌, Bool, true, false, List}
use Rattle.definition.specs.Text.{byte, Kind}
use Rattle.definition.specs.Tree.{Leaf}
use Rattle.theorems.specs.Step.{Stepped, glued_kind}
use Rattle.theorems.specs.LeavesFrom.{leaves_from}
use Rattle.theorems.specs.TextLines.{Text, Lines}
use Rattle.syntax_kind.specs.Number.{number}
use Rattle.pre.specs.Table.{ClassNumber}
use Rattle.pre.specs.declared.token.Token.{Token}
use Rattle.tree.specs.Machine.{sheet, leafs}
use Rattle.tree.specs.declared.Pen.{Pen}
use Rattle.parser.specs.declared.Run.{Run}
use Rattle.parser.specs.Rest.{unread, Held}

-- A character of class c is a token before one of class d: nothing glues, and it begins no longer token.
pub record Alone (c d : ℕ) : Type 0 where
  pub low : Kind.PERIOD ≤ c
  pub high : c ≤ Kind.HASH
  pub no_slash : c ≡ Kind.SLASH → ⊥
  pub no_less : c ≡ Kind.LANGLE → ⊥
  pub no_number : c ≡ Kind.PERIOD → d ≡ ClassNumber.DIGIT → ⊥
  pub no_glue : (c ≡ Kind.PERIOD → ⊥) → 0 ≡ glued_kind c d

-- Whatever follows.
pub record Single (c : ℕ) : Type 0 where
  pub alone : (d : ℕ) → Alone c d

-- The token at a place, whatever the flag, which it keeps. It is no continuation.
pub record Quick (src : List ℕ) (at : ℕ) (t : Token) : Type 0 where
  pub step : (f : Bool) → Stepped src at f (number t.kind) t.end f
  pub no_linecont : number t.kind ≡ Kind.LINECONT → ⊥

-- Neither HASH nor a comment of several lines nor a continuation begins with b, where x follows.
pub record Begins (b x : ℕ) : Type 0 where
  pub no_hash : b ≡ byte "#" → ⊥
  pub no_backslash : b ≡ byte "\\" → ⊥
  pub no_comment : b ≡ byte "/" → x ≡ byte "*" → ⊥

-- No directive begins at a place, whatever the flag.
pub record Shown (src : List ℕ) (at : ℕ) : Type 0 where
  pub text : (f : Bool) → Text (leaves_from src at f)

-- Whether text goes on behind a leaf.
pub record Going (src : List ℕ) (kind end : ℕ) (r : Bool) : Type 0 where
  pub on : r ≡ true → kind ≡ Kind.NEWLINE → Shown src end
  pub off : r ≡ false → kind ≡ Kind.NEWLINE

-- Leaves went to the writer that lead from `before` to what is seen at the end: the rest of a text line and some further lines, without errors.
pub record Lined (src : List ℕ) (before : List Leaf) (t : List ℕ) (p : Pen) (t' : List ℕ) (r : Run) : Type 0 where
  pub taken : List Leaf
  pub tree : sheet t' r.pen ≡ leafs (sheet t p) taken
  pub lines : Lines taken before (unread src r.seen)
  pub held : Held src r.seen
  pub some : 0 < length before → 0 < length taken
