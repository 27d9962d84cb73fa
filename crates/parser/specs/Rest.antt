-- What is left to read, and what a function promises that takes leaves.
use Rattle.std.specs.Prelude.{ℕ, ◌≤◌, ◌<◌, ◌≡◌, Bool, ◌||◌, not, List, [], ◌∷◌, eqb, length, if◌then◌else◌}
use Rattle.std.specs.Coded.{→_prop, ×_prop, le_prop, Coded-set, coded_ℕ}
use Rattle.std.proofs.Math.Seq.{slice}
use Rattle.definition.specs.Text.{Kind}
use Rattle.definition.specs.Tree.{Leaf, leaves, stop}
use Rattle.definition.specs.Parser.{Reader}
use Rattle.definition.specs.Calls.{longest_source}
use Rattle.theorems.specs.BodyRows.{ends}
use Rattle.theorems.specs.LeavesFrom.{leaves_from}
use Rattle.syntax_kind.specs.declared.kind.SyntaxKind.{SyntaxKind}
use Rattle.pre.specs.Table.{class_table}
use Rattle.tree.specs.Machine.{sheet, leafs}
use Rattle.tree.specs.declared.Pen.{Pen}
use Rattle.parser.specs.declared.Seen.{Seen}
use Rattle.parser.specs.declared.Run.{Run}

-- A leaf that is seen, with a pen.
abbrev pub run_of : Seen → Pen → Run
run_of x p = record { seen = x; pen = p }

-- The leaf that is seen,
abbrev pub leaf_seen : List ℕ → Seen → Leaf
leaf_seen src s = record { kind = s.kind; start = s.start; bytes = slice s.start s.end src }

-- and those after it; none at the end.
unfoldable pub unread : List ℕ → Seen → List Leaf
unread src s = if eqb s.kind 0 then [] else leaf_seen src s ∷ leaves_from src s.end s.angle

-- The leaf that is seen ends where it is said to end, and is not empty.
unfoldable pub Held : List ℕ → Seen → Type 0
Held src s = (s.kind ≡ 0 → ⊥) → (stop (leaf_seen src s) ≡ s.end) × (s.start < s.end)

-- There is one proof of it at most.
pub Held-prop : (src : List ℕ) (s : Seen) → IsProp (Held src s)
unfolding Held
Held-prop src s = →_prop (×_prop (Coded-set coded_ℕ _ _) le_prop)

-- What is seen from a place on: it starts there, and where nothing is left it ends there too, behind the whole source.
pub record Sees (src : List ℕ) (at : ℕ) (angle : Bool) (s : Seen) : Type 0 where
  pub rest : unread src s ≡ leaves_from src at angle
  pub held : Held src s
  pub starts : s.start ≡ at
  pub over : s.kind ≡ 0 → (s.end ≡ at) × (length src ≤ at)

abbrev pub trivial : ℕ → Bool  -- Blanks, comments and continuations, which are WS leaves.
trivial k = eqb k Kind.WS || eqb k Kind.COMMENT

abbrev pub inlined : ℕ → Bool  -- A leaf other than NEWLINE.
inlined k = not (ends k)

-- What functions ask that are handed the source and the classes: the table of classes, a source that is not refused for its length, and a leaf that is held.
pub record Reading (src : List ℕ) (classes : List SyntaxKind) (s : Seen) : Type 0 where
  pub table : classes ≡ class_table
  pub short : length src ≤ longest_source
  pub held : Held src s

-- A call that takes leaves as a reader does, without nodes or errors.
pub record Takes (src : List ℕ) (p : Reader) (t : List ℕ) (r : Run) (t' : List ℕ) (r' : Run) : Type 0 where
  pub tree : sheet t' r'.pen ≡ leafs (sheet t r.pen) (leaves (p (unread src r.seen)).tree)
  pub rest : unread src r'.seen ≡ (p (unread src r.seen)).rest
  pub held : Held src r'.seen
