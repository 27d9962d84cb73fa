-- What is left to read from a place of a source, and the leaf that stands at a place.
use Rattle.std.specs.Prelude.{ℕ, Bool, List, eqb, drop, if◌then◌else◌}
use Rattle.std.proofs.Math.Seq.{slice}
use Rattle.definition.specs.SyntaxKind.{Kind}
use Rattle.definition.specs.Glue.{tokens}
use Rattle.definition.specs.Tree.{Leaf, placed}

-- The leaves from `at` on; the flag says whether an angle string is expected there.
unfoldable pub leaves_from : List ℕ → ℕ → Bool → List Leaf
leaves_from src at flag = placed at (tokens flag (drop at src))

-- The kind of a leaf whose token has the kind k: a continuation becomes a WS leaf.
abbrev pub leaf_kind : ℕ → ℕ
leaf_kind k = if eqb k Kind.LINECONT then Kind.WS else k

-- The leaf of a token of kind k from a to b.
abbrev pub leaf_between : List ℕ → ℕ → ℕ → ℕ → Leaf
leaf_between src k a b = record { kind = leaf_kind k; start = a; bytes = slice a b src }
