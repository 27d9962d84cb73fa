-- Readers of leaves (01, "Directives"; `parser.rs`): what a reader takes as a row of trees, the errors it meets, and what it leaves.
use Rattle.std.specs.Prelude.{◌||◌, ◌∷◌, ◌++◌, if◌then◌else◌}
use Rattle.definition.specs.Text.{ℕ, Bool, true, false, not, List, [], eqb, Kind}
use Rattle.definition.specs.Tree.{Leaf, Forest, nil, leaf, node, row, ◌▹◌}
use Rattle.definition.specs.Error.{Err, unexpected, end_of_input}

abbrev pub is : ℕ → Leaf → Bool
is k t = eqb t.kind k

-- Trivia is blanks, comments and continuations, which are WS leaves.
abbrev pub trivia : Leaf → Bool
trivia t = is Kind.WS t || is Kind.COMMENT t

abbrev pub newline_leaf : Leaf → Bool  -- A newline is no trivia.
newline_leaf t = is Kind.NEWLINE t

abbrev pub inline : Leaf → Bool  -- Any leaf but NEWLINE.
inline t = not (newline_leaf t)

-- The leading leaves that pass a test, the others, and whether the first passes it.
unfoldable pub while : (Leaf → Bool) → List Leaf → List Leaf
while p [] = []
while p (t ∷ ts) = elim (p t) [ true ↦ t ∷ while p ts | false ↦ [] ]

unfoldable pub after : (Leaf → Bool) → List Leaf → List Leaf
after p [] = []
after p (t ∷ ts) = elim (p t) [ true ↦ after p ts | false ↦ t ∷ ts ]

unfoldable pub peek : (Leaf → Bool) → List Leaf → Bool
peek p [] = false
peek p (t ∷ ts) = p t

pub record Got : Type 0 where
  pub tree : Forest
  pub errs : List Err
  pub rest : List Leaf

-- One leaf, or one error, in front of what was got.
abbrev pub push : Leaf → Got → Got
push t g = record { tree = leaf t g.tree; errs = g.errs; rest = g.rest }

abbrev pub raise : Err → Got → Got
raise e g = record { tree = g.tree; errs = e ∷ g.errs; rest = g.rest }

abbrev pub Reader : Type 0
Reader = List Leaf → Got

infixr 30 ◌then◌
-- One reader, and the next on what it leaves.
unfoldable pub ◌then◌ : Reader → Reader → Reader
(p then q) ts =
    let a = p ts in
    let b = q a.rest in
    record { tree = a.tree ▹ b.tree; errs = a.errs ++ b.errs; rest = b.rest }

-- A node over what a reader takes.
unfoldable pub wrap : ℕ → Reader → Reader
wrap k p ts = let a = p ts in record { tree = node k a.tree nil; errs = a.errs; rest = a.rest }

unfoldable pub skip : (Leaf → Bool) → Reader  -- The leading leaves that pass a test.
skip p ts = record { tree = row (while p ts); errs = []; rest = after p ts }

unfoldable pub skip_trivia : Reader  -- `skip_trivia`.
skip_trivia ts = skip trivia ts

unfoldable pub nothing : Reader  -- Takes nothing.
nothing ts = record { tree = nil; errs = []; rest = ts }

unfoldable pub bump : Reader  -- Takes one leaf, if there is one.
bump [] = record { tree = nil; errs = []; rest = [] }
bump (t ∷ ts) = record { tree = leaf t nil; errs = []; rest = ts }

unfoldable pub maybe : (Leaf → Bool) → Reader → Reader  -- Reads on only if the first leaf passes a test.
maybe p r ts = elim (peek p ts) [ true ↦ r ts | false ↦ nothing ts ]

-- A missing piece swallows the next leaf into an ERROR node, a NEWLINE too. n: where the source ends.
unfoldable pub expect_one : ℕ → ℕ → Reader
expect_one n k [] = record { tree = node Kind.ERROR nil nil; errs = end_of_input n n (k ∷ []) ∷ []; rest = [] }
expect_one n k (t ∷ ts) =
    if is k t then record { tree = leaf t nil; errs = []; rest = ts } else record { tree = node Kind.ERROR (leaf t nil) nil; errs = unexpected t (k ∷ []) ∷ []; rest = ts }
