-- What each piece of the grammar leaves is shorter than what it is given, or no longer.
use Prim.Native.Nat.{ℕ, ◌+◌, ◌≤◌}
use mathlib.Core.Bool.{Bool}
use mathlib.Core.List.{List}
use native.Mathlib.Omega.{arith}
use lib.ListN.{length}
use Rattle.definition.specs.Tree.{Leaf}
use Rattle.definition.specs.Grammar.{One, one, Many, no_more, one_more, ◌⨟◌, ◌⨾◌, Nothing, empty, Maybe, without, with_it, Eol, at_newline, at_end, Closes, closed, inner, opened, passed, Params, ended, space, name, comma, Args, object, function, Rest, rest_of, Content, no_word, a_word, Sort, Item}
use Rattle.theorems.proofs.Grammar.Exact.{Rel}

-- A piece that takes k leaves or more.
pub record Takes (k : ℕ) (G : Rel) : Type 0 where
  pub shorter : {L R : List Leaf} → G L R → k + length R ≤ length L

infixr 30 ◌and◌
◌and◌ : {j k : ℕ} {G H : Rel} → Takes j G → Takes k H → Takes (j + k) (G ⨟ H)
◌and◌ {j} {k} {G} {H} x y = record { shorter = go }
  where
    go : {L R : List Leaf} → (G ⨟ H) L R → (j + k) + length R ≤ length L
    go (g ⨾ h) = let a = x.shorter g in let b = y.shorter h in omega arith

any_number : {k : ℕ} {G : Rel} → Takes k G → Takes 0 G
any_number x = record { shorter = λ g. let h = x.shorter g in omega arith }

-- The single pieces.
leaf : {p : Leaf → Bool} → Takes 1 (One p)
leaf {p} = record { shorter = go }
  where
    go : {L R : List Leaf} → One p L R → 1 + length R ≤ length L
    go (one e) = omega arith

many : {p : Leaf → Bool} {L R : List Leaf} → Many p L R → 0 + length R ≤ length L
many no_more = omega arith
many (one_more e m) = let h = many m in omega arith

leaves : {p : Leaf → Bool} → Takes 0 (Many p)
leaves = record { shorter = many }

nothing : Takes 0 Nothing
nothing = record { shorter = go }
  where
    go : {L R : List Leaf} → Nothing L R → 0 + length R ≤ length L
    go empty = omega arith

maybe : {k : ℕ} {G : Rel} → Takes k G → Takes 0 (Maybe G)
maybe {G = G} x = record { shorter = go }
  where
    go : {L R : List Leaf} → Maybe G L R → 0 + length R ≤ length L
    go without = omega arith
    go (with_it g) = let h = x.shorter g in omega arith

eol : Takes 0 Eol
eol = record { shorter = go }
  where
    go : {L R : List Leaf} → Eol L R → 0 + length R ≤ length L
    go (at_newline e) = omega arith
    go at_end = omega arith

closes : {d : ℕ} {L R : List Leaf} → Closes d L R → 1 + length R ≤ length L
closes (closed e) = omega arith
closes (inner e c) = let h = closes c in omega arith
closes (opened e c) = let h = closes c in omega arith
closes (passed e c) = let h = closes c in omega arith

group : {d : ℕ} → Takes 1 (Closes d)
group = record { shorter = closes }

params : {b : Bool} {L R : List Leaf} → Params b L R → length R ≤ length L
params (ended e) = omega arith
params (space e p) = let h = params p in omega arith
params (name e p) = let h = params p in omega arith
params (comma e p) = let h = params p in omega arith

args : Takes 0 Args
args = record { shorter = go }
  where
    go : {L R : List Leaf} → Args L R → 0 + length R ≤ length L
    go (object e) = omega arith
    go (function e p) = let h = params p in omega arith

-- The rests of the directives.
rest : (r : Rest) → Takes 0 (rest_of r)
rest Rest.any = leaves
rest Rest.ident = any_number (leaves and leaf)
rest Rest.none_at_all = nothing
rest Rest.version = any_number (leaves and leaf and maybe (leaves and leaf))
rest Rest.extension = any_number (leaves and leaf and leaves and leaf and leaves and leaf)
rest Rest.define = any_number (leaves and leaf and args and leaves)

content : Takes 0 Content
content = record { shorter = go }
  where
    go : {L R : List Leaf} → Content L R → 0 + length R ≤ length L
    go no_word = omega arith
    go (a_word {r = r} e q g) = let h = (rest r).shorter g in omega arith

-- Each item takes a leaf at least.
pub item_shorter : (s : Sort) → Takes 1 (Item s)
item_shorter Sort.blank = leaves and leaf
item_shorter Sort.text = leaves and leaf and leaves and eol
item_shorter Sort.group = leaves and leaf and any_number (leaves and leaf and group)
item_shorter Sort.directive = leaves and leaf and leaves and content and leaves and eol
