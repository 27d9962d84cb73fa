-- Readers do not tell a vertical tab from a tab: of leaves, they look at the kinds, at where they lie, and at words.
use Rattle.std.specs.Prelude.{if◌then◌else◌}
use Prim.Native.Nat.{ℕ, zero, suc, ◌+◌}
use mathlib.Core.Path.{◌≡◌, refl, ap, ap₂, ◌∙◌}
use mathlib.Core.Bool.{Bool, true, false, not, ◌&&◌}
use mathlib.Core.List.{List, [], ◌∷◌}
use mathlib.Core.Option.{Option, none, some}
use lib.ListN.{length-map}
use Rattle.definition.specs.SyntaxKind.{Kind}
use Rattle.definition.specs.Tree.{Leaf, stop, Forest, nil, leaf, node, ◌▹◌, row}
use Rattle.definition.specs.Error.{Err}
use Rattle.definition.specs.Parser.{is, trivia, newline_leaf, inline, while, after, peek, Got, push, Reader, ◌then◌, wrap, skip, skip_trivia, nothing, bump, maybe, expect_one}
use Rattle.definition.specs.Syntax.{nest, wrapped, pasted, pp_tokens_from, pp_tokens, all_trivia, trimmed, trailing, body, pp_body, wanted, push_arg, args, define_args, pp_define, pp_if_ident, pp_version, colon, pp_extension, last_stop, extra, finish, depth, pp_rs_ident}
use Rattle.theorems.specs.Tabbed.{as_tab, tabbed_leaf, tabbed_row, tabbed_forest, tabbed_got}

-- From a row with tabs, q gets what p gets from the row itself, with tabs; and p does so itself.
abbrev pub TabbedAs : Reader → Reader → Type 0
TabbedAs p q = (ts : List Leaf) → q (tabbed_row ts) ≡ tabbed_got (p ts)

abbrev pub Tabbed : Reader → Type 0
Tabbed p = TabbedAs p p

-- A test that looks at no bytes.
abbrev pub TabbedTest : (Leaf → Bool) → Type 0
TabbedTest p = (t : Leaf) → p (tabbed_leaf t) ≡ p t

-- What is made of either branch is made of the whole.
pub if_as : {A B : Type 0} (f : A → B) (b : Bool) (x y : A) → (if b then f x else f y) ≡ f (if b then x else y)
if_as f true x y = refl
if_as f false x y = refl

pub stop_tabbed : (t : Leaf) → stop (tabbed_leaf t) ≡ stop t
stop_tabbed t = ap (λ n. t.start + n) (length-map t.bytes as_tab)

-- Rows and forests.
pub forest-▹ : (f g : Forest) → tabbed_forest (f ▹ g) ≡ tabbed_forest f ▹ tabbed_forest g
unfolding ◌▹◌ tabbed_forest
forest-▹ nil g = refl
forest-▹ (leaf t f) g = ap (leaf (tabbed_leaf t)) (forest-▹ f g)
forest-▹ (node k c f) g = ap (node k (tabbed_forest c)) (forest-▹ f g)

pub forest_row : (ts : List Leaf) → row (tabbed_row ts) ≡ tabbed_forest (row ts)
unfolding row tabbed_forest
forest_row [] = refl
forest_row (t ∷ ts) = ap (leaf (tabbed_leaf t)) (forest_row ts)

module _ (p : Leaf → Bool) (e : TabbedTest p) where
  pub while_tabbed : (ts : List Leaf) → while p (tabbed_row ts) ≡ tabbed_row (while p ts)
  unfolding while
  while_tabbed [] = refl
  while_tabbed (t ∷ ts) = go (p t) refl (while_tabbed ts)
    where
      go : (b : Bool) → p t ≡ b → while p (tabbed_row ts) ≡ tabbed_row (while p ts) → while p (tabbed_row (t ∷ ts)) ≡ tabbed_row (while p (t ∷ ts))
      go true q ih = let z : p (tabbed_leaf t) ≡ true = e t ∙ q in rw (q, z, while) (ap (λ l. tabbed_leaf t ∷ l) ih)
      go false q ih = let z : p (tabbed_leaf t) ≡ false = e t ∙ q in rw (q, z, while) refl

  pub after_tabbed : (ts : List Leaf) → after p (tabbed_row ts) ≡ tabbed_row (after p ts)
  unfolding after
  after_tabbed [] = refl
  after_tabbed (t ∷ ts) = go (p t) refl (after_tabbed ts)
    where
      go : (b : Bool) → p t ≡ b → after p (tabbed_row ts) ≡ tabbed_row (after p ts) → after p (tabbed_row (t ∷ ts)) ≡ tabbed_row (after p (t ∷ ts))
      go true q ih = let z : p (tabbed_leaf t) ≡ true = e t ∙ q in rw (q, z, after) ih
      go false q ih = let z : p (tabbed_leaf t) ≡ false = e t ∙ q in rw (q, z, after) refl

  pub peek_tabbed : (ts : List Leaf) → peek p (tabbed_row ts) ≡ peek p ts
  unfolding peek
  peek_tabbed [] = refl
  peek_tabbed (t ∷ ts) = e t

-- The combinators.
pub then_tabbed_as : (p p' q q' : Reader) → TabbedAs p p' → TabbedAs q q' → TabbedAs (p then q) (p' then q')
unfolding ◌then◌
then_tabbed_as p p' q q' hp hq ts = rw (hp ts, hq (p ts).rest, forest-▹ (p ts).tree (q (p ts).rest).tree) refl

pub then_tabbed : (p q : Reader) → Tabbed p → Tabbed q → Tabbed (p then q)
then_tabbed p q = then_tabbed_as p p q q

pub wrap_tabbed : (k : ℕ) (p : Reader) → Tabbed p → Tabbed (wrap k p)
unfolding wrap tabbed_forest
wrap_tabbed k p h ts = rw (h ts) refl

pub skip_tabbed : (p : Leaf → Bool) → TabbedTest p → Tabbed (skip p)
unfolding skip
skip_tabbed p e ts = rw (while_tabbed p e ts, after_tabbed p e ts, forest_row (while p ts)) refl

pub trivia_tabbed : Tabbed skip_trivia
unfolding skip_trivia
trivia_tabbed = skip_tabbed trivia (λ t. refl)

pub nothing_tabbed : Tabbed nothing
unfolding nothing tabbed_forest
nothing_tabbed ts = refl

pub bump_tabbed : Tabbed bump
unfolding bump tabbed_forest
bump_tabbed [] = refl
bump_tabbed (t ∷ ts) = refl

maybe_tabbed : (p : Leaf → Bool) → TabbedTest p → (r : Reader) → Tabbed r → Tabbed (maybe p r)
unfolding maybe
maybe_tabbed p e r h ts = go (peek p ts) refl
  where
    go : (b : Bool) → peek p ts ≡ b → maybe p r (tabbed_row ts) ≡ tabbed_got (maybe p r ts)
    go true q = let z : peek p (tabbed_row ts) ≡ true = peek_tabbed p e ts ∙ q in rw (q, z, maybe) (h ts)
    go false q = let z : peek p (tabbed_row ts) ≡ false = peek_tabbed p e ts ∙ q in rw (q, z, maybe) (nothing_tabbed ts)

expect_tabbed : (n k : ℕ) → Tabbed (expect_one n k)
unfolding expect_one tabbed_forest
expect_tabbed n k [] = refl
expect_tabbed n k (t ∷ ts) = rw (stop_tabbed t) (if_as tabbed_got (is k t) _ _)

-- Bodies.
nest_tabbed : (ts : List Leaf) → nest (tabbed_row ts) ≡ tabbed_forest (nest ts)
unfolding nest tabbed_forest
nest_tabbed [] = refl
nest_tabbed (t ∷ ts) = rw (nest_tabbed ts) (if_as tabbed_forest (is Kind.PP_CONCAT_OP t) _ _)

wrapped_tabbed : (ts : List Leaf) → wrapped (tabbed_row ts) ≡ tabbed_forest (wrapped ts)
unfolding wrapped tabbed_forest
wrapped_tabbed [] = refl
wrapped_tabbed (t ∷ ts) = rw (nest_tabbed ts, wrapped_tabbed ts) (if_as tabbed_forest (is Kind.PP_CONCAT_OP t) _ _)

pasted_tabbed : (ts : List Leaf) → pasted (tabbed_row ts) ≡ pasted ts
unfolding pasted
pasted_tabbed [] = refl
pasted_tabbed (t ∷ ts) = rw (pasted_tabbed ts) refl

from_tabbed : (ts : List Leaf) → pp_tokens_from (tabbed_row ts) ≡ tabbed_forest (pp_tokens_from ts)
unfolding pp_tokens_from tabbed_forest
from_tabbed [] = refl
from_tabbed (t ∷ ts) = rw (pasted_tabbed ts, wrapped_tabbed ts, from_tabbed ts) (if_as tabbed_forest (not (trivia t) && pasted ts) _ _)

pub row_tabbed : (ts : List Leaf) → pp_tokens (tabbed_row ts) ≡ tabbed_forest (pp_tokens ts)
unfolding pp_tokens tabbed_forest
row_tabbed ts = rw (pasted_tabbed ts, wrapped_tabbed ts, from_tabbed ts) (if_as tabbed_forest (pasted ts) _ _)

all_trivia_tabbed : (ts : List Leaf) → all_trivia (tabbed_row ts) ≡ all_trivia ts
unfolding all_trivia
all_trivia_tabbed [] = refl
all_trivia_tabbed (t ∷ ts) = ap (λ b. trivia t && b) (all_trivia_tabbed ts)

pub trimmed_tabbed : (ts : List Leaf) → trimmed (tabbed_row ts) ≡ tabbed_row (trimmed ts)
unfolding trimmed
trimmed_tabbed [] = refl
trimmed_tabbed (t ∷ ts) = rw (all_trivia_tabbed (t ∷ ts), trimmed_tabbed ts) (if_as tabbed_row (all_trivia (t ∷ ts)) [] (t ∷ trimmed ts))

trailing_tabbed : (ts : List Leaf) → trailing (tabbed_row ts) ≡ tabbed_row (trailing ts)
unfolding trailing
trailing_tabbed [] = refl
trailing_tabbed (t ∷ ts) = rw (all_trivia_tabbed (t ∷ ts), trailing_tabbed ts) (if_as tabbed_row (all_trivia (t ∷ ts)) (t ∷ ts) (trailing ts))

body_tabbed : (k : ℕ) → Tabbed (body k)
unfolding body tabbed_forest
body_tabbed k ts =
    let line : List Leaf = while inline ts in
    rw
    (while_tabbed inline (λ t. refl) ts, after_tabbed inline (λ t. refl) ts, trimmed_tabbed line, row_tabbed (trimmed line), trailing_tabbed line, forest_row (trailing line))
    refl

pub pp_body_tabbed : (k : ℕ) → Tabbed (pp_body k)
unfolding pp_body
pp_body_tabbed k = then_tabbed _ _ trivia_tabbed (body_tabbed k)

-- What follows the words, but for `include`.
module _ (n : ℕ) where
  abbrev ident_tabbed : Tabbed (expect_one n Kind.IDENT_KW)
  ident_tabbed = expect_tabbed n Kind.IDENT_KW

  push_arg_tabbed : (first : Bool) (t : Leaf) (g : Got) → push_arg first (tabbed_leaf t) (tabbed_got g) ≡ tabbed_got (push_arg first t g)
  unfolding tabbed_forest
  push_arg_tabbed true t g = refl
  push_arg_tabbed false t g = refl

  args_tabbed : (first : Bool) → Tabbed (args n first)
  unfolding args nothing tabbed_forest
  args_tabbed first [] = refl
  args_tabbed first (t ∷ ts) =
      rw
      (args_tabbed first ts, args_tabbed (not first) ts, push_arg_tabbed first t (args n (not first) ts), stop_tabbed t, if_as tabbed_got (newline_leaf t) (nothing (t ∷ ts)) (push t (args n (not first) ts)))
      (go (trivia t) (is Kind.RPAREN t) (is (wanted first) t) _ _ _ _)
    where
      go : (a b c : Bool) (w x y z : Got)
          → (if a then tabbed_got w else if b then tabbed_got x else if c then tabbed_got y else tabbed_got z) ≡ tabbed_got (if a then w else if b then x else if c then y else z)
      go true b c w x y z = refl
      go false true c w x y z = refl
      go false false true w x y z = refl
      go false false false w x y z = refl

  define_args_tabbed : Tabbed (define_args n)
  unfolding define_args tabbed_forest
  define_args_tabbed ts = rw (then_tabbed bump (args n true) bump_tabbed (args_tabbed true) ts) refl

  pub define_tabbed : Tabbed (pp_define n)
  unfolding pp_define
  define_tabbed =
      then_tabbed _ _ trivia_tabbed (then_tabbed _ _ ident_tabbed (then_tabbed _ _ (maybe_tabbed (is Kind.LPAREN) (λ t. refl) _ define_args_tabbed) (pp_body_tabbed Kind.PP_DEFINE_BODY)))

  pub if_ident_tabbed : Tabbed (pp_if_ident n)
  unfolding pp_if_ident
  if_ident_tabbed = then_tabbed _ _ trivia_tabbed (wrap_tabbed _ _ ident_tabbed)

  pub version_tabbed : Tabbed (pp_version n)
  unfolding pp_version
  version_tabbed =
      then_tabbed _ _ trivia_tabbed (then_tabbed _ _ (wrap_tabbed _ _ (expect_tabbed n Kind.DIGITS)) (then_tabbed _ _ trivia_tabbed (maybe_tabbed (is Kind.IDENT_KW) (λ t. refl) _ (wrap_tabbed _ _ bump_tabbed))))

  colon_tabbed : (r : Reader) → Tabbed r → Tabbed (colon n r)
  unfolding colon nothing tabbed_forest
  colon_tabbed r h [] = refl
  colon_tabbed r h (t ∷ ts) =
      rw
      (then_tabbed bump r bump_tabbed h (t ∷ ts), stop_tabbed t, if_as tabbed_got (newline_leaf t) (nothing (t ∷ ts)) (push t (nothing ts)))
      (if_as tabbed_got (is Kind.COLON t) _ _)

  pub extension_tabbed : Tabbed (pp_extension n)
  unfolding pp_extension
  extension_tabbed = then_tabbed _ _ trivia_tabbed (then_tabbed _ _ ident_tabbed (then_tabbed _ _ trivia_tabbed (colon_tabbed _ (then_tabbed _ _ trivia_tabbed ident_tabbed))))

-- The end of a line: the error may be said by the first extra leaf and by their end.
last_tabbed : (n : ℕ) (ts : List Leaf) → last_stop n (tabbed_row ts) ≡ last_stop n ts
unfolding last_stop
last_tabbed n [] = refl
last_tabbed n (t ∷ ts) = ap (λ m. last_stop m (tabbed_row ts)) (stop_tabbed t) ∙ last_tabbed (stop t) ts

extra_tabbed : (es : List Err) → Tabbed (extra es)
unfolding extra
extra_tabbed es ts = rw (while_tabbed inline (λ t. refl) ts, after_tabbed inline (λ t. refl) ts, forest_row (while inline ts)) refl

module _ (e : Leaf → ℕ → List Err) (same : (t : Leaf) (end : ℕ) → e (tabbed_leaf t) end ≡ e t end) where
  pub finish_tabbed : Tabbed (finish e)
  unfolding finish
  finish_tabbed [] = nothing_tabbed []
  finish_tabbed (t ∷ ts) =
      let es : List Err = e t (last_stop 0 (while inline (t ∷ ts))) in
      rw
      (while_tabbed inline (λ t. refl) (t ∷ ts), last_tabbed 0 (while inline (t ∷ ts)), same t (last_stop 0 (while inline (t ∷ ts))))
      (ap₂ (λ x y. if newline_leaf t then x else y) (bump_tabbed (t ∷ ts)) (then_tabbed _ _ (wrap_tabbed Kind.ERROR _ (extra_tabbed es)) bump_tabbed (t ∷ ts))
      ∙ if_as tabbed_got (newline_leaf t) _ _)

-- Groups.
depth_tabbed : (t : Leaf) (d : ℕ) → depth (tabbed_leaf t) d ≡ depth t d
unfolding depth
depth_tabbed t zero = refl
depth_tabbed t (suc d) = refl

pub group_tabbed : (l : Leaf) (d : ℕ) → TabbedAs (pp_rs_ident l d) (pp_rs_ident (tabbed_leaf l) d)
unfolding pp_rs_ident nothing tabbed_forest bump
group_tabbed l d [] = rw (stop_tabbed l) refl
group_tabbed l d (t ∷ ts) = go (depth t d) refl (λ k. group_tabbed l k ts)
  where
    go : (o : Option ℕ) → depth t d ≡ o → ((k : ℕ) → pp_rs_ident (tabbed_leaf l) k (tabbed_row ts) ≡ tabbed_got (pp_rs_ident l k ts))
        → pp_rs_ident (tabbed_leaf l) d (tabbed_row (t ∷ ts)) ≡ tabbed_got (pp_rs_ident l d (t ∷ ts))
    go none e ih = let z = depth_tabbed t d ∙ e in rw (e, z, pp_rs_ident) refl
    go (some k) e ih = let z = depth_tabbed t d ∙ e in rw (e, z, pp_rs_ident) (ap (push (tabbed_leaf t)) (ih k))
