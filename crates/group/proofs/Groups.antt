-- Groups, leaf by leaf: one count of open brackets serves both loops.
use Rattle.std.specs.Prelude.{if◌then◌else◌}
use Prim.Native.Nat.{ℕ, zero, suc, ◌+◌, ◌-◌, ◌≤◌, ◌<◌}
use mathlib.Core.Path.{◌≡◌, refl, sym, ap, subst, ◌∙◌}
use mathlib.Core.Bool.{Bool, true, false}
use mathlib.Core.List.{List, [], ◌∷◌}
use mathlib.Core.Option.{Option, none, some}
use native.Mathlib.Omega.{arith}
use native.Mathlib.Numerals.{add-one}
use borrow.Author.Tests.{eq-eqb}
use lib.Dec.{eqb}
use lib.ListN.{length}
use Rattle.definition.specs.Text.{Kind}
use Rattle.definition.specs.Tree.{Leaf, ◌▹◌, leaves}
use Rattle.definition.specs.Calls.{longest_source}
use Rattle.definition.specs.Parser.{is, Got, push, Reader, ◌then◌, nothing, bump}
use Rattle.definition.specs.Syntax.{depth, pp_rs_ident}
use Rattle.theorems.specs.LeavesFrom.{leaves_from}
use Rattle.theorems.proofs.Grammar.Groups.{depth_closed, depth_inner, depth_opened, depth_passed}
use Rattle.tree.specs.Machine.{sheet, leafed, leafs}
use Rattle.tree.specs.declared.Pen.{Pen}
use Rattle.parser.specs.declared.Seen.{Seen}
use Rattle.parser.specs.declared.Run.{Run}
use Rattle.parser.specs.Rest.{run_of, leaf_seen, unread, Held, Sees, Takes}
use Rattle.parser.proofs.Taking.{none_seen, one_seen}
use Rattle.parser.proofs.Texts.{held_within}
use Rattle.parser_run.specs.declared.Parser.{Parser}
use Rattle.parser_run.specs.Parses.{source_of}
use Rattle.parser_run.proofs.Parsing.{kept_same, kept_then, same_source}
use Rattle.group.specs.Group.{brackets, group_at, none_met, closed, Aside, Gathers}

-- What is left of a group where n brackets are open.
unfoldable pub inside : Leaf → ℕ → Reader
inside l zero ts = nothing ts
inside l (suc d) ts = pp_rs_ident l d ts

-- The brackets that are open inside a group are one fewer than all.
one_less : ℕ → Option ℕ
one_less zero = none
one_less (suc d) = some d

depth_brackets : (t : Leaf) (d : ℕ) → depth t d ≡ one_less (brackets t.kind (suc d))
unfolding one_less
depth_brackets t d = go (is Kind.LPAREN t) refl (is Kind.RPAREN t) refl d
  where
    go : (a : Bool) → is Kind.LPAREN t ≡ a → (b : Bool) → is Kind.RPAREN t ≡ b → (d : ℕ) → depth t d ≡ one_less (brackets t.kind (suc d))
    go true a b eb d = rw (a, add-one (suc d)) (depth_opened t d a)
    go false a true b zero = rw (a, b) (depth_closed t b)
    go false a true b (suc d) = let e : suc (suc d) - 1 ≡ suc d = omega arith in rw (a, b, e) (depth_inner t d b)
    go false a false b d = rw (a, b) (depth_passed t d (rw (a, b) refl))

-- The same before the leaf that is next: at the LPAREN none is open.
unfoldable pub ahead : Leaf → ℕ → Reader
ahead l n [] = pp_rs_ident l 0 []
ahead l n (t ∷ ts) = push t (inside l (brackets t.kind n) ts)

ahead_start : (l t : Leaf) (ts : List Leaf) → is Kind.LPAREN t ≡ true → ahead l 0 (t ∷ ts) ≡ (bump then pp_rs_ident l 0) (t ∷ ts)
unfolding ahead inside bump ◌then◌ ◌▹◌
ahead_start l t ts e = rw e refl

ahead_inside : (l : Leaf) (d : ℕ) (ts : List Leaf) → ahead l (suc d) ts ≡ pp_rs_ident l d ts
unfolding ahead inside pp_rs_ident bump nothing one_less
ahead_inside l d [] = refl
ahead_inside l d (t ∷ ts) = go (brackets t.kind (suc d)) refl
  where
    go : (n : ℕ) → brackets t.kind (suc d) ≡ n → push t (inside l n ts) ≡ pp_rs_ident l d (t ∷ ts)
    go zero e = rw (depth_brackets t d ∙ ap one_less e, pp_rs_ident) refl
    go (suc k) e = rw (depth_brackets t d ∙ ap one_less e, pp_rs_ident) refl

-- Behind a leaf at which the group is not closed the next one is read.
inside_ahead : (l : Leaf) (n : ℕ) (ts : List Leaf) → (n ≡ 0 → ⊥) → inside l n ts ≡ ahead l n ts
unfolding inside
inside_ahead l zero ts z = absurd (z refl)
inside_ahead l (suc d) ts z = sym (ahead_inside l d ts)

-- A leaf opens one bracket at most.
brackets_most : (k n : ℕ) → brackets k n ≤ n + 1
brackets_most k n = go (eqb k Kind.LPAREN) (eqb k Kind.RPAREN)
  where
    go : (a b : Bool) → (if a then n + 1 else if b then n - 1 else n) ≤ n + 1
    go true b = omega arith
    go false true = omega arith
    go false false = omega arith

-- Where a loop stands: n brackets are open before x, and what is left of the group is what is left of g.
pub record Counting (src : List ℕ) (l : Leaf) (g : Got) (n : ℕ) (x : Seen) : Type 0 where
  pub errs : (ahead l n (unread src x)).errs ≡ g.errs
  pub rest : (ahead l n (unread src x)).rest ≡ g.rest
  pub held : Held src x
  pub few : n ≤ x.start

from_lparen : (src : List ℕ) (x : Seen) → x.kind ≡ Kind.LPAREN → ahead (leaf_seen src x) 0 (unread src x) ≡ group_at src x (unread src x)
from_lparen src x k = rw (one_seen src x (λ e. omega arith)) (ahead_start _ _ _ (eq-eqb x.kind Kind.LPAREN k))

pub counting_start : (src : List ℕ) (x : Seen) → Held src x → x.kind ≡ Kind.LPAREN → Counting src (leaf_seen src x) (group_at src x (unread src x)) 0 x
counting_start src x h k = let q = from_lparen src x k in record { errs = ap (λ g. g.errs) q; rest = ap (λ g. g.rest) q; held = h; few = omega arith }

-- One leaf further, with k brackets open behind it.
module _ {src : List ℕ} {l : Leaf} {g : Got} {n : ℕ} {x : Seen} (i : Counting src l g n x) where
  pub counting_end : x.kind ≡ 0 → false ≡ closed g
  unfolding ahead pp_rs_ident
  counting_end e = ap none_met (sym (ap (λ ts. (ahead l n ts).errs) (none_seen src x e)) ∙ i.errs)

  module _ (z : x.kind ≡ 0 → ⊥) where
    pub counting_few : length src ≤ longest_source → n ≤ longest_source
    unfolding Held
    counting_few s = omega (arith, i.few, (i.held z).1, held_within src x i.held z)

    module _ {k : ℕ} (e : k ≡ brackets x.kind n) where
      behind : ahead l n (unread src x) ≡ push (leaf_seen src x) (inside l k (leaves_from src x.end x.angle))
      unfolding ahead
      behind = ap (ahead l n) (one_seen src x z) ∙ ap (λ m. push (leaf_seen src x) (inside l m (leaves_from src x.end x.angle))) (sym e)

      pub counting_closed : k ≡ 0 → true ≡ closed g
      unfolding inside nothing
      counting_closed c = ap none_met (sym (ap (λ m. (inside l m (leaves_from src x.end x.angle)).errs) c) ∙ sym (ap (λ h. h.errs) behind) ∙ i.errs)

      module _ {y : Seen} (s : Sees src x.end x.angle y) where
        pub counting_fewer : length (unread src y) < length (unread src x)
        counting_fewer = rw (s.rest, one_seen src x z) (omega arith)

        onward : (k ≡ 0 → ⊥) → ahead l n (unread src x) ≡ push (leaf_seen src x) (ahead l k (unread src y))
        onward o = behind ∙ ap (push (leaf_seen src x)) (ap (inside l k) (sym s.rest) ∙ inside_ahead l k (unread src y) o)

        pub counting_more : (k ≡ 0 → ⊥) → Counting src l g k y
        unfolding Held
        counting_more o = record {
          errs = sym (ap (λ h. h.errs) (onward o)) ∙ i.errs;
          rest = sym (ap (λ h. h.rest) (onward o)) ∙ i.rest;
          held = s.held;
          few = omega (arith, e, brackets_most x.kind n, i.few, (i.held z).1, s.starts);
        }

-- The same with a writer: the leaves from x on still go to it.
pub record Grouping (src : List ℕ) (l : Leaf) (g : Got) (t₀ : List ℕ) (p₀ : Pen) (n : ℕ) (x : Seen) (t : List ℕ) (p : Pen) : Type 0 where
  pub at : Counting src l g n x
  pub tree : leafs (sheet t p) (leaves (ahead l n (unread src x)).tree) ≡ leafs (sheet t₀ p₀) (leaves g.tree)

pub grouping_start : (src t : List ℕ) (p : Pen) (x : Seen) → Held src x → x.kind ≡ Kind.LPAREN
    → Grouping src (leaf_seen src x) (group_at src x (unread src x)) t p 0 x t p
grouping_start src t p x h k =
    record { at = counting_start src x h k; tree = ap (λ h. leafs (sheet t p) (leaves h.tree)) (from_lparen src x k) }

-- A leaf more went to the writer.
module _ {src : List ℕ} {l : Leaf} {g : Got} {t₀ : List ℕ} {p₀ : Pen} {n : ℕ} {x : Seen} {t : List ℕ} {p : Pen} (i : Grouping src l g t₀ p₀ n x t p) (z : x.kind ≡ 0 → ⊥)
    {k : ℕ} (e : k ≡ brackets x.kind n) {t' : List ℕ} {p' : Pen} (w : sheet t' p' ≡ leafed x.kind x.start x.end (sheet t p)) where
  tree_behind : leafs (sheet t' p') (leaves (inside l k (leaves_from src x.end x.angle)).tree) ≡ leafs (sheet t₀ p₀) (leaves g.tree)
  unfolding Held leafs leaves
  tree_behind =
      let us : List Leaf = leaves (inside l k (leaves_from src x.end x.angle)).tree in
      ap (λ v. leafs v us) (w ∙ ap (λ b. leafed x.kind x.start b (sheet t p)) (sym (i.at.held z).0))
      ∙ ap (λ h. leafs (sheet t p) (leaves h.tree)) (sym (behind i.at z e)) ∙ i.tree

  pub grouping_more : {y : Seen} → Sees src x.end x.angle y → (k ≡ 0 → ⊥) → Grouping src l g t₀ p₀ k y t' p'
  grouping_more {y} s o = record {
    at = counting_more i.at z e s o;
    tree = ap (λ h. leafs (sheet t' p') (leaves h.tree)) (sym (inside_ahead l k (unread src y) o) ∙ ap (inside l k) s.rest) ∙ tree_behind;
  }

-- The group is closed, or the source is at its end.
module _ {src t₀ : List ℕ} {r₀ : Run} {n : ℕ} {x : Seen} {t : List ℕ} {p : Pen}
    (i : Grouping src (leaf_seen src r₀.seen) (group_at src r₀.seen (unread src r₀.seen)) t₀ r₀.pen n x t p) {r : Run} where
  pub grouping_end : x.kind ≡ 0 → r ≡ run_of x p → Takes src (group_at src r₀.seen) t₀ r₀ t r
  unfolding ahead pp_rs_ident nothing leaves leafs
  grouping_end e q =
      let v = none_seen src x e in
      rw q (record { tree = rw v at i.tree; rest = v ∙ rw v at i.at.rest; held = i.at.held })

  pub grouping_closed : (x.kind ≡ 0 → ⊥) → {k : ℕ} → k ≡ brackets x.kind n → {t' : List ℕ} {p' : Pen} → sheet t' p' ≡ leafed x.kind x.start x.end (sheet t p)
      → {y : Seen} → Sees src x.end x.angle y → k ≡ 0 → r ≡ run_of y p' → Takes src (group_at src r₀.seen) t₀ r₀ t' r
  unfolding inside nothing leaves leafs
  grouping_closed z e w s c q = rw q (record {
    tree = rw c at (tree_behind i z e w);
    rest = s.rest ∙ rw c at (sym (ap (λ h. h.rest) (behind i.at z e)) ∙ i.at.rest);
    held = s.held;
  })

-- The same of a parser: nothing but the leaves and the place of the reading changed.
aside_same : (s : Parser) → Aside s s
aside_same s = record { kept = kept_same s; levels = refl; errors = refl; errs = refl; over = refl }

aside_then : {s s' s'' : Parser} → Aside s s' → Aside s' s'' → Aside s s''
aside_then x y = record {
  kept = kept_then x.kept y.kept;
  levels = y.levels ∙ x.levels;
  errors = y.errors ∙ x.errors;
  errs = y.errs ∙ x.errs;
  over = y.over ∙ x.over;
}

pub record Gathering (s₀ : Parser) (n : ℕ) (s : Parser) : Type 0 where
  pub aside : Aside s₀ s
  pub group : Grouping (source_of s₀) (leaf_seen (source_of s₀) s₀.state.run.seen)
      (group_at (source_of s₀) s₀.state.run.seen (unread (source_of s₀) s₀.state.run.seen)) s₀.table.now s₀.state.run.pen n s.state.run.seen s.table.now s.state.run.pen

pub gathering_start : (s : Parser) → s.state.run.seen.kind ≡ Kind.LPAREN → Gathering s 0 s
gathering_start s k = record { aside = aside_same s; group = grouping_start (source_of s) s.table.now s.state.run.pen s.state.run.seen s.held k }

-- One leaf further.
module _ {s₀ s : Parser} {n : ℕ} (i : Gathering s₀ n s) where
  pub gathering_end : s.state.run.seen.kind ≡ 0 → Gathers (group_at (source_of s₀) s₀.state.run.seen) s₀ s
  gathering_end e = record { aside = i.aside; takes = grouping_end {r₀ = s₀.state.run} i.group e refl }

  module _ (z : s.state.run.seen.kind ≡ 0 → ⊥) where
    pub gathering_few : n ≤ longest_source
    gathering_few = counting_few i.group.at z s₀.source.short

    module _ {x : Seen} (q : x ≡ s.state.run.seen) {k : ℕ} (e : k ≡ brackets x.kind n) where
      next : {y : Seen} → Sees (source_of s) x.end x.angle y → Sees (source_of s₀) s.state.run.seen.end s.state.run.seen.angle y
      next {y} v = subst (λ l. Sees l s.state.run.seen.end s.state.run.seen.angle y) (same_source i.aside.kept) (rw q at v)

      pub gathering_fewer : {y : Seen} → Sees (source_of s) x.end x.angle y → length (unread (source_of s) y) < length (unread (source_of s) s.state.run.seen)
      gathering_fewer v = rw (same_source i.aside.kept) (counting_fewer i.group.at z (rw q at e) (next v))

      module _ {s' : Parser} (a : Aside s s') (w : sheet s'.table.now s'.state.run.pen ≡ leafed x.kind x.start x.end (sheet s.table.now s.state.run.pen))
          (v : Sees (source_of s) x.end x.angle s'.state.run.seen) where
        pub gathering_closed : k ≡ 0 → Gathers (group_at (source_of s₀) s₀.state.run.seen) s₀ s'
        gathering_closed c = record { aside = aside_then i.aside a; takes = grouping_closed {r₀ = s₀.state.run} i.group z (rw q at e) (rw q at w) (next v) c refl }

        pub gathering_more : (k ≡ 0 → ⊥) → Gathering s₀ k s'
        gathering_more o = record { aside = aside_then i.aside a; group = grouping_more i.group z (rw q at e) (rw q at w) (next v) o }
