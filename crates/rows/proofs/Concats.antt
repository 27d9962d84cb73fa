-- The inside of a PP_CONCAT, leaf by leaf.
use Prim.Native.Nat.{ℕ, suc, ◌-◌, ◌<◌}
use native.Mathlib.Omega.{arith}
use mathlib.Core.Path.{◌≡◌, refl, sym, ap, ◌∙◌}
use mathlib.Core.Bool.{Bool, true, false, ◌||◌, true≢false, or-false, or-true}
use mathlib.Core.List.{List, ◌∷◌}
use borrow.Author.Tests.{eq-eqb, ne_eqb}
use lib.ListN.{length}
use Rattle.definition.specs.SyntaxKind.{Kind}
use Rattle.definition.specs.Tree.{Leaf}
use Rattle.definition.specs.Parser.{trivia, while, push, wrap}
use Rattle.theorems.specs.BodyRows.{ends, ended, under, concat_rest_within, concat_next_within, concat_within}
use Rattle.theorems.proofs.BodyRows.Cases.{within_ended, within_on, within_next_plain, within_next_none, within_next_op, concat_bump}
use Rattle.tree.specs.Machine.{Open, leaf_event, sheet, Writer, writer, leafed, leafs, step}
use Rattle.tree.specs.declared.Pen.{Pen}
use Rattle.parser.specs.declared.Seen.{Seen}
use Rattle.parser.specs.declared.trivia.Trivia.{Trivia}
use Rattle.parser.specs.Rest.{leaf_seen, unread, Held}
use Rattle.parser.specs.Passed.{Behind}
use Rattle.parser.proofs.Taking.{one_seen}
use Rattle.rows.specs.declared.BodyRow.{BodyRow}
use Rattle.rows.specs.Rowed.{beyond, behind_seen, Reached, reach, concat_from, Rowed, Shuts}
use Rattle.rows.proofs.Rowing.{reach_next, next_shorter, ended_next, beyond_ended, beyond_plain, beyond_none, beyond_op, leaf_run, reach_push, reach_under, rowed_as, rowed_shut, rowed_none}

-- Kinds that do not end a row, and ##.
pub not_end : (k : ℕ) (b : Bool) → b ≡ ends k → b ≡ false → k ≡ 0 → ⊥
not_end k b d e z = let q : ends 0 ≡ false = rw z at (sym d ∙ e) in true≢false q

pub op_some : (k : ℕ) → k ≡ Kind.PP_CONCAT_OP → k ≡ 0 → ⊥
op_some k e z = absurd (omega (arith, e, z))

pub op_inside : (k : ℕ) → k ≡ Kind.PP_CONCAT_OP → ends k ≡ false
op_inside k e = rw e refl

-- From a leaf on that is seen.
pub concat_seen : (src : List ℕ) (w : Writer) (a : ℕ) (many : Bool) (x : Seen) → (x.kind ≡ 0 → ⊥)
    → reach w (concat_within a (unread src x)) many ≡ reach (step (leaf_event (leaf_seen src x)) w) (concat_rest_within a (behind_seen src x)) many
concat_seen src w a many x z =
    rw (one_seen src x z, concat_bump (concat_rest_within a) (leaf_seen src x) (behind_seen src x)) (reach_push w many (leaf_seen src x) (concat_rest_within a (behind_seen src x)))

-- Where the loop stands: y, still to be written, and what is behind it lead to e.
pub record Leading (src : List ℕ) (a : ℕ) (e : Reached) (t₀ t o : List ℕ) (p : Pen) (y : Seen) (over : Bool) : Type 0 where
  pub leads : reach (step (leaf_event (leaf_seen src y)) (writer t o p)) (concat_rest_within a (behind_seen src y)) (over || beyond a (behind_seen src y)) ≡ e
  pub held : Held src y
  pub some_kind : y.kind ≡ 0 → ⊥
  pub fresh : (a ≡ 0 → ⊥) → over ≡ false
  pub long : length t ≡ length t₀

pub leading_start : (src : List ℕ) (a : ℕ) (x : Seen) (t o : List ℕ) (p : Pen) → Held src x → x.kind ≡ Kind.PP_CONCAT_OP
    → Leading src a (concat_from src (writer t o p) a x) t t o p x false
leading_start src a x t o p h e = record {
  leads = sym (concat_seen src (writer t o p) a (beyond a (behind_seen src x)) x (op_some x.kind e));
  held = h;
  some_kind = op_some x.kind e;
  fresh = λ n. refl;
  long = refl;
}

module _ {src : List ℕ} {a : ℕ} {e : Reached} {t₀ t o : List ℕ} {p : Pen} {y : Seen} {over : Bool} (k : Leading src a e t₀ t o p y over)
    {t₁ : List ℕ} {p₁ : Pen} (w : sheet t₁ p₁ ≡ leafed y.kind y.start y.end (sheet t p))
    {q : Trivia} (d : Behind src y.end y.angle q) {b : Bool} (f : b ≡ ends q.next.kind) where
  abbrev us : List Leaf
  us = unread src q.first

  abbrev v : Leaf
  v = leaf_seen src q.next

  abbrev vs : List Leaf
  vs = behind_seen src q.next

  ended_here : ended us ≡ b
  ended_here = ended_next src q d.passed ∙ sym f

  leads_here : reach (writer t₁ o p₁) (concat_rest_within a us) (over || beyond a us) ≡ e
  leads_here = rw (leaf_run t p o src y k.held k.some_kind w, d.first_is) k.leads

  pub concat_long : length t₁ ≡ length t → length t₁ ≡ length t₀
  concat_long l = l ∙ k.long

  pub concat_ends : b ≡ true → Rowed src e t₁ o (record { pen = p₁; trivia = q; over = over })
  concat_ends g =
      let n : ended us ≡ true = ended_here ∙ g in
      rowed_none (rw (within_ended a us n, beyond_ended a us n, or-false over) at leads_here) d.passed

  module _ (g : b ≡ false) {t₂ : List ℕ} {p₂ : Pen} (w₂ : sheet t₂ p₂ ≡ leafs (sheet t₁ p₁) (while trivia (unread src q.first))) where
    next_some : q.next.kind ≡ 0 → ⊥
    next_some = not_end q.next.kind b f g

    -- The trivia goes to the writer.
    leads_next : reach (writer t₂ o p₂) (concat_next_within a (v ∷ vs)) (over || beyond a us) ≡ e
    leads_next =
        rw (one_seen src q.next next_some) at (
        sym (reach_next src q d.passed t₁ o p₁ w₂ (concat_next_within a) (over || beyond a us)) ∙ (rw (within_on a us (ended_here ∙ g)) at leads_here)
        )

    pub concat_fewer : length (unread src q.next) < length (unread src y)
    concat_fewer = rw (one_seen src y k.some_kind, ← d.first_is) (omega (arith, next_shorter src q d.passed))

    -- Another leaf, or a ## beyond the allowance, is a leaf of this node.
    leaf_next : (many : Bool) → concat_next_within a (v ∷ vs) ≡ push v (concat_rest_within a vs) → (many || beyond a vs) ≡ (over || beyond a us) → ((a ≡ 0 → ⊥) → many ≡ false)
        → length t₁ ≡ length t → length t₂ ≡ length t₁ → Leading src a e t₀ t₂ o p₂ q.next many
    leaf_next many c m h l l₂ = record {
      leads = sym (reach_push (writer t₂ o p₂) (many || beyond a vs) v (concat_rest_within a vs)) ∙ (rw (c, ← m) at leads_next);
      held = d.passed.next_held;
      some_kind = next_some;
      fresh = h;
      long = l₂ ∙ l ∙ k.long;
    }

    pub concat_plain : (q.next.kind ≡ Kind.PP_CONCAT_OP → ⊥) → length t₁ ≡ length t → length t₂ ≡ length t₁ → Leading src a e t₀ t₂ o p₂ q.next over
    concat_plain z =
        leaf_next over (within_next_plain a v vs (ne_eqb _ _ z)) (ap (λ x. over || x) (sym (beyond_plain src q d.passed next_some (ended_here ∙ g) z a))) k.fresh

    module _ (z : q.next.kind ≡ Kind.PP_CONCAT_OP) where
      pub concat_over : a ≡ 0 → length t₁ ≡ length t → length t₂ ≡ length t₁ → Leading src a e t₀ t₂ o p₂ q.next true
      concat_over h =
          leaf_next true (rw h (within_next_none v vs (eq-eqb _ _ z)))
          (sym (ap (λ x. over || x) (beyond_none src q d.passed next_some (ended_here ∙ g) z a h) ∙ or-true over)) (λ n. absurd (n h))

      -- A ## within the allowance opens a node.
      module _ (h : a ≡ 0 → ⊥) where
        beyond_here : (over || beyond a us) ≡ beyond (a - 1) vs
        beyond_here = ap (λ n. n || beyond a us) (k.fresh h) ∙ beyond_op src q d.passed next_some (ended_here ∙ g) z a h

        inner : concat_next_within a (v ∷ vs) ≡ under Kind.PP_CONCAT (concat_within (a - 1) (unread src q.next))
        unfolding wrap
        inner =
            let n : a ≡ suc (a - 1) = omega arith in
            ap (λ i. concat_next_within i (v ∷ vs)) n ∙ within_next_op (a - 1) v vs (eq-eqb _ _ z)
            ∙ ap (λ l. under Kind.PP_CONCAT (concat_within (a - 1) l)) (sym (one_seen src q.next next_some))

        pub concat_inner : {t₃ o₃ : List ℕ} {p₃ : Pen} → writer t₃ o₃ p₃ ≡ step Open (writer t₂ o p₂) → {t₄ o₄ : List ℕ} {r : BodyRow}
            → Rowed src (concat_from src (writer t₃ o₃ p₃) (a - 1) q.next) t₄ o₄ r
            → {t₅ o₅ : List ℕ} {r₅ : BodyRow} → Shuts Kind.PP_CONCAT t₄ o₄ r t₅ o₅ r₅ → Rowed src e t₅ o₅ r₅
        concat_inner i j s = rowed_as
            (rw i (sym (reach_under (writer t₂ o p₂) (beyond (a - 1) vs) Kind.PP_CONCAT (concat_within (a - 1) (unread src q.next))) ∙ (rw (inner, beyond_here) at leads_next)))
            (rowed_shut j s)
