-- A row up to its first ##, and from there on.
use Prim.Native.Nat.{ℕ, ◌-◌, ◌<◌}
use native.Mathlib.Omega.{arith}
use mathlib.Core.Path.{◌≡◌, refl, sym, ap, ◌∙◌}
use mathlib.Core.Bool.{Bool, true, false, false≢true}
use mathlib.Core.List.{List, ◌∷◌}
use borrow.Author.Tests.{eq-eqb, ne_eqb}
use lib.ListN.{length}
use Rattle.definition.specs.SyntaxKind.{Kind}
use Rattle.definition.specs.Tree.{Leaf, ◌▹◌}
use Rattle.definition.specs.Parser.{trivia, while, push, ◌then◌, wrap, bump}
use Rattle.definition.specs.Calls.{most_concats}
use Rattle.theorems.specs.BodyRows.{ends, op_ahead, ended, concat_by, pasting_by, tokens_rest_by, tokens_next_by}
use Rattle.theorems.proofs.BodyRows.Cases.{tokens_rest_ended, tokens_rest_on, tokens_next_paste, tokens_next_plain, row_paste, row_plain}
use Rattle.tree.specs.Machine.{Open, sheet, Writer, writer, leafed, leafs, step}
use Rattle.tree.specs.declared.Pen.{Pen}
use Rattle.tree.proofs.Runs.{leaf_step}
use Rattle.parser.specs.declared.Seen.{Seen}
use Rattle.parser.specs.declared.trivia.Trivia.{Trivia}
use Rattle.parser.specs.Rest.{leaf_seen, unread}
use Rattle.parser.specs.Passed.{Passed, Behind}
use Rattle.parser.proofs.Taking.{one_seen}
use Rattle.rows.specs.declared.BodyRow.{BodyRow}
use Rattle.rows.specs.Rowed.{beyond, concat_rest_most, seen_event, behind_seen, Reached, reach, shut, concat_from, pasting_shut, row_from, Rowed, Shuts}
use Rattle.rows.proofs.Rowing.{reach_next, next_shorter, ended_next, op_next, beyond_ended, beyond_plain, beyond_op, seen_leaf, leaf_run, reach_push, reach_under, rowed_as, rowed_shut, rowed_none}
use Rattle.rows.proofs.Concats.{not_end, op_some, op_inside}

-- From the trivia before the first ## on.
pub pasting_read : (src : List ℕ) (q : Trivia) (t o : List ℕ) (p : Pen) (t₁ : List ℕ) (p₁ : Pen) (t₂ o₂ : List ℕ) (r : BodyRow) (t₃ o₃ : List ℕ) (r₃ : BodyRow)
    → Passed src q → q.next.kind ≡ Kind.PP_CONCAT_OP
    → sheet t₁ p₁ ≡ leafs (sheet t p) (while trivia (unread src q.first))
    → Rowed src (concat_from src (writer t₁ o p₁) (most_concats - 1) q.next) t₂ o₂ r
    → Shuts Kind.PP_CONCAT t₂ o₂ r t₃ o₃ r₃ → Rowed src (pasting_shut (writer t o p) (unread src q.first)) t₃ o₃ r₃
unfolding pasting_by
pasting_read src q t o p t₁ p₁ t₂ o₂ r t₃ o₃ r₃ k e w j s =
    let us = unread src q.first in
    let many = beyond (most_concats - 1) (behind_seen src q.next) in
    let m : many ≡ beyond most_concats us
    = sym (beyond_op src q k (op_some _ e) (ended_next src q k ∙ op_inside _ e) e most_concats (λ h. absurd (omega (arith, h)))) in
    rowed_shut (rowed_as
    (sym (reach_next src q k t o p w (concat_by concat_rest_most) many) ∙ ap (reach (writer t o p) (pasting_by concat_rest_most us)) m) j) s

-- From the start of its node on, and with a leaf before it.
pub first_read : (src : List ℕ) (ts : List Leaf) (w v : Writer) (t o : List ℕ) (r : BodyRow) → w ≡ v → Rowed src (pasting_shut w ts) t o r → Rowed src (pasting_shut v ts) t o r
first_read src ts w v t o r e j = rw (← e) j

pub wrapping_read : (src : List ℕ) (ts : List Leaf) (x : Seen) (v : Writer) (t₁ o₁ : List ℕ) (p₁ : Pen) (t₂ : List ℕ) (p₂ : Pen) (t o : List ℕ) (r : BodyRow)
    → writer t₁ o₁ p₁ ≡ v → sheet t₂ p₂ ≡ leafed x.kind x.start x.end (sheet t₁ p₁)
    → Rowed src (pasting_shut (writer t₂ o₁ p₂) ts) t o r → Rowed src (pasting_shut (step (seen_event x) v) ts) t o r
wrapping_read src ts x v t₁ o₁ p₁ t₂ p₂ t o r e w j =
    first_read src ts (writer t₂ o₁ p₂) (step (seen_event x) v) t o r
    (leaf_step x.kind x.start x.end (sheet t₁ p₁) (sheet t₂ p₂) o₁ w ∙ ap (step (seen_event x)) e) j

-- Where the loop stands: the row from the trivia q on leads to e.
pub record RowLeading (src : List ℕ) (e : Reached) (t₀ t o : List ℕ) (p : Pen) (q : Trivia) : Type 0 where
  pub leads : row_from (writer t o p) (unread src q.first) ≡ e
  pub passed : Passed src q
  pub long : length t ≡ length t₀

pub row_start : (src : List ℕ) (q : Trivia) (t o : List ℕ) (p : Pen) → Passed src q
    → RowLeading src (row_from (writer t o p) (unread src q.first)) t t o p q
row_start src q t o p k = record { leads = refl; passed = k; long = refl }

module _ {src : List ℕ} {e : Reached} {t₀ t o : List ℕ} {p : Pen} {q : Trivia} (k : RowLeading src e t₀ t o p q) where
  abbrev us : List Leaf
  us = unread src q.first

  abbrev v : Leaf
  v = leaf_seen src q.next

  abbrev vs : List Leaf
  vs = behind_seen src q.next

  -- A ## is the first token.
  pub tokens_first : q.next.kind ≡ Kind.PP_CONCAT_OP → {t' o' : List ℕ} {r : BodyRow}
      → Rowed src (pasting_shut (step Open (writer t o p)) (unread src q.first)) t' o' r → Rowed src e t' o' r
  unfolding wrap
  tokens_first z = rowed_as
      (sym (reach_under (writer t o p) (beyond most_concats us) Kind.PP_CONCAT (pasting_by concat_rest_most us))
      ∙ (rw (row_paste concat_rest_most us (op_next src q k.passed ∙ eq-eqb q.next.kind Kind.PP_CONCAT_OP z)) at k.leads))

  module _ (z : q.next.kind ≡ Kind.PP_CONCAT_OP → ⊥) where
    leads_plain : reach (writer t o p) (tokens_rest_by concat_rest_most us) (beyond most_concats us) ≡ e
    leads_plain = rw (row_plain concat_rest_most us (op_next src q k.passed ∙ ne_eqb q.next.kind Kind.PP_CONCAT_OP z)) at k.leads

  module _ {b : Bool} (f : b ≡ ends q.next.kind) where
    ended_here : ended us ≡ b
    ended_here = ended_next src q k.passed ∙ sym f

    -- The row has ended.
    pub tokens_end : b ≡ true → Rowed src e t o (record { pen = p; trivia = q; over = false })
    tokens_end g =
        let n : ended us ≡ true = ended_here ∙ g in
        let z : q.next.kind ≡ Kind.PP_CONCAT_OP → ⊥ = λ i. absurd (false≢true (sym (op_inside _ i) ∙ sym f ∙ g)) in
        rowed_none (rw (tokens_rest_ended concat_rest_most us n, beyond_ended most_concats us n) at (leads_plain z)) k.passed

    -- A token that goes to the writer, with the trivia before it.
    module _ (g : b ≡ false) {q' : Trivia} (d : Behind src q.next.end q.next.angle q') where
      some : q.next.kind ≡ 0 → ⊥
      some = not_end q.next.kind b f g

      pub tokens_fewer : length (unread src q'.first) < length (unread src q.first)
      tokens_fewer = omega (arith, next_shorter src q k.passed, ap length (one_seen src q.next some), ap length d.first_is)

      module _ (z : q.next.kind ≡ Kind.PP_CONCAT_OP → ⊥) {t₁ : List ℕ} {p₁ : Pen} (w : sheet t₁ p₁ ≡ leafs (sheet t p) (while trivia (unread src q.first))) where
        abbrev ws : List Leaf
        ws = unread src q'.first

        leads_next : reach (writer t₁ o p₁) (tokens_next_by concat_rest_most (v ∷ ws)) (beyond most_concats ws) ≡ e
        leads_next =
            rw (one_seen src q.next some, ← d.first_is) at (
            sym (reach_next src q k.passed t o p w (tokens_next_by concat_rest_most) (beyond most_concats vs))
            ∙ (rw (tokens_rest_on concat_rest_most us (ended_here ∙ g), beyond_plain src q k.passed some (ended_here ∙ g) z most_concats) at (leads_plain z))
            )

        -- It is wrapped, with the ## behind it.
        pub tokens_wrap : q'.next.kind ≡ Kind.PP_CONCAT_OP → {t' o' : List ℕ} {r : BodyRow}
            → Rowed src (pasting_shut (step (seen_event q.next) (step Open (writer t₁ o p₁))) (unread src q'.first)) t' o' r → Rowed src e t' o' r
        unfolding wrap ◌then◌ bump ◌▹◌
        tokens_wrap y = rowed_as
            (ap (λ x. pasting_shut (step x (step Open (writer t₁ o p₁))) ws) (seen_leaf src q.next k.passed.next_held some)
            ∙ sym (ap (shut Kind.PP_CONCAT) (reach_push (step Open (writer t₁ o p₁)) (beyond most_concats ws) v (pasting_by concat_rest_most ws)))
            ∙ sym (reach_under (writer t₁ o p₁) (beyond most_concats ws) Kind.PP_CONCAT (push v (pasting_by concat_rest_most ws)))
            ∙ (rw (tokens_next_paste concat_rest_most v ws (op_next src q' d.passed ∙ eq-eqb q'.next.kind Kind.PP_CONCAT_OP y)) at leads_next))

        -- It is a leaf of the row.
        pub tokens_more : (q'.next.kind ≡ Kind.PP_CONCAT_OP → ⊥) → {t₂ : List ℕ} {p₂ : Pen} → sheet t₂ p₂ ≡ leafed q.next.kind q.next.start q.next.end (sheet t₁ p₁)
            → length t₁ ≡ length t → length t₂ ≡ length t₁ → RowLeading src e t₀ t₂ o p₂ q'
        tokens_more y {t₂} {p₂} m l l₂ =
            let n : op_ahead ws ≡ false = op_next src q' d.passed ∙ ne_eqb _ _ y in
            record {
              leads =
                  rw (leaf_run t₁ p₁ o src q.next k.passed.next_held some m, row_plain concat_rest_most ws n)
                  (sym (reach_push (writer t₁ o p₁) (beyond most_concats ws) v (tokens_rest_by concat_rest_most ws)) ∙ (rw (tokens_next_plain concat_rest_most v ws n) at leads_next));
              passed = d.passed;
              long = l₂ ∙ l ∙ k.long;
            }
