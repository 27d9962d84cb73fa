-- With tables of the needed length and the other conditions met, no call refuses.
use Prim.Native.Nat.{ℕ, ◌*◌, ◌≤◌}
use mathlib.Core.Path.{◌≡◌, ap, sym, subst}
use mathlib.Core.Bool.{true, false, not}
use mathlib.Core.List.{List, ◌++◌}
use borrow.Author.Tests.{le-ltb}
use lib.ListN.{length}
use Rattle.definition.specs.Utf8.{utf8}
use Rattle.definition.specs.LineMap.{line_starts}
use Rattle.definition.specs.Unescaped.{unescaped}
use Rattle.definition.specs.Glue.{tokens}
use Rattle.definition.specs.Tree.{Width, entries, body_concats}
use Rattle.definition.specs.Syntax.{parse_define_body}
use Rattle.definition.specs.Calls.{Check, longest_source, source_checks, full_reading, reading, reading_body, listing_tokens, building_lines, unescaping, looking_up, pasting, no_kind}
use Rattle.theorems.specs.Refusals.{Pass, Refuses, SomeOver, LineTable}
use Rattle.theorems.proofs.Refusals.{reading_refuses, body_refuses, tokens_refuses, lines_refuses, unescape_refuses, lookup_refuses, paste_refuses, length_entries, length_errors, length_tokens, too_many_when, line_table_when, unmet, source_passes, pass_then}

-- A call on a source asks that it is not too long, and UTF-8, and what else it checks.
source_accepts : (src : List ℕ) (r : ℕ) (cs : List Check) → Refuses r (source_checks src ++ cs) → length src ≤ longest_source → utf8 src ≡ true → Pass cs → r ≡ 0
source_accepts src r cs f n u p = f.accepted.1 (pass_then (source_checks src) cs (source_passes src n u) p)

-- Reading asks: a source that is not too long, UTF-8, few ## in each body, and three tables that are long enough.
pub reading_accepts : (src : List ℕ) (a b c : ℕ)
    → length src ≤ longest_source
    → utf8 src ≡ true
    → (SomeOver (full_reading src).concats → ⊥)
    → Width.entry * length (full_reading src).entry_list ≤ a
    → Width.error * length (full_reading src).error_list ≤ b
    → length (full_reading src).lines ≤ c
    → (reading src a b c).refused ≡ 0
unfolding Pass
reading_accepts src a b c n u m e r l = source_accepts src _ _ (reading_refuses src a b c) n u (
  unmet _ (λ q. m ((too_many_when _).0 q)),
  (le-ltb a _ (subst (λ x. x ≤ a) (sym (length_entries _)) e), (le-ltb b _ (subst (λ x. x ≤ b) (sym (length_errors _ _)) r), (le-ltb c _ l, tt))),
)

pub body_accepts : (src : List ℕ) (room : ℕ)
    → length src ≤ longest_source
    → utf8 src ≡ true
    → (SomeOver (body_concats (parse_define_body src)) → ⊥)
    → Width.entry * length (entries 0 0 (parse_define_body src)) ≤ room
    → (reading_body src room).refused ≡ 0
unfolding Pass
body_accepts src room n u m e = source_accepts src _ _ (body_refuses src room) n u (unmet _ (λ q. m ((too_many_when _).0 q)), (le-ltb room _ (subst (λ x. x ≤ room) (sym (length_entries _)) e), tt))

module _ (src : List ℕ) (room : ℕ) (n : length src ≤ longest_source) (u : utf8 src ≡ true) where
  pub tokens_accepts : Width.token * length (tokens false src) ≤ room → (listing_tokens src room).refused ≡ 0
  unfolding Pass
  tokens_accepts h = source_accepts src _ _ (tokens_refuses src room) n u (le-ltb room _ (subst (λ x. x ≤ room) (sym (length_tokens 0 (tokens false src))) h), tt)

  pub lines_accepts : length (line_starts src) ≤ room → (building_lines src room).refused ≡ 0
  unfolding Pass
  lines_accepts h = source_accepts src _ _ (lines_refuses src room) n u (le-ltb room _ h, tt)

  pub unescape_accepts : length (unescaped src) ≤ room → (unescaping src room).refused ≡ 0
  unfolding Pass
  unescape_accepts h = source_accepts src _ _ (unescape_refuses src room) n u (le-ltb room _ h, tt)

pub lookup_accepts : (lines : List ℕ) (offset : ℕ) → LineTable lines → (looking_up lines offset).refused ≡ 0
unfolding Pass
lookup_accepts lines offset h = (lookup_refuses lines offset).accepted.1 (ap not ((line_table_when lines).1 h), tt)

pub paste_accepts : (lhs rhs : ℕ) → (no_kind lhs).fails ≡ false → (no_kind rhs).fails ≡ false → (pasting lhs rhs).refused ≡ 0
unfolding Pass
paste_accepts lhs rhs a b = (paste_refuses lhs rhs).accepted.1 (a, (b, tt))
