-- The order of refusals, and the refusals that the calls on a source share.
use Rattle.std.specs.Prelude.{if◌then◌else◌, ⊤, Result, Ok, Err}
use Prim.Native.Nat.{ℕ, ◌≤◌, ◌<◌}
use mathlib.Core.Path.{◌≡◌, refl, sym, ap, ◌∙◌}
use mathlib.Core.Bool.{Bool, true, false, not, and-eq-true_iff}
use mathlib.Core.List.{List, [], ◌∷◌, ◌++◌}
use lib.Dec.{eqb}
use lib.ListN.{length}
use borrow.Author.Tests.{lt-ltb, le-ltb, eq-eqb, ne_eqb, ltb-false, eqb-false, not-true}
use Rattle.definition.specs.Utf8.{left, utf8, ends_inside, nothing, cut, broken}
use Rattle.definition.specs.Utf8 as definition
use Rattle.definition.specs.Calls.{Check, refusal, longest_source, too_long, not_utf8, cut_off, utf8_checks, source_checks}
use Rattle.definition.specs.Calls as calls
use Rattle.theorems.proofs.Refusals.{lacks, numbered}
use Rattle.text.specs.Refusal.{number}
use Rattle.text.specs.Utf8.{told, Refuses}
use Rattle.text.specs.declared.refusal.Refusal.{Refusal}
use Rattle.text.specs.declared.utf8.Utf8Error.{Utf8Error}
use Rattle.text.specs.declared.utf8.Utf8Error.TheVariants.{Cut, Broken}

-- The refusals of a call in two parts: the first part decides unless it passes.
pub refusal_split : (front rest : List Check) → numbered front ≡ true
    → refusal (front ++ rest) ≡ (if eqb (refusal front) 0 then refusal rest else refusal front)
unfolding refusal lacks
refusal_split [] rest h = refl
refusal_split (c ∷ front) rest h =
    let p = (and-eq-true_iff (not (eqb c.number 0)) (numbered front)).0 h in
    go c.fails (not-true (eqb c.number 0) p.0) (refusal_split front rest p.1)
  where
    go : (t : Bool) → eqb c.number 0 ≡ false
        → refusal (front ++ rest) ≡ (if eqb (refusal front) 0 then refusal rest else refusal front)
        → (if t then c.number else refusal (front ++ rest))
        ≡ (if eqb (if t then c.number else refusal front) 0 then refusal rest else (if t then c.number else refusal front))
    go true z ih = rw z
    go false z ih = ih

pub refusal_passed : (c : Check) (cs : List Check) → numbered (c ∷ cs) ≡ true → refusal (c ∷ cs) ≡ 0 → c.fails ≡ false
unfolding refusal lacks
refusal_passed c cs h e = go c.fails ((and-eq-true_iff (not (eqb c.number 0)) (numbered cs)).0 h).0 e
  where
    go : (t : Bool) → not (eqb c.number 0) ≡ true → (if t then c.number else refusal cs) ≡ 0 → t ≡ false
    go true n e = absurd (eqb-false c.number 0 (not-true (eqb c.number 0) n) e)
    go false n e = refl

-- What every source is refused for, with other refusals after it.
abbrev pub source_then : List ℕ → List Check → List Check
source_then src cs = source_checks src ++ cs

-- By what is left of it.
abbrev refused_by : definition.Left → ℕ
refused_by nothing = 0
refused_by cut = calls.Refusal.CUT
refused_by broken = calls.Refusal.UTF8

module _ (src : List ℕ) where
  pub long_source : longest_source < length src → (too_long src).number ≡ refusal (source_checks src)
  unfolding refusal
  long_source h = rw (lt-ltb longest_source (length src) h)

  -- What is left of a source that is not too long decides whether it is refused,
  left_refusal : (l : definition.Left) → length src ≤ longest_source → left [] src ≡ l → refused_by l ≡ refusal (source_checks src)
  unfolding refusal utf8 ends_inside
  left_refusal nothing h d = rw (le-ltb longest_source (length src) h, d, utf8, ends_inside)
  left_refusal cut h d = rw (le-ltb longest_source (length src) h, d, utf8, ends_inside)
  left_refusal broken h d = rw (le-ltb longest_source (length src) h, d, utf8, ends_inside)

  -- and the UTF-8 check tells it.
  module _ (l : Result ⊤ Utf8Error) (h : length src ≤ longest_source) (e : told l ≡ left [] src) where
    pub whole_source : (x : ⊤) → l ≡ Ok x → 0 ≡ refusal (source_checks src)
    whole_source x q = left_refusal nothing h (sym e ∙ ap told q)

    pub refused_source : (u : Utf8Error) (r : Refusal) → l ≡ Err u → Refuses u r → number r ≡ refusal (source_checks src)
    refused_source Cut r q k = ap number k ∙ left_refusal cut h (sym e ∙ ap told q)
    refused_source Broken r q k = ap number k ∙ left_refusal broken h (sym e ∙ ap told q)

-- What a source is refused for comes first, and if it is not refused, the other refusals of the call decide.
module _ (src : List ℕ) (r : ℕ) (e : r ≡ refusal (source_checks src)) where
  split : (cs : List Check) → refusal (source_then src cs) ≡ (if eqb r 0 then refusal cs else r)
  unfolding lacks
  split cs = rw e (refusal_split (source_checks src) cs refl)

  pub source_refused : (cs : List Check) → (r ≡ 0 → ⊥) → refusal (source_then src cs) ≡ r
  source_refused cs z = split cs ∙ rw (ne_eqb r 0 z)

  pub source_passed : (cs : List Check) → r ≡ 0 → refusal (source_then src cs) ≡ refusal cs
  source_passed cs z = split cs ∙ rw (eq-eqb r 0 z)

  pub source_length : r ≡ 0 → length src ≤ longest_source
  unfolding lacks
  source_length z = ltb-false longest_source (length src) (refusal_passed (too_long src) (utf8_checks src) refl (sym e ∙ z))
