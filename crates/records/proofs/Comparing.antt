-- The walk over the records of a file.
use Prim.Native.Nat.{◌-◌}
use native.Mathlib.Omega.{arith}
use native.Mathlib.Numerals.{add-one}
use mathlib.Core.Path.{ap, subst}
use lib.ListN.{length-drop}
use lib.Seq.{drop-drop, get_or-drop}
use borrow.Author.Tests.{lt-ltb, le-ltb}
use Rattle.std.proofs.Common.{ℕ, zero, suc, ◌≡◌, ◌∙◌, sym, refl, ◌+◌, ◌<◌, ◌≤◌, Bool, true, false, List, [], ◌∷◌, length, take, drop, get_or, Option, Some, None, Ok, Err, IfSome, Bor, option_copied, if◌then◌else◌}
use Rattle.std.proofs.lemmas.Option.{IfSome_then}
use Rattle.definition.specs.Text.{leb, eqb}
use Rattle.records.specs.Numbers.{pair, number}
use Rattle.records.specs.Stand.{width, value, stands, passed}
use Rattle.records.specs.Answers.{answer_behind}
use Rattle.records.specs.Compared.{answer_at, behind, compared_from, compared}
use Rattle.records.specs.declared.agree.Call.{Call}
use Rattle.records.specs.declared.agree.Call.TheVariants.{Tokens, Lines, Unescape, Lookup, Paste, Read, Body}

module _ (call : Call) (s : List ℕ) where
  -- A record is cut off, or its answer is looked at.
  pub behind_cut : length s < answer_at s → behind call s ≡ None
  unfolding behind
  behind_cut h = rw (lt-ltb (length s) (answer_at s) h)

  place : (k : ℕ) → get_or (drop 2 s) k 0 ≡ get_or s (2 + k) 0
  place k = get_or-drop 2 s k 0

  number_behind : number (drop 2 s) 0 ≡ number s 2
  number_behind = rw (place 0, place 1, place 2, place 3)

  module _ (framed rest input answer : List ℕ) (size n : ℕ) (e : framed ≡ drop 2 s) (f : size ≡ pair s 0) (g : n ≡ number framed 0) (q : rest ≡ drop 4 framed) where
    pub behind_whole : (r : Option (List ℕ)) → 4 ≤ length framed → size ≤ length rest → input ≡ take size rest → answer ≡ drop size rest → r ≡ answer_behind call n input answer → r ≡ behind call s
    unfolding behind
    behind_whole r h k t u w =
        let l : answer_at s ≤ length s = omega (arith, f, ap length e ∙ length-drop 2 s, ap length q ∙ length-drop 4 framed) in
        let v : rest ≡ drop 6 s = q ∙ rw (e, drop-drop) in
        let m : answer ≡ drop (answer_at s) s = u ∙ rw (v, f, drop-drop) in
        w ∙ rw (m, t, v, f, g, e, number_behind, le-ltb (length s) (answer_at s) l)

-- What is behind an answer is not longer than what begins with it.
abbrev Within : ℕ → Option (List ℕ) → Type 0
Within n o = IfSome o (λ rest. length rest ≤ n)

stands_within : (x : ℕ) (s : List ℕ) → Within (length s) (stands x s)
stands_within x s = go (leb (width s) (length s)) (eqb (value s) x)
  where
    go : (a b : Bool) → Within (length s) (if a then if b then Some (drop (width s) s) else None else None)
    go true true = omega (arith, length-drop (width s) s)
    go true false = tt
    go false b = tt

passed_within : (row s : List ℕ) → Within (length s) (passed row s)
unfolding passed
passed_within [] s = omega arith
passed_within (x ∷ row) s = go (λ rest. passed_within row rest) (stands x s) (stands_within x s)
  where
    go : ((rest : List ℕ) → Within (length rest) (passed row rest)) → (o : Option (List ℕ)) → Within (length s) o → Within (length s) (elim o [ Some rest ↦ passed row rest | None ↦ None ])
    go k (Some rest) h = IfSome_then (passed row rest) (k rest) (λ r p. omega arith)
    go k None h = tt

long_within : (b : Bool) (row s : List ℕ) → Within (length s) (if b then None else passed row s)
long_within true row s = tt
long_within false row s = passed_within row s

answer_within : (call : Call) (n : ℕ) (input s : List ℕ) → Within (length s) (answer_behind call n input s)
answer_within Tokens n input s = passed_within _ s
answer_within Lines n input s = passed_within _ s
answer_within Unescape n input s = passed_within _ s
answer_within Lookup n input s = long_within _ _ s
answer_within Paste n input s = long_within _ _ s
answer_within Read n input s = long_within _ _ s
answer_within Body n input s = passed_within _ s

pub behind_shorter : (r : Option (Bor (List ℕ))) (call : Call) (n size : ℕ) (input answer s framed rest : List ℕ) → framed ≡ drop 2 s → 4 ≤ length framed → rest ≡ drop 4 framed → size ≤ length rest → answer ≡ drop size rest
    → option_copied r ≡ answer_behind call n input answer → IfSome r (λ behind. length behind.now < length s)
behind_shorter (Some behind) call n size input answer s framed rest e h f k g q =
    let p : Within (length answer) (Some behind.now) = subst (λ o. Within (length answer) o) (sym q) (answer_within call n input answer) in
    omega (arith, p, ap length e ∙ length-drop 2 s, ap length f ∙ length-drop 4 framed, ap length g ∙ length-drop size rest)
behind_shorter None call n size input answer s framed rest e h f k g q = tt

-- So many records were read in front of the rest, and agree.
pub record Comparing (call : Call) (s : List ℕ) (records : ℕ) (rest : List ℕ) : Type 0 where
  pub few : records + length rest ≤ length s
  pub fuel : ℕ
  pub enough : length rest ≤ fuel
  pub same_as : compared call s ≡ compared_from fuel records call rest

module _ (call : Call) (s : List ℕ) (records : ℕ) (rest : List ℕ) (k : Comparing call s records rest) where
  module _ (h : 0 < length rest) where
    one_more : compared call s ≡ compared_from (suc (k.fuel - 1)) records call rest
    one_more = let e : k.fuel ≡ suc (k.fuel - 1) = omega (arith, k.enough) in k.same_as ∙ ap (λ f. compared_from f records call rest) e

    pub compare_on : (next : List ℕ) → Some next ≡ behind call rest → length next < length rest → Comparing call s (records + 1) next
    unfolding compared_from
    compare_on next e lt = record {
      few = omega (arith, k.few);
      fuel = k.fuel - 1;
      enough = omega (arith, k.enough);
      same_as = one_more ∙ rw (lt-ltb 0 (length rest) h, compared_from, ← e, add-one records);
    }

    pub compare_no : None ≡ behind call rest → Err (record { number = records + 1 }) ≡ compared call s
    unfolding compared_from
    compare_no e = sym (one_more ∙ rw (lt-ltb 0 (length rest) h, compared_from, ← e, add-one records))

  read_all : (fuel : ℕ) → length rest ≡ 0 → Ok records ≡ compared_from fuel records call rest
  unfolding compared_from
  read_all zero h = refl
  read_all (suc fuel) h = rw (h, compared_from)

  pub compare_all : length rest ≡ 0 → Ok records ≡ compared call s
  compare_all h = read_all k.fuel h ∙ sym k.same_as
