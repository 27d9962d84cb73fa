-- The search for the first name that is a word, and its place.
use native.Mathlib.Nat.{add-zero}
use native.Mathlib.Omega.{arith}
use lib.ListN.{length-drop}
use lib.Seq.{drop-drop, get_or-drop}
use borrow.Author.Tests.{le-leb, lt-leb}
use Rattle.std.proofs.Common.{ℕ, ◌≡◌, ◌∙◌, refl, sym, ap, ◌+◌, ◌-◌, ◌<◌, ◌≤◌, Bool, true, false, List, [], ◌∷◌, length, take, drop}
use Rattle.std.proofs.lemmas.List.{take_all}
use Rattle.definition.specs.Text.{none, some}
use Rattle.definition.specs.Condition.Meaning.{names, spells, first}
use Rattle.names.specs.Place.{name_from, name_at, Finds, Begins}

-- Fewer than four numbers are no name,
few : (ns : List ℕ) → length ns < 4 → names ns ≡ []
unfolding names
few [] h = refl
few (a ∷ []) h = refl
few (a ∷ b ∷ []) h = refl
few (a ∷ b ∷ c ∷ []) h = refl
few (a ∷ b ∷ c ∷ d ∷ ns) h = absurd (omega arith)

-- and four are one.
four : (ns : List ℕ) → 4 ≤ length ns → names ns ≡ name_from ns 0 ∷ names (drop 4 ns)
unfolding names
four [] h = absurd (omega arith)
four (a ∷ []) h = absurd (omega arith)
four (a ∷ b ∷ []) h = absurd (omega arith)
four (a ∷ b ∷ c ∷ []) h = absurd (omega arith)
four (a ∷ b ∷ c ∷ d ∷ ns) h = refl

-- None of the names before the rest is the word.
pub record Placing (ns text w rest : List ℕ) : Type 0 where
  pub is : first text w (names ns) ≡ first text w (names rest)
  pub within : length rest ≤ length ns
  pub rest_is : rest ≡ drop (length ns - length rest) ns

pub start : (ns text w : List ℕ) → Placing ns text w ns
start ns text w = let e : length ns - length ns ≡ 0 = omega arith in record { is = refl; within = omega arith; rest_is = rw e refl }

module _ (ns text w rest : List ℕ) (g : Placing ns text w rest) where
  pub none_left : length rest < 4 → Begins ns text w rest
  unfolding first name_at
  none_left h = record { found = g.is ∙ rw (few rest h, lt-leb 4 (length rest) h) refl; within = g.within; rest_is = g.rest_is }

  module _ (h : 4 ≤ length rest) (r : Bool) (q : r ≡ spells text w (name_from rest 0)) where
    pub here : r ≡ true → Begins ns text w rest
    unfolding first name_at
    here t = record { found = g.is ∙ rw (four rest h, sym q ∙ t, le-leb 4 (length rest) h) refl; within = g.within; rest_is = g.rest_is }

    pub later : r ≡ false → Placing ns text w (take (length rest - 4) (drop 4 rest))
    unfolding first
    later f =
        let l : length (drop 4 rest) ≡ length rest - 4 = length-drop 4 rest in
        let n : length ns - length rest + 4 ≡ length ns - (length rest - 4) = omega (arith, g.within) in
        rw (take_all (length rest - 4) (drop 4 rest) (omega (arith, l))) (record {
          is = g.is ∙ rw (four rest h, sym q ∙ f) refl;
          within = omega (arith, l, g.within);
          rest_is = ap (drop 4) g.rest_is ∙ drop-drop 4 (length ns - length rest) ns ∙ ap (λ m. drop m ns) (n ∙ ap (λ m. length ns - m) (sym l));
        })

-- The first name of the list from there on is that at its place.
module _ (ns text w rest : List ℕ) (g : Begins ns text w rest) where
  pub no_name : length rest < 4 → first text w (names ns) ≡ none
  unfolding name_at
  no_name h = g.found ∙ rw (lt-leb 4 (length rest) h) refl

  pub the_name : 4 ≤ length rest → first text w (names ns) ≡ some (name_from rest 0)
  unfolding name_at
  the_name h = g.found ∙ rw (le-leb 4 (length rest) h) refl

  pub no_place : length rest < 4 → Finds ns text w (length ns)
  unfolding name_at
  no_place h = record {
    found = no_name h ∙ rw (lt-leb (length ns + 4) (length ns) (omega arith)) refl;
    whole = λ l. absurd (omega (arith, l));
  }

  same_name : name_from rest 0 ≡ name_from ns (length ns - length rest)
  same_name = ap (λ s. name_from s 0) g.rest_is ∙ (let k = length ns - length rest in rw (get_or-drop k ns 0 0, get_or-drop k ns 1 0, get_or-drop k ns 2 0, get_or-drop k ns 3 0, add-zero k) refl)

  pub the_place : 4 ≤ length rest → Finds ns text w (length ns - length rest)
  unfolding name_at
  the_place h = record {
    found = the_name h ∙ ap some same_name ∙ rw (le-leb (length ns - length rest + 4) (length ns) (omega (arith, h, g.within))) refl;
    whole = λ l. omega (arith, h, g.within);
  }
