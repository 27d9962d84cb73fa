-- The runs of a row join to the row, and those after the first are the runs of what it leaves.
use mathlib.Core.Path.{◌≡◌, refl, ap, sym}
use mathlib.Core.List.{List, [], ◌∷◌, ◌++◌, append_assoc}
use mathlib.Core.Option.{Option, none, some}
use lib.ListN.{length, drop}
use Rattle.definition.specs.Runs.{Run, joined, runs, grouped}

module _ {B S : Type 0} where
  pub joined_append : (a b : List (Run B S)) → joined (a ++ b) ≡ joined a ++ joined b
  unfolding joined
  joined_append [] b = refl
  joined_append (r ∷ a) b = ap (λ l. r.head ∷ l) (rw (joined_append a b) (sym (append_assoc r.tail (joined a) (joined b))))

module _ {B S : Type 0} (begin : S → B → S) (more : S → B → Option S) where
  pub joined_runs : (q : S) (bs : List B) → (runs begin more q bs).text ++ joined (runs begin more q bs).later ≡ bs
  unfolding runs joined
  joined_runs q [] = refl
  joined_runs q (b ∷ bs) = go (more q b) refl (λ p. joined_runs p bs)
    where
      go : (o : Option S) → more q b ≡ o
          → ((p : S) → (runs begin more p bs).text ++ joined (runs begin more p bs).later ≡ bs)
          → (runs begin more q (b ∷ bs)).text ++ joined (runs begin more q (b ∷ bs)).later ≡ b ∷ bs
      go (some q') e ih = rw (e, runs) (ap (λ l. b ∷ l) (ih q'))
      go none e ih = rw (e, runs) (ap (λ l. b ∷ l) (ih (begin q b)))

  pub joined_grouped : (q : S) (bs : List B) → joined (grouped begin more q bs) ≡ bs
  unfolding grouped joined
  joined_grouped q [] = refl
  joined_grouped q (b ∷ bs) = ap (λ l. b ∷ l) (joined_runs (begin q b) bs)

  pub restart : (q : S) (bs : List B)
      → (runs begin more q bs).later ≡ grouped begin more (runs begin more q bs).kind (drop (length (runs begin more q bs).text) bs)
  unfolding runs grouped
  restart q [] = refl
  restart q (b ∷ bs) = go (more q b) refl (λ p. restart p bs)
    where
      go : (o : Option S) → more q b ≡ o
          → ((p : S) → (runs begin more p bs).later ≡ grouped begin more (runs begin more p bs).kind (drop (length (runs begin more p bs).text) bs))
          → (runs begin more q (b ∷ bs)).later
          ≡ grouped begin more (runs begin more q (b ∷ bs)).kind (drop (length (runs begin more q (b ∷ bs)).text) (b ∷ bs))
      go (some q') e ih = rw (e, runs) (ih q')
      go none e ih = rw (e, runs) refl
