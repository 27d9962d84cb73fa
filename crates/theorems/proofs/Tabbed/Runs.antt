-- The runs of a row whose elements are renamed: they are the row's runs, renamed, where neither step tells the difference.
use mathlib.Core.Path.{◌≡◌, refl, ap, sym, ◌∙◌}
use mathlib.Core.List.{List, [], ◌∷◌, map, map-append}
use mathlib.Core.Option.{Option, none, some}
use Rattle.definition.specs.Runs.{Run, Row, put, list, joined, runs, grouped}

-- A state under another name.
abbrev pub onto : {S T : Type 0} → (S → T) → Option S → Option T
onto k none = none
onto k (some q) = some (k q)

pub onto_same : {S : Type 0} (o : Option S) → o ≡ onto (λ q. q) o
onto_same none = refl
onto_same (some q) = refl

-- g renames the elements, k the states.
module _ {B C S T : Type 0} (g : B → C) (k : S → T) where
  abbrev pub run_as : Run B S → Run C T
  run_as r = record { kind = k r.kind; head = g r.head; tail = map g r.tail }

  abbrev row_as : Row B S → Row C T
  row_as r = record { kind = k r.kind; text = map g r.text; later = map run_as r.later }

  pub joined_as : (rs : List (Run B S)) → joined (map run_as rs) ≡ map g (joined rs)
  unfolding joined
  joined_as [] = refl
  joined_as (r ∷ rs) = ap (λ l. g r.head ∷ l) (rw (joined_as rs) (sym (map-append g r.tail (joined rs))))

  module _ (begin : S → B → S) (more : S → B → Option S) (begin' : T → C → T) (more' : T → C → Option T)
      (begins : (q : S) (b : B) → begin' (k q) (g b) ≡ k (begin q b)) (goes : (q : S) (b : B) → more' (k q) (g b) ≡ onto k (more q b)) where
    runs_as : (q : S) (bs : List B) → runs begin' more' (k q) (map g bs) ≡ row_as (runs begin more q bs)
    unfolding runs
    runs_as q [] = refl
    runs_as q (b ∷ bs) = go (more q b) refl (λ p. runs_as p bs)
      where
        go : (o : Option S) → more q b ≡ o → ((p : S) → runs begin' more' (k p) (map g bs) ≡ row_as (runs begin more p bs))
            → runs begin' more' (k q) (g b ∷ map g bs) ≡ row_as (runs begin more q (b ∷ bs))
        go (some p) e ih = let h : more' (k q) (g b) ≡ some (k p) = goes q b ∙ ap (onto k) e in rw (e, h, runs) (ap (put (g b)) (ih p))
        go none e ih =
            let h : more' (k q) (g b) ≡ none = goes q b ∙ ap (onto k) e in
            rw (e, h, begins q b, runs) (ap (λ r. record { kind = k q; text = []; later = list (g b) r }) (ih (begin q b)))

    pub grouped_as : (q : S) (bs : List B) → grouped begin' more' (k q) (map g bs) ≡ map run_as (grouped begin more q bs)
    unfolding grouped
    grouped_as q [] = refl
    grouped_as q (b ∷ bs) = rw (begins q b) (ap (list (g b)) (runs_as (begin q b) bs))
