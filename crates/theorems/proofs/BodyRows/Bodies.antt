-- A body is its row read leaf by leaf in a node, and then the trailing trivia.
use Prim.Native.Nat.{ℕ}
use mathlib.Core.Path.{◌≡◌, refl, ap, sym, ◌∙◌}
use mathlib.Core.Bool.{Bool, true, false, true≢false}
use mathlib.Core.List.{List, [], ◌∷◌, ◌++◌}
use Rattle.definition.specs.Tree.{Leaf, row, ◌▹◌}
use Rattle.definition.specs.Parser.{trivia, inline, while, after, peek, ◌then◌, wrap, skip, skip_trivia}
use Rattle.definition.specs.Syntax.{all_trivia, trailing, body}
use Rattle.theorems.specs.BodyRows.{row_line_by, row_line}
use Rattle.theorems.proofs.Tiling.Leaves.{while_yes, while_stop, after_yes, after_stop}
use Rattle.theorems.proofs.Grammar.Clean.{trivia_inline, peek_after}
use Rattle.theorems.proofs.BodyRows.Whole.{row_whole, trailing_trivia}

-- No trivia stands where no leaf of the line does.
outside : (ts : List Leaf) → peek inline ts ≡ false → peek trivia ts ≡ false
unfolding peek
outside [] e = refl
outside (t ∷ ts) e = go (trivia t) refl
  where
    go : (b : Bool) → trivia t ≡ b → trivia t ≡ false
    go true q = absurd (true≢false (sym (trivia_inline t q) ∙ e))
    go false q = q

-- Trivia before such a row is skipped whole, and no more.
pub trivial_first : (t : Leaf) (us : List Leaf) → all_trivia (t ∷ us) ≡ true → (trivia t ≡ true) × (all_trivia us ≡ true)
unfolding all_trivia
trivial_first t us e = go (trivia t) refl
  where
    go : (b : Bool) → trivia t ≡ b → (trivia t ≡ true) × (all_trivia us ≡ true)
    go true q = (q, rw q at e)
    go false q = absurd (true≢false (sym (rw q at e)))

module _ (us : List Leaf) (o : peek trivia us ≡ false) where
  while_trivia : (ts : List Leaf) → all_trivia ts ≡ true → while trivia (ts ++ us) ≡ ts
  while_trivia [] e = while_stop trivia us o
  while_trivia (t ∷ ts) e = let a = trivial_first t ts e in while_yes trivia t (ts ++ us) a.0 ∙ ap (λ l. t ∷ l) (while_trivia ts a.1)

  after_trivia : (ts : List Leaf) → all_trivia ts ≡ true → after trivia (ts ++ us) ≡ us
  after_trivia [] e = after_stop trivia us o
  after_trivia (t ∷ ts) e = let a = trivial_first t ts e in after_yes trivia t (ts ++ us) a.0 ∙ after_trivia ts a.1

-- The trivia behind a row.
module _ (ts : List Leaf) where
  no_trivia : peek trivia (after inline ts) ≡ false
  no_trivia = outside (after inline ts) (peek_after inline ts)

  pub skip_trailing : skip_trivia (trailing (while inline ts) ++ after inline ts) ≡ record { tree = row (trailing (while inline ts)); errs = []; rest = after inline ts }
  unfolding skip_trivia skip
  skip_trailing =
      let a = trailing_trivia (while inline ts) in
      rw (while_trivia (after inline ts) no_trivia (trailing (while inline ts)) a, after_trivia (after inline ts) no_trivia (trailing (while inline ts)) a) refl

-- Bodies.
module _ (k : ℕ) (ts : List Leaf) where
  pub body_line : body k ts ≡ row_line k ts
  unfolding body row_line_by ◌then◌ wrap ◌▹◌
  body_line = rw (row_whole ts, skip_trailing ts) refl
