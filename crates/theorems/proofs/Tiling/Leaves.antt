-- The leaves of a row of trees, and how `while`, `after` and the trivia at its end cut a row.
use Rattle.std.specs.Prelude.{if◌then◌else◌}
use mathlib.Core.Path.{◌≡◌, refl, ap, sym, ◌∙◌}
use mathlib.Core.Bool.{Bool, true, false, not, ◌&&◌}
use mathlib.Core.List.{List, [], ◌∷◌, ◌++◌, append_assoc, append-nil}
use Rattle.definition.specs.SyntaxKind.{Kind}
use Rattle.definition.specs.Tree.{Leaf, bytes, Forest, nil, leaf, node, ◌▹◌, leaves, row}
use Rattle.definition.specs.Parser.{is, trivia, while, after, peek}
use Rattle.definition.specs.Syntax.{nest, wrapped, pasted, pp_tokens_from, pp_tokens, all_trivia, trimmed, trailing}

pub leaves-▹ : (f g : Forest) → leaves (f ▹ g) ≡ leaves f ++ leaves g
unfolding leaves ◌▹◌
leaves-▹ nil g = refl
leaves-▹ (leaf t f) g = ap (λ l. t ∷ l) (leaves-▹ f g)
leaves-▹ (node k c f) g = rw (leaves-▹ f g) (sym (append_assoc (leaves c) (leaves f) (leaves g)))

pub leaves_row : (ts : List Leaf) → leaves (row ts) ≡ ts
unfolding leaves row
leaves_row [] = refl
leaves_row (t ∷ ts) = ap (λ l. t ∷ l) (leaves_row ts)

-- `while` and `after`: one equation a case.
module _ (p : Leaf → Bool) where
  pub while_nil : while p [] ≡ []
  unfolding while
  while_nil = refl

  pub while_yes : (t : Leaf) (ts : List Leaf) → p t ≡ true → while p (t ∷ ts) ≡ t ∷ while p ts
  unfolding while
  while_yes t ts e = rw (e, while)

  pub after_yes : (t : Leaf) (ts : List Leaf) → p t ≡ true → after p (t ∷ ts) ≡ after p ts
  unfolding after
  after_yes t ts e = rw (e, after)

  -- A row whose first leaf fails the test.
  pub while_stop : (ts : List Leaf) → peek p ts ≡ false → while p ts ≡ []
  unfolding while peek
  while_stop [] h = refl
  while_stop (t ∷ ts) h = rw (h, while)

  pub after_stop : (ts : List Leaf) → peek p ts ≡ false → after p ts ≡ ts
  unfolding after peek
  after_stop [] h = refl
  after_stop (t ∷ ts) h = rw (h, after)

  -- The two parts join to the row, and the second begins with no leaf that passes.
  pub while_after : (ts : List Leaf) → while p ts ++ after p ts ≡ ts
  unfolding while after
  while_after [] = refl
  while_after (t ∷ ts) = go (p t) refl (while_after ts)
    where
      go : (b : Bool) → p t ≡ b → while p ts ++ after p ts ≡ ts → while p (t ∷ ts) ++ after p (t ∷ ts) ≡ t ∷ ts
      go true e ih = rw (e, while, after) (ap (λ l. t ∷ l) ih)
      go false e ih = rw (e, while, after) refl

  -- The leading leaves, before another row that begins with no leaf that passes.
  pub while_again : (ts us : List Leaf) → peek p us ≡ false → while p (while p ts ++ us) ≡ while p ts
  unfolding peek
  while_again [] us h = rw while_nil (while_stop us h)
  while_again (t ∷ ts) us h = go (p t) refl (while_again ts us h)
    where
      go : (b : Bool) → p t ≡ b → while p (while p ts ++ us) ≡ while p ts → while p (while p (t ∷ ts) ++ us) ≡ while p (t ∷ ts)
      go true e ih = rw (while_yes t ts e) (while_yes t (while p ts ++ us) e ∙ ap (λ l. t ∷ l) ih)
      go false e ih = rw (while_stop (t ∷ ts) e) (while_stop us h)

  pub after_again : (ts us : List Leaf) → peek p us ≡ false → after p (while p ts ++ us) ≡ us
  unfolding peek
  after_again [] us h = rw while_nil (after_stop us h)
  after_again (t ∷ ts) us h = go (p t) refl (after_again ts us h)
    where
      go : (b : Bool) → p t ≡ b → after p (while p ts ++ us) ≡ us → after p (while p (t ∷ ts) ++ us) ≡ us
      go true e ih = rw (while_yes t ts e) (after_yes t (while p ts ++ us) e ∙ ih)
      go false e ih = rw (while_stop (t ∷ ts) e) (after_stop us h)

-- A row without the trivia at its end, and that trivia, join to the row.
pub trimmed_trailing : (ts : List Leaf) → trimmed ts ++ trailing ts ≡ ts
unfolding trimmed trailing
trimmed_trailing [] = refl
trimmed_trailing (t ∷ ts) = go (all_trivia (t ∷ ts)) refl (trimmed_trailing ts)
  where
    go : (b : Bool) → all_trivia (t ∷ ts) ≡ b → trimmed ts ++ trailing ts ≡ ts → trimmed (t ∷ ts) ++ trailing (t ∷ ts) ≡ t ∷ ts
    go true e ih = rw (e, trimmed, trailing) refl
    go false e ih = rw (e, trimmed, trailing) (ap (λ l. t ∷ l) ih)

-- A body has the leaves of its row, whatever its ## wrap.
either : (b : Bool) (f g : Forest) (ts : List Leaf) → leaves f ≡ ts → leaves g ≡ ts → leaves (if b then f else g) ≡ ts
either true f g ts e h = e
either false f g ts e h = h

leaves_nest : (ts : List Leaf) → leaves (nest ts) ≡ ts
unfolding leaves nest
leaves_nest [] = refl
leaves_nest (t ∷ ts) =
    let e : t ∷ leaves (nest ts) ≡ t ∷ ts = ap (λ l. t ∷ l) (leaves_nest ts) in
    either (is Kind.PP_CONCAT_OP t) _ _ (t ∷ ts) (rw append-nil e) e

leaves_wrapped : (ts : List Leaf) → leaves (wrapped ts) ≡ ts
unfolding leaves wrapped
leaves_wrapped [] = refl
leaves_wrapped (t ∷ ts) =
    either (is Kind.PP_CONCAT_OP t) _ _ (t ∷ ts) (ap (λ l. t ∷ l) (leaves_nest ts)) (ap (λ l. t ∷ l) (leaves_wrapped ts))

leaves_pp_tokens_from : (ts : List Leaf) → leaves (pp_tokens_from ts) ≡ ts
unfolding leaves pp_tokens_from
leaves_pp_tokens_from [] = refl
leaves_pp_tokens_from (t ∷ ts) =
    either
    (not (trivia t) && pasted ts)
    _
    _
    (t ∷ ts)
    (append-nil (t ∷ leaves (wrapped ts)) ∙ ap (λ l. t ∷ l) (leaves_wrapped ts))
    (ap (λ l. t ∷ l) (leaves_pp_tokens_from ts))

pub leaves_pp_tokens : (ts : List Leaf) → leaves (pp_tokens ts) ≡ ts
unfolding leaves pp_tokens
leaves_pp_tokens ts = either (pasted ts) _ _ ts (append-nil (leaves (wrapped ts)) ∙ leaves_wrapped ts) (leaves_pp_tokens_from ts)

-- The bytes of two rows of leaves.
pub bytes_append : (us ts : List Leaf) → bytes (us ++ ts) ≡ bytes us ++ bytes ts
unfolding bytes
bytes_append [] ts = refl
bytes_append (t ∷ us) ts = rw (bytes_append us ts) (sym (append_assoc t.bytes (bytes us) (bytes ts)))
