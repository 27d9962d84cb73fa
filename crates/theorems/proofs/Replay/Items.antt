-- Items and files are told again: the reader that takes leaves as they are gets the same from the leaves of a reading.
use Prim.Native.Nat.{ℕ, zero, suc}
use mathlib.Core.Path.{◌≡◌, refl, ap, ap₂, sym, ◌∙◌, subst}
use mathlib.Core.Bool.{Bool, true, false}
use mathlib.Core.List.{List, [], ◌∷◌, ◌++◌, append_assoc, append-nil}
use mathlib.Core.Option.{none}
use Rattle.definition.specs.SyntaxKind.{Kind}
use Rattle.definition.specs.Tree.{Leaf, Forest, leaf, row, ◌▹◌, leaves}
use Rattle.definition.specs.Parser.{is, trivia, inline, while, after, peek, Reader, ◌then◌, skip, skip_trivia, nothing, bump}
use Rattle.definition.specs.Syntax.{Line, control_line, hash_item, item, file}
use Rattle.theorems.proofs.Grammar.Plain.{id}
use Rattle.theorems.proofs.Grammar.Clean.{peek_after}
use Rattle.theorems.proofs.Tiling.Leaves.{leaves-▹, leaves_row, while_after, while_again, after_again}
use Rattle.theorems.proofs.Tiling.Steady.{Heads, heads_self, heads_nil, heads_cons, peek_heads, stops, Steady, steady_then, steady_nothing, steady_skip, steady_bump}
use Rattle.theorems.proofs.Tiling.Tiles.{Recut}
use Rattle.theorems.proofs.Replay.Laws.{Retold, retold_steady, retold_like, retold_then, lined, RetoldLine, retold_lined, shut, retold_shut}
use Rattle.theorems.proofs.Replay.Lines.{line_retold}

-- A line of text, as a line without a node.
text : Reader
text = skip inline then bump

steady_text : Steady text
unfolding text
steady_text = steady_then _ _ (steady_skip inline) steady_bump

text_line : List Leaf → Line
text_line ts = lined (λ es. none) (text ts)

text_retold : (ts : List Leaf) → RetoldLine text_line (text_line ts) ts
unfolding text_line
text_retold ts = retold_lined _ (λ es. none) text (text ts) ts (λ us h. refl) (retold_steady text ts (steady_text ts))

-- Trivia, a HASH and the trivia behind it, in front of a forest.
abbrev pub front : List Leaf → Leaf → List Leaf → Forest → Forest
front before t behind c = row before ▹ (leaf t (row behind) ▹ c)

pub leaves_front : (before : List Leaf) (t : Leaf) (behind : List Leaf) (c : Forest) → leaves (front before t behind c) ≡ (before ++ (t ∷ behind)) ++ leaves c
unfolding leaves
leaves_front before t behind c =
    rw
    (leaves-▹ (row before) (leaf t (row behind) ▹ c), leaves-▹ (leaf t (row behind)) c, leaves_row before, leaves_row behind)
    (sym (append_assoc before (t ∷ behind) (leaves c)))

-- An item by its first leaf behind trivia: one equation a case. What stands behind the trivia may be any row that heads alike.
module _ (n : ℕ) (lex : List Leaf → List Leaf) where
  item_text : (ts : List Leaf) → peek (is Kind.HASH) (after trivia ts) ≡ false → (us : List Leaf) → Heads (after trivia ts) us
      → item n lex (while trivia ts ++ us) ≡ shut (λ c. row (while trivia ts) ▹ c) (text_line us)
  unfolding item text_line text ◌then◌ skip_trivia skip
  item_text ts e us h =
      let s : peek trivia us ≡ false = stops trivia ts us h in
      let w : while trivia (while trivia ts ++ us) ≡ while trivia ts = while_again trivia ts us s in
      let a : after trivia (while trivia ts ++ us) ≡ us = after_again trivia ts us s in
      let q : peek (is Kind.HASH) us ≡ false = peek_heads (is Kind.HASH) (after trivia ts) us h ∙ e in
      rw (w, a, q, item)

  pub hash_step : (before : List Leaf) (t : Leaf) (ts : List Leaf)
      → hash_item n lex before (t ∷ ts) ≡ shut (front before t (while trivia ts)) (control_line n lex (after trivia ts))
  unfolding hash_item ◌then◌ bump skip_trivia skip ◌▹◌
  hash_step before t ts = refl

  item_hash : (ts : List Leaf) (t : Leaf) (vs : List Leaf) → after trivia ts ≡ t ∷ vs → is Kind.HASH t ≡ true → (us : List Leaf) → Heads (after trivia vs) us
      → item n lex ((while trivia ts ++ (t ∷ while trivia vs)) ++ us) ≡ shut (front (while trivia ts) t (while trivia vs)) (control_line n lex us)
  unfolding item peek
  item_hash ts t vs q e us h =
      let line : List Leaf = t ∷ (while trivia vs ++ us) in
      let s : trivia t ≡ false = rw q at (peek_after trivia ts) in
      let w : while trivia (while trivia ts ++ line) ≡ while trivia ts = while_again trivia ts line s in
      let a : after trivia (while trivia ts ++ line) ≡ line = after_again trivia ts line s in
      let z : peek trivia us ≡ false = stops trivia vs us h in
      rw
      (append_assoc (while trivia ts) (t ∷ while trivia vs) us, w, a, e, item)
      (hash_step (while trivia ts) t (while trivia vs ++ us)
      ∙ ap₂ (λ x y. shut (front (while trivia ts) t x) (control_line n lex y)) (while_again trivia vs us z) (after_again trivia vs us z))

-- A file without fuel takes the whole row.
rest_of_row : Reader
rest_of_row ts = record { tree = row ts; errs = []; rest = [] }

steady_row : Steady rest_of_row
unfolding rest_of_row
steady_row ts =
    record {
      same = rw (leaves_row ts) (append-nil ts);
      again = heads_nil (λ us. rest_of_row (leaves (row ts) ++ us) ≡ record { tree = row ts; errs = []; rest = us }) (rw (leaves_row ts, append-nil ts) refl);
    }

module _ (n : ℕ) (lex : List Leaf → List Leaf) where
  file_zero : (ts : List Leaf) → file n lex zero ts ≡ rest_of_row ts
  unfolding file rest_of_row
  file_zero ts = refl

  pub file_nil : (f : ℕ) → file n lex (suc f) [] ≡ nothing []
  unfolding file
  file_nil f = refl

  pub file_more : (f : ℕ) (t : Leaf) (ts : List Leaf) → file n lex (suc f) (t ∷ ts) ≡ (item n lex then file n lex f) (t ∷ ts)
  unfolding file ◌then◌
  file_more f t ts = refl

  -- A file leaves nothing.
  pub file_rest : (f : ℕ) (ts : List Leaf) → (file n lex f ts).rest ≡ []
  unfolding file nothing ◌then◌
  file_rest zero ts = refl
  file_rest (suc f) [] = refl
  file_rest (suc f) (t ∷ ts) = file_rest f (item n lex (t ∷ ts)).rest

module _ (n : ℕ) (again : List Leaf → List Leaf) (recuts : (ts : List Leaf) → Recut (again ts) ts) where
  pub item_retold : (ts : List Leaf) → Retold (item n id) (item n again ts) ts
  unfolding peek
  item_retold ts = go (after trivia ts) refl
    where
      Goal : Type 0
      Goal = Retold (item n id) (item n again ts) ts

      before : List Leaf
      before = while trivia ts

      -- The row is some leaves and what the line is read from.
      case : (a b : List Leaf) (f : Forest → Forest) → ((c : Forest) → leaves (f c) ≡ a ++ leaves c) → (m : (List Leaf → List Leaf) → List Leaf → Line)
          → ((lex : List Leaf → List Leaf) (us : List Leaf) → Heads b us → item n lex (a ++ us) ≡ shut f (m lex us))
          → RetoldLine (m id) (m again b) b → a ++ b ≡ ts → Goal
      case a b f l m i r e =
          let g : Retold (item n id) (shut f (m again b)) (a ++ b) = retold_shut a f l (item n id) (m id) (m again b) b (i id) r in
          subst (λ x. Retold (item n id) (item n again x) x) e (rw (i again b (heads_self b)) g)

      plain : peek (is Kind.HASH) (after trivia ts) ≡ false → Goal
      plain e =
          case
          before
          (after trivia ts)
          (λ c. row before ▹ c)
          (λ c. leaves-▹ (row before) c ∙ ap (λ l. l ++ leaves c) (leaves_row before))
          (λ lex. text_line)
          (λ lex us h. item_text n lex ts e us h)
          (text_retold (after trivia ts))
          (while_after trivia ts)

      hashed : (t : Leaf) (vs : List Leaf) → after trivia ts ≡ t ∷ vs → is Kind.HASH t ≡ true → Goal
      hashed t vs q e =
          case
          (before ++ (t ∷ while trivia vs))
          (after trivia vs)
          (front before t (while trivia vs))
          (leaves_front before t (while trivia vs))
          (control_line n)
          (λ lex us h. item_hash n lex ts t vs q e us h)
          (line_retold n again recuts (after trivia vs))
          (append_assoc before (t ∷ while trivia vs) (after trivia vs) ∙ ap (λ l. before ++ (t ∷ l)) (while_after trivia vs) ∙ ap (λ l. before ++ l) (sym q) ∙ while_after trivia ts)

      go : (us : List Leaf) → after trivia ts ≡ us → Goal
      go [] q = plain (rw q refl)
      go (t ∷ vs) q = two (is Kind.HASH t) refl
        where
          two : (b : Bool) → is Kind.HASH t ≡ b → Goal
          two true e = hashed t vs q e
          two false e = plain (rw q e)

  pub file_retold : (f : ℕ) (ts : List Leaf) → Retold (file n id f) (file n again f ts) ts
  file_retold zero ts =
      rw (file_zero n again ts) (retold_like (file n id zero) rest_of_row (rest_of_row ts) ts (λ us h. file_zero n id us) (retold_steady rest_of_row ts (steady_row ts)))
  file_retold (suc f) [] =
      let e : (us : List Leaf) → Heads [] us → file n id (suc f) us ≡ nothing us = heads_nil _ (file_nil n id f) in
      rw (file_nil n again f) (retold_like (file n id (suc f)) nothing (nothing []) [] e (retold_steady nothing [] (steady_nothing [])))
  file_retold (suc f) (t ∷ ts) =
      let e : (us : List Leaf) → Heads (t ∷ ts) us → file n id (suc f) us ≡ (item n id then file n id f) us = heads_cons _ t ts (file_more n id f t) in
      let r : Retold (item n id then file n id f) ((item n again then file n again f) (t ∷ ts)) (t ∷ ts) =
      retold_then (item n again) (item n id) (file n again f) (file n id f) (t ∷ ts) (item_retold (t ∷ ts)) (file_retold f (item n again (t ∷ ts)).rest) in
      rw (file_more n again f t ts) (retold_like (file n id (suc f)) (item n id then file n id f) _ (t ∷ ts) e r)
