-- Text lines leaf by leaf, and how `file` goes on over them.
use Prim.Native.Nat.{ℕ, zero, suc, ◌+◌}
use native.Mathlib.Nat.{zero-add, suc-add}
use mathlib.Core.Path.{◌≡◌, refl, ap, sym, ◌∙◌}
use mathlib.Core.Bool.{Bool, true, false, not}
use mathlib.Core.List.{List, [], ◌∷◌, ◌++◌}
use Rattle.definition.specs.Tree.{Leaf, row, ◌▹◌}
use Rattle.definition.specs.Parser.{trivia, newline_leaf, inline, while, after, peek, Got, push, ◌then◌, skip, skip_trivia, nothing, bump}
use Rattle.definition.specs.Syntax.{item, file}
use Rattle.theorems.specs.TextLines.{Text, line_file, push_row, Lines}
use Rattle.theorems.proofs.Combinators.{▹-assoc}
use Rattle.theorems.proofs.Grammar.Clean.{trivia_inline}
use Rattle.theorems.proofs.Tiling.Leaves.{while_yes, after_yes, while_stop, after_stop}

module _ (n : ℕ) (again : List Leaf → List Leaf) where
  -- Of an empty row nothing is read.
  pub file_none : (f : ℕ) → file n again f [] ≡ nothing []
  unfolding file row nothing
  file_none zero = refl
  file_none (suc f) = refl

  line_none : (f : ℕ) → line_file n again f [] ≡ file n again f []
  unfolding line_file ◌then◌ skip while after bump row ◌▹◌
  line_none f = refl

  -- A leaf of the line, its NEWLINE,
  module _ (t : Leaf) (ts : List Leaf) where
    line_inline : (f : ℕ) → inline t ≡ true → line_file n again f (t ∷ ts) ≡ push t (line_file n again f ts)
    unfolding line_file ◌then◌ skip row ◌▹◌
    line_inline f e = rw (while_yes inline t ts e, after_yes inline t ts e)

    line_newline : (f : ℕ) → newline_leaf t ≡ true → line_file n again f (t ∷ ts) ≡ push t (file n again f ts)
    unfolding line_file ◌then◌ skip row ◌▹◌ bump peek
    line_newline f e = let i : inline t ≡ false = ap not e in rw (while_stop inline (t ∷ ts) i, after_stop inline (t ∷ ts) i)

  -- and the trivia that it begins with.
  line_trivia : (f : ℕ) (ts : List Leaf) → line_file n again f ts ≡ push_row (while trivia ts) (line_file n again f (after trivia ts))
  unfolding while after peek row ◌▹◌
  line_trivia f [] = refl
  line_trivia f (t ∷ ts) = go (trivia t) refl (line_trivia f ts)
    where
      go : (b : Bool) → trivia t ≡ b → line_file n again f ts ≡ push_row (while trivia ts) (line_file n again f (after trivia ts))
          → line_file n again f (t ∷ ts) ≡ push_row (while trivia (t ∷ ts)) (line_file n again f (after trivia (t ∷ ts)))
      go true e ih = rw (while_yes trivia t ts e, after_yes trivia t ts e) (line_inline t ts f (trivia_inline t e) ∙ ap (push t) ih)
      go false e ih = rw (while_stop trivia (t ∷ ts) e, after_stop trivia (t ∷ ts) e) refl

  -- An item that begins no directive is a text line.
  item_text : (ts : List Leaf) → Text ts → item n again ts ≡ (skip_trivia then skip inline then bump) ts
  unfolding item
  item_text ts e = rw (e, item)

  -- So `file` reads a text line, and then the items behind it.
  abbrev items_behind : ℕ → Got → Got
  items_behind f a = let b = file n again f a.rest in record { tree = a.tree ▹ b.tree; errs = a.errs ++ b.errs; rest = b.rest }

  file_text : (f : ℕ) (ts : List Leaf) → Text ts → file n again (suc f) ts ≡ line_file n again f ts
  unfolding file ◌then◌ skip_trivia skip line_file
  file_text f [] e = sym (line_none f ∙ file_none f)
  file_text f (t ∷ ts) e =
      let us : List Leaf = t ∷ ts in
      ap (items_behind f) (item_text us e) ∙ rw (▹-assoc (row (while trivia us)), ▹-assoc (row (while inline (after trivia us)))) (sym (line_trivia f us))

-- No leaf is left.
pub lines_end : Lines [] [] []
unfolding row ◌▹◌
lines_end = record { joins = refl; more = 0; reads = λ n again f. rw (zero-add f) (line_none n again f) }

module _ (t : Leaf) (ts : List Leaf) where
  -- The line's NEWLINE, and nothing more.
  pub lines_stop : newline_leaf t ≡ true → Lines (t ∷ []) (t ∷ ts) ts
  unfolding row ◌▹◌
  lines_stop e = record { joins = refl; more = 0; reads = λ n again f. rw (zero-add f) (line_newline n again t ts f e) }

  -- A leaf of the line, or its NEWLINE before a line that begins no directive.
  module _ (us vs : List Leaf) (l : Lines us ts vs) where
    pub lines_inline : newline_leaf t ≡ false → Lines (t ∷ us) (t ∷ ts) vs
    unfolding row ◌▹◌
    lines_inline e = record {
      joins = ap (λ x. t ∷ x) l.joins;
      more = l.more;
      reads = λ n again f. line_inline n again t ts (l.more + f) (ap not e) ∙ ap (push t) (l.reads n again f);
    }

    pub lines_newline : newline_leaf t ≡ true → Text ts → Lines (t ∷ us) (t ∷ ts) vs
    unfolding row ◌▹◌
    lines_newline e h = record {
      joins = ap (λ x. t ∷ x) l.joins;
      more = suc l.more;
      reads = λ n again f. rw (suc-add l.more f)
          (line_newline n again t ts (suc (l.more + f)) e ∙ ap (push t) (file_text n again (l.more + f) ts h ∙ l.reads n again f));
    }

-- So the reader of items reads text lines, from a row on that begins no directive: the leaves, no errors, and then what is behind them.
pub lines_file : (us ts vs : List Leaf) (l : Lines us ts vs) → Text ts → (n : ℕ) (again : List Leaf → List Leaf) (f : ℕ)
    → file n again (suc l.more + f) ts ≡ push_row us (file n again f vs)
lines_file us ts vs l h n again f = rw (suc-add l.more f) (file_text n again (l.more + f) ts h ∙ l.reads n again f)

-- The same where the trivia at its front has been taken first.
pub lines_behind : (us ts vs : List Leaf) (l : Lines us (after trivia ts) vs) → Text ts → (n : ℕ) (again : List Leaf → List Leaf) (f : ℕ)
    → file n again (suc l.more + f) ts ≡ push_row (while trivia ts) (push_row us (file n again f vs))
lines_behind us ts vs l h n again f =
    rw (suc-add l.more f) (file_text n again (l.more + f) ts h ∙ line_trivia n again (l.more + f) ts ∙ ap (push_row (while trivia ts)) (l.reads n again f))
