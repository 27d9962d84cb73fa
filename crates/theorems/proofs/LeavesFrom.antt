-- What is left to read from a place of a source: leaf by leaf, to the end, and lexed again.
use Prim.Native.Nat.{ℕ, ◌+◌, ◌≤◌}
use mathlib.Core.Path.{◌≡◌, refl, ap, sym, ◌∙◌}
use mathlib.Core.Bool.{Bool, true, false}
use mathlib.Core.List.{List, [], ◌∷◌, ◌++◌}
use lib.ListN.{length, take, drop}
use lib.Seq.{slice, take-append_seam}
use native.Mathlib.Omega.{arith}
use Rattle.definition.specs.SyntaxKind.{Kind}
use Rattle.definition.specs.Runs.{text, joined}
use Rattle.definition.specs.Glue.{Token, tokens}
use Rattle.definition.specs.Tree.{placed, bytes, stop}
use Rattle.definition.specs.Parser.{wrap}
use Rattle.definition.specs.Syntax.{file, relexed, parse}
use Rattle.theorems.specs.Placed.{Placed}
use Rattle.theorems.specs.Step.{Stepped}
use Rattle.theorems.specs.LeavesFrom.{leaves_from, leaf_kind, leaf_between}
use Rattle.theorems.proofs.Entries.{slice_take}
use Rattle.theorems.proofs.Lexing.Tokens.{joined_tokens}
use Rattle.theorems.proofs.Lexing.PreAt.{tokens_over}
use Rattle.theorems.proofs.Tiling.Tiles.{bytes_placed, placed_lies}

-- A step of the lexer: its token's bytes are the source's from where it starts to where it ends,
module _ (s : List ℕ) (at : ℕ) (f : Bool) (k e : ℕ) (g : Bool) (u : Stepped s at f k e g) where
  abbrev word : List ℕ
  word = text u.token

  behind_word : drop at s ≡ word ++ drop e s
  unfolding joined
  behind_word = sym (joined_tokens f (drop at s)) ∙ ap joined u.is ∙ ap (λ l. word ++ l) (joined_tokens g (drop e s))

  pub text_between : word ≡ slice at e s
  text_between =
      sym (ap (λ x. slice at x s) u.end_is ∙ slice_take at (length word) s ∙ ap (take (length word)) behind_word ∙ take-append_seam word (drop e s))

  -- and its leaf is the first of what is left.
  pub leaves_token : leaves_from s at f ≡ record { kind = leaf_kind k; start = at; bytes = word } ∷ leaves_from s e g
  unfolding leaves_from placed
  leaves_token = ap (placed at) u.is ∙ rw (u.kind_is, ← u.end_is) refl

  pub leaves_step : leaves_from s at f ≡ leaf_between s k at e ∷ leaves_from s e g
  leaves_step = leaves_token ∙ ap (λ l. record { kind = leaf_kind k; start = at; bytes = l } ∷ leaves_from s e g) text_between

  -- The leaf ends where the others begin.
  pub stop_between : stop (leaf_between s k at e) ≡ e
  stop_between = ap (λ l. at + length l) (sym text_between) ∙ sym u.end_is

-- At any place and with any flag.
module _ (s : List ℕ) (at : ℕ) (f : Bool) where
  -- At the end of the source nothing is left.
  pub leaves_over : length s ≤ at → leaves_from s at f ≡ []
  unfolding leaves_from placed
  leaves_over h = ap (placed at) (tokens_over f s at h)

  -- What is left joins to the rest of the source,
  pub leaves_bytes : bytes (leaves_from s at f) ≡ drop at s
  unfolding leaves_from
  leaves_bytes = bytes_placed at (tokens f (drop at s)) ∙ joined_tokens f (drop at s)

  -- and lies from there on.
  pub leaves_lies : Placed at (leaves_from s at f)
  unfolding leaves_from
  leaves_lies = placed_lies at (tokens f (drop at s))

-- Leaves of tokens, lexed again with an angle string expected.
relexed_placed : (at : ℕ) (ts : List Token) → relexed (placed at ts) ≡ placed at (tokens true (joined ts))
unfolding relexed placed joined
relexed_placed at [] = ap (placed at) (sym (tokens_over true [] 0 (omega arith)))
relexed_placed at (t ∷ ts) = ap (λ l. placed at (tokens true l)) (bytes_placed at (t ∷ ts))

pub relexed_from : (s : List ℕ) (at : ℕ) (g : Bool) → relexed (leaves_from s at g) ≡ leaves_from s at true
unfolding leaves_from
relexed_from s at g = relexed_placed at (tokens g (drop at s)) ∙ ap (λ l. placed at (tokens true l)) (joined_tokens g (drop at s))

-- Reading a source is reading what is left from its start on.
pub parse_from : (src : List ℕ) → parse src ≡ wrap Kind.ROOT (file (length src) relexed (length src)) (leaves_from src 0 false)
unfolding parse leaves_from
parse_from src = refl
