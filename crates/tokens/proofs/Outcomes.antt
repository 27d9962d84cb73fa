-- The outcomes of listing tokens, where their numbers were laid from the front of the table to the place n.
use Rattle.std.specs.Prelude.{⊤, Result, Ok, Err, is_err, IfOk}
use mathlib.Core.Bool.{true, false, false≢true}
use Prim.Native.Nat.{ℕ, ◌*◌, ◌/◌, ◌-◌, ◌≤◌, ◌<◌}
use native.Mathlib.Omega.{arith}
use mathlib.Core.Path.{◌≡◌, ap, sym, ◌∙◌}
use mathlib.Core.List.{List}
use mir.Val.{Fits}
use mir.Syntax.{w32}
use lib.ListN.{length, take, drop}
use lib.Seq.{sets}
use borrow.Rule.Slice.PartMut.{put_mid}
use Rattle.definition.specs.Glue.{tokens, token_numbers}
use Rattle.definition.specs.Tree.{Width}
use Rattle.definition.specs.Calls.{longest_source, refusal, source_checks, listing_tokens, Filled, filled, padded}
use Rattle.theorems.proofs.Refusals.{length_tokens}
use Rattle.theorems.proofs.Lexing.Tokens.{few_tokens}
use Rattle.table.specs.Row.{far, Page, page, Laid}
use Rattle.table.proofs.Tables.{zeros}
use Rattle.table.proofs.Parts.{written_cleared}
use Rattle.table.proofs.Rows.{front_whole, short_when_far, fits_unless_far, past_far}
use Rattle.text.proofs.Refusals.{source_length}
use Rattle.text.specs.Refusal.{number, code}
use Rattle.text.specs.declared.refusal.Refusal.{Refusal}
use Rattle.text.specs.declared.refusal.Refusal.TheVariants.{Entries}
use Rattle.table.proofs.Outcomes.{refused_fills, refused_first, short_second, none_refused}
use Rattle.text.specs.Answers.{Answers}
use Rattle.text.specs.declared.Counted.{Counted}
use Rattle.table.specs.Fills.{Fills}
use Rattle.tokens.specs.Listed.{Listed}

-- A source is refused first.
pub tokens_refused : (src : List ℕ) (room : ℕ) (o : Result ⊤ Refusal) → code o ≡ refusal (source_checks src) → (y : Refusal) → o ≡ Err y
    → number y ≡ (listing_tokens src room).refused
unfolding listing_tokens
tokens_refused src room o e y q = refused_first src o e Entries (token_numbers 0 (tokens false src)) room y q

module _ (src : List ℕ) (room n : ℕ) (o : Result ⊤ Refusal) (e : code o ≡ refusal (source_checks src)) (u : ⊤) (q : o ≡ Ok u) (t₀ t₁ : List ℕ)
    (b : length t₀ ≡ room) (k : Laid (token_numbers 0 (tokens false src)) (page t₀ 0) (page t₁ n)) where
  abbrev numbers : List ℕ
  numbers = token_numbers 0 (tokens false src)

  few : length numbers ≤ Width.token * longest_source
  few = omega (arith, length_tokens 0 (tokens false src), few_tokens false src, source_length src (code o) e (ap code q))

  long : length t₁ ≡ room
  long = k.long_kept ∙ b

  pub tokens_short : length t₁ < n → number Entries ≡ (listing_tokens src room).refused
  unfolding listing_tokens
  tokens_short h =
      let m : length t₀ < length numbers = short_when_far numbers t₀ (page t₁ n) k (λ x. omega (arith, few)) (past_far t₁ n k.stands h) in
      short_second src o e Entries numbers room u q (omega arith)

  module _ (h : n ≤ length t₁) (s : length t₁ < far) where
    fit : length numbers ≤ length t₀
    fit = fits_unless_far numbers t₀ (page t₁ n) k (omega (arith, k.long_kept)) (λ e. omega arith)

    all : page t₁ n ≡ page (sets t₀ 0 numbers) (length numbers)
    all = front_whole numbers t₀ (page t₁ n) k fit

    count : n ≡ length numbers
    count = ap (λ (p : Page). p.n) all

    pub tokens_fit : 0 ≡ (listing_tokens src room).refused
    unfolding listing_tokens
    tokens_fit = none_refused src o e Entries numbers room u q (omega (arith, fit))

    -- The rest of the table was cleared.
    pub tokens_whole : (ys : List ℕ) → ys ≡ zeros (length (take (length t₁ - n) (drop n t₁)))
        → Listed (listing_tokens src room) (put_mid n (length t₁ - n) t₁ ys) (n / Width.token)
    unfolding listing_tokens filled
    tokens_whole ys p =
        let z : 0 ≡ (listing_tokens src room).refused = none_refused src o e Entries numbers room u q (omega (arith, fit)) in
        record {
          count_is = rw (← z) (omega (arith, count, length_tokens 0 (tokens false src)));
          table_is = rw (← z) (written_cleared numbers t₀ t₁ ys n (ap (λ (p : Page). p.table) all) count h p ∙ ap (padded numbers) long);
        }

    pub count_fits : Fits w32 (n / Width.token)
    count_fits = omega (arith, count, few)

-- What is answered where nothing is refused, and where something is.
pub list_whole : (f : Filled) (o : Result ℕ Refusal) (r : Counted) (t : List ℕ) → is_err o ≡ false → code o ≡ f.refused → Answers o r → IfOk o (Listed f t) → Fills f r t
list_whole f (Err x) r t h e a l = absurd (false≢true (sym h))
list_whole f (Ok n) r t h e a l = record { refusal_is = a.refusal_is ∙ e; count_is = a.count_is ∙ l.count_is; table_is = l.table_is }

pub list_refused : (src : List ℕ) (room : ℕ) (o : Result ℕ Refusal) (r : Counted) (t : List ℕ) → is_err o ≡ true → code o ≡ (listing_tokens src room).refused
    → Answers o r → t ≡ zeros room → Fills (listing_tokens src room) r t
unfolding listing_tokens
list_refused src room o r t h e a q = refused_fills _ _ (token_numbers 0 (tokens false src)) room r t o h e a q
