-- The loop that lists tokens: the numbers that it has laid, with those of the tokens behind its place, are the whole listing.
use Rattle.std.specs.Prelude.{Option, Some, None}
use Prim.Native.Nat.{ℕ, ◌-◌, ◌≤◌, ◌<◌}
use native.Mathlib.Omega.{arith}
use mathlib.Core.Path.{◌≡◌, refl, ap, sym, ◌∙◌}
use mathlib.Core.Bool.{Bool, false}
use mathlib.Core.List.{List, [], ◌∷◌, ◌++◌, append_assoc, append-nil}
use mir.Val.{Fits}
use mir.Syntax.{w32}
use lib.ListN.{length, drop, drop_of_length-le}
use Rattle.definition.specs.Runs.{grouped}
use Rattle.definition.specs.Newline.{chars}
use Rattle.definition.specs.Pre.{pres}
use Rattle.definition.specs.Glue.{tokens, token_numbers}
use Rattle.definition.specs.Calls.{longest_source}
use Rattle.theorems.specs.Step.{Stepped}
use Rattle.table.specs.Row.{page, put, within, Laid}
use Rattle.table.proofs.Rows.{laid_none, laid_more}
use Rattle.syntax_kind.specs.Number.{number}
use Rattle.pre.specs.declared.token.Token as code
use Rattle.text_lines.specs.Lines.{Quick}
use Rattle.glue.specs.declared.Step.{Step}
use Rattle.glue.specs.Next.{Nexts}

-- The numbers of the tokens from a place of the source on.
abbrev pub numbers_from : Bool → ℕ → List ℕ → List ℕ
numbers_from f i s = token_numbers i (tokens f (drop i s))

no_tokens : (f : Bool) → tokens f [] ≡ []
unfolding tokens pres chars grouped
no_tokens f = refl

none_behind : (f : Bool) (i : ℕ) (s : List ℕ) → length s ≤ i → numbers_from f i s ≡ []
unfolding token_numbers
none_behind f i s h = rw (drop_of_length-le s h, no_tokens f)

-- A step adds three numbers.
step_numbers : (s : List ℕ) (i : ℕ) (f : Bool) (k e : ℕ) (g : Bool) → Stepped s i f k e g → numbers_from f i s ≡ k ∷ i ∷ e ∷ numbers_from g e s
unfolding token_numbers
step_numbers s i f k e g p = rw (p.is, ← p.end_is, p.kind_is)

-- Where the loop stands: at this place, an angle string expected or not, with the numbers of the tokens before it laid.
pub record Listing (s t₀ t : List ℕ) (f : Bool) (i n : ℕ) : Type 0 where
  pub within : i ≤ length s
  pub done : List ℕ
  pub split : done ++ numbers_from f i s ≡ numbers_from false 0 s
  pub laid : Laid done (page t₀ 0) (page t n)

pub start : (s t : List ℕ) → Listing s t t false 0 0
start s t = record { within = omega arith; done = []; split = refl; laid = laid_none (page t 0) (within (omega arith)) }

module _ (s t₀ t : List ℕ) (f : Bool) (i n : ℕ) (k : Listing s t₀ t f i n) where
  -- One token more.
  module _ {kind e : ℕ} {g : Bool} (u : Stepped s i f kind e g) where
    nearer_by : length s - e < length s - i
    nearer_by = omega (arith, u.forward, u.within)

    fits_by : length s ≤ longest_source → Fits w32 e
    fits_by b = omega (arith, u.within)

    another_by : (t₁ : List ℕ) (n₁ w : ℕ) → w ≡ kind → page t₁ n₁ ≡ put (w ∷ i ∷ e ∷ []) (page t n) → Listing s t₀ t₁ g e n₁
    another_by t₁ n₁ w q p =
        let row : List ℕ = w ∷ i ∷ e ∷ [] in
        record {
          within = u.within;
          done = k.done ++ row;
          split = append_assoc k.done row (numbers_from g e s) ∙ rw q (ap (λ l. k.done ++ l) (sym (step_numbers s i f kind e g u)) ∙ k.split);
          laid = rw p (laid_more k.done row (page t₀ 0) (page t n) k.laid);
        }

  -- It is seen at once,
  module _ (x : code.Token) (y : Quick s i x) where
    quickly : Stepped s i f (number x.kind) x.end f
    quickly = y.step f

    pub quick_nearer : length s - x.end < length s - i
    quick_nearer = nearer_by quickly

    pub quick_fits : length s ≤ longest_source → Fits w32 x.end
    quick_fits = fits_by quickly

    pub quick_another : (t₁ : List ℕ) (n₁ w : ℕ) → w ≡ number x.kind → page t₁ n₁ ≡ put (w ∷ i ∷ x.end ∷ []) (page t n) → Listing s t₀ t₁ f x.end n₁
    quick_another = another_by quickly

  -- or the lexer takes a step.
  module _ (x : Option Step) (y : Nexts s (record { input = record { at = i; angle = f } }) x) (r : Step) (q : x ≡ Some r) where
    stepped : Stepped s i f (number r.kind) r.next.input.at r.next.input.angle
    unfolding Nexts
    stepped = rw q at y

    pub nearer : length s - r.next.input.at < length s - i
    nearer = nearer_by stepped

    pub offset_fits : length s ≤ longest_source → Fits w32 r.next.input.at
    offset_fits = fits_by stepped

    pub another : (t₁ : List ℕ) (n₁ w : ℕ) → w ≡ number r.kind → page t₁ n₁ ≡ put (w ∷ i ∷ r.next.input.at ∷ []) (page t n)
        → Listing s t₀ t₁ r.next.input.angle r.next.input.at n₁
    another = another_by stepped

  pub kept : length t ≡ length t₀
  kept = k.laid.long_kept

  -- Nothing is left.
  pub ended : length s ≤ i → Laid (numbers_from false 0 s) (page t₀ 0) (page t n)
  ended h =
      let e : k.done ≡ numbers_from false 0 s = sym (append-nil k.done) ∙ ap (λ l. k.done ++ l) (sym (none_behind f i s h)) ∙ k.split in
      rw (← e) k.laid

  pub done_at_end : (x : Option Step) → Nexts s (record { input = record { at = i; angle = f } }) x → x ≡ None → length s ≤ i
  unfolding Nexts
  done_at_end x y q = rw q at y
