-- The outcomes of a reading of a define body that was written as far as its table goes.
use Rattle.std.specs.Prelude.{⊤, Result, Ok, Err}
use Prim.Native.Nat.{ℕ, ◌*◌, ◌/◌, ◌≤◌, ◌<◌}
use mathlib.Core.Path.{◌≡◌, refl, ap, sym, ◌∙◌}
use mathlib.Core.Bool.{Bool, true, false}
use mathlib.Core.List.{List}
use native.Mathlib.Decide.{dec_le}
use native.Mathlib.Omega.{arith}
use lib.ListN.{length}
use Rattle.definition.specs.Tree.{Entry, Width, entries, entry_numbers, body_concats}
use Rattle.definition.specs.Syntax.{parse_define_body}
use Rattle.definition.specs.Calls.{Refusal, refusal, source_checks, too_many}
use Rattle.theorems.proofs.Refusals.{length_entries}
use Rattle.text.specs.declared.Counted.{Counted}
use Rattle.table.specs.Row.{far, page, Laid}
use Rattle.table.proofs.Tables.{zeros}
use Rattle.text.specs.Refusal.{number, code}
use Rattle.text.specs.declared.refusal.Refusal.{Refusal as Code}
use Rattle.text.proofs.Refusals.{source_length}
use Rattle.rows.specs.declared.BodyRow.{BodyRow}
use Rattle.reading.specs.Promise.{body_checks, ReadsDefineBody}
use Rattle.reading.specs.Parsed.{ParsedBody, body_due, AcceptedBody}
use Rattle.tables.specs.Decided.{Countable, body_ended_checks, BodyRefused, BodyFinished}
use Rattle.reading.proofs.Promises.{body_refused_by, body_accepted_by, body_refused_source, body_refused_concats, body_refused_entries, body_not_refused}
use Rattle.tables.proofs.Ending.{body_over, body_short, body_well}
use Rattle.reading.proofs.Codes.{above}
use Rattle.reading.proofs.Fitting.{laid_short, laid_fits, laid_end, laid_cleared}
use Rattle.theorems.proofs.Weights.{few_body_entries}

-- The text is refused,
pub body_first_due : (src : List ℕ) (a : ℕ) (o : Result ⊤ Code) (y : Code) → code o ≡ refusal (source_checks src) → o ≡ Err y → number y ≡ body_due src a
body_first_due src a o y e q =
    let n : number y ≡ refusal (source_checks src) = sym (ap code q) ∙ e in
    sym (body_refused_source src a (number y) n (above y))

-- or not.
module _ (src t : List ℕ) (r : ℕ) (q : r ≡ refusal (source_checks src)) (z : r ≡ 0) (t₁ : List ℕ) (x : BodyRow) (k : ParsedBody src t t₁ x)
    (bt : length t₁ ≡ length t) (nt : length t < far) where
  abbrev list : List Entry
  list = entries 0 0 (parse_define_body src)

  abbrev numbers : List ℕ
  numbers = entry_numbers list

  abbrev end : ℕ
  end = x.pen.n

  many : length numbers ≡ Width.entry * length list
  many = length_entries list

  countable : Countable (length list)
  countable = omega (arith, few_body_entries src, source_length src r q z)

  -- What is found where the reading ended is the refusal of the call; where it is none, the entries fit.
  abbrev found : ℕ
  found = refusal (body_ended_checks x.over end (length t₁))

  record Decided (n : ℕ) : Type 0 where
    same : refusal (body_checks src (length t)) ≡ n
    not_over : n ≡ 0 → x.over ≡ false
    within : n ≡ 0 → end ≤ length t₁

  refuse : (n : ℕ) → (n ≡ 0 → ⊥) → refusal (body_checks src (length t)) ≡ n → n ≡ found → Decided found
  refuse n d h i = rw (← i) (record { same = h; not_over = λ j. absurd (d j); within = λ j. absurd (d j) })

  decided : Decided found
  decided = go x.over refl
    where
      told : {b : Bool} → x.over ≡ b → too_many (body_concats (parse_define_body src)) ≡ b
      told o = sym k.over ∙ o

      go : (b : Bool) → x.over ≡ b → Decided found
      go true o = refuse Refusal.CONCATS (λ n. omega arith) (body_refused_concats src _ r q z (told o)) (body_over x.over end (length t₁) o)
      go false o = elim (dec_le end (length t₁)) [
        | yes h ↦
            let s : 0 ≡ found = body_well x.over end (length t₁) o h in
            rw (← s) (record { same = body_not_refused src _ r q z (told o) (laid_fits (k.tree o) nt h); not_over = λ n. o; within = λ n. h })
        | no h ↦
            refuse Refusal.ENTRIES (λ n. omega arith) (body_refused_entries src _ r q z (told o) (laid_short (k.tree o) (λ n. omega (arith, many, countable)) (omega arith)))
            (body_short x.over end (length t₁) o (omega arith))
      ]

  -- By what the test of the table says the body is refused,
  module _ (o : Result ⊤ Code) (i : code o ≡ refusal (body_ended_checks x.over x.pen.n (length t₁))) where
    pub body_later_due : (y : Code) → o ≡ Err y → number y ≡ body_due src (length t)
    body_later_due y p = sym (ap code p) ∙ i ∙ sym decided.same

    -- or its reading fits.
    pub body_accepted : (u : ⊤) → o ≡ Ok u → AcceptedBody src t t₁ x.pen.n
    body_accepted u p =
        let n : found ≡ 0 = sym i ∙ ap code p in
        let l : Laid numbers (page t 0) (page t₁ end) = k.tree (decided.not_over n) in
        let w : end ≤ length t₁ = decided.within n in
        record { none = decided.same ∙ n; within = w; countable = omega (arith, laid_end l nt w, many, countable); laid = l }

-- The answers, of a table that kept its length.
module _ (src t t₁ : List ℕ) (bt : length t₁ ≡ length t) (a : Counted) (t₂ : List ℕ) where
  pub refused_body : (y : Code) → number y ≡ body_due src (length t) → BodyRefused (number y) (length t₁) a t₂ → ReadsDefineBody src (length t) a t₂
  refused_body y d f = body_refused_by src _ (number y) a t₂ (above y) (sym d) f.answer (f.entry_table ∙ ap zeros bt)

  pub accepted_body : (n : ℕ) → length t < far → AcceptedBody src t t₁ n → BodyFinished n t₁ a t₂ → ReadsDefineBody src (length t) a t₂
  accepted_body n nt k f =
      let m : n / Width.entry ≡ length (entries 0 0 (parse_define_body src))
      = omega (arith, laid_end k.laid nt k.within, length_entries (entries 0 0 (parse_define_body src))) in
      body_accepted_by src _ _ a t₂ k.none m f.answer (f.entry_table ∙ laid_cleared k.laid nt k.within)
