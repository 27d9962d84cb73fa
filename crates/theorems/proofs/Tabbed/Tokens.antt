-- The lexer does not tell a vertical tab from a tab (Req 02): a source's tokens, lines and unescaped text are those of the source with tabs.
use Rattle.std.specs.Prelude.{if◌then◌else◌}
use Prim.Native.Nat.{ℕ, suc, ◌+◌}
use mathlib.Core.Path.{◌≡◌, refl, ap, ap₂, sym, ◌∙◌}
use mathlib.Core.Bool.{Bool, true, false, ◌&&◌, ◌||◌, not, false≢true, and-false, and-eq-true_iff}
use mathlib.Core.List.{List, [], ◌∷◌, ◌++◌, map, map-append}
use mathlib.Core.Option.{Option, none, some}
use lib.Dec.{eqb}
use lib.ListN.{length, length-map}
use borrow.Author.Tests.{ne_eqb, eqb-true, eqb-false}
use Rattle.definition.specs.Text.{among, one_of, ascii, same}
use Rattle.definition.specs.SyntaxKind.{Kind}
use Rattle.definition.specs.Runs.{Run, text, joined, grouped}
use Rattle.definition.specs.Newline.{LF, CR, VT, char_more, chars, newline}
use Rattle.definition.specs.LineMap.{newline_ends, line_starts}
use Rattle.definition.specs.Unescaped.{unescaped_chars, unescaped}
use Rattle.definition.specs.Pre.{State, done, slash, ident, single_comment, multi_comment, multi_comment_star, whitespace, quote_string, angle_string, backslash as behind_backslash, digits, alone, in_ident, in_comment, in_digits, begin, flag, more, Pre, pre_begin, pre_more, pres, kind_of}
use Rattle.definition.specs.Glue.{Token, tokens, flat, defined, pre_kind, token_numbers}
use Rattle.definition.specs.Tree.{Leaf, placed}
use Rattle.theorems.specs.Step.{glue_begin, glue_more}
use Rattle.theorems.specs.Tabbed.{TAB, as_tab, tabbed, tabbed_token, tabbed_leaf}
use Rattle.theorems.proofs.Lexing.Chars.{GoesOn, tail, cr_lf, lf_cr, goes_on}
use Rattle.theorems.proofs.Lexing.Unescapes.{backslash, by_test}
use Rattle.theorems.proofs.Tabbed.Runs.{onto, onto_same, run_as, joined_as, grouped_as}

-- What does not tell the two apart is the same of a byte and of that byte as a tab.
pub by_tab : {A : Type 0} (p : ℕ → A) → p TAB ≡ p VT → (c : ℕ) → p (as_tab c) ≡ p c
by_tab p e c = go (eqb c VT) refl
  where
    go : (b : Bool) → eqb c VT ≡ b → p (if b then TAB else c) ≡ p c
    go true h = rw (eqb-true c VT h) e
    go false h = refl

-- Characters: neither goes on with one, and none goes on with them.
char_tab : (c : ℕ) → char_more c TAB ≡ char_more c VT
unfolding char_more
char_tab c = rw (and-false (among 192 255 c), and-false (eqb c CR), and-false (eqb c LF))

char_as : (c b : ℕ) → char_more (as_tab c) (as_tab b) ≡ onto as_tab (char_more c b)
unfolding char_more
char_as c b = by_tab (char_more (as_tab c)) (char_tab (as_tab c)) b ∙ go (eqb c VT) refl (char_more c b) refl
  where
    go : (t : Bool) → eqb c VT ≡ t → (o : Option ℕ) → char_more c b ≡ o → char_more (if t then TAB else c) b ≡ onto as_tab o
    go true h o e = ap (onto as_tab) (rw (eqb-true c VT h) at e)
    go false h none e = e
    go false h (some d) e = e ∙ ap some (kept (goes_on c b d e))
      where
        kept : GoesOn c b d → d ≡ as_tab d
        kept (tail q _ _) = rw (q, h)
        kept (cr_lf q _ _) = rw q
        kept (lf_cr q _ _) = rw q

abbrev tabbed_char : Run ℕ ℕ → Run ℕ ℕ
tabbed_char = run_as as_tab as_tab

chars_tabbed : (bs : List ℕ) → chars (tabbed bs) ≡ map tabbed_char (chars bs)
unfolding chars
chars_tabbed bs = grouped_as as_tab as_tab _ _ _ _ (λ q b. refl) char_as 0 bs

-- The steps of a pre-token.
more_tab : (q : State) → more q TAB ≡ more q VT
unfolding more
more_tab (done k) = refl
more_tab slash = refl
more_tab ident = refl
more_tab single_comment = refl
more_tab multi_comment = refl
more_tab multi_comment_star = refl
more_tab whitespace = refl
more_tab quote_string = refl
more_tab angle_string = refl
more_tab (behind_backslash alone) = refl
more_tab (behind_backslash in_ident) = refl
more_tab (behind_backslash in_comment) = refl
more_tab (behind_backslash (in_digits e d)) = refl
more_tab (digits e d) = rw (and-false (not d), and-false e)

pre_begins : (p : Pre) (c : Run ℕ ℕ) → pre_begin p (tabbed_char c) ≡ pre_begin p c
unfolding pre_begin begin flag
pre_begins p c = ap₂ (λ q f. record { at = q; wants = f }) (by_tab (begin p.wants) refl c.kind) (by_tab (flag p.wants) refl c.kind)

pre_goes : (p : Pre) (c : Run ℕ ℕ) → pre_more p (tabbed_char c) ≡ onto (λ q. q) (pre_more p c)
unfolding pre_more
pre_goes p c =
    ap (λ o. elim o [ some q ↦ some (record { at = q; wants = p.wants }) | none ↦ none ]) (by_tab (more p.at) (more_tab p.at) c.kind)
    ∙ onto_same (pre_more p c)

pres_tabbed : (f : Bool) (cs : List (Run ℕ ℕ)) → pres f (map tabbed_char cs) ≡ map (run_as tabbed_char (λ q. q)) (pres f cs)
unfolding pres
pres_tabbed f cs = grouped_as tabbed_char (λ q. q) _ _ _ _ pre_begins pre_goes (record { at = done 0; wants = f }) cs

-- Unescaping, and comparing with a word that holds neither.
unescaped_as : (cs : List (Run ℕ ℕ)) → unescaped_chars (map tabbed_char cs) ≡ tabbed (unescaped_chars cs)
unfolding unescaped_chars
unescaped_as [] = refl
unescaped_as (c ∷ []) = refl
unescaped_as (c ∷ d ∷ cs) = go (backslash c.kind && newline d.kind) refl (unescaped_as cs) (unescaped_as (d ∷ cs))
  where
    alike : (backslash (as_tab c.kind) && newline (as_tab d.kind)) ≡ (backslash c.kind && newline d.kind)
    alike = ap₂ ◌&&◌ (by_tab backslash refl c.kind) (by_tab newline refl d.kind)

    go : (t : Bool) → (backslash c.kind && newline d.kind) ≡ t
        → unescaped_chars (map tabbed_char cs) ≡ tabbed (unescaped_chars cs)
        → unescaped_chars (map tabbed_char (d ∷ cs)) ≡ tabbed (unescaped_chars (d ∷ cs))
        → unescaped_chars (map tabbed_char (c ∷ d ∷ cs)) ≡ tabbed (unescaped_chars (c ∷ d ∷ cs))
    go true e ih jh = by_test (tabbed_char c) (tabbed_char d) (map tabbed_char cs) true (alike ∙ e) ∙ ih ∙ ap tabbed (sym (by_test c d cs true e))
    go false e ih jh =
        by_test (tabbed_char c) (tabbed_char d) (map tabbed_char cs) false (alike ∙ e)
        ∙ ap (λ l. text (tabbed_char c) ++ l) jh
        ∙ sym (map-append as_tab (text c) (unescaped_chars (d ∷ cs))) ∙ ap tabbed (sym (by_test c d cs false e))

-- Whether neither is a byte of the word.
unfoldable pub apart : List ℕ → Bool
apart [] = true
apart (y ∷ ys) = not (one_of (VT ∷ TAB ∷ []) y) && apart ys

alike : (y : ℕ) → not (one_of (VT ∷ TAB ∷ []) y) ≡ true → (eqb TAB y ≡ eqb VT y) × (eqb y TAB ≡ eqb y VT)
alike y h = go (eqb y VT) (eqb y TAB) refl refl h
  where
    go : (a b : Bool) → eqb y VT ≡ a → eqb y TAB ≡ b → not (a || (b || false)) ≡ true → (eqb TAB y ≡ eqb VT y) × (eqb y TAB ≡ eqb y VT)
    go true b e f z = absurd (false≢true z)
    go false true e f z = absurd (false≢true z)
    go false false e f z =
        (ne_eqb TAB y (λ q. eqb-false y TAB f (sym q)) ∙ sym (ne_eqb VT y (λ q. eqb-false y VT e (sym q))), f ∙ sym e)

-- The word on the right, and on the left.
pub same_tabbed : (xs ys : List ℕ) → apart ys ≡ true → (same (tabbed xs) ys ≡ same xs ys) × (same ys (tabbed xs) ≡ same ys xs)
unfolding same apart
same_tabbed [] [] h = (refl, refl)
same_tabbed [] (y ∷ ys) h = (refl, refl)
same_tabbed (x ∷ xs) [] h = (refl, refl)
same_tabbed (x ∷ xs) (y ∷ ys) h =
    let p = (and-eq-true_iff (not (one_of (VT ∷ TAB ∷ []) y)) (apart ys)).0 h in
    let a = alike y p.0 in
    let ih = same_tabbed xs ys p.1 in
    (ap₂ ◌&&◌ (by_tab (λ x. eqb x y) a.0 x) ih.0, ap₂ ◌&&◌ (by_tab (λ x. eqb y x) a.1 x) ih.1)

kind_tabbed : (r : Run (Run ℕ ℕ) Pre) → pre_kind (run_as tabbed_char (λ q. q) r) ≡ pre_kind r
unfolding pre_kind apart ascii
kind_tabbed r =
    let k : ℕ = kind_of r.kind.at in
    ap (λ b. if eqb k Kind.IDENT_KW && b then Kind.DEFINED else k)
    (ap (λ l. same l defined) (unescaped_as (text r)) ∙ (same_tabbed (unescaped_chars (text r)) defined refl).0)

-- Runs made tokens.
module _ {S : Type 0} (j : ℕ → ℕ) (k : Run (Run ℕ ℕ) S → ℕ) (e : (r : Run (Run ℕ ℕ) S) → k (run_as (run_as as_tab j) (λ q. q) r) ≡ k r) where
  abbrev renamed : Run (Run ℕ ℕ) S → Run (Run ℕ ℕ) S
  renamed = run_as (run_as as_tab j) (λ q. q)

  flat_tabbed : (rs : List (Run (Run ℕ ℕ) S)) → map (flat k) (map renamed rs) ≡ map tabbed_token (map (flat k) rs)
  unfolding flat
  flat_tabbed [] = refl
  flat_tabbed (r ∷ rs) =
      ap₂ ◌∷◌
      (ap₂ (λ n l. record { kind = n; head = as_tab r.head.head; tail = l }) (e r)
      (ap (λ l. tabbed r.head.tail ++ l) (joined_as as_tab j r.tail) ∙ sym (map-append as_tab r.head.tail (joined r.tail))))
      (flat_tabbed rs)

-- The tokens of a source with tabs are its tokens with tabs: the same kinds, as long as they were.
pub tokens_tabbed : (f : Bool) (src : List ℕ) → tokens f (tabbed src) ≡ map tabbed_token (tokens f src)
unfolding tokens
tokens_tabbed f src =
    let cs : List (Run ℕ ℕ) = chars src in
    let ts : List Token = map (flat pre_kind) (pres f cs) in
    ap (λ l. map (flat (λ r. r.kind)) (grouped glue_begin glue_more 0 l))
    (ap (λ l. map (flat pre_kind) l) (ap (pres f) (chars_tabbed src) ∙ pres_tabbed f cs) ∙ flat_tabbed as_tab pre_kind kind_tabbed (pres f cs))
    ∙ ap (map (flat (λ r. r.kind))) (grouped_as tabbed_token (λ q. q) glue_begin glue_more glue_begin glue_more (λ q t. refl) (λ q t. onto_same (glue_more q t)) 0 ts)
    ∙ flat_tabbed (λ q. q) (λ r. r.kind) (λ r. refl) (grouped glue_begin glue_more 0 ts)

-- So are the leaves that a reader gets, and the numbers of a token listing are the same.
pub leaves_tabbed : (at : ℕ) (ts : List Token) → placed at (map tabbed_token ts) ≡ map tabbed_leaf (placed at ts)
unfolding placed
leaves_tabbed at [] = refl
leaves_tabbed at (t ∷ ts) =
    let u : Leaf = record { kind = if eqb t.kind Kind.LINECONT then Kind.WS else t.kind; start = at; bytes = tabbed (text t) } in
    rw (length-map t.tail as_tab) (ap (λ l. u ∷ l) (leaves_tabbed (at + length (text t)) ts))

pub numbers_tabbed : (at : ℕ) (ts : List Token) → token_numbers at (map tabbed_token ts) ≡ token_numbers at ts
unfolding token_numbers
numbers_tabbed at [] = refl
numbers_tabbed at (t ∷ ts) = rw (length-map t.tail as_tab) (ap (λ l. t.kind ∷ at ∷ (at + length (text t)) ∷ l) (numbers_tabbed (at + length (text t)) ts))

-- The lines are the same, and the unescaped text has tabs where it had vertical tabs.
ends_tabbed : (at : ℕ) (cs : List (Run ℕ ℕ)) → newline_ends at (map tabbed_char cs) ≡ newline_ends at cs
unfolding newline_ends
ends_tabbed at [] = refl
ends_tabbed at (c ∷ cs) =
    let step : Bool → ℕ → List ℕ → List ℕ = λ b e l. elim b [ true ↦ e ∷ l | false ↦ l ] in
    ap₂ (λ b n. step b (at + suc n) (newline_ends (at + suc n) (map tabbed_char cs))) (by_tab newline refl c.kind) (length-map c.tail as_tab)
    ∙ ap (step (newline c.kind) (at + length (text c))) (ends_tabbed (at + length (text c)) cs)

pub lines_tabbed : (src : List ℕ) → line_starts (tabbed src) ≡ line_starts src
unfolding line_starts
lines_tabbed src = ap (λ l. 0 ∷ l) (ap (newline_ends 0) (chars_tabbed src) ∙ ends_tabbed 0 (chars src))

pub unescaped_tabbed : (src : List ℕ) → unescaped (tabbed src) ≡ tabbed (unescaped src)
unfolding unescaped
unescaped_tabbed src = ap unescaped_chars (chars_tabbed src) ∙ unescaped_as (chars src)
