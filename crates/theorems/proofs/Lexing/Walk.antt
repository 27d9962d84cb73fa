-- The pre-tokens of a source are those that the automaton over bytes finds.
use Prim.Native.Nat.{ℕ, suc, ◌+◌, ◌≤◌}
use mathlib.Core.Path.{◌≡◌, refl, ap, sym, ◌∙◌}
use mathlib.Core.Bool.{Bool}
use mathlib.Core.List.{List, [], ◌∷◌, ◌++◌, map}
use mathlib.Core.Option.{Option, none, some}
use lib.ListN.{length, take, drop}
use native.Mathlib.Omega.{arith}
use Rattle.definition.specs.Runs.{Run, Row, joined, put, list, runs, grouped}
use Rattle.definition.specs.Newline.{LF, CR, CRLF, char_more, chars}
use Rattle.definition.specs.Unescaped.{unescaped}
use Rattle.definition.specs.Pre.{State, Pre, done, slash, ident, single_comment, multi_comment, multi_comment_star, whitespace, quote_string, angle_string, backslash, digits, alone, in_ident, in_comment, in_digits, begin, flag, more, kind_of, pre_begin, pre_more, pres}
use Rattle.definition.specs.Glue.{flat, pre_kind}
use Rattle.theorems.proofs.Lexing.Chars.{char_row, first_char, row_on, row_off, class_kept}
use Rattle.theorems.specs.Walk.{Walk, longer, walk, name_kind, pre_tokens, pre_token}

-- The row of pre-tokens that is being read.
abbrev pre_row : State → Bool → List (Run ℕ ℕ) → Row (Run ℕ ℕ) Pre
pre_row q f cs = runs pre_begin pre_more (record { at = q; wants = f }) cs

-- Two newline characters as one act as either of them.
more_pair : (q : State) → (more q CRLF ≡ more q CR) × (more q CRLF ≡ more q LF)
unfolding more
more_pair (done k) = (refl, refl)
more_pair slash = (refl, refl)
more_pair ident = (refl, refl)
more_pair single_comment = (refl, refl)
more_pair multi_comment = (refl, refl)
more_pair multi_comment_star = (refl, refl)
more_pair whitespace = (refl, refl)
more_pair quote_string = (refl, refl)
more_pair angle_string = (refl, refl)
more_pair (backslash alone) = (refl, refl)
more_pair (backslash in_ident) = (refl, refl)
more_pair (backslash in_comment) = (refl, refl)
more_pair (backslash (in_digits e d)) = (refl, refl)
more_pair (digits e d) = (refl, refl)

-- The automaton does not tell the newline characters from the two as one.
begins : (f : Bool) (c : ℕ) (bs : List ℕ) → begin f (char_row c bs).kind ≡ begin f c
unfolding begin
begins f = class_kept (begin f) refl refl

flags : (f : Bool) (c : ℕ) (bs : List ℕ) → flag f (char_row c bs).kind ≡ flag f c
unfolding flag
flags f = class_kept (flag f) refl refl

mores : (q : State) (c : ℕ) (bs : List ℕ) → more q (char_row c bs).kind ≡ more q c
mores q = class_kept (more q) (sym (more_pair q).1) (sym (more_pair q).0)

-- One equation for each case of `walk` and of the row of pre-tokens.
module _ (c b : ℕ) (bs : List ℕ) where
  pub walk_same : (q : State) (c' : ℕ) → char_more c b ≡ some c' → walk q c (b ∷ bs) ≡ longer (walk q c' bs)
  unfolding walk
  walk_same q c' e = rw (e, walk)

  pub walk_more : (q q' : State) → char_more c b ≡ none → more q b ≡ some q' → walk q c (b ∷ bs) ≡ longer (walk q' b bs)
  unfolding walk
  walk_more q q' e h = rw (e, walk, h)

  pub walk_stop : (q : State) → char_more c b ≡ none → more q b ≡ none → walk q c (b ∷ bs) ≡ record { kind = kind_of q; long = 0 }
  unfolding walk
  walk_stop q e h = rw (e, walk, h)

module _ (q : State) (f : Bool) (d : Run ℕ ℕ) (cs : List (Run ℕ ℕ)) where
  pre_more_is : (q' : State) → more q d.kind ≡ some q' → pre_row q f (d ∷ cs) ≡ put d (pre_row q' f cs)
  unfolding runs pre_more
  pre_more_is q' e = rw (e, runs)

  pre_stop_is : more q d.kind ≡ none
      → pre_row q f (d ∷ cs) ≡ record { kind = record { at = q; wants = f }; text = []; later = list d (pre_row (begin f d.kind) (flag f d.kind) cs) }
  unfolding runs pre_more pre_begin
  pre_stop_is e = rw (e, runs)

-- The two stages run as one: w is the walk, r and p are the rows of characters and of pre-tokens, t is the row of characters of the walk's bytes alone.
record Fused (f : Bool) (q : State) (c : ℕ) (bs : List ℕ) (w : Walk) (r : Row ℕ ℕ) (p : Row (Run ℕ ℕ) Pre) (t : Row ℕ ℕ) : Type 0 where
  kind : kind_of p.kind.at ≡ w.kind
  bytes : r.text ++ joined p.text ≡ take w.long bs
  later : map (flat pre_kind) p.later ≡ pre_tokens f (drop w.long bs)
  first : t.text ≡ r.text
  kept : t.kind ≡ r.kind
  others : t.later ≡ p.text

abbrev Fuse : Bool → State → ℕ → List ℕ → Type 0
Fuse f q c bs = Fused f q c bs (walk q c bs) (char_row c bs) (pre_row q f (char_row c bs).later) (char_row c (take (walk q c bs).long bs))

fused : (f : Bool) (q : State) (c : ℕ) (bs : List ℕ) → Fuse f q c bs
unfolding runs walk joined pre_tokens pres chars grouped pre_begin
fused f q c [] = record { kind = refl; bytes = refl; later = refl; first = refl; kept = refl; others = refl }
fused f q c (b ∷ bs) = go (char_more c b) refl (more q b) refl (λ p x. fused f p x bs)
  where
    go : (o : Option ℕ) → char_more c b ≡ o → (n : Option State) → more q b ≡ n → ((p : State) (x : ℕ) → Fuse f p x bs) → Fuse f q c (b ∷ bs)
    go (some c') e n e₂ ih =
        let h : Fuse f q c' bs = ih q c' in
        rw (walk_same c b bs q c' e, row_on c b bs c' e, row_on c b (take (walk q c' bs).long bs) c' e)
        (record { kind = h.kind; bytes = ap (λ l. b ∷ l) h.bytes; later = h.later; first = ap (λ l. b ∷ l) h.first; kept = h.kept; others = h.others })
    go none e (some q') e₂ ih =
        let h : Fuse f q' b bs = ih q' b in
        let m : more q (char_row b bs).kind ≡ some q' = mores q b bs ∙ e₂ in
        rw (walk_more c b bs q q' e e₂, row_off c b bs e, row_off c b (take (walk q' b bs).long bs) e, pre_more_is q f (first_char b bs) (char_row b bs).later q' m)
        (record { kind = h.kind; bytes = ap (λ l. b ∷ l) h.bytes; later = h.later; first = refl; kept = refl; others = rw (h.kept, h.first, h.others) })
    go none e none e₂ ih =
        let m : more q (char_row b bs).kind ≡ none = mores q b bs ∙ e₂ in
        rw (walk_stop c b bs q e e₂, row_off c b bs e, pre_stop_is q f (first_char b bs) (char_row b bs).later m)
        (record { kind = refl; bytes = refl; later = refl; first = refl; kept = refl; others = refl })

pub pre_tokens_cons : (f : Bool) (b : ℕ) (bs : List ℕ)
    → pre_tokens f (b ∷ bs) ≡ pre_token f b bs ∷ pre_tokens (flag f b) (drop (walk (begin f b) b bs).long bs)
unfolding pre_tokens pres chars grouped pre_begin flat pre_kind pre_token name_kind unescaped
pre_tokens_cons f b bs =
    let h : Fuse (flag f b) (begin f b) b bs = fused (flag f b) (begin f b) b bs in
    rw (begins f b bs, flags f b bs, h.kind, h.bytes, h.later, h.kept, h.first, h.others)

pub pre_tokens_nil : (f : Bool) → pre_tokens f [] ≡ []
unfolding pre_tokens pres chars grouped
pre_tokens_nil f = refl

-- A pre-token ends within the source.
pub walk_fits : (q : State) (c : ℕ) (bs : List ℕ) → (walk q c bs).long ≤ length bs
unfolding walk
walk_fits q c [] = omega arith
walk_fits q c (b ∷ bs) = go (char_more c b) refl (more q b) refl (λ p x. walk_fits p x bs)
  where
    go : (o : Option ℕ) → char_more c b ≡ o → (n : Option State) → more q b ≡ n
        → ((p : State) (x : ℕ) → (walk p x bs).long ≤ length bs) → (walk q c (b ∷ bs)).long ≤ suc (length bs)
    go (some c') e n m ih = rw (walk_same c b bs q c' e) (let h : (walk q c' bs).long ≤ length bs = ih q c' in omega arith)
    go none e (some q') m ih = rw (walk_more c b bs q q' e m) (let h : (walk q' b bs).long ≤ length bs = ih q' b in omega arith)
    go none e none m ih = rw (walk_stop c b bs q e m) (omega arith)

-- No byte goes on with the character 0.
pub zero_none : (b : ℕ) → char_more 0 b ≡ none
unfolding char_more
zero_none b = refl

-- The character does not matter where the next byte does not go on with it,
pub walk_free : (q : State) (c : ℕ) (bs : List ℕ) → ((b : ℕ) (r : List ℕ) → bs ≡ b ∷ r → char_more c b ≡ none) → walk q c bs ≡ walk q 0 bs
unfolding walk
walk_free q c [] f = refl
walk_free q c (b ∷ bs) f = rw (f b bs refl, walk, zero_none b)

-- and behind the whole of it.
abbrev pub longer_by : ℕ → Walk → Walk
longer_by n w = record { kind = w.kind; long = n + w.long }

pub walk_behind : (q : State) (c : ℕ) (bs : List ℕ)
    → walk q c bs ≡ longer_by (length (char_row c bs).text) (walk q 0 (drop (length (char_row c bs).text) bs))
unfolding runs walk
walk_behind q c [] = refl
walk_behind q c (b ∷ bs) = go (char_more c b) refl (λ d. walk_behind q d bs)
  where
    again : (n : ℕ) (w : Walk) → longer (longer_by n w) ≡ longer_by (suc n) w
    again n w = ap (λ m. record { kind = w.kind; long = m }) (omega arith)

    go : (o : Option ℕ) → char_more c b ≡ o
        → ((d : ℕ) → walk q d bs ≡ longer_by (length (char_row d bs).text) (walk q 0 (drop (length (char_row d bs).text) bs)))
        → walk q c (b ∷ bs) ≡ longer_by (length (char_row c (b ∷ bs)).text) (walk q 0 (drop (length (char_row c (b ∷ bs)).text) (b ∷ bs)))
    go (some d) e ih = rw (walk_same c b bs q d e, row_on c b bs d e) (ap longer (ih d) ∙ again (length (char_row d bs).text) (walk q 0 (drop (length (char_row d bs).text) bs)))
    go none e ih =
        rw (row_off c b bs e)
        (walk_free q c (b ∷ bs) (λ x r z. let y : b ≡ x = cc in rw (← y) e) ∙ ap (λ m. record { kind = (walk q 0 (b ∷ bs)).kind; long = m }) (omega arith))

-- A finished token has its kind, and no more bytes than its last character.
pub walk_done : (k c : ℕ) (bs : List ℕ) → (walk (done k) c bs).kind ≡ k
unfolding walk more kind_of
walk_done k c [] = refl
walk_done k c (b ∷ bs) = go (char_more c b) refl (λ d. walk_done k d bs)
  where
    go : (o : Option ℕ) → char_more c b ≡ o → ((d : ℕ) → (walk (done k) d bs).kind ≡ k) → (walk (done k) c (b ∷ bs)).kind ≡ k
    go (some d) e ih = rw (e, walk) (ih d)
    go none e ih = rw (e, walk)

pub walk_alone : (k c : ℕ) (bs : List ℕ) → ((b : ℕ) (r : List ℕ) → bs ≡ b ∷ r → char_more c b ≡ none) → walk (done k) c bs ≡ record { kind = k; long = 0 }
unfolding walk more kind_of
walk_alone k c [] f = refl
walk_alone k c (b ∷ bs) f = rw (f b bs refl, walk)
