-- Leaves are read with no error exactly when they keep the grammar, and they are divided in at most one way.
use Rattle.std.specs.Prelude.{if◌then◌else◌}
use Prim.Native.Nat.{ℕ, zero, suc, ◌≤◌}
use mathlib.Core.Path.{◌≡◌, refl, ap, sym, ◌∙◌, subst}
use mathlib.Core.Bool.{Bool, true, false, not}
use mathlib.Core.List.{List, [], ◌∷◌}
use mathlib.Core.Option.{Option, none, some, some-ne-none}
use mathlib.Core.Logic.{◌↔◌, ◌⊎◌, inl, inr}
use borrow.Author.Tests.{not-false}
use native.Mathlib.Omega.{arith}
use lib.ListN.{length}
use Rattle.definition.specs.SyntaxKind.{Kind}
use Rattle.definition.specs.Tree.{Leaf}
use Rattle.definition.specs.Parser.{is, trivia, newline_leaf, inline, after, peek, Reader, ◌then◌, skip, skip_trivia, nothing, bump}
use Rattle.definition.specs.Syntax.{hash_item, item, file}
use Rattle.definition.specs.Grammar.{One, one, Many, no_more, one_more, ◌⨾◌, Eol, at_newline, at_end, t*, lparen, no_word, a_word, Sort, blank, text, group, directive, Item, Cut, Division, Keeps}
use Rattle.theorems.proofs.Grammar.Clean.{Clean, Both, clean_then, then_clean, of_kind, none_pass, after_many, Skipped, skipped, many_many, clean_skip, clean_trivia, trivia_clean}
use Rattle.theorems.proofs.Grammar.Words.{eol_is, eol_inline, solid_eol}
use Rattle.theorems.proofs.Grammar.Plain.{id}
use Rattle.theorems.proofs.Grammar.Lines.{Line, Group, line, clean_group, clean_empty, clean_word, line_clean}
use Rattle.theorems.proofs.Grammar.Shorter.{item_shorter}

-- The sort of the item that begins with these leaves, its leading trivia left out.
sort_of : List Leaf → Option Sort
sort_of [] = none
sort_of (t ∷ ts) =
    some (if newline_leaf t then blank else if is Kind.HASH t then (if peek lparen (after trivia ts) then group else directive) else text)

-- The end of a line is taken with no error, and what stands behind a line's leaves is its end.
clean_eol : {L R : List Leaf} → Eol L R → Clean bump L R
unfolding bump
clean_eol (at_newline e) = record { clear = (refl, refl) }
clean_eol at_end = record { clear = (refl, refl) }

eol_clean : (L : List Leaf) → peek inline L ≡ false → Eol L (bump L).rest
unfolding peek bump
eol_clean [] h = at_end
eol_clean (t ∷ L) h = at_newline (not-false (newline_leaf t) h)

-- What is read where no HASH stands: all up to the end of a line.
abbrev text_line : Reader
text_line = skip_trivia then skip inline then bump

clean_text_line : {L M N R : List Leaf} → t* L M → peek trivia M ≡ false → Many inline M N → Eol N R → Clean text_line L R
clean_text_line m h k z =
    let c = clean_then (skip inline) bump (clean_skip k (eol_inline z)) (clean_eol z) in
    clean_then skip_trivia (skip inline then bump) (clean_trivia m h) c

text_clean : {L M R : List Leaf} → after trivia L ≡ M → Clean text_line L R → (bump (after inline M)).rest ≡ R
unfolding ◌then◌ skip_trivia skip
text_clean q c = rw q at c.clear.1

module _ (n : ℕ) where
  -- The first leaf behind an item's trivia says how it is read.
  plain_item : {L M R : List Leaf} → after trivia L ≡ M → peek (is Kind.HASH) M ≡ false → Clean text_line L R ↔ Clean (item n id) L R
  unfolding item
  plain_item q e = (λ c. record { clear = rw (q, item, e) c.clear }, λ c. record { clear = rw (q, item, e) at c.clear })

  hashed_item : {t : Leaf} {L M R : List Leaf} → after trivia L ≡ t ∷ M → is Kind.HASH t ≡ true
      → Clean (skip_trivia then line n) M R ↔ Clean (item n id) L R
  unfolding item hash_item peek ◌then◌ bump skip_trivia skip
  hashed_item q e = (λ c. record { clear = rw (q, item, e) c.clear }, λ c. record { clear = rw (q, item, e) at c.clear })

  -- An item of the grammar is read with no error, and its first leaves decide its sort.
  record ReadAs (s : Sort) (L R : List Leaf) : Type 0 where
    clean : Clean (item n id) L R
    sorted : sort_of (after trivia L) ≡ some s

  -- A directive's line behind its HASH, which is no group.
  record ReadLine (L R : List Leaf) : Type 0 where
    clean : Clean (skip_trivia then line n) L R
    no_group : peek lparen (after trivia L) ≡ false

  clean_line : {L M R : List Leaf} → t* L M → Line M R → ReadLine L R
  unfolding peek
  clean_line m (no_word ⨾ k ⨾ z) =
      let j = many_many m k in
      record {
        clean = clean_then skip_trivia (line n) (clean_trivia j (solid_eol.begins z)) (clean_empty n z);
        no_group = rw (after_many j (solid_eol.begins z)) (eol_is Kind.LPAREN refl z);
      }
  clean_line m (a_word {t = t} e q r ⨾ k) =
      let f = none_pass (trivia t) (newline_leaf t) (lparen t) e in
      record {
        clean = clean_then skip_trivia (line n) (clean_trivia m f.0) (clean_word n e q (r ⨾ k));
        no_group = rw (after_many m f.0) f.2;
      }

  clean_item : (s : Sort) {L R : List Leaf} → Item s L R → ReadAs s L R
  unfolding peek sort_of
  clean_item blank {L} {R} (m ⨾ one {t = t} e) =
      let q : after trivia L ≡ t ∷ R = after_many m (rw (of_kind t e)) in
      record { clean = (plain_item q (rw (of_kind t e))).0 (clean_text_line m (rw (of_kind t e)) no_more (at_newline e)); sorted = rw (q, sort_of, e) }
  clean_item text {L} (m ⨾ one {t = t} {R = M} e ⨾ k ⨾ z) =
      let f = none_pass (trivia t) (is Kind.HASH t) (newline_leaf t) e in
      let q : after trivia L ≡ t ∷ M = after_many m f.0 in
      record { clean = (plain_item q f.1).0 (clean_text_line m f.0 (one_more (ap not f.2) k) z); sorted = rw (q, sort_of, f.2, f.1) }
  clean_item group {L} (m ⨾ one {t = t} {R = M} e ⨾ k ⨾ one {t = u} {R = N} f ⨾ z) =
      let q : after trivia L ≡ t ∷ M = after_many m (rw (of_kind t e)) in
      let r : after trivia M ≡ u ∷ N = after_many k (rw (of_kind u f)) in
      record {
        clean = (hashed_item q e).0 (clean_then skip_trivia (line n) (clean_trivia k (rw (of_kind u f))) (clean_group n (one f ⨾ z)));
        sorted = rw (q, sort_of, r, of_kind t e, f);
      }
  clean_item directive {L} (m ⨾ one {t = t} {R = M} e ⨾ k ⨾ c) =
      let q : after trivia L ≡ t ∷ M = after_many m (rw (of_kind t e)) in
      let d = clean_line k c in
      record { clean = (hashed_item q e).0 d.clean; sorted = rw (q, sort_of, of_kind t e, d.no_group) }

  -- An item that is read with no error, and is not trivia alone, is one of the grammar.
  record Found (L R : List Leaf) : Type 0 where
    sort : Sort
    it : Item sort L R

  item_clean : (t : Leaf) (L M : List Leaf) {R : List Leaf} → after trivia L ≡ t ∷ M → Clean (item n id) L R → Found L R
  unfolding peek after bump
  item_clean t L M {R} q c = go (is Kind.HASH t) refl (newline_leaf t) refl (rw q at (skipped trivia L))
    where
      hashed : {N : List Leaf} → is Kind.HASH t ≡ true → t* L (t ∷ M) → t* M N → Group N R ⊎ Line N R → Found L R
      hashed e m k (inl g) = record { sort = group; it = m ⨾ one e ⨾ k ⨾ g }
      hashed e m k (inr d) = record { sort = directive; it = m ⨾ one e ⨾ k ⨾ d }

      go : (x : Bool) → is Kind.HASH t ≡ x → (y : Bool) → newline_leaf t ≡ y → Skipped trivia L (t ∷ M) → Found L R
      go true e y f s =
          let b = then_clean skip_trivia (line n) ((hashed_item q e).1 c) in
          let k = trivia_clean b.first in
          hashed e s.passed k.passed (line_clean n b.middle k.next b.second)
      go false e true f s =
          let r : M ≡ R = rw (f, after) at (text_clean q ((plain_item q e).1 c)) in
          record { sort = blank; it = s.passed ⨾ subst (One newline_leaf (t ∷ M)) r (one f) }
      go false e false f s =
          let r : (bump (after inline M)).rest ≡ R = rw (f, after) at (text_clean q ((plain_item q e).1 c)) in
          let k = skipped inline M in
          let z = subst (Eol (after inline M)) r (eol_clean (after inline M) k.next) in
          record { sort = text; it = s.passed ⨾ one {t = t} (rw (s.next, e, f)) ⨾ k.passed ⨾ z }

  -- Trivia at the end is read with no error too.
  clean_last : (L : List Leaf) → t* L [] → Clean (item n id) L []
  unfolding peek
  clean_last L m = (plain_item (after_many m refl) refl).0 (clean_text_line m refl no_more at_end)

  -- Leaves that keep the grammar are read with no error.
  pub complete : (f : ℕ) (cs : List Cut) (L : List Leaf) → length L ≤ f → Division cs L → (file n id f L).errs ≡ []
  unfolding file nothing
  complete zero cs L h d = refl
  complete (suc f) cs [] h d = refl
  complete (suc f) [] (t ∷ L) h d =
      let e = complete f [] [] (omega arith) no_more in
      (clean_then (item n id) (file n id f) (clean_last (t ∷ L) d) record { clear = (e, refl) }).clear.0
  complete (suc f) (c ∷ cs) (t ∷ L) h d =
      let s = (item_shorter c.sort).shorter d.0 in
      let e = complete f cs c.behind (omega arith) d.1 in
      (clean_then (item n id) (file n id f) (clean_item c.sort d.0).clean record { clear = (e, refl) }).clear.0

  -- Leaves that are read with no error keep the grammar.
  pub sound : (f : ℕ) (L : List Leaf) → length L ≤ f → (file n id f L).errs ≡ [] → Keeps L
  unfolding file
  sound zero [] h e = ([], no_more)
  sound zero (t ∷ L) h e = absurd (omega arith)
  sound (suc f) [] h e = ([], no_more)
  sound (suc f) (t ∷ L) h e = go (after trivia (t ∷ L)) refl (then_clean (item n id) (file n id f) record { clear = (e, refl) }) (sound f)
    where
      go : {R : List Leaf} (M : List Leaf) → after trivia (t ∷ L) ≡ M → Both (item n id) (file n id f) (t ∷ L) R
          → ((M : List Leaf) → length M ≤ f → (file n id f M).errs ≡ [] → Keeps M) → Keeps (t ∷ L)
      go [] q b ih = ([], rw q at (skipped trivia (t ∷ L)).passed)
      go (u ∷ us) q b ih =
          let i = item_clean u (t ∷ L) us q b.first in
          let s = (item_shorter i.sort).shorter i.it in
          let k = ih b.middle (omega arith) b.second.clear.0 in
          (record { sort = i.sort; behind = b.middle } ∷ k.0, (i.it, k.1))

-- Leaves are divided in at most one way: an item's first leaves decide its sort, and the reading decides what is behind it.
no_item : (c : Cut) {L : List Leaf} → Item c.sort L c.behind → t* L [] → ⊥
unfolding peek sort_of
no_item c i m = some-ne-none c.sort (sym (clean_item 0 c.sort i).sorted ∙ ap sort_of (after_many m refl))

pub unique : (cs ds : List Cut) (L : List Leaf) → Division cs L → Division ds L → cs ≡ ds
unique [] [] L a b = refl
unique [] (d ∷ ds) L a b = absurd (no_item d b.0 a)
unique (c ∷ cs) [] L a b = absurd (no_item c a.0 b)
unique (c ∷ cs) (d ∷ ds) L a b =
    let x = clean_item 0 c.sort a.0 in
    let y = clean_item 0 d.sort b.0 in
    let s : c.sort ≡ d.sort = cc in
    let l : c.behind ≡ d.behind = sym x.clean.clear.1 ∙ y.clean.clear.1 in
    let t : cs ≡ ds = unique cs ds c.behind a.1 (rw (← l) at b.1) in
    λ i. record { sort = s i; behind = l i } ∷ t i
