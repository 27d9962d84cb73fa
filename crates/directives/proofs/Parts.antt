-- The directives, made of their parts.
use Prim.Native.Nat.{ℕ, zero, suc, ◌≤◌}
use mathlib.Core.Path.{◌≡◌, refl, sym, subst, ◌∙◌}
use mathlib.Core.Bool.{Bool, true, false, ◌||◌, or-false}
use mathlib.Core.List.{List, [], ◌∷◌}
use borrow.Author.Tests.{eq-eqb, ne_eqb}
use lib.Dec.{eqb}
use native.Mathlib.Omega.{arith}
use lib.ListN.{length}
use Rattle.definition.specs.Text.{Kind}
use Rattle.definition.specs.Tree.{Leaf, body_kind}
use Rattle.definition.specs.Parser.{is, peek, Reader, ◌then◌, wrap, skip_trivia, nothing, bump, maybe, expect_one}
use Rattle.definition.specs.Syntax.{pp_body, define_args, pp_define, pp_version, pp_extension, colon}
use Rattle.theorems.proofs.Combinators.{then_assoc}
use Rattle.theorems.proofs.Grammar.Clean.{or_left}
use Rattle.tree.specs.Machine.{Open, Shut}
use Rattle.parser.specs.declared.Seen.{Seen}
use Rattle.parser.specs.Rest.{leaf_seen, unread}
use Rattle.parser.proofs.Taking.{one_seen, passed_some, peeked}
use Rattle.parser_run.specs.declared.Parser.{Parser}
use Rattle.parser_run.specs.Parses.{source_of, stand_of, Parses, Leafs, Nodes, Finds}
use Rattle.parser_run.specs.Expects.{either, passes, missed, expect_any}
use Rattle.parser_run.proofs.Laws.{reads_nothing, reads_maybe, maybe_none}
use Rattle.parser_run.proofs.Parts.{any_leaf, is_tested, seen_tested, either_tested}
use Rattle.parser_run.proofs.Parsing.{kept_same, same_source, leafs_parse, finds_parse, parses_then, parses_is, parses_wrap}
use Rattle.word.specs.Word.{Word, directive_at}
use Rattle.word.proofs.Search.{Others, nothing_behind}
use Rattle.directives.specs.Next.{expect_next, expect_node, define_head}

-- One reading after another that knows where the source ends.
pub then_at : (q : ℕ → Reader) {p : Reader} {s s₁ s₂ : Parser} → Parses p s s₁ → Parses (q (length (source_of s₁))) s₁ s₂ → Parses (p then q (length (source_of s))) s s₂
then_at q {s₁ = s₁} {s₂ = s₂} x y = parses_then x (subst (λ l. Parses (q (length l)) s₁ s₂) (same_source x.kept) y)

-- A leaf of kind k behind trivia, and one in a node.
pub next_parses : (k : ℕ) {s s₁ s₂ : Parser} → Leafs skip_trivia s s₁ → Parses (expect_one (length (source_of s₁)) k) s₁ s₂ → Parses (expect_next (length (source_of s)) k) s s₂
next_parses k x y = then_at (λ n. expect_one n k) (leafs_parse x) y

pub node_parses : (k : ℕ) {node : ℕ} {s s₁ s₂ s₃ s₄ : Parser} → body_kind node ≡ false → Leafs skip_trivia s s₁ → Nodes Open s₁ s₂
    → Parses (expect_one (length (source_of s₂)) k) s₂ s₃ → Nodes (Shut node) s₃ s₄ → Parses (expect_node (length (source_of s)) k node) s s₄
node_parses k {node} {s₁ = s₁} {s₂ = s₂} {s₃ = s₃} b x o y z =
    let r : Parses (expect_one (length (source_of s₁)) k) s₂ s₃ = subst (λ l. Parses (expect_one (length l) k) s₂ s₃) (same_source o.kept) y in
    then_at (λ n. wrap node (expect_one n k)) (leafs_parse x) (parses_wrap b o r z)

-- A reader goes on only at a leaf of kind k.
module _ {k : ℕ} {s : Parser} {x : Seen} (q : x ≡ s.state.run.seen) (z : k ≡ 0 → ⊥) where
  pub parses_here : {p : Reader} {s₁ : Parser} → x.kind ≡ k → Parses p s s₁ → Parses (maybe (is k) p) s s₁
  parses_here i y = record { kept = y.kept; reads = reads_maybe (is k) (seen_tested (source_of s) s.state q (is_tested k z) (eq-eqb x.kind k i)) y.reads }

  pub parses_other : (p : Reader) → (x.kind ≡ k → ⊥) → Parses (maybe (is k) p) s s
  parses_other p i = record { kept = kept_same s; reads = maybe_none (is k) p (seen_tested (source_of s) s.state q (is_tested k z) (ne_eqb x.kind k i)) s.held }

-- `version`.
module _ {s s₁ s₂ : Parser} (x : Parses (expect_node (length (source_of s)) Kind.DIGITS Kind.PP_VERSION_NUMBER) s s₁) (y : Leafs skip_trivia s₁ s₂) {u : Seen} (q : u ≡ s₂.state.run.seen) where
  version_by : {s₃ : Parser} → Parses (maybe (is Kind.IDENT_KW) (wrap Kind.PP_VERSION_PROFILE bump)) s₂ s₃ → Parses (pp_version (length (source_of s))) s s₃
  unfolding pp_version
  version_by z = parses_is (parses_then x (parses_then (leafs_parse y) z)) (then_assoc skip_trivia _ _ (unread (source_of s) s.state.run.seen))

  pub version_profile : {s₃ : Parser} → u.kind ≡ Kind.IDENT_KW → Parses (wrap Kind.PP_VERSION_PROFILE bump) s₂ s₃ → Parses (pp_version (length (source_of s))) s s₃
  version_profile i z = version_by (parses_here q (λ w. absurd (omega arith)) i z)

  pub version_none : (u.kind ≡ Kind.IDENT_KW → ⊥) → Parses (pp_version (length (source_of s))) s s₂
  version_none i = version_by (parses_other q (λ w. absurd (omega arith)) (wrap Kind.PP_VERSION_PROFILE bump) i)

-- `extension`: the colon that is found, and the one that is missing.
module _ (n : ℕ) (r : Reader) where
  colon_leaf : (t : Leaf) (ts : List Leaf) → is Kind.COLON t ≡ true → colon n r (t ∷ ts) ≡ (expect_any n Kind.COLON 0 then r) (t ∷ ts)
  unfolding colon ◌then◌ bump nothing
  colon_leaf t ts e = rw (any_leaf n Kind.COLON 0 refl refl t ts, e) refl

  colon_found : (src : List ℕ) (s : Seen) → peek (either Kind.COLON 0) (unread src s) ≡ true → colon n r (unread src s) ≡ (expect_any n Kind.COLON 0 then r) (unread src s)
  colon_found src s e =
      let w : passes Kind.COLON 0 s.kind ≡ true = sym (peeked (either_tested Kind.COLON 0) src s) ∙ e in
      let z = passed_some (either_tested Kind.COLON 0) s.kind w in
      let v : (eqb s.kind Kind.COLON || false) ≡ true = rw (ne_eqb s.kind 0 z) at w in
      rw (one_seen src s z) (colon_leaf (leaf_seen src s) _ (sym (or-false (eqb s.kind Kind.COLON)) ∙ v))

  colon_missed : (ts : List Leaf) → peek (either Kind.COLON 0) ts ≡ false → colon n r ts ≡ expect_any n Kind.COLON 0 ts
  unfolding colon expect_any peek maybe missed
  colon_missed [] e = refl
  colon_missed (t ∷ ts) e = rw (any_leaf n Kind.COLON 0 refl refl t ts, e, or_left (is Kind.COLON t) (is 0 t) e) refl

abbrev behaviour : ℕ → Reader  -- The colon and what follows it.
behaviour n = colon n (expect_next n Kind.IDENT_KW)

module _ {s s₁ s₂ s₃ : Parser} {f : Bool} (x : Parses (expect_next (length (source_of s)) Kind.IDENT_KW) s s₁) (y : Leafs skip_trivia s₁ s₂) (z : Finds Kind.COLON 0 s₂ s₃ f) where
  extension_by : {m : Parser} → Parses (behaviour (length (source_of s₂))) s₂ m → Parses (pp_extension (length (source_of s))) s m
  unfolding pp_extension
  extension_by w =
      parses_is (then_at (λ n. skip_trivia then behaviour n) x (then_at behaviour (leafs_parse y) w)) (then_assoc skip_trivia _ _ (unread (source_of s) s.state.run.seen))

  pub extension_found : {s₄ : Parser} → f ≡ true → Parses (expect_next (length (source_of s₃)) Kind.IDENT_KW) s₃ s₄ → Parses (pp_extension (length (source_of s))) s s₄
  extension_found i w = extension_by
      (parses_is (then_at (λ n. expect_next n Kind.IDENT_KW) (finds_parse z) w) (colon_found (length (source_of s₂)) _ (source_of s₂) s₂.state.run.seen (sym z.expects.found_is ∙ i)))

  pub extension_missed : f ≡ false → Parses (pp_extension (length (source_of s))) s s₃
  extension_missed i = extension_by (parses_is (finds_parse z) (colon_missed (length (source_of s₂)) _ (unread (source_of s₂) s₂.state.run.seen) (sym z.expects.found_is ∙ i)))

-- `define`: the name, the arguments behind it, and the body.
module _ {s s₁ : Parser} (x : Parses (expect_next (length (source_of s)) Kind.IDENT_KW) s s₁) {u : Seen} (q : u ≡ s₁.state.run.seen) where
  head_by : {s₂ : Parser} → Parses (maybe (is Kind.LPAREN) (define_args (length (source_of s₁)))) s₁ s₂ → Parses (define_head (length (source_of s))) s s₂
  head_by z = then_at (λ n. maybe (is Kind.LPAREN) (define_args n)) x z

  pub head_args : {s₂ : Parser} → u.kind ≡ Kind.LPAREN → Parses (define_args (length (source_of s₁))) s₁ s₂ → Parses (define_head (length (source_of s))) s s₂
  head_args i z = head_by (parses_here q (λ w. absurd (omega arith)) i z)

  pub head_none : (u.kind ≡ Kind.LPAREN → ⊥) → Parses (define_head (length (source_of s))) s s₁
  head_none i = head_by (parses_other q (λ w. absurd (omega arith)) (define_args (length (source_of s₁))) i)

pub define_parses : {s s₁ s₂ : Parser} → Parses (define_head (length (source_of s))) s s₁ → Parses (pp_body Kind.PP_DEFINE_BODY) s₁ s₂ → Parses (pp_define (length (source_of s))) s s₂
unfolding pp_define
define_parses {s} x y =
    let us = unread (source_of s) s.state.run.seen in
    parses_is (parses_then x y) (then_assoc skip_trivia _ _ us ∙ then_assoc _ _ _ us)

-- What follows a word, by its place,
pub word_parses : {w k : ℕ} {s s' : Parser} → w ≡ k → Parses (directive_at (length (source_of s)) k).reads s s' → Parses (directive_at (length (source_of s)) w).reads s s'
word_parses e x = rw e x

-- and nothing behind the others.
others : (n w : ℕ) → n ≤ w → Others n w
others zero w h = tt
others (suc n) w h = (others n w (omega (arith, h)), λ e. omega (arith, h, e))

pub nothing_read : {w : ℕ} {s : Parser} → Word.ELSE ≤ w → (w ≡ Word.EXTENSION → ⊥) → Parses (directive_at (length (source_of s)) w).reads s s
nothing_read {w} {s} h k = rw (nothing_behind w (others Word.ELSE w h) k (length (source_of s))) (record { kept = kept_same s; reads = reads_nothing (stand_of s) s.held })
