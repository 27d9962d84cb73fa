-- The kind of the first token at a place, by that of the pre-token there.
use Rattle.std.specs.Prelude.{if◌then◌else◌}
use Prim.Native.Nat.{ℕ, suc, ◌<◌}
use mathlib.Core.Path.{◌≡◌, refl}
use mathlib.Core.Bool.{Bool, true, false, not, ◌&&◌, ◌||◌, false≢true, and-eq-true_iff}
use mathlib.Core.List.{List, [], ◌∷◌}
use mathlib.Core.Option.{Option, none, some}
use lib.Dec.{eqb}
use lib.ListN.{length, drop}
use Rattle.definition.specs.Text.{same}
use Rattle.definition.specs.SyntaxKind.{Kind}
use Rattle.definition.specs.Unescaped.{unescaped}
use Rattle.definition.specs.Pre.{find}
use Rattle.definition.specs.Runs.{runs}
use Rattle.definition.specs.Glue.{Token, tokens, glued, glues, defined}
use Rattle.theorems.specs.Walk.{name_kind}
use Rattle.theorems.specs.Step.{glue_begin, glue_more, read_so_far}
use Rattle.theorems.proofs.Lexing.Glues.{every, glued_passes}
use Rattle.theorems.proofs.Lexing.Gluing.{glue_start}
use Rattle.theorems.proofs.Lexing.PreAt.{walk_at, bytes_at, pre_at}

-- What holds of a kind, and of DEFINED, holds of the kind by name.
pub named_kind : (P : ℕ → Type 0) → P Kind.DEFINED → (k : ℕ) (xs : List ℕ) → P k → P (name_kind k xs)
unfolding name_kind
named_kind P d k xs h = go (eqb k Kind.IDENT_KW && same (unescaped xs) defined)
  where
    go : (t : Bool) → P (if t then Kind.DEFINED else k)
    go true = d
    go false = h

-- A test of the first token's kind, if there is a token.
unfoldable pub First : (ℕ → Bool) → List Token → Type 0
First P [] = Unit {0}
First P (t ∷ ts) = P t.kind ≡ true

-- The first token passes it if the pre-token at its place does, and all that gluing makes.
module _ (P : ℕ → Bool) (both : every (λ g. P g.both) glues ≡ true) where
  runs_kind : (k : ℕ) (ps : List Token) → P k ≡ true → P (runs glue_begin glue_more k ps).kind ≡ true
  unfolding runs
  runs_kind k [] h = h
  runs_kind k (p ∷ ps) h = go (glued glues k p.kind) refl (λ j. runs_kind j ps)
    where
      go : (o : Option ℕ) → glued glues k p.kind ≡ o → ((j : ℕ) → P j ≡ true → P (runs glue_begin glue_more j ps).kind ≡ true)
          → P (runs glue_begin glue_more k (p ∷ ps)).kind ≡ true
      go none e ih = rw (e, runs) h
      go (some j) e ih = rw (e, runs) (ih j (glued_passes (λ g. P g.both) glues k p.kind j both e))

  pub first_kind : P Kind.DEFINED ≡ true → (s : List ℕ) (at : ℕ) (f : Bool) → at < length s → P (walk_at s at f).kind ≡ true → First P (tokens f (drop at s))
  unfolding First read_so_far
  first_kind d s at f h k =
      let u = glue_start _ _ _ _ _ _ (pre_at s at f h) in
      rw u.is (runs_kind _ _ (named_kind (λ j. P j ≡ true) d (walk_at s at f).kind (bytes_at s at f) k))

-- The kind of a single character passes a test if ERROR does, and every kind of the row that this character may have.
module _ (P : ℕ → Bool) (error : P Kind.ERROR ≡ true) where
  unfoldable pub may_find : ℕ → List ℕ → ℕ → Bool
  may_find c [] k = true
  may_find c (p ∷ ps) k = (P k || not (eqb c p)) && may_find c ps (suc k)

  pub find_kind : (c : ℕ) (ps : List ℕ) (k : ℕ) → may_find c ps k ≡ true → P (find c ps k) ≡ true
  unfolding find may_find
  find_kind c [] k h = error
  find_kind c (p ∷ ps) k h =
      let m = (and-eq-true_iff (P k || not (eqb c p)) (may_find c ps (suc k))).0 h in
      go (eqb c p) (P k) refl refl m.0 (find_kind c ps (suc k) m.1)
    where
      go : (t u : Bool) → eqb c p ≡ t → P k ≡ u → (u || not t) ≡ true → P (find c ps (suc k)) ≡ true → P (if t then k else find c ps (suc k)) ≡ true
      go true true e d x ih = d
      go true false e d x ih = absurd (false≢true x)
      go false u e d x ih = ih
