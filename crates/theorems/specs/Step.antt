-- The tokens of a source one at a time: what a step of the lexer says of the row of tokens.
use Rattle.std.specs.Prelude.{ℕ, ◌+◌, ◌≤◌, ◌<◌, suc, ◌≡◌, Bool, List, ◌∷◌, ◌++◌, map, length, drop}
use Rattle.std.proofs.Math.Option.{Option, none, some}
use Rattle.definition.specs.Runs.{Row, text, joined, runs}
use Rattle.definition.specs.Glue.{Token, tokens, flat, glued, glues}
use Rattle.theorems.specs.Walk.{pre_tokens}

-- The first token at `at` is of kind k and ends at e; with the flag g the others follow there. No token has the kind 0.
pub record Stepped (s : List ℕ) (at : ℕ) (f : Bool) (k e : ℕ) (g : Bool) : Type 0 where
  pub token : Token
  pub kind_is : token.kind ≡ k
  pub end_is : e ≡ at + length (text token)
  pub is : tokens f (drop at s) ≡ token ∷ tokens g (drop e s)
  pub some_kind : k ≡ 0 → ⊥
  pub forward : at < e
  pub within : e ≤ length s

-- The same of the first pre-token.
pub record PreStepped (s : List ℕ) (at : ℕ) (f : Bool) (k e : ℕ) (g : Bool) : Type 0 where
  pub token : Token
  pub kind_is : token.kind ≡ k
  pub end_is : e ≡ at + length (text token)
  pub is : pre_tokens f (drop at s) ≡ token ∷ pre_tokens g (drop e s)
  pub some_kind : k ≡ 0 → ⊥

-- Gluing as runs of pre-tokens.
abbrev pub glue_begin : ℕ → Token → ℕ
glue_begin q t = t.kind

abbrev pub glue_more : ℕ → Token → Option ℕ
glue_more q t = glued glues q t.kind

-- The tokens of a run that is being read: its first token has these bytes so far.
unfoldable pub read_so_far : ℕ → List ℕ → Row Token ℕ → List Token
read_so_far h t r = record { kind = r.kind; head = h; tail = t ++ joined r.text } ∷ map (flat (λ r. r.kind)) r.later

-- From `at` a token of kind k has been read up to e, where the pre-tokens with the flag g go on.
pub record Gluing (s : List ℕ) (at : ℕ) (f : Bool) (k e : ℕ) (g : Bool) : Type 0 where
  pub head : ℕ
  pub tail : List ℕ
  pub long : e ≡ at + suc (length tail)
  pub is : tokens f (drop at s) ≡ read_so_far head tail (runs glue_begin glue_more k (pre_tokens g (drop e s)))
  pub some_kind : k ≡ 0 → ⊥

-- The kind of two pre-tokens together, 0 where they do not glue.
abbrev pub number : Option ℕ → ℕ
number none = 0
number (some k) = k

unfoldable pub glued_kind : ℕ → ℕ → ℕ
glued_kind a b = number (glued glues a b)
