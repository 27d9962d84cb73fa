-- Tokens from pre-tokens, one pre-token at a time.
use Prim.Native.Nat.{ℕ, ◌+◌, ◌≤◌}
use mathlib.Core.Path.{◌≡◌, refl, ap, sym, ◌∙◌}
use mathlib.Core.Bool.{Bool}
use mathlib.Core.List.{List, [], ◌∷◌, ◌++◌, map, append-nil, append_assoc}
use mathlib.Core.Option.{none, some}
use native.Mathlib.Omega.{arith}
use lib.ListN.{length, drop, length-append, length-drop}
use Rattle.definition.specs.Runs.{Row, text, joined, put, list, runs, grouped}
use Rattle.definition.specs.Glue.{Token, tokens, flat, glued, glues}
use Rattle.theorems.specs.Walk.{pre_tokens}
use Rattle.theorems.specs.Step.{Stepped, PreStepped, Gluing, glue_begin, glue_more, read_so_far}
use Rattle.theorems.proofs.Lexing.Tokens.{joined_tokens}
use Rattle.theorems.proofs.Lexing.Glues.{never_zero}

-- A row of pre-tokens, glued.
abbrev pub made : List Token → List Token
made ps = map (flat (λ r. r.kind)) (grouped glue_begin glue_more 0 ps)

pub tokens_made : (f : Bool) (bs : List ℕ) → tokens f bs ≡ made (pre_tokens f bs)
unfolding tokens pre_tokens
tokens_made f bs = refl

made_cons : (p : Token) (ps : List Token) → made (p ∷ ps) ≡ read_so_far p.head p.tail (runs glue_begin glue_more p.kind ps)
unfolding grouped read_so_far flat
made_cons p ps = refl

runs_more : (k j : ℕ) (p : Token) (ps : List Token) → glued glues k p.kind ≡ some j
    → runs glue_begin glue_more k (p ∷ ps) ≡ put p (runs glue_begin glue_more j ps)
unfolding runs
runs_more k j p ps e = rw (e, runs)

runs_stop : (k : ℕ) (p : Token) (ps : List Token) → glued glues k p.kind ≡ none
    → runs glue_begin glue_more k (p ∷ ps) ≡ record { kind = k; text = []; later = list p (runs glue_begin glue_more p.kind ps) }
unfolding runs
runs_stop k p ps e = rw (e, runs)

read_more : (h : ℕ) (t : List ℕ) (p : Token) (r : Row Token ℕ) → read_so_far h t (put p r) ≡ read_so_far h (t ++ text p) r
unfolding read_so_far joined
read_more h t p r = rw (append_assoc t (text p) (joined r.text))

read_stop : (k h : ℕ) (t : List ℕ) (p : Token) (ps : List Token)
    → read_so_far h t (record { kind = k; text = []; later = list p (runs glue_begin glue_more p.kind ps) })
    ≡ record { kind = k; head = h; tail = t } ∷ made (p ∷ ps)
unfolding read_so_far joined grouped
read_stop k h t p ps = rw (append-nil t)

read_end : (k h : ℕ) (t : List ℕ) → read_so_far h t (runs glue_begin glue_more k []) ≡ record { kind = k; head = h; tail = t } ∷ made []
unfolding read_so_far joined grouped runs
read_end k h t = rw (append-nil t)

-- A token that stands at `at` ends within the source.
first_within : (s : List ℕ) (at : ℕ) (f : Bool) (t : Token) (ts : List Token) → tokens f (drop at s) ≡ t ∷ ts → at + length (text t) ≤ length s
unfolding joined
first_within s at f t ts e =
    let j : drop at s ≡ text t ++ joined ts = sym (joined_tokens f (drop at s)) ∙ ap joined e in
    omega (arith, ap length j, length-append (text t) (joined ts), length-drop at s)

-- What is known of a step gives the whole of it.
stepped : (s : List ℕ) (at : ℕ) (f : Bool) (e : ℕ) (g : Bool) (t : Token)
    → e ≡ at + length (text t) → (t.kind ≡ 0 → ⊥) → tokens f (drop at s) ≡ t ∷ tokens g (drop e s) → Stepped s at f t.kind e g
stepped s at f e g t long nonzero is = record {
  token = t;
  kind_is = refl;
  end_is = long;
  is = is;
  some_kind = nonzero;
  forward = omega arith;
  within = omega (arith, first_within s at f t (tokens g (drop e s)) is);
}

-- The first pre-token begins a token.
pub glue_start : (s : List ℕ) (at : ℕ) (f : Bool) (k e : ℕ) (g : Bool) → PreStepped s at f k e g → Gluing s at f k e g
glue_start s at f k e g p = record {
  head = p.token.head;
  tail = p.token.tail;
  long = p.end_is;
  is = tokens_made f (drop at s) ∙ ap made p.is ∙ made_cons p.token (pre_tokens g (drop e s))
      ∙ ap (λ n. read_so_far p.token.head p.token.tail (runs glue_begin glue_more n (pre_tokens g (drop e s)))) p.kind_is;
  some_kind = p.some_kind;
}

module _ (s : List ℕ) (at : ℕ) (f : Bool) (k e : ℕ) (g : Bool) (u : Gluing s at f k e g) where
  -- The token as far as it has been read.
  abbrev so_far : Token
  so_far = record { kind = k; head = u.head; tail = u.tail }

  -- Where the pre-tokens that follow are ps, the tokens are those read from ps.
  follows : (ps : List Token) → pre_tokens g (drop e s) ≡ ps → tokens f (drop at s) ≡ read_so_far u.head u.tail (runs glue_begin glue_more k ps)
  follows ps h = u.is ∙ ap (λ l. read_so_far u.head u.tail (runs glue_begin glue_more k l)) h

  -- At the end of the source the token is whole.
  pub glue_end : pre_tokens g (drop e s) ≡ [] → Stepped s at f k e g
  glue_end h = stepped s at f e g so_far u.long u.some_kind
      (follows [] h ∙ read_end k u.head u.tail ∙ ap (λ l. so_far ∷ l) (ap made (sym h) ∙ sym (tokens_made g (drop e s))))

  module _ (k₂ e₂ : ℕ) (g₂ : Bool) (p : PreStepped s e g k₂ e₂ g₂) where
    abbrev after : List Token
    after = pre_tokens g₂ (drop e₂ s)

    -- The next pre-token glues to it,
    pub glue_on : (j : ℕ) → glued glues k k₂ ≡ some j → Gluing s at f j e₂ g₂
    glue_on j h = record {
      head = u.head;
      tail = u.tail ++ text p.token;
      long = omega (arith, u.long, p.end_is, length-append u.tail (text p.token));
      is = follows (p.token ∷ after) p.is
          ∙ ap (read_so_far u.head u.tail) (runs_more k j p.token after (rw p.kind_is h))
          ∙ read_more u.head u.tail p.token (runs glue_begin glue_more j after);
      some_kind = never_zero k k₂ j h;
    }

    -- or the token is whole.
    pub glue_stop : glued glues k k₂ ≡ none → Stepped s at f k e g
    glue_stop h = stepped s at f e g so_far u.long u.some_kind
        (follows (p.token ∷ after) p.is
        ∙ ap (read_so_far u.head u.tail) (runs_stop k p.token after (rw p.kind_is h))
        ∙ read_stop k u.head u.tail p.token after
        ∙ ap (λ l. so_far ∷ l) (ap made (sym p.is) ∙ sym (tokens_made g (drop e s))))
