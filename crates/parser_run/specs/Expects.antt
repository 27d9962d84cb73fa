-- `expect_any` as a reader: a leaf of kind a or b; b is 0 if there is one kind only.
use Rattle.std.specs.Prelude.{ℕ, ◌≡◌, Bool, true, false, ◌||◌, List, [], ◌∷◌, eqb, length, if◌then◌else◌}
use Rattle.definition.specs.Tree.{Leaf}
use Rattle.definition.specs.Error.{Err, unexpected, end_of_input}
use Rattle.definition.specs.Parser.{is, inline, peek, raise, Reader, bump, maybe}
use Rattle.parser.specs.Rest.{unread}
use Rattle.parser_run.specs.declared.ParserRun.{ParserRun}
use Rattle.parser_run.specs.Reads.{Flat}

abbrev pub kinds : ℕ → ℕ → List ℕ  -- What is expected.
kinds a b = if eqb b 0 then a ∷ [] else a ∷ b ∷ []

abbrev pub either : ℕ → ℕ → Leaf → Bool  -- Whether a leaf is,
either a b t = is a t || is b t

abbrev pub passes : ℕ → ℕ → ℕ → Bool  -- and whether the leaf that is seen is, by its kind.
passes a b kind = if eqb kind 0 then false else (eqb kind a || eqb kind b)

-- The error where leaves of these kinds are missing. n: where the source ends.
unfoldable pub missed : ℕ → List ℕ → List Leaf → Err
missed n ks [] = end_of_input n n ks
missed n ks (t ∷ ts) = unexpected t ks

-- Any leaf is taken but a NEWLINE; one that was not expected is an error.
unfoldable pub expect_any : ℕ → ℕ → ℕ → Reader
expect_any n a b ts =
    elim (peek (either a b) ts) [ true ↦ maybe inline bump ts | false ↦ raise (missed n (kinds a b) ts) (maybe inline bump ts) ]

-- The contract of `expect_any`, which also tells whether the leaf was expected.
pub record Expects (src : List ℕ) (a b : ℕ) (t e : List ℕ) (st : ParserRun) (t' e' : List ℕ) (st' : ParserRun) (found : Bool) : Type 0 where
  pub flat : Flat src (expect_any (length src) a b) t e st t' e' st'
  pub found_is : found ≡ peek (either a b) (unread src st.run.seen)
