-- Strings, which one byte ends.
use Rattle.std.specs.Prelude.{ℕ, ◌<◌, ◌≡◌, List}
use Rattle.std.proofs.Math.Option.{some}
use Rattle.definition.specs.SyntaxKind.{Kind}
use Rattle.definition.specs.Pre.{State, done, more, kind_of}
use Rattle.pre.specs.Scan.{from}

-- The state q of a string that the byte x ends, with the kind d; no character of several bytes takes part of it.
pub record Quoted (q : State) (x d : ℕ) : Type 0 where
  pub closes : more q x ≡ some (done d)
  pub goes : (b : ℕ) → (b ≡ x → ⊥) → more q b ≡ some q
  pub any : (c i : ℕ) (s : List ℕ) → from q c i s ≡ from q 0 i s
  pub unended : kind_of q ≡ Kind.ERROR
  pub ascii : x < 128
  pub no_newline : (x ≡ 10 → ⊥) × (x ≡ 13 → ⊥)
