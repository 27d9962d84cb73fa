-- Comments and strings take the bytes that go on with a character, so they are read byte by byte.
use Prim.Native.Nat.{ℕ, ◌<◌}
use mathlib.Core.Path.{◌≡◌, refl, sym, ap, ◌∙◌}
use mathlib.Core.Bool.{false, true≢false}
use mathlib.Core.List.{List, [], ◌∷◌}
use mathlib.Core.Option.{Option, none, some}
use native.Mathlib.Omega.{arith}
use lib.Dec.{eqb}
use lib.ListN.{drop}
use borrow.Author.Tests.{ne_eqb}
use Rattle.definition.specs.Text.{byte}
use Rattle.definition.specs.Newline.{LF, CR, char_more, newline}
use Rattle.definition.specs.Pre.{State, multi_comment, single_comment, quote_string, angle_string, more}
use Rattle.theorems.specs.Walk.{longer, walk}
use Rattle.theorems.proofs.Lexing.Chars.{GoesOn, tail, cr_lf, lf_cr, goes_on}
use Rattle.theorems.proofs.Lexing.Lines.{no_newline_byte}
use Rattle.theorems.proofs.Lexing.Walk.{walk_same, walk_more, zero_none}
use Rattle.pre.specs.Scan.{from}

-- A state that takes every byte that goes on with a character for which P holds, and stays.
record Absorbs (q : State) (P : ℕ → Type 0) : Type 0 where
  takes : (c b c' : ℕ) → P c → GoesOn c b c' → (more q b ≡ some q) × (P c' × P b)

walk_any : (q : State) (P : ℕ → Type 0) → Absorbs q P → (c : ℕ) (bs : List ℕ) → P c → walk q c bs ≡ walk q 0 bs
unfolding walk
walk_any q P f c [] p = refl
walk_any q P f c (b ∷ bs) p = go (char_more c b) refl (λ x y. walk_any q P f x bs y)
  where
    go : (o : Option ℕ) → char_more c b ≡ o → ((x : ℕ) → P x → walk q x bs ≡ walk q 0 bs) → walk q c (b ∷ bs) ≡ walk q 0 (b ∷ bs)
    go (some c') e ih =
        let m : (more q b ≡ some q) × (P c' × P b) = f.takes c b c' p (goes_on c b c' e) in
        walk_same c b bs q c' e ∙ ap longer (ih c' m.1.0 ∙ sym (ih b m.1.1)) ∙ sym (walk_more 0 b bs q q (zero_none b) m.0)
    go none e ih = rw (e, walk, zero_none b)

from_any : (q : State) (P : ℕ → Type 0) → Absorbs q P → (c i : ℕ) (s : List ℕ) → P c → from q c i s ≡ from q 0 i s
unfolding from
from_any q P f c i s p = rw (walk_any q P f c (drop i s) p)

-- A state that only the byte x changes, which goes on with no character.
module _ (q : State) (x : ℕ) (low : x < 128) (n : LF ≡ x → ⊥) (m : CR ≡ x → ⊥) (f : (b : ℕ) → eqb b x ≡ false → more q b ≡ some q) where
  stays : (c b c' : ℕ) → GoesOn c b c' → more q b ≡ some q
  stays c b c' (tail e l h) = f b (ne_eqb b x (λ z. omega arith))
  stays c b c' (cr_lf e p h) = rw h (f LF (ne_eqb LF x n))
  stays c b c' (lf_cr e p h) = rw h (f CR (ne_eqb CR x m))

  any_but : (c i : ℕ) (s : List ℕ) → from q c i s ≡ from q 0 i s
  any_but c i s = from_any q (λ c. Unit {0}) (record { takes = λ c b c' p g. (stays c b c' g, (tt, tt)) }) c i s tt

pub any_comment : (c i : ℕ) (s : List ℕ) → from multi_comment c i s ≡ from multi_comment 0 i s
unfolding more
any_comment c i s = any_but multi_comment (byte "*") (omega arith) (λ z. omega arith) (λ z. omega arith) (λ b e. rw e) c i s

pub any_quote : (c i : ℕ) (s : List ℕ) → from quote_string c i s ≡ from quote_string 0 i s
unfolding more
any_quote c i s = any_but quote_string (byte "\"") (omega arith) (λ z. omega arith) (λ z. omega arith) (λ b e. rw e) c i s

pub any_angle : (c i : ℕ) (s : List ℕ) → from angle_string c i s ≡ from angle_string 0 i s
unfolding more
any_angle c i s = any_but angle_string (byte ">") (omega arith) (λ z. omega arith) (λ z. omega arith) (λ b e. rw e) c i s

-- A comment to the end of the line, behind a character that is no newline.
pub any_line : (c i : ℕ) (s : List ℕ) → newline c ≡ false → from single_comment c i s ≡ from single_comment 0 i s
unfolding more
any_line c i s p = from_any single_comment (λ c. newline c ≡ false) (record { takes = takes_all }) c i s p
  where
    takes_all : (c b c' : ℕ) → newline c ≡ false → GoesOn c b c' → (more single_comment b ≡ some single_comment) × ((newline c' ≡ false) × (newline b ≡ false))
    takes_all c b c' p (tail e l h) =
        let n : newline b ≡ false = no_newline_byte b (omega arith) (λ z. omega arith) (λ z. omega arith) in
        (rw (n, ne_eqb b (byte "\\") (λ z. omega arith)), (rw e p, n))
    takes_all c b c' p (cr_lf e h k) = absurd (true≢false (rw h at p))
    takes_all c b c' p (lf_cr e h k) = absurd (true≢false (rw h at p))
