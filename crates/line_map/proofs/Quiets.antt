-- No newline begins in a stretch of quiet bytes.
use Prim.Native.Nat.{ℕ}
use native.Mathlib.Omega.{arith}
use mathlib.Core.Path.{◌≡◌}
use mathlib.Core.Bool.{true, false, false≢true}
use mathlib.Core.List.{List}
use mir.Val.{Fits}
use mir.Syntax.{w8}
use lib.ListN.{get_or}
use Rattle.definition.specs.Newline.{newline}
use Rattle.theorems.proofs.Lexing.Lines.{no_newline_byte}
use Rattle.text.proofs.Stretches.{stretch_same}
use Rattle.line_map.specs.Quiet.{quiet, Quiet}
use Rattle.line_map.proofs.Ends.{ends_from, none_at}

quiet_byte : (b : ℕ) → Fits w8 b → quiet b ≡ true → newline b ≡ false
unfolding quiet
quiet_byte b h e = no_newline_byte b (omega arith) (λ z. false≢true (rw z at e)) (λ z. false≢true (rw z at e))

pub quiet_over : (s : List ℕ) → ((i : ℕ) → Fits w8 (get_or s i 0)) → (at to : ℕ) → Quiet s at to → ends_from at s ≡ ends_from to s
quiet_over s known at = stretch_same s at (λ i. ends_from i s) (λ i h p. none_at s i h (quiet_byte (get_or s i 0) (known i) p))
