-- The line table of a source rises, so that errors can be looked up in it.
use Prim.Native.Nat.{ℕ, ◌+◌, ◌≤◌}
use mathlib.Core.Path.{◌≡◌, refl}
use mathlib.Core.Bool.{Bool, true, false}
use mathlib.Core.List.{List, [], ◌∷◌}
use native.Mathlib.Omega.{arith}
use borrow.Author.Tests.{lt-ltb}
use lib.ListN.{length}
use Rattle.definition.specs.Runs.{Run, text}
use Rattle.definition.specs.Newline.{chars, newline}
use Rattle.definition.specs.LineMap.{newline_ends, line_starts, rises, line_table}

-- Each newline ends behind the one before.
ends_rise : (s at : ℕ) (cs : List (Run ℕ ℕ)) → s ≤ at → rises s (newline_ends at cs) ≡ true
unfolding newline_ends rises
ends_rise s at [] h = refl
ends_rise s at (c ∷ cs) h = go (newline c.kind) refl (λ n. ends_rise n (at + length (text c)) cs)
  where
    go : (t : Bool) → newline c.kind ≡ t
        → ((n : ℕ) → n ≤ at + length (text c) → rises n (newline_ends (at + length (text c)) cs) ≡ true)
        → rises s (newline_ends at (c ∷ cs)) ≡ true
    go true e ih = rw (e, newline_ends, lt-ltb s (at + length (text c)) (omega arith)) (ih (at + length (text c)) (omega arith))
    go false e ih = rw (e, newline_ends) (ih s (omega arith))

pub lines_rise : (src : List ℕ) → line_table (line_starts src) ≡ true
unfolding line_table line_starts
lines_rise src = ends_rise 0 0 (chars src) (omega arith)
