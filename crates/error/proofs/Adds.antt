-- Errors added one after the other.
use Prim.Native.Nat.{ℕ}
use mathlib.Core.Path.{◌≡◌, refl}
use mathlib.Core.List.{List, [], ◌∷◌, ◌++◌, append_assoc, append-nil}
use Rattle.definition.specs.LineMap.{last_line, get_line_and_col}
use Rattle.definition.specs.Error.{Err, error_numbers}
use Rattle.table.specs.Row.{Laid}
use Rattle.table.proofs.Rows.{laid_more}
use Rattle.error.specs.Log.{fault_of, numbers, Log, add, adds}

-- The numbers of errors whose lines and columns are left 0 are those under no line table.
abbrev pub unlocated_numbers : List Err → List ℕ
unlocated_numbers es = error_numbers [] es

-- Two rows of errors are added one after the other.
pub adds_++ : (l : Log) (a b : List Err) → adds l (a ++ b) ≡ adds (adds l a) b
unfolding adds
adds_++ l [] b = refl
adds_++ l (e ∷ a) b = adds_++ (add (fault_of e) l) a b

-- The numbers of errors are laid row by row.
pub adds_laid : (es : List Err) (done : List ℕ) (l m : Log) → Laid done l m → Laid (done ++ unlocated_numbers es) l (adds m es)
unfolding adds add error_numbers get_line_and_col last_line
adds_laid [] done l m k = rw (append-nil done) k
adds_laid (e ∷ es) done l m k =
    rw (← append_assoc done (numbers (fault_of e)) (unlocated_numbers es))
    (adds_laid es (done ++ numbers (fault_of e)) l (add (fault_of e) m) (laid_more done (numbers (fault_of e)) l m k))
