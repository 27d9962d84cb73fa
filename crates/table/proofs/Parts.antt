-- The rest of a table from a place on, lent to a callee and come back.
use Prim.Native.Nat.{ℕ, ◌+◌, ◌-◌, ◌≤◌}
use native.Mathlib.Omega.{arith}
use mathlib.Core.Path.{◌≡◌, ap, ◌∙◌}
use mathlib.Core.List.{List, ◌++◌, append-nil}
use lib.ListN.{length, take, drop, length-drop}
use lib.Seq.{take_all, drop-length, sets, sets-eq, length-sets, take-append_seam}
use borrow.Rule.Slice.PartMut.{put_mid, Post-is}
use Rattle.definition.specs.Calls.{padded}
use Rattle.table.proofs.Tables.{zeros}

-- What the callee gets, and what the caller has after.
pub part_is : (n : ℕ) (xs : List ℕ) → take (length xs - n) (drop n xs) ≡ drop n xs
part_is n xs = take_all (length xs - n) (drop n xs) (omega (arith, length-drop n xs))

pub part_back : (n : ℕ) (xs ys : List ℕ) → n ≤ length xs → put_mid n (length xs - n) xs ys ≡ take n xs ++ ys
part_back n xs ys h = ap (λ l. take n xs ++ (ys ++ l)) (Post-is n (length xs) xs h ∙ drop-length xs) ∙ ap (λ l. take n xs ++ l) (append-nil ys)

-- Numbers were written from the front, and the rest was cleared.
pub written_cleared : (numbers t₀ t₁ ys : List ℕ) (n : ℕ) → t₁ ≡ sets t₀ 0 numbers → n ≡ length numbers → n ≤ length t₁
    → ys ≡ zeros (length (take (length t₁ - n) (drop n t₁))) → put_mid n (length t₁ - n) t₁ ys ≡ padded numbers (length t₁)
unfolding padded
written_cleared numbers t₀ t₁ ys n e c h q =
    let l : length t₁ ≡ length t₀ = ap length e ∙ length-sets t₀ 0 numbers in
    let f : t₁ ≡ numbers ++ drop (0 + length numbers) t₀ = e ∙ sets-eq numbers t₀ 0 (omega arith) in
    let x : take n t₁ ≡ numbers = rw (c, f) (take-append_seam numbers (drop (0 + length numbers) t₀)) in
    let y : ys ≡ zeros (length t₁ - length numbers) = q ∙ ap zeros (ap length (part_is n t₁) ∙ length-drop n t₁ ∙ ap (λ m. length t₁ - m) c) in
    part_back n t₁ ys h ∙ rw (x, y)
