-- The arguments of a `define`, and groups, are read exactly.
use Prim.Native.Nat.{ℕ, zero, suc}
use mathlib.Core.Path.{◌≡◌, refl, subst}
use mathlib.Core.Bool.{Bool, true, false, not, ◌||◌}
use mathlib.Core.List.{List, [], ◌∷◌, cons-ne-nil}
use mathlib.Core.Option.{none, some}
use Rattle.definition.specs.Tree.{Leaf}
use Rattle.definition.specs.Parser.{is, trivia, ◌then◌, nothing, bump, maybe}
use Rattle.definition.specs.Syntax.{wanted, args, define_args, depth, pp_rs_ident}
use Rattle.definition.specs.Grammar.{lparen, rparen, Closes, closed, inner, opened, passed, Params, ended, space, name, comma, Args, object, function}
use Rattle.theorems.proofs.Grammar.Clean.{Clear, Clean, of_kind, or_left, or_right}
use Rattle.theorems.proofs.Grammar.Exact.{Exact, If, there, not_there, exact_maybe}

-- The list of arguments behind its LPAREN.
module _ (n : ℕ) where
  clean_params : {b : Bool} {L R : List Leaf} → Params b L R → Clean (args n b) L R
  unfolding args nothing
  clean_params (ended {t = t} e) = record { clear = rw (of_kind t e, args) (refl, refl) }
  clean_params (space e p) = record { clear = rw (e, args) (clean_params p).clear }
  clean_params (name {t = t} e p) = record { clear = rw (of_kind t e, args) (clean_params p).clear }
  clean_params (comma {t = t} e p) = record { clear = rw (of_kind t e, args) (clean_params p).clear }

  -- An identifier or a comma in its place.
  in_place : (b : Bool) {t : Leaf} {L R : List Leaf} → is (wanted b) t ≡ true → Params (not b) L R → Params b (t ∷ L) R
  in_place true e p = name e p
  in_place false e p = comma e p

  params_clean : (b : Bool) (L : List Leaf) {R : List Leaf} → Clean (args n b) L R → Params b L R
  unfolding args nothing
  params_clean b [] c = absurd (cons-ne-nil _ _ c.clear.0)
  params_clean b (t ∷ L) {R} c = go (trivia t) refl (rparen t) refl (is (wanted b) t) refl (λ d h. params_clean d L (record { clear = h }))
    where
      go : (x : Bool) → trivia t ≡ x → (y : Bool) → rparen t ≡ y → (z : Bool) → is (wanted b) t ≡ z
          → ((d : Bool) → Clear (args n d L) R → Params d L R)
          → Params b (t ∷ L) R
      go true e y f z g ih = space e (ih b (rw (e, args) at c.clear))
      go false e true f z g ih = subst (Params b (t ∷ L)) (rw (e, args, f) at c.clear.1) (ended f)
      go false e false f true g ih = in_place b g (ih (not b) (rw (e, args, f, g) at c.clear))
      go false e false f false g ih = absurd (cons-ne-nil _ _ (rw (e, args, f, g) at c.clear.0))

  -- Arguments if an LPAREN follows, and else none.
  pub exact_args : Exact (maybe lparen (define_args n)) Args
  unfolding define_args ◌then◌ bump
  exact_args = record { to = to; from = λ c. from (x.from c) }
    where
      x : Exact (maybe lparen (define_args n)) (If lparen (define_args n))
      x = exact_maybe lparen (define_args n)

      to : {L R : List Leaf} → Args L R → Clean (maybe lparen (define_args n)) L R
      to (object e) = x.to (not_there e)
      to (function e p) = x.to (there e (record { clear = (clean_params p).clear }))

      from : {L R : List Leaf} → If lparen (define_args n) L R → Args L R
      from (not_there e) = object e
      from (there {L = L} e c) = function e (params_clean true L (record { clear = c.clear }))

-- How a leaf changes the number of open brackets.
module _ (t : Leaf) where
  pub depth_closed : rparen t ≡ true → depth t zero ≡ none
  unfolding depth
  depth_closed e = rw e

  pub depth_inner : (d : ℕ) → rparen t ≡ true → depth t (suc d) ≡ some d
  unfolding depth
  depth_inner d e = rw e

  pub depth_opened : (d : ℕ) → lparen t ≡ true → depth t d ≡ some (suc d)
  unfolding depth
  depth_opened zero e = rw (of_kind t e)
  depth_opened (suc d) e = rw (of_kind t e)

  pub depth_passed : (d : ℕ) → (lparen t || rparen t) ≡ false → depth t d ≡ some d
  unfolding depth
  depth_passed zero e = rw (or_left (lparen t) (rparen t) e, or_right (lparen t) (rparen t) e)
  depth_passed (suc d) e = rw (or_left (lparen t) (rparen t) e, or_right (lparen t) (rparen t) e)

-- A group behind its LPAREN.
module _ (l : Leaf) where
  clean_group : {d : ℕ} {L R : List Leaf} → Closes d L R → Clean (pp_rs_ident l d) L R
  unfolding pp_rs_ident bump
  clean_group (closed {t = t} e) = record { clear = rw (depth_closed t e, pp_rs_ident) (refl, refl) }
  clean_group (inner {t = t} {d = d} e p) = record { clear = rw (depth_inner t d e, pp_rs_ident) (clean_group p).clear }
  clean_group (opened {t = t} {d = d} e p) = record { clear = rw (depth_opened t d e, pp_rs_ident) (clean_group p).clear }
  clean_group (passed {t = t} {d = d} e p) = record { clear = rw (depth_passed t d e, pp_rs_ident) (clean_group p).clear }

  group_clean : (d : ℕ) (L : List Leaf) {R : List Leaf} → Clean (pp_rs_ident l d) L R → Closes d L R
  unfolding pp_rs_ident bump
  group_clean d [] c = absurd (cons-ne-nil _ _ c.clear.0)
  group_clean d (t ∷ L) {R} c = go d (rparen t) refl (lparen t) refl c.clear (λ k h. group_clean k L (record { clear = h }))
    where
      go : (d : ℕ) (x : Bool) → rparen t ≡ x → (y : Bool) → lparen t ≡ y → Clear (pp_rs_ident l d (t ∷ L)) R
          → ((k : ℕ) → Clear (pp_rs_ident l k L) R → Closes k L R)
          → Closes d (t ∷ L) R
      go zero true e y f h ih = subst (Closes zero (t ∷ L)) (rw (depth_closed t e, pp_rs_ident) at h.1) (closed e)
      go (suc d) true e y f h ih = inner e (ih d (rw (depth_inner t d e, pp_rs_ident) at h))
      go d false e true f h ih = opened f (ih (suc d) (rw (depth_opened t d f, pp_rs_ident) at h))
      go d false e false f h ih = let g : (lparen t || rparen t) ≡ false = rw f e in passed g (ih d (rw (depth_passed t d g, pp_rs_ident) at h))

  pub exact_group : (d : ℕ) → Exact (pp_rs_ident l d) (Closes d)
  exact_group d = record { to = clean_group; from = λ {L} c. group_clean d L c }
