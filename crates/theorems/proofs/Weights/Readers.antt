-- What the directives' rests, the ends of their lines and groups add to nodes and errors.
use Prim.Native.Nat.{ℕ, ◌≤◌}
use mathlib.Core.Path.{◌≡◌, refl}
use mathlib.Core.Bool.{Bool, true, false, not}
use mathlib.Core.List.{List, [], ◌∷◌}
use mathlib.Core.Option.{Option, none, some}
use native.Mathlib.Omega.{arith}
use lib.ListN.{length, length-append}
use Rattle.definition.specs.SyntaxKind.{Kind}
use Rattle.definition.specs.Tree.{Leaf, leaves}
use Rattle.definition.specs.Error.{Err}
use Rattle.definition.specs.Parser.{is, trivia, newline_leaf, inline, while, Got, Reader, bump, expect_one}
use Rattle.definition.specs.Syntax.{trimmed, trailing, body, pp_body, wanted, push_arg, args, define_args, pp_define, pp_if_ident, pp_version, colon, pp_extension, last_stop, extra, finish, unknown, depth, pp_rs_ident}
use Rattle.theorems.specs.Weight.{nodes, Light}
use Rattle.theorems.proofs.Tiling.Leaves.{leaves_pp_tokens}
use Rattle.theorems.proofs.Weights.Laws.{nodes_row, few_concats, Lights, light_if, light_nothing, light_trivia, light_bump, light_raise, light_node, light_wrap, light_maybe, light_then, light_push}

-- One leaf that is wanted: an ERROR node, and an error.
light_expect : (m k : ℕ) → Lights 2 (expect_one m k)
unfolding expect_one nodes leaves
light_expect m k [] = record { is = omega arith }
light_expect m k (t ∷ ts) = light_if (is k t) _ _ (record { is = omega arith }) (record { is = omega arith })

-- Bodies: their node.
light_body : (k : ℕ) → Lights 1 (body k)
unfolding body nodes leaves
light_body k ts =
    let us : List Leaf = trimmed (while inline ts) in
    let vs : List Leaf = trailing (while inline ts) in
    record { is = rw (nodes_row vs, leaves_pp_tokens us, length-append) (omega (arith, few_concats us)) }

pub light_pp_body : (k : ℕ) → Lights 1 (pp_body k)
unfolding pp_body
light_pp_body k = light_then _ _ light_trivia (light_body k)

-- The end of a directive's line: an ERROR node, and an error.
light_extra : (es : List Err) → length es ≤ 1 → Lights 1 (extra es)
unfolding extra
light_extra es h ts = record { is = rw (nodes_row (while inline ts)) (omega arith) }

pub light_finish : (e : Leaf → ℕ → List Err) → ((t : Leaf) (end : ℕ) → length (e t end) ≤ 1) → Lights 2 (finish e)
unfolding finish
light_finish e h [] = light_nothing []
light_finish e h (t ∷ ts) =
    light_if (newline_leaf t) _ _ (light_bump (t ∷ ts)) (light_then {k = 0} _ _ (light_wrap Kind.ERROR _ (light_extra _ (h t (last_stop 0 (while inline (t ∷ ts)))))) light_bump (t ∷ ts))

-- The line of an unknown word: one error more.
pub light_unknown : (w : Leaf) → Lights 3 (unknown w)
unfolding unknown
light_unknown w ts = light_raise _ _ (light_finish (λ t end. []) (λ t end. omega arith) ts)

-- Groups: an error at the end.
pub light_group : (l : Leaf) (d : ℕ) → Lights 1 (pp_rs_ident l d)
unfolding pp_rs_ident
light_group l d [] = light_raise _ _ (light_nothing [])
light_group l d (t ∷ ts) = go (depth t d) refl (λ k. light_group l k ts)
  where
    go : (o : Option ℕ) → depth t d ≡ o → ((k : ℕ) → Light 1 (pp_rs_ident l k ts)) → Light 1 (pp_rs_ident l d (t ∷ ts))
    go none e ih = rw (e, pp_rs_ident) (light_bump (t ∷ ts))
    go (some k) e ih = rw (e, pp_rs_ident) (light_push {j = 1} t _ (ih k) (omega arith))

-- The rests of the directives. m: where the source ends.
module _ (m : ℕ) where
  light_arg : (first : Bool) (t : Leaf) (g : Got) → Light 1 g → Light 1 (push_arg first t g)
  unfolding nodes leaves
  light_arg true t g a = record { is = omega (arith, a.is) }
  light_arg false t g a = light_push t g a (omega arith)

  -- Each leaf is an argument at most, or an error; and the end may be one more.
  light_args : (first : Bool) → Lights 1 (args m first)
  unfolding args
  light_args first [] = light_raise _ _ (light_nothing [])
  light_args first (t ∷ ts) =
      light_if (trivia t) _ _ (light_push {j = 1} t _ (light_args first ts) (omega arith))
      (light_if (is Kind.RPAREN t) _ _ (light_push {j = 1} t _ (light_nothing ts) (omega arith))
      (light_if (is (wanted first) t) _ _ (light_arg first t _ (light_args (not first) ts))
      (light_raise _ _ (light_if (newline_leaf t) _ _ (light_nothing (t ∷ ts)) (light_push {j = 1} t _ (light_args (not first) ts) (omega arith))))))

  light_define_args : Lights 2 (define_args m)
  unfolding define_args
  light_define_args ts = light_node _ _ (light_then {j = 0} bump (args m true) light_bump (light_args true) ts)

  pub light_define : Lights 5 (pp_define m)
  unfolding pp_define
  light_define = light_then _ _ light_trivia (light_then _ _ (light_expect m Kind.IDENT_KW) (light_then _ _ (light_maybe _ _ light_define_args) (light_pp_body Kind.PP_DEFINE_BODY)))

  pub light_if_ident : Lights 3 (pp_if_ident m)
  unfolding pp_if_ident
  light_if_ident = light_then _ _ light_trivia (light_wrap Kind.PP_IDENT _ (light_expect m Kind.IDENT_KW))

  pub light_version : Lights 4 (pp_version m)
  unfolding pp_version
  light_version =
      light_then _ _ light_trivia
      (light_then _ _ (light_wrap Kind.PP_VERSION_NUMBER _ (light_expect m Kind.DIGITS)) (light_then _ _ light_trivia (light_maybe _ _ (light_wrap {k = 0} Kind.PP_VERSION_PROFILE _ light_bump))))

  -- The colon of an extension, and what follows it.
  light_colon : (r : Reader) → Lights 2 r → Lights 2 (colon m r)
  unfolding colon
  light_colon r a [] = light_raise _ _ (light_nothing [])
  light_colon r a (t ∷ ts) =
      light_if (is Kind.COLON t) _ _ (light_then {j = 0} bump r light_bump a (t ∷ ts))
      (light_raise _ _ (light_if (newline_leaf t) _ _ (light_nothing (t ∷ ts)) (light_push {j = 0} t _ (light_nothing ts) (omega arith))))

  pub light_extension : Lights 4 (pp_extension m)
  unfolding pp_extension
  light_extension =
      light_then _ _ light_trivia (light_then _ _ (light_expect m Kind.IDENT_KW) (light_then _ _ light_trivia (light_colon _ (light_then _ _ light_trivia (light_expect m Kind.IDENT_KW)))))
