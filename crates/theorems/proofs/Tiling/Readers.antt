-- The readers of the directives' rests, but for `include`'s, and of groups are steady. Each has one equation a case first.
use Prim.Native.Nat.{ℕ}
use mathlib.Core.Path.{◌≡◌, refl}
use mathlib.Core.Bool.{Bool, true, false, not}
use mathlib.Core.List.{List, [], ◌∷◌}
use mathlib.Core.Option.{Option, none, some}
use Rattle.definition.specs.SyntaxKind.{Kind}
use Rattle.definition.specs.Tree.{Leaf, Forest, nil, leaf, node, ◌▹◌, leaves, row, stop}
use Rattle.definition.specs.Error.{Err, unexpected, end_of_input}
use Rattle.definition.specs.Parser.{is, trivia, newline_leaf, inline, while, push, raise, Reader, ◌then◌, wrap, nothing, bump, expect_one}
use Rattle.definition.specs.Syntax.{pp_tokens, trimmed, trailing, body, pp_body, wanted, arg_kinds, push_arg, args, define_args, pp_define, pp_if_ident, pp_version, colon, pp_extension, last_stop, extra, finish, unknown, depth, pp_rs_ident}
use Rattle.theorems.proofs.Tiling.Leaves.{leaves_pp_tokens, leaves_row, trimmed_trailing}
use Rattle.theorems.proofs.Tiling.Steady.{SteadyAt, Steady, steady_then, steady_over, steady_wrap, steady_raise, steady_still, steady_nothing, steady_while, steady_trivia, steady_like_nil, steady_like_cons, steady_maybe, pushing, steady_push, steady_bump}

-- Nothing taken, and some errors.
abbrev still : List Err → Reader
still es ts = record { tree = nil; errs = es; rest = ts }

steady_stop : (es : List Err) → Steady (still es)
unfolding leaves
steady_stop es = steady_still nil es refl

-- A leaf that is taken as it is, with errors perhaps, and then another reader.
steady_leaf : (es : List Err) (p q : Reader) (t : Leaf) (ts : List Leaf) → ((us : List Leaf) → p (t ∷ us) ≡ pushing (leaf t) es (q us)) → SteadyAt q ts → SteadyAt p (t ∷ ts)
unfolding leaves
steady_leaf es p q t ts i = steady_push t (leaf t) es (λ c. refl) p q i ts

-- One leaf that is wanted.
module _ (n k : ℕ) where
  expect_nil : expect_one n k [] ≡ record { tree = node Kind.ERROR nil nil; errs = end_of_input n n (k ∷ []) ∷ []; rest = [] }
  unfolding expect_one
  expect_nil = refl

  expect_yes : (t : Leaf) → is k t ≡ true → (us : List Leaf) → expect_one n k (t ∷ us) ≡ push t (nothing us)
  unfolding expect_one nothing
  expect_yes t e us = rw (e, expect_one)

  expect_no : (t : Leaf) → is k t ≡ false → (us : List Leaf) → expect_one n k (t ∷ us) ≡ pushing (node Kind.ERROR (leaf t nil)) (unexpected t (k ∷ []) ∷ []) (nothing us)
  unfolding expect_one nothing
  expect_no t e us = rw (e, expect_one)

  pub steady_expect : Steady (expect_one n k)
  unfolding leaves
  steady_expect [] = steady_like_nil _ _ expect_nil (steady_still (node Kind.ERROR nil nil) (end_of_input n n (k ∷ []) ∷ []) refl [])
  steady_expect (t ∷ ts) = go (is k t) refl
    where
      go : (b : Bool) → is k t ≡ b → SteadyAt (expect_one n k) (t ∷ ts)
      go true e = steady_leaf [] (expect_one n k) nothing t ts (expect_yes t e) (steady_nothing ts)
      go false e = steady_push t (node Kind.ERROR (leaf t nil)) (unexpected t (k ∷ []) ∷ []) (λ c. refl) (expect_one n k) nothing (expect_no t e) ts (steady_nothing ts)

-- Bodies.
body_leaves : (k : ℕ) (ts : List Leaf) → leaves (node k (pp_tokens (trimmed ts)) (row (trailing ts))) ≡ ts
unfolding leaves
body_leaves k ts = rw (leaves_pp_tokens (trimmed ts), leaves_row (trailing ts)) (trimmed_trailing ts)

pub steady_body : (k : ℕ) → Steady (body k)
unfolding body
steady_body k = steady_while inline (λ ts. node k (pp_tokens (trimmed ts)) (row (trailing ts))) (λ ts. []) (body_leaves k)

pub steady_pp_body : (k : ℕ) → Steady (pp_body k)
unfolding pp_body
steady_pp_body k = steady_then _ _ steady_trivia (steady_body k)

-- The arguments of a definition.
arg_leaves : (first : Bool) (t : Leaf) (c : Forest) → leaves (push_arg first t (record { tree = c; errs = []; rest = [] })).tree ≡ t ∷ leaves c
unfolding leaves
arg_leaves true t c = refl
arg_leaves false t c = refl

module _ (n : ℕ) where
  args_nil : (first : Bool) → args n first [] ≡ still (end_of_input n n (arg_kinds first) ∷ []) []
  unfolding args nothing
  args_nil first = refl

  module _ (first : Bool) (t : Leaf) where
    args_trivia : trivia t ≡ true → (us : List Leaf) → args n first (t ∷ us) ≡ push t (args n first us)
    unfolding args
    args_trivia a us = rw (a, args)

    args_close : trivia t ≡ false → is Kind.RPAREN t ≡ true → (us : List Leaf) → args n first (t ∷ us) ≡ push t (nothing us)
    unfolding args
    args_close a b us = rw (a, b, args)

    args_good : trivia t ≡ false → is Kind.RPAREN t ≡ false → is (wanted first) t ≡ true
        → (us : List Leaf) → args n first (t ∷ us) ≡ push_arg first t (args n (not first) us)
    unfolding args
    args_good a b c us = rw (a, b, c, args)

    args_line : trivia t ≡ false → is Kind.RPAREN t ≡ false → is (wanted first) t ≡ false → newline_leaf t ≡ true
        → (us : List Leaf) → args n first (t ∷ us) ≡ still (unexpected t (arg_kinds first) ∷ []) (t ∷ us)
    unfolding args nothing
    args_line a b c d us = rw (a, b, c, d, args)

    args_bad : trivia t ≡ false → is Kind.RPAREN t ≡ false → is (wanted first) t ≡ false → newline_leaf t ≡ false
        → (us : List Leaf) → args n first (t ∷ us) ≡ raise (unexpected t (arg_kinds first)) (push t (args n (not first) us))
    unfolding args
    args_bad a b c d us = rw (a, b, c, d, args)

  pub steady_args : (first : Bool) → Steady (args n first)
  steady_args first [] = steady_like_nil _ _ (args_nil first) (steady_stop _ [])
  steady_args first (t ∷ ts) = go (trivia t) refl (is Kind.RPAREN t) refl (is (wanted first) t) refl (newline_leaf t) refl (λ f. steady_args f ts)
    where
      go : (a : Bool) → trivia t ≡ a → (b : Bool) → is Kind.RPAREN t ≡ b → (c : Bool) → is (wanted first) t ≡ c → (d : Bool) → newline_leaf t ≡ d
          → ((f : Bool) → SteadyAt (args n f) ts) → SteadyAt (args n first) (t ∷ ts)
      go true ea b eb c ec d ed ih = steady_leaf [] _ (args n first) t ts (args_trivia first t ea) (ih first)
      go false ea true eb c ec d ed ih = steady_leaf [] _ nothing t ts (args_close first t ea eb) (steady_nothing ts)
      go false ea false eb true ec d ed ih =
          steady_push t _ [] (arg_leaves first t) (args n first) (args n (not first)) (args_good first t ea eb ec) ts (ih (not first))
      go false ea false eb false ec true ed ih = steady_like_cons _ _ t ts (args_line first t ea eb ec ed) (steady_stop _ (t ∷ ts))
      go false ea false eb false ec false ed ih = steady_leaf (unexpected t (arg_kinds first) ∷ []) _ (args n (not first)) t ts (args_bad first t ea eb ec ed) (ih (not first))

  pub steady_define_args : Steady (define_args n)
  unfolding define_args
  steady_define_args = steady_over (λ es. elim es [ [] ↦ Kind.PP_DEFINE_ARGS | e ∷ es ↦ Kind.ERROR ]) _ (steady_then _ _ steady_bump (steady_args true))

  -- The colon of an extension.
  module _ (r : Reader) where
    colon_nil : colon n r [] ≡ still (end_of_input n n (Kind.COLON ∷ []) ∷ []) []
    unfolding colon nothing
    colon_nil = refl

    colon_yes : (t : Leaf) → is Kind.COLON t ≡ true → (us : List Leaf) → colon n r (t ∷ us) ≡ push t (r us)
    unfolding colon bump ◌then◌ ◌▹◌
    colon_yes t a us = rw (a, colon)

    colon_line : (t : Leaf) → is Kind.COLON t ≡ false → newline_leaf t ≡ true → (us : List Leaf) → colon n r (t ∷ us) ≡ still (unexpected t (Kind.COLON ∷ []) ∷ []) (t ∷ us)
    unfolding colon nothing
    colon_line t a b us = rw (a, b, colon)

    colon_bad : (t : Leaf) → is Kind.COLON t ≡ false → newline_leaf t ≡ false → (us : List Leaf) → colon n r (t ∷ us) ≡ raise (unexpected t (Kind.COLON ∷ [])) (push t (nothing us))
    unfolding colon
    colon_bad t a b us = rw (a, b, colon)

    pub steady_colon : Steady r → Steady (colon n r)
    steady_colon s [] = steady_like_nil _ _ colon_nil (steady_stop _ [])
    steady_colon s (t ∷ ts) = go (is Kind.COLON t) refl (newline_leaf t) refl
      where
        go : (a : Bool) → is Kind.COLON t ≡ a → (b : Bool) → newline_leaf t ≡ b → SteadyAt (colon n r) (t ∷ ts)
        go true ea b eb = steady_leaf [] _ r t ts (colon_yes t ea) (s ts)
        go false ea true eb = steady_like_cons _ _ t ts (colon_line t ea eb) (steady_stop _ (t ∷ ts))
        go false ea false eb = steady_leaf (unexpected t (Kind.COLON ∷ []) ∷ []) _ nothing t ts (colon_bad t ea eb) (steady_nothing ts)

  -- The rests of the directives.
  pub steady_define : Steady (pp_define n)
  unfolding pp_define
  steady_define =
      steady_then _ _ steady_trivia (steady_then _ _ (steady_expect n Kind.IDENT_KW) (steady_then _ _ (steady_maybe _ _ steady_define_args) (steady_pp_body Kind.PP_DEFINE_BODY)))

  pub steady_if_ident : Steady (pp_if_ident n)
  unfolding pp_if_ident
  steady_if_ident = steady_then _ _ steady_trivia (steady_wrap _ _ (steady_expect n Kind.IDENT_KW))

  pub steady_version : Steady (pp_version n)
  unfolding pp_version
  steady_version =
      steady_then _ _ steady_trivia (steady_then _ _ (steady_wrap _ _ (steady_expect n Kind.DIGITS)) (steady_then _ _ steady_trivia (steady_maybe _ _ (steady_wrap _ _ steady_bump))))

  pub steady_extension : Steady (pp_extension n)
  unfolding pp_extension
  steady_extension =
      let ident : Steady (expect_one n Kind.IDENT_KW) = steady_expect n Kind.IDENT_KW in
      steady_then _ _ steady_trivia (steady_then _ _ ident (steady_then _ _ steady_trivia (steady_colon _ (steady_then _ _ steady_trivia ident))))

-- The end of a directive's line.
module _ (e : Leaf → ℕ → List Err) where
  finish_nil : finish e [] ≡ nothing []
  unfolding finish
  finish_nil = refl

  finish_line : (t : Leaf) → newline_leaf t ≡ true → (us : List Leaf) → finish e (t ∷ us) ≡ bump (t ∷ us)
  unfolding finish
  finish_line t a us = rw (a, finish)

  -- The leaves up to the newline, with the errors that they are.
  surplus : Leaf → Reader
  surplus t us = extra (e t (last_stop 0 (while inline us))) us

  finish_extra : (t : Leaf) → newline_leaf t ≡ false → (us : List Leaf) → finish e (t ∷ us) ≡ (wrap Kind.ERROR (surplus t) then bump) (t ∷ us)
  unfolding finish surplus ◌then◌ wrap
  finish_extra t a us = rw (a, finish)

  steady_surplus : (t : Leaf) → Steady (surplus t)
  unfolding surplus extra
  steady_surplus t = steady_while inline row (λ ts. e t (last_stop 0 ts)) leaves_row

  pub steady_finish : Steady (finish e)
  steady_finish [] = steady_like_nil _ _ finish_nil (steady_nothing [])
  steady_finish (t ∷ ts) = go (newline_leaf t) refl
    where
      go : (b : Bool) → newline_leaf t ≡ b → SteadyAt (finish e) (t ∷ ts)
      go true q = steady_like_cons _ _ t ts (finish_line t q) (steady_bump (t ∷ ts))
      go false q = steady_like_cons _ _ t ts (finish_extra t q) (steady_then _ _ (steady_wrap _ _ (steady_surplus t)) steady_bump (t ∷ ts))

-- The line of an unknown word.
pub steady_unknown : (w : Leaf) → Steady (unknown w)
unfolding unknown
steady_unknown w = steady_raise _ _ (steady_finish (λ t end. []))

-- Groups.
module _ (l : Leaf) where
  group_nil : (d : ℕ) → pp_rs_ident l d [] ≡ still (end_of_input l.start (stop l) (Kind.RPAREN ∷ []) ∷ []) []
  unfolding pp_rs_ident nothing
  group_nil d = refl

  group_close : (d : ℕ) (t : Leaf) → depth t d ≡ none → (us : List Leaf) → pp_rs_ident l d (t ∷ us) ≡ push t (nothing us)
  unfolding pp_rs_ident bump nothing
  group_close d t e us = rw (e, pp_rs_ident)

  group_more : (d d' : ℕ) (t : Leaf) → depth t d ≡ some d' → (us : List Leaf) → pp_rs_ident l d (t ∷ us) ≡ push t (pp_rs_ident l d' us)
  unfolding pp_rs_ident
  group_more d d' t e us = rw (e, pp_rs_ident)

  pub steady_group : (d : ℕ) → Steady (pp_rs_ident l d)
  steady_group d [] = steady_like_nil _ _ (group_nil d) (steady_stop _ [])
  steady_group d (t ∷ ts) = go (depth t d) refl (λ k. steady_group k ts)
    where
      go : (o : Option ℕ) → depth t d ≡ o → ((k : ℕ) → SteadyAt (pp_rs_ident l k) ts) → SteadyAt (pp_rs_ident l d) (t ∷ ts)
      go none q ih = steady_leaf [] _ nothing t ts (group_close d t q) (steady_nothing ts)
      go (some k) q ih = steady_leaf [] _ (pp_rs_ident l k) t ts (group_more d k t q) (ih k)
