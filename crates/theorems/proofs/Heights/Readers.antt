-- How deep the trees of the combinators, of the directives' rests and of groups nest.
use Rattle.std.specs.Prelude.{if◌then◌else◌}
use Prim.Native.Nat.{ℕ, suc}
use mathlib.Core.Path.{◌≡◌, refl}
use mathlib.Core.Bool.{Bool, true, false, not}
use mathlib.Core.List.{List, [], ◌∷◌}
use mathlib.Core.Option.{Option, none, some}
use Rattle.definition.specs.SyntaxKind.{Kind}
use Rattle.definition.specs.Tree.{Leaf, nil, leaf, body_kind}
use Rattle.definition.specs.Error.{Err}
use Rattle.definition.specs.Parser.{is, trivia, newline_leaf, inline, while, peek, Got, Reader, ◌then◌, wrap, skip, skip_trivia, nothing, bump, maybe, expect_one}
use Rattle.definition.specs.Syntax.{trimmed, trailing, body, pp_body, wanted, push_arg, args, define_args, pp_define, pp_if_ident, pp_version, colon, pp_extension, extra, finish, unknown, depth, pp_rs_ident}
use Rattle.theorems.specs.Height.{Low}
use Rattle.theorems.proofs.Heights.Laws.{low_nil, low_leaf, low_row, low-▹, low_node}
use Rattle.theorems.proofs.Heights.Bodies.{low_tokens}

-- A reader whose trees nest no deeper than n and their bodies' ## allow.
abbrev pub Shallow : ℕ → Reader → Type 0
Shallow n p = (ts : List Leaf) → Low n (p ts).tree

-- The combinators.
module _ {n : ℕ} where
  pub low_if : (b : Bool) (g h : Got) → Low n g.tree → Low n h.tree → Low n (if b then g else h).tree
  low_if true g h a b = a
  low_if false g h a b = b

  pub low_then : (p q : Reader) → Shallow n p → Shallow n q → Shallow n (p then q)
  unfolding ◌then◌
  low_then p q a b ts = low-▹ (p ts).tree (q (p ts).rest).tree (a ts) (b (p ts).rest)

  pub low_wrap : (k : ℕ) (p : Reader) → body_kind k ≡ false → Shallow n p → Shallow (suc n) (wrap k p)
  unfolding wrap
  low_wrap k p e a ts = low_node k (p ts).tree nil e (a ts) low_nil

  pub low_skip : (p : Leaf → Bool) → Shallow n (skip p)
  unfolding skip
  low_skip p ts = low_row (while p ts)

  pub low_trivia : Shallow n skip_trivia
  unfolding skip_trivia
  low_trivia = low_skip trivia

  pub low_nothing : Shallow n nothing
  unfolding nothing
  low_nothing ts = low_nil

  pub low_bump : Shallow n bump
  unfolding bump
  low_bump [] = low_nil
  low_bump (t ∷ ts) = low_leaf t nil low_nil

  pub low_maybe : (p : Leaf → Bool) (r : Reader) → Shallow n r → Shallow n (maybe p r)
  unfolding maybe
  low_maybe p r a ts = go (peek p ts) refl
    where
      go : (b : Bool) → peek p ts ≡ b → Low n (maybe p r ts).tree
      go true e = rw (e, maybe) (a ts)
      go false e = rw (e, maybe) (low_nothing ts)

  -- Groups have no nodes.
  pub low_group : (l : Leaf) (d : ℕ) → Shallow n (pp_rs_ident l d)
  unfolding pp_rs_ident
  low_group l d [] = low_nothing []
  low_group l d (t ∷ ts) = go (depth t d) refl (λ k. low_group l k ts)
    where
      go : (o : Option ℕ) → depth t d ≡ o → ((k : ℕ) → Low n (pp_rs_ident l k ts).tree) → Low n (pp_rs_ident l d (t ∷ ts)).tree
      go none e ih = rw (e, pp_rs_ident) (low_bump (t ∷ ts))
      go (some k) e ih = rw (e, pp_rs_ident) (low_leaf t _ (ih k))

module _ {n : ℕ} where
  -- One leaf that is wanted: an ERROR node at most.
  pub low_expect : (m k : ℕ) → Shallow (suc n) (expect_one m k)
  unfolding expect_one
  low_expect m k [] = low_node Kind.ERROR nil nil refl low_nil low_nil
  low_expect m k (t ∷ ts) = low_if (is k t) _ _ (low_leaf t nil low_nil) (low_node Kind.ERROR (leaf t nil) nil refl (low_leaf t nil low_nil) low_nil)

  -- Bodies.
  pub low_pp_body : (k : ℕ) → body_kind k ≡ true → Shallow (suc n) (pp_body k)
  unfolding pp_body body
  low_pp_body k e = low_then skip_trivia (body k) low_trivia (λ ts. low_tokens k e (trimmed (while inline ts)) (trailing (while inline ts)))

  -- The end of a directive's line, and the line of an unknown word: an ERROR node at most.
  pub low_finish : (e : Leaf → ℕ → List Err) → Shallow (suc n) (finish e)
  unfolding finish extra
  low_finish e [] = low_nothing []
  low_finish e (t ∷ ts) =
      low_if (newline_leaf t) _ _ (low_bump (t ∷ ts)) (low_then _ _ (low_wrap Kind.ERROR (extra _) refl (λ us. low_row (while inline us))) low_bump (t ∷ ts))

  pub low_unknown : (w : Leaf) → Shallow (suc n) (unknown w)
  unfolding unknown
  low_unknown w = low_finish (λ t end. [])

-- The node of an argument list is no body.
list_kind : List Err → ℕ
list_kind es = elim es [ [] ↦ Kind.PP_DEFINE_ARGS | e ∷ es ↦ Kind.ERROR ]

no_body : (es : List Err) → body_kind (list_kind es) ≡ false
unfolding list_kind
no_body [] = refl
no_body (e ∷ es) = refl

-- The rests of the directives. m: where the source ends.
module _ {n : ℕ} (m : ℕ) where
  -- Each argument is a node,
  low_arg : (first : Bool) (t : Leaf) (g : Got) → Low (suc n) g.tree → Low (suc n) (push_arg first t g).tree
  low_arg true t g a = low_node Kind.PP_DEFINE_ARG (leaf t nil) g.tree refl (low_leaf t nil low_nil) a
  low_arg false t g a = low_leaf t g.tree a

  pub low_args : (first : Bool) → Shallow (suc n) (args m first)
  unfolding args
  low_args first [] = low_nothing []
  low_args first (t ∷ ts) =
      low_if (trivia t) _ _ (low_leaf t _ (low_args first ts))
      (low_if (is Kind.RPAREN t) _ _ (low_leaf t _ (low_nothing ts))
      (low_if (is (wanted first) t) _ _ (low_arg first t (args m (not first) ts) (low_args (not first) ts))
      (low_if (newline_leaf t) _ _ (low_nothing (t ∷ ts)) (low_leaf t _ (low_args (not first) ts)))))

  -- and one is over the list.
  pub low_define_args : Shallow (suc (suc n)) (define_args m)
  unfolding define_args list_kind
  low_define_args ts =
      let a : Got = (bump then args m true) ts in
      low_node (list_kind a.errs) a.tree nil (no_body a.errs) (low_then bump (args m true) low_bump (low_args true) ts) low_nil

  pub low_define : Shallow (suc (suc n)) (pp_define m)
  unfolding pp_define
  low_define = low_then _ _ low_trivia (low_then _ _ (low_expect m Kind.IDENT_KW) (low_then _ _ (low_maybe _ _ low_define_args) (low_pp_body Kind.PP_DEFINE_BODY refl)))

  pub low_if_ident : Shallow (suc (suc n)) (pp_if_ident m)
  unfolding pp_if_ident
  low_if_ident = low_then _ _ low_trivia (low_wrap Kind.PP_IDENT _ refl (low_expect m Kind.IDENT_KW))

  pub low_version : Shallow (suc (suc n)) (pp_version m)
  unfolding pp_version
  low_version =
      low_then _ _ low_trivia
      (low_then _ _ (low_wrap Kind.PP_VERSION_NUMBER _ refl (low_expect m Kind.DIGITS)) (low_then _ _ low_trivia (low_maybe _ _ (low_wrap Kind.PP_VERSION_PROFILE _ refl low_bump))))

-- The colon of an extension, and what follows it.
low_colon : {n : ℕ} (m : ℕ) (r : Reader) → Shallow n r → Shallow n (colon m r)
unfolding colon
low_colon m r a [] = low_nothing []
low_colon m r a (t ∷ ts) =
    low_if (is Kind.COLON t) _ _ (low_then bump r low_bump a (t ∷ ts)) (low_if (newline_leaf t) _ _ (low_nothing (t ∷ ts)) (low_leaf t _ (low_nothing ts)))

pub low_extension : {n : ℕ} (m : ℕ) → Shallow (suc n) (pp_extension m)
unfolding pp_extension
low_extension m =
    low_then _ _ low_trivia (low_then _ _ (low_expect m Kind.IDENT_KW) (low_then _ _ low_trivia (low_colon m _ (low_then _ _ low_trivia (low_expect m Kind.IDENT_KW)))))
