-- How deep the reading of a source nests: as many levels as the writer has, unless a body has too many ##.
use Prim.Native.Nat.{ℕ, zero, suc, ◌≤◌}
use mathlib.Core.Path.{◌≡◌, refl}
use mathlib.Core.Bool.{Bool, true, false}
use mathlib.Core.List.{List, [], ◌∷◌}
use mathlib.Core.Option.{Option, none, some}
use native.Mathlib.Omega.{arith}
use lib.ListN.{length}
use Rattle.definition.specs.SyntaxKind.{Kind}
use Rattle.definition.specs.Unescaped.{unescaped}
use Rattle.definition.specs.Glue.{tokens}
use Rattle.definition.specs.Tree.{Leaf, placed, Forest, nil, node, row, ◌▹◌, body_kind, body_concats}
use Rattle.definition.specs.Error.{Err}
use Rattle.definition.specs.Parser.{is, trivia, newline_leaf, inline, while, after, peek, Got, ◌then◌, skip_trivia, bump}
use Rattle.definition.specs.Syntax.{trimmed, pp_include, Directive, directives, directive_named, directive, pp_rs_ident, Line, group, control_line, hash_item, item, file, relexed, parse, parse_define_body}
use Rattle.definition.specs.Calls.{too_many}
use Rattle.theorems.specs.Height.{height, open_levels, Low}
use Rattle.theorems.proofs.Named.{All, done, ◌&◌, Found, unnamed, one, found}
use Rattle.theorems.proofs.Heights.Laws.{largest_few, low_nil, low_row, low-▹, low_node, low_more}
use Rattle.theorems.proofs.Heights.Bodies.{low_tokens}
use Rattle.theorems.proofs.Heights.Readers.{Shallow, low_if, low_then, low_wrap, low_skip, low_trivia, low_nothing, low_bump, low_group, low_pp_body, low_finish, low_unknown, low_define, low_if_ident, low_version, low_extension}

-- Inside a directive's node there are two levels at most: a node, and one in it.
abbrev pub inner : ℕ
inner = 2

-- A directive whose node is no body.
record Ordinary (d : Directive) : Type 0 where
  no_body : body_kind d.node_kind ≡ false
  shallow : Shallow inner d.reads

low_directive : (w : Leaf) (d : Directive) → Ordinary d → Shallow inner (directive w d)
unfolding directive
low_directive w d o = low_then _ _ low_bump (low_then _ _ o.shallow (low_then _ _ low_trivia (low_finish _)))

-- What follows a HASH: the kind of its node is no body's.
pub data NoBody : Option ℕ → Type 0 where
  no_node : NoBody none
  of_kind : {k : ℕ} → body_kind k ≡ false → NoBody (some k)

pub record LowLine (l : Line) : Type 0 where
  pub kind : NoBody l.node_kind
  pub low : Low inner l.got.tree

group_kind : (g : Got) → NoBody (group g).node_kind
group_kind g = go g.errs
  where
    go : (es : List Err) → NoBody (elim es [ [] ↦ none | e ∷ es ↦ some Kind.ERROR ])
    go [] = no_node
    go (e ∷ es) = of_kind refl

module _ (n : ℕ) (again : List Leaf → List Leaf) where
  low_include : Shallow inner (pp_include n again)
  unfolding pp_include
  low_include ts = low_pp_body Kind.PP_INCLUDE_PATH refl (again ts)

  -- The fourteen.
  ordinary : All Ordinary (directives n again)
  unfolding directives
  ordinary =
      record { no_body = refl; shallow = low_include }
      & record { no_body = refl; shallow = low_define n }
      & record { no_body = refl; shallow = low_if_ident n }
      & record { no_body = refl; shallow = low_pp_body Kind.PP_LINE_BODY refl }
      & record { no_body = refl; shallow = low_pp_body Kind.PP_ERROR_BODY refl }
      & record { no_body = refl; shallow = low_pp_body Kind.PP_PRAGMA_BODY refl }
      & record { no_body = refl; shallow = low_version n }
      & record { no_body = refl; shallow = low_pp_body Kind.PP_IF_EXPR refl }
      & record { no_body = refl; shallow = low_if_ident n }
      & record { no_body = refl; shallow = low_if_ident n }
      & record { no_body = refl; shallow = low_pp_body Kind.PP_IF_EXPR refl }
      & record { no_body = refl; shallow = low_nothing }
      & record { no_body = refl; shallow = low_nothing }
      & record { no_body = refl; shallow = low_extension n }
      & done

  pub low_line : (ts : List Leaf) → LowLine (control_line n again ts)
  unfolding control_line
  low_line [] = record { kind = of_kind refl; low = low_nothing [] }
  low_line (t ∷ ts) = go (newline_leaf t) refl (is Kind.LPAREN t) refl
    where
      Goal : Type 0
      Goal = LowLine (control_line n again (t ∷ ts))

      word : (o : Option Directive) → directive_named (directives n again) (unescaped t.bytes) ≡ o → newline_leaf t ≡ false → is Kind.LPAREN t ≡ false → Found Ordinary o → Goal
      word _ e a b unnamed = rw (a, b, e, control_line) (record { kind = of_kind refl; low = low_unknown t (t ∷ ts) })
      word _ e a b (one {d} o) = rw (a, b, e, control_line) (record { kind = of_kind o.no_body; low = low_directive t d o (t ∷ ts) })

      go : (a : Bool) → newline_leaf t ≡ a → (b : Bool) → is Kind.LPAREN t ≡ b → Goal
      go true a b eb = rw (a, control_line) (record { kind = of_kind refl; low = low_bump (t ∷ ts) })
      go false a true b = rw (a, b, control_line) (record { kind = group_kind ((bump then pp_rs_ident t 0) (t ∷ ts)); low = low_then bump (pp_rs_ident t 0) low_bump (low_group t 0) (t ∷ ts) })
      go false a false b = word _ refl a b (found ordinary (unescaped t.bytes))

-- The node of an item, if it has one, adds a level.
low_item : {n : ℕ} (o : Option ℕ) (c : Forest) → NoBody o → Low n c → Low (suc n) (elim o [ none ↦ c | some k ↦ node k c nil ])
low_item _ c no_node a = low_more c a
low_item _ c (of_kind {k} e) a = low_node k c nil e a low_nil

module _ (n : ℕ) (again : List Leaf → List Leaf) where
  low_hash : (before : List Leaf) → Shallow (suc inner) (hash_item n again before)
  unfolding hash_item
  low_hash before ts =
      let h : Got = (bump then skip_trivia) ts in
      let p : Line = control_line n again h.rest in
      let l : LowLine p = low_line n again h.rest in
      low_item p.node_kind (row before ▹ h.tree ▹ p.got.tree) l.kind
      (low-▹ (row before) _ (low_row before) (low-▹ h.tree _ (low_then bump skip_trivia low_bump low_trivia ts) l.low))

  pub low_items : Shallow (suc inner) (item n again)
  unfolding item
  low_items ts =
      low_if (peek (is Kind.HASH) (after trivia ts)) _ _ (low_hash (while trivia ts) (after trivia ts)) (low_then _ _ low_trivia (low_then _ _ (low_skip inline) low_bump) ts)

  pub low_file : (f : ℕ) → Shallow (suc inner) (file n again f)
  unfolding file
  low_file zero ts = low_row ts
  low_file (suc f) [] = low_nothing []
  low_file (suc f) (t ∷ ts) = low_then (item n again) (λ us. file n again f us) low_items (low_file f) (t ∷ ts)

-- ROOT is one more.
low_parse : (src : List ℕ) → Low (suc (suc inner)) (parse src).tree
unfolding parse
low_parse src = low_wrap Kind.ROOT _ refl (low_file (length src) relexed (length src)) (placed 0 (tokens false src))

low_define_body : (src : List ℕ) → Low (suc (suc inner)) (parse_define_body src)
unfolding parse_define_body row
low_define_body src = low_tokens Kind.PP_DEFINE_BODY refl (trimmed (while inline (placed 0 (tokens false src)))) []

-- Without a body of too many ##, the levels suffice.
few_levels : (f : Forest) → Low (suc (suc inner)) f → too_many (body_concats f) ≡ false → height f ≤ open_levels
few_levels f h e = omega (arith, h.is, largest_few (body_concats f) e)

pub height_parse : (src : List ℕ) → too_many (body_concats (parse src).tree) ≡ false → height (parse src).tree ≤ open_levels
height_parse src = few_levels (parse src).tree (low_parse src)

-- An item of a source stands below ROOT.
pub height_item : (n : ℕ) (again : List Leaf → List Leaf) (ts : List Leaf) → too_many (body_concats (item n again ts).tree) ≡ false
    → suc (height (item n again ts).tree) ≤ open_levels
height_item n again ts e = omega (arith, (low_items n again ts).is, largest_few (body_concats (item n again ts).tree) e)

pub height_define_body : (src : List ℕ) → too_many (body_concats (parse_define_body src)) ≡ false → height (parse_define_body src) ≤ open_levels
height_define_body src = few_levels (parse_define_body src) (low_define_body src)
