-- How many entries and errors a reading has at most.
use Prim.Native.Nat.{ℕ, zero, suc, ◌+◌, ◌*◌, ◌≤◌}
use mathlib.Core.Path.{◌≡◌, refl, ap}
use mathlib.Core.Bool.{Bool, true, false, false≢true}
use mathlib.Core.List.{List, [], ◌∷◌, ◌++◌}
use mathlib.Core.Option.{Option, none, some}
use native.Mathlib.Omega.{arith}
use lib.ListN.{length, length-append}
use Rattle.definition.specs.SyntaxKind.{Kind}
use Rattle.definition.specs.Unescaped.{unescaped}
use Rattle.definition.specs.Glue.{tokens}
use Rattle.definition.specs.Tree.{Leaf, placed, Forest, node, nil, ◌▹◌, leaves, entries}
use Rattle.definition.specs.Parser.{is, trivia, newline_leaf, inline, while, after, peek, ◌then◌, wrap, bump}
use Rattle.definition.specs.Syntax.{trimmed, pp_include, Directive, directives, directive_named, directive, pp_rs_ident, Line, control_line, hash_item, item, file, relexed, parse, parse_define_body}
use Rattle.theorems.specs.Weight.{nodes, Light}
use Rattle.theorems.proofs.Lexing.Tokens.{joined_tokens}
use Rattle.theorems.proofs.Tiling.Leaves.{leaves_pp_tokens, while_after, trimmed_trailing}
use Rattle.theorems.proofs.Tiling.Tiles.{bytes_placed, placed_lies, few}
use Rattle.theorems.proofs.Replay.Laws.{shut, leaves_shut}
use Rattle.theorems.proofs.Replay.Lines.{line_nil, line_empty, line_group, line_word, line_unknown}
use Rattle.theorems.proofs.Replay.Items.{front, leaves_front, hash_step}
use Rattle.theorems.proofs.Replay.Whole.{few_leaves}
use Rattle.theorems.proofs.Named.{All, done, ◌&◌, Found, unnamed, one, found}
use Rattle.theorems.proofs.Weights.Laws.{nodes-▹, nodes_row, count_entries, few_concats, Lights, light_row, light_nothing, light_skip, light_trivia, light_bump, light_wrap, light_more, light_then, light_push}
use Rattle.theorems.proofs.Weights.Readers.{light_pp_body, light_define, light_if_ident, light_version, light_extension, light_finish, light_unknown, light_group}
pub mod Laws
pub mod Readers

-- What the rest of a directive adds at most: as much as define's.
abbrev rest_weight : ℕ
rest_weight = 5

abbrev Modest : Directive → Type 0
Modest d = Lights rest_weight d.reads

module _ (n : ℕ) (again : List Leaf → List Leaf) where
  light_include : Lights 1 (pp_include n again)
  unfolding pp_include
  light_include ts = light_pp_body Kind.PP_INCLUDE_PATH (again ts)

  -- The fourteen.
  modest : All Modest (directives n again)
  unfolding directives
  modest =
      light_more light_include (omega arith)
      & light_define n
      & light_more (light_if_ident n) (omega arith)
      & light_more (light_pp_body Kind.PP_LINE_BODY) (omega arith)
      & light_more (light_pp_body Kind.PP_ERROR_BODY) (omega arith)
      & light_more (light_pp_body Kind.PP_PRAGMA_BODY) (omega arith)
      & light_more (light_version n) (omega arith)
      & light_more (light_pp_body Kind.PP_IF_EXPR) (omega arith)
      & light_more (light_if_ident n) (omega arith)
      & light_more (light_if_ident n) (omega arith)
      & light_more (light_pp_body Kind.PP_IF_EXPR) (omega arith)
      & light_nothing
      & light_nothing
      & light_more (light_extension n) (omega arith)
      & done

-- A directive's line: its word makes up for its rest and its end.
light_directive : {k : ℕ} (w : Leaf) (d : Directive) → Modest d → (ts : List Leaf) → Light k (directive w d (w ∷ ts))
unfolding directive ◌then◌ bump ◌▹◌
light_directive w d a ts =
    light_push {j = rest_weight + 2} w _ (light_then d.reads _ a (light_then _ _ light_trivia (light_finish _ (λ t end. omega arith))) ts) (omega arith)

-- An item: its HASH makes up for its node and for what follows.
few_node : (o : Option ℕ) (c : Forest) → nodes (elim o [ none ↦ c | some k ↦ node k c nil ]) ≤ suc (nodes c)
unfolding nodes
few_node none c = omega arith
few_node (some k) c = omega arith

light_shut : (before : List Leaf) (t : Leaf) (behind : List Leaf) (l : Line) → Light 3 l.got → Light 0 (shut (front before t behind) l)
unfolding nodes
light_shut before t behind l a =
    let c : Forest = l.got.tree in
    let e = leaves_shut (before ++ (t ∷ behind)) (front before t behind) (leaves_front before t behind) l in
    let h : nodes (front before t behind c) ≡ nodes c = simp (nodes-▹, nodes_row) (omega arith) in
    record { is = omega (arith, few_node l.node_kind (front before t behind c), a.is, simp length-append at (ap length e)) }

module _ (n : ℕ) (again : List Leaf → List Leaf) where
  -- What follows a HASH: an unknown word adds most.
  light_line : (ts : List Leaf) → Light 3 (control_line n again ts).got
  light_line [] = rw (line_nil n again) (light_nothing [])
  light_line (t ∷ ts) = go (newline_leaf t) refl (is Kind.LPAREN t) refl
    where
      Goal : Type 0
      Goal = Light 3 (control_line n again (t ∷ ts)).got

      word : (o : Option Directive) → directive_named (directives n again) (unescaped t.bytes) ≡ o → newline_leaf t ≡ false → is Kind.LPAREN t ≡ false → Found Modest o → Goal
      word _ e a b unnamed = rw (line_unknown n again t a b e ts) (light_unknown t (t ∷ ts))
      word _ e a b (one {d} h) = rw (line_word n again t d a b e ts) (light_directive t d h ts)

      go : (a : Bool) → newline_leaf t ≡ a → (b : Bool) → is Kind.LPAREN t ≡ b → Goal
      go true a b eb = rw (line_empty n again t a ts) (light_bump (t ∷ ts))
      go false a true b = rw (line_group n again t a b ts) (light_then {j = 2} bump (pp_rs_ident t 0) light_bump (light_group t 0) (t ∷ ts))
      go false a false b = word _ refl a b (found (modest n again) (unescaped t.bytes))

  light_hash : (before ts : List Leaf) → peek (is Kind.HASH) ts ≡ true → Light 0 (hash_item n again before ts)
  unfolding peek
  light_hash before [] e = absurd (false≢true e)
  light_hash before (t ∷ ts) e = rw (hash_step n again before t ts) (light_shut before t (while trivia ts) (control_line n again (after trivia ts)) (light_line (after trivia ts)))

  light_item : Lights 0 (item n again)
  unfolding item
  light_item ts = go (peek (is Kind.HASH) (after trivia ts)) refl
    where
      go : (b : Bool) → peek (is Kind.HASH) (after trivia ts) ≡ b → Light 0 (item n again ts)
      go true e = rw (e, item) (light_hash (while trivia ts) (after trivia ts) e)
      go false e = rw (e, item) (light_then _ _ light_trivia (light_then {k = 0} _ _ (light_skip inline) light_bump) ts)

  light_file : (f : ℕ) → Lights 0 (file n again f)
  unfolding file
  light_file zero ts = light_row ts []
  light_file (suc f) [] = light_nothing []
  light_file (suc f) (t ∷ ts) = light_then (item n again) (λ us. file n again f us) light_item (light_file f) (t ∷ ts)

-- A source: ROOT is one node more.
light_parse : (src : List ℕ) → Light 1 (parse src)
unfolding parse
light_parse src = light_wrap Kind.ROOT _ (light_file (length src) relexed (length src)) (placed 0 (tokens false src))

pub few_entries : (src : List ℕ) → length (entries 0 0 (parse src).tree) ≤ 8 * length src + 1
few_entries src = omega (arith, count_entries 0 0 (parse src).tree, (light_parse src).is, few_leaves src)

pub few_errors : (src : List ℕ) → length (parse src).errs ≤ 8 * length src
unfolding parse wrap nodes
few_errors src = omega (arith, (light_parse src).is, few_leaves src)

-- A body: its node, and no more leaves and PP_CONCAT nodes than bytes.
pub few_body_entries : (src : List ℕ) → length (entries 0 0 (parse_define_body src)) ≤ 2 * length src + 1
unfolding parse_define_body leaves nodes
few_body_entries src =
    let ts : List Leaf = placed 0 (tokens false src) in
    let us : List Leaf = while inline ts in
    let c = simp (leaves_pp_tokens, length-append) at (count_entries 0 0 (parse_define_body src)) in
    let a = simp length-append at (ap length (trimmed_trailing us)) in
    let b = simp length-append at (ap length (while_after inline ts)) in
    let d : length ts ≤ length src = rw (bytes_placed 0 (tokens false src), joined_tokens false src) at (few 0 ts (placed_lies 0 (tokens false src))) in
    omega (arith, few_concats (trimmed us))
