-- What follows a HASH is told again by the reader for which `include` takes leaves as they are.
use Prim.Native.Nat.{ℕ}
use mathlib.Core.Path.{◌≡◌, refl}
use mathlib.Core.Bool.{Bool, true, false}
use mathlib.Core.List.{List, [], ◌∷◌}
use mathlib.Core.Option.{Option, none, some}
use Rattle.definition.specs.Text.{same}
use Rattle.definition.specs.SyntaxKind.{Kind}
use Rattle.definition.specs.Unescaped.{unescaped}
use Rattle.definition.specs.Tree.{Leaf, ◌▹◌}
use Rattle.definition.specs.Error.{Err, ErrorKind, named_error}
use Rattle.definition.specs.Parser.{is, newline_leaf, Got, push, Reader, ◌then◌, skip_trivia, nothing, bump}
use Rattle.definition.specs.Syntax.{pp_body, pp_include, finish, Directive, directives, directive_named, directive, unknown, pp_rs_ident, control_line}
use Rattle.theorems.proofs.Grammar.Plain.{id}
use Rattle.theorems.proofs.Tiling.Steady.{Heads, heads_nil, heads_cons, Again, starts_same, again_then, SteadyAt, Steady, steady_then, steady_nothing, steady_trivia, steady_bump}
use Rattle.theorems.proofs.Tiling.Readers.{steady_pp_body, steady_define, steady_if_ident, steady_version, steady_extension, steady_finish, steady_unknown, steady_group}
use Rattle.theorems.proofs.Tiling.Tiles.{Recut, recut_twice, Tiled, tiles_steady, tiles_then}
use Rattle.theorems.proofs.Replay.Laws.{Retold, retold_steady, retold_push, lined, RetoldLine, retold_lined}

-- Two directives of one word and node, of which the second reads again what the first has read.
record Kin (c d : Directive) : Type 0 where
  word : c.spelt ≡ d.spelt
  kind : c.node_kind ≡ d.node_kind
  tiles : Tiled c.reads
  again : (ts : List Leaf) → Again d.reads (c.reads ts)

kin_steady : {d : Directive} → Steady d.reads → Kin d d
kin_steady {d} s = record { word = refl; kind = refl; tiles = λ ts. tiles_steady d.reads ts (s ts); again = λ ts. (s ts).again }

infixr 30 ◌&◌
-- Lists of such directives, and what a word is found to be in the one and in the other.
data Kins : List Directive → List Directive → Type 0 where
  done : Kins [] []
  ◌&◌ : {c d : Directive} {cs ds : List Directive} → Kin c d → Kins cs ds → Kins (c ∷ cs) (d ∷ ds)

data Found : Option Directive → Option Directive → Type 0 where
  neither : Found none none
  both : {c d : Directive} → Kin c d → Found (some c) (some d)

found : {cs ds : List Directive} → Kins cs ds → (w : List ℕ) → Found (directive_named cs w) (directive_named ds w)
unfolding directive_named
found done w = neither
found (◌&◌ {c} {d} {cs} {ds} k ks) w = go (same c.spelt w) refl (found ks w)
  where
    go : (b : Bool) → same c.spelt w ≡ b → Found (directive_named cs w) (directive_named ds w) → Found (directive_named (c ∷ cs) w) (directive_named (d ∷ ds) w)
    go true e ih = let q : same d.spelt w ≡ true = rw (← k.word) e in rw (e, q, directive_named) (both k)
    go false e ih = let q : same d.spelt w ≡ false = rw (← k.word) e in rw (e, q, directive_named) ih

-- The rest of a directive's line, behind its word.
module _ (w : Leaf) where
  abbrev ending : Reader
  ending = skip_trivia then finish (λ t end. named_error ErrorKind.extra_tokens t.start end w ∷ [])

  steady_ending : Steady ending
  steady_ending = steady_then _ _ steady_trivia (steady_finish _)

  directive_step : (d : Directive) (us : List Leaf) → directive w d (w ∷ us) ≡ push w ((d.reads then ending) us)
  unfolding directive ◌then◌ bump ◌▹◌
  directive_step d us = refl

-- again: another lexing of the same bytes.
module _ (n : ℕ) (again : List Leaf → List Leaf) (recuts : (ts : List Leaf) → Recut (again ts) ts) where
  kin_include : (w : List ℕ) (k : ℕ) → Kin (record { spelt = w; node_kind = k; reads = pp_include n again }) (record { spelt = w; node_kind = k; reads = pp_include n id })
  unfolding pp_include id
  kin_include w k =
      let s : Steady (pp_body Kind.PP_INCLUDE_PATH) = steady_pp_body Kind.PP_INCLUDE_PATH in
      record {
        word = refl;
        kind = refl;
        tiles = λ ts. recut_twice (tiles_steady _ (again ts) (s (again ts))) (recuts ts);
        again = λ ts. (s (again ts)).again;
      }

  -- The fourteen.
  kins : Kins (directives n again) (directives n id)
  unfolding directives
  kins =
      kin_include _ _
      & kin_steady (steady_define n)
      & kin_steady (steady_if_ident n)
      & kin_steady (steady_pp_body _)
      & kin_steady (steady_pp_body _)
      & kin_steady (steady_pp_body _)
      & kin_steady (steady_version n)
      & kin_steady (steady_pp_body _)
      & kin_steady (steady_if_ident n)
      & kin_steady (steady_if_ident n)
      & kin_steady (steady_pp_body _)
      & kin_steady steady_nothing
      & kin_steady steady_nothing
      & kin_steady (steady_extension n)
      & done

  directive_retold : (t : Leaf) (c d : Directive) → Kin c d → (ts : List Leaf) → Retold (directive t d) (directive t c (t ∷ ts)) (t ∷ ts)
  directive_retold t c d k ts =
      let a : Got = c.reads ts in
      let s : SteadyAt (ending t) a.rest = steady_ending t a.rest in
      rw
      (directive_step t c ts)
      (retold_push
      t
      (directive t d)
      (d.reads then ending t)
      (directive_step t d)
      ((c.reads then ending t) ts)
      ts
      (tiles_then c.reads (ending t) ts (k.tiles ts) (tiles_steady (ending t) a.rest s))
      (again_then c.reads d.reads (ending t) (ending t) ts (k.again ts) s.again (starts_same (ending t a.rest) a.rest s.same)))

-- The kind of a line's node, whatever its errors; and of a group's.
abbrev pub always : ℕ → List Err → Option ℕ
always k es = some k

abbrev pub group_kind : List Err → Option ℕ
group_kind es = elim es [ [] ↦ none | e ∷ es ↦ some Kind.ERROR ]

-- What follows a HASH: one equation a case.
module _ (n : ℕ) (lex : List Leaf → List Leaf) where
  pub line_nil : control_line n lex [] ≡ lined (always Kind.ERROR) (nothing [])
  unfolding control_line
  line_nil = refl

  module _ (t : Leaf) where
    pub line_empty : newline_leaf t ≡ true → (us : List Leaf) → control_line n lex (t ∷ us) ≡ lined (always Kind.PP_EMPTY) (bump (t ∷ us))
    unfolding control_line
    line_empty a us = rw (a, control_line)

    pub line_group : newline_leaf t ≡ false → is Kind.LPAREN t ≡ true → (us : List Leaf) → control_line n lex (t ∷ us) ≡ lined group_kind ((bump then pp_rs_ident t 0) (t ∷ us))
    unfolding control_line
    line_group a b us = rw (a, b, control_line)

    pub line_word : (d : Directive) → newline_leaf t ≡ false → is Kind.LPAREN t ≡ false → directive_named (directives n lex) (unescaped t.bytes) ≡ some d
        → (us : List Leaf) → control_line n lex (t ∷ us) ≡ lined (always d.node_kind) (directive t d (t ∷ us))
    unfolding control_line
    line_word d a b c us = rw (a, b, c, control_line)

    pub line_unknown : newline_leaf t ≡ false → is Kind.LPAREN t ≡ false → directive_named (directives n lex) (unescaped t.bytes) ≡ none
        → (us : List Leaf) → control_line n lex (t ∷ us) ≡ lined (always Kind.ERROR) (unknown t (t ∷ us))
    unfolding control_line
    line_unknown a b c us = rw (a, b, c, control_line)

module _ (n : ℕ) (again : List Leaf → List Leaf) (recuts : (ts : List Leaf) → Recut (again ts) ts) where
  pub line_retold : (ts : List Leaf) → RetoldLine (control_line n id) (control_line n again ts) ts
  line_retold [] =
      let e : (us : List Leaf) → Heads [] us → control_line n id us ≡ lined (always Kind.ERROR) (nothing us) = heads_nil _ (line_nil n id) in
      rw (line_nil n again) (retold_lined (control_line n id) (always Kind.ERROR) nothing (nothing []) [] e (retold_steady nothing [] (steady_nothing [])))
  line_retold (t ∷ ts) = go (newline_leaf t) refl (is Kind.LPAREN t) refl
    where
      word : List ℕ
      word = unescaped t.bytes

      Goal : Type 0
      Goal = RetoldLine (control_line n id) (control_line n again (t ∷ ts)) (t ∷ ts)

      -- A case in which both read by steps of one sort.
      case : (k : List Err → Option ℕ) (r q : Reader) → control_line n again (t ∷ ts) ≡ lined k (r (t ∷ ts))
          → ((us : List Leaf) → control_line n id (t ∷ us) ≡ lined k (q (t ∷ us))) → Retold q (r (t ∷ ts)) (t ∷ ts) → Goal
      case k r q e i h = rw e (retold_lined (control_line n id) k q (r (t ∷ ts)) (t ∷ ts) (heads_cons (λ us. control_line n id us ≡ lined k (q us)) t ts i) h)

      search_word : newline_leaf t ≡ false → is Kind.LPAREN t ≡ false → (o o' : Option Directive) → directive_named (directives n again) word ≡ o → directive_named (directives n id) word ≡ o' → Found o o' → Goal
      search_word a b _ _ e e' neither =
          case (always Kind.ERROR) (unknown t) (unknown t) (line_unknown n again t a b e ts) (line_unknown n id t a b e') (retold_steady (unknown t) (t ∷ ts) (steady_unknown t (t ∷ ts)))
      search_word a b _ _ e e' (both {c} {d} k) =
          case
          (always d.node_kind)
          (directive t c)
          (directive t d)
          (rw (← k.kind) (line_word n again t c a b e ts))
          (line_word n id t d a b e')
          (directive_retold n again recuts t c d k ts)

      go : (a : Bool) → newline_leaf t ≡ a → (b : Bool) → is Kind.LPAREN t ≡ b → Goal
      go true a b eb = case (always Kind.PP_EMPTY) bump bump (line_empty n again t a ts) (line_empty n id t a) (retold_steady bump (t ∷ ts) (steady_bump (t ∷ ts)))
      go false a true b =
          let g : Reader = bump then pp_rs_ident t 0 in
          case group_kind g g (line_group n again t a b ts) (line_group n id t a b) (retold_steady g (t ∷ ts) (steady_then _ _ steady_bump (steady_group t 0) (t ∷ ts)))
      go false a false b = search_word a b _ _ refl refl (found (kins n again recuts) word)
