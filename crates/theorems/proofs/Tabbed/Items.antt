-- Directives, items and whole sources with tabs in place of vertical tabs.
use Rattle.std.specs.Prelude.{if◌then◌else◌}
use Prim.Native.Nat.{ℕ, zero, suc}
use mathlib.Core.Path.{◌≡◌, refl, ap, ap₂, sym, ◌∙◌}
use mathlib.Core.Bool.{Bool, true, false}
use mathlib.Core.List.{List, [], ◌∷◌, ◌++◌, map-append}
use mathlib.Core.Option.{Option, none, some}
use lib.ListN.{length, length-map}
use Rattle.definition.specs.Text.{ascii}
use Rattle.definition.specs.SyntaxKind.{Kind}
use Rattle.definition.specs.Unescaped.{unescaped}
use Rattle.definition.specs.Glue.{tokens}
use Rattle.definition.specs.Tree.{Leaf, placed, bytes, Forest, nil, node, row, ◌▹◌}
use Rattle.definition.specs.Parser.{is, trivia, newline_leaf, inline, while, after, peek, Got, ◌then◌, wrap, skip, skip_trivia, nothing, bump}
use Rattle.definition.specs.Syntax.{trimmed, pp_body, pp_include, Directive, directives, directive_named, directive, unknown, pp_rs_ident, Line, control_line, hash_item, item, file, relexed, parse, parse_define_body}
use Rattle.theorems.specs.Tabbed.{as_tab, tabbed, tabbed_leaf, tabbed_row, tabbed_forest, tabbed_got}
use Rattle.theorems.proofs.Named.{All, done, ◌&◌, Found, unnamed, one, found}
use Rattle.theorems.proofs.Replay.Laws.{shut}
use Rattle.theorems.proofs.Replay.Lines.{line_nil, line_empty, line_group, line_word, line_unknown}
use Rattle.theorems.proofs.Tabbed.Tokens.{apart, same_tabbed, tokens_tabbed, leaves_tabbed, unescaped_tabbed}
use Rattle.theorems.proofs.Tabbed.Readers.{TabbedAs, Tabbed, if_as, stop_tabbed, forest-▹, forest_row, while_tabbed, after_tabbed, peek_tabbed, then_tabbed_as, then_tabbed, wrap_tabbed, skip_tabbed, trivia_tabbed, nothing_tabbed, bump_tabbed, row_tabbed, trimmed_tabbed, pp_body_tabbed, define_tabbed, if_ident_tabbed, version_tabbed, extension_tabbed, finish_tabbed, group_tabbed}

-- The bytes of leaves, and lexing them again.
bytes_tabbed : (ts : List Leaf) → bytes (tabbed_row ts) ≡ tabbed (bytes ts)
unfolding bytes
bytes_tabbed [] = refl
bytes_tabbed (t ∷ ts) = ap (λ l. tabbed t.bytes ++ l) (bytes_tabbed ts) ∙ sym (map-append as_tab t.bytes (bytes ts))

relexed_tabbed : (ts : List Leaf) → relexed (tabbed_row ts) ≡ tabbed_row (relexed ts)
unfolding relexed
relexed_tabbed [] = refl
relexed_tabbed (t ∷ ts) =
    let bs : List ℕ = bytes (t ∷ ts) in
    ap (λ l. placed t.start (tokens true l)) (bytes_tabbed (t ∷ ts)) ∙ ap (placed t.start) (tokens_tabbed true bs) ∙ leaves_tabbed t.start (tokens true bs)

-- A directive that reads so, and whose word holds neither tab.
record TabbedDirective (d : Directive) : Type 0 where
  reads : Tabbed d.reads
  word : apart d.spelt ≡ true

named_tabbed : {ds : List Directive} → All TabbedDirective ds → (w : List ℕ) → directive_named ds (tabbed w) ≡ directive_named ds w
unfolding directive_named
named_tabbed done w = refl
named_tabbed (◌&◌ {d} {ds} o os) w = rw ((same_tabbed w d.spelt o.word).1, named_tabbed os w) refl

module _ (n : ℕ) where
  include_tabbed : Tabbed (pp_include n relexed)
  unfolding pp_include
  include_tabbed ts = ap (pp_body Kind.PP_INCLUDE_PATH) (relexed_tabbed ts) ∙ pp_body_tabbed Kind.PP_INCLUDE_PATH (relexed ts)

  -- The fourteen.
  all_tabbed : All TabbedDirective (directives n relexed)
  unfolding directives apart ascii
  all_tabbed =
      record { reads = include_tabbed; word = refl }
      & record { reads = define_tabbed n; word = refl }
      & record { reads = if_ident_tabbed n; word = refl }
      & record { reads = pp_body_tabbed _; word = refl }
      & record { reads = pp_body_tabbed _; word = refl }
      & record { reads = pp_body_tabbed _; word = refl }
      & record { reads = version_tabbed n; word = refl }
      & record { reads = pp_body_tabbed _; word = refl }
      & record { reads = if_ident_tabbed n; word = refl }
      & record { reads = if_ident_tabbed n; word = refl }
      & record { reads = pp_body_tabbed _; word = refl }
      & record { reads = nothing_tabbed; word = refl }
      & record { reads = nothing_tabbed; word = refl }
      & record { reads = extension_tabbed n; word = refl }
      & done

-- The line of a word.
directive_tabbed : (w : Leaf) (d : Directive) → Tabbed d.reads → TabbedAs (directive w d) (directive (tabbed_leaf w) d)
unfolding directive
directive_tabbed w d h ts =
    rw (stop_tabbed w) (then_tabbed _ _ bump_tabbed (then_tabbed _ _ h (then_tabbed _ _ trivia_tabbed (finish_tabbed _ (λ t end. refl)))) ts)

unknown_tabbed : (w : Leaf) → TabbedAs (unknown w) (unknown (tabbed_leaf w))
unfolding unknown
unknown_tabbed w ts = rw (stop_tabbed w, finish_tabbed (λ t end. []) (λ t end. refl) ts) refl

abbrev tabbed_line : Line → Line
tabbed_line l = record { node_kind = l.node_kind; got = tabbed_got l.got }

shut_tabbed : (a b : Forest) (l : Line) → shut (λ c. tabbed_forest a ▹ tabbed_forest b ▹ c) (tabbed_line l) ≡ tabbed_got (shut (λ c. a ▹ b ▹ c) l)
unfolding tabbed_forest
shut_tabbed a b l = go l.node_kind
  where
    c : Forest
    c = l.got.tree

    e : tabbed_forest a ▹ tabbed_forest b ▹ tabbed_forest c ≡ tabbed_forest (a ▹ b ▹ c)
    e = ap (λ x. tabbed_forest a ▹ x) (sym (forest-▹ b c)) ∙ sym (forest-▹ a (b ▹ c))

    go : (o : Option ℕ) → shut (λ c. tabbed_forest a ▹ tabbed_forest b ▹ c) (record { node_kind = o; got = tabbed_got l.got }) ≡ tabbed_got (shut (λ c. a ▹ b ▹ c) (record { node_kind = o; got = l.got }))
    go none = ap (λ x. record { tree = x; errs = l.got.errs; rest = tabbed_row l.got.rest }) e
    go (some k) = ap (λ x. record { tree = node k x nil; errs = l.got.errs; rest = tabbed_row l.got.rest }) e

module _ (n : ℕ) where
  line_tabbed : (ts : List Leaf) → control_line n relexed (tabbed_row ts) ≡ tabbed_line (control_line n relexed ts)
  unfolding nothing tabbed_forest
  line_tabbed [] = rw (line_nil n relexed) refl
  line_tabbed (t ∷ ts) = go (newline_leaf t) refl (is Kind.LPAREN t) refl
    where
      u : Leaf
      u = tabbed_leaf t

      word : Option Directive
      word = directive_named (directives n relexed) (unescaped t.bytes)

      again : directive_named (directives n relexed) (unescaped (tabbed t.bytes)) ≡ word
      again = ap (directive_named (directives n relexed)) (unescaped_tabbed t.bytes) ∙ named_tabbed (all_tabbed n) (unescaped t.bytes)

      named : newline_leaf t ≡ false → is Kind.LPAREN t ≡ false → (o : Option Directive) → word ≡ o → Found TabbedDirective o
          → control_line n relexed (tabbed_row (t ∷ ts)) ≡ tabbed_line (control_line n relexed (t ∷ ts))
      named a b _ e unnamed = rw (line_unknown n relexed t a b e ts, line_unknown n relexed u a b (again ∙ e) (tabbed_row ts), unknown_tabbed t (t ∷ ts)) refl
      named a b _ e (one {d} p) =
          rw (line_word n relexed t d a b e ts, line_word n relexed u d a b (again ∙ e) (tabbed_row ts), directive_tabbed t d p.reads (t ∷ ts)) refl

      go : (a : Bool) → newline_leaf t ≡ a → (b : Bool) → is Kind.LPAREN t ≡ b → control_line n relexed (tabbed_row (t ∷ ts)) ≡ tabbed_line (control_line n relexed (t ∷ ts))
      go true a b eb = rw (line_empty n relexed t a ts, line_empty n relexed u a (tabbed_row ts), bump_tabbed (t ∷ ts)) refl
      go false a true b =
          rw (line_group n relexed t a b ts, line_group n relexed u a b (tabbed_row ts), then_tabbed_as bump bump (pp_rs_ident t 0) (pp_rs_ident u 0) bump_tabbed (group_tabbed t 0) (t ∷ ts)) refl
      go false a false b = named a b word refl (found (all_tabbed n) (unescaped t.bytes))

  hash_tabbed : (before ts : List Leaf) → hash_item n relexed (tabbed_row before) (tabbed_row ts) ≡ tabbed_got (hash_item n relexed before ts)
  unfolding hash_item
  hash_tabbed before ts =
      let h : Got = (bump then skip_trivia) ts in
      ap (λ g. shut (λ c. row (tabbed_row before) ▹ g.tree ▹ c) (control_line n relexed g.rest)) (then_tabbed bump skip_trivia bump_tabbed trivia_tabbed ts)
      ∙ ap₂ (λ r l. shut (λ c. r ▹ tabbed_forest h.tree ▹ c) l) (forest_row before) (line_tabbed h.rest)
      ∙ shut_tabbed (row before) h.tree (control_line n relexed h.rest)

  item_tabbed : Tabbed (item n relexed)
  unfolding item
  item_tabbed ts =
      rw
      (while_tabbed trivia (λ t. refl) ts, after_tabbed trivia (λ t. refl) ts, peek_tabbed (is Kind.HASH) (λ t. refl) (after trivia ts), hash_tabbed (while trivia ts) (after trivia ts), then_tabbed skip_trivia (skip inline then bump) trivia_tabbed (then_tabbed (skip inline) bump (skip_tabbed inline (λ t. refl)) bump_tabbed) ts)
      (if_as tabbed_got (peek (is Kind.HASH) (after trivia ts)) _ _)

  file_tabbed : (f : ℕ) → Tabbed (file n relexed f)
  unfolding file
  file_tabbed zero ts = rw (forest_row ts) refl
  file_tabbed (suc f) [] = nothing_tabbed []
  file_tabbed (suc f) (t ∷ ts) = then_tabbed (item n relexed) (λ us. file n relexed f us) item_tabbed (file_tabbed f) (t ∷ ts)

-- The reading of a source, and of a body.
row_of : (src : List ℕ) → placed 0 (tokens false (tabbed src)) ≡ tabbed_row (placed 0 (tokens false src))
row_of src = ap (placed 0) (tokens_tabbed false src) ∙ leaves_tabbed 0 (tokens false src)

pub parse_tabbed : (src : List ℕ) → parse (tabbed src) ≡ tabbed_got (parse src)
unfolding parse
parse_tabbed src =
    ap₂ (λ n l. wrap Kind.ROOT (file n relexed n) l) (length-map src as_tab) (row_of src)
    ∙ wrap_tabbed Kind.ROOT (file (length src) relexed (length src)) (file_tabbed (length src) (length src)) (placed 0 (tokens false src))

pub define_body_tabbed : (src : List ℕ) → parse_define_body (tabbed src) ≡ tabbed_forest (parse_define_body src)
unfolding parse_define_body tabbed_forest
define_body_tabbed src =
    let line : List Leaf = while inline (placed 0 (tokens false src)) in
    rw (row_of src, while_tabbed inline (λ t. refl) (placed 0 (tokens false src)), trimmed_tabbed line, row_tabbed (trimmed line)) refl
