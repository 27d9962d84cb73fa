-- What follows a HASH and its trivia, by the leaf that is seen.
use Prim.Native.Nat.{ℕ}
use mathlib.Core.Path.{◌≡◌, refl, sym, ap, ◌∙◌}
use mathlib.Core.Bool.{Bool, true, false, true≢false}
use mathlib.Core.List.{List, [], ◌∷◌}
use mathlib.Core.Option.{Option, none, some}
use native.Mathlib.Omega.{arith}
use borrow.Author.Tests.{ne_eqb, eqb-true, eqb-false}
use lib.Dec.{eqb}
use Rattle.definition.specs.SyntaxKind.{Kind}
use Rattle.definition.specs.Unescaped.{unescaped}
use Rattle.definition.specs.Tree.{Leaf}
use Rattle.definition.specs.Error.{Err}
use Rattle.definition.specs.Parser.{is, newline_leaf, peek, Got, Reader}
use Rattle.definition.specs.Syntax.{Directive, directives, directive_named, Line, control_line}
use Rattle.theorems.proofs.Replay.Laws.{lined}
use Rattle.theorems.proofs.Replay.Lines.{group_kind, line_nil, line_empty, line_group, line_word, line_unknown}
use Rattle.parser.specs.declared.Seen.{Seen}
use Rattle.parser.specs.Rest.{leaf_seen, unread}
use Rattle.parser.proofs.Taking.{one_seen, peeked}
use Rattle.parser_run.proofs.Parts.{is_tested}
use Rattle.group.specs.Group.{group_at, none_met, closed, nodeless}

-- A group has no node exactly if it closes,
pub group_closed : (g : Got) → nodeless (lined group_kind g) ≡ closed g
group_closed g = go g.errs
  where
    go : (es : List Err) → nodeless (lined group_kind (record { tree = g.tree; errs = es; rest = g.rest })) ≡ none_met es
    go [] = refl
    go (e ∷ es) = refl

no_errors : (es : List Err) → none_met es ≡ true → es ≡ []
no_errors [] i = refl
no_errors (e ∷ es) i = absurd (true≢false (sym i))

-- and another line has one.
line_noded : (n : ℕ) (again : List Leaf → List Leaf) (ts : List Leaf) → peek (is Kind.LPAREN) ts ≡ false → nodeless (control_line n again ts) ≡ false
unfolding peek
line_noded n again [] b = rw (line_nil n again) refl
line_noded n again (t ∷ ts) b = go (newline_leaf t) refl (directive_named (directives n again) (unescaped t.bytes)) refl
  where
    go : (x : Bool) → newline_leaf t ≡ x → (o : Option Directive) → directive_named (directives n again) (unescaped t.bytes) ≡ o
        → nodeless (control_line n again (t ∷ ts)) ≡ false
    go true a o e = rw (line_empty n again t a ts) refl
    go false a (some d) e = rw (line_word n again t d a b e ts) refl
    go false a none e = rw (line_unknown n again t a b e ts) refl

-- A reader without its errors.
abbrev pub silent : Reader → Reader
silent p ts = record { tree = (p ts).tree; errs = []; rest = (p ts).rest }

-- By the leaf that is seen.
module _ (src : List ℕ) (x : Seen) (n : ℕ) (again : List Leaf → List Leaf) where
  abbrev line : Line
  line = control_line n again (unread src x)

  pub at_lparen : x.kind ≡ Kind.LPAREN → line ≡ lined group_kind (group_at src x (unread src x))
  at_lparen k = rw (one_seen src x (λ e. omega arith)) (line_group n again (leaf_seen src x) (rw k refl) (rw k refl) _)

  pub is_group : {b : Bool} → x.kind ≡ Kind.LPAREN → b ≡ closed (group_at src x (unread src x)) → b ≡ nodeless line
  is_group k e = e ∙ sym (group_closed (group_at src x (unread src x))) ∙ sym (ap nodeless (at_lparen k))

  no_lparen : (x.kind ≡ Kind.LPAREN → ⊥) → nodeless line ≡ false
  no_lparen k = line_noded n again (unread src x) (peeked (is_tested Kind.LPAREN (λ e. omega arith)) src x ∙ ne_eqb x.kind Kind.LPAREN k)

  pub no_group : (x.kind ≡ Kind.LPAREN → ⊥) → false ≡ nodeless line
  no_group k = sym (no_lparen k)

  -- Where there is no node an LPAREN is seen.
  pub group_lparen : {b : Bool} → b ≡ nodeless line → b ≡ true → x.kind ≡ Kind.LPAREN
  group_lparen q e = go (eqb x.kind Kind.LPAREN) refl
    where
      go : (a : Bool) → eqb x.kind Kind.LPAREN ≡ a → x.kind ≡ Kind.LPAREN
      go true a = eqb-true _ _ a
      go false a = absurd (true≢false (sym e ∙ q ∙ no_lparen (eqb-false _ _ a)))

  -- and a closed group is read, without errors.
  pub closed_at : {b : Bool} → b ≡ nodeless line → b ≡ true → line ≡ record { node_kind = none; got = silent (group_at src x) (unread src x) }
  closed_at q e =
      let k = group_lparen q e in
      let g : Got = group_at src x (unread src x) in
      at_lparen k
      ∙ ap (λ es. lined group_kind (record { tree = g.tree; errs = es; rest = g.rest })) (no_errors g.errs (sym (group_closed g) ∙ sym (ap nodeless (at_lparen k)) ∙ sym q ∙ e))
