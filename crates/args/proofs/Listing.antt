-- The loop over an argument list, and the node over it.
use Rattle.std.specs.Prelude.{if◌then◌else◌}
use Prim.Native.Nat.{ℕ, suc, ◌≤◌, ◌<◌}
use native.Mathlib.Omega.{arith}
use mathlib.Core.Path.{◌≡◌, refl, sym, ap, subst, ◌∙◌}
use mathlib.Core.Bool.{Bool, true, false, ◌||◌, not, or_assoc}
use mathlib.Core.List.{List, [], ◌∷◌, ◌++◌}
use borrow.Author.Tests.{eqb-false}
use lib.Dec.{eqb}
use lib.ListN.{length}
use Rattle.definition.specs.Text.{Kind}
use Rattle.definition.specs.Tree.{Leaf, Forest, nil, node, body_kind}
use Rattle.definition.specs.Error.{Err}
use Rattle.definition.specs.Parser.{trivia, after, peek, Got, Reader, ◌then◌, wrap, skip, skip_trivia, bump}
use Rattle.definition.specs.Syntax.{args, define_args}
use Rattle.theorems.specs.BodyRows.{ends}
use Rattle.theorems.specs.LeavesFrom.{leaves_from}
use Rattle.theorems.proofs.Combinators.{args_skip}
use Rattle.theorems.proofs.Grammar.Clean.{or_left, or_right, peek_after}
use Rattle.theorems.proofs.Items.{after_short}
use Rattle.tree.specs.Machine.{Open, Shut}
use Rattle.parser.specs.declared.Seen.{Seen}
use Rattle.parser.specs.Rest.{leaf_seen, unread}
use Rattle.parser.proofs.Taking.{one_seen}
use Rattle.parser_run.specs.declared.Parser.{Parser}
use Rattle.parser_run.specs.Reads.{Reads}
use Rattle.parser_run.specs.Parses.{source_of, stand_of, Kept, Parses, Leafs, Nodes}
use Rattle.parser_run.proofs.Laws.{bump_rowed, Toward, begun, toward_then, toward_end}
use Rattle.parser_run.proofs.Parsing.{kept_same, kept_then, same_source, along, leafs_parse, parses_then, parses_is, parses_wrap}
use Rattle.args.specs.Args.{dirty, closing, place, Lists}
use Rattle.args.proofs.Places.{args_goes, args_stops, place_rest}

-- Whether two readings meet an error.
dirty_then : (p q : Reader) (ts : List Leaf) → dirty ((p then q) ts) ≡ (dirty (p ts) || dirty (q (p ts).rest))
unfolding ◌then◌
dirty_then p q ts = go (p ts).errs (q (p ts).rest).errs
  where
    go : (a b : List Err) → (elim (a ++ b) [ [] ↦ false | e ∷ es ↦ true ]) ≡ ((elim a [ [] ↦ false | e ∷ es ↦ true ]) || (elim b [ [] ↦ false | e ∷ es ↦ true ]))
    go [] b = refl
    go (e ∷ a) b = refl

-- Where the loop stands: what is left to read, as a list from the place f on, leads to the end of the whole list, and with the errors so far to
-- whether it has one.
pub record Listing (f bad : Bool) (s s₀ : Parser) : Type 0 where
  pub kept : Kept s₀ s
  pub toward : Toward (source_of s₀) (args (length (source_of s₀)) f) (stand_of s) (args (length (source_of s₀)) true) (stand_of s₀)
  pub bad_is : (bad || dirty (args (length (source_of s₀)) f (unread (source_of s₀) s.state.run.seen)))
      ≡ dirty (args (length (source_of s₀)) true (unread (source_of s₀) s₀.state.run.seen))

pub list_start : (s : Parser) → Listing true false s s
list_start s = record { kept = kept_same s; toward = begun (args (length (source_of s)) true) (stand_of s); bad_is = refl }

-- Trivia, a place, and whether the list ends there.
module _ {f bad : Bool} {s₀ s s₁ s₂ : Parser} (k : Listing f bad s s₀) (y : Leafs skip_trivia s s₁) {x : Seen} (q : x ≡ s₁.state.run.seen)
    {now : Bool} (z : Lists (place (length (source_of s₁)) f) s₁ s₂ now) {b : Bool} (w : b ≡ (bad || now)) {c : Bool} (d : c ≡ closing x.kind) where
  abbrev src : List ℕ
  src = source_of s₀

  abbrev n : ℕ
  n = length src

  abbrev before : List Leaf
  before = unread src s.state.run.seen

  abbrev here : List Leaf
  here = unread src s₁.state.run.seen

  skipped : Reads src skip_trivia (stand_of s) (stand_of s₁)
  skipped = along k.kept (leafs_parse y).reads

  still : source_of s₁ ≡ src
  still = same_source (kept_then k.kept y.kept)

  placed : Reads src (place n f) (stand_of s₁) (stand_of s₂)
  placed = subst (λ l. Reads l (place (length l) f) (stand_of s₁) (stand_of s₂)) still z.parses.reads

  now_is : now ≡ dirty (place n f here)
  now_is = subst (λ l. now ≡ dirty (place (length l) f (unread l s₁.state.run.seen))) still z.bad_is

  rest_is : here ≡ after trivia before
  unfolding skip_trivia skip
  rest_is = skipped.gives.rest

  -- Trivia is no error.
  dirty_skip : dirty (args n f before) ≡ dirty (args n f here)
  unfolding ◌then◌ skip_trivia skip
  dirty_skip = ap (λ (g : Got). dirty g) (args_skip n f before) ∙ ap (λ l. dirty (args n f l)) (sym rest_is)

  closed : closing s₁.state.run.seen.kind ≡ c
  closed = ap (λ (u : Seen). closing u.kind) (sym q) ∙ sym d

  onward : Toward src (args n f) (stand_of s₁) (args n true) (stand_of s₀)
  onward = toward_then k.toward skipped (args_skip n f before)

  all_kept : Kept s₀ s₂
  all_kept = kept_then k.kept (kept_then y.kept z.parses.kept)

  pub list_end : c ≡ true → Lists (args n true) s₀ s₂ b
  list_end i =
      let e = args_stops src s₁.state.run.seen n f (closed ∙ i) in
      record {
        parses = record { kept = all_kept; reads = toward_end onward placed e };
        bad_is = w ∙ ap (λ j. bad || j) (now_is ∙ ap (λ (g : Got). dirty g) (sym e) ∙ sym dirty_skip) ∙ k.bad_is;
      }

  pub list_more : c ≡ false → Listing (not f) b s₂ s₀
  list_more i =
      let p : peek trivia here ≡ false = ap (peek trivia) rest_is ∙ peek_after trivia before in
      let e = args_goes src s₁.state.run.seen n f p (closed ∙ i) in
      let behind = unread src s₂.state.run.seen in
      let r : (now || dirty (args n (not f) behind)) ≡ dirty (args n f before) =
      ap (λ g. g || dirty (args n (not f) behind)) now_is ∙ ap (λ us. dirty (place n f here) || dirty (args n (not f) us)) placed.gives.rest
      ∙ sym (dirty_then (place n f) (args n (not f)) here) ∙ ap (λ (g : Got). dirty g) (sym e) ∙ sym dirty_skip in
      record {
        kept = all_kept;
        toward = toward_then onward placed e;
        bad_is = ap (λ g. g || dirty (args n (not f) behind)) w ∙ or_assoc bad now (dirty (args n (not f) behind)) ∙ ap (λ g. bad || g) r ∙ k.bad_is;
      }

  fewer : c ≡ false → length (unread src s₂.state.run.seen) < length before
  fewer i =
      let u : Seen = s₁.state.run.seen in
      let r : ends u.kind ≡ false = or_left (ends u.kind) (eqb u.kind Kind.RPAREN) (closed ∙ i) in
      let h = one_seen src u (eqb-false u.kind 0 (or_left (eqb u.kind 0) (eqb u.kind Kind.NEWLINE) r)) in
      let p : unread src s₂.state.run.seen ≡ leaves_from src u.end u.angle = placed.gives.rest ∙ ap (λ l. (place n f l).rest) h
      ∙ place_rest n f (leaf_seen src u) (leaves_from src u.end u.angle) (or_right (eqb u.kind 0) (eqb u.kind Kind.NEWLINE) r) in
      let g : suc (length (leaves_from src u.end u.angle)) ≤ length before = rw (← rest_is, h) at (after_short trivia before) in
      rw p (omega arith)

  pub list_fewer : c ≡ false → length (unread (source_of s₂) s₂.state.run.seen) < length (unread (source_of s) s.state.run.seen)
  list_fewer i = rw (same_source all_kept, same_source k.kept) (fewer i)

-- The node over it: ERROR if it has an error.
define_kind : (n : ℕ) (ts : List Leaf) (z : Bool) → dirty ((bump then args n true) ts) ≡ z
    → define_args n ts ≡ wrap (if z then Kind.ERROR else Kind.PP_DEFINE_ARGS) (bump then args n true) ts
unfolding define_args wrap
define_kind n ts z d = let a : Got = (bump then args n true) ts in go a.tree a.rest a.errs z d
  where
    go : (f : Forest) (r : List Leaf) (es : List Err) (y : Bool) → (elim es [ [] ↦ false | e ∷ es' ↦ true ]) ≡ y
        → ◌≡◌ {A = Got} (record { tree = node (elim es [ [] ↦ Kind.PP_DEFINE_ARGS | e ∷ es' ↦ Kind.ERROR ]) f nil; errs = es; rest = r })
        (record { tree = node (if y then Kind.ERROR else Kind.PP_DEFINE_ARGS) f nil; errs = es; rest = r })
    go f r [] y e = rw (← e) refl
    go f r (x ∷ xs) y e = rw (← e) refl

no_body : (z : Bool) {k : ℕ} → k ≡ (if z then Kind.ERROR else Kind.PP_DEFINE_ARGS) → body_kind k ≡ false
no_body true e = rw e refl
no_body false e = rw e refl

module _ {s s₁ s₂ s₃ : Parser} {bad : Bool} (x : Nodes Open s s₁) (y : Leafs bump s₁ s₂) (z : Lists (args (length (source_of s₂)) true) s₂ s₃ bad) where
  abbrev from : List ℕ
  from = source_of s

  both : Parses (bump then args (length from) true) s₁ s₃
  both = parses_then (leafs_parse y) (subst (λ l. Parses (args (length l) true) s₂ s₃) (same_source (kept_then x.kept y.kept)) z.parses)

  bad_whole : dirty ((bump then args (length from) true) (unread from s.state.run.seen)) ≡ bad
  bad_whole =
      let us = unread from s.state.run.seen in
      let e : bad ≡ dirty (args (length from) true (unread from s₂.state.run.seen)) =
      subst (λ l. bad ≡ dirty (args (length l) true (unread l s₂.state.run.seen))) (same_source (kept_then x.kept y.kept)) z.bad_is in
      let r : Reads from bump (stand_of s₁) (stand_of s₂) = along x.kept (leafs_parse y).reads in
      let h : unread from s₂.state.run.seen ≡ (bump us).rest = r.gives.rest ∙ ap (λ u. (bump (unread from u)).rest) x.moves.seen in
      dirty_then bump (args (length from) true) us ∙ rw (bump_rowed.errs us) (ap (λ ts. dirty (args (length from) true ts)) (sym h) ∙ sym e)

  pub define_node : {s₄ : Parser} {kind : ℕ} → kind ≡ (if bad then Kind.ERROR else Kind.PP_DEFINE_ARGS) → Nodes (Shut kind) s₃ s₄
      → Parses (define_args (length from)) s s₄
  define_node {kind = kind} i w =
      let v = define_kind (length from) (unread from s.state.run.seen) bad bad_whole in
      parses_is (parses_wrap (no_body bad i) x both w) (v ∙ rw i refl)
