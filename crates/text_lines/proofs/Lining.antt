-- Leaves of text lines go to the writer, one after another.
use Prim.Native.Nat.{ℕ, ◌≤◌, ◌<◌}
use mathlib.Core.Path.{◌≡◌, refl, ◌∙◌}
use mathlib.Core.Bool.{Bool, true, false}
use mathlib.Core.List.{List, [], ◌∷◌}
use native.Mathlib.Omega.{arith}
use lib.ListN.{length}
use borrow.Author.Tests.{eqb-true, eq-eqb}
use mir.Val.{Fits}
use mir.Syntax.{w32, w64}
use Rattle.definition.specs.SyntaxKind.{Kind}
use Rattle.definition.specs.Tree.{Leaf}
use Rattle.definition.specs.Parser.{newline_leaf}
use Rattle.theorems.specs.LeavesFrom.{leaves_from}
use Rattle.theorems.specs.TextLines.{Lines}
use Rattle.theorems.proofs.LeavesFrom.{leaves_over}
use Rattle.theorems.proofs.TextLines.{lines_end, lines_stop, lines_inline, lines_newline}
use Rattle.tree.specs.Machine.{sheet, leafed, leafs}
use Rattle.tree.specs.declared.Pen.{Pen}
use Rattle.parser.specs.declared.Seen.{Seen}
use Rattle.parser.specs.declared.Run.{Run}
use Rattle.parser.specs.Rest.{leaf_seen, unread, Held, Sees}
use Rattle.text_lines.specs.Lines.{Going, Lined}
use Rattle.parser.proofs.Taking.{none_seen, one_seen}

-- At the end of the source no leaf is left.
lined_end : (src t : List ℕ) (p : Pen) (i : ℕ) (f : Bool) → length src ≤ i
    → Lined src (leaves_from src i f) t p t (record { seen = record { kind = 0; start = i; end = i; angle = f }; pen = p })
unfolding leafs Held
lined_end src t p i f h =
    let s : Seen = record { kind = 0; start = i; end = i; angle = f } in
    record { taken = []; tree = refl; lines = rw (leaves_over src i f h, none_seen src s refl) lines_end; held = λ n. absurd (n refl); some = rw (leaves_over src i f h) (λ z. z) }

-- A leaf that is seen, and what follows it: b says whether text goes on.
module _ (src : List ℕ) (x : Seen) (n : x.kind ≡ 0 → ⊥) (k : Held src x) (t t₁ : List ℕ) (p p₁ : Pen)
    (w : sheet t₁ p₁ ≡ leafed x.kind x.start x.end (sheet t p)) (b : Bool) (g : Going src x.kind x.end b) where
  abbrev first : Leaf
  first = leaf_seen src x

  abbrev behind : List Leaf
  behind = leaves_from src x.end x.angle

  pub lined_more : (t' : List ℕ) (r : Run) → b ≡ true → Lined src behind t₁ p₁ t' r → Lined src (unread src x) t p t' r
  unfolding leafs Held
  lined_more t' r e l =
      rw (one_seen src x n) (record { taken = first ∷ l.taken; tree = l.tree ∙ rw (w, (k n).0) refl; lines = go (newline_leaf first) refl; held = l.held; some = λ z. omega arith })
    where
      go : (u : Bool) → newline_leaf first ≡ u → Lines (first ∷ l.taken) (first ∷ behind) (unread src r.seen)
      go true z = lines_newline first behind l.taken (unread src r.seen) l.lines z ((g.on e (eqb-true _ _ z)).text x.angle)
      go false z = lines_inline first behind l.taken (unread src r.seen) l.lines z

  pub lined_stop : (m : Seen) → b ≡ false → Sees src x.end x.angle m → Lined src (unread src x) t p t₁ (record { seen = m; pen = p₁ })
  unfolding leafs Held
  lined_stop m e s = rw (one_seen src x n) (record {
    taken = first ∷ [];
    tree = rw (k n).0 w;
    lines = rw s.rest (lines_stop first behind (eq-eqb x.kind Kind.NEWLINE (g.off e)));
    held = s.held;
    some = λ z. omega arith;
  })

-- What leads to the end from where the loop stands leads there from where it began.
pub record Toward (src : List ℕ) (before : List Leaf) (t₀ : List ℕ) (p₀ : Pen) (i : ℕ) (f : Bool) (t : List ℕ) (p : Pen) : Type 0 where
  pub go : (t' : List ℕ) (r : Run) → Lined src (leaves_from src i f) t p t' r → Lined src before t₀ p₀ t' r
  pub long : length t ≡ length t₀
  pub place : Fits w32 i

pub toward_start : (src t : List ℕ) (p : Pen) (i : ℕ) (f : Bool) → Fits w32 i → Toward src (leaves_from src i f) t p i f t p
toward_start src t p i f h = record { go = λ t' r l. l; long = refl; place = h }

module _ (src : List ℕ) (before : List Leaf) (t₀ : List ℕ) (p₀ : Pen) (i : ℕ) (f : Bool) (t : List ℕ) (p : Pen) (k : Toward src before t₀ p₀ i f t p) where
  pub toward_end : length src ≤ i → Lined src before t₀ p₀ t (record { seen = record { kind = 0; start = i; end = i; angle = f }; pen = p })
  toward_end h = k.go t _ (lined_end src t p i f h)

  pub toward_place : Fits w64 i
  toward_place = omega (arith, k.place)

  pub toward_long : length t ≡ length t₀
  toward_long = k.long

  module _ (h : i < length src) (x : Seen) (s : Sees src i f x) where
    some_leaf : x.kind ≡ 0 → ⊥
    some_leaf z = omega (arith, (s.over z).1)

    pub toward_fewer : length (leaves_from src x.end x.angle) < length (leaves_from src i f)
    toward_fewer = rw (← s.rest, one_seen src x some_leaf) (omega arith)

    module _ (t₁ : List ℕ) (p₁ : Pen) (w : sheet t₁ p₁ ≡ leafed x.kind x.start x.end (sheet t p)) (b : Bool) (g : Going src x.kind x.end b) where
      pub toward_more : b ≡ true → length t₁ ≡ length t → Fits w32 x.end → Toward src before t₀ p₀ x.end x.angle t₁ p₁
      toward_more e l h = record {
        go = λ t' r d. k.go t' r (rw (← s.rest) (lined_more src x some_leaf s.held t t₁ p p₁ w b g t' r e d));
        long = l ∙ k.long;
        place = h;
      }

      pub toward_stop : (m : Seen) → b ≡ false → Sees src x.end x.angle m → Lined src before t₀ p₀ t₁ (record { seen = m; pen = p₁ })
      toward_stop m e d = k.go t₁ _ (rw (← s.rest) (lined_stop src x some_leaf s.held t t₁ p p₁ w b g m e d))
