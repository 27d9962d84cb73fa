-- Methods of a parser, one after the other.
use Prim.Native.Nat.{ℕ}
use mathlib.Core.Path.{◌≡◌, refl, ap, subst, ◌∙◌}
use mathlib.Core.Bool.{Bool, true, false}
use mathlib.Core.List.{[]}
use lib.ListN.{length}
use Rattle.definition.specs.Text.{Kind}
use Rattle.definition.specs.Tree.{body_kind}
use Rattle.definition.specs.Error.{Err}
use Rattle.definition.specs.Parser.{inline, raise, Reader, ◌then◌, wrap, bump, maybe, expect_one}
use Rattle.theorems.specs.BodyRows.{ends}
use Rattle.tree.specs.Machine.{Open, Shut}
use Rattle.error.specs.Log.{met, fault_of}
use Rattle.error.specs.declared.Fault.{Fault}
use Rattle.parser.specs.declared.Seen.{Seen}
use Rattle.parser.specs.Rest.{unread}
use Rattle.parser.specs.declared.source.Source.{Source}
use Rattle.parser_run.specs.declared.Parser.{Parser}
use Rattle.parser_run.specs.Reads.{Stand, stand, Reads}
use Rattle.parser_run.specs.Faults.{missing_fault}
use Rattle.parser_run.specs.Expects.{passes, expect_any}
use Rattle.parser_run.specs.Parses.{source_of, stand_of, Kept, Parses, Leafs, Nodes, Faults, Finds}
use Rattle.parser_run.proofs.Laws.{reads_is, reads_then, reads_wrap, reads_raise}
use Rattle.parser_run.proofs.Parts.{inline_none, inline_bump, expect_here, expect_other, any_found, any_missed}

pub kept_same : (s : Parser) → Kept s s
kept_same s = record { source = refl; table = refl; levels = refl; errors = refl; room = refl; errors_room = refl }

pub kept_then : {s s' s'' : Parser} → Kept s s' → Kept s' s'' → Kept s s''
kept_then x y = record {
  source = y.source ∙ x.source;
  table = y.table ∙ x.table;
  levels = y.levels ∙ x.levels;
  errors = y.errors ∙ x.errors;
  room = y.room ∙ x.room;
  errors_room = y.errors_room ∙ x.errors_room;
}

-- The same bytes are read.
pub same_source : {s s' : Parser} → Kept s s' → source_of s' ≡ source_of s
same_source k = ap (λ (c : Source). c.src.now) k.source

-- A reading that begins elsewhere, of the same bytes.
pub along : {p : Reader} {s s' : Parser} {m m' : Stand} → Kept s s' → Reads (source_of s') p m m' → Reads (source_of s) p m m'
along {p} {m = m} {m' = m'} k r = subst (λ l. Reads l p m m') (same_source k) r

-- A method that writes leaves alone reads.
pub leafs_parse : {p : Reader} {s s' : Parser} → Leafs p s s' → Parses p s s'
leafs_parse {p} {s} {s'} x =
    let r : Reads (source_of s) p (stand_of s) (stand s'.table.now s.levels.now s.errors.now s'.state) = x.took.reads s.levels.now s.errors.now in
    record { kept = x.kept; reads = rw (x.levels, x.errors) r }

pub finds_parse : {a b : ℕ} {s s' : Parser} {found : Bool} → Finds a b s s' found → Parses (expect_any (length (source_of s)) a b) s s'
finds_parse {s = s} x = record { kept = x.kept; reads = rw x.levels (x.expects.flat.reads s.levels.now) }

-- One reading after another,
pub parses_then : {p q : Reader} {s s' s'' : Parser} → Parses p s s' → Parses q s' s'' → Parses (p then q) s s''
parses_then {q = q} {s = s} {s' = s'} {s'' = s''} x y =
    let r : Reads (source_of s) q (stand_of s') (stand_of s'') = along x.kept y.reads in
    record { kept = kept_then x.kept y.kept; reads = reads_then x.reads r }

-- another reader that gets the same,
pub parses_is : {p q : Reader} {s s' : Parser} → Parses q s s' → p (unread (source_of s) s.state.run.seen) ≡ q (unread (source_of s) s.state.run.seen) → Parses p s s'
parses_is x e = record { kept = x.kept; reads = reads_is x.reads e }

-- and a node over a reading.
pub parses_wrap : {k : ℕ} {p : Reader} {s s₁ s₂ s₃ : Parser} → body_kind k ≡ false → Nodes Open s s₁ → Parses p s₁ s₂ → Nodes (Shut k) s₂ s₃ → Parses (wrap k p) s s₃
parses_wrap {k} {p} {s} {s₁} {s₂} {s₃} b x y z =
    let r : Reads (source_of s) p (stand s₁.table.now s₁.levels.now s.errors.now s₁.state) (stand_of s₂) = rw (← x.errors) (along x.kept y.reads) in
    record { kept = kept_then x.kept (kept_then y.kept z.kept); reads = rw z.errors (reads_wrap b x.moves r z.moves) }

-- An error of a reading that meets no other, logged behind it.
pub parses_raise : {p : Reader} {s s₁ s₂ : Parser} (x : Err) → (p (unread (source_of s) s.state.run.seen)).errs ≡ [] → Parses p s s₁ → Faults (fault_of x) s₁ s₂
    → Parses (λ ts. raise x (p ts)) s s₂
parses_raise x e y l = record { kept = kept_then y.kept l.kept; reads = rw (l.table, l.levels) (reads_raise x e y.reads l.logs) }

pub node_parses : {k : ℕ} {s s₁ s₂ s₃ : Parser} → body_kind k ≡ false → Nodes Open s s₁ → Leafs bump s₁ s₂ → Nodes (Shut k) s₂ s₃ → Parses (wrap k bump) s s₃
node_parses b x y z = parses_wrap b x (leafs_parse y) z

-- The leaf is taken unless it is a NEWLINE.
pub inline_leafs : {s s' : Parser} {b : Bool} → b ≡ ends s.state.run.seen.kind → b ≡ false → Leafs bump s s' → Leafs (maybe inline bump) s s'
inline_leafs d e y = record { kept = y.kept; took = inline_bump refl d e y.took; levels = y.levels; errors = y.errors }

pub inline_stays : {s : Parser} {b : Bool} → b ≡ ends s.state.run.seen.kind → b ≡ true → Leafs (maybe inline bump) s s
inline_stays {s} d e = record { kept = kept_same s; took = inline_none refl d s.held e; levels = refl; errors = refl }

-- A leaf of kind k,
pub one_parses : {k : ℕ} {s s' : Parser} {x : Seen} → x ≡ s.state.run.seen → (k ≡ 0 → ⊥) → x.kind ≡ k → Leafs bump s s' → Parses (expect_one (length (source_of s)) k) s s'
one_parses {k} {s} {s'} g z i y =
    let r : Reads (source_of s) (expect_one (length (source_of s)) k) (stand_of s) (stand s'.table.now s.levels.now s.errors.now s'.state) = expect_here g z i y.took in
    record { kept = y.kept; reads = rw (y.levels, y.errors) r }

pub other_parses : {k : ℕ} {s s₁ s₂ : Parser} {x : Seen} {f : Fault} → x ≡ s.state.run.seen → (k ≡ 0 → ⊥) → (x.kind ≡ k → ⊥)
    → Parses (wrap Kind.ERROR bump) s s₁ → f ≡ missing_fault (length (source_of s₁)) x k 0 → Faults (met f) s₁ s₂ → Parses (expect_one (length (source_of s)) k) s s₂
other_parses {k} {s} {s₁} {s₂} {x} {f} g z i y q l =
    let h : f ≡ missing_fault (length (source_of s)) x k 0 = q ∙ ap (λ b. missing_fault (length b) x k 0) (same_source y.kept) in
    record { kept = kept_then y.kept l.kept; reads = rw (l.table, l.levels) (expect_other g z s.held i y.reads h l.logs) }

-- or of kind a or b.
module _ {a b : ℕ} {s s₁ : Parser} {x : Seen} (g : x ≡ s.state.run.seen) {found : Bool} (p : found ≡ passes a b x.kind) (w : Leafs (maybe inline bump) s s₁) where
  pub any_finds : found ≡ true → Finds a b s s₁ true
  any_finds i = record { kept = w.kept; expects = rw w.errors (any_found g p w.took i); levels = w.levels }

  pub any_misses : {f : Fault} {s₂ : Parser} → found ≡ false → f ≡ missing_fault (length (source_of s₁)) x a b → Faults (met f) s₁ s₂ → Finds a b s s₂ false
  any_misses {f} {s₂} i q l =
      let h : f ≡ missing_fault (length (source_of s)) x a b = q ∙ ap (λ c. missing_fault (length c) x a b) (same_source w.kept) in
      record { kept = kept_then w.kept l.kept; expects = rw l.table (any_missed g p w.took s.held i h (rw w.errors at l.logs)); levels = l.levels ∙ w.levels }
