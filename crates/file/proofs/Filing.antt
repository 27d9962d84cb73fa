-- The loop over items: what leads to the end from where it stands leads there from where it began.
use Prim.Native.Nat.{ℕ, ◌<◌}
use mathlib.Core.Path.{◌≡◌, ap, sym, subst, ◌∙◌}
use mathlib.Core.List.{List, []}
use lib.ListN.{length}
use Rattle.definition.specs.Tree.{bytes}
use Rattle.definition.specs.Parser.{nothing}
use Rattle.definition.specs.Syntax.{relexed}
use Rattle.theorems.proofs.Items.{items_none}
use Rattle.parser.specs.Rest.{unread, Held}
use Rattle.parser.proofs.Taking.{none_seen}
use Rattle.parser_run.specs.declared.Parser.{Parser}
use Rattle.parser_run.specs.Reads.{unread_at}
use Rattle.parser_run.specs.Parses.{source_of, stand_of, Kept, Parses}
use Rattle.parser_run.proofs.Laws.{reads_is, reads_nothing, Toward, begun, toward_then}
use Rattle.parser_run.proofs.Parsing.{kept_same, kept_then, same_source}
use Rattle.file.specs.Ground.{Grounded}
use Rattle.file.specs.Advance.{items_of, Advances, Proceeds}
use Rattle.file.proofs.Grounds.{grounded}

pub record Filing (s₀ s : Parser) : Type 0 where
  pub kept : Kept s₀ s
  pub toward : Toward (source_of s₀) (items_of (source_of s₀)) (stand_of s) (items_of (source_of s₀)) (stand_of s₀)
  pub ground : Grounded (source_of s₀) (stand_of s)

pub filing_start : (s : Parser) → Grounded (source_of s) (stand_of s) → Filing s s
filing_start s d = record { kept = kept_same s; toward = begun (items_of (source_of s)) (stand_of s); ground = d }

module _ {s₀ s : Parser} (k : Filing s₀ s) where
  -- Some items more.
  module _ {s' : Parser} (p : Proceeds s s') where
    pub filing_more : Filing s₀ s'
    filing_more =
        let a : Advances (source_of s₀) (stand_of s) (stand_of s') = subst (λ l. Advances l (stand_of s) (stand_of s')) (same_source k.kept) p.advances in
        record { kept = kept_then k.kept p.kept; toward = toward_then k.toward a.reads a.others; ground = grounded k.ground a.fitting a.reads.gives }

    pub filing_fewer : length (bytes (unread (source_of s') s'.state.run.seen)) < length (bytes (unread (source_of s) s.state.run.seen))
    filing_fewer =
        let n : length (bytes (unread (source_of s) s'.state.run.seen)) < length (bytes (unread (source_of s) s.state.run.seen))
        = rw p.advances.reads.gives.rest p.advances.fitting.fewer in
        subst (λ l. length (bytes (unread l s'.state.run.seen)) < length (bytes (unread (source_of s) s.state.run.seen))) (sym (same_source p.kept)) n

  -- Nothing is left.
  pub filing_end : s.state.run.seen.kind ≡ 0 → Parses (items_of (source_of s₀)) s₀ s
  filing_end z =
      let src : List ℕ = source_of s₀ in
      let h : Held src s.state.run.seen = subst (λ l. Held l s.state.run.seen) (same_source k.kept) s.held in
      let none : unread_at src (stand_of s) ≡ [] = none_seen src s.state.run.seen z in
      record {
        kept = k.kept;
        reads = k.toward.go (stand_of s) (reads_is (reads_nothing (stand_of s) h) (ap (items_of src) none ∙ items_none (length src) relexed ∙ ap nothing (sym none)));
      }

  -- Or there is an item: what its reader asks.
  pub filing_ground : Grounded (source_of s) (stand_of s)
  filing_ground = subst (λ l. Grounded l (stand_of s)) (sym (same_source k.kept)) k.ground
