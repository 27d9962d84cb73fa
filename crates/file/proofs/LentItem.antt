-- An item that is read into the unused tail of the table is read into the table.
use Prim.Native.Nat.{ℕ, ◌-◌}
use mathlib.Core.Path.{◌≡◌, refl, sym, ◌∙◌}
use mathlib.Core.List.{List}
use borrow.Rule.Slice.PartMut.{put_mid}
use lib.ListN.{length, take, drop}
use Rattle.definition.specs.Parser.{Got, Reader}
use Rattle.theorems.proofs.Grammar.Clean.{or_left, or_right}
use Rattle.tree.specs.Tail.{tail_start, at_front, rejoined}
use Rattle.tree.proofs.LentTail.{lent_tail}
use Rattle.parser.specs.Rest.{unread, run_of}
use Rattle.parser_run.specs.declared.ParserRun.{ParserRun}
use Rattle.parser_run.specs.Reads.{with_run, stand, Reads}
use Rattle.file.specs.Ground.{Grounded}
use Rattle.file.specs.Advance.{Fitting}
use Rattle.file.proofs.Grounds.{ready}

-- The state at the front of the tail from a on, and that of a reading in it, on the whole table.
abbrev pub in_front : ℕ → ParserRun → ParserRun
in_front a st = with_run st (run_of st.run.seen (at_front a st.run.pen))

abbrev pub back_from : ℕ → ParserRun → ParserRun → ParserRun
back_from room st r = with_run r (run_of r.run.seen (rejoined room st.run.pen r.run.pen))

module _ {src : List ℕ} (p : Reader) (t o e u o' e' : List ℕ) (st r : ParserRun) (a : ℕ) where
  pub reads_tail : Grounded src (stand t o e st) → Fitting (p (unread src st.run.seen)) (unread src st.run.seen) → a ≡ tail_start (length t) st.run.pen.n
      → Reads src p (stand (take (length t - a) (drop a t)) o e (in_front a st)) (stand u o' e' r)
      → Reads src p (stand t o e st) (stand (put_mid a (length t - a) t u) o' e' (back_from (length t) st r))
  reads_tail d f s x =
      let g : Got = p (unread src st.run.seen) in
      let y = x.gives in
      record {
        gives = record {
          tree = λ z. lent_tail g.tree t o st.run.pen (ready d f (or_left _ _ (sym y.over ∙ z)) (or_right st.over _ (sym y.over ∙ z))) a _ r.run.pen _ u o' s refl (y.tree z) refl;
          errs = y.errs;
          rest = y.rest;
          held = y.held;
          over = y.over;
        };
      }
