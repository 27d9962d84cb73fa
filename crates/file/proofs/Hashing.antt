-- An item whose HASH is seen behind its trivia.
use Prim.Native.Nat.{ℕ, ◌-◌}
use mathlib.Core.Path.{◌≡◌, sym, ap, subst, ◌∙◌}
use mathlib.Core.Bool.{true, false≢true}
use mathlib.Core.List.{List}
use borrow.Author.Tests.{eq-eqb}
use borrow.Rule.Slice.PartMut.{put_mid}
use lib.ListN.{length, take, drop}
use Rattle.definition.specs.SyntaxKind.{Kind}
use Rattle.definition.specs.Parser.{is, trivia, after, peek, Reader}
use Rattle.definition.specs.Syntax.{item, relexed}
use Rattle.tree.specs.Tail.{tail_start, at_front, rejoined}
use Rattle.tree.specs.declared.Pen.{Pen}
use Rattle.parser.specs.declared.Seen.{Seen}
use Rattle.parser.specs.declared.trivia.Trivia.{Trivia}
use Rattle.parser.specs.Rest.{run_of, unread, Held}
use Rattle.parser.specs.Passed.{Passes}
use Rattle.parser.proofs.Taking.{none_seen}
use Rattle.parser_run.specs.declared.ParserRun.{ParserRun}
use Rattle.parser_run.specs.declared.Parser.{Parser}
use Rattle.parser_run.specs.Reads.{with_run, stand, Reads}
use Rattle.parser_run.specs.Parses.{source_of, stand_of, Kept, Parses}
use Rattle.parser_run.proofs.Laws.{reads_is}
use Rattle.syntax.specs.Item.{hash_reader}
use Rattle.syntax.specs.Section.{Hashed}
use Rattle.file.specs.Ground.{Grounded}
use Rattle.file.specs.Advance.{Fitting, Proceeds}
use Rattle.file.proofs.Advancing.{item_fitting, advance_item}
use Rattle.file.proofs.LentItem.{in_front, back_from, reads_tail}
use Rattle.file.proofs.Behind.{hash_behind}

module _ {src : List ℕ} {s : Seen} {b : Trivia} (h : Hashed src s b) where
  -- A HASH follows the trivia.
  hash_next : peek (is Kind.HASH) (after trivia (unread src s)) ≡ true
  hash_next = hash_behind h.passes ∙ eq-eqb _ _ h.hash

  -- There is a leaf, the first of the trivia or the HASH.
  hash_some : s.kind ≡ 0 → ⊥
  unfolding peek after
  hash_some e = false≢true (rw (none_seen src s e) at hash_next)

  -- Such an item is read from its HASH on.
  hash_item_is : item (length src) relexed (unread src s) ≡ hash_reader (length src) (unread src s)
  unfolding item
  hash_item_is = rw (hash_next, item)

  hash_fitting : Held src s → Fitting (hash_reader (length src) (unread src s)) (unread src s)
  hash_fitting k = rw hash_item_is at (item_fitting src s k hash_some)

-- What was read in the tail is read into the table.
pub tail_parses : {s s' : Parser} {b : Trivia} {a : ℕ} {u : List ℕ} {last : ParserRun} {f g : Pen} → Hashed (source_of s) s.state.run.seen b → Grounded (source_of s) (stand_of s)
    → Kept s s' → a ≡ tail_start (length s.table.now) s.state.run.pen.n → f ≡ at_front a s.state.run.pen
    → Reads (source_of s) (hash_reader (length (source_of s))) (stand (take (length s.table.now - a) (drop a s.table.now)) s.levels.now s.errors.now (with_run s.state (run_of s.state.run.seen f)))
    (stand u s'.levels.now s'.errors.now last)
    → g ≡ rejoined (length s.table.now) s.state.run.pen last.run.pen → s'.table.now ≡ put_mid a (length s.table.now - a) s.table.now u
    → s'.state ≡ with_run last (run_of last.run.seen g) → Parses (hash_reader (length (source_of s))) s s'
tail_parses {s} {s'} {a = a} {u = u} {last = last} h d k ai fi r gi ti si =
    let p : Reader = hash_reader (length (source_of s)) in
    let t : List ℕ = s.table.now in
    let x : Reads (source_of s) p (stand (take (length t - a) (drop a t)) s.levels.now s.errors.now (in_front a s.state)) (stand u s'.levels.now s'.errors.now last) =
    subst (λ q. Reads (source_of s) p (stand (take (length t - a) (drop a t)) s.levels.now s.errors.now (with_run s.state (run_of s.state.run.seen q))) (stand u s'.levels.now s'.errors.now last)) fi r in
    let y : Reads (source_of s) p (stand_of s) (stand (put_mid a (length t - a) t u) s'.levels.now s'.errors.now (back_from (length t) s.state last)) =
    reads_tail p t s.levels.now s.errors.now u s'.levels.now s'.errors.now s.state last a d (hash_fitting h s.held) ai x in
    let z : back_from (length t) s.state last ≡ s'.state = sym (si ∙ ap (λ q. with_run last (run_of last.run.seen q)) gi) in
    let v : Reads (source_of s) p (stand_of s) (stand (put_mid a (length t - a) t u) s'.levels.now s'.errors.now s'.state) =
    subst (λ c. Reads (source_of s) p (stand_of s) (stand (put_mid a (length t - a) t u) s'.levels.now s'.errors.now c)) z y in
    record { kept = k; reads = subst (λ c. Reads (source_of s) p (stand_of s) (stand c s'.levels.now s'.errors.now s'.state)) (sym ti) v }

-- It is one item.
pub hash_proceeds : {s s' : Parser} {b : Trivia} → Passes (source_of s) s.state.run.seen b → b.next.kind ≡ Kind.HASH → Parses (hash_reader (length (source_of s))) s s' → Proceeds s s'
hash_proceeds {s} {b = b} q i x =
    let h : Hashed (source_of s) s.state.run.seen b = record { passes = q; hash = i } in
    record { kept = x.kept; advances = advance_item s.held (hash_some h) (reads_is x.reads (hash_item_is h)) }
