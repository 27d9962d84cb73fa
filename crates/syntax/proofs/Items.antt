-- Items that begin with a HASH: a node that is opened before it and shut behind its line, or a closed group.
use Prim.Native.Nat.{ℕ}
use mathlib.Core.Path.{◌≡◌, refl, sym, ap, subst, ◌∙◌}
use mathlib.Core.Bool.{Bool, true, false, ◌||◌, or_assoc}
use mathlib.Core.List.{List, [], ◌∷◌, ◌++◌}
use mathlib.Core.Option.{Option, none, some}
use native.Mathlib.Omega.{arith}
use lib.ListN.{length}
use Rattle.definition.specs.Tree.{Leaf, nil, leaf, node, row, ◌▹◌, leaves, body_kind}
use Rattle.definition.specs.Parser.{trivia, while, after, Got, Reader, ◌then◌, skip, skip_trivia, nothing, bump}
use Rattle.definition.specs.Syntax.{depth, pp_rs_ident, Line, control_line, hash_item, relexed}
use Rattle.theorems.specs.Height.{crowded}
use Rattle.theorems.proofs.Combinators.{▹-assoc}
use Rattle.theorems.proofs.Grammar.Clean.{or_left}
use Rattle.theorems.proofs.Heights.Laws.{crowded-▹, crowded_node}
use Rattle.theorems.proofs.Heights.Whole.{NoBody, no_node, of_kind, low_line}
use Rattle.theorems.proofs.Replay.Laws.{shut}
use Rattle.tree.specs.Machine.{Open, Shut, writer, events, step, run}
use Rattle.tree.proofs.Runs.{run-▹, run_node}
use Rattle.error.specs.Log.{log, adds}
use Rattle.parser.specs.declared.Seen.{Seen}
use Rattle.parser.specs.declared.Run.{Run}
use Rattle.parser.specs.Rest.{leaf_seen, unread, Takes}
use Rattle.parser_run.specs.declared.ParserRun.{ParserRun}
use Rattle.parser_run.specs.declared.Parser.{Parser}
use Rattle.parser_run.specs.Reads.{with_run, Stand, stand, unread_at, Gives, Reads, Took, Moves}
use Rattle.parser_run.specs.Parses.{source_of, stand_of, Parses, Leafs, Nodes}
use Rattle.parser_run.proofs.Laws.{reads_is, reads_then, Rowed, bump_rowed, took}
use Rattle.parser_run.proofs.Parsing.{kept_then, same_source}
use Rattle.group.specs.Group.{group_at, nodeless, Gathers}
use Rattle.group.proofs.Lines.{silent, closed_at}
use Rattle.syntax.specs.Item.{Ends, Closes, hash_front, hash_reader}

-- What a reader reads in an open node, which is then shut.
pub ends_by : {src : List ℕ} {p : Reader} {l : Line} {m : Stand} {t o e t' o' : List ℕ} {st st' : ParserRun} {k : ℕ} → l.node_kind ≡ some k → l.got ≡ p (unread_at src m)
    → Reads src p m (stand t o e st) → Moves (Shut k) t o st t' o' st' → Ends src l m (stand t' o' e st')
ends_by {src} {l = l} {m = m} {t} {o} {e} {st = st} {k = k} n g x z =
    let u : Gives src l.got m (stand t o e st) = rw g x.gives in
    record {
      kind = k;
      kind_is = n;
      tree = λ f. z.writes ∙ ap (step (Shut k)) (u.tree (sym z.over ∙ f));
      errs = ap (log e) z.errs ∙ u.errs;
      rest = ap (unread src) z.seen ∙ u.rest;
      held = rw z.seen u.held;
      over = z.over ∙ u.over;
    }

-- An item is its HASH with the trivia around it, and the line behind it.
hash_shut : (n : ℕ) (ts : List Leaf) → hash_reader n ts ≡ shut (λ c. (hash_front ts).tree ▹ c) (control_line n relexed (hash_front ts).rest)
unfolding hash_item ◌then◌ skip_trivia skip
hash_shut n ts =
    let h : Got = (bump then skip_trivia) (after trivia ts) in
    let l : Line = control_line n relexed h.rest in
    ap (λ w. record { tree = elim l.node_kind [ none ↦ w | some k ↦ node k w nil ]; errs = l.got.errs; rest = l.got.rest })
    (sym (▹-assoc (row (while trivia ts)) h.tree l.got.tree))

front_errs : (ts : List Leaf) → (hash_front ts).errs ≡ []
unfolding ◌then◌ skip_trivia skip
front_errs ts = rw (bump_rowed.errs (after trivia ts)) refl

-- The kind of its node is no body's.
ordinary : {o : Option ℕ} {k : ℕ} → NoBody o → o ≡ some k → body_kind k ≡ false
ordinary no_node e = let z : ◌≡◌ {A = ℕ} 0 1 = cc in absurd (omega arith)
ordinary {k = k} (of_kind {k = j} b) e = let q : j ≡ k = cc in rw (← q) b

module _ {src : List ℕ} (n : ℕ) where
  pub hash_directive : {t o e t₁ o₁ t₂ : List ℕ} {st st₁ st₂ : ParserRun} {m : Stand} → Moves Open t o st t₁ o₁ st₁ → Took src hash_front t₁ st₁ t₂ st₂
      → Ends src (control_line n relexed (unread src st₂.run.seen)) (stand t₂ o₁ e st₂) m → Reads src (hash_reader n) (stand t o e st) m
  unfolding run events adds
  hash_directive {t} {o} {e} {t₁} {o₁} {t₂} {st} {st₁} {st₂} {m} x y z =
      let ts : List Leaf = unread src st.run.seen in
      let a : Got = hash_front ts in
      let l : Line = control_line n relexed a.rest in
      let u : Gives src a (stand t₁ o₁ e st₁) (stand t₂ o₁ e st₂) = rw (ap (λ s. hash_front (unread src s)) x.seen) at (y.reads o₁ e).gives in
      let v : Ends src l (stand t₂ o₁ e st₂) m = rw u.rest at z in
      let g : Got = record { tree = node v.kind (a.tree ▹ l.got.tree) nil; errs = l.got.errs; rest = l.got.rest } in
      let q : hash_reader n ts ≡ g = hash_shut n ts ∙ rw v.kind_is refl in
      record {
        gives = rw q (record {
          tree = λ f. v.tree f
              ∙ ap (λ w. step (Shut v.kind) (run w (events l.got.tree))) (u.tree (or_left _ _ (sym v.over ∙ f)) ∙ ap (λ w. run w (events a.tree)) x.writes)
              ∙ ap (step (Shut v.kind)) (sym (run-▹ _ a.tree l.got.tree))
              ∙ sym (run_node (writer t o st.run.pen) v.kind (a.tree ▹ l.got.tree) nil);
          errs = v.errs ∙ ap (λ g. adds g l.got.errs) (u.errs ∙ ap (adds (log e st₁.errs)) (front_errs ts) ∙ ap (log e) x.errs);
          rest = v.rest;
          held = v.held;
          over = v.over ∙ ap (λ c. c || crowded l.got.tree) (u.over ∙ ap (λ c. c || crowded a.tree) x.over)
              ∙ or_assoc st.over (crowded a.tree) (crowded l.got.tree)
              ∙ ap (λ c. st.over || c) (sym (crowded_node v.kind (a.tree ▹ l.got.tree) (ordinary (low_line n relexed a.rest).kind v.kind_is) ∙ crowded-▹ a.tree l.got.tree));
        });
      }

-- A group is leaves alone.
group_row : (l : Leaf) (d : ℕ) (ts : List Leaf) → (pp_rs_ident l d ts).tree ≡ row (leaves (pp_rs_ident l d ts).tree)
unfolding pp_rs_ident nothing bump row leaves
group_row l d [] = refl
group_row l d (t ∷ ts) = go (depth t d) refl (λ k. group_row l k ts)
  where
    go : (o : Option ℕ) → depth t d ≡ o → ((k : ℕ) → (pp_rs_ident l k ts).tree ≡ row (leaves (pp_rs_ident l k ts).tree))
        → (pp_rs_ident l d (t ∷ ts)).tree ≡ row (leaves (pp_rs_ident l d (t ∷ ts)).tree)
    go none e ih = rw (e, pp_rs_ident) refl
    go (some k) e ih = rw (e, pp_rs_ident) (ap (leaf t) (ih k))

group_rowed : (src : List ℕ) (x : Seen) → Rowed (silent (group_at src x))
unfolding ◌then◌ bump ◌▹◌ row leaves
group_rowed src x = record { tree = λ ts. go ts; errs = λ ts. refl }
  where
    go : (ts : List Leaf) → (group_at src x ts).tree ≡ row (leaves (group_at src x ts).tree)
    go [] = group_row (leaf_seen src x) 0 []
    go (t ∷ ts) = ap (leaf t) (group_row (leaf_seen src x) 0 ts)

pub group_took : {src t t' : List ℕ} {st st' : ParserRun} {r : Run} → Takes src (group_at src st.run.seen) t st.run t' r → st' ≡ with_run st r
    → Took src (silent (group_at src st.run.seen)) t st t' st'
group_took {src} {t} {t'} {st} {st'} {r} y s = took (group_rowed src st.run.seen) src t t' st st' r (record { tree = y.tree; rest = y.rest; held = y.held }) s

module _ {src : List ℕ} (n : ℕ) where
  -- A closed group has no node.
  pub hash_group : {t o e t₁ t₂ : List ℕ} {st st₁ st₂ : ParserRun} {r : Run} {b : Bool} → Took src hash_front t st t₁ st₁
      → b ≡ nodeless (control_line n relexed (unread src st₁.run.seen)) → b ≡ true
      → Takes src (group_at src st₁.run.seen) t₁ st₁.run t₂ r → st₂ ≡ with_run st₁ r → Reads src (hash_reader n) (stand t o e st) (stand t₂ o e st₂)
  unfolding ◌then◌
  hash_group {t} {o} {e} {t₁} {t₂} {st} {st₁} {st₂} {r} x q i y s =
      let ts : List Leaf = unread src st.run.seen in
      let p : Reader = silent (group_at src st₁.run.seen) in
      let a : Got = hash_front ts in
      let k : Took src p t₁ st₁ t₂ st₂ = group_took y s in
      let u : control_line n relexed a.rest ≡ record { node_kind = none; got = p a.rest } = rw (x.reads o e).gives.rest at (closed_at src st₁.run.seen n relexed q i) in
      reads_is (reads_then (x.reads o e) (k.reads o e)) (hash_shut n ts ∙ ap (shut (λ c. a.tree ▹ c)) u
      ∙ ap (λ es. record { tree = a.tree ▹ (p a.rest).tree; errs = es ++ []; rest = (p a.rest).rest }) (sym (front_errs ts)))

-- The same of parsers: what a reader reads in an open node, which is then shut;
pub closes_by : {p : Reader} {l : Line} {s s₁ s₂ : Parser} {k : ℕ} → l.node_kind ≡ some k → l.got ≡ p (unread (source_of s) s.state.run.seen) → Parses p s s₁ → Nodes (Shut k) s₁ s₂
    → Closes l s s₂
closes_by n g y z = record { kept = kept_then y.kept z.kept; ends = rw z.errors (ends_by n g y.reads z.moves) }

-- a group, whose error is not logged;
pub gathers_leafs : {s s' : Parser} → Gathers (group_at (source_of s) s.state.run.seen) s s' → Leafs (silent (group_at (source_of s) s.state.run.seen)) s s'
gathers_leafs {s} {s'} y = record {
  kept = y.aside.kept;
  took = group_took y.takes (λ i. record { run = s'.state.run; errs = y.aside.errs i; over = y.aside.over i });
  levels = y.aside.levels;
  errors = y.aside.errors;
}

-- a closed group behind its HASH;
pub group_parses : {s s₁ s₂ : Parser} {b : Bool} → Leafs hash_front s s₁ → b ≡ nodeless (control_line (length (source_of s)) relexed (unread (source_of s) s₁.state.run.seen)) → b ≡ true
    → Gathers (group_at (source_of s₁) s₁.state.run.seen) s₁ s₂ → Parses (hash_reader (length (source_of s))) s s₂
group_parses {s} {s₁} {s₂} x q i v =
    let y : Takes (source_of s) (group_at (source_of s) s₁.state.run.seen) s₁.table.now s₁.state.run s₂.table.now s₂.state.run
    = subst (λ l. Takes l (group_at l s₁.state.run.seen) s₁.table.now s₁.state.run s₂.table.now s₂.state.run) (same_source x.kept) v.takes in
    let r : Reads (source_of s) (hash_reader (length (source_of s))) (stand_of s) (stand s₂.table.now s.levels.now s.errors.now s₂.state)
    = hash_group (length (source_of s)) x.took q i y (λ j. record { run = s₂.state.run; errs = v.aside.errs j; over = v.aside.over j }) in
    record { kept = kept_then x.kept v.aside.kept; reads = rw (v.aside.levels ∙ x.levels, v.aside.errors ∙ x.errors) r }

-- and a node over a HASH and its line.
pub directive_parses : {s s₁ s₂ s₃ : Parser} → Nodes Open s s₁ → Leafs hash_front s₁ s₂ → Closes (control_line (length (source_of s₂)) relexed (unread (source_of s₂) s₂.state.run.seen)) s₂ s₃
    → Parses (hash_reader (length (source_of s))) s s₃
directive_parses {s} {s₁} {s₂} {s₃} x y z =
    let k = kept_then x.kept y.kept in
    let t : Took (source_of s) hash_front s₁.table.now s₁.state s₂.table.now s₂.state = subst (λ l. Took l hash_front s₁.table.now s₁.state s₂.table.now s₂.state) (same_source x.kept) y.took in
    let e : Ends (source_of s) (control_line (length (source_of s)) relexed (unread (source_of s) s₂.state.run.seen)) (stand_of s₂) (stand_of s₃)
    = subst (λ l. Ends l (control_line (length l) relexed (unread l s₂.state.run.seen)) (stand_of s₂) (stand_of s₃)) (same_source k) z.ends in
    record { kept = kept_then k z.kept; reads = hash_directive (length (source_of s)) x.moves t (rw (y.levels, y.errors ∙ x.errors) at e) }
