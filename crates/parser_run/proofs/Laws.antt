-- How readings are made of others: a law for each combinator of the definition.
use Prim.Native.Nat.{ℕ}
use mathlib.Core.Path.{◌≡◌, refl, sym, ap, ◌∙◌}
use mathlib.Core.Bool.{Bool, true, false, ◌||◌, or_assoc, or-false}
use mathlib.Core.List.{List, [], ◌∷◌}
use Rattle.definition.specs.Tree.{Leaf, nil, row, leaves, body_kind, body_concats}
use Rattle.definition.specs.Error.{Err}
use Rattle.definition.specs.Parser.{trivia, while, peek, Got, raise, Reader, ◌then◌, wrap, skip, skip_trivia, nothing, bump, maybe}
use Rattle.definition.specs.Calls.{too_many}
use Rattle.theorems.specs.Height.{crowded}
use Rattle.theorems.proofs.Grammar.Clean.{or_left}
use Rattle.theorems.proofs.Heights.Laws.{crowded-▹, crowded_node, crowded_row}
use Rattle.theorems.proofs.Tiling.Leaves.{leaves_row}
use Rattle.tree.specs.Machine.{Event, Open, Shut, writer, sheet, with_levels, events, step, run}
use Rattle.tree.specs.declared.Pen.{Pen}
use Rattle.tree.proofs.Runs.{run-▹, run_node, run_row}
use Rattle.error.specs.Log.{log, add, adds, fault_of}
use Rattle.error.proofs.Adds.{adds_++}
use Rattle.parser.specs.declared.Run.{Run}
use Rattle.parser.specs.Rest.{run_of, unread, Held, Takes}
use Rattle.parser_run.specs.declared.ParserRun.{ParserRun}
use Rattle.parser_run.specs.Reads.{with_run, Stand, stand, writer_at, log_at, unread_at, Gives, Reads, Took, Moves, Logs}

module _ {src : List ℕ} where
  -- Another reader that gets the same.
  pub reads_is : {p q : Reader} {m m' : Stand} → Reads src q m m' → p (unread_at src m) ≡ q (unread_at src m) → Reads src p m m'
  reads_is r e = record { gives = rw e r.gives }

  pub reads_nothing : (m : Stand) → Held src m.state.run.seen → Reads src nothing m m
  unfolding nothing run events adds body_concats too_many
  reads_nothing m h = record { gives = record { tree = λ z. refl; errs = refl; rest = refl; held = h; over = sym (or-false m.state.over) } }

  pub reads_then : {p q : Reader} {m m₁ m₂ : Stand} → Reads src p m m₁ → Reads src q m₁ m₂ → Reads src (p then q) m m₂
  unfolding ◌then◌
  reads_then {p} {q} {m} {m₁} {m₂} x y =
      let a : Got = p (unread_at src m) in
      let b : Got = q a.rest in
      let u = x.gives in
      let v : Gives src b m₁ m₂ = rw (← u.rest) y.gives in
      record {
        gives = record {
          tree = λ z. v.tree z ∙ ap (λ w. run w (events b.tree)) (u.tree (or_left _ _ (sym v.over ∙ z))) ∙ sym (run-▹ (writer_at m) a.tree b.tree);
          errs = v.errs ∙ ap (λ l. adds l b.errs) u.errs ∙ sym (adds_++ (log_at m) a.errs b.errs);
          rest = v.rest;
          held = v.held;
          over = v.over ∙ ap (λ o. o || crowded b.tree) u.over ∙ or_assoc m.state.over (crowded a.tree) (crowded b.tree)
              ∙ ap (λ o. m.state.over || o) (sym (crowded-▹ a.tree b.tree));
        };
      }

  -- A node over a reading: its two events around it.
  pub reads_wrap : {k : ℕ} {p : Reader} {t o e t₁ o₁ t₂ o₂ e₂ t₃ o₃ : List ℕ} {st st₁ st₂ st₃ : ParserRun} → body_kind k ≡ false
      → Moves Open t o st t₁ o₁ st₁ → Reads src p (stand t₁ o₁ e st₁) (stand t₂ o₂ e₂ st₂) → Moves (Shut k) t₂ o₂ st₂ t₃ o₃ st₃
      → Reads src (wrap k p) (stand t o e st) (stand t₃ o₃ e₂ st₃)
  unfolding wrap run events
  reads_wrap {k} {p} {t} {o} {e} {t₁} {o₁} {t₂} {o₂} {e₂} {t₃} {o₃} {st} {st₁} {st₂} {st₃} b x y z =
      let g : Got = p (unread src st.run.seen) in
      let v : Gives src g (stand t₁ o₁ e st₁) (stand t₂ o₂ e₂ st₂) = rw (ap (λ s. p (unread src s)) x.seen) at y.gives in
      record {
        gives = record {
          tree = λ f. z.writes ∙ ap (step (Shut k)) (v.tree (sym z.over ∙ f))
              ∙ ap (λ w. step (Shut k) (run w (events g.tree))) x.writes ∙ sym (run_node (writer t o st.run.pen) k g.tree nil);
          errs = ap (log e₂) z.errs ∙ v.errs ∙ ap (λ n. adds (log e n) g.errs) x.errs;
          rest = ap (unread src) z.seen ∙ v.rest;
          held = rw z.seen v.held;
          over = z.over ∙ v.over ∙ ap (λ c. c || crowded g.tree) x.over ∙ ap (λ c. st.over || c) (sym (crowded_node k g.tree b));
        };
      }

  -- An error of a reading that meets no other, logged behind it.
  pub reads_raise : {p : Reader} {t o e t₁ o₁ e₁ e₂ : List ℕ} {st st₁ st₂ : ParserRun} (x : Err) → (p (unread src st.run.seen)).errs ≡ []
      → Reads src p (stand t o e st) (stand t₁ o₁ e₁ st₁) → Logs (fault_of x) e₁ st₁ e₂ st₂
      → Reads src (λ ts. raise x (p ts)) (stand t o e st) (stand t₁ o₁ e₂ st₂)
  unfolding adds
  reads_raise {p} {t} {o} {e} {t₁} {o₁} {e₁} {e₂} {st} {st₁} {st₂} x q y a =
      let v = y.gives in
      let w : log e₁ st₁.errs ≡ log e st.errs = v.errs ∙ ap (adds (log e st.errs)) q in
      record {
        gives = record {
          tree = λ f. ap (λ (r : Run). writer t₁ o₁ r.pen) a.run ∙ v.tree (sym a.over ∙ f);
          errs = a.adding ∙ ap (add (fault_of x)) w ∙ ap (λ l. adds (add (fault_of x) (log e st.errs)) l) (sym q);
          rest = ap (λ (r : Run). unread src r.seen) a.run ∙ v.rest;
          held = rw a.run v.held;
          over = a.over ∙ v.over;
        };
      }

  pub reads_maybe : (f : Leaf → Bool) {p : Reader} {m m' : Stand} → peek f (unread_at src m) ≡ true → Reads src p m m' → Reads src (maybe f p) m m'
  unfolding maybe
  reads_maybe f e r = reads_is r (rw (e, maybe) refl)

  pub maybe_none : (f : Leaf → Bool) (p : Reader) {m : Stand} → peek f (unread_at src m) ≡ false → Held src m.state.run.seen → Reads src (maybe f p) m m
  unfolding maybe
  maybe_none f p {m} e h = reads_is (reads_nothing m h) (rw (e, maybe) refl)

-- A reader of leaves alone: its tree is a row of leaves, and it meets no errors.
pub record Rowed (p : Reader) : Type 0 where
  pub tree : (ts : List Leaf) → (p ts).tree ≡ row (leaves (p ts).tree)
  pub errs : (ts : List Leaf) → (p ts).errs ≡ []

bump_tree : (ts : List Leaf) → (bump ts).tree ≡ row (leaves (bump ts).tree)
unfolding bump row leaves
bump_tree [] = refl
bump_tree (t ∷ ts) = refl

bump_errs : (ts : List Leaf) → (bump ts).errs ≡ []
unfolding bump
bump_errs [] = refl
bump_errs (t ∷ ts) = refl

pub bump_rowed : Rowed bump
bump_rowed = record { tree = bump_tree; errs = bump_errs }

pub skip_rowed : (q : Leaf → Bool) → Rowed (skip q)
unfolding skip
skip_rowed q = record { tree = λ ts. ap row (sym (leaves_row (while q ts))); errs = λ ts. refl }

pub trivia_rowed : Rowed skip_trivia
unfolding skip_trivia
trivia_rowed = record { tree = (skip_rowed trivia).tree; errs = (skip_rowed trivia).errs }

-- What the parser took, with a state around it.
pub took : {p : Reader} → Rowed p → (src t t' : List ℕ) (st st' : ParserRun) (r : Run) → Takes src p t st.run t' r → st' ≡ with_run st r → Took src p t st t' st'
unfolding adds
took {p} w src t t' st st' r k e =
    let g : Got = p (unread src st.run.seen) in
    let q : g.tree ≡ row (leaves g.tree) = w.tree (unread src st.run.seen) in
    rw e (record {
      reads = λ o l. record {
        gives = record {
          tree = λ z. ap (with_levels o) k.tree ∙ sym (run_row o (sheet t st.run.pen) (leaves g.tree)) ∙ ap (λ f. run (writer t o st.run.pen) (events f)) (sym q);
          errs = ap (adds (log l st.errs)) (sym (w.errs (unread src st.run.seen)));
          rest = k.rest;
          held = k.held;
          over = sym (or-false st.over) ∙ ap (λ c. st.over || c) (sym (ap crowded q ∙ crowded_row (leaves g.tree)));
        };
      };
    })

-- The two events of a node,
module _ (t o t' o' : List ℕ) (st st' : ParserRun) (r : Run) (p : Pen) (i : r ≡ run_of st.run.seen p) (e : st' ≡ with_run st r) where
  pub moved : (v : Event) → writer t' o' p ≡ step v (writer t o st.run.pen) → Moves v t o st t' o' st'
  moved v w = rw (e, i) (record { writes = w; seen = refl; errs = refl; over = refl })

  pub moved_shut : (k n : ℕ) → n ≡ k → writer t' o' p ≡ step (Shut n) (writer t o st.run.pen) → Moves (Shut k) t o st t' o' st'
  moved_shut k n q w = moved (Shut k) (rw (← q) w)

-- For loops: what leads to an end from m as p does leads there from m₀ as p₀ does.
pub record Toward (src : List ℕ) (p : Reader) (m : Stand) (p₀ : Reader) (m₀ : Stand) : Type 0 where
  pub go : (m' : Stand) → Reads src p m m' → Reads src p₀ m₀ m'

module _ {src : List ℕ} where
  pub begun : (p : Reader) (m : Stand) → Toward src p m p m
  begun p m = record { go = λ m' r. r }

  pub toward_then : {p q p₁ p₀ : Reader} {m m₁ m₀ : Stand} → Toward src p m p₀ m₀ → Reads src q m m₁ → p (unread_at src m) ≡ (q then p₁) (unread_at src m)
      → Toward src p₁ m₁ p₀ m₀
  toward_then w r e = record { go = λ m' z. w.go m' (reads_is (reads_then r z) e) }

  pub toward_end : {p q p₀ : Reader} {m m₁ m₀ : Stand} → Toward src p m p₀ m₀ → Reads src q m m₁ → p (unread_at src m) ≡ q (unread_at src m) → Reads src p₀ m₀ m₁
  toward_end {m₁ = m₁} w r e = w.go m₁ (reads_is r e)
