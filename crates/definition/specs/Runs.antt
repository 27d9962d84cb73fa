-- The longest match (01, "Gluing and lexing"; GLSL 3.7): a row is cut into runs, each as long as it can be. All three stages of the lexer are this one rule.
use Rattle.std.specs.Prelude.{◌∷◌, ◌++◌}
use Rattle.definition.specs.Text.{List, [], Option, none, some}

-- A run: the state that it ended in, and what it holds, never nothing.
pub record Run (B S : Type 0) : Type 0 where
  pub kind : S
  pub head : B
  pub tail : List B

-- A run that is being read: what it holds behind its head, and the runs after it.
pub record Row (B S : Type 0) : Type 0 where
  pub kind : S
  pub text : List B
  pub later : List (Run B S)

module _ {B S : Type 0} where
  -- What a run holds.
  abbrev pub text : Run B S → List B
  text r = r.head ∷ r.tail

  abbrev pub put : B → Row B S → Row B S  -- One more element in front.
  put b r = record { kind = r.kind; text = b ∷ r.text; later = r.later }

  abbrev pub list : B → Row B S → List (Run B S)  -- The run that begins with this element, and those after it.
  list b r = record { kind = r.kind; head = b; tail = r.text } ∷ r.later

  -- What the runs of a row hold, one after another.
  unfoldable pub joined : List (Run B S) → List B
  joined [] = []
  joined (r ∷ rs) = r.head ∷ (r.tail ++ joined rs)

-- An element goes on with the run before it, `more`, or begins the next, `begin`.
module _ {B S : Type 0} (begin : S → B → S) (more : S → B → Option S) where
  unfoldable pub runs : S → List B → Row B S
  runs q [] = record { kind = q; text = []; later = [] }
  runs q (b ∷ bs) = elim (more q b) [
    | some q' ↦ put b (runs q' bs)
    | none ↦ record { kind = q; text = []; later = list b (runs (begin q b) bs) }
  ]

  unfoldable pub grouped : S → List B → List (Run B S)  -- The runs of a row.
  grouped q [] = []
  grouped q (b ∷ bs) = list b (runs (begin q b) bs)
