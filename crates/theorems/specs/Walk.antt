-- The first two stages of the lexer as one automaton over bytes: the state of a pre-token, and the character that its last byte belongs to.
use Rattle.std.specs.Prelude.{ℕ, suc, Bool, ◌&&◌, List, [], ◌∷◌, map, eqb, take, if◌then◌else◌}
use Rattle.std.proofs.Math.Option.{none, some}
use Rattle.definition.specs.Text.{same}
use Rattle.definition.specs.SyntaxKind.{Kind}
use Rattle.definition.specs.Newline.{char_more, chars}
use Rattle.definition.specs.Unescaped.{unescaped}
use Rattle.definition.specs.Pre.{State, begin, more, kind_of, pres}
use Rattle.definition.specs.Glue.{Token, flat, pre_kind, defined}

-- How a pre-token ends: its kind, and how many more bytes it has.
pub record Walk : Type 0 where
  pub kind : ℕ
  pub long : ℕ

abbrev pub longer : Walk → Walk
longer w = record { kind = w.kind; long = suc w.long }

-- The bytes that go on with a pre-token in state q, whose last byte belongs to the character c.
unfoldable pub walk : State → ℕ → List ℕ → Walk
walk q c [] = record { kind = kind_of q; long = 0 }
walk q c (b ∷ bs) = elim (char_more c b) [
  | some c' ↦ longer (walk q c' bs)
  | none ↦ elim (more q b) [ some q' ↦ longer (walk q' b bs) | none ↦ record { kind = kind_of q; long = 0 } ]
]

-- The kind of a pre-token with these bytes: DEFINED where an identifier, unescaped, is `defined`.
unfoldable pub name_kind : ℕ → List ℕ → ℕ
name_kind k xs = if eqb k Kind.IDENT_KW && same (unescaped xs) defined then Kind.DEFINED else k

-- The pre-tokens of a source as tokens, before they are glued.
unfoldable pub pre_tokens : Bool → List ℕ → List Token
pre_tokens f bs = map (flat pre_kind) (pres f (chars bs))

-- The first pre-token of a source that begins with b.
unfoldable pub pre_token : Bool → ℕ → List ℕ → Token
pre_token f b bs =
    let w : Walk = walk (begin f b) b bs in
    record { kind = name_kind w.kind (b ∷ take w.long bs); head = b; tail = take w.long bs }
