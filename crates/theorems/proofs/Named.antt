-- What holds of every directive of a list holds of the one that a word names.
use Rattle.std.specs.Prelude.{if◌then◌else◌}
use Prim.Native.Nat.{ℕ}
use mathlib.Core.Bool.{Bool, true, false}
use mathlib.Core.List.{List, [], ◌∷◌}
use mathlib.Core.Option.{Option, none, some}
use Rattle.definition.specs.Text.{same}
use Rattle.definition.specs.Syntax.{Directive, directive_named}

infixr 30 ◌&◌
pub data All (P : Directive → Type 0) : List Directive → Type 0 where
  done : All P []
  ◌&◌ : {d : Directive} {ds : List Directive} → P d → All P ds → All P (d ∷ ds)

pub data Found (P : Directive → Type 0) : Option Directive → Type 0 where
  unnamed : Found P none
  one : {d : Directive} → P d → Found P (some d)

pub found : {P : Directive → Type 0} {ds : List Directive} → All P ds → (w : List ℕ) → Found P (directive_named ds w)
unfolding directive_named
found done w = unnamed
found {P} (◌&◌ {d} {ds} o os) w = go (same d.spelt w) (found os w)
  where
    go : (b : Bool) → Found P (directive_named ds w) → Found P (if b then some d else directive_named ds w)
    go true ih = one o
    go false ih = ih
