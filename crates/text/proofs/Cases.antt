-- A set for `search`: a test of a definition is decided by what the code's own tests said.
use Rattle.std.specs.Prelude.{if◌then◌else◌}
use mathlib.Core.Path.{◌≡◌, ap}
use mathlib.Core.Bool.{Bool, true, false}
use borrow.Author.Tests.{lt-ltb, le-ltb, le-leb, lt-leb, eq-eqb, ne_eqb}
use borrow.Author.Rules.{rules}

pub if_true : {A : Type 0} (t : Bool) (x y : A) → t ≡ true → (if t then x else y) ≡ x
if_true {A} t x y e = ap (λ (u : Bool). if u then x else y) e

pub if_false : {A : Type 0} (t : Bool) (x y : A) → t ≡ false → (if t then x else y) ≡ y
if_false {A} t x y e = ap (λ (u : Bool). if u then x else y) e

pub ruleset cases = (lt-ltb, le-ltb, le-leb, lt-leb, eq-eqb, ne_eqb, if_true, if_false, rules)
