-- The first two bytes tell in which base to read.
use Rattle.std.proofs.Common.{refl}
use mathlib.Core.Path.{sym, ◌∙◌}
use Rattle.literal.proofs.Literals.{empty, decimal, zero_alone, hexadecimal, octal}
use Rattle.literal.proofs.literal.Goals as goal

pub returns-in_default : goal.returns-in_default
returns-in_default c = empty _ _ c.skip-a.ensures _ refl c.in_default.ensures.lookup.3

pub returns-then-first-ne48 : goal.returns-then-first-ne48
returns-then-first-ne48 c =
    let (h, e) = c.in-Some.ensures.lookup.3 in
    decimal _ _ c.skip-a.ensures _ h (λ z. c.if-first-ne48.true (e 0 ∙ z)) c.number.ensures

pub returns-in_default-get : goal.returns-in_default-get
returns-in_default-get c =
    let (h, e) = c.in-Some.ensures.lookup.3 in
    zero_alone _ _ c.skip-a.ensures _ h (sym (e 0) ∙ c.if-first-ne48.false) _ c.skip-b.ensures refl c.in_default-get.ensures.lookup.3

pub returns-in-120 : goal.returns-in-120
returns-in-120 c =
    let (h, e) = c.in-Some.ensures.lookup.3 in
    let (k, q) = c.in-Some-get.ensures.lookup.3 in
    hexadecimal _ _ c.skip-a.ensures _ h (sym (e 0) ∙ c.if-first-ne48.false) _ c.skip-b.ensures k _ (q 0) c.in-120.is c.number-in-120.ensures

pub returns-in_default-second : goal.returns-in_default-second
returns-in_default-second c =
    let (h, e) = c.in-Some.ensures.lookup.3 in
    let (k, q) = c.in-Some-get.ensures.lookup.3 in
    octal _ _ c.skip-a.ensures _ h (sym (e 0) ∙ c.if-first-ne48.false) _ c.skip-b.ensures k _ (q 0) c.in_default-second.in_default-second-own.rest.1 c.number-in_default-second.ensures
