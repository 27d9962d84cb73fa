use native.Mathlib.Omega.{arith}
use Rattle.arithmetic.proofs.Matches.{plus_or_dash, tilde_or_bang, no_sign}
use Rattle.arithmetic.proofs.unary.is_sign.Goals as goal

pub returns-in_default : goal.returns-in_default
returns-in_default c = no_sign _ (λ z. omega arith) (λ z. omega arith) c.in_default.in_default-own.rest.1

pub returns-in_default-2 : goal.returns-in_default-2
returns-in_default-2 c = no_sign _ (λ z. omega arith) (λ z. omega arith) c.in_default.in_default-own.rest.1

pub returns-in-5 : goal.returns-in-5
returns-in-5 c = tilde_or_bang _ c.in-5.is

pub returns-in-5-2 : goal.returns-in-5-2
returns-in-5-2 c = plus_or_dash _ (omega arith) (omega arith)
