-- `ends::sizes::Sizes::agree` meets its contract: by whether the size is known, and then by the largest end.
use Prim.Native.Nat.{◌<◌}
use borrow.Author.Tests.{le-leb, lt-leb}
use native.Mathlib.Omega.{arith}
use Rattle.ends.proofs.SizeLaws.{agree_unknown, agree_known}
use Rattle.ends.proofs.sizes.Sizes.agree.Goals as goal

pub returns-then-self-size : goal.returns-then-self-size
returns-then-self-size c = λ ss e. rw (le-leb _ _ c.if-self-size.true) at (agree_known _ ss e c.in-Some.is)

pub returns-else-self-size : goal.returns-else-self-size
returns-else-self-size c =
    λ ss e.
    let over : c.in-Some.size.0 < c.args.self.largest.0 = omega arith in
    rw (lt-leb _ _ over) (rw (lt-leb _ _ over) at (agree_known _ ss e c.in-Some.is))

pub returns-in-None : goal.returns-in-None
returns-in-None c = λ ss e. agree_unknown _ ss e c.in-None.is
