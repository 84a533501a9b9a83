-- `ends::sizes::Sizes::described` meets its contract: by whether the size is known.
use Rattle.ends.proofs.SizeLaws.{described_known, described_unknown}
use Rattle.ends.proofs.sizes.Sizes.described.Goals as goal

pub returns-in-Some : goal.returns-in-Some
returns-in-Some c = λ ss e. described_known _ ss e c.in-Some.is

pub returns-in-None : goal.returns-in-None
returns-in-None c = λ ss e. described_unknown _ ss e c.in-None.is
