-- Each public call's contract determines its answer: two that it allows of the same arguments are equal.
use mathlib.Core.Path.{sym, ◌∙◌}
use Rattle.numerals.proofs.Determined.{OneResult}
use Rattle.additions.proofs.header.SegmentHeader.writable.Reads as writable

writable-result : OneResult writable.Post
writable-result κs args x y after after' p q = p ∙ sym q
