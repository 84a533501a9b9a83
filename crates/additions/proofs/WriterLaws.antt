-- Demand 2, over the definitions, at any source limit that 64 bits hold.
use Prim.Native.Nat.{ℕ, ◌^◌, ◌<◌}
use mathlib.Core.List.{List, [], ◌++◌, append-nil}
use mathlib.Core.Path.{◌≡◌, refl, sym, ap, ◌∙◌}
use lib.ListN.{length, take}
use Rattle.boxes.specs.Answer.{given}
use Rattle.boxes.proofs.AnswerLaws.{given_same}
use Rattle.partial.specs.Sequences.{all_of}
use Rattle.partial.specs.Segments.{Segment}
use Rattle.partial.specs.Heading.{Heading, heading}
use Rattle.additions.specs.Addition.{Addition}
use Rattle.additions.specs.Append.{added, new_segment, appended, pseg_place}
use Rattle.additions.specs.Runs.{lent, file_in, append}
use Rattle.additions.specs.Again.{again, settled}
use Rattle.additions.specs.Demands.{Demand2}
use Rattle.partial.proofs.Demands.{demand2_of-reading}
use Rattle.additions.proofs.DataLaws.{settled-added}
use Rattle.additions.proofs.InnerLaws.{plain_body}
use Rattle.additions.proofs.ReadsBackLaws.{taken_any, file_after, reads-back, grown_heading, heading-added, admits}
use Rattle.additions.proofs.RunAgainLaws.{says_whole}
use Rattle.additions.proofs.WrittenAgainLaws.{written-again}

-- a segment that our writer adds says again what was added, with the same bytes
pub says-again : (limit : ℕ) (buffer : List ℕ) (n : ℕ) (a : Addition) (size : ℕ) (h : Heading) (us : List Segment) → appended limit buffer n a ≡ given size
    → let g = file_in (append limit (lent buffer n) a) in
    heading g ≡ given h
    → again g h (new_segment h us (pseg_place n a) a) ≡ settled a
unfolding all_of
says-again limit buffer n a size h us e head =
    let (h₀, ss, t, long, total, _) = taken_any limit buffer n a size e in
    let f : List ℕ = take n buffer in
    let (ok, _) = admits limit h₀ ss (length f) a t.admits in
    let k = grown_heading limit f h₀ ss a in
    let file = file_after limit buffer n a size e long total in
    let same : h ≡ k = given_same (sym (rw file at head) ∙ heading-added limit f h₀ ss a t.offered ok.small ok.boxes) in
    let behind : k.boxes ≡ k.boxes ++ [] = sym (append-nil k.boxes) in
    let told : again (f ++ added a) k (new_segment k us (pseg_place (length f) a) a) ≡ settled a =
    rw append-nil at (says_whole limit f h₀ ss a t [] k [] k us behind refl) in
    rw (file, same) (ap (λ (m : ℕ). again (f ++ added a) k (new_segment k us (pseg_place m a) a)) long ∙ told)

pub demand2 : (limit : ℕ) → limit < 2 ^ 64 → Demand2 limit
demand2 limit below =
    record {
      of_reading = demand2_of-reading limit;
      reads_back = reads-back limit below;
      same_again = says-again limit;
      same_bytes = settled-added;
      plain_bytes = plain_body;
      written_again = written-again limit below;
    }
