-- Demand 3, over the definitions, at any source limit that 64 bits hold.
use Prim.Native.Nat.{ℕ, ◌^◌, ◌<◌}
use mathlib.Core.List.{List}
use lib.ListN.{take}
use Rattle.additions.specs.Addition.{Addition}
use Rattle.additions.specs.Runs.{file_in}
use Rattle.additions.specs.Demands.{Reasons, Demand3}
use Rattle.additions.proofs.RefusalLaws.{demand1}
use Rattle.partial.proofs.Reading.RefusalLaws.{takes}
use Rattle.partial.proofs.Meaning.SequenceLaws.{passes}
use Rattle.additions.proofs.IndexReasonLaws.{by_index}
use Rattle.additions.proofs.ReasonLaws.{length_over, file-refused, lists-wrong, bytes-wrong, outside-wrong, texts-wrong}
use Rattle.additions.proofs.ResultLaws.{by-result, overfull, too_many}
use Rattle.additions.proofs.BegunLaws.{just-begun, begins}
use Rattle.additions.proofs.BufferLaws.{earlier-kept, behind-kept, as_long}
use Rattle.additions.proofs.AcceptedLaws.{extends, after_addition, stands, accepts}

-- an addition is refused exactly where a numbered reason for additions holds, in their order
pub reasons : (limit : ℕ) (buffer : List ℕ) (n : ℕ) (a : Addition) → Reasons limit buffer n a
unfolding file_in
reasons limit buffer n a =
    record {
      length_over = length_over limit buffer n a;
      file_refused = λ k fits e other. file-refused limit buffer n a fits ((takes limit (take n buffer)).its_own k e other);
      lists_wrong = λ file. lists-wrong limit buffer n a file.enough file.headed file.before;
      bytes_wrong = λ file lists. bytes-wrong limit buffer n a file.enough file.headed file.before (passes _ lists);
      outside_wrong = λ file lists bytes. outside-wrong limit buffer n a file.enough file.headed file.before (passes _ lists) (passes _ bytes);
      texts_wrong = λ file lists bytes outer. texts-wrong limit buffer n a file.enough file.headed file.before (passes _ lists) (passes _ bytes) (passes _ outer);
      by_index = by_index limit buffer n a;
      by_result = by-result limit buffer n a;
      overfull = overfull limit buffer n a;
      too_many = too_many limit buffer n a;
    }

pub demand3 : (limit : ℕ) → limit < 2 ^ 64 → Demand3 limit
demand3 limit below =
    record {
      takes = takes limit;
      begins = begins;
      just_begun = just-begun limit;
      stands = stands limit below;
      accepts = accepts limit;
      earlier_kept = earlier-kept limit;
      behind_kept = behind-kept limit;
      as_long = as_long limit;
      extends = extends limit;
      accepted = λ buffer n a size file e. after_addition limit buffer n a size file e below;
      refused_exactly = reasons limit;
      unchanged = (demand1 limit).append_kept;
    }
