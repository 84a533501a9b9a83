-- `puts::ploc::flags_of` meets its contract.
use Rattle.additions.specs.Append.{flag_byte}
use Rattle.partial.specs.Segments.{present, corrupted}
use Rattle.puts.proofs.ploc.flags_of.Goals as goal

pub returns-in-Good : goal.returns-in-Good
unfolding flag_byte present corrupted
returns-in-Good c = rw c.in-Good.is

pub returns-in-Damaged : goal.returns-in-Damaged
unfolding flag_byte present corrupted
returns-in-Damaged c = rw c.in-Damaged.is

pub returns-in-Lost : goal.returns-in-Lost
unfolding flag_byte present corrupted
returns-in-Lost c = rw c.in-Lost.is

pub returns-in-Elsewhere : goal.returns-in-Elsewhere
unfolding flag_byte present corrupted
returns-in-Elsewhere c = rw c.in-Elsewhere.is
