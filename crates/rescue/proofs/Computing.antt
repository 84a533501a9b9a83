-- Which definitions are opened where the checker computes them: `unfolding computing` opens those of reading and writing
-- and these.
use Rattle.additions.proofs.Computing as writing
use Rattle.rescue.specs.Kept
use Rattle.rescue.specs.Copy
use Rattle.rescue.specs.Lines
use Rattle.rescue.specs.Table

unfoldable pub computing : Unit {0}
unfolding
    writing.computing
    Kept.walk_of Kept.framed Kept.first_two Kept.opening Kept.lies_in Kept.beside Kept.kept_with Kept.kept_from Kept.kept_of Kept.stays Kept.fate_of Kept.fates_from
    Kept.fates
    Copy.box_bytes Copy.unindexed Copy.size_of Copy.reheaded Copy.copy_size Copy.new_place Copy.offset_to Copy.placed_anew Copy.ploc_bytes Copy.inner_bytes Copy.copy_of
    Copy.copied Copy.salvage Copy.salvaged
    Lines.dropped_line Lines.dropped_lines Lines.salvage_text
    Table.code_of
computing = tt
