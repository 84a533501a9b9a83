-- Which definitions are opened where the checker computes them: `unfolding computing` opens those of reading and these.
use Rattle.partial.proofs.Computing as reading
use Rattle.additions.specs.Begin
use Rattle.additions.specs.Addition
use Rattle.additions.specs.Append
use Rattle.additions.specs.Runs
use Rattle.additions.specs.Again
use Rattle.additions.specs.Carried

unfoldable pub computing : Unit {0}
unfolding
    reading.computing
    Begin.brand_code Begin.beginning Begin.is_text Begin.begun
    Addition.asks Addition.items Addition.is_state Addition.list_right Addition.lengths_right Addition.lists_right Addition.data_size Addition.data_right Addition.texts_right Addition.bytes_right Addition.surls_of Addition.surls Addition.goes_out Addition.goes_in Addition.data_for Addition.boxes_for
    Addition.outside_right Addition.sayable
    Append.inside_data Append.outside_data Append.any_inside Append.data_box Append.stored Append.added_boxes Append.back Append.placed_with Append.placed Append.length_size_of Append.offset_size_of Append.flag_byte Append.entry_bytes
    Append.ploc_body Append.version_for Append.pshd_body Append.surl_boxes Append.pseg_body Append.inner_boxes Append.surls_at Append.new_urls Append.added Append.pseg_place Append.new_chunks
    Append.new_inner Append.new_segment Append.admitted Append.admission Append.appended Append.result
    Runs.buffer_in Runs.file_in Runs.size_after Runs.begin Runs.append Runs.append_all
    Again.data_of Again.list_for Again.some_outside Again.again Again.write_again
    Carried.carried_by Carried.carried
computing = tt
