-- Which definitions are opened where the checker computes them: `unfolding computing` opens all of them.
use Rattle.numerals.specs.Numbers
use Rattle.boxes.specs.Framing
use Rattle.boxes.specs.Kinds
use Rattle.partial.specs.Sequences
use Rattle.partial.specs.Segments
use Rattle.partial.specs.Heading
use Rattle.partial.specs.Mixed
use Rattle.partial.specs.Entries
use Rattle.partial.specs.Meaning
use Rattle.partial.specs.Sources
use Rattle.partial.specs.Index
use Rattle.partial.specs.Reading
use Rattle.partial.specs.Ranges
use Rattle.partial.specs.Naming
use Rattle.partial.specs.Memory
use Rattle.partial.specs.Tables
use Rattle.partial.specs.Texts
use Rattle.partial.specs.Map
use Rattle.partial.specs.BoxList

unfoldable pub computing : Unit {0}
unfolding
    Numbers.number Numbers.bytes_of Numbers.value_of Numbers.signed Numbers.twos_complement Numbers.holds Numbers.holds_offset Numbers.least
    Numbers.least_width
    Framing.user_size Framing.sized Framing.large Framing.header Framing.walked Framing.faultless Framing.boxes_from Framing.box_limit Framing.walked_in
    Framing.boxes_in Framing.box_of
    Framing.front_size Framing.front Framing.boxed
    Kinds.is Kinds.those Kinds.keeps Kinds.right_count Kinds.right Kinds.box_at Kinds.first_of
    Sequences.some_of Sequences.all_of Sequences.sum Sequences.largest Sequences.within Sequences.stretch Sequences.or_else
    Segments.present Segments.corrupted Segments.has_place Segments.is_open Segments.is_last Segments.end_of
    Segments.chunks_of
    Heading.bytes_in Heading.ftyp_right Heading.brands_from Heading.brands Heading.branded Heading.brand_right Heading.pfil_right
    Heading.pfhd_formed Heading.pfhd_right Heading.text Heading.url Heading.mime Heading.surl_formed Heading.surl_right
    Heading.urls_in Heading.file_boxes Heading.judged Heading.heading
    Mixed.allowed Mixed.fill_up Mixed.whole_boxes Mixed.boxes_of Mixed.are_boxes Mixed.boxes_many
    Entries.ploc_head Entries.state Entries.state_of Entries.entry Entries.in_data Entries.may_lie Entries.offset_place Entries.place_of
    Entries.chunk_step Entries.chunks_from
    Sources.urls_for Sources.same_list Sources.same_text Sources.same_urls Sources.source_count Sources.source_among Sources.source_beside Sources.of_source Sources.of_urls Sources.agreed
    Reading.offset_width_of Reading.pshd_fields Reading.pshd_right Reading.segment Reading.segments_from Reading.segments Reading.reading
    Reading.earlier_segments
    Meaning.gives_size Meaning.known_size Meaning.described_length Meaning.is_closed Meaning.agree Meaning.covers Meaning.supplier
    Meaning.supplied Meaning.place_of_byte Meaning.served Meaning.onward Meaning.served_run Meaning.missing_run Meaning.reply
    Index.size_by Index.front_by Index.index_fields Index.is_known Index.end_from Index.wherever Index.end_right Index.front_part Index.list_framed
    Index.last_or_sized Index.none_follows Index.with_rest Index.in_aRow Index.untold Index.index_list Index.index_in
    Index.boxes_alone Index.belonging Index.size_for Index.index_for Index.index_of_segments Index.index_of Index.has_index Index.indexed Index.served_of Index.indexed_size Index.index_row Index.index_rows
    Ranges.joined Ranges.ranges Ranges.class_of Ranges.ranges_of Ranges.of_class Ranges.had_list Ranges.missing_list Ranges.total
    Ranges.among Ranges.apart Ranges.in_row
    Memory.fits Memory.filled Memory.after Memory.text_written
    Tables.segment_row Tables.segment_rows Tables.chunk_row Tables.chunk_rows_of Tables.chunk_rows_from Tables.chunk_rows Tables.range_rows
    Tables.had_rows Tables.missing_rows Tables.tabled Tables.listed Tables.summary Tables.totals Tables.nowhere
    Tables.part_of Tables.served_part Tables.asked Tables.first_text Tables.text_of Tables.index_tabled
    Texts.list_boxes Texts.source_text Texts.source_text_of Texts.surls_in Texts.texts_for Texts.lengths_for Texts.segment_surls Texts.texts_tabled
    Naming.damaged_at Naming.named_class Naming.named_ranges Naming.held_list Naming.lost_list
    Map.ascii Map.decimal Map.line Map.refused_line Map.source_line Map.range_line Map.range_lines Map.total_line Map.map_word Map.source_map Map.miss_word Map.source_missmap
    Map.each_source Map.per_source Map.map_of Map.missmap_of
    Map.text_for Map.map_text Map.missmap_text
    BoxList.hex BoxList.prints BoxList.shown BoxList.each BoxList.type_bytes BoxList.user_bytes BoxList.box_line BoxList.fault_line BoxList.walk_lines BoxList.boxes_text
computing = tt
