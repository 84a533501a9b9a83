-- The promises of the exported calls: what each says, and what it leaves in the memory that it is lent.
use Rattle.std.specs.Prelude.{ℕ, List, ◌≡◌}
use Rattle.boxes.specs.Answer.{given, ◌>>=◌}
use Rattle.boxes.specs.Framing.{Box}
use Rattle.additions.specs.Addition.{Addition}
use Rattle.additions.specs.Append.{appended, result}
use Rattle.additions.specs.Begin.{begun, beginning}
use Rattle.heading.specs.Facts.{told}
use Rattle.partial.specs.Heading.{Part, heading}
use Rattle.partial.specs.Limits.{source_limit}
use Rattle.partial.specs.Memory.{after, written, text_written}
use Rattle.partial.specs.Reading.{reading}
use Rattle.partial.specs.declared.brand.Brand.{Brand}
use Rattle.partial.specs.Tables.{index_tabled, index_table, index_count}
use Rattle.partial.specs.Tables.{tabled, listed, summary, totals, served_part, asked, text_of, had_rows, missing_rows}
use Rattle.partial.specs.Texts.{source_text_of, texts_for, lengths_for, texts_tabled}
use Rattle.reading.specs.Tables.{Filled}
use Rattle.surltexts.specs.Calls.{amounts}
use Rattle.vrazhupa.specs.Says.{Says, heading_numbers, summary_numbers, totals_numbers, reply_numbers, part_numbers, texts_numbers, one_number}

-- the heading alone, so that a file that was only begun is told of too
pub record SaysHeaded (f before after : List ℕ) (r : ℕ) : Type 0 where
  pub said : Says heading_numbers (told f (heading f)) before after r

-- reading, serving, asking and listing, of a source
pub record SaysRead (f : List ℕ) (source : ℕ) (segments segments' chunks chunks' told told' : List ℕ) (r : ℕ) : Type 0 where
  pub said : Says summary_numbers (tabled source_limit f segments chunks >>= λ ss. given (summary source ss)) told told' r
  pub tables : Filled (tabled source_limit f segments chunks) segments segments' chunks chunks'

-- one of the two texts of the first `surl` in `pfil`
pub record SaysText (which : List ℕ → Box → Part) (f told told' : List ℕ) (r : ℕ) : Type 0 where
  pub said : Says (λ ss. part_numbers (text_of which source_limit f)) (reading source_limit f) told told' r

-- one of the two first texts of a source
pub record SaysSourceText (which : List ℕ → Box → Part) (f : List ℕ) (source : ℕ) (told told' : List ℕ) (r : ℕ) : Type 0 where
  pub said : Says part_numbers (source_text_of which source_limit f source) told told' r

-- how many bytes the texts of a segment have and how many lengths there are, and both in the lent memory
pub record SaysTexts (f : List ℕ) (segment : ℕ) (texts texts' lengths lengths' told told' : List ℕ) (r : ℕ) : Type 0 where
  pub said : Says texts_numbers (texts_tabled source_limit f segment texts lengths >>= λ surls. given (amounts surls)) told told' r
  pub bytes : texts' ≡ after texts_for (texts_tabled source_limit f segment texts lengths) texts
  pub numbers : lengths' ≡ after lengths_for (texts_tabled source_limit f segment texts lengths) lengths

-- the part that serves a position: its place in the file, and its length
pub record SaysServed (f : List ℕ) (source : ℕ) (segments segments' chunks chunks' : List ℕ) (p : ℕ) (told told' : List ℕ) (r : ℕ) : Type 0 where
  pub said : Says (λ ss. part_numbers (served_part (given ss) source p)) (tabled source_limit f segments chunks) told told' r
  pub tables : Filled (tabled source_limit f segments chunks) segments segments' chunks chunks'

pub record SaysAsked (f : List ℕ) (source : ℕ) (segments segments' chunks chunks' : List ℕ) (p : ℕ) (told told' : List ℕ) (r : ℕ) : Type 0 where
  pub said : Says reply_numbers (asked (tabled source_limit f segments chunks) source p) told told' r
  pub tables : Filled (tabled source_limit f segments chunks) segments segments' chunks chunks'

pub record SaysListed (f : List ℕ) (source : ℕ) (segments segments' chunks chunks' had had' missing missing' told told' : List ℕ) (r : ℕ) : Type 0 where
  pub said : Says totals_numbers (listed source_limit f source segments chunks had missing >>= λ ss. given (totals source ss)) told told' r
  pub tables : Filled (listed source_limit f source segments chunks had missing) segments segments' chunks chunks'
  pub had_table : had' ≡ after (had_rows source) (listed source_limit f source segments chunks had missing) had
  pub missing_table : missing' ≡ after (missing_rows source) (listed source_limit f source segments chunks had missing) missing

-- how many rows the index has, and the rows in the table
pub record SaysIndexed (f table table' told told' : List ℕ) (r : ℕ) : Type 0 where
  pub said : Says one_number (index_tabled source_limit f table >>= λ index. given (index_count index)) told told' r
  pub rows : table' ≡ after index_table (index_tabled source_limit f table) table

-- a text's length, and the text in the buffer
pub record SaysPrinted (text buffer buffer' told told' : List ℕ) (r : ℕ) : Type 0 where
  pub said : Says one_number (text_written text buffer) told told' r
  pub left : buffer' ≡ written text (text_written text buffer) buffer

pub record SaysBegun (brand : Brand) (url mime buffer buffer' told told' : List ℕ) (r : ℕ) : Type 0 where
  pub said : Says one_number (begun buffer brand url mime) told told' r
  pub left : buffer' ≡ written (beginning brand url mime) (begun buffer brand url mime) buffer

pub record SaysAppended (buffer buffer' : List ℕ) (n : ℕ) (a : Addition) (told told' : List ℕ) (r : ℕ) : Type 0 where
  pub said : Says one_number (appended source_limit buffer n a) told told' r
  pub left : buffer' ≡ written (result buffer n a) (appended source_limit buffer n a) buffer
