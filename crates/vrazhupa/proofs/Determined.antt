-- Each exported call's contract determines its answer, the lent numbers and all other lent memory: two that it allows
-- of the same arguments are equal.
use mathlib.Core.Path.{sym, ◌∙◌}
use Rattle.numerals.proofs.Determined.{OneResult, OneLeft}
use Rattle.vrazhupa.proofs.reading_calls.vrazhupa_ask.Reads as ask
use Rattle.vrazhupa.proofs.reading_calls.vrazhupa_index.Reads as index
use Rattle.vrazhupa.proofs.reading_calls.vrazhupa_list.Reads as list
use Rattle.vrazhupa.proofs.reading_calls.vrazhupa_boxes.Reads as boxes
use Rattle.vrazhupa.proofs.reading_calls.vrazhupa_heading.Reads as heading
use Rattle.vrazhupa.proofs.reading_calls.vrazhupa_map.Reads as map
use Rattle.vrazhupa.proofs.reading_calls.vrazhupa_mime.Reads as mime
use Rattle.vrazhupa.proofs.reading_calls.vrazhupa_missmap.Reads as missmap
use Rattle.vrazhupa.proofs.reading_calls.vrazhupa_read.Reads as read
use Rattle.vrazhupa.proofs.reading_calls.vrazhupa_serve.Reads as serve
use Rattle.vrazhupa.proofs.reading_calls.vrazhupa_source_mime.Reads as source-mime
use Rattle.vrazhupa.proofs.reading_calls.vrazhupa_source_url.Reads as source-url
use Rattle.vrazhupa.proofs.reading_calls.vrazhupa_texts.Reads as texts
use Rattle.vrazhupa.proofs.reading_calls.vrazhupa_url.Reads as url
use Rattle.vrazhupa.proofs.writing_calls.vrazhupa_append.Reads as append
use Rattle.vrazhupa.proofs.writing_calls.vrazhupa_begin.Reads as begin

heading-result : OneResult heading.Post
heading-result κs args x y after after' p q = p.said.number ∙ sym q.said.number

heading-told : OneLeft heading.Post (λ κs after. after.1.0.now)
heading-told κs args x y after after' p q = p.said.values ∙ sym q.said.values

read_result : OneResult read.Post
read_result κs args x y after after' p q = p.said.number ∙ sym q.said.number

read_told : OneLeft read.Post (λ κs after. after.1.1.1.1.0.now)
read_told κs args x y after after' p q = p.said.values ∙ sym q.said.values

read_segments : OneLeft read.Post (λ κs after. after.1.0.now)
read_segments κs args x y after after' p q = p.tables.segment_table ∙ sym q.tables.segment_table

read_chunks : OneLeft read.Post (λ κs after. after.1.1.0.now)
read_chunks κs args x y after after' p q = p.tables.chunk_table ∙ sym q.tables.chunk_table

url-result : OneResult url.Post
url-result κs args x y after after' p q = p.said.number ∙ sym q.said.number

url-told : OneLeft url.Post (λ κs after. after.1.0.now)
url-told κs args x y after after' p q = p.said.values ∙ sym q.said.values

mime-result : OneResult mime.Post
mime-result κs args x y after after' p q = p.said.number ∙ sym q.said.number

mime-told : OneLeft mime.Post (λ κs after. after.1.0.now)
mime-told κs args x y after after' p q = p.said.values ∙ sym q.said.values

source_url-result : OneResult source-url.Post
source_url-result κs args x y after after' p q = p.said.number ∙ sym q.said.number

source_url-told : OneLeft source-url.Post (λ κs after. after.1.1.0.now)
source_url-told κs args x y after after' p q = p.said.values ∙ sym q.said.values

source_mime-result : OneResult source-mime.Post
source_mime-result κs args x y after after' p q = p.said.number ∙ sym q.said.number

source_mime-told : OneLeft source-mime.Post (λ κs after. after.1.1.0.now)
source_mime-told κs args x y after after' p q = p.said.values ∙ sym q.said.values

texts_result : OneResult texts.Post
texts_result κs args x y after after' p q = p.said.number ∙ sym q.said.number

texts_told : OneLeft texts.Post (λ κs after. after.1.1.1.1.0.now)
texts_told κs args x y after after' p q = p.said.values ∙ sym q.said.values

texts_bytes : OneLeft texts.Post (λ κs after. after.1.1.0.now)
texts_bytes κs args x y after after' p q = p.bytes ∙ sym q.bytes

texts_lengths : OneLeft texts.Post (λ κs after. after.1.1.1.0.now)
texts_lengths κs args x y after after' p q = p.numbers ∙ sym q.numbers

serve_result : OneResult serve.Post
serve_result κs args x y after after' p q = p.said.number ∙ sym q.said.number

serve_told : OneLeft serve.Post (λ κs after. after.1.1.1.1.1.0.now)
serve_told κs args x y after after' p q = p.said.values ∙ sym q.said.values

serve_segments : OneLeft serve.Post (λ κs after. after.1.0.now)
serve_segments κs args x y after after' p q = p.tables.segment_table ∙ sym q.tables.segment_table

serve_chunks : OneLeft serve.Post (λ κs after. after.1.1.0.now)
serve_chunks κs args x y after after' p q = p.tables.chunk_table ∙ sym q.tables.chunk_table

ask_result : OneResult ask.Post
ask_result κs args x y after after' p q = p.said.number ∙ sym q.said.number

ask_told : OneLeft ask.Post (λ κs after. after.1.1.1.1.1.0.now)
ask_told κs args x y after after' p q = p.said.values ∙ sym q.said.values

ask_segments : OneLeft ask.Post (λ κs after. after.1.0.now)
ask_segments κs args x y after after' p q = p.tables.segment_table ∙ sym q.tables.segment_table

ask_chunks : OneLeft ask.Post (λ κs after. after.1.1.0.now)
ask_chunks κs args x y after after' p q = p.tables.chunk_table ∙ sym q.tables.chunk_table

list_result : OneResult list.Post
list_result κs args x y after after' p q = p.said.number ∙ sym q.said.number

list_told : OneLeft list.Post (λ κs after. after.1.1.1.1.1.1.0.now)
list_told κs args x y after after' p q = p.said.values ∙ sym q.said.values

list_segments : OneLeft list.Post (λ κs after. after.1.0.now)
list_segments κs args x y after after' p q = p.tables.segment_table ∙ sym q.tables.segment_table

list_chunks : OneLeft list.Post (λ κs after. after.1.1.0.now)
list_chunks κs args x y after after' p q = p.tables.chunk_table ∙ sym q.tables.chunk_table

list_had : OneLeft list.Post (λ κs after. after.1.1.1.1.0.now)
list_had κs args x y after after' p q = p.had_table ∙ sym q.had_table

list_missing : OneLeft list.Post (λ κs after. after.1.1.1.1.1.0.now)
list_missing κs args x y after after' p q = p.missing_table ∙ sym q.missing_table

index-result : OneResult index.Post
index-result κs args x y after after' p q = p.said.number ∙ sym q.said.number

index-told : OneLeft index.Post (λ κs after. after.1.1.0.now)
index-told κs args x y after after' p q = p.said.values ∙ sym q.said.values

index-rows : OneLeft index.Post (λ κs after. after.1.0.now)
index-rows κs args x y after after' p q = p.rows ∙ sym q.rows

map-result : OneResult map.Post
map-result κs args x y after after' p q = p.said.number ∙ sym q.said.number

map-told : OneLeft map.Post (λ κs after. after.1.1.1.0.now)
map-told κs args x y after after' p q = p.said.values ∙ sym q.said.values

map_bytes : OneLeft map.Post (λ κs after. after.1.1.0.now)
map_bytes κs args x y after after' p q = p.left ∙ sym q.left

missmap_result : OneResult missmap.Post
missmap_result κs args x y after after' p q = p.said.number ∙ sym q.said.number

missmap_told : OneLeft missmap.Post (λ κs after. after.1.1.1.0.now)
missmap_told κs args x y after after' p q = p.said.values ∙ sym q.said.values

missmap_bytes : OneLeft missmap.Post (λ κs after. after.1.1.0.now)
missmap_bytes κs args x y after after' p q = p.left ∙ sym q.left

boxes_result : OneResult boxes.Post
boxes_result κs args x y after after' p q = p.said.number ∙ sym q.said.number

boxes_told : OneLeft boxes.Post (λ κs after. after.1.1.1.0.now)
boxes_told κs args x y after after' p q = p.said.values ∙ sym q.said.values

boxes_bytes : OneLeft boxes.Post (λ κs after. after.1.1.0.now)
boxes_bytes κs args x y after after' p q = p.left ∙ sym q.left

begin-result : OneResult begin.Post
begin-result κs args x y after after' p q = p.said.number ∙ sym q.said.number

begin-told : OneLeft begin.Post (λ κs after. after.1.1.1.1.0.now)
begin-told κs args x y after after' p q = p.said.values ∙ sym q.said.values

begin_bytes : OneLeft begin.Post (λ κs after. after.0.now)
begin_bytes κs args x y after after' p q = p.left ∙ sym q.left

append-result : OneResult append.Post
append-result κs args x y after after' p q = p.said.number ∙ sym q.said.number

append-told : OneLeft append.Post (λ κs after. after.1.1.1.1.1.1.1.1.1.1.0.now)
append-told κs args x y after after' p q = p.said.values ∙ sym q.said.values

append_bytes : OneLeft append.Post (λ κs after. after.0.now)
append_bytes κs args x y after after' p q = p.left ∙ sym q.left
