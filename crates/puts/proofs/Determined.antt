-- Each public call's contract determines its answer and what it leaves in the buffer: two that it allows of the same
-- arguments are equal. Where pieces follow one another that is said where they end within the buffer; of a box, too,
-- that 32 bits hold its size, of an entry that its widths hold its size
-- and offset, and of `pdat` and `pseg` that what is handed over of their chunk list is right.
use Prim.Native.Nat.{ℕ, ◌+◌, ◌^◌, ◌≤◌, ◌<◌}
use mathlib.Core.List.{List, []}
use mathlib.Core.Path.{◌≡◌, sym, ◌∙◌}
use lib.ListN.{length}
use Rattle.numerals.specs.declared.place.Place.{Place}
use Rattle.numerals.proofs.Determined.{OneResult, OneLeft, OneKnown, OneLeftKnown}
use Rattle.additions.specs.Addition.{asks, items, size_of, surls_of, goes_out, goes_in, data_for}
use Rattle.additions.specs.Append.{surl_boxes}
use Rattle.additions.specs.Begin.{surl_box}
use Rattle.adding.specs.Counts.{Whole}
use Rattle.adding.specs.Layout.{PsegLaid}
use Rattle.partial.specs.Limits.{file_limit}
use Rattle.puts.specs.Boxes.{ftyp_box, pfhd_box, pfil_box, chosen, data_part, pseg_box}
use Rattle.puts.specs.Entries.{entry_of, Entry, Fits}
use Rattle.puts.specs.Pieces.{PutsPieces}
use Rattle.puts.proofs.ftyp.put_ftyp.Reads as put-ftyp
use Rattle.puts.proofs.pdat.put_chosen.Reads as put-chosen
use Rattle.puts.proofs.pdat.put_pdat.Reads as put-pdat
use Rattle.puts.proofs.pfil.put_pfhd.Reads as put-pfhd
use Rattle.puts.proofs.pfil.put_pfil.Reads as put-pfil
use Rattle.puts.proofs.pieces.put_bytes.Reads as put-bytes
use Rattle.puts.proofs.pieces.put_field.Reads as put-field
use Rattle.puts.proofs.pieces.put_front.Reads as put_front
use Rattle.puts.proofs.pieces.put_large_front.Reads as put-large-front
use Rattle.puts.proofs.pieces.put_offset.Reads as put-offset
use Rattle.puts.proofs.ploc.put_entry.Reads as put-entry
use Rattle.puts.proofs.pseg.put_pseg.Reads as put-pseg
use Rattle.puts.proofs.surl.put_surl.Reads as put-surl
use Rattle.puts.proofs.surl.put_surls.Reads as put-surls

-- a place is its number
same_place : {x y : Place} → x.0 ≡ y.0 → x ≡ y
same_place e = λ i. record { 0 = e i }

-- ---- one piece

put_bytes_result : OneResult put-bytes.Post
put_bytes_result κs args x y after after' p q = same_place (p.end ∙ sym q.end)

put_bytes_bytes : OneLeft put-bytes.Post (λ κs after. after.0.now)
put_bytes_bytes κs args x y after after' p q = p.left ∙ sym q.left

put_field_result : OneResult put-field.Post
put_field_result κs args x y after after' p q = same_place (p.end ∙ sym q.end)

put_field_bytes : OneLeft put-field.Post (λ κs after. after.0.now)
put_field_bytes κs args x y after after' p q = p.left ∙ sym q.left

put_offset_result : OneResult put-offset.Post
put_offset_result κs args x y after after' p q = same_place (p.end ∙ sym q.end)

put_offset_bytes : OneLeft put-offset.Post (λ κs after. after.0.now)
put_offset_bytes κs args x y after after' p q = p.left ∙ sym q.left

put_front-result : OneResult put_front.Post
put_front-result κs args x y after after' p q = same_place (p.end ∙ sym q.end)

put_front_bytes : OneLeft put_front.Post (λ κs after. after.0.now)
put_front_bytes κs args x y after after' p q = p.left ∙ sym q.left

put_large-front-result : OneResult put-large-front.Post
put_large-front-result κs args x y after after' p q = same_place (p.end ∙ sym q.end)

put_large-front_bytes : OneLeft put-large-front.Post (λ κs after. after.0.now)
put_large-front_bytes κs args x y after after' p q = p.left ∙ sym q.left

-- ---- pieces one behind the other

-- they end within the buffer
abbrev Room : List ℕ → ℕ → List ℕ → Type 0
Room s at bytes = (at + length bytes ≤ length s) × (at + length bytes < 2 ^ 64)

module _ {s : List ℕ} {at : ℕ} {bytes t t' : List ℕ} {m m' : Place} (p : PutsPieces s at bytes t m.0) (q : PutsPieces s at bytes t' m'.0) (room : Room s at bytes) where
  one_end : m ≡ m'
  one_end = same_place ((p.puts room.1).end ∙ sym (q.puts room.1).end)

  one_left : t ≡ t'
  one_left = (p.puts room.1).put.held room.0 ∙ sym ((q.puts room.1).put.held room.0)

put_ftyp-result : OneKnown put-ftyp.Post (λ κs args (_ : Unit {0}). Room args.0.now args.1.0.0 (ftyp_box args.1.1.0))
put_ftyp-result κs args _ room x y after after' p q = one_end p q room

put_ftyp_bytes : OneLeftKnown put-ftyp.Post (λ κs args (_ : Unit {0}). Room args.0.now args.1.0.0 (ftyp_box args.1.1.0)) (λ κs after. after.0.now)
put_ftyp_bytes κs args _ room x y after after' p q = one_left p q room

put_pfhd-result : OneKnown put-pfhd.Post (λ κs args (_ : Unit {0}). Room args.0.now args.1.0.0 pfhd_box)
put_pfhd-result κs args _ room x y after after' p q = one_end p q room

put_pfhd_bytes : OneLeftKnown put-pfhd.Post (λ κs args (_ : Unit {0}). Room args.0.now args.1.0.0 pfhd_box) (λ κs after. after.0.now)
put_pfhd_bytes κs args _ room x y after after' p q = one_left p q room

put_surl-result : OneKnown put-surl.Post (λ κs args (_ : Unit {0}). (length (surl_box args.1.1.0.now args.1.1.1.0.now) < 2 ^ 32) × Room args.0.now args.1.0.0 (surl_box args.1.1.0.now args.1.1.1.0.now))
put_surl-result κs args _ (a, room) x y after after' p q = one_end (p a) (q a) room

put_surl_bytes : OneLeftKnown put-surl.Post (λ κs args (_ : Unit {0}). (length (surl_box args.1.1.0.now args.1.1.1.0.now) < 2 ^ 32) × Room args.0.now args.1.0.0 (surl_box args.1.1.0.now args.1.1.1.0.now)) (λ κs after. after.0.now)
put_surl_bytes κs args _ (a, room) x y after after' p q = one_left (p a) (q a) room

put_surls-result : OneKnown put-surls.Post (λ κs args (_ : Unit {0}). (length (surl_boxes (surls_of args.1.1.0.now args.1.1.1.0.now)) < 2 ^ 32) × Room args.0.now args.1.0.0 (surl_boxes (surls_of args.1.1.0.now args.1.1.1.0.now)))
put_surls-result κs args _ (a, room) x y after after' p q = one_end (p a) (q a) room

put_surls_bytes : OneLeftKnown put-surls.Post (λ κs args (_ : Unit {0}). (length (surl_boxes (surls_of args.1.1.0.now args.1.1.1.0.now)) < 2 ^ 32) × Room args.0.now args.1.0.0 (surl_boxes (surls_of args.1.1.0.now args.1.1.1.0.now))) (λ κs after. after.0.now)
put_surls_bytes κs args _ (a, room) x y after after' p q = one_left (p a) (q a) room

put_pfil-result : OneKnown put-pfil.Post (λ κs args (_ : Unit {0}). (length (pfil_box args.1.1.0.now args.1.1.1.0.now) < 2 ^ 32) × Room args.0.now args.1.0.0 (pfil_box args.1.1.0.now args.1.1.1.0.now))
put_pfil-result κs args _ (a, room) x y after after' p q = one_end (p a) (q a) room

put_pfil_bytes : OneLeftKnown put-pfil.Post (λ κs args (_ : Unit {0}). (length (pfil_box args.1.1.0.now args.1.1.1.0.now) < 2 ^ 32) × Room args.0.now args.1.0.0 (pfil_box args.1.1.0.now args.1.1.1.0.now)) (λ κs after. after.0.now)
put_pfil_bytes κs args _ (a, room) x y after after' p q = one_left (p a) (q a) room

put_chosen-result : OneKnown put-chosen.Post (λ κs args (_ : Unit {0}). Room args.0.now args.1.0.0 (data_for (chosen args.1.1.0 args.1.1.1.0) (items args.1.1.1.1.0.now) args.1.1.1.1.1.0.now))
put_chosen-result κs args _ room x y after after' p q = one_end p q room

put_chosen_bytes : OneLeftKnown put-chosen.Post (λ κs args (_ : Unit {0}). Room args.0.now args.1.0.0 (data_for (chosen args.1.1.0 args.1.1.1.0) (items args.1.1.1.1.0.now) args.1.1.1.1.1.0.now)) (λ κs after. after.0.now)
put_chosen_bytes κs args _ room x y after after' p q = one_left p q room

put_pdat-result : OneKnown put-pdat.Post (λ κs args (_ : Unit {0}). (args.1.1.1.1.0 ≡ length (data_for (goes_in args.1.1.0) (items args.1.1.1.1.1.0.now) args.1.1.1.1.1.1.0.now)) × (length (data_part args.1.1.0 args.1.1.1.0 args.1.1.1.1.1.0.now args.1.1.1.1.1.1.0.now) < 2 ^ 32) × Room args.0.now args.1.0.0 (data_part args.1.1.0 args.1.1.1.0 args.1.1.1.1.1.0.now args.1.1.1.1.1.1.0.now))
put_pdat-result κs args _ (a, b, room) x y after after' p q = one_end (p a b) (q a b) room

put_pdat_bytes : OneLeftKnown put-pdat.Post (λ κs args (_ : Unit {0}). (args.1.1.1.1.0 ≡ length (data_for (goes_in args.1.1.0) (items args.1.1.1.1.1.0.now) args.1.1.1.1.1.1.0.now)) × (length (data_part args.1.1.0 args.1.1.1.0 args.1.1.1.1.1.0.now args.1.1.1.1.1.1.0.now) < 2 ^ 32) × Room args.0.now args.1.0.0 (data_part args.1.1.0 args.1.1.1.0 args.1.1.1.1.1.0.now args.1.1.1.1.1.1.0.now)) (λ κs after. after.0.now)
put_pdat_bytes κs args _ (a, b, room) x y after after' p q = one_left (p a b) (q a b) room

put_entry-result : OneKnown put-entry.Post (λ κs args (_ : Unit {0}). Entry args.1.1.0.size args.1.1.0.offset args.1.1.1.0 args.1.1.1.1.0 args.1.1.1.1.1.0 × Room args.0.now args.1.0.0 (entry_of args.1.1.0.size args.1.1.0.offset args.1.1.1.0 args.1.1.1.1.0 args.1.1.1.1.1.0))
put_entry-result κs args _ (a, room) x y after after' p q = one_end (p a) (q a) room

put_entry_bytes : OneLeftKnown put-entry.Post (λ κs args (_ : Unit {0}). Entry args.1.1.0.size args.1.1.0.offset args.1.1.1.0 args.1.1.1.1.0 args.1.1.1.1.1.0 × Room args.0.now args.1.0.0 (entry_of args.1.1.0.size args.1.1.0.offset args.1.1.1.0 args.1.1.1.1.0 args.1.1.1.1.1.0)) (λ κs after. after.0.now)
put_entry_bytes κs args _ (a, room) x y after after' p q = one_left (p a) (q a) room

put_pseg-result : OneKnown put-pseg.Post (λ κs args (_ : Unit {0}). Whole (items args.1.1.0.list.now) args.1.1.1.0 × PsegLaid (asks args.1.1.0.header args.1.1.0.outside args.1.1.0.list.now [] args.1.1.0.texts.now args.1.1.0.lengths.now) args.1.1.1.1.0 × Fits (items args.1.1.0.list.now) × (args.1.1.1.1.1.0 ≡ size_of (goes_out args.1.1.0.outside) (items args.1.1.0.list.now)) × (length (pseg_box args.1.1.0.header args.1.1.0.outside args.1.1.0.list.now args.1.1.0.texts.now args.1.1.0.lengths.now) ≤ file_limit) × Room args.0.now args.1.0.0 (pseg_box args.1.1.0.header args.1.1.0.outside args.1.1.0.list.now args.1.1.0.texts.now args.1.1.0.lengths.now))
put_pseg-result κs args _ (a, b, c, d, e, room) x y after after' p q = one_end (p a b c d e) (q a b c d e) room

put_pseg_bytes : OneLeftKnown put-pseg.Post (λ κs args (_ : Unit {0}). Whole (items args.1.1.0.list.now) args.1.1.1.0 × PsegLaid (asks args.1.1.0.header args.1.1.0.outside args.1.1.0.list.now [] args.1.1.0.texts.now args.1.1.0.lengths.now) args.1.1.1.1.0 × Fits (items args.1.1.0.list.now) × (args.1.1.1.1.1.0 ≡ size_of (goes_out args.1.1.0.outside) (items args.1.1.0.list.now)) × (length (pseg_box args.1.1.0.header args.1.1.0.outside args.1.1.0.list.now args.1.1.0.texts.now args.1.1.0.lengths.now) ≤ file_limit) × Room args.0.now args.1.0.0 (pseg_box args.1.1.0.header args.1.1.0.outside args.1.1.0.list.now args.1.1.0.texts.now args.1.1.0.lengths.now)) (λ κs after. after.0.now)
put_pseg_bytes κs args _ (a, b, c, d, e, room) x y after after' p q = one_left (p a b c d e) (q a b c d e) room
