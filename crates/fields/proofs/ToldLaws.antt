-- Laws of what answers say: two answers that say the same are the same.
use Rattle.boxes.proofs.ToldLaws.{Tells}
use Rattle.fields.specs.Entry.{entry_of}
use Rattle.fields.specs.Location.{head_of}
use Rattle.fields.proofs.StateLaws.{state_told}

pub head-told : Tells head_of
head-told l m e =
    λ i. record { length_size = (e i).length_size; offset_size = (e i).offset_size; count = (e i).count; first = record { 0 = (e i).first }; end = record { 0 = (e i).end } }

pub entry-told : Tells entry_of
entry-told b c e = λ i. record { state = state_told b.state c.state (λ j. (e j).state) i; size = (e i).size; offset = (e i).offset; next = record { 0 = (e i).next } }
