-- Laws of the table of where lists of URLs stand: an entry that is put is read back, the others stay, and zeros are the
-- entries of no list.
use Prim.Native.Nat.{ℕ, ◌+◌, ◌*◌, ◌/◌, ◌%◌, ◌≤◌, ◌<◌, min}
use mathlib.Core.Bool.{true, false}
use mathlib.Core.List.{List}
use mathlib.Core.Path.{◌≡◌, refl, sym, ap, ◌∙◌}
use native.Mathlib.Decide.{dec_le, ℕ_discrete}
use native.Mathlib.Omega.{arith}
use borrow.Author.Tests.{le-ltb, lt-ltb, ne_eqb}
use lib.Dec.{ltb}
use lib.ListN.{length, get_or, set, replicate, length-set, length-replicate, get_or-replicate}
use lib.Seq.{get_or-set_same, get_or-set_other}
use Rattle.boxes.specs.declared.kinds.Container.{Container}
use Rattle.boxes.specs.declared.kinds.Container.TheVariants.{File, Pfil, Pseg, Fidx, Bidx}
use Rattle.boxes.specs.contracts.kinds.Container.{the_type}
use denote.Enum.Declared.{tag_of}
use Rattle.partial.specs.Limits.{file_limit, segment_limit}
use Rattle.boxes.specs.declared.body.Body.{Body}
use Rattle.sources.specs.Lists.{all_lists, container_number, container_of, containers, places, body_by, no_list, list_in, ListPut, Unlisted}

-- the number of a container is that of its variant
pub container_tag : (c : Container) → tag_of the_type c ≡ container_number c
unfolding container_number
container_tag File = refl
container_tag Pfil = refl
container_tag Pseg = refl
container_tag Fidx = refl
container_tag Bidx = refl

-- a container is read back of its number
pub container_back : (c : Container) → container_of (container_number c) ≡ c
unfolding container_of container_number
container_back File = refl
container_back Pfil = refl
container_back Pseg = refl
container_back Fidx = refl
container_back Bidx = refl

-- the container of a number, by the number
pub container_by : {n : ℕ} (c : Container) → n ≡ container_number c → c ≡ container_of n
container_by c e = sym (container_back c) ∙ ap container_of (sym e)

pub container_rest : (n : ℕ) → 4 ≤ n → Bidx ≡ container_of n
unfolding container_of
container_rest n over =
    rw (container_of, ne_eqb n 0 (λ e. omega arith), ne_eqb n 1 (λ e. omega arith), ne_eqb n 2 (λ e. omega arith), ne_eqb n 3 (λ e. omega arith))

module _ (t : List ℕ) (source : ℕ) where
  pub list_past : segment_limit ≤ source → list_in t source ≡ no_list
  unfolding list_in
  list_past past = rw (le-ltb source segment_limit past, list_in)

  list_there : source < segment_limit → list_in t source ≡ body_by (get_or t source 0)
  unfolding list_in
  list_there there = rw (lt-ltb source segment_limit there, list_in)

pub list_by : (t : List ℕ) (source : ℕ) {c : Container} → source < segment_limit → c ≡ container_of (get_or t source 0 % containers)
    → record { container = c; start = record { 0 = get_or t source 0 / containers % places }; end = record { 0 = get_or t source 0 / containers / places } } ≡ list_in t source
list_by t source there e =
    (λ i. record { container = e i; start = record { 0 = get_or t source 0 / containers % places }; end = record { 0 = get_or t source 0 / containers / places } })
    ∙ sym (list_there t source there)

-- two tables have the same entry of a source where its number is the same
list_same_number : (t t' : List ℕ) (source : ℕ) → get_or t source 0 ≡ get_or t' source 0 → list_in t source ≡ list_in t' source
unfolding list_in
list_same_number t t' source same = ap (λ (n : ℕ). elim (ltb source segment_limit) [ true ↦ body_by n | false ↦ no_list ]) same

-- a table of zeros
pub zeros_unlisted : Unlisted (replicate all_lists 0)
unfolding container_of
zeros_unlisted =
    record {
      long = length-replicate {A = ℕ} all_lists 0;
      none = λ source.
          elim (dec_le segment_limit source) [
            | yes past ↦ list_past (replicate all_lists 0) source past
            | no there ↦ list_there (replicate all_lists 0) source (omega arith) ∙ ap body_by (get_or-replicate all_lists source 0 0 (omega arith))
          ];
    }

-- ---- the number of an entry

pub container_low : (c : Container) → container_number c ≤ 4
unfolding container_number
container_low File = omega arith
container_low Pfil = omega arith
container_low Pseg = omega arith
container_low Fidx = omega arith
container_low Bidx = omega arith

-- of three numbers that have room in it, which are read back
module _ (c start end : ℕ) (low : c ≤ 4) (starts : start ≤ file_limit) (ends : end ≤ file_limit) where
  abbrev packed : ℕ
  packed = c + containers * (start + places * end)

  packed_container : packed % containers ≡ c
  packed_container = omega arith

  packed_above : packed / containers ≡ start + places * end
  packed_above = omega arith

  packed_start : packed / containers % places ≡ start
  packed_start = ap (λ (n : ℕ). n % places) packed_above ∙ omega arith

  packed_end : packed / containers / places ≡ end
  packed_end = ap (λ (n : ℕ). n / places) packed_above ∙ omega arith

-- nothing is put where the table has no such entry
pub list_put_past : (t : List ℕ) (source : ℕ) (x : Body) → segment_limit ≤ source → ListPut t source x t
list_put_past t source x past = record { long = refl; here = λ there. absurd (omega arith); others = λ k other. refl }

-- else its number is
pub list_put_there : (t : List ℕ) (source : ℕ) (x : Body) {number start end : ℕ} → number ≡ container_number x.container → start ≡ min x.start.0 file_limit → end ≡ min x.end.0 file_limit
    → source < segment_limit
    → ListPut t source x (set t source (number + containers * (start + places * end)))
list_put_there t source x {number} {start} {end} e starts ends there =
    let put = set t source (number + containers * (start + places * end)) in
    let low : number ≤ 4 = omega (arith, container_low x.container) in
    let start_low : start ≤ file_limit = omega arith in
    let end_low : end ≤ file_limit = omega arith in
    let container = ap container_of (packed_container number start end low start_low end_low ∙ e) ∙ container_back x.container in
    let start_back = packed_start number start end low start_low end_low ∙ starts in
    let end_back = packed_end number start end low start_low end_low ∙ ends in
    record {
      long = simp length-set;
      here = λ _ long.
          list_there put source there
          ∙ ap body_by (get_or-set_same t source (number + containers * (start + places * end)) 0 (omega arith))
          ∙ (λ i. record { container = container i; start = record { 0 = start_back i }; end = record { 0 = end_back i } });
      others = λ k other. list_same_number put t k (get_or-set_other t source k (number + containers * (start + places * end)) 0 other);
    }

-- two tables after the same was put have the same entries
pub list_put_one : {t t' t'' : List ℕ} {source : ℕ} {x : Body} → length t ≡ all_lists → ListPut t source x t' → ListPut t source x t'' → (k : ℕ) → list_in t' k ≡ list_in t'' k
list_put_one {t} {t'} {t''} {source} long p q k =
    elim (ℕ_discrete k source) [
      | yes same ↦
          elim (dec_le segment_limit k) [
            | yes past ↦ list_past t' k past ∙ sym (list_past t'' k past)
            | no there ↦ rw same (p.here (omega arith) long ∙ sym (q.here (omega arith) long))
          ]
      | no other ↦ p.others k other ∙ sym (q.others k other)
    ]
