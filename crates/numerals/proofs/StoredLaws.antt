-- Laws of `stored`: what a buffer holds after bytes were written into it.
use mathlib.Core.Path.{◌≡◌, refl, sym}
use mathlib.Core.Bool.{Bool, true, false}
use mathlib.Core.List.{List, ◌++◌, append_assoc}
use Prim.Native.Nat.{ℕ, ◌+◌, ◌≤◌, ◌<◌}
use native.Mathlib.Nat.{add_assoc}
use native.Mathlib.Omega.{arith}
use borrow.Author.Tests.{le-leb, lt-leb}
use borrow.Rule.Slice.PartMut.{put_mid}
use lib.ListN.{length, take, drop, length-append, length-drop}
use lib.Seq.{length-take-le, take_at, drop_at, drop-drop}
use Rattle.numerals.specs.Stored.{room_for, stored, Stores}

module _ (s : List ℕ) (at : ℕ) (bytes : List ℕ) where
  -- with room: what was before, the bytes, what was after
  pub stored-room : at + length bytes ≤ length s → stored s at bytes ≡ take at s ++ (bytes ++ drop (at + length bytes) s)
  unfolding stored room_for
  stored-room h = rw (le-leb (at + length bytes) (length s) h, stored)

  -- that is what std leaves where a part of a buffer is written
  pub part_stored : (k : ℕ) → k ≡ length bytes → at + length bytes ≤ length s → put_mid at k s bytes ≡ stored s at bytes
  part_stored k e h = rw (e, drop-drop) (sym (stored-room h))

  -- without: as it was
  pub stored_none : length s < at + length bytes → stored s at bytes ≡ s
  unfolding stored room_for
  stored_none h = rw (lt-leb (at + length bytes) (length s) h, stored)

  -- what is before their end
  front : at + length bytes ≤ length s → length (take at s ++ bytes) ≡ at + length bytes
  front h = rw (length-append, length-take-le at s (omega arith))

  -- up to the end of the bytes: what was before, and the bytes
  pub take-stored : at + length bytes ≤ length s → take (at + length bytes) (stored s at bytes) ≡ take at s ++ bytes
  take-stored h =
      rw (stored-room h, ← append_assoc) (take_at (take at s ++ bytes) (drop (at + length bytes) s) (at + length bytes) (front h))

  -- after them: what was after
  pub drop-stored : at + length bytes ≤ length s → drop (at + length bytes) (stored s at bytes) ≡ drop (at + length bytes) s
  drop-stored h =
      rw (stored-room h, ← append_assoc) (drop_at (take at s ++ bytes) (drop (at + length bytes) s) (at + length bytes) (front h))

  -- no byte more and none less
  pub length-stored : at + length bytes ≤ length s → length (stored s at bytes) ≡ length s
  length-stored h =
      rw (stored-room h, length-append, length-append, length-take-le at s (omega arith), length-drop) (omega arith)

-- bytes stored behind others are both stored at once
pub stored-append : (s : List ℕ) (at : ℕ) (a b : List ℕ) → at + (length a + length b) ≤ length s
    → stored (stored s at a) (at + length a) b ≡ stored s at (a ++ b)
stored-append s at a b h =
    let inside : at + length a ≤ length s = omega arith in
    let size : length (stored s at a) ≡ length s = length-stored s at a inside in
    let both : length (a ++ b) ≡ length a + length b = length-append a b in
    rw (
      stored-room (stored s at a) (at + length a) b (omega arith),
      take-stored s at a inside,
      ← drop-drop (length b) (at + length a) (stored s at a),
      drop-stored s at a inside,
      drop-drop (length b) (at + length a) s,
      stored-room s at (a ++ b) (omega arith),
      both,
      ← add_assoc,
    )
    (simp append_assoc)

-- what a call that writes bytes has done
module _ (held : Bool) (s : List ℕ) (at : ℕ) (bytes : List ℕ) where
  -- of a value that is held, and with room
  pub stores_held : (exit : List ℕ) → held ≡ true → at + length bytes ≤ length s → exit ≡ stored s at bytes → Stores held s at bytes true exit
  unfolding room_for
  stores_held exit h room e = rw h (record { room = sym (le-leb (at + length bytes) (length s) room); left = e })

  -- of a value that is not held: nothing
  pub stores_unheld : held ≡ false → Stores held s at bytes false s
  stores_unheld h = rw h (record { room = refl; left = refl })

  -- without room: nothing
  pub stores_crowded : length s < at + length bytes → Stores held s at bytes false s
  unfolding room_for
  stores_crowded h = go held
    where
      go : (t : Bool) → Stores t s at bytes false s
      go true = record { room = sym (lt-leb (at + length bytes) (length s) h); left = sym (stored_none s at bytes h) }
      go false = record { room = refl; left = refl }

  module _ {answer : Bool} {exit : List ℕ} (stores : Stores held s at bytes answer exit) where
    -- of a value that is held: whether there was room, and the bytes are stored
    pub held-stored : held ≡ true → (answer ≡ room_for s at bytes) × (exit ≡ stored s at bytes)
    held-stored h = (rw h at stores.room, rw h at stores.left)

    -- the same bytes of a value that is held as well
    pub stores_same : {held' : Bool} {bytes' : List ℕ} → held ≡ held' → bytes ≡ bytes' → Stores held' s at bytes' answer exit
    stores_same h e = rw (h, e) at stores
