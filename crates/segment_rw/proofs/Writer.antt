-- The laws of a record written to a slot: when it fits, what was written then, and what no write touches.
-- Assumes nothing.
use mathlib.Core.Path.{◌≡◌, refl, sym, ap, ◌∙◌}
use mathlib.Core.Bool.{true, false, ◌&&◌}
use mathlib.Core.List.{List, ◌++◌, append_assoc}
use Prim.Native.Nat.{ℕ, ◌+◌, ◌-◌, ◌*◌, ◌≤◌, ◌<◌}
use native.Mathlib.Omega.{arith}
use lib.ListN.{length, drop, replicate, length-append, length-replicate, length-drop}
use lib.Seq.{take_all}
use lib.Dec.{leb}
use borrow.Author.Tests.{le-leb, lt-leb, leb-true}
use borrow.Rule.Slice.PartMut.{put_mid}
use Rattle.lists.specs.Splice.{part, splice, slot_of}
use Rattle.lists.proofs.Bools.{and_both}
use Rattle.lists.proofs.Cases.{pick-either}
use Rattle.lists.proofs.Splice.{part_length, part-part, splice-fits, splice-length, splice-before, splice-after, splice-grow}
use Rattle.lists.proofs.Splice.{splice-slot, splice-join, splice-same}
use Rattle.lists.proofs.SpliceWrites.{part-splice}
use Rattle.little_endian.specs.LittleEndian.{le_bytes}
use Rattle.little_endian.proofs.LittleEndian.{le-bytes-length}
use Rattle.record.specs.Record.{max_payload, header_bytes, record_room, record_bytes}
use Rattle.record.proofs.Record.{header, header-length}
use Rattle.segment.specs.Cut.{inside_of}
use Rattle.segment_rw.specs.Writer.{fits_slot, record_in, size_after, area_after, Wrote}

-- what it takes that a record fits
pub record Fits (c slot size room n bytes : ℕ) : Type 0 where
  pub small : n ≤ max_payload
  pub holds : 12 + n ≤ room
  pub room-inside : size + room ≤ c
  pub slot-inside : slot * c + c ≤ bytes

module _ (c slot size room n bytes : ℕ) where
  -- a record fits where all four hold
  pub fits-yes : Fits c slot size room n bytes → fits_slot c slot size room n bytes ≡ true
  unfolding fits_slot
  fits-yes f = simp (le-leb _ _ f.small, le-leb _ _ f.holds, le-leb _ _ f.room-inside, le-leb _ _ f.slot-inside)

  -- and only there
  pub fits-only : fits_slot c slot size room n bytes ≡ true → Fits c slot size room n bytes
  unfolding fits_slot
  fits-only e =
      let s = and_both (leb n max_payload && leb (12 + n) room && leb (size + room) c) (inside_of c slot bytes) e in
      let r = and_both (leb n max_payload && leb (12 + n) room) (leb (size + room) c) s.0 in
      let h = and_both (leb n max_payload) (leb (12 + n) room) r.0 in
      record {
        small = leb-true _ _ h.0;
        holds = leb-true _ _ h.1;
        room-inside = leb-true _ _ r.1;
        slot-inside = leb-true _ _ s.1;
      }

  -- one law for each of the first three that fails
  pub fits-not-small : max_payload < n → fits_slot c slot size room n bytes ≡ false
  unfolding fits_slot
  fits-not-small h = simp (lt-leb _ _ h)

  module _ (small : n ≤ max_payload) where
    pub fits-not-holds : room < 12 + n → fits_slot c slot size room n bytes ≡ false
    unfolding fits_slot
    fits-not-holds h = simp (le-leb _ _ small, lt-leb _ _ h)

    module _ (holds : 12 + n ≤ room) where
      pub fits-not-room : c < size + room → fits_slot c slot size room n bytes ≡ false
      unfolding fits_slot
      fits-not-room h = simp (le-leb _ _ small, le-leb _ _ holds, lt-leb _ _ h)

      -- where these three hold, the slot's place decides
      pub fits-inside : size + room ≤ c → fits_slot c slot size room n bytes ≡ inside_of c slot bytes
      unfolding fits_slot
      fits-inside h = simp (le-leb _ _ small, le-leb _ _ holds, le-leb _ _ h)

-- ---- the bytes

-- in its own room a record's bytes are its bytes
pub record-in : (room id : ℕ) (p : List ℕ) → room ≡ record_room (length p) → record_in room id p ≡ record_bytes id p
unfolding record_in record_bytes
record-in room id p e = rw e refl

-- they fill the room
pub record-in-length : (room id : ℕ) (p : List ℕ) → 12 + length p ≤ room → length (record_in room id p) ≡ room
unfolding record_in
record-in-length room id p h = simp (length-append, le-bytes-length, length-replicate) (omega arith)

-- a piece written at the front of a part that was lent from `at` to `end`
pub lent-splice : (at end : ℕ) (xs l ys : List ℕ) → at + length xs ≤ end → end ≤ length l
    → ys ≡ splice 0 xs (part at (end - at) l) → put_mid at (end - at) l ys ≡ splice at xs l
lent-splice at end xs l ys h g e =
    let k : ℕ = end - at in
    let n : ℕ = length xs in
    let lent : List ℕ = part at k l in
    let rest : List ℕ = part (at + n) (k - n) l in
    let long : length lent ≡ k = part_length at k l (omega arith) in
    let size : length ys ≡ k = ap length e ∙ splice-length 0 xs lent ∙ long in
    let none : 0 + n ≡ n = omega arith in
    let behind : drop n lent ≡ rest =
    sym (take_all (k - n) (drop n lent) (rw (length-drop, long) (omega arith))) ∙ part-part at k n (k - n) l (omega arith) in
    let is : ys ≡ xs ++ rest =
    e ∙ splice-fits 0 xs lent (omega arith) ∙ ap (λ (j : ℕ). xs ++ drop j lent) none ∙ ap (λ (z : List ℕ). xs ++ z) behind in
    part-splice at k l ys size (omega arith) ∙ ap (λ (z : List ℕ). splice at z l) is ∙ sym (splice-join at xs rest l)
    ∙ ap (λ (z : List ℕ). splice (at + n) z (splice at xs l)) (sym (splice-after at xs l (at + n) (k - n) (omega arith)))
    ∙ splice-same (at + n) (k - n) (splice at xs l) (omega (arith, splice-length at xs l))

-- header, payload and zeros, as the code writes them
pub record-written : (at room id : ℕ) (p l l₁ l₂ l₃ : List ℕ) → l₁ ≡ splice at (header_bytes (header (length p) id)) l
    → l₂ ≡ splice (at + 12) p l₁ → l₃ ≡ splice (at + 12 + length p) (replicate (at + room - (at + 12 + length p)) 0) l₂
    → l₃ ≡ splice at (record_in room id p) l
unfolding record_in header_bytes
record-written at room id p l l₁ l₂ l₃ first second third =
    let h : List ℕ = header_bytes (header (length p) id) in
    let zs : List ℕ = replicate (room - (12 + length p)) 0 in
    let zeros : at + room - (at + 12 + length p) ≡ room - (12 + length p) = omega arith in
    let twelve = header-length (header (length p) id) in
    let one : splice (at + 12) p (splice at h l) ≡ splice at (h ++ p) l =
    ap (λ (k : ℕ). splice (at + k) p (splice at h l)) (sym twelve) ∙ splice-join at h p l in
    let place : at + 12 + length p ≡ at + length (h ++ p) = omega (arith, length-append h p) in
    third ∙ rw (zeros, second, first, one, place) (splice-join at (h ++ p) zs l)
    ∙ ap (λ (m : List ℕ). splice at m l)
    (append_assoc h p zs ∙ append_assoc (le_bytes 4 (length p)) (le_bytes 8 id) (p ++ zs))

-- ---- what a write leaves alone, and what stands there afterwards

module _ (c slot size room id : ℕ) (payload area : List ℕ) where
  -- the area keeps its length
  pub area-length : length (area_after c slot size room id payload area) ≡ length area
  unfolding area_after
  area-length =
      pick-either (λ (l : List ℕ). length l ≡ length area) (fits_slot c slot size room (length payload) (length area)) _ _
      (λ e. splice-length (slot * c + size) (record_in room id payload) area) (λ e. refl)

  -- every other slot stays as it is
  pub area-other : (j : ℕ) → (slot ≡ j → ⊥) → slot_of c j (area_after c slot size room id payload area) ≡ slot_of c j area
  unfolding area_after
  area-other j apart =
      pick-either (λ (l : List ℕ). slot_of c j l ≡ slot_of c j area) (fits_slot c slot size room (length payload) (length area)) _ _
      (λ e. let f = fits-only _ _ _ _ _ _ e in
      splice-slot c slot j (slot * c + size) (record_in room id payload) area (omega arith)
      (omega (arith, f.room-inside, record-in-length room id payload f.holds)) apart)
      (λ e. refl)

  module _ (fits : fits_slot c slot size room (length payload) (length area) ≡ true) where
    -- a record that fits is one piece, from the segment's size on
    pub area-is : area_after c slot size room id payload area ≡ splice (slot * c + size) (record_in room id payload) area
    unfolding area_after
    area-is = simp fits

    long : length (record_in room id payload) ≡ room
    long = record-in-length room id payload (fits-only _ _ _ _ _ _ fits).holds

    -- the segment's image afterwards: the old one, and then the record's bytes
    pub area-image : part (slot * c) (size + room) (area_after c slot size room id payload area)
        ≡ part (slot * c) size area ++ record_in room id payload
    area-image =
        let f = fits-only _ _ _ _ _ _ fits in
        ap (part (slot * c) (size + room)) area-is
        ∙ ap (λ (n : ℕ). part (slot * c) (size + n) (splice (slot * c + size) (record_in room id payload) area)) (sym long)
        ∙ splice-grow (slot * c + size) (record_in room id payload) area (omega (arith, long, f.room-inside, f.slot-inside))
        (slot * c) size refl

    -- "Only the bytes from the old size to the new padded size change": a part in front of them stays
    pub area-before : (a n : ℕ) → a + n ≤ slot * c + size → part a n (area_after c slot size room id payload area) ≡ part a n area
    area-before a n h = ap (part a n) area-is ∙ splice-before (slot * c + size) (record_in room id payload) area a n h

    -- and a part behind them
    pub area-behind : (a n : ℕ) → slot * c + size + room ≤ a → part a n (area_after c slot size room id payload area) ≡ part a n area
    area-behind a n h =
        ap (part a n) area-is ∙ splice-after (slot * c + size) (record_in room id payload) area a n (omega (arith, long))

module _ (c slot size room id : ℕ) (payload area : List ℕ) where
  -- a record that does not fit: nothing changes
  pub wrote_none : fits_slot c slot size room (length payload) (length area) ≡ false → Wrote c slot size room id payload area size area
  unfolding size_after area_after
  wrote_none e = record { size_is = simp e; area-is = simp e }

  -- a record that fits
  pub wrote-record : (r : ℕ) (after : List ℕ) → fits_slot c slot size room (length payload) (length area) ≡ true → r ≡ size + room
      → after ≡ splice (slot * c + size) (record_in room id payload) area → Wrote c slot size room id payload area r after
  unfolding size_after area_after
  wrote-record r after e p q = record { size_is = simp e p; area-is = simp e q }
