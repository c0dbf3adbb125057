-- The laws of the index rows: the three ways of a turn of the second pass, that the words only grow, and one row written to an index.
-- Assumes nothing.
use mathlib.Core.Path.{◌≡◌, refl, sym, ap, ◌∙◌}
use mathlib.Core.List.{List, [], ◌∷◌, ◌++◌}
use mathlib.Core.Bool.{Bool, true, false}
use Prim.Native.Nat.{ℕ, ◌+◌, ◌-◌, ◌≤◌, ◌<◌}
use native.Mathlib.Nat.{le_refl, le_trans, add-zero, add-sub_cancel_left}
use native.Mathlib.Omega.{arith}
use lib.ListN.{length, take, drop, length-append}
use lib.Seq.{take-add}
use borrow.Rule.Slice.PartMut.{put_mid}
use Rattle.lists.proofs.SpliceWrites.{part-splice}
use Rattle.lists.specs.Choice.{pick}
use Rattle.lists.specs.Splice.{splice}
use Rattle.lists.proofs.Bools.{zero-is-not-one}
use Rattle.lists.specs.Until.{Turn, again, stop}
use Rattle.lists.proofs.Until.{until-again, until_stop, until-keeps}
use Rattle.lists.proofs.Splice.{splice-none, splice_front, splice-inside, splice-behind, splice-length}
use Rattle.segment.specs.declared.ImageRow.{ImageRow}
use Rattle.walk.specs.declared.Scan.{Scan}
use Rattle.std.specs.Prelude.{Result, Ok, Err}
use Rattle.refusal.specs.declared.Refusal.{Refusal}
use Rattle.record.specs.Record.{header_at}
use Rattle.walk.specs.Judging.{live_of, more_of, record_step}
use Rattle.walk.specs.Walk.{walk_of}
use Rattle.segment.specs.Segment.{image_of}
use Rattle.recovery_walk.specs.Rows.{row_of, Pen, pen_with, moved_of, pen_by, pen_turn, rows_in, rows_all, RowPut}
use Rattle.walk.proofs.Judging.{step-moves, more-inside}
use Rattle.walk.proofs.Walk.{walk-keeps}

module _ (img : List ℕ) (slot s e : ℕ) where
  -- a turn's ways, for whatever they show
  pen-ways : {P : Type 0} (w : Pen) (t : Turn Pen Pen) → pen_turn img slot s e w ≡ t
      → (more_of w.scan (length img) ≡ false → t ≡ stop w → P)
      → ((n : Refusal) → more_of w.scan (length img) ≡ true → record_step img s e w.scan ≡ Err n → t ≡ stop w → P)
      → ((d : Scan) → more_of w.scan (length img) ≡ true → record_step img s e w.scan ≡ Ok d → t ≡ again (moved_of slot s e w d) → P)
      → P
  unfolding pen_turn
  pen-ways {P} w t q end fault next = go (more_of w.scan (length img)) (record_step img s e w.scan) refl refl q
    where
      go : (b : Bool) (o : Result Scan Refusal) → more_of w.scan (length img) ≡ b → record_step img s e w.scan ≡ o
          → pick b (pen_by slot s e w o) (stop w) ≡ t → P
      go false o l m q = end l (sym q)
      go true (Err n) l m q = fault n l m (sym q)
      go true (Ok d) l m q = next d l m (sym q)

  moved-scan : (w : Pen) (d : Scan) → (moved_of slot s e w d).scan ≡ d
  unfolding moved_of
  moved-scan w d = refl

  falls : (w v : Pen) → pen_turn img slot s e w ≡ again v → length img - v.scan.pos < length img - w.scan.pos
  falls w v t =
      pen-ways w (again v) t (λ l q. zero-is-not-one (cc))
      (λ n l m q. zero-is-not-one (cc))
      (λ d l m q. let same : v ≡ moved_of slot s e w d = cc in
      let at : v.scan ≡ d = ap (λ (x : Pen). x.scan) same ∙ moved-scan w d in
      omega (
        arith,
        ap (λ (x : Scan). x.pos) at,
        step-moves (length img) s e w.scan (header_at img w.scan.pos) d m,
        more-inside w.scan (length img) l,
      ))

  -- at the image's end the words are the answer
  pub rows_end : (w : Pen) → more_of w.scan (length img) ≡ false → rows_in img slot s e w ≡ w
  unfolding rows_in pen_turn
  rows_end w h = until_stop (pen_turn img slot s e) (λ v. v) (λ v. length img - v.scan.pos) falls w w (simp h)

  -- a good record: the words with its row, from the next state on
  pub rows_next : (w : Pen) (d : Scan) → more_of w.scan (length img) ≡ true → record_step img s e w.scan ≡ Ok d
      → rows_in img slot s e w ≡ rows_in img slot s e (moved_of slot s e w d)
  unfolding rows_in pen_turn
  rows_next w d h m =
      until-again (pen_turn img slot s e) (λ v. v) (λ v. length img - v.scan.pos) falls w (moved_of slot s e w d) (simp (h, m))

  -- a fault ends the rows
  pub rows-fault : (w : Pen) (n : Refusal) → more_of w.scan (length img) ≡ true → record_step img s e w.scan ≡ Err n
      → rows_in img slot s e w ≡ w
  unfolding rows_in pen_turn
  rows-fault w n h m = until_stop (pen_turn img slot s e) (λ v. v) (λ v. length img - v.scan.pos) falls w w (simp (h, m))

  -- the words of an image only grow
  pub rows_grow : (w : Pen) → length w.words ≤ length (rows_in img slot s e w).words
  unfolding rows_in moved_of
  rows_grow w =
      until-keeps (pen_turn img slot s e) (λ v. v) (λ v. length img - v.scan.pos) falls
      (λ v a. length v.words ≤ length a.words) more last w
    where
      more : (w v a : Pen) → pen_turn img slot s e w ≡ again v → length v.words ≤ length a.words
          → length w.words ≤ length a.words
      more w v a t l =
          pen-ways w (again v) t (λ h q. zero-is-not-one (cc))
          (λ n h m q. zero-is-not-one (cc))
          (λ d h m q. let same : v ≡ moved_of slot s e w d = cc in
          omega (
            arith,
            ap (λ (x : Pen). length x.words) same,
            length-append w.words (row_of (live_of s e d.last) d.last slot d.body d.len),
          ))

      last : (w a : Pen) → pen_turn img slot s e w ≡ stop a → length w.words ≤ length a.words
      last w a t =
          pen-ways w (stop a) t (λ h q. let same : a ≡ w = cc in omega (arith, ap (λ (x : Pen). length x.words) same))
          (λ n h m q. let same : a ≡ w = cc in omega (arith, ap (λ (x : Pen). length x.words) same))
          (λ d h m q. zero-is-not-one (cc))

  -- where the walk ends with the image, the pass ends in the same state
  pub rows-scan : (w d : Scan) → walk_of img s e w ≡ Ok d → (ws : List ℕ)
      → rows_in img slot s e (pen_with ws w) ≡ pen_with (rows_in img slot s e (pen_with ws w)).words d
  unfolding moved_of
  rows-scan w d q ws =
      ap (pen_with (rows_in img slot s e (pen_with ws w)).words)
      (walk-keeps (length img) (header_at img) s e (λ w d. (ws : List ℕ) → (rows_in img slot s e (pen_with ws w)).scan ≡ d)
      (λ w d z h m on ws. ap (λ (v : Pen). v.scan) (rows_next (pen_with ws w) d h m) ∙ on _)
      (λ w h ws. ap (λ (v : Pen). v.scan) (rows_end (pen_with ws w) h)) w d q ws)

-- the words of all images only grow
pub all-grow : (area : List ℕ) (c s e : ℕ) (rs : List ImageRow) (w : Pen) → length w.words ≤ length (rows_all area c s e rs w)
unfolding rows_all
all-grow area c s e [] w = le_refl (length w.words)
all-grow area c s e (r ∷ rs) w = le_trans (rows_grow (image_of area c r) r.slot s e _) (all-grow area c s e rs _)

-- ---- one row

-- a live record has four words
pub row-live : (t : Bool) (id slot off len : ℕ) → t ≡ true → row_of t id slot off len ≡ id ∷ slot ∷ off ∷ len ∷ []
unfolding row_of
row-live t id slot off len h = simp h

-- another has none
pub row-dead : (t : Bool) (id slot off len : ℕ) → t ≡ false → row_of t id slot off len ≡ []
unfolding row_of
row-dead t id slot off len h = simp h

-- room for a live record's row is room for four words
pub room-four : (t : Bool) (id slot off len at n : ℕ) → t ≡ true → at + length (row_of t id slot off len) ≤ n → at + 4 ≤ n
room-four t id slot off len at n h r = rw (row-live t id slot off len h) at r

-- four words written as one part are a row
pub put_four : (t : Bool) (id slot off len : ℕ) (l : List ℕ) (at : ℕ) → t ≡ true → at + length (row_of t id slot off len) ≤ length l
    → (ws : List ℕ) → ws ≡ id ∷ slot ∷ off ∷ len ∷ [] → RowPut l at (row_of t id slot off len) (put_mid at (at + 4 - at) l ws) (at + 4)
put_four t id slot off len l at h r ws e =
    let fits : at + 4 ≤ length l = room-four t id slot off len at (length l) h r in
    let long : length ws ≡ at + 4 - at = ap length e ∙ sym (add-sub_cancel_left at 4) in
    rw (row-live t id slot off len h)
    (record {
      next = refl;
      words = part-splice at (at + 4 - at) l ws long (omega arith) ∙ ap (λ (ys : List ℕ). splice at ys l) e;
    })

-- no store is no row
pub put-none : (t : Bool) (id slot off len : ℕ) (l : List ℕ) (at : ℕ) → t ≡ false → RowPut l at (row_of t id slot off len) l at
put-none t id slot off len l at h =
    rw (row-dead t id slot off len h) (record { next = sym (add-zero at); words = sym (splice-none at l) })

module _ (l : List ℕ) (at : ℕ) (ws m : List ℕ) (r : ℕ) (room : at + length ws ≤ length l) (put : RowPut l at ws m r) where
  -- a row's write keeps the index's length
  pub put-long : length m ≡ length l
  put-long = ap length put.words ∙ splice-length at ws l

  -- it leaves the words before the row, and the row
  pub put-take : take r m ≡ take at l ++ ws
  put-take =
      rw (put.next, put.words) (take-add at (length ws) (splice at ws l) ∙ rw (splice_front at ws l, splice-inside at ws l room) refl)

  -- and all words behind it
  pub put-drop : drop r m ≡ drop r l
  put-drop = ap (drop r) put.words ∙ splice-behind at ws l r (omega (arith, put.next))
