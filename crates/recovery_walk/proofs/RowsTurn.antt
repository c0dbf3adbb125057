-- A turn of each loop of the second pass, on plain values. The words so far are the index's first `at`.
-- Assumes nothing.
use mathlib.Core.Path.{◌≡◌, refl, sym, ap, ◌∙◌}
use mathlib.Core.List.{List, ◌++◌}
use mathlib.Core.Bool.{Bool, true}
use Prim.Native.Nat.{ℕ, suc, ◌+◌, ◌-◌, ◌≤◌, ◌<◌}
use native.Mathlib.Numerals.{add-one}
use native.Mathlib.Omega.{arith}
use lib.ListN.{length, take, drop, length-append, take-append-drop, drop_of_length-le}
use lib.Seq.{drop-cons, drop-drop, length-take-le}
use Rattle.segment.specs.Segment.{no_row}
use Rattle.segment.specs.declared.ImageRow.{ImageRow}
use Rattle.walk.specs.declared.Scan.{Scan}
use Rattle.std.specs.Prelude.{Ok}
use Rattle.walk.specs.Judging.{live_of, more_of, record_step, opened_of}
use Rattle.recovery_walk.specs.Images.{row_at}
use Rattle.recovery_walk.specs.Rows.{row_of, Pen, pen_with, pen_of, moved_of, rows_in, rows_all, RowPut}
use Rattle.recovery_walk.proofs.Rows.{rows_next, rows_grow, all-grow, put-long, put-take, put-drop}
use Rattle.recovery_walk.proofs.ImagesTurn.{part_of, part-image}

-- the words that stand in the index before `at`, and a state
abbrev pub pen_at : List ℕ → ℕ → Scan → Pen
pen_at index at scan = pen_with (take at index) scan

-- what holds at the head of the records' loop
pub record AtRows (img : List ℕ) (slot s e : ℕ) (index₀ : List ℕ) (at₀ : ℕ) (scan₀ : Scan) (index : List ℕ) (at : ℕ) (scan : Scan)
    : Type 0 where
  pub long : length index ≡ length index₀
  pub upto : at ≤ length index
  pub later : at₀ ≤ at
  pub kept : drop at index ≡ drop at index₀
  pub so_far : rows_in img slot s e (pen_at index₀ at₀ scan₀) ≡ rows_in img slot s e (pen_at index at scan)

-- what holds at the head of the images' loop
pub record AtAll (area : List ℕ) (c s e : ℕ) (rows : List ImageRow) (index₀ index : List ℕ) (at : ℕ) (scan : Scan) (i : ℕ)
    : Type 0 where
  pub upto : i ≤ length rows
  pub long : length index ≡ length index₀
  pub within : at ≤ length index
  pub kept : drop at index ≡ drop at index₀
  pub so_far : rows_all area c s e rows pen_of ≡ rows_all area c s e (drop i rows) (pen_at index at scan)

-- lists that agree from a place on agree from a later one on
pub drop-later : (l m : List ℕ) (a b : ℕ) → a ≤ b → drop a l ≡ drop a m → drop b l ≡ drop b m
drop-later l m a b h e =
    let j : a + (b - a) ≡ b = omega arith in
    ap (λ (x : ℕ). drop x l) (sym j) ∙ sym (drop-drop (b - a) a l) ∙ ap (drop (b - a)) e ∙ drop-drop (b - a) a m
    ∙ ap (λ (x : ℕ). drop x m) j

module _ (img : List ℕ) (slot s e : ℕ) (index₀ : List ℕ) (at₀ : ℕ) (scan₀ : Scan) (index : List ℕ) (at : ℕ) (scan : Scan)
    (h : AtRows img slot s e index₀ at₀ scan₀ index at scan) (d : Scan) (going : more_of scan (length img) ≡ true)
    (step : record_step img s e scan ≡ Ok d) (live : Bool) (is : live ≡ live_of s e d.last) where
  to : rows_in img slot s e (pen_at index₀ at₀ scan₀) ≡ rows_in img slot s e (moved_of slot s e (pen_at index at scan) d)
  to = h.so_far ∙ rows_next img slot s e (pen_at index at scan) d going step

  -- there is room for the row where there is room for all
  pub row_room : length (rows_in img slot s e (pen_at index₀ at₀ scan₀)).words ≤ length index
      → at + length (row_of live d.last slot d.body d.len) ≤ length index
  unfolding moved_of
  row_room all =
      rw is (omega (
        arith,
        rows_grow img slot s e (moved_of slot s e (pen_at index at scan) d),
        ap (λ (x : Pen). length x.words) to,
        length-append (take at index) (row_of (live_of s e d.last) d.last slot d.body d.len),
        length-take-le at index h.upto,
      ))

  -- a record's turn
  pub row_next : (m : List ℕ) (r : ℕ) → at + length (row_of live d.last slot d.body d.len) ≤ length index
      → RowPut index at (row_of live d.last slot d.body d.len) m r → AtRows img slot s e index₀ at₀ scan₀ m r d
  unfolding moved_of
  row_next m r room put =
      let len-m : length m ≡ length index = put-long index at _ m r room put in
      record {
        long = len-m ∙ h.long;
        upto = omega (arith, put.next);
        later = omega (arith, put.next, h.later);
        kept = put-drop index at _ m r room put ∙ drop-later index index₀ at r (omega (arith, put.next)) h.kept;
        so_far = rw (put-take index at _ m r room put, is) to;
      }

module _ (area : List ℕ) (c s e : ℕ) (rows : List ImageRow) (index₀ index : List ℕ) (at : ℕ) (scan : Scan) (i : ℕ)
    (h : AtAll area c s e rows index₀ index at scan i) where
  abbrev total : List ℕ
  total = rows_all area c s e rows pen_of

  -- the end: all words stand at the front, and the rest of the index is as it was
  pub rows-done : length rows ≤ i → index ≡ total ++ drop (length total) index₀
  unfolding rows_all
  rows-done g =
      let is : total ≡ take at index =
      h.so_far
      ∙ ap (λ (l : List ImageRow). rows_all area c s e l (pen_at index at scan))
      (drop_of_length-le rows {i = i} g) in
      let size : at ≡ length total = sym (ap length is ∙ length-take-le at index h.within) in
      rw (← size, is) (sym (take-append-drop at index) ∙ ap (λ (l : List ℕ). take at index ++ l) h.kept)

  module _ (more : i < length rows) (from : Scan) (is : from ≡ opened_of scan (row_at rows i).size) where
    abbrev row : ImageRow
    row = row_at rows i

    turn : total ≡ rows_all area c s e (drop (suc i) rows) (rows_in (part_of area c row) row.slot s e (pen_at index at from))
    unfolding rows_all
    turn =
        h.so_far
        ∙ ap (λ (l : List ImageRow). rows_all area c s e l (pen_at index at scan))
        (drop-cons rows i no_row more)
        ∙ rw (part-image, is) refl

    -- room for all words is room for the image's
    pub image-room : length total ≤ length index₀
        → length (rows_in (part_of area c row) row.slot s e (pen_at index at from)).words ≤ length index
    image-room l =
        omega (
          arith,
          all-grow area c s e (drop (suc i) rows) (rows_in (part_of area c row) row.slot s e (pen_at index at from)),
          ap length turn,
          h.long,
        )

    -- an image's turn
    pub image-next : (m : List ℕ) (r : ℕ) (d : Scan) → AtRows (part_of area c row) row.slot s e index at from m r d
        → rows_in (part_of area c row) row.slot s e (pen_at m r d) ≡ pen_at m r d → AtAll area c s e rows index₀ m r d (i + 1)
    image-next m r d g q =
        record {
          upto = omega arith;
          long = g.long ∙ h.long;
          within = g.upto;
          kept = g.kept ∙ drop-later index index₀ at r g.later h.kept;
          so_far = rw add-one (turn ∙ ap (rows_all area c s e (drop (suc i) rows)) (g.so_far ∙ q));
        }
