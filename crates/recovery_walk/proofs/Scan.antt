-- The ways of a scan, on plain values: each gives what `ScanDid` says of the answer and of the index.
-- Assumes nothing.
use mathlib.Core.Path.{◌≡◌, refl, sym, ap, ◌∙◌}
use mathlib.Core.List.{List, ◌++◌}
use mathlib.Core.Bool.{true, false}
use Prim.Native.Nat.{ℕ, ◌*◌, ◌/◌, ◌≤◌, ◌<◌}
use native.Mathlib.Omega.{arith}
use lib.ListN.{length, drop}
use borrow.Author.Tests.{lt-ltb, le-ltb}
use Rattle.std.specs.Prelude.{Ok, Err}
use Rattle.lists.specs.Outcome.{Outcome, refused, done}
use Rattle.lists.proofs.Outcome.{done-injective, refused-injective, refused-is-not-done}
use Rattle.refusal.specs.declared.Refusal.{Refusal}
use Rattle.refusal.specs.declared.Refusal.TheVariants.{StartNotFound, EndNotFound, IndexShort}
use Rattle.refusal.specs.Refusals.{number}
use Rattle.segment.specs.declared.Segment.{Segment}
use Rattle.segment.specs.declared.ImageRow.{ImageRow}
use Rattle.walk.specs.declared.Scan.{Scan}
use Rattle.walk.specs.Judging.{start_of}
use Rattle.recovery_walk.specs.declared.Scanned.{Scanned}
use Rattle.recovery_walk.specs.Images.{Found, walked, images}
use Rattle.recovery_walk.specs.Rows.{rows_all, pen_of}
use Rattle.recovery_walk.specs.Scan.{live_count, judged, scan_of, scanned_of, index_of, RangePre, ScanDid}
use Rattle.recovery_walk.proofs.RowsIds.{scan-rows}

module _ (area : List ℕ) (c s e : ℕ) (rows : List ImageRow) (index : List ℕ) where
  abbrev found : Outcome Found
  found = images area c s e rows start_of

  abbrev comes : Outcome Found
  comes = scan_of area c s e rows (length index)

  -- a refusal: its number, and the index as it was
  scan-refused : (r : Refusal) → comes ≡ refused (number r) → ScanDid area c s e rows index index (Err r)
  unfolding index_of
  scan-refused r q = record { answer = sym (ap scanned_of q); words = rw q refl }

  -- 16 to 20: a fault of the walk
  pub scan-fault : (r : Refusal) → refused (number r) ≡ scanned_of found → ScanDid area c s e rows index index (Err r)
  unfolding scan_of judged
  scan-fault r is = go found refl is
    where
      go : (o : Outcome Found) → found ≡ o → refused (number r) ≡ scanned_of o → ScanDid area c s e rows index index (Err r)
      go (refused m) q p = scan-refused r
          (ap (judged s e (length index)) q ∙ ap (λ (n : ℕ). judged s e (length index) (refused n)) (sym (refused-injective p)))
      go (done a) q p = refused-is-not-done p

  -- no fault: the walk went through
  module _ (w : Scanned) (is : done w ≡ scanned_of found) where
    accepted : (gs : List Segment) × (found ≡ walked w.scan gs)
    accepted = go found refl is
      where
        go : (o : Outcome Found) → found ≡ o → done w ≡ scanned_of o → (gs : List Segment) × (found ≡ walked w.scan gs)
        go (refused m) q p = refused-is-not-done (sym p)
        go (done (d, gs)) q p = (gs, q ∙ ap (λ (x : Scan). walked x gs) (sym (ap (λ (x : Scanned). x.scan) (done-injective p))))

    to : comes ≡ judged s e (length index) (walked w.scan accepted.0)
    unfolding scan_of
    to = ap (judged s e (length index)) accepted.1

    -- 21: s not found
    pub scan-no-start : w.scan.found_s ≡ false → ScanDid area c s e rows index index (Err StartNotFound)
    unfolding judged
    scan-no-start a = scan-refused StartNotFound (to ∙ simp a)

    module _ (start : w.scan.found_s ≡ true) where
      -- 22: e not found
      pub scan-no-end : w.scan.found_e ≡ false → ScanDid area c s e rows index index (Err EndNotFound)
      unfolding judged
      scan-no-end b = scan-refused EndNotFound (to ∙ simp (start, b))

      module _ (end : w.scan.found_e ≡ true) where
        -- 23: fewer than four words for each live record
        pub scan-few-words : length index / 4 < live_count s e → ScanDid area c s e rows index index (Err IndexShort)
        unfolding judged
        scan-few-words l = scan-refused IndexShort (to ∙ simp (start, end, lt-ltb (length index) (4 * live_count s e) (omega arith)))

        -- not 23: there is room for all rows
        pub scan-room : RangePre s e → live_count s e ≤ length index / 4 → length (rows_all area c s e rows pen_of) ≤ length index
        scan-room pre l = omega (arith, (scan-rows area c s e rows w.scan accepted.0 pre.some accepted.1 start end).count)

        -- accepted: the walk's answer, and the rows in front of the index
        pub scan-done : live_count s e ≤ length index / 4 → (index' : List ℕ)
            → index' ≡ rows_all area c s e rows pen_of ++ drop (length (rows_all area c s e rows pen_of)) index
            → ScanDid area c s e rows index index' (Ok w)
        unfolding judged index_of
        scan-done l index' g =
            let q : comes ≡ walked w.scan accepted.0 =
            to ∙ simp (start, end, le-ltb (length index) (4 * live_count s e) (omega arith)) in
            record { answer = is ∙ ap scanned_of (accepted.1 ∙ sym q); words = rw q g }
