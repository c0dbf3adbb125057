-- Nothing behind e matters: what rows behind e's image say beyond 13, 14 and 15, and what stands in their images, changes no answer and no
-- row. Assumes nothing.
use mathlib.Core.Path.{◌≡◌, refl, sym, ap, ◌∙◌}
use mathlib.Core.List.{List, [], ◌∷◌, ◌++◌, map}
use mathlib.Core.Bool.{Bool, true, false, ◌&&◌, not}
use Prim.Native.Nat.{ℕ, suc, ◌+◌, ◌*◌, ◌<◌}
use native.Mathlib.Omega.{arith}
use lib.ListN.{length}
use lib.Dec.{ltb, leb, eqb}
use borrow.Author.Tests.{eqb-false}
use Rattle.lists.specs.Choice.{pick}
use Rattle.lists.specs.Each.{all, linked}
use Rattle.lists.specs.Distinct.{distinct}
use Rattle.lists.specs.Outcome.{Outcome, refused}
use Rattle.lists.proofs.AnyOrder.{any-all}
use Rattle.lists.proofs.Distinct.{distinct-keys, distinct-any}
use Rattle.lists.proofs.Sort.{sort-any}
use Rattle.segment.specs.declared.Segment.{Segment}
use Rattle.segment.specs.declared.ImageRow.{ImageRow}
use Rattle.seglog.specs.View.{head_of, front_of}
use Rattle.seglog.specs.New.{roomy_of}
use Rattle.walk.specs.declared.Scan.{Scan}
use Rattle.walk.specs.Judging.{goes_on, start_of}
use Rattle.recovery_walk.specs.Images.{Found, walked, behind, images}
use Rattle.recovery_walk.specs.Rows.{rows_all, pen_of}
use Rattle.recovery_walk.specs.Scan.{live_count, judged, scan_of}
use Rattle.recovery_walk.proofs.Headers.{images-depend, scan-depends}
use Rattle.recovery_walk.proofs.ImagesBehind.{unread, Behind, images-behind, rows_behind, images-append, rows_append}
use Rattle.image_rows.specs.ImageRows.{sort_rows, rows_inside, rows_apart, rows_fit, lowest_zero, one_apart}
use Rattle.image_rows.proofs.ImageRows.{sort-length}
use Rattle.recovery.specs.Recovery.{recovery_of, one_zero, closed_of, outcome_of, scanned}
use Rattle.recovery.specs.Keeping.{kept_of}
use Rattle.recovery.specs.Depend.{Agree, SameButSize, SameButSizes, NothingBehind}
use Rattle.recovery.proofs.ImagesWalked.{Empties}
use Rattle.recovery.proofs.KeepingCut.{kept-empty}
use Rattle.recovery.proofs.Depend.{same, pick-agree, scanned-agree}

-- ---- the scan

-- images that are not looked at hold no record
empty-unread : (rs : List ImageRow) → Empties (map unread rs)
empty-unread [] = tt
empty-unread (r ∷ rs) = (refl, empty-unread rs)

module _ (k c m : ℕ) (area : List ℕ) (s e room : ℕ) (front later : List ImageRow) (d : Scan) (gs : List Segment) (some : 0 < s)
    (walk : images area c s e front start_of ≡ walked d gs) (stops : goes_on d ≡ false) where
  abbrev behind-them : Behind area c s e later d
  behind-them = images-behind area c s e later d stops

  abbrev z : Scan
  z = behind-them.state

  -- with the rows behind e's image, the walk ends with what it had found
  whole-walk : images area c s e (front ++ later) start_of ≡ walked z (gs ++ map unread later)
  whole-walk =
      images-append area c s e front later start_of d gs walk
      ∙ ap (behind gs) behind-them.is

  whole_words : rows_all area c s e (front ++ later) pen_of ≡ rows_all area c s e front pen_of
  whole_words = rows_append area c s e front later start_of d gs [] walk ∙ rows_behind area c s e later _ d stops

  same_kept : kept_of s e (gs ++ map unread later) ≡ kept_of s e gs
  same_kept = kept-empty s e gs (map unread later) some (empty-unread later)

  -- ROWS BEHIND e's IMAGE ADD NOTHING
  pub scanned-front : scanned k c m area (front ++ later) s e room ≡ scanned k c m area front s e room
  unfolding scan_of judged
  scanned-front =
      ap (λ (o : Outcome Found). outcome_of k c m area s e (front ++ later) (judged s e room o)) whole-walk
      ∙ rw (behind-them.start, behind-them.end) (go (not d.found_s) (not d.found_e) (ltb room (4 * live_count s e)))
      ∙ sym (ap (λ (o : Outcome Found). outcome_of k c m area s e front (judged s e room o)) walk)
    where
      closed : closed_of k c m area s e z.start_of_e z.end_of_e (rows_all area c s e (front ++ later) pen_of)
          (front_of (kept_of s e (gs ++ map unread later))) (head_of (kept_of s e (gs ++ map unread later)))
          ≡ closed_of k c m area s e d.start_of_e d.end_of_e (rows_all area c s e front pen_of) (front_of (kept_of s e gs))
          (head_of (kept_of s e gs))
      closed = λ i.
          closed_of k c m area s e (behind-them.from i) (behind-them.head i) (whole_words i) (front_of (same_kept i)) (head_of (same_kept i))

      go : (x y t : Bool)
          → outcome_of k c m area s e (front ++ later)
          (pick x (refused 21) (pick y (refused 22) (pick t (refused 23) (walked z (gs ++ map unread later)))))
          ≡ outcome_of k c m area s e front (pick x (refused 21) (pick y (refused 22) (pick t (refused 23) (walked d gs))))
      go true y t = refl
      go false true t = refl
      go false false true = refl
      go false false false = closed

-- ---- 13 to 15

-- rows agree with themselves
alike_refl : (c : ℕ) (r : ImageRow) → SameButSize c r r
alike_refl c r = record { id = refl; slot = refl; within = refl }

-- the same rows in front
alike-front : (c : ℕ) (fs rs rs' : List ImageRow) → SameButSizes c rs rs' → SameButSizes c (fs ++ rs) (fs ++ rs')
alike-front c [] rs rs' h = h
alike-front c (r ∷ fs) rs rs' h = (alike_refl c r, alike-front c fs rs rs' h)

module _ (k c : ℕ) where
  alike-many : (rs rs' : List ImageRow) → SameButSizes c rs rs' → length rs ≡ length rs'
  alike-many [] [] h = refl
  alike-many [] (r ∷ rs) h = absurd h
  alike-many (r ∷ rs) [] h = absurd h
  alike-many (r ∷ rs) (r' ∷ rs') h = ap suc (alike-many rs rs' h.1)

  alike-inside : (rs rs' : List ImageRow) → SameButSizes c rs rs' → rows_inside k c rs ≡ rows_inside k c rs'
  unfolding all
  alike-inside [] [] h = refl
  alike-inside [] (r ∷ rs) h = absurd h
  alike-inside (r ∷ rs) [] h = absurd h
  alike-inside (r ∷ rs) (r' ∷ rs') h =
      λ i. (ltb (h.0.slot i) k && h.0.within i) && alike-inside rs rs' h.1 i

  alike-slots : (rs rs' : List ImageRow) → SameButSizes c rs rs' → map (λ (r : ImageRow). r.slot) rs ≡ map (λ (r : ImageRow). r.slot) rs'
  alike-slots [] [] h = refl
  alike-slots [] (r ∷ rs) h = absurd h
  alike-slots (r ∷ rs) [] h = absurd h
  alike-slots (r ∷ rs) (r' ∷ rs') h = λ i. h.0.slot i ∷ alike-slots rs rs' h.1 i

  alike-apart : (rs rs' : List ImageRow) → SameButSizes c rs rs' → rows_apart rs ≡ rows_apart rs'
  alike-apart rs rs' h =
      distinct-keys (λ (r : ImageRow). r.slot) rs ∙ ap (distinct (λ n. n)) (alike-slots rs rs' h)
      ∙ sym (distinct-keys (λ (r : ImageRow). r.slot) rs')

  -- 13
  alike-fit : (rs rs' : List ImageRow) → SameButSizes c rs rs' → rows_fit k c rs ≡ rows_fit k c rs'
  unfolding rows_fit
  alike-fit rs rs' h = λ i. leb (alike-many rs rs' h i) 64 && alike-inside rs rs' h i && alike-apart rs rs' h i

  -- it does not matter in which order the rows are
  fit-sorted : (rs : List ImageRow) → rows_fit k c rs ≡ rows_fit k c (sort_rows rs)
  unfolding rows_fit
  fit-sorted rs =
      let o = sort-any ltb (λ (r : ImageRow). r.id) rs in
      let inside : rows_inside k c rs ≡ rows_inside k c (sort_rows rs) = any-all _ rs (sort_rows rs) o in
      let apart : rows_apart rs ≡ rows_apart (sort_rows rs) = distinct-any (λ (r : ImageRow). r.slot) rs (sort_rows rs) o in
      λ i. leb (sym (sort-length rs) i) 64 && inside i && apart i

  -- 14
  alike-lowest : (rs rs' : List ImageRow) → SameButSizes c rs rs' → lowest_zero rs ≡ lowest_zero rs'
  unfolding lowest_zero
  alike-lowest [] [] h = refl
  alike-lowest [] (r ∷ rs) h = absurd h
  alike-lowest (r ∷ rs) [] h = absurd h
  alike-lowest (r ∷ rs) (r' ∷ rs') h = ap (λ (n : ℕ). eqb n 0) h.0.id

  -- 15
  alike_next : (rs rs' : List ImageRow) → SameButSizes c rs rs' → one_apart rs ≡ one_apart rs'
  unfolding linked
  alike_next [] [] h = refl
  alike_next [] (r ∷ rs) h = absurd h
  alike_next (r ∷ rs) [] h = absurd h
  alike_next (r ∷ []) (r' ∷ []) h = refl
  alike_next (r ∷ []) (r' ∷ x' ∷ rs') h = absurd h.1
  alike_next (r ∷ x ∷ rs) (r' ∷ []) h = absurd h.1
  alike_next (r ∷ x ∷ rs) (r' ∷ x' ∷ rs') h =
      λ i. eqb (h.1.0.id i) (h.0.id i + 1) && alike_next (x ∷ rs) (x' ∷ rs') h.1 i

-- ---- recovery

-- NOTHING BEHIND e MATTERS
pub nothing-behind : NothingBehind
unfolding recovery_of
nothing-behind k c m area area' rows rows' s e room long h =
    let alike : SameButSizes c (sort_rows rows) (sort_rows rows') =
    rw (h.sorted, h.sorted') (alike-front c h.front h.later h.later' h.places) in
    let fit : rows_fit k c rows ≡ rows_fit k c rows' =
    fit-sorted k c rows ∙ alike-fit k c (sort_rows rows) (sort_rows rows') alike ∙ sym (fit-sorted k c rows') in
    let low : lowest_zero (sort_rows rows) ≡ lowest_zero (sort_rows rows') = alike-lowest k c (sort_rows rows) (sort_rows rows') alike in
    let apart : one_apart (sort_rows rows) ≡ one_apart (sort_rows rows') = alike_next k c (sort_rows rows) (sort_rows rows') alike in
    rw (← long, ← fit, ← low, ← apart)
    (pick-agree (not (roomy_of k c m (length area))) _ _ _ _ (same (refused 1)) (λ h1.
    pick-agree (one_zero s e) _ _ _ _ (same (refused 11)) (λ h2.
    pick-agree (ltb e s) _ _ _ _ (same (refused 12)) (λ h3.
    pick-agree (not (rows_fit k c rows)) _ _ _ _ (same (refused 13)) (λ h4.
    pick-agree (lowest_zero (sort_rows rows)) _ _ _ _ (same (refused 14)) (λ h5.
    pick-agree (not (one_apart (sort_rows rows))) _ _ _ _ (same (refused 15)) (λ h6.
    pick-agree (eqb s 0) _ _ _ _ (record { answer = refl; rows = λ index. refl }) (λ h7.
    walks (omega (arith, eqb-false s 0 h7))))))))))
  where
    walks : 0 < s → Agree (scanned k c m area (sort_rows rows) s e room) (scanned k c m area' (sort_rows rows') s e room)
    walks some =
        let there : images area' c s e h.front start_of ≡ walked h.last h.segs =
        sym (images-depend area area' c s e long h.front start_of h.headers) ∙ h.walk in
        rw (
          h.sorted,
          h.sorted',
          scanned-front k c m area s e room h.front h.later h.last h.segs some h.walk h.stops,
          scanned-front k c m area' s e room h.front h.later' h.last h.segs some there h.stops,
        )
        (scanned-agree k c m area area' h.front s e room (scan-depends area area' c s e long h.front room h.headers))
