-- What document 01's walk over whole images accepted before ask 1 is accepted, with the same log, area and rows: behind e nothing is kept,
-- and of e's segment only the max is seen otherwise, which closing sets to e. Assumes nothing.
use mathlib.Core.Path.{◌≡◌, refl, sym, ap, ◌∙◌}
use mathlib.Core.List.{List, [], ◌∷◌, ◌++◌}
use mathlib.Core.Bool.{Bool, true, false, ◌&&◌, not}
use mathlib.Core.Logic.{◌⊎◌, inl, inr}
use Prim.Native.Nat.{ℕ, ◌*◌, ◌≤◌, ◌<◌}
use native.Mathlib.Omega.{arith}
use lib.ListN.{length}
use lib.Dec.{ltb, leb, eqb}
use borrow.Author.Tests.{le-leb, le-ltb, ltb-false, eqb-false, not-true}
use Rattle.lists.specs.Choice.{pick}
use Rattle.lists.specs.Each.{Every}
use Rattle.lists.proofs.Bools.{and_both}
use Rattle.segment.specs.declared.Segment.{Segment}
use Rattle.segment.specs.declared.ImageRow.{ImageRow}
use Rattle.segment.specs.Segment.{padded_to}
use Rattle.seglog.specs.View.{head_of, front_of}
use Rattle.seglog.specs.New.{roomy_of}
use Rattle.seglog.proofs.View.{front-snoc, head-snoc}
use Rattle.walk.specs.Judging.{start_of}
use Rattle.walk.proofs.Judging.{goes_on_lem}
use Rattle.recovery_walk.specs.Images.{walked}
use Rattle.recovery_walk.specs.Rows.{pen_of}
use Rattle.recovery_walk.specs.Scan.{live_count, judged, scan_of}
use Rattle.recovery_walk.proofs.Whole.{BlankSegment, Differ, beside-all}
use Rattle.image_rows.specs.ImageRows.{sort_rows, rows_fit, lowest_zero, one_apart}
use Rattle.recovery.specs.Keeping.{holds_live, kept_of}
use Rattle.recovery.specs.Recovery.{Recovery, recovered, recovery_of, one_zero, closed_of, outcome_of, scanned}
use Rattle.recovery.specs.Depend.{walks}
use Rattle.recovery.specs.Promised.{AcceptedStays}
use Rattle.recovery.proofs.KeepingCut.{kept-early, kept-late}

-- ---- what is kept

module _ (s e : ℕ) (some : 0 < e) (order : s ≤ e) (above : 0 < s) where
  -- of segments behind e nothing
  kept-blank : (gs : List Segment) → Every (BlankSegment s e some order) gs → kept_of s e gs ≡ []
  unfolding kept_of
  kept-blank [] h = refl
  kept-blank (g ∷ gs) (inl none, rest) = kept-early s e g gs (omega (arith, none.1)) ∙ kept-blank gs rest
  kept-blank (g ∷ gs) (inr late, rest) = kept-late s e g gs late ∙ kept-blank gs rest

  kept-join : (gs hs : List Segment) → kept_of s e (gs ++ hs) ≡ kept_of s e gs ++ kept_of s e hs
  unfolding kept_of
  kept-join [] hs = refl
  kept-join (g ∷ gs) hs = go (holds_live s e g) (kept-join gs hs)
    where
      go : (b : Bool) → kept_of s e (gs ++ hs) ≡ kept_of s e gs ++ kept_of s e hs
          → pick b (g ∷ kept_of s e (gs ++ hs)) (kept_of s e (gs ++ hs)) ≡ pick b (g ∷ kept_of s e gs) (kept_of s e gs) ++ kept_of s e hs
      go true ih = ap (λ (l : List Segment). g ∷ l) ih
      go false ih = ih

  -- of a segment with nothing but such behind it, itself or nothing
  kept-last : (fs : List Segment) (g : Segment) (gs : List Segment) → Every (BlankSegment s e some order) gs
      → kept_of s e (fs ++ (g ∷ gs)) ≡ kept_of s e fs ++ pick (holds_live s e g) (g ∷ []) []
  unfolding kept_of
  kept-last fs g gs h =
      kept-join fs (g ∷ gs) ∙ ap (λ (l : List Segment). kept_of s e fs ++ pick (holds_live s e g) (g ∷ l) l) (kept-blank gs h)

  module _ (k c m : ℕ) (area : List ℕ) (at x : ℕ) (words : List ℕ) where
    -- the outcome of closing kept segments
    abbrev closing : List Segment → Recovery
    closing gs = closed_of k c m area s e at x words (front_of gs) (head_of gs)

    -- closing goes by all of the last segment but its newest record
    close-last : (fs : List Segment) (g h : Segment) → h.id ≡ g.id → h.slot ≡ g.slot → h.size ≡ g.size → h.min ≡ g.min
        → closing (fs ++ (h ∷ [])) ≡ closing (fs ++ (g ∷ []))
    close-last fs g h id slot size min =
        ap (λ (l : List Segment). closed_of k c m area s e at x words l (head_of (fs ++ (h ∷ [])))) (front-snoc fs h)
        ∙ ap (closed_of k c m area s e at x words fs) (head-snoc fs h)
        ∙ (λ i. recovered
        (record {
          k = k;
          c = c;
          m = m;
          start = s;
          end = e;
          segs = fs ++ (record { id = id i; slot = slot i; size = x; min = min i; max = e; newest_at = at } ∷ []);
        })
        (padded_to c area (record { id = id i; slot = slot i; size = size i; min = min i; max = e; newest_at = at }) x) words)
        ∙ sym (ap (closed_of k c m area s e at x words fs) (head-snoc fs g))
        ∙ sym (ap (λ (l : List Segment). closed_of k c m area s e at x words l (head_of (fs ++ (g ∷ [])))) (front-snoc fs g))

    -- the segments that the walk to e saw close to the same as those of the whole walk
    close-same : (gs hs : List Segment) → (gs ≡ hs) ⊎ Differ s e some order gs hs → closing (kept_of s e hs) ≡ closing (kept_of s e gs)
    unfolding holds_live
    close-same gs hs (inl q) = ap (λ (l : List Segment). closing (kept_of s e l)) (sym q)
    close-same gs hs (inr f) =
        ap closing (ap (kept_of s e) f.hs-are ∙ kept-last f.front f.h f.behind-h f.blank-h)
        ∙ ap (λ (b : Bool). closing (kept_of s e f.front ++ pick b (f.h ∷ []) [])) same_test
        ∙ go (holds_live s e f.g)
        ∙ sym (ap closing (ap (kept_of s e) f.gs-are ∙ kept-last f.front f.g f.behind-g f.blank-g))
      where
        same_test : holds_live s e f.h ≡ holds_live s e f.g
        same_test =
            let both : leb s f.h.max ≡ leb s f.g.max =
            le-leb s f.h.max (omega (arith, f.max-h)) ∙ sym (le-leb s f.g.max (omega (arith, f.max-g))) in
            λ i. leb (f.min i) e && both i

        go : (b : Bool) → closing (kept_of s e f.front ++ pick b (f.h ∷ []) []) ≡ closing (kept_of s e f.front ++ pick b (f.g ∷ []) [])
        go true = close-last (kept_of s e f.front) f.g f.h f.id f.slot f.size f.min
        go false = refl

-- ---- recovery

-- images are walked: the tests before the walk are passed
record Passed (k c m : ℕ) (area : List ℕ) (rows : List ImageRow) (s e room : ℕ) : Type 0 where
  pub order : s ≤ e
  pub above : 0 < s
  pub is : recovery_of k c m area rows s e room ≡ scanned k c m area (sort_rows rows) s e room

passed : (k c m : ℕ) (area : List ℕ) (rows : List ImageRow) (s e room : ℕ) → walks k c m area rows s e ≡ true
    → Passed k c m area rows s e room
unfolding walks recovery_of
passed k c m area rows s e room h =
    let n = and_both _ (not (eqb s 0)) h in
    let q = and_both _ (one_apart (sort_rows rows)) n.0 in
    let l = and_both _ (not (lowest_zero (sort_rows rows))) q.0 in
    let f = and_both _ (rows_fit k c rows) l.0 in
    let d = and_both _ (not (ltb e s)) f.0 in
    let a = and_both (roomy_of k c m (length area)) (not (one_zero s e)) d.0 in
    let one : one_zero s e ≡ false = not-true _ a.1 in
    let two : ltb e s ≡ false = not-true _ d.1 in
    let low : lowest_zero (sort_rows rows) ≡ false = not-true _ l.1 in
    let zero : eqb s 0 ≡ false = not-true _ n.1 in
    record {
      order = ltb-false e s two;
      above = omega (arith, eqb-false s 0 zero);
      is = simp (a.0, one, two, f.1, low, q.1, zero);
    }

-- WHAT WAS ACCEPTED IS ACCEPTED, WITH THE SAME OUTCOME
pub accepted-stays : AcceptedStays
unfolding scan_of judged
accepted-stays k c m area rows s e room z gs walks whole start end enough =
    let p = passed k c m area rows s e room walks in
    let order = p.order in
    let above = p.above in
    let some : 0 < e = omega arith in
    let b = beside-all s e some order area c (sort_rows rows) pen_of z gs (goes_on_lem start_of refl) whole in
    let found : scan_of area c s e (sort_rows rows) room ≡ walked b.d b.segs =
    ap (judged s e room) b.walk ∙ simp (b.start ∙ start, b.end ∙ end, le-ltb room (4 * live_count s e) enough) in
    p.is ∙ ap (outcome_of k c m area s e (sort_rows rows)) found
    ∙ (λ i. closed_of k c m area s e (b.from i) (b.head i) (b.rows i) (front_of (kept_of s e b.segs)) (head_of (kept_of s e b.segs)))
    ∙ close-same s e some order above k c m area z.scan.start_of_e z.scan.end_of_e z.words gs b.segs b.differ
