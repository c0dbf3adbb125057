-- A scan of the sorted rows, on plain values: what it asks, what an accepted one keeps of any images, and what its ways ensure.
-- Assumes nothing.
use mathlib.Core.Path.{◌≡◌, refl, sym, ap, subst, ◌∙◌}
use mathlib.Core.Bool.{Bool, true, false, not}
use mathlib.Core.List.{List, [], ◌∷◌}
use Prim.Native.Nat.{ℕ, ◌-◌, ◌*◌, ◌/◌, ◌%◌, ◌≤◌, ◌<◌}
use native.Mathlib.Nat.{mul-le-mul_right, suc-mul}
use native.Mathlib.Omega.{arith}
use lib.ListN.{length, take, replicate, length-append}
use lib.Seq.{take_at}
use lib.Dec.{ltb}
use Rattle.lists.specs.Choice.{◌⇒◌, first}
use Rattle.lists.specs.Outcome.{Outcome, refused, done}
use Rattle.lists.proofs.Outcome.{refused-injective, refused-is-not-done, done-injective}
use Rattle.std.specs.Prelude.{Ok, Err}
use Rattle.refusal.specs.declared.Refusal.{Refusal}
use Rattle.refusal.specs.Refusals.{number}
use Rattle.segment.specs.declared.Segment.{Segment}
use Rattle.seglog.specs.View.{log_of, head_of}
use Rattle.segment.specs.Segment.{no_segment, padded_to}
use Rattle.segment.specs.Chain.{InSlot}
use Rattle.lists.proofs.Bools.{clash, zero-is-not-one}
use Rattle.seglog.proofs.Fit.{roomy-is}
use Rattle.seglog.proofs.View.{entries_of, head-snoc}
use Rattle.segment.specs.declared.ImageRow.{ImageRow}
use Rattle.segment.proofs.Cut.{slot-inside}
use Rattle.walk.specs.declared.Scan.{Scan}
use Rattle.walk.specs.Judging.{start_of}
use Rattle.recovery_walk.specs.declared.Scanned.{Scanned}
use Rattle.recovery_walk.specs.Images.{Found, walked, images, row_at, WalkPre}
use Rattle.recovery_walk.specs.Rows.{rows_all, pen_of}
use Rattle.recovery_walk.specs.Scan.{live_count, judged, scan_of, scanned_of, index_of, ScanDid}
use Rattle.recovery_walk.proofs.Images.{images-number}
use Rattle.recovery_walk.proofs.RowsIds.{Accepted, scan-accepted, scan-rows}
use Rattle.recovery.specs.declared.Recovered.{Recovered}
use Rattle.image_rows.specs.ImageRows.{rows_inside}
use Rattle.recovery.specs.Recovery.{recovered, outcome_of, scanned, recovery_answer, recovery_area, recovery_index, RecoveryDid, ScanPre, answered}
use Rattle.recovery.specs.Keeping.{kept_of, closed_view, ClosePre, CloseDid}
use Rattle.segment.specs.Segment.{padded_to}
use Rattle.image_rows.proofs.ImageRows.{inside-at, IdsFrom, ids-are}
use Rattle.recovery.proofs.ImagesWalked.{HeadGood, images-tell}
use Rattle.recovery.proofs.KeepingCut.{Whole, kept-empty, cut-whole}
use Rattle.recovery.proofs.RecoveryShape.{images-slots, slots_length}
use Rattle.recovery.proofs.RecoveryWays.{did-refused}

-- what the walk asks of rows
pub walk-pre : (area : List ℕ) (k c : ℕ) (rs : List ImageRow) → length area ≡ k * c → length rs ≤ 64 → rows_inside k c rs ≡ true
    → WalkPre area c rs
walk-pre area k c rs all few inside =
    record {
      few = few;
      within = λ i h. let t = inside-at k c rs i inside h in omega (arith, t.1, mul-le-mul_right c t.0, suc-mul (row_at rs i).slot c);
    }

-- ---- the scan's outcome

-- a scan's refusal has a number
pub scan-number : (area : List ℕ) (c s e : ℕ) (rs : List ImageRow) (words m : ℕ) → scan_of area c s e rs words ≡ refused m → m ≡ 0 → ⊥
unfolding scan_of judged
scan-number area c s e rs words m q = by (images area c s e rs start_of) refl q
  where
    is : (n : ℕ) → n ≡ m → 16 ≤ n → m ≡ 0 → ⊥
    is n e h z = omega arith

    by : (o : Outcome Found) → images area c s e rs start_of ≡ o → judged s e words o ≡ refused m → m ≡ 0 → ⊥
    by (refused n) p z = is n (cc) (images-number area c s e rs start_of n p).low
    by (done (x, xs)) p z = go x.found_s x.found_e (ltb words (4 * live_count s e)) z
      where
        go : (a b t : Bool)
            → first ((not a ⇒ refused 21) ∷ (not b ⇒ refused 22) ∷ (t ⇒ refused 23) ∷ []) (walked x xs) ≡ refused m → m ≡ 0 → ⊥
        go false b t w = is 21 (cc) (omega arith)
        go true false t w = is 22 (cc) (omega arith)
        go true true true w = is 23 (cc) (omega arith)
        go true true false w = zero-is-not-one (cc)

-- what an accepted scan keeps
pub record Keeps (k c s e i at x : ℕ) (gs : List Segment) : Type 0 where
  pub whole : Whole s e (InSlot k c) i (kept_of s e gs)
  pub head : HeadGood c at x

pub scan-keeps : (area : List ℕ) (k c s e i room : ℕ) (rs : List ImageRow) (d : Scan) (gs : List Segment) → length area ≡ k * c
    → c % 4096 ≡ 0 → s ≤ e → (s ≡ 0 → ⊥) → rows_inside k c rs ≡ true → IdsFrom i rs
    → Accepted s e room (images area c s e rs start_of) d gs → Keeps k c s e i d.start_of_e d.end_of_e gs
scan-keeps area k c s e i room rs d gs all pages order some inside ids a =
    let t = images-tell area k c s e all pages order rs i start_of d gs inside ids a.walk in
    let start = t.start refl a.start in
    let end = t.end refl a.end in
    let kept : kept_of s e gs ≡ kept_of s e t.ys =
    ap (kept_of s e) t.split ∙ kept-empty s e t.ys t.zs (omega (arith, some)) t.empty in
    record {
      whole = subst (Whole s e (InSlot k c) i) (sym kept)
          (cut-whole s e (InSlot k c) t.ys i t.b t.j d.last t.chain t.follows.some start.0 order end.1);
      head = t.head (λ z. clash z) a.end;
    }

-- what the walk asks of sorted rows
pub walk-asks : (k c m : ℕ) (area : List ℕ) (rs : List ImageRow) (s e : ℕ) → ScanPre k c m area rs s e → WalkPre area c rs
walk-asks k c m area rs s e pre = walk-pre area k c rs (roomy-is k c m (length area) pre.roomy).area pre.few pre.inside

-- the scan of sorted rows
module _ (k c m : ℕ) (area : List ℕ) (rs : List ImageRow) (s e : ℕ) (index : List ℕ) (pre : ScanPre k c m area rs s e) (index' : List ℕ)
  where
    abbrev n : ℕ
    n = length rs

    abbrev comes : Outcome Found
    comes = scan_of area c s e rs (length index)

    -- 16 to 23
    pub did-fault : (r : Refusal) → ScanDid area c s e rs index index' (Err r)
        → RecoveryDid (scanned k c m area rs s e (length index)) area index (Err r) area index'
    unfolding index_of
    did-fault r did = by comes refl
      where
        by : (o : Outcome Found) → comes ≡ o → RecoveryDid (scanned k c m area rs s e (length index)) area index (Err r) area index'
        by (refused j) q =
            let number_is : number r ≡ j = refused-injective (did.answer ∙ ap scanned_of q) in
            let stays : index' ≡ index = did.words ∙ ap (λ (o : Outcome Found). index_of (rows_all area c s e rs pen_of) o index) q in
            subst (λ (z : List ℕ). RecoveryDid (scanned k c m area rs s e (length index)) area index (Err r) area z) (sym stays)
            (did-refused (scanned k c m area rs s e (length index)) area index r
            (ap (outcome_of k c m area s e rs) q ∙ ap (λ (x : ℕ). refused x) (sym number_is)))
        by (done a) q = refused-is-not-done (did.answer ∙ ap scanned_of q)

    -- a scan without a fault
    module _ (r : Scanned) (did : ScanDid area c s e rs index index' (Ok r)) where
      pub record NoFault : Type 0 where
        pub gs : List Segment
        pub out : comes ≡ walked r.scan gs
        pub segs : r.segs ≡ entries_of gs

      pub no-fault : NoFault
      no-fault = by comes refl
        where
          by : (o : Outcome Found) → comes ≡ o → NoFault
          by (refused j) q = refused-is-not-done (sym (did.answer ∙ ap scanned_of q))
          by (done (d, gs)) q =
              let same = done-injective (did.answer ∙ ap scanned_of q) in
              record {
                gs = gs;
                out = q ∙ ap (λ (y : Scan). walked y gs) (sym (ap (λ (y : Scanned). y.scan) same));
                segs = ap (λ (y : Scanned). y.segs) same;
              }

      abbrev w : NoFault
      w = no-fault

      went : Accepted s e (length index) (images area c s e rs start_of) r.scan w.gs
      unfolding scan_of
      went = scan-accepted s e (length index) (images area c s e rs start_of) r.scan w.gs w.out

      -- the segments that were found are the first n entries
      listed : take n r.segs ≡ w.gs
      listed =
          let long : length w.gs ≡ n =
          slots_length rs w.gs (images-slots area c s e rs start_of r.scan w.gs went.walk) in
          ap (take n) w.segs ∙ take_at w.gs (replicate (64 - length w.gs) no_segment) n long

      -- what closing asks
      pub close-pre : ClosePre c s e n r.scan.end_of_e area (kept_of s e (take n r.segs))
      close-pre =
          let room = roomy-is k c m (length area) pre.roomy in
          let ids = ids-are rs pre.low pre.apart in
          let keeps = scan-keeps area k c s e ids.i (length index) rs r.scan w.gs room.area room.sizes.whole-pages
          pre.order pre.some pre.inside ids.from went in
          let cut = keeps.whole.cut in
          let head : head_of (kept_of s e w.gs) ≡ cut.g = ap head_of cut.is ∙ head-snoc cut.hs cut.g in
          let slot : (head_of (kept_of s e w.gs)).slot < k = omega (arith, ap (λ (z : Segment). z.slot) head, cut.good.slot) in
          subst (λ (l : List Segment). ClosePre c s e n r.scan.end_of_e area (kept_of s e l)) (sym listed)
          (record {
            few = pre.few;
            range = record { some = omega (arith, pre.some); order = pre.order };
            some = omega (arith, ap length cut.is, length-append cut.hs (cut.g ∷ []));
            slot = slot-inside k c (head_of (kept_of s e w.gs)).slot (length area) slot room.area;
            end = keeps.head.fits;
          })

      -- accepted: what closing did is what recovery says
      pub did-close : (x : Recovered) (area' : List ℕ)
          → CloseDid k c m s e r.scan.start_of_e r.scan.end_of_e (kept_of s e (take n r.segs)) area area' x
          → RecoveryDid (scanned k c m area rs s e (length index)) area index (Ok x) area' index'
      unfolding index_of
      did-close x area' closed =
          let words : List ℕ = rows_all area c s e rs pen_of in
          let done : scanned k c m area rs s e (length index)
          ≡ recovered (closed_view k c m s e r.scan.start_of_e r.scan.end_of_e (kept_of s e w.gs))
          (padded_to c area (head_of (kept_of s e w.gs)) r.scan.end_of_e)
          words =
          ap (outcome_of k c m area s e rs) w.out in
          let live : live_count s e ≡ length words / 4 =
          let rows = scan-rows area c s e rs r.scan w.gs (omega (arith, pre.some)) went.walk went.start went.end in
          omega (arith, rows.count) in
          record {
            answer = ap (λ (y : Recovered). answered (Ok y)) closed.answer
                ∙ ap (λ (l : List Segment). record {
                  refusal = 0;
                  rows = live_count s e;
                  log = log_of (closed_view k c m s e r.scan.start_of_e r.scan.end_of_e (kept_of s e l));
                }) listed
                ∙ ap (λ (y : ℕ). record {
                  refusal = 0;
                  rows = y;
                  log = log_of (closed_view k c m s e r.scan.start_of_e r.scan.end_of_e (kept_of s e w.gs));
                }) live ∙ sym (ap recovery_answer done);
            bytes = closed.bytes ∙ ap (λ (l : List Segment). padded_to c area (head_of (kept_of s e l)) r.scan.end_of_e) listed
                ∙ sym (ap (recovery_area area) done);
            words = did.words ∙ ap (λ (o : Outcome Found). index_of words o index) w.out ∙ sym (ap (recovery_index index) done);
          }
