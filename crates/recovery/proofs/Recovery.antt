-- What holds of every accepted recovery, whatever bytes the images hold: its log is well shaped and fits the area; its index rows are
-- those of s to e, in order; and no byte of the area changes but the head's missing padding. Assumes nothing.
use mathlib.Core.Path.{◌≡◌, refl, sym, ap, subst, ◌∙◌}
use mathlib.Core.Bool.{Bool, true, false, not}
use mathlib.Core.List.{List, [], ◌∷◌}
use Prim.Native.Nat.{ℕ, ◌+◌, ◌-◌, ◌*◌, ◌≤◌}
use native.Mathlib.Omega.{arith}
use lib.ListN.{length, drop, replicate, length-replicate}
use lib.Dec.{eqb, ltb, leb}
use borrow.Author.Tests.{eq-eqb, eqb-true, eqb-false, ltb-false, le-leb, leb-true}
use Rattle.lists.specs.Choice.{◌⇒◌, first}
use Rattle.lists.specs.Splice.{part, slot_of}
use Rattle.lists.proofs.Splice.{splice-length, splice-before, splice-behind, splice-slot}
use Rattle.segment.specs.declared.Segment.{Segment}
use Rattle.seglog.specs.View.{View, empty_of, log_of, head_of, front_of}
use Rattle.seglog.specs.Chain.{chain_of, ends_of, slots_apart}
use Rattle.seglog.specs.Fit.{sizes_of, shaped_of, fits_of, fitting_of}
use Rattle.seglog.specs.New.{roomy_of}
use Rattle.lists.proofs.Bools.{zero-is-not-one, and_both, both-and}
use Rattle.seglog.proofs.Fit.{sizes-are, are-sizes, Roomy, roomy-is}
use Rattle.seglog.proofs.View.{plain-log, view-log, head-snoc}
use Rattle.segment.specs.declared.ImageRow.{ImageRow}
use Rattle.lists.specs.Outcome.{Outcome, refused, done}
use Rattle.lists.proofs.Outcome.{done-injective}
use Rattle.lists.specs.Each.{all, linked}
use Rattle.lists.specs.Distinct.{distinct}
use Rattle.walk.specs.declared.Scan.{Scan}
use Rattle.walk.specs.Judging.{start_of}
use Rattle.recovery_walk.specs.Images.{Found, walked, images}
use Rattle.recovery_walk.specs.Rows.{rows_all, pen_of, RowIds}
use Rattle.recovery_walk.specs.Scan.{live_count, scan_of}
use Rattle.recovery_walk.proofs.RowsIds.{Accepted, scan-accepted, scan-rows}
use Rattle.image_rows.specs.ImageRows.{sort_rows, rows_fit, lowest_zero, one_apart}
use Rattle.recovery.specs.Recovery.{Restored, recovered, outcome_of, scanned, one_zero, recovery_of}
use Rattle.recovery.specs.Keeping.{kept_of, closed_view}
use Rattle.segment.specs.Segment.{ended_at, padded_to}
use Rattle.recovery.specs.Promised.{Padding, RecoveredFits, RecoveredFrame, RecoveredEmpty}
use Rattle.image_rows.proofs.ImageRows.{sort-inside, sort-apart, Ids, ids-are, fit_is}
use Rattle.recovery.proofs.RecoveryShape.{images-slots, slots_apart_lem, kept-apart, closed-shaped}
use Rattle.recovery.proofs.RecoveryScan.{Keeps, scan-keeps}

-- ---- an accepted recovery leaves one log, one area and one list of words

pub record OneLeft (a b : View) (area area' words words' : List ℕ) : Type 0 where
  pub one-log : a ≡ b
  pub one-area : area ≡ area'
  pub one-words : words ≡ words'

pub recovered-same : {a b : View} {area area' words words' : List ℕ} → recovered a area words ≡ recovered b area' words'
    → OneLeft a b area area' words words'
recovered-same e =
    let both = done-injective e in
    record {
      one-log = ap (λ (x : Restored). x.log) both;
      one-area = ap (λ (x : Restored). x.area) both;
      one-words = ap (λ (x : Restored). x.words) both;
    }

-- a well-shaped log lists 64 segments at most
shaped-few : (a : View) → shaped_of a ≡ true → length a.segs ≤ 64
unfolding shaped_of
shaped-few a h =
    let t = and_both _ (ends_of a.start a.end a.segs) h in
    let u = and_both _ (slots_apart a.segs) t.0 in
    let v = and_both _ (chain_of a.k a.c a.segs) u.0 in
    let w = and_both (sizes_of a.k a.c a.m) (leb (length a.segs) a.k) v.0 in
    omega (arith, leb-true (length a.segs) a.k w.1, (sizes-are a.k a.c a.m w.0).few-slots)

-- ---- what an accepted recovery has passed

module _ (k c m : ℕ) (area : List ℕ) (rows : List ImageRow) (s e room : ℕ) where
  -- none of 1 and 11 to 15
  pub record Passed : Type 0 where
    pub roomy : roomy_of k c m (length area) ≡ true
    pub order : s ≤ e
    pub fit : rows_fit k c rows ≡ true
    pub low : lowest_zero (sort_rows rows) ≡ false
    pub apart : one_apart (sort_rows rows) ≡ true

  -- the empty log for the range (0, 0), or the scan's
  passed : {P : Type 0} (a : View) (area' words : List ℕ) → recovery_of k c m area rows s e room ≡ recovered a area' words
      → (Passed → s ≡ 0 → recovered (empty_of k c m) area [] ≡ recovered a area' words → P)
      → (Passed → (s ≡ 0 → ⊥) → scanned k c m area (sort_rows rows) s e room ≡ recovered a area' words → P) → P
  unfolding recovery_of
  passed {P} a area' words q empty full =
      go (roomy_of k c m (length area)) (one_zero s e) (ltb e s) (rows_fit k c rows) (lowest_zero (sort_rows rows)) (one_apart (sort_rows rows))
      (eqb s 0)
      refl refl refl refl refl refl q
    where
      go : (x o t f l p z : Bool) → roomy_of k c m (length area) ≡ x → ltb e s ≡ t → rows_fit k c rows ≡ f → lowest_zero (sort_rows rows) ≡ l
          → one_apart (sort_rows rows) ≡ p → eqb s 0 ≡ z
          → first
          ((not x ⇒ refused 1) ∷ (o ⇒ refused 11) ∷ (t ⇒ refused 12) ∷ (not f ⇒ refused 13) ∷ (l ⇒ refused 14) ∷ (not p ⇒ refused 15)
          ∷ (z ⇒ recovered (empty_of k c m) area []) ∷ []) (scanned k c m area (sort_rows rows) s e room)
          ≡ recovered a area' words → P
      go false o t f l p z ex et ef el ep ez w = zero-is-not-one (cc)
      go true true t f l p z ex et ef el ep ez w = zero-is-not-one (cc)
      go true false true f l p z ex et ef el ep ez w = zero-is-not-one (cc)
      go true false false false l p z ex et ef el ep ez w = zero-is-not-one (cc)
      go true false false true true p z ex et ef el ep ez w = zero-is-not-one (cc)
      go true false false true false false z ex et ef el ep ez w = zero-is-not-one (cc)
      go true false false true false true true ex et ef el ep ez w =
          empty (record { roomy = ex; order = ltb-false e s et; fit = ef; low = el; apart = ep }) (eqb-true s 0 ez) w
      go true false false true false true false ex et ef el ep ez w =
          full (record { roomy = ex; order = ltb-false e s et; fit = ef; low = el; apart = ep }) (eqb-false s 0 ez) w

  -- ---- a scan's outcome

  -- what an accepted scan leaves: the last kept segment closed at e
  pub record Left (a : View) (area' words : List ℕ) : Type 0 where
    pub d : Scan
    pub gs : List Segment
    pub out : scan_of area c s e (sort_rows rows) room ≡ walked d gs
    pub view : a ≡ closed_view k c m s e d.start_of_e d.end_of_e (kept_of s e gs)
    pub bytes : area' ≡ padded_to c area (head_of (kept_of s e gs)) d.end_of_e
    pub index : words ≡ rows_all area c s e (sort_rows rows) pen_of

  left : (a : View) (area' words : List ℕ) → scanned k c m area (sort_rows rows) s e room ≡ recovered a area' words → Left a area' words
  left a area' words q = by (scan_of area c s e (sort_rows rows) room) refl q
    where
      by : (o : Outcome Found) → scan_of area c s e (sort_rows rows) room ≡ o
          → outcome_of k c m area s e (sort_rows rows) o ≡ recovered a area' words → Left a area' words
      by (refused n) p w = zero-is-not-one (cc)
      by (done (d, gs)) p w =
          let same = recovered-same w in
          record { d = d; gs = gs; out = p; view = sym same.one-log; bytes = sym same.one-area; index = sym same.one-words }

  module _ (p : Passed) (some : s ≡ 0 → ⊥) (a : View) (area' words : List ℕ) (w : Left a area' words) where
    went : Accepted s e room (images area c s e (sort_rows rows) start_of) w.d w.gs
    unfolding scan_of
    went = scan-accepted s e room (images area c s e (sort_rows rows) start_of) w.d w.gs w.out

    sizes : Roomy k c m (length area)
    sizes = roomy-is k c m (length area) p.roomy

    ids : Ids (sort_rows rows)
    ids = ids-are (sort_rows rows) p.low p.apart

    keeps : Keeps k c s e ids.i w.d.start_of_e w.d.end_of_e w.gs
    keeps =
        scan-keeps area k c s e ids.i room (sort_rows rows) w.d w.gs sizes.area sizes.sizes.whole-pages p.order some
        (sort-inside k c rows (fit_is k c rows p.fit).inside) ids.from went

    -- slots of their own
    own : slots_apart (kept_of s e w.gs) ≡ true
    own =
        kept-apart s e w.gs
        (slots_apart_lem (sort_rows rows) w.gs (images-slots area c s e (sort_rows rows) start_of w.d w.gs went.walk)
        ∙ sort-apart rows (fit_is k c rows p.fit).apart)

    scan-fits : fits_of a area' ≡ true
    unfolding fits_of
    scan-fits =
        let shaped : shaped_of a ≡ true =
        ap shaped_of w.view
        ∙ closed-shaped k c m s e ids.i w.d.start_of_e w.d.end_of_e (kept_of s e w.gs) (are-sizes k c m sizes.sizes)
        ids.some p.order keeps.whole keeps.head own in
        let long : length area' ≡ a.k * a.c =
        ap length w.bytes ∙ splice-length _ _ area ∙ sizes.area ∙ sym (ap (λ (v : View). v.k * v.c) w.view) in
        both-and (shaped_of a) (eqb (length area') (a.k * a.c)) shaped (eq-eqb (length area') (a.k * a.c) long)

  -- so does the empty log, and with it every accepted log
  fits : (a : View) (area' words : List ℕ) → recovery_of k c m area rows s e room ≡ recovered a area' words → fits_of a area'
      ≡ true
  unfolding fits_of shaped_of chain_of all linked distinct ends_of
  fits a area' words q =
      passed a area' words q
      (λ p z w.
      let sizes = roomy-is k c m (length area) p.roomy in
      let same = recovered-same w in
      subst (λ (v : View). fits_of v area' ≡ true) same.one-log
      (subst (λ (l : List ℕ). fits_of (empty_of k c m) l ≡ true) same.one-area
      (simp (are-sizes k c m sizes.sizes, le-leb 0 k (omega arith), eq-eqb (length area) (k * c) sizes.area))))
      (λ p some w. scan-fits p some a area' words (left a area' words w))

  -- so the log in its 64 entries is not refused by 2
  pub recovered-log-fits : (a : View) (area' words : List ℕ) → recovery_of k c m area rows s e room ≡ recovered a area' words
      → fitting_of (log_of a) (length area') ≡ true
  unfolding fitting_of fits_of
  recovered-log-fits a area' words q =
      let in_area_lem = fits a area' words q in
      let few = shaped-few a (and_both (shaped_of a) (eqb (length area') (a.k * a.c)) in_area_lem).0 in
      simp (plain-log a few, ap shaped_of (view-log a)) in_area_lem

  -- "Rows are exactly s..e in order": there are e - s + 1 of them, row i with the id s + i
  pub recovered-rows : (a : View) (area' words : List ℕ) → (s ≡ 0 → ⊥) → recovery_of k c m area rows s e room ≡ recovered a area' words
      → RowIds s (live_count s e) words
  recovered-rows a area' words some q =
      passed a area' words q (λ p z w. absurd (some z))
      (λ p n w.
      let l = left a area' words w in
      let g = went p n a area' words l in
      subst (RowIds s (live_count s e)) (sym l.index)
      (scan-rows area c s e (sort_rows rows) l.d l.gs (omega (arith, some)) g.walk g.start g.end))

  -- ---- which bytes change

  frame : (a : View) (area' words : List ℕ) → (s ≡ 0 → ⊥) → recovery_of k c m area rows s e room ≡ recovered a area' words
      → Padding c area a area'
  frame a area' words some q =
      passed a area' words q (λ p z w. absurd (some z)) (λ p n w. scan-frame p n (left a area' words w))
    where
      scan-frame : Passed → (s ≡ 0 → ⊥) → Left a area' words → Padding c area a area'
      scan-frame p n w =
          let kept = keeps p n a area' words w in
          let cut = kept.whole.cut in
          let g : Segment = head_of (kept_of s e w.gs) in
          let is : g ≡ cut.g = ap head_of cut.is ∙ head-snoc cut.hs cut.g in
          let size : g.size ≤ c = omega (arith, ap (λ (z : Segment). z.size) is, cut.good.size) in
          let x : ℕ = w.d.end_of_e in
          let fits : x ≤ c = kept.head.fits in
          let zeros : List ℕ = replicate (x - g.size) 0 in
          let long : length zeros ≡ x - g.size = length-replicate {A = ℕ} (x - g.size) 0 in
          let at : ℕ = g.slot * c + g.size in
          let head : Segment = ended_at g e w.d.start_of_e x in
          let closed : head_of a.segs ≡ head =
          ap (λ (v : View). head_of v.segs) w.view ∙ head-snoc (front_of (kept_of s e w.gs)) head in
          let end : (head_of a.segs).size ≡ x = ap (λ (z : Segment). z.size) closed in
          record {
            slot = g.slot;
            size = g.size;
            framed = record {
              long = ap length w.bytes ∙ splice-length at zeros area;
              others = λ j apart.
                  ap (slot_of c j) w.bytes ∙ splice-slot c g.slot j at zeros area (omega arith) (omega arith) apart;
              before = λ i l h. ap (part i l) w.bytes ∙ splice-before at zeros area i l h;
              behind = λ i h b. ap (drop i) w.bytes ∙ splice-behind at zeros area i (omega arith);
            };
            head = ap (λ (z : Segment). z.slot) closed;
          }

-- ---- the statements

pub recovered-fits : RecoveredFits
recovered-fits = fits

pub recovered-frame : RecoveredFrame
recovered-frame = frame

pub recovered-empty : RecoveredEmpty
recovered-empty k c m area rows s e room a area' words none q =
    passed k c m area rows s e room a area' words q
    (λ p z w. let same = recovered-same w in (sym same.one-log, sym same.one-area, sym same.one-words))
    (λ p n w. absurd (n none))
