-- Dependence: a scan's answer and the index after it depend on the area's length and on the twelve bytes of each header walked, and on
-- no other byte of the area. So no payload byte and no padding byte is looked at. Assumes nothing.
use mathlib.Core.Path.{◌≡◌, refl, sym, ap, ◌∙◌}
use mathlib.Core.Logic.{◌⊎◌, ⊎_elim}
use mathlib.Core.List.{List, [], ◌∷◌}
use Prim.Native.Nat.{ℕ, ◌+◌, ◌-◌, ◌*◌, ◌≤◌}
use native.Mathlib.Omega.{arith}
use lib.ListN.{length, drop, length-take, length-drop}
use Rattle.lists.specs.Outcome.{Outcome, refused, done}
use Rattle.lists.specs.Splice.{part, splice}
use Rattle.lists.proofs.Bools.{zero-is-not-one}
use Rattle.lists.proofs.Cases.{by-test, by_order}
use Rattle.lists.proofs.Splice.{part-part, splice-before, splice-after, splice-length}
use Rattle.record.specs.Record.{header_at}
use Rattle.record.proofs.Record.{header-short as read_short}
use Rattle.refusal.specs.declared.Refusal.{Refusal}
use Rattle.refusal.proofs.Refusals.{outcomes-differ}
use Rattle.segment.specs.declared.Segment.{Segment}
use Rattle.segment.specs.declared.ImageRow.{ImageRow}
use Rattle.segment.specs.Segment.{image_of}
use Rattle.walk.specs.declared.Scan.{Scan}
use Rattle.walk.specs.declared.Fault.{Fault}
use Rattle.std.specs.Prelude.{Result, Ok, Err}
use Rattle.refusal.specs.declared.Refusal.TheVariants.{ImageGap}
use Rattle.walk.specs.Judging.{gap_of, opened_of, start_of}
use Rattle.walk.specs.Walk.{walk_by, walk_of}
use Rattle.walk.specs.Headers.{EachHeader}
use Rattle.walk.proofs.Headers as Walks
use Rattle.recovery_walk.specs.declared.Scanned.{Scanned}
use Rattle.recovery_walk.specs.Images.{image_walk, Found, walked, images, behind, filled_of}
use Rattle.recovery_walk.specs.Rows.{Pen, pen_with, moved_of, rows_in, rows_all, pen_of}
use Rattle.recovery_walk.specs.Scan.{judged, scan_of, scanned_of, index_of, ScanDid}
use Rattle.recovery_walk.specs.Headers.{EachInRow, EachWalked, no-image, gap-over, image-here, SameHeader}
use Rattle.recovery_walk.specs.Promised.{ScanDepends, PayloadUnread}
use Rattle.recovery_walk.proofs.Images.{image-gapped, image-calm, images-fault, images-next, first-walked}
use Rattle.recovery_walk.proofs.Rows.{rows_end, rows_next, rows-fault, rows-scan}

module _ (area area' : List ℕ) (c s e : ℕ) (long : length area ≡ length area') where
  -- ---- one image

  -- images are as long in the one area as in the other
  image-long : (r : ImageRow) → length (image_of area c r) ≡ length (image_of area' c r)
  image-long r = simp (length-take, length-drop, long)

  module _ (r : ImageRow) where
    abbrev img : List ℕ
    img = image_of area c r

    abbrev img' : List ℕ
    img' = image_of area' c r

    -- a header that fits an image stands in the area
    placed : (l : List ℕ) (p : ℕ) → 12 ≤ length (image_of l c r) - p → part p 12 (image_of l c r) ≡ part (r.slot * c + p) 12 l
    placed l p h =
        part-part (r.slot * c) r.size p 12 l (omega (arith, h, length-take r.size (drop (r.slot * c) l)))

    -- where the areas have the same twelve bytes, the same header is read
    same_read : (p : ℕ) → SameHeader area area' (r.slot * c + p) → header_at img p ≡ header_at img' p
    same_read p q =
        by_order 12 (length img - p)
        (λ h. Walks.header-depends img img' p
        (placed area p h ∙ q ∙ sym (placed area' p (omega (arith, image-long r)))) (image-long r))
        (λ h. read_short img p h ∙ sym (read_short img' p (rw (← image-long r) h)))

    module _ (w : Scan) (each : EachInRow (SameHeader area area') area c s e r w) where
      -- the walks of the two images read the same headers
      reads : EachHeader (λ p. header_at img p ≡ header_at img' p) (length img) (header_at img) s e w
      reads = Walks.each_map _ _ same_read (length img) (header_at img) s e w each

      -- so they come to the same
      pub walk_same : walk_of img s e w ≡ walk_of img' s e w
      walk_same =
          Walks.walk-depends (length img) (header_at img) (header_at img') s e w reads
          ∙ ap (λ (n : ℕ). walk_by n (header_at img') s e w) (image-long r)

      -- and so do their rows, after any words
      pub rows_same : (ws : List ℕ) → rows_in img r.slot s e (pen_with ws w) ≡ rows_in img' r.slot s e (pen_with ws w)
      unfolding moved_of
      rows_same =
          Walks.along (length img) (header_at img) (header_at img') s e
          (λ w. (ws : List ℕ) → rows_in img r.slot s e (pen_with ws w) ≡ rows_in img' r.slot s e (pen_with ws w))
          (λ w h ws. rows_end img r.slot s e (pen_with ws w) h
          ∙ sym (rows_end img' r.slot s e (pen_with ws w) (rw (← image-long r) h)))
          (λ w m h a b ws. rows-fault img r.slot s e (pen_with ws w) m h a
          ∙ sym (rows-fault img' r.slot s e (pen_with ws w) m (rw (← image-long r) h) (rw (← image-long r) b)))
          (λ w d h a b on ws. rows_next img r.slot s e (pen_with ws w) d h a ∙ on _
          ∙ sym (rows_next img' r.slot s e (pen_with ws w) d (rw (← image-long r) h) (rw (← image-long r) b)))
          w reads

    -- an image whose headers walked are the same is walked alike, with 16 before it
    pub image-same : (w : Scan) → EachInRow (SameHeader area area') area c s e r (opened_of w r.size)
        → image_walk area c s e r w ≡ image_walk area' c s e r w
    image-same w each =
        by-test (gap_of w r.size) (λ h. image-gapped area c s e r w h ∙ sym (image-gapped area' c s e r w h))
        (λ h. image-calm area c s e r w h ∙ walk_same (opened_of w r.size) each ∙ sym (image-calm area' c s e r w h))

  -- ---- the images

  -- the walk over the images comes to the same
  pub images-depend : (rs : List ImageRow) (w : Scan) → EachWalked (SameHeader area area') area c s e rs w
      → images area c s e rs w ≡ images area' c s e rs w
  unfolding images
  images-depend [] w no-image = refl
  images-depend (r ∷ rs) w (gap-over h) =
      images-fault area c s e r w rs (record { refusal = ImageGap; scan = w }) (image-gapped area c s e r w h)
      ∙ sym (images-fault area' c s e r w rs (record { refusal = ImageGap; scan = w }) (image-gapped area' c s e r w h))
  images-depend (r ∷ rs) w (image-here each k) =
      go (image_walk area c s e r w) refl (λ d m. images-depend rs d (k d m))
    where
      same : image_walk area c s e r w ≡ image_walk area' c s e r w
      same = image-same r w each

      go : (o : Result Scan Fault) → image_walk area c s e r w ≡ o
          → ((d : Scan) → image_walk area c s e r w ≡ Ok d → images area c s e rs d ≡ images area' c s e rs d)
          → images area c s e (r ∷ rs) w ≡ images area' c s e (r ∷ rs) w
      go (Err f) t ih = images-fault area c s e r w rs f t ∙ sym (images-fault area' c s e r w rs f (sym same ∙ t))
      go (Ok d) t ih =
          images-next area c s e r w rs d t ∙ ap (behind (filled_of r d ∷ [])) (ih d t)
          ∙ sym (images-next area' c s e r w rs d (sym same ∙ t))

  -- the rows of an accepted walk are the same
  pub rows-depend : (rs : List ImageRow) (w d : Scan) (hs : List Segment) (ws : List ℕ)
      → EachWalked (SameHeader area area') area c s e rs w → images area c s e rs w ≡ walked d hs
      → rows_all area c s e rs (pen_with ws w) ≡ rows_all area' c s e rs (pen_with ws w)
  unfolding rows_all
  rows-depend [] w d hs ws no-image q = refl
  rows-depend (r ∷ rs) w d hs ws (gap-over h) q =
      zero-is-not-one (cc (sym (images-fault area c s e r w rs (record { refusal = ImageGap; scan = w }) (image-gapped area c s e r w h)) ∙ q))
  rows-depend (r ∷ rs) w d hs ws (image-here each k) q =
      let f = first-walked area c s e r w rs d hs q in
      let from : Scan = opened_of w r.size in
      let here : Pen = rows_in (image_of area c r) r.slot s e (pen_with ws from) in
      let to : here ≡ pen_with here.words f.state = rows-scan (image_of area c r) r.slot s e from f.state f.ended ws in
      ap (rows_all area c s e rs) to
      ∙ rows-depend rs f.state d f.later here.words (k f.state f.image) f.on
      ∙ ap (rows_all area' c s e rs) (sym to ∙ rows_same r from each ws)

-- ---- the scan

pub scan-depends : ScanDepends
unfolding scan_of judged index_of
scan-depends area area' c s e long rows words w =
    record {
      outcome = ap (judged s e words) same;
      index = λ l. by-outcome l (images area c s e rows start_of) refl;
    }
  where
    same : images area c s e rows start_of ≡ images area' c s e rows start_of
    same = images-depend area area' c s e long rows start_of w

    by-outcome : (l : List ℕ) (o : Outcome Found) → images area c s e rows start_of ≡ o
        → index_of (rows_all area c s e rows pen_of) (scan_of area c s e rows words) l
        ≡ index_of (rows_all area' c s e rows pen_of) (scan_of area' c s e rows words) l
    by-outcome l (refused m) q =
        let q' : images area' c s e rows start_of ≡ refused m = sym same ∙ q in
        rw (q, q') refl
    by-outcome l (done (d, hs)) q = rw (same, rows-depend area area' c s e long rows start_of d hs [] w q) refl

-- so two calls that are allowed on them answer the same, and leave the same index
pub calls-agree : (area area' : List ℕ) (c s e : ℕ) → length area ≡ length area' → (rows : List ImageRow)
    (index index₁ index₂ : List ℕ) (r₁ r₂ : Result Scanned Refusal) → EachWalked (SameHeader area area') area c s e rows start_of
    → ScanDid area c s e rows index index₁ r₁ → ScanDid area' c s e rows index index₂ r₂ → (r₁ ≡ r₂) × (index₁ ≡ index₂)
calls-agree area area' c s e long rows index index₁ index₂ r₁ r₂ w did₁ did₂ =
    let a = scan-depends area area' c s e long rows (length index) w in
    (outcomes-differ Scanned r₁ r₂ (did₁.answer ∙ ap scanned_of a.outcome ∙ sym did₂.answer), did₁.words ∙ a.index index ∙ sym did₂.words)

-- ---- bytes that are not in a header

-- what holds of each header walked, and follows to something else, holds so
pub each_map : (P Q : ℕ → Type 0) (to : (p : ℕ) → P p → Q p) (area : List ℕ) (c s e : ℕ) (rs : List ImageRow) (w : Scan)
    → EachWalked P area c s e rs w → EachWalked Q area c s e rs w
each_map P Q to area c s e [] w no-image = no-image
each_map P Q to area c s e (r ∷ rs) w (gap-over h) = gap-over h
each_map P Q to area c s e (r ∷ rs) w (image-here each k) =
    image-here
    (Walks.each_map _ _ (λ p. to (r.slot * c + p)) (length (image_of area c r)) (header_at (image_of area c r)) s e
    (opened_of w r.size) each)
    (λ d m. each_map P Q to area c s e rs d (k d m))

-- what holds of every place holds of each header walked: each walk comes to its end
pub each-everywhere : (P : ℕ → Type 0) → ((p : ℕ) → P p) → (area : List ℕ) (c s e : ℕ) (rs : List ImageRow) (w : Scan)
    → EachWalked P area c s e rs w
each-everywhere P all area c s e [] w = no-image
each-everywhere P all area c s e (r ∷ rs) w =
    image-here
    (Walks.each-everywhere _ (λ p. all (r.slot * c + p)) (length (image_of area c r)) (header_at (image_of area c r)) s e
    (opened_of w r.size))
    (λ d m. each-everywhere P all area c s e rs d)

pub payload-unread : PayloadUnread
payload-unread area c s e rows words at xs w =
    scan-depends area (splice at xs area) c s e (sym (splice-length at xs area)) rows words
    (each_map (λ p. (p + 12 ≤ at) ⊎ (at + length xs ≤ p)) (SameHeader area (splice at xs area)) spared area c s e rows start_of w)
  where
    spared : (p : ℕ) → (p + 12 ≤ at) ⊎ (at + length xs ≤ p) → SameHeader area (splice at xs area) p
    spared p apart = ⊎_elim (λ h. sym (splice-before at xs area p 12 h)) (λ h. sym (splice-after at xs area p 12 h)) apart
