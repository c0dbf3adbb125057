-- The walk over the same images, wherever they lie: it comes to the same state or fault, its segments differ in slots alone, and so do
-- the index rows, each of which lies inside its image. Assumes nothing.
use mathlib.Core.Bool.{Bool, true, false, ◌&&◌}
use mathlib.Core.List.{List, [], ◌∷◌, ◌++◌, map}
use mathlib.Core.Path.{◌≡◌, refl, ap, sym, ◌∙◌}
use Prim.Native.Nat.{ℕ, zero, suc, ◌+◌, ◌≤◌, ◌<◌}
use native.Mathlib.Omega.{arith}
use lib.Dec.{eqb}
use lib.ListN.{length}
use borrow.Author.Tests.{ltb-false}
use Rattle.lists.specs.Each.{linked}
use Rattle.lists.specs.Outcome.{Outcome, refused, done, either}
use Rattle.lists.proofs.Bools.{zero-is-not-one}
use Rattle.segment.specs.declared.Segment.{Segment}
use Rattle.segment.specs.declared.ImageRow.{ImageRow}
use Rattle.segment.specs.Segment.{image_of}
use Rattle.image_rows.specs.ImageRows.{lowest_zero, one_apart}
use Rattle.record.specs.Record.{header_at}
use Rattle.walk.specs.declared.Scan.{Scan}
use Rattle.std.specs.Prelude.{Result, Ok, Err}
use Rattle.refusal.specs.declared.Refusal.{Refusal}
use Rattle.walk.specs.declared.Fault.{Fault}
use Rattle.walk.specs.Judging.{record_step, next_image, more_of, live_of, cut_of, advanced_of, opened_of}
use Rattle.walk.specs.Walk.{faulted, walk_of}
use Rattle.walk.proofs.Judging.{went}
use Rattle.walk.proofs.Walk.{walk-ind}
use Rattle.recovery_walk.specs.Images.{Found, walked, images, image_walk, entered, filled_of, after, behind, row_at}
use Rattle.recovery_walk.specs.Rows.{Pen, pen_with, row_of, moved_of, rows_in, rows_all}
use Rattle.recovery_walk.proofs.Rows.{rows_end, rows_next, rows-fault}
use Rattle.history.specs.Relocation.{Image, images_of, placeless}

-- ---- the same rows

-- what rows of the same images have in common
pub record SameFirst (area : List ℕ) (c : ℕ) (area' : List ℕ) (c' : ℕ) (r r' : ImageRow) (rs rs' : List ImageRow) : Type 0 where
  pub id : r.id ≡ r'.id
  pub size : r.size ≡ r'.size
  pub bytes : image_of area c r ≡ image_of area' c' r'
  pub rest : images_of area c rs ≡ images_of area' c' rs'

module _ (area : List ℕ) (c : ℕ) (area' : List ℕ) (c' : ℕ) where
  pub same_first : (r r' : ImageRow) (rs rs' : List ImageRow) → images_of area c (r ∷ rs) ≡ images_of area' c' (r' ∷ rs')
      → SameFirst area c area' c' r r' rs rs'
  same_first r r' rs rs' q =
      let first : ◌≡◌ {A = Image} (record { id = r.id; size = r.size; bytes = image_of area c r })
      (record { id = r'.id; size = r'.size; bytes = image_of area' c' r' }) = cc in
      record {
        id = ap (λ (x : Image). x.id) first;
        size = ap (λ (x : Image). x.size) first;
        bytes = ap (λ (x : Image). x.bytes) first;
        rest = cc;
      }

  -- no image is not one
  pub not_none : {P : Type 0} (r : ImageRow) (rs : List ImageRow) → images_of area c (r ∷ rs) ≡ [] → P
  not_none r rs q = zero-is-not-one (cc)

  pub not_some : {P : Type 0} (r : ImageRow) (rs : List ImageRow) → [] ≡ images_of area' c' (r ∷ rs) → P
  not_some r rs q = zero-is-not-one (cc)

  -- as many rows
  pub rows-many : (rs rs' : List ImageRow) → images_of area c rs ≡ images_of area' c' rs' → length rs ≡ length rs'
  rows-many [] [] q = refl
  rows-many [] (r ∷ rs) q = not_some r rs q
  rows-many (r ∷ rs) [] q = not_none r rs q
  rows-many (r ∷ rs) (r' ∷ rs') q = ap suc (rows-many rs rs' (same_first r r' rs rs' q).rest)

  -- row for row the same sizes and bytes
  pub row-bytes : (rs rs' : List ImageRow) → images_of area c rs ≡ images_of area' c' rs' → (i : ℕ) → i < length rs
      → ((row_at rs i).size ≡ (row_at rs' i).size) × (image_of area c (row_at rs i) ≡ image_of area' c' (row_at rs' i))
  row-bytes [] rs' q i h = absurd (omega arith)
  row-bytes (r ∷ rs) [] q i h = not_none r rs q
  row-bytes (r ∷ rs) (r' ∷ rs') q zero h = let f = same_first r r' rs rs' q in (f.size, f.bytes)
  row-bytes (r ∷ rs) (r' ∷ rs') q (suc i) h = row-bytes rs rs' (same_first r r' rs rs' q).rest i (omega arith)

  -- 14
  pub lowest-same : (rs rs' : List ImageRow) → images_of area c rs ≡ images_of area' c' rs' → lowest_zero rs ≡ lowest_zero rs'
  unfolding lowest_zero
  lowest-same [] [] q = refl
  lowest-same [] (r ∷ rs) q = not_some r rs q
  lowest-same (r ∷ rs) [] q = not_none r rs q
  lowest-same (r ∷ rs) (r' ∷ rs') q = ap (λ (x : ℕ). eqb x 0) (same_first r r' rs rs' q).id

  -- 15
  pub apart-same : (rs rs' : List ImageRow) → images_of area c rs ≡ images_of area' c' rs' → one_apart rs ≡ one_apart rs'
  unfolding linked
  apart-same [] [] q = refl
  apart-same [] (r ∷ rs) q = not_some r rs q
  apart-same (r ∷ rs) [] q = not_none r rs q
  apart-same (r ∷ []) (r' ∷ []) q = refl
  apart-same (r ∷ []) (r' ∷ x' ∷ rs') q = not_some x' rs' (same_first r r' [] (x' ∷ rs') q).rest
  apart-same (r ∷ x ∷ rs) (r' ∷ []) q = not_none x rs (same_first r r' (x ∷ rs) [] q).rest
  apart-same (r ∷ x ∷ rs) (r' ∷ x' ∷ rs') q =
      let f = same_first r r' (x ∷ rs) (x' ∷ rs') q in
      let g = same_first x x' rs rs' f.rest in
      λ j. eqb (g.id j) (f.id j + 1) && apart-same (x ∷ rs) (x' ∷ rs') f.rest j

-- ---- the walk

-- what a walk came to, without slots
abbrev pub placeless_walk : Outcome Found → Outcome Found
placeless_walk o = either refused (λ a. walked a.0 (map placeless a.1)) o

placeless-behind : (g : Segment) (o : Outcome Found) → placeless_walk (behind (g ∷ []) o) ≡ behind (placeless g ∷ []) (placeless_walk o)
placeless-behind g (refused n) = refl
placeless-behind g (done a) = refl

module _ (area : List ℕ) (c : ℕ) (area' : List ℕ) (c' s e : ℕ) where
  -- the walks of the same images come to the same, but for slots
  pub walk_same : (rs rs' : List ImageRow) → images_of area c rs ≡ images_of area' c' rs' → (w : Scan)
      → placeless_walk (images area c s e rs w) ≡ placeless_walk (images area' c' s e rs' w)
  unfolding images image_walk
  walk_same [] [] q w = refl
  walk_same [] (r ∷ rs) q w = not_some area c area' c' r rs q
  walk_same (r ∷ rs) [] q w = not_none area c area' c' r rs q
  walk_same (r ∷ rs) (r' ∷ rs') q w =
      let f = same_first area c area' c' r r' rs rs' q in
      go (image_walk area c s e r w) f.id f.size (walk_same rs rs' f.rest)
      ∙ (λ j. placeless_walk
      (after (entered w (next_image w (f.size j)) (walk_of (f.bytes j) s e))
      (λ d. behind (filled_of r' d ∷ []) (images area' c' s e rs' d))))
    where
      go : (o : Result Scan Fault) → r.id ≡ r'.id → r.size ≡ r'.size
          → ((d : Scan) → placeless_walk (images area c s e rs d) ≡ placeless_walk (images area' c' s e rs' d))
          → placeless_walk (after o (λ d. behind (filled_of r d ∷ []) (images area c s e rs d)))
          ≡ placeless_walk (after o (λ d. behind (filled_of r' d ∷ []) (images area' c' s e rs' d)))
      go (Err n) i z ih = refl
      go (Ok d) i z ih =
          let one : placeless (filled_of r d) ≡ placeless (filled_of r' d) =
          λ j. record { id = i j; slot = 0; size = z j; min = d.min; max = d.max; newest_at = d.newest_at } in
          placeless-behind (filled_of r d) (images area c s e rs d)
          ∙ ap (behind (placeless (filled_of r d) ∷ [])) (ih d)
          ∙ ap (λ (g : Segment). behind (g ∷ []) (placeless_walk (images area' c' s e rs' d))) one
          ∙ sym (placeless-behind (filled_of r' d) (images area' c' s e rs' d))

-- ---- the index rows

-- index rows that differ in slots alone; of each, Q says more
pub data Moved (Q : (slot slot' off len : ℕ) → Type 0) : List ℕ → List ℕ → Type 0 where
  no-row : Moved Q [] []
  one-row : {id slot slot' off len : ℕ} {ws ws' : List ℕ} → Q slot slot' off len → Moved Q ws ws'
      → Moved Q (id ∷ slot ∷ off ∷ len ∷ ws) (id ∷ slot' ∷ off ∷ len ∷ ws')

-- rows behind rows
moved-join : {Q : (slot slot' off len : ℕ) → Type 0} {xs xs' ys ys' : List ℕ} → Moved Q xs xs' → Moved Q ys ys'
    → Moved Q (xs ++ ys) (xs' ++ ys')
moved-join no-row m = m
moved-join (one-row q l) m = one-row q (moved-join l m)

-- the row of a record
moved_row : {Q : (slot slot' off len : ℕ) → Type 0} (t : Bool) (id slot slot' off len : ℕ) → (t ≡ true → Q slot slot' off len)
    → Moved Q (row_of t id slot off len) (row_of t id slot' off len)
unfolding row_of
moved_row true id slot slot' off len q = one-row (q refl) no-row
moved_row false id slot slot' off len q = no-row

-- a live record that goes on ends inside the image
live_inside : (size s e id end : ℕ) → cut_of size s e id end ≡ false → live_of s e id ≡ true → end ≤ size
unfolding cut_of
live_inside size s e id end t l = let short = simp l at t in ltb-false size end short

module _ (img : List ℕ) (slot slot' s e : ℕ) (Q : (slot slot' off len : ℕ) → Type 0)
    (inside : (off len : ℕ) → off + len ≤ length img → Q slot slot' off len) where
  -- two passes over one image, that name two slots
  pub record Passes (p p' : Pen) : Type 0 where
    pub state : p.scan ≡ p'.scan
    pub words : Moved Q p.words p'.words

  -- the rows of one image differ in the slot alone
  pub image-moved : (w : Scan) (ws ws' : List ℕ) → Moved Q ws ws'
      → Passes (rows_in img slot s e (pen_with ws w)) (rows_in img slot' s e (pen_with ws' w))
  unfolding moved_of advanced_of
  image-moved = walk-ind (length img) (header_at img) s e Both next fault end
    where
      Both : Scan → Result Scan Fault → Type 0
      Both w a = (ws ws' : List ℕ) → Moved Q ws ws' → Passes (rows_in img slot s e (pen_with ws w)) (rows_in img slot' s e (pen_with ws' w))

      next : (w d : Scan) (a : Result Scan Fault) → more_of w (length img) ≡ true → record_step img s e w ≡ Ok d → Both d a → Both w a
      next w d a h m ih ws ws' q =
          let t = went (length img) s e w (header_at img w.pos) d m in
          let body : d.body ≡ w.pos + 12 = ap (λ (x : Scan). x.body) t.to in
          let len : d.len ≡ t.len = ap (λ (x : Scan). x.len) t.to in
          let last : d.last ≡ t.id = ap (λ (x : Scan). x.last) t.to in
          let row = moved_row {Q = Q} (live_of s e d.last) d.last slot slot' d.body d.len
          (λ l. inside d.body d.len
          (omega (arith, live_inside (length img) s e t.id (w.pos + 12 + t.len) t.whole (ap (live_of s e) (sym last) ∙ l)))) in
          rw (rows_next img slot s e (pen_with ws w) d h m, rows_next img slot' s e (pen_with ws' w) d h m) (ih _ _ (moved-join q row))

      fault : (w : Scan) (n : Refusal) → more_of w (length img) ≡ true → record_step img s e w ≡ Err n → Both w (faulted n w)
      fault w n h m ws ws' q =
          rw (rows-fault img slot s e (pen_with ws w) n h m, rows-fault img slot' s e (pen_with ws' w) n h m)
          (record { state = refl; words = q })

      end : (w : Scan) → more_of w (length img) ≡ false → Both w (Ok w)
      end w h ws ws' q =
          rw (rows_end img slot s e (pen_with ws w) h, rows_end img slot' s e (pen_with ws' w) h) (record { state = refl; words = q })

module _ (area : List ℕ) (c : ℕ) (area' : List ℕ) (c' s e : ℕ) (Q : (slot slot' off len : ℕ) → Type 0) where
  -- the rows of all images differ in slots alone
  pub rows-moved : (rs rs' : List ImageRow) → images_of area c rs ≡ images_of area' c' rs'
      → ((i : ℕ) → i < length rs → (off len : ℕ) → off + len ≤ length (image_of area c (row_at rs i))
      → Q (row_at rs i).slot (row_at rs' i).slot off len)
      → (w : Scan) (ws ws' : List ℕ) → Moved Q ws ws'
      → Moved Q (rows_all area c s e rs (pen_with ws w)) (rows_all area' c' s e rs' (pen_with ws' w))
  unfolding rows_all
  rows-moved [] [] q ok w ws ws' m = m
  rows-moved [] (r ∷ rs) q ok w ws ws' m = not_some area c area' c' r rs q
  rows-moved (r ∷ rs) [] q ok w ws ws' m = not_none area c area' c' r rs q
  rows-moved (r ∷ rs) (r' ∷ rs') q ok w ws ws' m =
      let f = same_first area c area' c' r r' rs rs' q in
      let here = image-moved (image_of area c r) r.slot r'.slot s e Q (ok 0 (omega arith)) (opened_of w r.size) ws ws' m in
      rw (← f.bytes, ← f.size)
      (go (rows_in (image_of area c r) r.slot s e (pen_with ws (opened_of w r.size)))
      (rows_in (image_of area c r) r'.slot s e (pen_with ws' (opened_of w r.size))) here
      (rows-moved rs rs' f.rest (λ i h. ok (suc i) (omega arith))))
    where
      go : (p p' : Pen) → Passes (image_of area c r) r.slot r'.slot s e Q (ok 0 (omega arith)) p p'
          → ((w : Scan) (ws ws' : List ℕ) → Moved Q ws ws'
          → Moved Q (rows_all area c s e rs (pen_with ws w)) (rows_all area' c' s e rs' (pen_with ws' w)))
          → Moved Q (rows_all area c s e rs p) (rows_all area' c' s e rs' p')
      go p p' t ih = rw (← t.state) (ih p.scan p.words p'.words t.words)
