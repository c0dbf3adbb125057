-- Behind e's record: images that the walk does not look at give segments without records and no index row, whatever rows they have; and
-- a fault of the walk stands before it. Assumes nothing.
use mathlib.Core.Path.{◌≡◌, refl, sym, ap, ◌∙◌}
use mathlib.Core.Bool.{true, false}
use mathlib.Core.List.{List, [], ◌∷◌, ◌++◌, map}
use Prim.Native.Nat.{ℕ}
use lib.ListN.{length}
use Rattle.lists.specs.Outcome.{refused}
use Rattle.lists.proofs.Bools.{zero-is-not-one}
use Rattle.lists.proofs.Outcome.{refused-injective}
use Rattle.record.specs.Record.{header_at}
use Rattle.segment.specs.declared.Segment.{Segment}
use Rattle.segment.specs.declared.ImageRow.{ImageRow}
use Rattle.segment.specs.Segment.{image_of}
use Rattle.walk.specs.declared.Scan.{Scan}
use Rattle.std.specs.Prelude.{Result, Ok, Err}
use Rattle.refusal.specs.declared.Refusal.{Refusal}
use Rattle.walk.specs.declared.Fault.{Fault}
use Rattle.walk.specs.Judging.{goes_on, more_of, opened_of, next_image}
use Rattle.walk.proofs.Judging.{more-stopped, gap-stopped, opened-goes, going-unfound, next-image-going}
use Rattle.walk.proofs.Walk.{fault-is, walk_end, walk-fault-going}
use Rattle.walk.specs.Walk.{faulted}
use Rattle.recovery_walk.specs.Images.{image_walk, walked, filled_of, behind, images}
use Rattle.recovery_walk.specs.Rows.{Pen, pen_with, rows_in, rows_all}
use Rattle.recovery_walk.specs.Promised.{FaultUpToE, RefusedUpToE}
use Rattle.recovery_walk.proofs.Images.{walked_same, image-refused, image-entered, image-calm, images-fault, images-next, first-walked, behind-refused}
use Rattle.recovery_walk.proofs.ImagesTurn.{behind-nil, behind-behind}
use Rattle.recovery_walk.proofs.Rows.{rows_end, rows-scan}

-- the segment of a row whose image is not looked at: no record was seen in it
abbrev pub unread : ImageRow → Segment
unread r = record { id = r.id; slot = r.slot; size = r.size; min = 0; max = 0; newest_at = 0 }

module _ (area : List ℕ) (c s e : ℕ) where
  -- ---- where the walk has stopped

  -- in an image behind e there is no more record
  none_here : (r : ImageRow) (w : Scan) → goes_on w ≡ false → more_of (opened_of w r.size) (length (image_of area c r)) ≡ false
  none_here r w h = more-stopped (opened_of w r.size) (length (image_of area c r)) (opened-goes w r.size ∙ h)

  -- so its walk ends where it began
  image-behind : (r : ImageRow) (w : Scan) → goes_on w ≡ false → image_walk area c s e r w ≡ Ok (opened_of w r.size)
  image-behind r w h =
      image-calm area c s e r w (gap-stopped w r.size h)
      ∙ walk_end (length (image_of area c r)) (header_at (image_of area c r)) s e (opened_of w r.size) (none_here r w h)

  -- what images behind e come to: what was found stays
  pub record Behind (rs : List ImageRow) (w : Scan) : Type 0 where
    pub state : Scan
    pub is : images area c s e rs w ≡ walked state (map unread rs)
    pub start : state.found_s ≡ w.found_s
    pub end : state.found_e ≡ w.found_e
    pub from : state.start_of_e ≡ w.start_of_e
    pub head : state.end_of_e ≡ w.end_of_e

  pub images-behind : (rs : List ImageRow) (w : Scan) → goes_on w ≡ false → Behind rs w
  unfolding images
  images-behind [] w h = record { state = w; is = refl; start = refl; end = refl; from = refl; head = refl }
  images-behind (r ∷ rs) w h =
      let on = images-behind rs (opened_of w r.size) (opened-goes w r.size ∙ h) in
      record {
        state = on.state;
        is = images-next area c s e r w rs (opened_of w r.size) (image-behind r w h)
            ∙ ap (behind (filled_of r (opened_of w r.size) ∷ [])) on.is;
        start = on.start;
        end = on.end;
        from = on.from;
        head = on.head;
      }

  -- they have no index row
  pub rows_behind : (rs : List ImageRow) (ws : List ℕ) (w : Scan) → goes_on w ≡ false → rows_all area c s e rs (pen_with ws w) ≡ ws
  unfolding rows_all
  rows_behind [] ws w h = refl
  rows_behind (r ∷ rs) ws w h =
      ap (rows_all area c s e rs) (rows_end (image_of area c r) r.slot s e (pen_with ws (opened_of w r.size)) (none_here r w h))
      ∙ rows_behind rs ws (opened_of w r.size) (opened-goes w r.size ∙ h)

  -- ---- some images, and some more

  pub images-append : (rs ts : List ImageRow) (w d : Scan) (gs : List Segment) → images area c s e rs w ≡ walked d gs
      → images area c s e (rs ++ ts) w ≡ behind gs (images area c s e ts d)
  unfolding images
  images-append [] ts w d gs q =
      let same = walked_same q in
      behind-nil (images area c s e ts w)
      ∙ ap (λ (l : List Segment). behind l (images area c s e ts w)) same.1
      ∙ ap (λ (x : Scan). behind gs (images area c s e ts x)) same.0
  images-append (r ∷ rs) ts w d gs q =
      let f = first-walked area c s e r w rs d gs q in
      images-next area c s e r w (rs ++ ts) f.state f.image
      ∙ ap (behind (filled_of r f.state ∷ [])) (images-append rs ts f.state d f.later f.on)
      ∙ behind-behind (filled_of r f.state ∷ []) f.later (images area c s e ts d)
      ∙ ap (λ (l : List Segment). behind l (images area c s e ts d)) (sym f.segments)

  pub rows_append : (rs ts : List ImageRow) (w d : Scan) (gs : List Segment) (ws : List ℕ) → images area c s e rs w ≡ walked d gs
      → rows_all area c s e (rs ++ ts) (pen_with ws w) ≡ rows_all area c s e ts (pen_with (rows_all area c s e rs (pen_with ws w)) d)
  unfolding images rows_all
  rows_append [] ts w d gs ws q = ap (λ (x : Scan). rows_all area c s e ts (pen_with ws x)) (walked_same q).0
  rows_append (r ∷ rs) ts w d gs ws q =
      let f = first-walked area c s e r w rs d gs q in
      let from : Scan = opened_of w r.size in
      let here : Pen = rows_in (image_of area c r) r.slot s e (pen_with ws from) in
      let to : here ≡ pen_with here.words f.state = rows-scan (image_of area c r) r.slot s e from f.state f.ended ws in
      ap (rows_all area c s e (rs ++ ts)) to
      ∙ rows_append rs ts f.state d f.later here.words f.on
      ∙ ap (λ (v : Pen). rows_all area c s e ts (pen_with (rows_all area c s e rs v) d)) (sym to)

-- ---- a fault of the walk

-- in an image, or before it, a fault stands where the walk goes on
image-going : (area : List ℕ) (c s e : ℕ) (r : ImageRow) (w v : Scan) (n : Refusal) → image_walk area c s e r w ≡ faulted n v → goes_on v ≡ true
image-going area c s e r w v n q = by (next_image w r.size) refl
  where
    by : (o : Result Scan Refusal) → next_image w r.size ≡ o → goes_on v ≡ true
    by (Err m) h =
        let same : w ≡ v = ap (λ (f : Fault). f.scan) (fault-is (sym (image-refused area c s e r w m h) ∙ q)) in
        rw (← same) (next-image-going w r.size m h)
    by (Ok d) h =
        walk-fault-going (length (image_of area c r)) (header_at (image_of area c r)) s e d v n (sym (image-entered area c s e r w d h) ∙ q)

-- A FAULT STANDS UP TO e
pub refused-up-to-e : RefusedUpToE
unfolding images
refused-up-to-e area c s e [] w n q = zero-is-not-one (cc)
refused-up-to-e area c s e (r ∷ rs) w n q = go (image_walk area c s e r w) refl (λ d z. refused-up-to-e area c s e rs d n z)
  where
    go : (o : Result Scan Fault) → image_walk area c s e r w ≡ o → ((d : Scan) → images area c s e rs d ≡ refused n → FaultUpToE area c s e rs d n)
        → FaultUpToE area c s e (r ∷ rs) w n
    go (Err f) t ih =
        record {
          front = [];
          at = r;
          later = rs;
          split = refl;
          before = w;
          segs = [];
          good = refl;
          there = f.scan;
          why = f.refusal;
          fault = t;
          told = refused-injective (sym (images-fault area c s e r w rs f t) ∙ q);
          unread = going-unfound f.scan (image-going area c s e r w f.scan f.refusal t);
        }
    go (Ok d) t ih =
        let f = ih d (behind-refused (filled_of r d ∷ []) (images area c s e rs d) n (sym (images-next area c s e r w rs d t) ∙ q)) in
        record {
          front = r ∷ f.front;
          at = f.at;
          later = f.later;
          split = ap (λ (l : List ImageRow). r ∷ l) f.split;
          before = f.before;
          segs = filled_of r d ∷ f.segs;
          good = images-next area c s e r w f.front d t ∙ ap (behind (filled_of r d ∷ [])) f.good;
          there = f.there;
          why = f.why;
          fault = f.fault;
          told = f.told;
          unread = f.unread;
        }
