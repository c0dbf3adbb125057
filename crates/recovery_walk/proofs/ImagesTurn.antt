-- A turn of the images' loop of the first pass, on plain values: what holds at the loop's head, and what each way of a turn makes of it.
-- Assumes nothing.
use mathlib.Core.Path.{◌≡◌, refl, sym, ap, ◌∙◌}
use mathlib.Core.List.{List, [], ◌∷◌, ◌++◌, append_assoc, append-nil}
use Prim.Native.Nat.{ℕ, suc, ◌+◌, ◌-◌, ◌*◌, ◌≤◌, ◌<◌}
use native.Mathlib.Nat.{add-sub_cancel_left}
use native.Mathlib.Numerals.{add-one}
use native.Mathlib.Omega.{arith}
use lib.ListN.{length, take, drop, set, replicate, length-set, length-take, length-replicate, replicate-append-replicate}
use lib.ListN.{take-append-drop, drop_of_length-le}
use lib.Seq.{drop-cons, drop-drop, drop_at, drop-set-lt, take-suc-set}
use Rattle.lists.specs.Outcome.{Outcome, refused, done}
use Rattle.lists.proofs.Splice.{part_length}
use Rattle.segment.specs.declared.Segment.{Segment}
use Rattle.segment.specs.Segment.{no_segment, image_of, no_row}
use Rattle.segment.specs.declared.ImageRow.{ImageRow}
use Rattle.walk.specs.declared.Scan.{Scan}
use Rattle.std.specs.Prelude.{Ok, Err, Result, Option, Some, None}
use Rattle.std.specs.Result.{result_err}
use Rattle.std.proofs.lemmas.Option.{same_Some, none-some}
use Rattle.refusal.specs.declared.Refusal.{Refusal}
use Rattle.refusal.specs.Refusals.{number}
use Rattle.walk.specs.declared.Fault.{Fault}
use Rattle.walk.specs.Judging.{start_of, next_image}
use Rattle.walk.specs.Walk.{walk_of}
use Rattle.recovery_walk.specs.Images.{image_walk, Found, walked, filled_of, behind, images, row_at}
use Rattle.recovery_walk.specs.Scan.{scanned_of}
use Rattle.recovery_walk.proofs.Images.{image-entered, images-fault, images-next}

-- no segments in front change nothing
pub behind-nil : (o : Outcome Found) → o ≡ behind [] o
behind-nil (refused n) = refl
behind-nil (done (w, gs)) = refl

-- segments in front of segments in front
pub behind-behind : (gs hs : List Segment) (o : Outcome Found) → behind gs (behind hs o) ≡ behind (gs ++ hs) o
behind-behind gs hs (refused n) = refl
behind-behind gs hs (done (w, ks)) = ap (walked w) (sym (append_assoc gs hs ks))

-- the image as the code lends it: a part from a start to an end
abbrev pub part_of : List ℕ → ℕ → ImageRow → List ℕ
part_of area c r = take (r.slot * c + r.size - r.slot * c) (drop (r.slot * c) area)

-- it is the row's image
pub part-image : (area : List ℕ) (c : ℕ) (r : ImageRow) → part_of area c r ≡ image_of area c r
part-image area c r = ap (λ (m : ℕ). take m (drop (r.slot * c) area)) (add-sub_cancel_left (r.slot * c) r.size)

-- its walk from the front on is that of the row's image
pub image-by-part : (area : List ℕ) (c s e : ℕ) (r : ImageRow) (w v : Scan) (o : Result Scan Fault) → next_image w r.size ≡ Ok v
    → walk_of (part_of area c r) s e v ≡ o → image_walk area c s e r w ≡ o
image-by-part area c s e r w v o h q =
    image-entered area c s e r w v h ∙ ap (λ (l : List ℕ). walk_of l s e v) (sym (part-image area c r)) ∙ q

-- it is as long as the row says
pub part-size : (area : List ℕ) (c : ℕ) (r : ImageRow) → r.slot * c + r.size ≤ length area → length (part_of area c r) ≡ r.size
part-size area c r h = ap length (part-image area c r) ∙ part_length (r.slot * c) r.size area h

-- the entries of no segment from a later place on
pub zeros-later : (i j : ℕ) (gs : List Segment) → i ≤ j → j ≤ 64 → drop i gs ≡ replicate (64 - i) no_segment
    → drop j gs ≡ replicate (64 - j) no_segment
zeros-later i j gs h g e =
    let to : i + (j - i) ≡ j = omega arith in
    let count : 64 - i ≡ j - i + (64 - j) = omega arith in
    let zeros : ℕ → List Segment = λ m. replicate m no_segment in
    ap (λ (x : ℕ). drop x gs) (sym to) ∙ sym (drop-drop (j - i) i gs)
    ∙ ap (drop (j - i)) (e ∙ ap zeros count ∙ sym (replicate-append-replicate (j - i) (64 - j) no_segment))
    ∙ drop_at (zeros (j - i)) (zeros (64 - j)) (j - i) (length-replicate (j - i) no_segment)

-- the fault that a break carried out is the refused step's
pub carried : {o : Result Scan Refusal} {f g : Option Refusal} {r n : Refusal} → o ≡ Err r → g ≡ result_err o → f ≡ g → f ≡ Some n → o ≡ Err n
carried p q s t = p ∙ ap Err (same_Some _ _ (sym (ap result_err p) ∙ sym q ∙ sym s ∙ t))

-- and where none was carried out no step was refused
pub carried-none : {o : Result Scan Refusal} {f g : Option Refusal} {r : Refusal} → o ≡ Err r → g ≡ result_err o → f ≡ g → f ≡ None → ⊥
carried-none p q s t = none-some _ (sym t ∙ s ∙ q ∙ ap result_err p)

-- what holds at the head of the images' loop
pub record AtImages (area : List ℕ) (c s e : ℕ) (rows : List ImageRow) (segs : List Segment) (scan : Scan) (i : ℕ) : Type 0 where
  pub upto : i ≤ length rows
  pub long : length segs ≡ 64
  pub rest : drop i segs ≡ replicate (64 - i) no_segment
  pub so_far : images area c s e rows start_of ≡ behind (take i segs) (images area c s e (drop i rows) scan)

-- what holds at the head of the records' loop: the records from where it began come to what those from here on come to
pub record AtRecords (img : List ℕ) (s e : ℕ) (scan₀ scan : Scan) : Type 0 where
  pub so_far : walk_of img s e scan₀ ≡ walk_of img s e scan

module _ (area : List ℕ) (c s e : ℕ) (rows : List ImageRow) where
  abbrev goal : Outcome Found
  goal = images area c s e rows start_of

  -- before the first image
  pub at_first : AtImages area c s e rows (replicate 64 no_segment) start_of 0
  at_first =
      record {
        upto = omega arith;
        long = length-replicate 64 no_segment;
        rest = refl;
        so_far = behind-nil goal;
      }

  module _ (few : length rows ≤ 64) (segs : List Segment) (scan : Scan) (i : ℕ) (h : AtImages area c s e rows segs scan i) where
    -- the loop's end: the last state, and the segments with no entry behind them
    pub turns-end : length rows ≤ i → done (record { scan = scan; segs = segs }) ≡ scanned_of goal
    unfolding images
    turns-end g =
        let all-gone : drop i rows ≡ [] = drop_of_length-le rows {i = i} g in
        let ended : goal ≡ walked scan (take i segs) = h.so_far ∙ rw (all-gone, append-nil) refl in
        let long : length (take i segs) ≡ i = rw length-take (omega (arith, h.long, h.upto)) in
        let entries : segs ≡ take i segs ++ replicate (64 - length (take i segs)) no_segment =
        sym (take-append-drop i segs)
        ∙ ap (λ (l : List Segment). take i segs ++ l) (h.rest ∙ ap (λ (x : ℕ). replicate (64 - x) no_segment) (sym long)) in
        ap (λ (l : List Segment). done (record { scan = scan; segs = l })) entries ∙ sym (ap scanned_of ended)

    module _ (more : i < length rows) where
      abbrev row : ImageRow
      row = row_at rows i

      abbrev later : List ImageRow
      later = drop (suc i) rows

      turn : goal ≡ behind (take i segs) (images area c s e (row ∷ later) scan)
      turn = h.so_far ∙ ap (λ (l : List ImageRow). behind (take i segs) (images area c s e l scan)) (drop-cons rows i no_row more)

      -- a fault in the image, or before it
      pub turn-fault : (f : Fault) → image_walk area c s e row scan ≡ Err f → refused (number f.refusal) ≡ scanned_of goal
      turn-fault f r = ap scanned_of (sym (turn ∙ ap (behind (take i segs)) (images-fault area c s e row scan later f r)))

      -- the image's end
      pub turn-next : (d : Scan) (g : Segment) → g ≡ filled_of row d → image_walk area c s e row scan ≡ Ok d
          → AtImages area c s e rows (set segs i g) d (i + 1)
      turn-next d g f r =
          let at : i < length segs = omega (arith, h.long) in
          record {
            upto = omega arith;
            long = length-set segs i g ∙ h.long;
            rest =
                rw add-one
                (drop-set-lt (suc i) segs i g (omega arith) ∙ zeros-later i (suc i) segs (omega arith) (omega arith) h.rest);
            so_far =
                rw (add-one, take-suc-set segs i g at, f)
                (turn ∙ ap (behind (take i segs)) (images-next area c s e row scan later d r)
                ∙ behind-behind (take i segs) (filled_of row d ∷ []) (images area c s e later d));
          }
