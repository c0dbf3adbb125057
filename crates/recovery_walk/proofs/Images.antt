-- The laws of the images: the ways of one image, what an accepted walk tells of its first image, and the numbers of a refusal.
-- Assumes nothing.
use mathlib.Core.Path.{◌≡◌, refl, sym, ap, subst, ◌∙◌}
use mathlib.Core.List.{List, [], ◌∷◌}
use mathlib.Core.Bool.{true, false}
use Prim.Native.Nat.{ℕ, ◌≤◌}
use native.Mathlib.Omega.{arith}
use lib.ListN.{length}
use Rattle.lists.specs.Outcome.{Outcome, refused, done}
use Rattle.lists.proofs.Bools.{zero-is-not-one}
use Rattle.lists.proofs.Outcome.{done-injective, refused-injective, refused-is-not-done}
use Rattle.lists.proofs.Cases.{by-test}
use Rattle.record.specs.Record.{header_at}
use Rattle.segment.specs.declared.Segment.{Segment}
use Rattle.segment.specs.declared.ImageRow.{ImageRow}
use Rattle.segment.specs.Segment.{image_of}
use Rattle.walk.specs.declared.Scan.{Scan}
use Rattle.std.specs.Prelude.{Result, Ok, Err}
use Rattle.refusal.specs.declared.Refusal.{Refusal}
use Rattle.refusal.specs.declared.Refusal.TheVariants.{ImageGap}
use Rattle.refusal.specs.Refusals.{number}
use Rattle.walk.specs.declared.Fault.{Fault}
use Rattle.walk.specs.Judging.{gap_of, opened_of, next_image}
use Rattle.walk.specs.Walk.{faulted, walk_of}
use Rattle.walk.proofs.Judging.{next-image-fault, header-faults}
use Rattle.walk.proofs.Walk.{fault-is, walk-number}
use Rattle.recovery_walk.specs.Images.{entered, image_walk, Found, walked, filled_of, behind, images}

-- a walk that was accepted has one last state, and one list of segments
pub walked_same : {x y : Scan} {xs ys : List Segment} → walked x xs ≡ walked y ys → (x ≡ y) × (xs ≡ ys)
walked_same e = let both = done-injective e in (ap (λ (a : Found). a.0) both, ap (λ (a : Found). a.1) both)

-- the numbers of a walk's refusals
pub record WalkFault (m : ℕ) : Type 0 where
  pub low : 16 ≤ m
  pub high : m ≤ 20

module _ (area : List ℕ) (c s e : ℕ) (r : ImageRow) (w : Scan) where
  -- ---- one image

  -- the fault that stands before it
  pub image-refused : (n : Refusal) → next_image w r.size ≡ Err n → image_walk area c s e r w ≡ faulted n w
  unfolding image_walk
  image-refused n h = ap (λ (o : Result Scan Refusal). entered w o (walk_of (image_of area c r) s e)) h

  -- its records from its front on
  pub image-entered : (v : Scan) → next_image w r.size ≡ Ok v → image_walk area c s e r w ≡ walk_of (image_of area c r) s e v
  unfolding image_walk
  image-entered v h = ap (λ (o : Result Scan Refusal). entered w o (walk_of (image_of area c r) s e)) h

  -- 16: an image of size above 0 directly after one of size 0
  pub image-gapped : gap_of w r.size ≡ true → image_walk area c s e r w ≡ faulted ImageGap w
  unfolding next_image
  image-gapped h = image-refused ImageGap (simp h)

  -- no gap
  pub image-calm : gap_of w r.size ≡ false → image_walk area c s e r w ≡ walk_of (image_of area c r) s e (opened_of w r.size)
  unfolding next_image
  image-calm h = image-entered (opened_of w r.size) (simp h)

  -- a fault of an image is 16 to 20
  pub image-number : (n : Refusal) (v : Scan) → image_walk area c s e r w ≡ faulted n v → WalkFault (number n)
  image-number n v q = go (next_image w r.size) refl
    where
      go : (o : Result Scan Refusal) → next_image w r.size ≡ o → WalkFault (number n)
      go (Err m) h =
          let is : m ≡ n = ap (λ (f : Fault). f.refusal) (fault-is (sym (image-refused m h) ∙ q)) in
          let at : number n ≡ 16 = ap number (sym is ∙ next-image-fault w r.size m h) in
          record { low = omega arith; high = omega arith }
      go (Ok d) h =
          let f = walk-number (length (image_of area c r)) (header_at (image_of area c r)) s e (header-faults (image_of area c r)) d v n
          (sym (image-entered d h) ∙ q) in
          record { low = omega (arith, f.low); high = f.high }

  -- ---- the first image of some

  module _ (rs : List ImageRow) where
    -- a fault of the first image
    pub images-fault : (f : Fault) → image_walk area c s e r w ≡ Err f → images area c s e (r ∷ rs) w ≡ refused (number f.refusal)
    unfolding images
    images-fault f t = simp t

    -- its end: its segment, and the images behind it
    pub images-next : (d : Scan) → image_walk area c s e r w ≡ Ok d
        → images area c s e (r ∷ rs) w ≡ behind (filled_of r d ∷ []) (images area c s e rs d)
    unfolding images
    images-next d t = simp t

    -- what an accepted walk tells of its first image
    pub record FirstWalked (d : Scan) (hs : List Segment) : Type 0 where
      pub state : Scan
      pub later : List Segment
      pub calm : gap_of w r.size ≡ false
      pub ended : walk_of (image_of area c r) s e (opened_of w r.size) ≡ Ok state
      pub image : image_walk area c s e r w ≡ Ok state
      pub on : images area c s e rs state ≡ walked d later
      pub segments : hs ≡ filled_of r state ∷ later

    -- an accepted walk has walked its first image to the end
    pub first-walked : (d : Scan) (hs : List Segment) → images area c s e (r ∷ rs) w ≡ walked d hs → FirstWalked d hs
    first-walked d hs q = go (image_walk area c s e r w) refl
      where
        tail : (m : Scan) (o : Outcome Found) → behind (filled_of r m ∷ []) o ≡ walked d hs
            → (xs : List Segment) × (o ≡ walked d xs) × (hs ≡ filled_of r m ∷ xs)
        tail m (refused k) t = zero-is-not-one (cc)
        tail m (done (x, xs)) t = let same = walked_same t in (xs, ap (λ (y : Scan). walked y xs) same.0, sym same.1)

        go : (o : Result Scan Fault) → image_walk area c s e r w ≡ o → FirstWalked d hs
        go (Err f) t = refused-is-not-done (sym (images-fault f t) ∙ q)
        go (Ok m) t =
            let x = tail m (images area c s e rs m) (sym (images-next m t) ∙ q) in
            let calm : gap_of w r.size ≡ false =
            by-test (gap_of w r.size) (λ h. zero-is-not-one (cc (sym (image-gapped h) ∙ t))) (λ h. h) in
            record {
              state = m;
              later = x.0;
              calm = calm;
              ended = sym (image-calm calm) ∙ t;
              image = t;
              on = x.1;
              segments = x.2;
            }

-- an outcome that is refused with segments in front is refused without
pub behind-refused : (gs : List Segment) (o : Outcome Found) (n : ℕ) → behind gs o ≡ refused n → o ≡ refused n
behind-refused gs (refused k) n t = t
behind-refused gs (done a) n t = zero-is-not-one (cc)

-- a refusal of the walk is 16 to 20
pub images-number : (area : List ℕ) (c s e : ℕ) (rs : List ImageRow) (w : Scan) (n : ℕ) → images area c s e rs w ≡ refused n → WalkFault n
unfolding images
images-number area c s e [] w n q = zero-is-not-one (cc)
images-number area c s e (r ∷ rs) w n q = go (image_walk area c s e r w) refl (λ d z. images-number area c s e rs d n z)
  where
    go : (o : Result Scan Fault) → image_walk area c s e r w ≡ o → ((d : Scan) → images area c s e rs d ≡ refused n → WalkFault n)
        → WalkFault n
    go (Err f) t ih =
        let is : number f.refusal ≡ n = refused-injective (sym (images-fault area c s e r w rs f t) ∙ q) in
        subst WalkFault is (image-number area c s e r w f.refusal f.scan t)
    go (Ok d) t ih = ih d (behind-refused (filled_of r d ∷ []) (images area c s e rs d) n (sym (images-next area c s e r w rs d t) ∙ q))
