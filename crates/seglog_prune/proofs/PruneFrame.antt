-- Frames: which bytes a prune leaves as they are. A refusal and prune oldest touch none, prune recent writes missing padding alone.
-- Assumes nothing.
use mathlib.Core.Path.{◌≡◌, refl, ap, ◌∙◌}
use mathlib.Core.List.{List}
use Prim.Native.Nat.{ℕ, ◌+◌, ◌-◌, ◌*◌, ◌≤◌}
use native.Mathlib.Omega.{arith}
use lib.ListN.{length, replicate, length-replicate}
use Rattle.lists.specs.Outcome.{Outcome, refused, done}
use Rattle.lists.specs.Splice.{part, splice, slot_of}
use Rattle.lists.proofs.Splice.{splice-length, splice-before, splice-after, splice-none, splice-slot}
use Rattle.segment.specs.declared.Segment.{Segment}
use Rattle.seglog.specs.declared.Log.{Log}
use Rattle.seglog.specs.View.{view_of}
use Rattle.seglog.specs.Fit.{fitting_of}
use Rattle.segment.specs.Segment.{image_in, padded_to}
use Rattle.seglog_prune.specs.declared.Newest.{Newest}
use Rattle.seglog_prune.specs.Cut.{cut_in}
use Rattle.seglog_prune.specs.Prune.{Pruned, prune_of, prune_oldest_of, cut_off, prune_recent_of, oldest_log, recent_log, prune_area}
use Rattle.seglog_prune.specs.Promised.{RefusalKeeps, OldestBytes, RecentOther}
use Rattle.seglog_prune.proofs.Decide.{Inner, prune-ways}
use Rattle.seglog_prune.proofs.PruneInside.{cut_segment, front_kept, in-range, cut-good}

-- beside a refusal's number stands the log given, and no byte is changed
pub refusal-keeps : RefusalKeeps
refusal-keeps l area (refused n) h = (refl, refl)
refusal-keeps l area (done p) h = absurd (h refl)

-- where each outcome but the last leaves the area as it is, so does the prune
prune-area : (Q : List ℕ → Type 0) (l : Log) (area : List ℕ) (n : ℕ) (rest : Outcome Pruned) → Q area
    → (Inner (view_of l) (fitting_of l (length area)) n → Q (prune_area area rest))
    → Q (prune_area area (prune_of (view_of l) (fitting_of l (length area)) area n rest))
prune-area Q l area n rest same h =
    prune-ways (view_of l) (fitting_of l (length area)) area n rest (λ o. Q (prune_area area o)) (λ q. same) (λ q. same) (λ q. same) same
    same h

-- prune oldest touches no byte
pub oldest-bytes : OldestBytes
unfolding oldest_log prune_oldest_of
oldest-bytes l area n = prune-area (λ (x : List ℕ). x ≡ area) l area n _ refl (λ i. refl)

-- prune recent leaves every other slot as it is
pub recent-other : RecentOther
unfolding recent_log prune_recent_of
recent-other l area n j long apart =
    prune-area (λ (x : List ℕ). slot_of l.c j x ≡ slot_of l.c j area) l area n _ refl (λ i. any i _ refl)
  where
    any : (i : Inner (view_of l) (fitting_of l (length area)) n) (r : Outcome Newest)
        → cut_in (cut_segment l n) (image_in area l.c (cut_segment l n)) n ≡ r
        → slot_of l.c j (prune_area area (cut_off (view_of l) area n (front_kept l n) (cut_segment l n) r)) ≡ slot_of l.c j area
    any i (refused m) e = refl
    any i (done x) e =
        let head : Segment = cut_segment l n in
        let r = in-range l area n long i in
        splice-slot l.c head.slot j (head.slot * l.c + head.size) (replicate (x.end - head.size) 0) area (omega arith)
        (rw length-replicate (omega (arith, r.good.size, (cut-good l area n r x e).high))) apart

-- and in the slot itself every byte in front of the segment's old size: only missing padding is written
pub recent-front : (l : Log) (area : List ℕ) (n a m : ℕ) → length l.segs ≡ 64
    → a + m ≤ (cut_segment l n).slot * l.c + (cut_segment l n).size
    → part a m (prune_area area (recent_log l area n)) ≡ part a m area
unfolding recent_log prune_recent_of
recent-front l area n a m long front =
    prune-area (λ (x : List ℕ). part a m x ≡ part a m area) l area n _ refl (λ i. any i _ refl)
  where
    any : (i : Inner (view_of l) (fitting_of l (length area)) n) (r : Outcome Newest)
        → cut_in (cut_segment l n) (image_in area l.c (cut_segment l n)) n ≡ r
        → part a m (prune_area area (cut_off (view_of l) area n (front_kept l n) (cut_segment l n) r)) ≡ part a m area
    any i (refused m) e = refl
    any i (done x) e =
        let head : Segment = cut_segment l n in
        splice-before (head.slot * l.c + head.size) (replicate (x.end - head.size) 0) area a m front

-- the area keeps its length
pub recent-length : (l : Log) (area : List ℕ) (n : ℕ) → length l.segs ≡ 64 → length (prune_area area (recent_log l area n)) ≡ length area
unfolding recent_log prune_recent_of
recent-length l area n long =
    prune-area (λ (x : List ℕ). length x ≡ length area) l area n _ refl
    (λ i. any i (cut_in (cut_segment l n) (image_in area l.c (cut_segment l n)) n))
  where
    any : (i : Inner (view_of l) (fitting_of l (length area)) n) (r : Outcome Newest)
        → length (prune_area area (cut_off (view_of l) area n (front_kept l n) (cut_segment l n) r)) ≡ length area
    any i (refused m) = refl
    any i (done x) =
        let head : Segment = cut_segment l n in splice-length (head.slot * l.c + head.size) (replicate (x.end - head.size) 0) area

-- where no padding is missing, nothing is written
pub padded-none : (c : ℕ) (area : List ℕ) (g : Segment) (x : ℕ) → x ≤ g.size → padded_to c area g x ≡ area
padded-none c area g x h =
    let none : x - g.size ≡ 0 = omega arith in
    ap (λ (k : ℕ). splice (g.slot * c + g.size) (replicate k 0) area) none ∙ splice-none (g.slot * c + g.size) area

-- what stands behind the padded end stays
pub padded-behind : (c : ℕ) (area : List ℕ) (g : Segment) (x a m : ℕ) → g.size ≤ x → g.slot * c + x ≤ a
    → part a m (padded_to c area g x) ≡ part a m area
padded-behind c area g x a m low behind =
    splice-after (g.slot * c + g.size) (replicate (x - g.size) 0) area a m (rw length-replicate (omega arith))
