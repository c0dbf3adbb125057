-- What is known behind the shared tests: of the listed segments, of those that prune recent keeps, and of a cut that was found.
-- Assumes nothing.
use mathlib.Core.Path.{◌≡◌, sym, ap, ◌∙◌}
use mathlib.Core.Bool.{true}
use native.Mathlib.Nat.{mul-le-mul_right, suc-mul}
use mathlib.Core.List.{List, [], ◌∷◌, ◌++◌}
use Prim.Native.Nat.{ℕ, suc, ◌+◌, ◌*◌, ◌%◌, ◌≤◌, ◌<◌}
use native.Mathlib.Omega.{arith}
use lib.ListN.{length, take, drop, length-take}
use Rattle.segment.specs.declared.Segment.{Segment}
use Rattle.seglog.specs.declared.Log.{Log}
use Rattle.seglog.specs.View.{view_of, head_of, front_of}
use Rattle.seglog.specs.Chain.{chain_of, slots_apart}
use Rattle.seglog.specs.Fit.{fitting_of}
use Rattle.seglog.proofs.View.{listed-length, ends-with}
use Rattle.seglog.proofs.Fit.{SegmentGood, Fitting, fitting-is}
use Rattle.lists.specs.Outcome.{done}
use Rattle.lists.proofs.Distinct.{distinct-front}
use Rattle.seglog_prune.specs.Drop.{drop_new}
use Rattle.seglog_prune.specs.declared.Newest.{Newest}
use Rattle.seglog_prune.specs.Cut.{cut_in}
use Rattle.segment.specs.Segment.{image_in, slot_number}
use Rattle.segment.specs.Chain.{NewestFits}
use Rattle.seglog_prune.proofs.Cut.{cut-within, cut-pages, cut-newest}
use Rattle.seglog_prune.proofs.Decide.{Inner}
use Rattle.seglog.proofs.Chain.{EndsGood, ends-are, chain-parts, snoc-chain}
use Rattle.seglog_prune.proofs.DropKept.{new-front, some-stays}

-- the segments that prune recent keeps: the last of them, which is cut, and those in front of it
abbrev pub kept_of : Log → ℕ → List Segment
kept_of l n = drop_new n (view_of l).segs

abbrev pub cut_segment : Log → ℕ → Segment
cut_segment l n = head_of (kept_of l n)

abbrev pub front_kept : Log → ℕ → List Segment
front_kept l n = front_of (kept_of l n)

-- a log that fits its area, with n in its range
pub record InRange (l : Log) (area : List ℕ) (n : ℕ) : Type 0 where
  pub fit : Fitting l (length area)
  pub listed : length (view_of l).segs ≡ l.count
  pub some : 0 < length (view_of l).segs
  pub ends : EndsGood l.start l.end (view_of l).segs
  pub stays : 0 < length (kept_of l n)
  pub kept-is : front_kept l n ++ (cut_segment l n ∷ []) ≡ take (length (kept_of l n)) (view_of l).segs
  pub chain : chain_of l.k l.c (front_kept l n ++ (cut_segment l n ∷ [])) ≡ true
  pub apart : slots_apart (front_kept l n ++ (cut_segment l n ∷ [])) ≡ true
  pub good : SegmentGood l.k l.c (cut_segment l n)

pub in-range : (l : Log) (area : List ℕ) (n : ℕ) → length l.segs ≡ 64 → Inner (view_of l) (fitting_of l (length area)) n → InRange l area n
in-range l area n long i =
    let gs : List Segment = take l.count l.segs in
    let fit : Fitting l (length area) = fitting-is l (length area) long i.good in
    let listed : length gs ≡ l.count = listed-length l.count l.segs long (omega (arith, fit.few, fit.sizes.few-slots)) in
    let some : 0 < length gs = i.some in
    let ends : EndsGood l.start l.end gs = ends-are l.start l.end gs some fit.ends in
    let stays : 0 < length (kept_of l n) = some-stays n l.start l.end gs some ends i.lower in
    let many : ℕ = length (kept_of l n) in
    let kept-is : front_kept l n ++ (cut_segment l n ∷ []) ≡ take many gs = sym (ends-with (kept_of l n) stays) ∙ new-front n gs in
    let chain : chain_of l.k l.c (front_kept l n ++ (cut_segment l n ∷ [])) ≡ true =
    ap (chain_of l.k l.c) kept-is ∙ (chain-parts l.k l.c many gs fit.chain).0 in
    record {
      fit = fit;
      listed = listed;
      some = some;
      ends = ends;
      stays = stays;
      kept-is = kept-is;
      chain = chain;
      apart = ap slots_apart kept-is ∙ distinct-front slot_number many gs fit.apart;
      good = (snoc-chain l.k l.c (front_kept l n) (cut_segment l n) chain).good;
    }

module _ (l : Log) (area : List ℕ) (n : ℕ) (r : InRange l area n) where
  -- the cut segment's slot lies in the area
  pub slot-inside : (cut_segment l n).slot * l.c + l.c ≤ length area
  slot-inside = omega (arith, r.fit.area, mul-le-mul_right l.c below, suc-mul (cut_segment l n).slot l.c)
    where
      below : suc (cut_segment l n).slot ≤ l.k
      below = omega (arith, r.good.slot)

  abbrev image : List ℕ
  image = image_in area l.c (cut_segment l n)

  -- its image is at most as long as the slot
  pub image-fits : length image ≤ l.c
  image-fits = omega (arith, length-take (cut_segment l n).size (drop ((cut_segment l n).slot * l.c) area), r.good.size)

  -- a cut that was found: whole pages, inside the slot, with its header in front of its end
  pub record CutGood (x : Newest) : Type 0 where
    pub high : x.end ≤ l.c
    pub pages : x.end % 4096 ≡ 0
    pub newest : NewestFits x.at x.end

  pub cut-good : (x : Newest) → cut_in (cut_segment l n) image n ≡ done x → CutGood x
  cut-good x e =
      let g : Segment = cut_segment l n in
      let page = r.good.newest.pages in
      record {
        high = cut-within g image n x page e l.c image-fits r.fit.sizes.whole-pages;
        pages = cut-pages g image n x page e;
        newest = cut-newest g image n x page e;
      }
