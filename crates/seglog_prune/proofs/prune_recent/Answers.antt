-- `seglog_prune::prune_recent` meets its contract: the shared tests decide, or the cut is looked for in the last segment that stays.
-- Assumes nothing.
use mathlib.Core.Path.{◌≡◌, sym, ap, ◌∙◌}
use mathlib.Core.List.{List}
use Prim.Native.Nat.{ℕ, ◌+◌, ◌-◌, ◌*◌, ◌^◌, ◌≤◌, ◌<◌}
use native.Mathlib.Nat.{le_trans}
use native.Mathlib.Omega.{arith}
use lib.ListN.{length, get_or, take, drop, length-take}
use lib.Seq.{take-take}
use Rattle.segment.proofs.Cut.{truncated-padded}
use Rattle.segment.specs.declared.Segment.{Segment}
use Rattle.segment.specs.Segment.{no_segment, image_in}
use Rattle.seglog.specs.Shape.{SizesObey}
use Rattle.std.specs.Prelude.{Ok}
use Rattle.refusal.specs.Refusals.{outcome}
use Rattle.seglog.specs.New.{accepted, logged}
use Rattle.lists.proofs.Arrays.{unmapped}
use Rattle.lists.proofs.Outcome.{handed-on}
use Rattle.seglog.proofs.Fit.{SegmentGood}
use Rattle.seglog_prune.specs.declared.Early.TheVariants.{Onward}
use Rattle.lists.specs.Outcome.{done}
use Rattle.seglog_prune.specs.Cut.{cut_in}
use Rattle.seglog_prune.specs.Prune.{prune_answer, prune_area}
use Rattle.lists.proofs.Bounds.{left_below, part-first, part-size, part-within, part-start-fits, part-end-fits}
use Rattle.segment.proofs.Bounds.{entry-fits}
use Rattle.seglog_prune.proofs.Cut.{cut-within}
use Rattle.seglog_prune.proofs.Decide.{early-inner, plain-few, fits-plain}
use Rattle.seglog_prune.proofs.Prune.{
  early_log,
  recent-refused,
  recent-settled,
  Staying,
  range,
  few-entries,
  left-some,
  head-good,
  head-inside,
  recent-refuses,
  recent-answer,
  recent-area,
}
use borrow.Author.Rules.{rules}
use Rattle.seglog_prune.proofs.prune_recent.Goals.{After-remaining-left}
use Rattle.seglog_prune.proofs.prune_recent.Goals as goal

take_within : (b : ℕ) (l : List ℕ) {n : ℕ} → b ≤ n → length (take b l) ≤ n
take_within b l h = omega (arith, length-take b l)

-- what is known once it is told how many segments stay
staying : (c : After-remaining-left) → Staying c.args.log c.args.area.now c.args.new_end_live c.remaining-left.result
staying c =
    let long_of : length c.args.log.segs ≡ 64 = search (rules, unmapped) in
    let l = c.args.log in
    let fewer : c.remaining-left.result ≤ l.count = omega (arith, c.remaining-left.ensures.0, length-take l.count l.segs) in
    record {
      long = long_of;
      onward = ap Ok (sym c.in-Onward.is) ∙ sym c.in_ok-early.was ∙ c.decide_early.ensures;
      few = fewer;
      kept = c.remaining-left.ensures.1 ∙ take-take c.remaining-left.result l.count l.segs fewer;
    }

some : (c : After-remaining-left) → 0 < c.remaining-left.result
some c = left-some _ _ _ _ (staying c)

few : (c : After-remaining-left) → c.remaining-left.result ≤ 64
few c = le_trans (staying c).few (few-entries _ _ _ _ (staying c))

pub returns-in_err-early : goal.returns-in_err-early
returns-in_err-early c =
    let long_of : length c.args.log.segs ≡ 64 = search (rules, unmapped) in
    let both = recent-refused c.args.log c.args.area.now c.args.new_end_live long_of _ (sym c.in_err-early.was ∙ c.decide_early.ensures) in
    record { answer = ap (logged c.args.log) (handed-on c.from_residual.result _ c.from_residual.ensures.1) ∙ both.0; bytes = both.1 }

pub returns-in_default : goal.returns-in_default
returns-in_default c =
    let long_of : length c.args.log.segs ≡ 64 = search (rules, unmapped) in
    let both = recent-settled c.args.log c.args.area.now c.args.new_end_live long_of _ (sym c.in_ok-early.was ∙ c.decide_early.ensures)
    c.in_default.not-Onward in record { answer = ap accepted c.settled.ensures ∙ both.0; bytes = both.1 }

pub shared_ref_as_front-remaining : goal.shared_ref_as_front-remaining
shared_ref_as_front-remaining c =
    let a = c.args in
    let onward-here : Ok Onward ≡ early_log a.log a.area.now a.new_end_live =
    ap Ok (sym c.in-Onward.is) ∙ sym c.in_ok-early.was ∙ c.decide_early.ensures in
    plain-few a.log (fits-plain a.log (length a.area.now) (early-inner _ _ _ onward-here).good)

-- the last segment that stays is good, and lies inside the area
module _ (c : After-remaining-left) where
  abbrev head_of : Segment
  head_of = get_or c.args.log.segs (c.remaining-left.result - 1) no_segment

  good : SegmentGood c.args.log.k c.args.log.c head_of
  good = head-good _ _ _ _ (staying c)

  inside : head_of.slot * c.args.log.c + c.args.log.c ≤ length c.args.area.now
  inside = head-inside _ _ _ _ (staying c)

  small : length c.args.area.now < 2 ^ 64
  small = omega (arith, c.well_formed)

  -- its image as the code cuts it out
  image-is : take (head_of.slot * c.args.log.c + head_of.size - head_of.slot * c.args.log.c) (drop (head_of.slot * c.args.log.c) c.args.area.now)
      ≡ image_in c.args.area.now c.args.log.c head_of
  image-is =
      ap (λ (k : ℕ). take k (drop (head_of.slot * c.args.log.c) c.args.area.now)) (part-size (head_of.slot * c.args.log.c) head_of.size)

pub overflow_sub-head : goal.overflow_sub-head
overflow_sub-head c =
    some c

pub offset_bounds-log-left : goal.offset_bounds-log-left
offset_bounds-log-left c =
    let k = (goal.at.offset_bounds-log-left c).After-remaining-left in
    entry-fits (left_below (some k) (few k))

pub bounds-log-left : goal.bounds-log-left
bounds-log-left c =
    let k = (goal.at.bounds-log-left c).After-remaining-left in
    left_below (some k) (few k)

pub overflow_mul-from : goal.overflow_mul-from
overflow_mul-from c =
    let k = (goal.at.overflow_mul-from c).After-remaining-left in
    part-start-fits _ _ (inside k) (small k)

pub overflow_add-to : goal.overflow_add-to
overflow_add-to c =
    let k = (goal.at.overflow_add-to c).After-remaining-left in
    part-end-fits _ _ (part-within _ _ _ (inside k) (good k).size) (small k)

pub slice_bounds-cut_in-count : goal.slice_bounds-cut_in-count
slice_bounds-cut_in-count c =
    part-first _ _

pub slice_bounds-cut_in-start : goal.slice_bounds-cut_in-start
slice_bounds-cut_in-start c =
    part-first _ _

pub slice_bounds-cut_in-end : goal.slice_bounds-cut_in-end
slice_bounds-cut_in-end c =
    let k = (goal.at.slice_bounds-cut_in-end c).After-remaining-left in
    part-within _ _ _ (inside k) (good k).size

pub returns-in_err-newest : goal.returns-in_err-newest
returns-in_err-newest c =
    let k = (goal.at.returns-in_err-newest c).After-remaining-left in
    let l = c.args.log in
    let area = c.args.area.now in
    let found = ap outcome (sym c.in_err-newest.was) ∙ c.cut_in.ensures
    ∙ ap (λ (img : List ℕ). cut_in (head_of k) img c.args.new_end_live) (image-is k) in
    let is = recent-refuses l area c.args.new_end_live c.remaining-left.result (staying k) _ (sym found) in
    record {
      answer = ap (logged l) (handed-on c.from_residual-in_err-newest.result _ c.from_residual-in_err-newest.ensures.1)
          ∙ ap (prune_answer l) (sym is);
      bytes = ap (prune_area area) (sym is);
    }

pub ended-requires : goal.ended-requires
ended-requires c =
    let k = (goal.at.ended-requires c).After-remaining-left in
    (some k, few k)

pub returns : goal.returns
returns c =
    let k = (goal.at.returns c).After-remaining-left in
    let l = c.args.log in
    let area = c.args.area.now in
    let n = c.args.new_end_live in
    let left = c.remaining-left.result in
    let x = c.in_ok-newest.newest in
    let cut-of : cut_in (head_of k) (image_in area l.c (head_of k)) n ≡ done x =
    sym (ap outcome (sym c.in_ok-newest.was) ∙ c.cut_in.ensures ∙ ap (λ (img : List ℕ). cut_in (head_of k) img n) (image-is k)) in
    let pages : SizesObey l.k l.c l.m = (range _ _ _ _ (staying k)).fit.sizes in
    let image-small : length (image_in area l.c (head_of k)) ≤ l.c =
    take_within (head_of k).size (drop ((head_of k).slot * l.c) area) (good k).size in
    let cut_small : x.end ≤ l.c = cut-within _ _ _ _ (good k).newest.pages cut-of _ image-small pages.whole-pages in
    let padded = truncated-padded area l.c x.end (head_of k) (inside k) cut_small in
    record {
      answer = ap accepted c.ended.ensures ∙ recent-answer l area n left (staying k) x cut-of;
      bytes = c.truncate.ensures ∙ padded ∙ recent-area l area n left (staying k) x cut-of;
    }
