-- Well shaped in, well shaped out: the log of each accepted prune is well shaped and fits the area.
-- Assumes nothing.
use mathlib.Core.Path.{◌≡◌, refl, ap, ◌∙◌, subst}
use mathlib.Core.Bool.{Bool, true}
use mathlib.Core.List.{List, [], ◌∷◌, ◌++◌}
use Prim.Native.Nat.{ℕ, ◌+◌, ◌-◌, ◌*◌, ◌%◌, ◌≤◌}
use native.Mathlib.Omega.{arith}
use lib.ListN.{length, get_or, replicate, length-append, length-take}
use lib.Seq.{get_or-take}
use Rattle.lists.specs.Outcome.{Outcome, refused, done}
use Rattle.lists.proofs.Splice.{splice-length}
use Rattle.segment.specs.declared.Segment.{Segment}
use Rattle.seglog.specs.declared.Log.{Log}
use Rattle.seglog.specs.View.{View, log_of, view_of, empty_of, head_of}
use Rattle.seglog.specs.Chain.{chain_of, ends_of, slots_apart}
use Rattle.seglog.specs.Fit.{fitting_of}
use Rattle.segment.specs.Segment.{no_segment, slot_number}
use Rattle.seglog.specs.Shape.{SizesObey}
use Rattle.lists.specs.Each.{all, linked}
use Rattle.lists.specs.Distinct.{distinct}
use Rattle.lists.proofs.Distinct.{distinct_more, snoc-distinct}
use Rattle.seglog.proofs.View.{log-view, head-snoc}
use Rattle.seglog.proofs.Fit.{fitting-is, view-shaped, view-fits}
use Rattle.segment.specs.Segment.{image_in, ended_at, padded_to}
use Rattle.seglog.proofs.Chain.{EndsGood, are-ends}
use Rattle.seglog_prune.specs.Drop.{drop_old}
use Rattle.seglog_prune.specs.declared.Newest.{Newest}
use Rattle.seglog_prune.specs.Cut.{cut_in}
use Rattle.seglog_prune.specs.Prune.{
  Pruned,
  pruned,
  prune_of,
  started_at,
  prune_oldest_of,
  ended_view,
  cut_off,
  prune_recent_of,
  oldest_log,
  recent_log,
}
use Rattle.seglog_prune.specs.Promised.{OldestShaped, RecentShaped}
use Rattle.seglog_prune.proofs.Decide.{Inner, prune-ways, fits-plain}
use Rattle.seglog_prune.proofs.PruneInside.{kept_of, cut_segment, front_kept, InRange, in-range, CutGood, cut-good}
use Rattle.seglog_prune.proofs.DropKept.{old-kept, old-fewer, chain-last, first-from, first_to, new-low}

-- ---- a view that is well shaped is the view of a log that fits

passed-fits : (a : View) (n : ℕ) → SizesObey a.k a.c a.m → length a.segs ≤ a.k → n ≡ a.k * a.c
    → chain_of a.k a.c a.segs ≡ true → slots_apart a.segs ≡ true → ends_of a.start a.end a.segs ≡ true
    → fitting_of (log_of a) n ≡ true
passed-fits a n sizes few area chain apart ends = view-fits a sizes few n (view-shaped a sizes few chain apart ends) area

-- what an accepted prune leaves fits
abbrev Good : Outcome Pruned → Type 0
Good (refused n) = Unit {0}
Good (done p) = fitting_of (log_of p.log) (length p.area) ≡ true

-- it is enough to show it where none of the shared tests decides
module _ (l : Log) (area : List ℕ) (n : ℕ) (rest : Outcome Pruned) (long : length l.segs ≡ 64) where
  abbrev fits : Bool
  fits = fitting_of l (length area)

  prune-good : (Inner (view_of l) fits n → Good rest) → Good (prune_of (view_of l) fits area n rest)
  unfolding chain_of all linked distinct ends_of
  prune-good h = prune-ways (view_of l) fits area n rest Good (λ q. tt) empty same tt tt h
    where
      empty : fits ≡ true → Good (pruned (empty_of l.k l.c l.m) area)
      empty good =
          let f = fitting-is l (length area) long good in
          passed-fits (empty_of l.k l.c l.m) (length area) f.sizes (omega arith) f.area refl refl refl

      same : fits ≡ true → Good (pruned (view_of l) area)
      same good = ap (λ (x : Log). fitting_of x (length area)) (log-view l long (fits-plain l (length area) good)) ∙ good

-- ---- prune oldest

oldest-fits : (l : Log) (area : List ℕ) (n : ℕ) → Inner (view_of l) (fitting_of l (length area)) n → InRange l area n
    → fitting_of (log_of (started_at (view_of l) n (drop_old n (view_of l).segs))) (length area) ≡ true
oldest-fits l area n i r =
    let gs : List Segment = (view_of l).segs in
    let fit = r.fit in
    let kept = old-kept l.k l.c n l.start l.end gs r.some fit.chain fit.apart r.ends i.lower i.upper in
    passed-fits (started_at (view_of l) n (drop_old n gs)) (length area) fit.sizes (omega (arith, old-fewer n gs, r.listed, fit.few))
    fit.area kept.chain kept.apart (are-ends n l.end (drop_old n gs) kept.some kept.ends)

oldest-good : (l : Log) (area : List ℕ) (n : ℕ) → length l.segs ≡ 64 → Good (oldest_log l area n)
unfolding oldest_log prune_oldest_of
oldest-good l area n long =
    prune-good l area n (pruned (started_at (view_of l) n (drop_old n (view_of l).segs)) area) long
    (λ i. oldest-fits l area n i (in-range l area n long i))

-- the log that prune oldest answers is well shaped, and fits the area, which stays
pub oldest-shaped : OldestShaped
oldest-shaped l area n a after long e = subst Good e (oldest-good l area n long)

-- ---- prune recent

module _ (l : Log) (area : List ℕ) (n : ℕ) (i : Inner (view_of l) (fitting_of l (length area)) n) (r : InRange l area n) (x : Newest)
    (e : cut_in (cut_segment l n) (image_in area l.c (cut_segment l n)) n ≡ done x) where
  abbrev g : Segment
  g = cut_segment l n

  abbrev hs : List Segment
  hs = front_kept l n

  abbrev ended : Segment
  ended = ended_at g n x.at x.end

  abbrev after : List Segment
  after = hs ++ (ended ∷ [])

  good : CutGood l area n r x
  good = cut-good l area n r x e

  -- the first segment is the first of those listed
  first-is : get_or (hs ++ (g ∷ [])) 0 no_segment ≡ get_or (view_of l).segs 0 no_segment
  first-is =
      ap (λ (y : List Segment). get_or y 0 no_segment) r.kept-is
      ∙ get_or-take (length (kept_of l n)) (view_of l).segs 0 no_segment r.stays

  after-few : length after ≤ l.k
  after-few =
      omega (
        arith,
        length-append hs (ended ∷ []),
        length-append hs (g ∷ []),
        ap length r.kept-is,
        length-take (length (kept_of l n)) (view_of l).segs,
        r.listed,
        r.fit.few,
      )

  after-ends : EndsGood l.start n after
  after-ends =
      let last : head_of after ≡ ended = head-snoc hs ended in
      record {
        from = omega (arith, first-from hs g n x.at x.end, ap (λ (y : Segment). y.min) first-is, r.ends.from);
        to = first_to hs g l.start n x.at x.end i.lower (omega (arith, ap (λ (y : Segment). y.max) first-is, r.ends.to));
        pages = ap (λ (y : Segment). y.size % 4096) last ∙ good.pages;
        newest = ap (λ (y : Segment). y.max) last;
      }

  recent-fits : Good (cut_off (view_of l) area n hs g (done x))
  recent-fits =
      let apart = snoc-distinct slot_number hs g r.apart in
      passed-fits (ended_view (view_of l) n hs g x) (length (padded_to l.c area g x.end))
      r.fit.sizes after-few (splice-length (g.slot * l.c + g.size) (replicate (x.end - g.size) 0) area ∙ r.fit.area)
      (chain-last l.k l.c hs g n x.at x.end r.chain good.newest good.high (new-low n (view_of l).segs r.stays))
      (distinct_more slot_number hs ended apart.0 apart.1)
      (are-ends l.start n after (omega (arith, length-append hs (ended ∷ []))) after-ends)

recent-any : (l : Log) (area : List ℕ) (n : ℕ) → Inner (view_of l) (fitting_of l (length area)) n → InRange l area n → (o : Outcome Newest)
    → cut_in (cut_segment l n) (image_in area l.c (cut_segment l n)) n ≡ o → Good (cut_off (view_of l) area n (front_kept l n) (cut_segment l n) o)
recent-any l area n i r (refused m) e = tt
recent-any l area n i r (done x) e = recent-fits l area n i r x e

recent-good : (l : Log) (area : List ℕ) (n : ℕ) → length l.segs ≡ 64 → Good (recent_log l area n)
unfolding recent_log prune_recent_of
recent-good l area n long = prune-good l area n _ long (λ i. recent-any l area n i (in-range l area n long i) _ refl)

-- the log that prune recent answers is well shaped, and fits the area
pub recent-shaped : RecentShaped
recent-shaped l area n a after long e = subst Good e (recent-good l area n long)
