-- A cut at a segment's newest record depends on the twelve bytes of its header and on no other byte of the area. Assumes nothing.
use mathlib.Core.Path.{◌≡◌, refl, sym, ap, ◌∙◌, subst}
use mathlib.Core.Bool.{Bool}
use mathlib.Core.List.{List, []}
use Prim.Native.Nat.{ℕ, ◌+◌, ◌-◌, ◌*◌}
use lib.ListN.{length, replicate, length-take, length-drop}
use borrow.Author.Tests.{eq-eqb}
use Rattle.lists.specs.Outcome.{Outcome, refused, done}
use Rattle.lists.specs.Splice.{part}
use Rattle.lists.proofs.Splice.{part-part, splice-none}
use Rattle.record.specs.Record.{header_at}
use Rattle.segment.specs.declared.Segment.{Segment}
use Rattle.segment.specs.Segment.{image_in}
use Rattle.seglog.specs.declared.Log.{Log}
use Rattle.seglog.specs.View.{View, view_of}
use Rattle.seglog.specs.Fit.{fitting_of}
use Rattle.seglog.proofs.Fit.{SegmentGood}
use Rattle.walk.specs.Judging.{record_at}
use Rattle.walk.proofs.Headers.{header-depends}
use Rattle.seglog_prune.specs.declared.Newest.{Newest}
use Rattle.std.specs.Prelude.{Result, Ok, Err}
use Rattle.refusal.specs.declared.Refusal.{Refusal}
use Rattle.refusal.specs.Refusals.{number}
use Rattle.seglog_prune.specs.declared.Early.{Early}
use Rattle.seglog_prune.specs.declared.Early.TheVariants.{Empty, Same, Onward}
use Rattle.seglog_prune.specs.Decide.{early_of}
use Rattle.seglog_prune.specs.Cut.{look_by, look_at, only, cut_in}
use Rattle.seglog_prune.specs.Prune.{Pruned, pruned, outcome_of, cut_off, prune_recent_of, recent_log}
use Rattle.seglog_prune.specs.Promised.{Agree, NewestCutDepends}
use Rattle.seglog_prune.proofs.Decide.{early-inner}
use Rattle.seglog_prune.proofs.PruneInside.{cut_segment, front_kept, in-range}

-- ---- outcomes that agree

module _ (l : Log) (area area' : List ℕ) where
  -- a refusal, and an outcome that writes nothing
  refused-agree : (m : ℕ) → Agree l area area' (refused m) (refused m)
  refused-agree m =
      record { answer = refl; at = 0; bytes = []; written = sym (splice-none 0 area); written' = sym (splice-none 0 area') }

  same-agree : (v : View) → Agree l area area' (pruned v area) (pruned v area')
  same-agree v =
      record { answer = refl; at = 0; bytes = []; written = sym (splice-none 0 area); written' = sym (splice-none 0 area') }

  -- the same cut
  cut-agree : (a : View) (n : ℕ) (hs : List Segment) (g : Segment) (x : Outcome Newest)
      → Agree l area area' (cut_off a area n hs g x) (cut_off a area' n hs g x)
  cut-agree a n hs g (refused m) = refused-agree m
  cut-agree a n hs g (done x) =
      record {
        answer = refl;
        at = g.slot * a.c + g.size;
        bytes = replicate (x.end - g.size) 0;
        written = refl;
        written' = refl;
      }

-- ---- the same twelve bytes

module _ (k c : ℕ) (area area' : List ℕ) (long : length area ≡ length area') (g : Segment) (good : SegmentGood k c g)
    (same : part (g.slot * c + g.newest_at) 12 area ≡ part (g.slot * c + g.newest_at) 12 area') where
  image-long : length (image_in area c g) ≡ length (image_in area' c g)
  image-long = simp (length-take, length-drop, long)

  header-same : header_at (image_in area c g) g.newest_at ≡ header_at (image_in area' c g) g.newest_at
  header-same =
      header-depends (image_in area c g) (image_in area' c g) g.newest_at
      (placed area ∙ same ∙ sym (placed area')) image-long
    where
      placed : (x : List ℕ) → part g.newest_at 12 (image_in x c g) ≡ part (g.slot * c + g.newest_at) 12 x
      placed x = part-part (g.slot * c) g.size g.newest_at 12 x good.newest.header

  -- the same cut at the newest record
  cut-same : (n : ℕ) → g.max ≡ n → cut_in g (image_in area c g) n ≡ cut_in g (image_in area' c g) n
  unfolding cut_in look_at
  cut-same n e =
      let at : ℕ = g.newest_at in
      simp (eq-eqb g.max n e) (λ i. only (look_by (image-long i) n at (record_at (image-long i) at (header-same i))))

-- ---- prune recent

pub newest-cut-depends : NewestCutDepends
unfolding recent_log prune_recent_of
newest-cut-depends l area area' n full long g is max same =
    subst (λ (fits : Bool). Agree l area area' (outcome_of a area (rest area) (early_of a (fitting_of l (length area)) n))
    (outcome_of a area' (rest area') (early_of a fits n))) (ap (fitting_of l) long)
    (by (early_of a (fitting_of l (length area)) n) refl)
  where
    a : View
    a = view_of l

    head : Segment
    head = cut_segment l n

    rest : List ℕ → Outcome Pruned
    rest x = cut_off a x n (front_kept l n) head (cut_in head (image_in x l.c head) n)

    by : (e : Result Early Refusal) → e ≡ early_of a (fitting_of l (length area)) n
        → Agree l area area' (outcome_of a area (rest area) e) (outcome_of a area' (rest area') e)
    by (Err r) q = refused-agree l area area' (number r)
    by (Ok Empty) q = same-agree l area area' _
    by (Ok Same) q = same-agree l area area' a
    by (Ok Onward) q =
        let r = in-range l area n full (early-inner a (fitting_of l (length area)) n q) in
        let one = cut-same l.k l.c area area' long head r.good
        (subst (λ (y : Segment). part (y.slot * l.c + y.newest_at) 12 area ≡ part (y.slot * l.c + y.newest_at) 12 area') is same)
        n (ap (λ (y : Segment). y.max) (sym is) ∙ max) in
        subst (λ (x : Outcome Newest). Agree l area area' (rest area) (cut_off a area' n (front_kept l n) head x)) one
        (cut-agree l area area' a n (front_kept l n) head (cut_in head (image_in area l.c head) n))
