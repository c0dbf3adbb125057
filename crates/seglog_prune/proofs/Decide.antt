-- The tests that the two prunes share: each way through them as a law on plain values, and what is known behind them.
-- Assumes nothing.
use mathlib.Core.Path.{◌≡◌, refl, sym, ap, ◌∙◌}
use mathlib.Core.Bool.{Bool, true, false, not, ◌&&◌}
use mathlib.Core.List.{List}
use mathlib.Core.Logic.{◌⊎◌, ⊎_elim}
use Prim.Native.Nat.{ℕ, ◌*◌, ◌≤◌, ◌<◌}
use native.Mathlib.Omega.{arith}
use lib.ListN.{length, take, drop, length-take}
use lib.Dec.{ltb, leb, eqb}
use borrow.Author.Tests.{eq-eqb, ne_eqb, lt-ltb, le-ltb, leb-true, eqb-false, ltb-false}
use Rattle.std.specs.Prelude.{Result, Ok, Err}
use Rattle.lists.specs.Choice.{pick}
use Rattle.lists.specs.Outcome.{Outcome, refused, kept}
use Rattle.lists.proofs.Bools.{zero-is-not-one, and_both}
use Rattle.lists.proofs.Cases.{by-test, pick-either}
use Rattle.refusal.specs.declared.Refusal.{Refusal}
use Rattle.refusal.specs.declared.Refusal.TheVariants.{NotShaped, AboveLiveEnd, BelowLiveStart}
use Rattle.refusal.specs.Refusals.{number}
use Rattle.seglog.specs.declared.Log.{Log}
use Rattle.seglog.specs.View.{View, view_of, empty_of, zeros_of, plain_of}
use Rattle.seglog.specs.Fit.{shaped_of, fitting_of}
use Rattle.seglog.specs.New.{refused_log, accepted}
use Rattle.seglog.proofs.View.{log-view}
use Rattle.seglog_prune.specs.declared.Early.{Early}
use Rattle.seglog_prune.specs.declared.Early.TheVariants.{Empty, Same, Onward}
use Rattle.seglog_prune.specs.Decide.{early_of}
use Rattle.seglog_prune.specs.Prune.{Pruned, pruned, outcome_of, prune_of, prune_answer, prune_area}
use Rattle.seglog_prune.specs.Steps.{settled_of}
use Rattle.seglog_prune.specs.Promised.{EarlyEmpties, EarlyKeeps}

-- ---- a log by its entries

-- at most 64 segments are listed where the unused entries are zero
pub plain-few : (l : Log) → plain_of l ≡ true → l.count ≤ 64
unfolding plain_of
plain-few l h = leb-true l.count 64 (and_both (leb l.count 64) (zeros_of (drop l.count l.segs)) h).0

-- a log that fits has zeros in its unused entries
pub fits-plain : (l : Log) (bytes : ℕ) → fitting_of l bytes ≡ true → plain_of l ≡ true
unfolding fitting_of
fits-plain l bytes h = (and_both (plain_of l) (shaped_of (view_of l) && eqb bytes (l.k * l.c)) h).0

-- where the count is not 0, some segment is listed
pub listed_some : (l : Log) → length l.segs ≡ 64 → (l.count ≡ 0 → ⊥) → length (take l.count l.segs) ≡ 0 → ⊥
listed_some l long some z = some (omega (arith, length-take l.count l.segs))

-- ---- the ways through the tests

-- refusal 2
pub early-refuses-2 : (a : View) (fits : Bool) (n : ℕ) → fits ≡ false → Err NotShaped ≡ early_of a fits n
unfolding early_of
early-refuses-2 a fits n f = simp f

-- argument 0
pub early-empties : EarlyEmpties
unfolding early_of
early-empties a fits n good z = simp (good, eq-eqb n 0 z)

-- an empty log
pub early-keeps : EarlyKeeps
unfolding early_of
early-keeps a fits n good some z = simp (good, ne_eqb n 0 some, eq-eqb (length a.segs) 0 z)

module _ (a : View) (fits : Bool) (n : ℕ) (good : fits ≡ true) (some : n ≡ 0 → ⊥) (listed : length a.segs ≡ 0 → ⊥) where
  -- refusal 8
  pub early-refuses-8 : a.end < n → Err AboveLiveEnd ≡ early_of a fits n
  unfolding early_of
  early-refuses-8 h = simp (good, ne_eqb n 0 some, ne_eqb (length a.segs) 0 listed, lt-ltb a.end n h)

  -- refusal 9
  pub early-refuses-9 : n ≤ a.end → n < a.start → Err BelowLiveStart ≡ early_of a fits n
  unfolding early_of
  early-refuses-9 h g =
      simp (good, ne_eqb n 0 some, ne_eqb (length a.segs) 0 listed, le-ltb a.end n h, lt-ltb n a.start g)

  -- none of them
  pub early-passes : n ≤ a.end → a.start ≤ n → Ok Onward ≡ early_of a fits n
  unfolding early_of
  early-passes h g =
      simp (good, ne_eqb n 0 some, ne_eqb (length a.segs) 0 listed, le-ltb a.end n h, le-ltb n a.start g)

-- ---- what is known behind them

-- what the tests say where none of them decides
pub record Inner (a : View) (fits : Bool) (n : ℕ) : Type 0 where
  pub good : fits ≡ true
  pub above : 0 < n
  pub some : 0 < length a.segs
  pub upper : n ≤ a.end
  pub lower : a.start ≤ n

-- none of them decides: so it is
pub early-inner : (a : View) (fits : Bool) (n : ℕ) → Ok Onward ≡ early_of a fits n → Inner a fits n
unfolding early_of
early-inner a fits n e =
    go fits (eqb n 0) (eqb (length a.segs) 0) (ltb a.end n) (ltb n a.start) refl refl refl refl refl e
  where
    go : (t2 t0 t1 t8 t9 : Bool) → fits ≡ t2 → eqb n 0 ≡ t0 → eqb (length a.segs) 0 ≡ t1 → ltb a.end n ≡ t8
        → ltb n a.start ≡ t9
        → Ok Onward ≡ pick (not t2) (Err NotShaped) (pick t0 (Ok Empty) (pick t1 (Ok Same) (pick t8 (Err AboveLiveEnd) (pick t9 (Err BelowLiveStart) (Ok Onward)))))
        → Inner a fits n
    go false t0 t1 t8 t9 e2 e0 e1 e8 e9 h = zero-is-not-one (cc)
    go true true t1 t8 t9 e2 e0 e1 e8 e9 h = zero-is-not-one (cc)
    go true false true t8 t9 e2 e0 e1 e8 e9 h = zero-is-not-one (cc)
    go true false false true t9 e2 e0 e1 e8 e9 h = zero-is-not-one (cc)
    go true false false false true e2 e0 e1 e8 e9 h = zero-is-not-one (cc)
    go true false false false false e2 e0 e1 e8 e9 h =
        record {
          good = e2;
          above = omega (arith, eqb-false n 0 e0);
          some = omega (arith, eqb-false (length a.segs) 0 e1);
          upper = ltb-false a.end n e8;
          lower = ltb-false n a.start e9;
        }

-- the easy outcome of an empty log is that of a log that fits
pub same-fits : (a : View) (fits : Bool) (n : ℕ) → Ok Same ≡ early_of a fits n → fits ≡ true
same-fits a fits n e =
    by-test fits (λ h. h) (λ h. let z = early-refuses-2 a fits n h in zero-is-not-one (cc))

-- ---- a prune by its ways

-- two prunes that are accepted with the same leave the same log
pub pruned-same : (a b : View) (area area' : List ℕ) → pruned a area ≡ pruned b area' → a ≡ b
pruned-same a b area area' q = ap (kept a (λ (p : Pruned). p.log)) q

module _ (a : View) (fits : Bool) (area : List ℕ) (n : ℕ) (rest : Outcome Pruned) where
  -- what holds of each way holds of the prune
  pub prune-ways : (Q : Outcome Pruned → Type 0) → (fits ≡ false → Q (refused 2))
      → (fits ≡ true → Q (pruned (empty_of a.k a.c a.m) area)) → (fits ≡ true → Q (pruned a area))
      → Q (refused 8) → Q (refused 9) → (Inner a fits n → Q rest) → Q (prune_of a fits area n rest)
  unfolding early_of
  prune-ways Q two empty same eight nine onward =
      by-test fits
      (λ good. rw good
      (pick-either R (eqb n 0) (Ok Empty) _ (λ q. empty good)
      (λ q0. pick-either R (eqb (length a.segs) 0) (Ok Same) _ (λ q. same good)
      (λ q1. pick-either R (ltb a.end n) (Err AboveLiveEnd) _ (λ q. eight)
      (λ q8. pick-either R (ltb n a.start) (Err BelowLiveStart) _ (λ q. nine)
      (λ q9. onward (record {
        good = good;
        above = omega (arith, eqb-false n 0 q0);
        some = omega (arith, eqb-false (length a.segs) 0 q1);
        upper = ltb-false a.end n q8;
        lower = ltb-false n a.start q9;
      })))))))
      (λ bad. rw bad (two bad))
    where
      R : Result Early Refusal → Type 0
      R e = Q (outcome_of a area rest e)

  -- none of the tests decides
  pub prune-passes : Inner a fits n → prune_of a fits area n rest ≡ rest
  prune-passes i =
      let above = i.above in
      let some = i.some in
      ap (outcome_of a area rest)
      (sym (early-passes a fits n i.good (λ z. omega arith) (λ z. omega arith) i.upper i.lower))

  -- refusal 9
  pub prune-refuses-9 : fits ≡ true → 0 < n → 0 < length a.segs → n ≤ a.end → n < a.start → prune_of a fits area n rest ≡ refused 9
  prune-refuses-9 good above some upper low =
      ap (outcome_of a area rest) (sym (early-refuses-9 a fits n good (λ z. omega arith) (λ z. omega arith) upper low))

-- ---- where the tests decide

module _ (l : Log) (area : List ℕ) (n : ℕ) (rest : Outcome Pruned) (long : length l.segs ≡ 64) where
  abbrev early : Result Early Refusal
  early = early_of (view_of l) (fitting_of l (length area)) n

  abbrev whole : Outcome Pruned
  whole = outcome_of (view_of l) area rest early

  -- a refusal's answer and the area
  pub early-refused : (r : Refusal) → Err r ≡ early
      → (refused_log (number r) l ≡ prune_answer l whole) × (area ≡ prune_area area whole)
  early-refused r h =
      let o : whole ≡ refused (number r) = ap (outcome_of (view_of l) area rest) (sym h) in
      (ap (prune_answer l) (sym o), ap (prune_area area) (sym o))

  -- an accepted answer's log and the area
  pub early-settles : (e : Early) → Ok e ≡ early → (e ≡ Onward → ⊥)
      → (accepted (settled_of l e) ≡ prune_answer l whole) × (area ≡ prune_area area whole)
  early-settles e h tag = go e h tag (ap (outcome_of (view_of l) area rest) (sym h))
    where
      go : (e : Early) → Ok e ≡ early → (e ≡ Onward → ⊥) → whole ≡ outcome_of (view_of l) area rest (Ok e)
          → (accepted (settled_of l e) ≡ prune_answer l whole) × (area ≡ prune_area area whole)
      go Empty h tag o = (ap (prune_answer l) (sym o), ap (prune_area area) (sym o))
      go Same h tag o =
          let plain = fits-plain l (length area) (same-fits (view_of l) (fitting_of l (length area)) n h) in
          (ap accepted (sym (log-view l long plain)) ∙ ap (prune_answer l) (sym o), ap (prune_area area) (sym o))
      go Onward h tag o = absurd (tag refl)

-- where the log given is the answer
pub settled-given : (l : Log) (e : Early) → (e ≡ Same) ⊎ (e ≡ Onward) → l ≡ settled_of l e
settled-given l e is = ⊎_elim (λ h. sym (ap (settled_of l) h)) (λ h. sym (ap (settled_of l) h)) is
