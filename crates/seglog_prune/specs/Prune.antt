-- The two prunes, as document 01 says them: 2, the two easy outcomes, 8, 9, and for prune recent 10. Assumes nothing.
use Rattle.std.specs.Prelude.{Bool, List, [], ◌∷◌, ◌++◌, ℕ, length, Result, Ok, Err}
use Rattle.lists.specs.Outcome.{Outcome, refused, done, either, kept}
use Rattle.refusal.specs.declared.Refusal.{Refusal}
use Rattle.refusal.specs.Refusals.{number}
use Rattle.segment.specs.declared.Segment.{Segment}
use Rattle.segment.specs.Segment.{image_in, ended_at, padded_to}
use Rattle.seglog.specs.declared.Log.{Log}
use Rattle.seglog.specs.View.{View, view_of, log_of, empty_of, head_of, front_of}
use Rattle.seglog.specs.Fit.{fitting_of}
use Rattle.seglog.specs.New.{Logged, refused_log, accepted}
use Rattle.seglog_prune.specs.declared.Early.{Early}
use Rattle.seglog_prune.specs.declared.Early.TheVariants.{Empty, Same, Onward}
use Rattle.seglog_prune.specs.Decide.{early_of}
use Rattle.seglog_prune.specs.Drop.{drop_old, drop_new}
use Rattle.seglog_prune.specs.declared.Newest.{Newest}
use Rattle.seglog_prune.specs.Cut.{cut_in}

-- what an accepted prune leaves: the log and the area
pub record Pruned : Type 0 where
  pub log : View
  pub area : List ℕ

-- a prune that is accepted
abbrev pub pruned : View → List ℕ → Outcome Pruned
pruned a area = done (record { log = a; area = area })

-- what each case of the shared tests is: document 01's number, one of the two easy outcomes, or what the prune does besides
abbrev pub outcome_of : View → List ℕ → (rest : Outcome Pruned) → Result Early Refusal → Outcome Pruned
outcome_of a area rest (Err r) = refused (number r)
outcome_of a area rest (Ok Empty) = pruned (empty_of a.k a.c a.m) area
outcome_of a area rest (Ok Same) = pruned a area
outcome_of a area rest (Ok Onward) = rest

-- a prune to n: the shared tests, and what it does besides; `fits` says that 2 is not met
abbrev pub prune_of : View → (fits : Bool) → List ℕ → ℕ → Outcome Pruned → Outcome Pruned
prune_of a fits area n rest = outcome_of a area rest (early_of a fits n)

-- ---- prune oldest

-- "and sets the live start; each kept min stays"
abbrev pub started_at : View → ℕ → List Segment → View
started_at a n gs = record { k = a.k; c = a.c; m = a.m; start = n; end = a.end; segs = gs }

-- prune oldest touches no byte
unfoldable pub prune_oldest_of : View → (fits : Bool) → List ℕ → ℕ → Outcome Pruned
prune_oldest_of a fits area n = prune_of a fits area n (pruned (started_at a n (drop_old n a.segs)) area)

-- ---- prune recent

-- the log that ends with the record n in g, which is x, after hs
abbrev pub ended_view : View → ℕ → List Segment → Segment → Newest → View
ended_view a n hs g x = record {
  k = a.k;
  c = a.c;
  m = a.m;
  start = a.start;
  end = n;
  segs = hs ++ (ended_at g n x.at x.end ∷ []);
}

-- "sets its size to the padded end of it": the head g, after hs, cut there; 10 where the cut is not found
abbrev pub cut_off : View → List ℕ → ℕ → List Segment → Segment → Outcome Newest → Outcome Pruned
cut_off a area n hs g (refused m) = refused m
cut_off a area n hs g (done x) = pruned (ended_view a n hs g x) (padded_to a.c area g x.end)

-- the last of the kept segments is the head, and is cut
unfoldable pub prune_recent_of : View → (fits : Bool) → List ℕ → ℕ → Outcome Pruned
prune_recent_of a fits area n =
    let left : List Segment = drop_new n a.segs in
    prune_of a fits area n (cut_off a area n (front_of left) (head_of left) (cut_in (head_of left) (image_in area a.c (head_of left)) n))

-- ---- as the code holds the log

-- prune oldest of a log
unfoldable pub oldest_log : Log → List ℕ → ℕ → Outcome Pruned
oldest_log l area n = prune_oldest_of (view_of l) (fitting_of l (length area)) area n

-- prune recent of a log
unfoldable pub recent_log : Log → List ℕ → ℕ → Outcome Pruned
recent_log l area n = prune_recent_of (view_of l) (fitting_of l (length area)) area n

-- the answer: beside a refusal's number stands the log given
abbrev pub prune_answer : Log → Outcome Pruned → Logged
prune_answer l o = either (λ n. refused_log n l) (λ p. accepted (log_of p.log)) o

-- the area afterwards: a refusal changes nothing
abbrev pub prune_area : List ℕ → Outcome Pruned → List ℕ
prune_area area o = kept area (λ p. p.area) o
