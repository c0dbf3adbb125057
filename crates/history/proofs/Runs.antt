-- The invariant holds after any run of calls from a new log, of the log as the code holds it.
-- Assumes nothing.
use mathlib.Core.Bool.{not, true, ◌&&◌, Bool, false}
use mathlib.Core.List.{◌++◌, List, [], ◌∷◌}
use mathlib.Core.Path.{◌≡◌, refl, ap, ◌∙◌, subst, sym}
use Prim.Native.Nat.{◌-◌, ℕ, ◌*◌}
use native.Mathlib.Omega.{arith}
use lib.Dec.{eqb}
use lib.ListN.{take, length, replicate}
use lib.Seq.{take_at}
use borrow.Author.Tests.{eq-eqb, ne_eqb, eqb-true}
use Rattle.lists.specs.Choice.{pick}
use Rattle.lists.proofs.Bools.{and_both, both-and}
use Rattle.seglog.proofs.View.{plain-log, view-log}
use Rattle.seglog.specs.View.{View, log_of, plain_of, view_of, empty_of, zero_log}
use Rattle.seglog.specs.Fit.{fitting_of, shaped_of, sizes_of}
use Rattle.segment.specs.Segment.{no_segment}
use Rattle.seglog.specs.New.{new_of, accepted, roomy_of, refused_log}
use Rattle.seglog.specs.declared.Log.{Log}
use Rattle.seglog_append.specs.Appending.{Left, append_log, append_of, append_answer}
use Rattle.seglog_append.proofs.Appending.{append-fits}
use Rattle.lists.specs.Outcome.{Outcome, refused, done}
use Rattle.seglog_prune.specs.Prune.{Pruned, oldest_log, prune_oldest_of, recent_log, prune_recent_of}
use Rattle.history.specs.History.{
  Held,
  append,
  noted,
  run,
  oldest,
  recent,
  after_append,
  heard,
  after_prune,
  step,
  heard_call,
  Call,
  told,
  begun,
  nothing,
  last_under,
}
use Rattle.history.proofs.Appends.{AppendKeeps, append-keeps}
use Rattle.history.proofs.Invariant.{Holds, empty_holds}
use Rattle.history.proofs.Prunes.{PruneKeeps, oldest-keeps, recent-keeps}
use Rattle.history.proofs.Shape.{holds-few, sizes-few, fits_both, holds_fits}

-- the listed segments, of a view's log
pub listed-log : (a : View) → take (length a.segs) (a.segs ++ replicate (64 - length a.segs) no_segment) ≡ a.segs
listed-log a = take_at a.segs (replicate (64 - length a.segs) no_segment) (length a.segs) refl

-- what is held came from calls: it is the log of a view of which the invariant holds, and of which Q says more
pub record Came (Q : View → (ℕ → List ℕ) → Type 0) (t : Held) (f : ℕ → List ℕ) : Type 0 where
  pub view : View
  pub packed : t.log ≡ log_of view
  pub holds : Holds view t.area f
  pub also : Q view f

-- what Q says of an append's outcome
abbrev pub AppendAlso : (View → (ℕ → List ℕ) → Type 0) → (ℕ → List ℕ) → List ℕ → Outcome Left → Type 0
AppendAlso Q f p (refused n) = Unit {0}
AppendAlso Q f p (done w) = Q w.view (noted f w.id p)

-- what Q says of a prune's outcome
abbrev pub PruneAlso : (View → (ℕ → List ℕ) → Type 0) → (ℕ → List ℕ) → Outcome Pruned → Type 0
PruneAlso Q f (refused n) = Unit {0}
PruneAlso Q f (done p) = Q p.log f

-- a view of which the invariant holds, as the code holds it
abbrev pub held_of : View → List ℕ → Held
held_of a area = record { log = log_of a; area = area }

module _ (a : View) (area : List ℕ) (f : ℕ → List ℕ) (h : Holds a area f) where
  -- its unused entries are zero
  pub plain : plain_of (log_of a) ≡ true
  plain = plain-log a (omega (arith, holds-few a area f h, sizes-few a.k a.c a.m h.sizes))

  -- it is well shaped over any K x C bytes
  pub log-fitting : (n : ℕ) → n ≡ a.k * a.c → fitting_of (log_of a) n ≡ true
  unfolding fitting_of
  log-fitting n all =
      let shaped = and_both (shaped_of a) (eqb (length area) (a.k * a.c)) (fits_both a area (holds_fits a area f h)) in
      both-and (plain_of (log_of a)) (shaped_of (view_of (log_of a)) && eqb n (a.k * a.c)) plain
      (both-and (shaped_of (view_of (log_of a))) (eqb n (a.k * a.c)) (ap shaped_of (view-log a) ∙ shaped.0) (eq-eqb n (a.k * a.c) all))

  -- the functions of the code's log are those of the view
  pub append-log : (p : List ℕ) → append_log (log_of a) area p ≡ append_of a area p
  append-log p = append-fits (log_of a) area p (log-fitting (length area) h.all) ∙ ap (λ (x : View). append_of x area p) (view-log a)

  -- prune oldest
  pub oldest-log : (n : ℕ) → oldest_log (log_of a) area n ≡ prune_oldest_of a true area n
  unfolding oldest_log
  oldest-log n = simp (log-fitting (length area) h.all) (ap (λ (x : View). prune_oldest_of x true area n) (view-log a))

  -- prune recent
  pub recent-log : (n : ℕ) → recent_log (log_of a) area n ≡ prune_recent_of a true area n
  unfolding recent_log
  recent-log n = simp (log-fitting (length area) h.all) (ap (λ (x : View). prune_recent_of x true area n) (view-log a))

  module _ (Q : View → (ℕ → List ℕ) → Type 0) (also : Q a f) where
    here : Came Q (held_of a area) f
    here = record { view = a; packed = refl; holds = h; also = also }

    by_append : (p : List ℕ) (r : Outcome Left) → AppendKeeps f p r → AppendAlso Q f p r
        → Came Q (after_append (held_of a area) r) (heard f p (append_answer (log_of a) r))
    by_append p (refused n) k q = simp (ne_eqb n 0 (λ z. omega (arith, k.0))) here
    by_append p (done w) k q = record { view = w.view; packed = refl; holds = k; also = q }

    by-prune : (r : Outcome Pruned) → PruneKeeps f r → PruneAlso Q f r → Came Q (after_prune (held_of a area) r) f
    by-prune (refused n) k q = here
    by-prune (done p) k q = record { view = p.log; packed = refl; holds = k; also = q }

    -- an append
    pub came-append : (p : List ℕ) → AppendAlso Q f p (append_of a area p)
        → Came Q (step (held_of a area) (append p)) (heard_call f (held_of a area) (append p))
    came-append p q =
        subst (λ (r : Outcome Left). Came Q (after_append (held_of a area) r) (heard f p (append_answer (log_of a) r))) (sym (append-log p))
        (by_append p (append_of a area p) (append-keeps a area f p h) q)

    came-oldest : (n : ℕ) → PruneAlso Q f (prune_oldest_of a true area n) → Came Q (step (held_of a area) (oldest n)) f
    came-oldest n q =
        subst (λ (r : Outcome Pruned). Came Q (after_prune (held_of a area) r) f) (sym (oldest-log n))
        (by-prune (prune_oldest_of a true area n) (oldest-keeps a area f n h) q)

    came-recent : (n : ℕ) → PruneAlso Q f (prune_recent_of a true area n) → Came Q (step (held_of a area) (recent n)) f
    came-recent n q =
        subst (λ (r : Outcome Pruned). Came Q (after_prune (held_of a area) r) f) (sym (recent-log n))
        (by-prune (prune_recent_of a true area n) (recent-keeps a area f n h) q)

-- any view
abbrev pub Any : View → (ℕ → List ℕ) → Type 0
Any a f = Unit {0}

any_append : (f : ℕ → List ℕ) (p : List ℕ) (r : Outcome Left) → AppendAlso Any f p r
any_append f p (refused n) = tt
any_append f p (done w) = tt

any-prune : (f : ℕ → List ℕ) (r : Outcome Pruned) → PruneAlso Any f r
any-prune f (refused n) = tt
any-prune f (done p) = tt

step-view : (a : View) (area : List ℕ) (f : ℕ → List ℕ) → Holds a area f → (call : Call)
    → Came Any (step (held_of a area) call) (heard_call f (held_of a area) call)
step-view a area f h (append p) = came-append a area f h Any tt p (any_append f p (append_of a area p))
step-view a area f h (oldest n) = came-oldest a area f h Any tt n (any-prune f (prune_oldest_of a true area n))
step-view a area f h (recent n) = came-recent a area f h Any tt n (any-prune f (prune_recent_of a true area n))

-- a property of what is held follows from that of the view's log
pub on-view : {Q : View → (ℕ → List ℕ) → Type 0} (R : Held → Type 0) (t : Held) (f : ℕ → List ℕ) (c : Came Q t f)
    → R (held_of c.view t.area) → R t
on-view R t f c r = subst (λ (l : Log). R (record { log = l; area = t.area })) (sym c.packed) r

-- every call keeps the invariant
pub step_keeps : (t : Held) (f : ℕ → List ℕ) → Came Any t f → (call : Call) → Came Any (step t call) (heard_call f t call)
step_keeps t f c call =
    on-view (λ (x : Held). Came Any (step x call) (heard_call f x call)) t f c (step-view c.view t.area f c.holds call)

-- so does a run
pub run-keeps : (calls : List Call) (t : Held) (f : ℕ → List ℕ) → Came Any t f → Came Any (run t calls) (told f t calls)
unfolding run told
run-keeps [] t f c = c
run-keeps (call ∷ calls) t f c = run-keeps calls (step t call) (heard_call f t call) (step_keeps t f c call)

-- a run of two calls is the one, and then the other
pub run-two : (t : Held) (one other : Call) (calls : List Call) → calls ≡ one ∷ other ∷ [] → run t calls ≡ step (step t one) other
unfolding run
run-two t one other calls two = ap (run t) two

-- ---- a new log

-- a new log that is accepted is the empty one, over K x C bytes
pub record Begun (k c m : ℕ) (area : List ℕ) : Type 0 where
  pub sizes : sizes_of k c m ≡ true
  pub all : length area ≡ k * c
  pub log : (new_of k c m (length area)).log ≡ log_of (empty_of k c m)

-- what an accepted new log says
pub begun-accepted : (k c m : ℕ) (area : List ℕ) → (new_of k c m (length area)).refusal ≡ 0 → Begun k c m area
unfolding new_of roomy_of
begun-accepted k c m area h = go (sizes_of k c m && eqb (length area) (k * c)) refl h
  where
    go : (b : Bool) → sizes_of k c m && eqb (length area) (k * c) ≡ b
        → (pick (not b) (refused_log 1 zero_log) (accepted (log_of (empty_of k c m)))).refusal ≡ 0 → Begun k c m area
    go true e q =
        let both = and_both (sizes_of k c m) (eqb (length area) (k * c)) e in
        record { sizes = both.0; all = eqb-true (length area) (k * c) both.1; log = simp e }
    go false e q = absurd (omega arith)

-- it holds the invariant
pub begun-keeps : (k c m : ℕ) (area : List ℕ) → (new_of k c m (length area)).refusal ≡ 0 → Came Any (begun k c m area) nothing
begun-keeps k c m area h =
    let b = begun-accepted k c m area h in
    record { view = empty_of k c m; packed = b.log; holds = empty_holds k c m area nothing b.sizes b.all; also = tt }

-- after any run
pub runs-keep : (k c m : ℕ) (area : List ℕ) (calls : List Call) → (new_of k c m (length area)).refusal ≡ 0
    → Came Any (run (begun k c m area) calls) (last_under (begun k c m area) calls)
runs-keep k c m area calls h = run-keeps calls (begun k c m area) nothing (begun-keeps k c m area h)
