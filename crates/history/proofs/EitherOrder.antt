-- The two prunes of demand 3 may be made in either order: the proof of specs/Corollaries.antt's statement. The log cut at e is, to
-- recovery, an earlier moment of the log itself, so recovering s..e from the log's images gives the log of both orders.
-- Assumes nothing.
use mathlib.Core.Bool.{true}
use mathlib.Core.List.{List, ◌∷◌, []}
use mathlib.Core.Path.{◌≡◌, ◌∙◌, refl, subst, sym, ap}
use Prim.Native.Nat.{ℕ, ◌<◌, ◌≤◌, ◌*◌}
use native.Mathlib.Omega.{arith}
use Rattle.lists.proofs.AnyOrder.{any-refl}
use Rattle.seglog.specs.View.{View}
use Rattle.seglog.specs.declared.Log.{Log}
use Rattle.segment.specs.declared.Segment.{Segment}
use Rattle.seglog_prune.specs.Prune.{prune_recent_of, pruned}
use Rattle.segment.specs.declared.ImageRow.{ImageRow}
use Rattle.history.specs.Corollaries.{PrunesInEitherOrder}
use Rattle.history.specs.Demand.{AnyOrder, rows_for, ids_in, prunes_to}
use Rattle.history.specs.History.{run, recent, oldest, step, after_prune, Held, last_under, begun}
use Rattle.history.proofs.Invariant.{Holds, some-live}
use Rattle.history.proofs.Later.{After, Grows, ended-grows}
use Rattle.seglog_prune.proofs.Decide.{Inner, prune-passes, pruned-same}
use Rattle.history.proofs.Prunes.{New, at_new, ended_view, ended-holds, recent-is}
use Rattle.history.proofs.Runs.{Any, held_of, recent-log, oldest-log, Came, runs-keep, run-two, on-view}
use Rattle.history.proofs.Slots.{Stored}
use Rattle.history.proofs.Brings.{Brings, recovered-log}
use Rattle.history.proofs.Views.{brings}
use Rattle.history.proofs.Whole.{brings-self, recent-whole}

module _ (a : View) (area : List ℕ) (f : ℕ → List ℕ) (h : Holds a area f) (s e : ℕ) (above : 0 < s) (order : s ≤ e) (from : a.start ≤ s)
    (to : e ≤ a.end) where
  inner : Inner a true e
  inner =
      record {
        good = refl;
        some = some-live a.segs a.start a.end h.j (omega arith) h.live;
        above = omega arith;
        upper = to;
        lower = omega arith;
      }

  found : New (Stored area f a.k a.c) h.i h.b e a.segs
  found = at_new a area f e h inner

  -- the log cut at e
  abbrev cut : View
  cut = ended_view a f e found.hs found.g

  cut_holds : Holds cut area f
  unfolding found
  cut_holds = ended-holds a area f e h inner

  prunes-cut : prune_recent_of a true area e ≡ pruned cut area
  unfolding prune_recent_of found
  prunes-cut = prune-passes a true area e _ inner ∙ recent-is a area f e h inner

  -- to recovery, a is what became of it
  cut-after : After cut f a f
  cut-after =
      record {
        k = refl;
        c = refl;
        m = refl;
        start = λ some. refl;
        end = to;
        same = λ i l. refl;
        grows = subst (λ (ys : List Segment). Grows cut.segs ys) (sym found.is)
            (ended-grows f found.hs found.rest found.g e found.high);
      }

  module _ (rows : List ImageRow) (own : AnyOrder rows (rows_for a.segs)) where
    abbrev room : ℕ
    room = 4 * ids_in s e

    from_cut : Brings cut area a area f rows s e room
    from_cut = brings cut area a area f f cut_holds h cut-after s e above order from (omega arith) rows room own (omega arith)

    from-self : Brings a area a area f rows s e room
    from-self = brings-self a area f h s e above order from to rows room own (omega arith)

    -- recovery gives one log
    one-log : from_cut.log ≡ from-self.log
    one-log =
        recovered-log (sym from_cut.accepts ∙ from-self.accepts)

    -- prune recent to the live end leaves the log cut at e
    no-second-cut : from_cut.older ≡ from_cut.log
    no-second-cut =
        let end : from_cut.older.end ≡ e = from_cut.older-end in
        pruned-same _ _ area area
        (sym (recent-whole from_cut.older area f from_cut.older-holds (omega arith))
        ∙ ap (prune_recent_of from_cut.older true area) end ∙ from_cut.then)

    both-orders : run (held_of a area) (recent e ∷ oldest s ∷ []) ≡ run (held_of a area) (prunes_to s e)
    both-orders =
        let l : View = from-self.log in
        let first-cut : step (held_of a area) (recent e) ≡ held_of cut area =
        ap (after_prune (held_of a area)) (recent-log a area f h e ∙ prunes-cut) in
        let then-old : step (held_of cut area) (oldest s) ≡ held_of from_cut.older area =
        ap (after_prune (held_of cut area)) (oldest-log cut area f cut_holds s ∙ from_cut.first) in
        let first-old : step (held_of a area) (oldest s) ≡ held_of from-self.older area =
        ap (after_prune (held_of a area)) (oldest-log a area f h s ∙ from-self.first) in
        let then-cut : step (held_of from-self.older area) (recent e) ≡ held_of l area =
        ap (after_prune (held_of from-self.older area))
        (recent-log from-self.older area f from-self.older-holds e ∙ from-self.then) in
        run-two (held_of a area) (recent e) (oldest s) (recent e ∷ oldest s ∷ []) refl
        ∙ ap (λ (x : Held). step x (oldest s)) first-cut ∙ then-old ∙ ap (λ (x : View). held_of x area) (no-second-cut ∙ one-log)
        ∙ sym (run-two (held_of a area) (oldest s) (recent e) (prunes_to s e) refl
        ∙ ap (λ (x : Held). step x (recent e)) first-old ∙ then-cut)

-- the two prunes may be made in either order
pub prunes-in-either-order : PrunesInEitherOrder
prunes-in-either-order k c m area calls new t is s e above order from to =
    let f : ℕ → List ℕ = last_under (begun k c m area) calls in
    let came : Came Any t f = subst (λ (x : Held). Came Any x f) (sym is) (runs-keep k c m area calls new) in
    let a : View = came.view in
    on-view (λ (x : Held). run x (recent e ∷ oldest s ∷ []) ≡ run x (prunes_to s e)) t f came
    (both-orders a t.area f came.holds s e above order (subst (λ (x : Log). x.start ≤ s) came.packed from)
    (subst (λ (x : Log). e ≤ x.end) came.packed to) (rows_for a.segs) (any-refl (rows_for a.segs)))
