-- The two prunes of demand 3 where e lies before s: the first is carried out and the second refused, so the order tells there.
-- The proof of specs/Corollaries.antt's statement. Assumes nothing.
use mathlib.Core.Bool.{true}
use mathlib.Core.List.{List}
use mathlib.Core.Path.{◌≡◌, ◌∙◌, refl, subst, sym, ap}
use Prim.Native.Nat.{ℕ, ◌<◌, ◌≤◌}
use native.Mathlib.Omega.{arith}
use Rattle.seglog.specs.View.{View}
use Rattle.seglog.specs.declared.Log.{Log}
use Rattle.lists.specs.Outcome.{Outcome, refused}
use Rattle.seglog_prune.specs.Drop.{drop_old}
use Rattle.seglog_prune.specs.Prune.{
  Pruned,
  pruned,
  prune_oldest_of,
  prune_recent_of,
  oldest_log,
  recent_log,
  prune_answer,
  started_at,
}
use Rattle.seglog_prune.proofs.Decide.{Inner, prune-passes, prune-refuses-9}
use Rattle.history.specs.Corollaries.{EndsCrossed, SecondRefused}
use Rattle.history.specs.Demand.{prunes_to}
use Rattle.history.specs.History.{recent, oldest, step, refusal_of, after_prune, Held, last_under, begun}
use Rattle.history.proofs.Invariant.{Holds, some-live}
use Rattle.history.proofs.Prunes.{oldest-holds}
use Rattle.history.proofs.Runs.{Any, held_of, recent-log, oldest-log, Came, runs-keep, run-two, on-view}

module _ (a : View) (area : List ℕ) (f : ℕ → List ℕ) (h : Holds a area f) (s e : ℕ) (from : a.start ≤ e) (crossed : e < s)
    (to : s ≤ a.end)
    (above : 0 < e) where
  inner : Inner a true s
  inner =
      record {
        good = refl;
        some = some-live a.segs a.start a.end h.j (omega arith) h.live;
        above = omega arith;
        upper = to;
        lower = omega arith;
      }

  -- the log from s on
  abbrev older : View
  older = started_at a s (drop_old s a.segs)

  older-holds : Holds older area f
  older-holds = oldest-holds a area f s h inner

  first-prune : oldest_log (held_of a area).log area s ≡ pruned older area
  unfolding prune_oldest_of
  first-prune = oldest-log a area f h s ∙ prune-passes a true area s _ inner

  second-prune : recent_log (held_of older area).log area e ≡ refused 9
  unfolding prune_recent_of
  second-prune =
      let some = some-live older.segs s a.end older-holds.j (omega arith) older-holds.live in
      recent-log older area f older-holds e
      ∙ prune-refuses-9 older true area e _ refl above some (omega arith) crossed

  -- what is held after the first
  after_first : step (held_of a area) (oldest s) ≡ held_of older area
  after_first = ap (after_prune (held_of a area)) first-prune

  second-refused : SecondRefused (held_of a area) s e
  second-refused =
      record {
        first-accepts = ap (λ (r : Outcome Pruned). (prune_answer (held_of a area).log r).refusal) first-prune;
        second-refuses = ap (λ (x : Held). refusal_of x (recent e)) after_first
            ∙ ap (λ (r : Outcome Pruned). (prune_answer (held_of older area).log r).refusal) second-prune;
        as-the-first-left-it = run-two (held_of a area) (oldest s) (recent e) (prunes_to s e) refl
            ∙ ap (λ (x : Held). step x (recent e)) after_first ∙ ap (after_prune (held_of older area)) second-prune ∙ sym after_first;
      }

-- where e lies before s, the second prune is refused
pub ends-crossed : EndsCrossed
ends-crossed k c m area calls new t is s e from crossed to above =
    let f : ℕ → List ℕ = last_under (begun k c m area) calls in
    let came : Came Any t f = subst (λ (x : Held). Came Any x f) (sym is) (runs-keep k c m area calls new) in
    on-view (λ (x : Held). SecondRefused x s e) t f came
    (second-refused came.view t.area f came.holds s e (subst (λ (x : Log). x.start ≤ e) came.packed from) crossed
    (subst (λ (x : Log). s ≤ x.end) came.packed to) above)
