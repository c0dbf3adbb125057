-- Demand 3, of the log as the code holds it and of the answers of its functions: the proof of specs/Demand.antt's statement.
-- Assumes nothing.
use mathlib.Core.List.{List, ◌++◌}
use mathlib.Core.Path.{◌≡◌, ◌∙◌, ap, subst, sym, refl}
use Prim.Native.Nat.{ℕ, ◌*◌, ◌≤◌, ◌/◌, ◌<◌}
use native.Mathlib.Omega.{arith}
use lib.ListN.{length, drop, length-append, length-drop}
use lib.Seq.{drop_at}
use Rattle.seglog.specs.View.{View, log_of}
use Rattle.seglog.specs.declared.Log.{Log}
use Rattle.segment.specs.declared.Segment.{Segment}
use Rattle.lists.specs.Outcome.{Outcome}
use Rattle.seglog_prune.specs.Prune.{oldest_log, pruned, recent_log, Pruned, prune_answer}
use Rattle.segment.specs.declared.ImageRow.{ImageRow}
use Rattle.recovery.specs.Recovery.{Recovery, recovered}
use Rattle.history.specs.Demand.{ids_in, Delivers, recovering, prunes_to, AnyOrder, rows_for, listed, Demand3, earlier}
use Rattle.history.specs.History.{run, oldest, recent, step, after_prune, Held, refusal_of, appends, told, last_under, begun}
use Rattle.history.proofs.IndexRows.{rows_are}
use Rattle.history.proofs.Invariant.{Holds}
use Rattle.history.proofs.Later.{After, appends-after, after-refl}
use Rattle.history.proofs.Runs.{held_of, oldest-log, recent-log, Came, Any, listed-log, on-view, run-two, runs-keep}
use Rattle.history.proofs.Brings.{Brings}
use Rattle.history.proofs.Views.{brings}

-- what holds of views holds of their logs
delivers-views : (a : View) (area : List ℕ) (z : View) (area' : List ℕ) (f : ℕ → List ℕ) (rows : List ImageRow) (s e : ℕ) (index : List ℕ)
    → 4 * ids_in s e ≤ length index → Holds a area f → Brings a area z area' f rows s e (length index)
    → Delivers (held_of a area) (held_of z area') f s e index (recovering (held_of z area') rows s e index)
delivers-views a area z area' f rows s e index room h d =
    let r : Recovery = recovered d.log area' d.words in
    let index' : List ℕ = d.words ++ drop (length d.words) index in
    let count = d.count in
    let old : oldest_log (log_of a) area s ≡ pruned d.older area = oldest-log a area f h s ∙ d.first in
    let new : recent_log (log_of d.older) area e ≡ pruned d.log area =
    recent-log d.older area f d.older-holds e ∙ d.then in
    let between : step (held_of a area) (oldest s) ≡ held_of d.older area = ap (after_prune (held_of a area)) old in
    let after : run (held_of a area) (prunes_to s e) ≡ held_of d.log area =
    run-two (held_of a area) (oldest s) (recent e) (prunes_to s e) refl ∙ ap (λ (x : Held). step x (recent e)) between ∙ ap (after_prune (held_of d.older area)) new in
    let row = rows_are (log_of d.log) area' f (ids_in s e) s d.words (drop (length d.words) index) d.count d.payloads in
    let long : length index' ≡ length index =
    length-append d.words (drop (length d.words) index) ∙ omega (arith, length-drop (length d.words) index) in
    subst (λ (o : Recovery). Delivers (held_of a area) (held_of z area') f s e index o) (sym d.accepts)
    (record {
      accepts = refl;
      oldest-accepts = ap (λ (o : Outcome Pruned). (prune_answer (log_of a) o).refusal) old;
      recent-accepts =
          ap (λ (x : Held). refusal_of x (recent e)) between ∙ ap (λ (o : Outcome Pruned). (prune_answer (log_of d.older) o).refusal) new;
      log-same = sym (ap (λ (x : Held). x.log) after);
      live-start = d.start_is;
      live_end = d.end_is;
      row_count = ap (λ (n : ℕ). n / 4) count ∙ omega arith;
      row-id = λ i l. (row i l).id-is;
      row-good = λ i l. (row i l).good;
      row-payload = λ i l. (row i l).payload;
      index-length = long;
      later-words =
          ap (λ (n : ℕ). drop n index') (sym count) ∙ drop_at d.words (drop (length d.words) index) (length d.words) refl
          ∙ ap (λ (n : ℕ). drop n index) count;
      area_same = refl;
    })

-- what recovery brings, of what is held
module _ (t : Held) (f : ℕ → List ℕ) (c : Came Any t f) (further : List (List ℕ)) where
  -- what is held later
  abbrev u : Held
  u = run t (appends further)

  -- its view, and that appends alone led there
  pub later-came : Came (After c.view f) u (told f t (appends further))
  later-came =
      appends-after c.view f further t f
      (record { view = c.view; packed = c.packed; holds = c.holds; also = after-refl c.view f })

  -- what recovery brings, by views
  pub brings-held : (s e : ℕ) (rows : List ImageRow) (room : ℕ) → 0 < s → s ≤ e → t.log.start ≤ s → e ≤ t.log.end
      → AnyOrder rows (rows_for (listed u.log)) → 4 * ids_in s e ≤ room
      → Brings c.view t.area later-came.view u.area f rows s e room
  brings-held s e rows room above order from to any enough =
      let l = later-came in
      let own : listed u.log ≡ l.view.segs = ap (λ (x : Log). listed x) l.packed ∙ listed-log l.view in
      brings c.view t.area l.view u.area f (told f t (appends further)) c.holds l.holds l.also s e above order
      (subst (λ (x : Log). x.start ≤ s) c.packed from) (subst (λ (x : Log). e ≤ x.end) c.packed to) rows room
      (subst (λ (gs : List Segment). AnyOrder rows (rows_for gs)) own any) enough

  -- recovery's outcome
  pub accepts-held : (s e : ℕ) (rows : List ImageRow) (index : List ℕ)
      (d : Brings c.view t.area later-came.view u.area f rows s e (length index))
      → recovering u rows s e index ≡ recovered d.log u.area d.words
  accepts-held s e rows index d =
      on-view (λ (y : Held). recovering y rows s e index ≡ recovered d.log y.area d.words) u
      (told f t (appends further)) later-came
      d.accepts

  -- what recovery delivers
  pub delivers-held : (s e : ℕ) (rows : List ImageRow) (index : List ℕ) → 0 < s → s ≤ e → t.log.start ≤ s → e ≤ t.log.end
      → AnyOrder rows (rows_for (listed u.log)) → 4 * ids_in s e ≤ length index
      → Delivers t u f s e index (recovering u rows s e index)
  delivers-held s e rows index above order from to any enough =
      let l = later-came in
      on-view (λ (x : Held). Delivers x u f s e index (recovering u rows s e index)) t f c
      (on-view (λ (y : Held). Delivers (held_of c.view t.area) y f s e index (recovering y rows s e index)) u
      (told f t (appends further)) l
      (delivers-views c.view t.area l.view u.area f rows s e index enough c.holds
      (brings-held s e rows (length index) above order from to any enough)))

-- demand 3
pub demand3 : Demand3
demand3 k c m area calls further s e rows index asked =
    delivers-held (earlier k c m area calls) (last_under (begun k c m area) calls)
    (runs-keep k c m area calls asked.new) further s e rows index
    asked.above asked.order asked.from asked.to asked.own-rows asked.room
