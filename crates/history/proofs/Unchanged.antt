-- The later data changes nothing: the proof of specs/Corollaries.antt's statement.
-- Assumes nothing.
use mathlib.Core.Bool.{true}
use mathlib.Core.List.{List, []}
use mathlib.Core.Path.{◌≡◌, sym, ◌∙◌, ap}
use Prim.Native.Nat.{ℕ, ◌<◌, ◌≤◌, ◌*◌}
use lib.ListN.{length}
use Rattle.seglog.specs.View.{View}
use Rattle.seglog_prune.specs.Prune.{prune_recent_of}
use Rattle.seglog_prune.proofs.Decide.{pruned-same}
use Rattle.segment.specs.declared.ImageRow.{ImageRow}
use Rattle.recovery.specs.Recovery.{recovered, recovery_answer, recovery_index}
use Rattle.history.specs.Corollaries.{SameAsEarlier, LaterChangesNothing}
use Rattle.history.specs.Demand.{AnyOrder, rows_for, listed, ids_in, recovering, earlier}
use Rattle.history.specs.History.{run, Held, appends, last_under, begun}
use Rattle.history.proofs.Runs.{Came, Any, runs-keep}
use Rattle.history.proofs.Theorem.{brings-held, later-came, accepts-held, delivers-held}
use Rattle.history.proofs.Brings.{Brings}

-- two recoveries against the same earlier log bring the same log and the same words
pub two-same : (a : View) (area : List ℕ) (z z₀ : View) (area' area₀ : List ℕ) (f : ℕ → List ℕ) (rows rows₀ : List ImageRow)
    (s e room room₀ : ℕ)
    (d : Brings a area z area' f rows s e room) (d₀ : Brings a area z₀ area₀ f rows₀ s e room₀)
    → (d.log ≡ d₀.log) × (d.words ≡ d₀.words)
two-same a area z z₀ area' area₀ f rows rows₀ s e room room₀ d d₀ =
    let old : d.older ≡ d₀.older = pruned-same _ _ area area (sym d.first ∙ d₀.first) in (
      pruned-same _ _ area area (sym d.then ∙ ap (λ (x : View). prune_recent_of x true area e) old ∙ d₀.then),
      d.same ∙ sym d₀.same,
    )

same-held : (t : Held) (f : ℕ → List ℕ) → Came Any t f → (further : List (List ℕ)) (s e : ℕ) (rows rows₀ : List ImageRow) (index : List ℕ)
    → 0 < s → s ≤ e → t.log.start ≤ s → e ≤ t.log.end → AnyOrder rows (rows_for (listed (run t (appends further)).log))
    → AnyOrder rows₀ (rows_for (listed t.log)) → 4 * ids_in s e ≤ length index
    → SameAsEarlier t (run t (appends further)) s e index (recovering t rows₀ s e index)
    (recovering (run t (appends further)) rows s e index)
unfolding run
same-held t f c further s e rows rows₀ index above order from to any any₀ enough =
    let u : Held = run t (appends further) in
    let d = brings-held t f c further s e rows (length index) above order from to any enough in
    let d₀ = brings-held t f c [] s e rows₀ (length index) above order from to any₀ enough in
    let both =
    two-same c.view t.area (later-came t f c further).view (later-came t f c []).view u.area t.area f rows rows₀ s e
    (length index)
    (length index) d d₀ in
    let is = accepts-held t f c further s e rows index d in
    let is₀ = accepts-held t f c [] s e rows₀ index d₀ in
    let del = delivers-held t f c further s e rows index above order from to any enough in
    let del₀ = delivers-held t f c [] s e rows₀ index above order from to any₀ enough in
    let moved : recovered d.log u.area d.words ≡ recovered d₀.log u.area d₀.words =
    λ i. recovered (both.0 i) u.area (both.1 i) in
    record {
      answer-same = ap recovery_answer (is ∙ moved) ∙ sym (ap recovery_answer is₀);
      index_same = ap (recovery_index index) (is ∙ moved) ∙ sym (ap (recovery_index index) is₀);
      question-same = λ i l. del.row-good i l ∙ sym (del₀.row-good i l);
      payload_same = λ i l. del.row-payload i l ∙ sym (del₀.row-payload i l);
    }

-- the later data changes nothing
pub later-changes-nothing : LaterChangesNothing
later-changes-nothing k c m area calls further s e rows index asked rows₀ any₀ =
    same-held (earlier k c m area calls) (last_under (begun k c m area) calls)
    (runs-keep k c m area calls asked.new) further s e rows rows₀
    index asked.above asked.order asked.from asked.to asked.own-rows any₀ asked.room
