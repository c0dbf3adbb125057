-- A refused call leaves what is held and the history: the proof of specs/Corollaries.antt's statement.
-- Assumes nothing.
use mathlib.Core.List.{List, [], ◌∷◌}
use mathlib.Core.Path.{ap, ◌≡◌, refl, ◌∙◌}
use Prim.Native.Nat.{ℕ}
use borrow.Author.Tests.{ne_eqb}
use Rattle.seglog_append.specs.Appending.{Left, append_answer, append_log}
use Rattle.lists.specs.Outcome.{Outcome, refused, done}
use Rattle.seglog_prune.specs.Prune.{Pruned, prune_answer, oldest_log, recent_log}
use Rattle.history.specs.Corollaries.{RefusedCallsDoNotMatter}
use Rattle.history.specs.History.{
  append,
  Held,
  after_append,
  heard,
  run,
  after_prune,
  Call,
  refusal_of,
  step,
  heard_call,
  oldest,
  recent,
  told,
}

-- a refused append leaves all
append-leaves : (t : Held) (f : ℕ → List ℕ) (p : List ℕ) (r : Outcome Left) → ((append_answer t.log r).refusal ≡ 0 → ⊥)
    → (after_append t r ≡ t) × (heard f p (append_answer t.log r) ≡ f)
append-leaves t f p (refused n) h = (refl, simp (ne_eqb n 0 h))
append-leaves t f p (done w) h = absurd (h refl)

prune-leaves : (t : Held) (r : Outcome Pruned) → ((prune_answer t.log r).refusal ≡ 0 → ⊥) → after_prune t r ≡ t
prune-leaves t (refused n) h = refl
prune-leaves t (done p) h = absurd (h refl)

-- a refused call leaves all
pub refused-leaves : (t : Held) (f : ℕ → List ℕ) (call : Call) → (refusal_of t call ≡ 0 → ⊥) → (step t call ≡ t) × (heard_call f t call ≡ f)
refused-leaves t f (append p) h = append-leaves t f p (append_log t.log t.area p) h
refused-leaves t f (oldest n) h = (prune-leaves t (oldest_log t.log t.area n) h, refl)
refused-leaves t f (recent n) h = (prune-leaves t (recent_log t.log t.area n) h, refl)

-- a refused call does not matter
pub refused-calls-do-not-matter : RefusedCallsDoNotMatter
unfolding run told
refused-calls-do-not-matter t f [] call after h =
    let l = refused-leaves t f call h in (
      ap (λ (x : Held). run x after) l.0,
      ap (λ (x : Held). told (heard_call f t call) x after) l.0 ∙ ap (λ (g : ℕ → List ℕ). told g t after) l.1,
    )
refused-calls-do-not-matter t f (b ∷ before) call after h = refused-calls-do-not-matter (step t b) (heard_call f t b) before call after h
