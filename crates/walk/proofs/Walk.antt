-- The laws of the walk of one image: at its end, one record more, a fault, and induction along the walk. Nobody above sees the fuel.
-- Assumes nothing.
use mathlib.Core.Path.{◌≡◌, refl, sym, ap}
use mathlib.Core.Bool.{Bool, true, false}
use Prim.Native.Nat.{ℕ, ◌-◌, ◌<◌}
use native.Mathlib.Omega.{arith}
use Rattle.std.specs.Prelude.{Result, Ok, Err}
use Rattle.lists.specs.Choice.{pick}
use Rattle.lists.specs.Until.{Turn, again, stop}
use Rattle.lists.proofs.Bools.{zero-is-not-one}
use Rattle.lists.proofs.Until.{until-again, until_stop, until-keeps}
use Rattle.record.specs.declared.RecordHeader.{RecordHeader}
use Rattle.refusal.specs.declared.Refusal.{Refusal}
use Rattle.refusal.specs.Refusals.{number}
use Rattle.walk.specs.declared.Scan.{Scan}
use Rattle.walk.specs.declared.Fault.{Fault}
use Rattle.walk.specs.Judging.{judge_of, goes_on, more_of}
use Rattle.walk.specs.Walk.{faulted, route, walk_turn, walk_by}
use Rattle.walk.proofs.Judging.{StepFault, ReadFaults, step-moves, step-number, more-going, more-inside}

-- a fault is known by its refusal and its state
pub fault-is : {f g : Fault} → ◌≡◌ {A = Result Scan Fault} (Err f) (Err g) → f ≡ g
fault-is q = cc

module _ (size : ℕ) (read : ℕ → Result RecordHeader Refusal) (s e : ℕ) where
  -- the step at a state's place
  abbrev pub step_at : Scan → Result Scan Refusal
  step_at w = judge_of size s e w (read w.pos)

  -- a turn's ways, for whatever they show
  ways : {P : Type 0} (w : Scan) (t : Turn Scan (Result Scan Fault)) → walk_turn size read s e w ≡ t
      → (more_of w size ≡ false → t ≡ stop (Ok w) → P)
      → ((n : Refusal) → more_of w size ≡ true → step_at w ≡ Err n → t ≡ stop (faulted n w) → P)
      → ((d : Scan) → more_of w size ≡ true → step_at w ≡ Ok d → t ≡ again d → P) → P
  unfolding walk_turn
  ways {P} w t q end fault next = go (more_of w size) (step_at w) refl refl q
    where
      go : (b : Bool) (o : Result Scan Refusal) → more_of w size ≡ b → step_at w ≡ o → pick b (route w o) (stop (Ok w)) ≡ t → P
      go false o l m q = end l (sym q)
      go true (Err n) l m q = fault n l m (sym q)
      go true (Ok d) l m q = next d l m (sym q)

  falls : (w d : Scan) → walk_turn size read s e w ≡ again d → size - d.pos < size - w.pos
  falls w d t =
      ways w (again d) t (λ l q. zero-is-not-one (cc)) (λ n l m q. zero-is-not-one (cc))
      (λ x l m q. let same : x ≡ d = cc in
      omega (arith, step-moves size s e w (read w.pos) d (rw same at m), more-inside w size l))

  -- at the image's end the state is the answer
  pub walk_end : (w : Scan) → more_of w size ≡ false → walk_by size read s e w ≡ Ok w
  unfolding walk_by walk_turn
  walk_end w h = until_stop (walk_turn size read s e) Ok (λ d. size - d.pos) falls w (Ok w) (simp h)

  -- one record more: the walk from the next state on
  pub walk_more : (w d : Scan) → more_of w size ≡ true → step_at w ≡ Ok d → walk_by size read s e w ≡ walk_by size read s e d
  unfolding walk_by walk_turn
  walk_more w d h m = until-again (walk_turn size read s e) Ok (λ d. size - d.pos) falls w d (simp (h, m))

  -- a fault is the answer, with the state at which it stands
  pub walk-fault : (w : Scan) (n : Refusal) → more_of w size ≡ true → step_at w ≡ Err n → walk_by size read s e w ≡ faulted n w
  unfolding walk_by walk_turn
  walk-fault w n h m = until_stop (walk_turn size read s e) Ok (λ d. size - d.pos) falls w (faulted n w) (simp (h, m))

  -- induction along the walk
  pub walk-ind : (P : Scan → Result Scan Fault → Type 0)
      → ((w d : Scan) (a : Result Scan Fault) → more_of w size ≡ true → step_at w ≡ Ok d → P d a → P w a)
      → ((w : Scan) (n : Refusal) → more_of w size ≡ true → step_at w ≡ Err n → P w (faulted n w))
      → ((w : Scan) → more_of w size ≡ false → P w (Ok w)) → (w : Scan) → P w (walk_by size read s e w)
  unfolding walk_by
  walk-ind P next fault end = until-keeps (walk_turn size read s e) Ok (λ d. size - d.pos) falls P more last
    where
      more : (w d : Scan) (a : Result Scan Fault) → walk_turn size read s e w ≡ again d → P d a → P w a
      more w d a t p =
          ways w (again d) t (λ l q. zero-is-not-one (cc)) (λ n l m q. zero-is-not-one (cc))
          (λ x l m q. let same : x ≡ d = cc in next w d a l (rw same at m) p)

      last : (w : Scan) (a : Result Scan Fault) → walk_turn size read s e w ≡ stop a → P w a
      last w a t =
          ways w (stop a) t (λ l q. let same : Ok w ≡ a = cc in rw same at (end w l))
          (λ n l m q. let same : faulted n w ≡ a = cc in rw same at (fault w n l m))
          (λ x l m q. zero-is-not-one (cc))

  -- the same of a walk that ends with the image
  pub walk-keeps : (Q : Scan → Scan → Type 0)
      → ((w d z : Scan) → more_of w size ≡ true → step_at w ≡ Ok d → Q d z → Q w z)
      → ((w : Scan) → more_of w size ≡ false → Q w w) → (w z : Scan) → walk_by size read s e w ≡ Ok z → Q w z
  walk-keeps Q next end w z q =
      walk-ind (λ w a. (z : Scan) → a ≡ Ok z → Q w z) (λ w d a h m on z t. next w d z h m (on z t))
      (λ w n h m z t. zero-is-not-one (cc)) (λ w h z t. let same : w ≡ z = cc in rw (← same) (end w h)) w z q

  -- a fault of the walk is 17, 18, 19 or 20
  pub walk-number : ReadFaults read → (w z : Scan) (m : Refusal) → walk_by size read s e w ≡ faulted m z → StepFault (number m)
  walk-number reads w z m =
      walk-ind (λ _ a. a ≡ faulted m z → StepFault (number m)) (λ w d a h t p. p)
      (λ w n h t q.
      let same : n ≡ m = ap (λ (f : Fault). f.refusal) (fault-is q) in
      step-number size s e w (read w.pos) (reads w.pos) m (rw same at t))
      (λ w h q. zero-is-not-one (cc)) w

  -- where a fault stands the walk went on: e's record is not read before it
  pub walk-fault-going : (w z : Scan) (m : Refusal) → walk_by size read s e w ≡ faulted m z → goes_on z ≡ true
  walk-fault-going w z m =
      walk-ind (λ _ a. a ≡ faulted m z → goes_on z ≡ true) (λ w d a h t p. p)
      (λ w n h t q. let same : w ≡ z = ap (λ (f : Fault). f.scan) (fault-is q) in rw (← same) (more-going w size h))
      (λ w h q. zero-is-not-one (cc)) w
