-- An image that arrives in pieces: walking as far as headers lie in its front, and going on over the whole, is the walk of the whole.
-- Assumes nothing.
use mathlib.Core.Path.{◌≡◌, refl, sym, ap, ◌∙◌}
use mathlib.Core.List.{List, ◌++◌}
use mathlib.Core.Bool.{Bool, true, false, ◌&&◌}
use Prim.Native.Nat.{ℕ, ◌+◌, ◌-◌, ◌≤◌, ◌<◌}
use native.Mathlib.Omega.{arith}
use lib.ListN.{length, take, drop, length-append, length-drop}
use lib.Seq.{take-append-le, drop-append-le}
use lib.Dec.{leb}
use borrow.Author.Tests.{leb-true}
use Rattle.std.specs.Prelude.{Result, Ok, Err}
use Rattle.lists.specs.Choice.{pick}
use Rattle.lists.specs.Until.{again, stop}
use Rattle.lists.proofs.Bools.{zero-is-not-one, and_both}
use Rattle.lists.proofs.Until.{until-keeps}
use Rattle.record.specs.Record.{header_at}
use Rattle.refusal.specs.declared.Refusal.{Refusal}
use Rattle.walk.specs.declared.Scan.{Scan}
use Rattle.walk.specs.Judging.{judge_of, more_of}
use Rattle.walk.specs.Walk.{walk_of, front_route, front_turn, walk_front}
use Rattle.walk.proofs.Judging.{more-inside, step-moves}
use Rattle.walk.proofs.Walk.{walk_more}
use Rattle.walk.proofs.Headers.{header-agrees}

-- a header that lies in the front is the whole's
pub header-front : (xs ys : List ℕ) (pos : ℕ) → pos + 12 ≤ length xs → header_at xs pos ≡ header_at (xs ++ ys) pos
header-front xs ys pos h =
    header-agrees xs (xs ++ ys) pos
    (sym (ap (take 12) (drop-append-le pos xs ys (omega arith)) ∙ take-append-le 12 (drop pos xs) ys (rw length-drop (omega arith))))
    (omega arith) (omega (arith, length-append xs ys))

module _ (xs ys : List ℕ) (s e : ℕ) where
  abbrev whole : List ℕ
  whole = xs ++ ys

  abbrev size : ℕ
  size = length whole

  -- a turn goes on by a step of the whole
  goes : (w d : Scan) → front_turn xs size s e w ≡ again d
      → (more_of w size ≡ true) × (judge_of size s e w (header_at whole w.pos) ≡ Ok d)
  unfolding front_turn
  goes w d t = go (more_of w size && leb (w.pos + 12) (length xs)) (judge_of size s e w (header_at xs w.pos)) refl refl t
    where
      go : (b : Bool) (o : Result Scan Refusal) → more_of w size && leb (w.pos + 12) (length xs) ≡ b → judge_of size s e w (header_at xs w.pos) ≡ o
          → pick b (front_route w o) (stop w) ≡ again d
          → (more_of w size ≡ true) × (judge_of size s e w (header_at whole w.pos) ≡ Ok d)
      go false o h m t = zero-is-not-one (cc)
      go true (Err n) h m t = zero-is-not-one (cc)
      go true (Ok x) h m t =
          let both = and_both (more_of w size) (leb (w.pos + 12) (length xs)) h in
          let same : x ≡ d = cc in
          let read = header-front xs ys w.pos (leb-true (w.pos + 12) (length xs) both.1) in
          (both.0, ap (judge_of size s e w) (sym read) ∙ rw same at m)

  -- a turn that stops, stops at its state
  stops : (w a : Scan) → front_turn xs size s e w ≡ stop a → w ≡ a
  unfolding front_turn
  stops w a t = go (more_of w size && leb (w.pos + 12) (length xs)) (judge_of size s e w (header_at xs w.pos)) t
    where
      go : (b : Bool) (o : Result Scan Refusal) → pick b (front_route w o) (stop w) ≡ stop a → w ≡ a
      go false o t = cc
      go true (Err n) t = cc
      go true (Ok x) t = zero-is-not-one (cc)

  falls : (w d : Scan) → front_turn xs size s e w ≡ again d → size - d.pos < size - w.pos
  falls w d t =
      let g = goes w d t in
      omega (arith, more-inside w size g.0, step-moves size s e w (header_at whole w.pos) d g.1)

  -- OVER A LIST CUT ANYWHERE
  pub walk-++ : (w : Scan) → walk_of whole s e w ≡ walk_of whole s e (walk_front xs size s e w)
  unfolding walk_front
  walk-++ =
      until-keeps (front_turn xs size s e) (λ d. d) (λ d. size - d.pos) falls (λ w a. walk_of whole s e w ≡ walk_of whole s e a)
      (λ w d a t p. let g = goes w d t in walk_more size (header_at whole) s e w d g.0 g.1 ∙ p)
      (λ w a t. ap (walk_of whole s e) (stops w a t))
