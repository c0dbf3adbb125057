-- The index rows of the later images are those of the earlier: what follows e gives none.
-- Assumes nothing.
use mathlib.Core.Bool.{Bool, true, false}
use mathlib.Core.List.{List, [], ◌++◌, ◌∷◌}
use mathlib.Core.Path.{◌≡◌, refl, ap, ◌∙◌, sym}
use Prim.Native.Nat.{ℕ, ◌-◌, ◌<◌, zero, suc, ◌+◌, ◌≤◌}
use native.Mathlib.Omega.{arith}
use lib.Dec.{ltb}
use lib.ListN.{length}
use borrow.Author.Tests.{ltb-true}
use Rattle.lists.specs.Choice.{pick}
use Rattle.record.specs.Record.{record_room}
use Rattle.segment.specs.declared.Segment.{Segment}
use Rattle.segment.specs.Chain.{Chain}
use Rattle.segment.proofs.Chain.{chain-le}
use Rattle.seglog_prune.specs.Drop.{drop_old}
use Rattle.recovery_walk.proofs.Rows.{row-dead}
use Rattle.recovery_walk.specs.Rows.{row_of}
use Rattle.walk.specs.Judging.{live_of}
use Rattle.history.proofs.Deliver.{live-under}
use Rattle.history.proofs.Later.{Grows}
use Rattle.history.proofs.Over.{rows_over, rows_none}
use Rattle.history.proofs.Scans.{rows_chain}

module _ (s e : ℕ) where
  -- n records of the one, m or more of the other, the same below a + m, where e is
  rows-stop : (f f' : ℕ → List ℕ) (slot m n pos a : ℕ) → m ≤ n → e < a + m → ((i : ℕ) → a ≤ i → i < a + m → f' i ≡ f i)
      → rows_over f' s e slot pos a n ≡ rows_over f s e slot pos a m
  unfolding rows_over
  rows-stop f f' slot zero n pos a l u h = rows_none f' s e slot n pos a (omega arith)
  rows-stop f f' slot (suc m) zero pos a l u h = absurd (omega arith)
  rows-stop f f' slot (suc m) (suc n) pos a l u h =
      let q = h a (omega arith) (omega arith) in
      ap (λ (p : List ℕ). row_of (live_of s e a) a slot (pos + 12) (length p) ++ rows_over f' s e slot (pos + record_room (length p))
      (suc a) n) q
      ∙ ap (λ (l : List ℕ). row_of (live_of s e a) a slot (pos + 12) (length (f a)) ++ l)
      (rows-stop f f' slot m n (pos + record_room (length (f a))) (suc a) (omega arith) (omega arith)
      (λ i l u. h i (omega arith) (omega arith)))

  -- the same ids
  rows_agree : (f f' : ℕ → List ℕ) (slot n pos a : ℕ) → ((i : ℕ) → a ≤ i → i < a + n → f' i ≡ f i)
      → rows_over f' s e slot pos a n ≡ rows_over f s e slot pos a n
  unfolding rows_over
  rows_agree f f' slot zero pos a h = refl
  rows_agree f f' slot (suc n) pos a h =
      let q = h a (omega arith) (omega arith) in
      ap (λ (p : List ℕ). row_of (live_of s e a) a slot (pos + 12) (length p) ++ rows_over f' s e slot (pos + record_room (length p))
      (suc a) n) q
      ∙ ap (λ (l : List ℕ). row_of (live_of s e a) a slot (pos + 12) (length (f a)) ++ l)
      (rows_agree f f' slot n (pos + record_room (length (f a))) (suc a) (λ i l u. h i (omega arith) (omega arith)))

  rows_under : (f : ℕ → List ℕ) (slot n pos a : ℕ) → a + n ≤ s → rows_over f s e slot pos a n ≡ []
  unfolding rows_over
  rows_under f slot zero pos a h = refl
  rows_under f slot (suc n) pos a h =
      rw (row-dead (live_of s e a) a slot (pos + 12) (length (f a)) (live-under s e a (omega arith)))
      (rows_under f slot n (pos + record_room (length (f a))) (suc a) (omega arith))

  module _ (area : List ℕ) (f : ℕ → List ℕ) (k n : ℕ) (order : s ≤ e) (P : Segment → Type 0) where
    -- segments below s give no row
    pub old-rows : (gs : List Segment) (i b j c : ℕ) → Chain P i b gs j c
        → rows_chain area f k n s e order (drop_old s gs) ≡ rows_chain area f k n s e order gs
    unfolding drop_old rows_chain
    old-rows [] i b j c h = refl
    old-rows (g ∷ []) i b j c h = refl
    old-rows (g ∷ x ∷ gs) i b j c h = go (ltb g.max s) refl (old-rows (x ∷ gs) (i + 1) (g.max + 1) j c h.1)
      where
        rest : List ℕ
        rest = rows_chain area f k n s e order (x ∷ gs)

        go : (t : Bool) → ltb g.max s ≡ t → rows_chain area f k n s e order (drop_old s (x ∷ gs)) ≡ rest
            → rows_chain area f k n s e order (pick (ltb g.max s) (drop_old s (x ∷ gs)) (g ∷ x ∷ gs))
            ≡ rows_over f s e g.slot 0 g.min (g.max + 1 - g.min) ++ rest
        go true q ih =
            let none = rows_under f g.slot (g.max + 1 - g.min) 0 g.min
            (omega (arith, ltb-true g.max s q, h.0.min, h.0.order)) in
            simp q (ih ∙ ap (λ (l : List ℕ). l ++ rest) (sym none))
        go false q ih = simp q

  module _ (P Q : Segment → Type 0) (area area' : List ℕ) (f f' : ℕ → List ℕ) (k n k' n' : ℕ) (order : s ≤ e) where
    chain-none : (ys : List Segment) (i b j c : ℕ) → e < b → Chain Q i b ys j c → rows_chain area' f' k' n' s e order ys ≡ []
    unfolding rows_chain
    chain-none [] i b j c l h = refl
    chain-none (y ∷ ys) i b j c l h =
        rw (rows_none f' s e y.slot (y.max + 1 - y.min) 0 y.min (omega (arith, h.0.min)))
        (chain-none ys (i + 1) (y.max + 1) j c (omega (arith, h.0.order)) h.1)

    -- the later segments give the rows of the earlier
    pub chain_same : (gs ys : List Segment) (i b j c i' b' j' c' : ℕ) → b ≡ b' → e < c → Chain P i b gs j c → Chain Q i' b' ys j' c'
        → Grows gs ys → ((i : ℕ) → i < c → f' i ≡ f i)
        → rows_chain area' f' k' n' s e order ys ≡ rows_chain area f k n s e order gs
    unfolding rows_chain
    chain_same [] ys i b j c i' b' j' c' q u h h' w a = chain-none ys i' b' j' c' (omega (arith, h.1)) h'
    chain_same (g ∷ []) [] i b j c i' b' j' c' q u h h' w a = absurd w
    chain_same (g ∷ []) (y ∷ ys) i b j c i' b' j' c' q u h h' w a =
        let none = chain-none ys (i' + 1) (y.max + 1) j' c' (omega (arith, w.max, h.1.1)) h'.1 in
        ap (λ (l : List ℕ). rows_over f' s e y.slot 0 y.min (y.max + 1 - y.min) ++ l) none
        ∙ ap (λ (x : ℕ). rows_over f' s e x 0 y.min (y.max + 1 - y.min) ++ []) (sym w.slot)
        ∙ ap (λ (x : ℕ). rows_over f' s e g.slot 0 x (y.max + 1 - x) ++ []) (sym w.min)
        ∙ ap (λ (l : List ℕ). l ++ [])
        (rows-stop f f' g.slot (g.max + 1 - g.min) (y.max + 1 - g.min) 0 g.min (omega (arith, w.max))
        (omega (arith, h.1.1, h.0.order, h.0.min)) (λ i l v. a i (omega (arith, h.1.1, h.0.order, h.0.min))))
    chain_same (g ∷ x ∷ gs) [] i b j c i' b' j' c' q u h h' w a = absurd w
    chain_same (g ∷ x ∷ gs) (y ∷ ys) i b j c i' b' j' c' q u h h' w a =
        let under = chain-le P (x ∷ gs) (i + 1) (g.max + 1) j c h.1 in
        let max : g.max + 1 ≡ y.max + 1 = ap (λ (z : Segment). z.max + 1) w.0 in
        ap (λ (l : List ℕ). rows_over f' s e y.slot 0 y.min (y.max + 1 - y.min) ++ l)
        (chain_same (x ∷ gs) ys (i + 1) (g.max + 1) j c (i' + 1) (y.max + 1) j' c' max u h.1 h'.1 w.1 a)
        ∙ ap (λ (z : Segment). rows_over f' s e z.slot 0 z.min (z.max + 1 - z.min) ++ rows_chain area f k n s e order (x ∷ gs))
        (sym w.0)
        ∙ ap (λ (l : List ℕ). l ++ rows_chain area f k n s e order (x ∷ gs))
        (rows_agree f f' g.slot (g.max + 1 - g.min) 0 g.min (λ i l v. a i (omega (arith, under, h.0.order, h.0.min))))
