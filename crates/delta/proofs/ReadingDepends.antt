-- Decoding depends on the bytes that it consumed alone: another input that begins with them decodes to the same.
-- Its statement: specs/Promised.antt. Assumes nothing.
use Prim.Native.Nat.{ℕ, zero, suc, ◌+◌, ◌<◌, ◌≤◌}
use mathlib.Core.Bool.{Bool, true, false}
use mathlib.Core.List.{List, [], ◌++◌}
use mathlib.Core.Path.{◌≡◌, refl, ap, sym, ◌∙◌}
use lib.ListN.{length, get_or, take, length-take}
use lib.Seq.{get_or-take, length-take-le, take_at}
use lib.Dec.{ltb}
use native.Mathlib.Omega.{arith}
use borrow.Author.Tests.{le-leb}
use Rattle.lists.specs.Choice.{pick}
use Rattle.lists.specs.Outcome.{Outcome, refused, done}
use Rattle.lists.proofs.Outcome.{refused-is-not-done}
use Rattle.lists.specs.Splice.{part}
use Rattle.lists.proofs.Splice.{part-front}
use Rattle.little_endian.specs.LittleEndian.{le_at, number_at}
use Rattle.little_endian.proofs.LittleEndian.{le-agree}
use Rattle.delta.specs.Reading.{Got, Got.short, Got.got, Reading, Reading.ends, Reading.row, erase_at, reinstate_at, entered}
use Rattle.delta.specs.Reading.{onward, group, reinstates, reading, walk, answered, decoded_of}
use Rattle.delta.specs.Promised.{DecodeDepends}
use Rattle.delta.specs.declared.Row.{Row}
use Rattle.delta.proofs.Entries.{number-inside, erase-is, reinstate-is}
use Rattle.delta.proofs.ReadingParts.{end_of, accepted-good}

-- a group that is read to an accepted end at n begins before n, and where two inputs give the same rows up to n, they give the same reading
group-kept : (at at' : ℕ → Got) (n : ℕ) → ((p : ℕ) (r : Row) (q : ℕ) → at p ≡ got r q → p ≤ q)
    → ((p : ℕ) (r : Row) (q : ℕ) → at p ≡ got r q → q ≤ n → at' p ≡ got r q)
    → (k p : ℕ) (next next' : ℕ → Reading) → ((p : ℕ) → end_of (next p) ≡ done n → (p ≤ n) × (next p ≡ next' p))
    → end_of (group at k p next) ≡ done n → (p ≤ n) × (group at k p next ≡ group at' k p next')
unfolding group
group-kept at at' n up kept zero p next next' f e = f p e
group-kept at at' n up kept (suc k) p next next' f e = go (at p) refl e (λ q. group-kept at at' n up kept k q next next' f)
  where
    go : (g : Got) → at p ≡ g → end_of (entered g (λ q. group at k q next)) ≡ done n
        → ((q : ℕ) → end_of (group at k q next) ≡ done n → (q ≤ n) × (group at k q next ≡ group at' k q next'))
        → (p ≤ n) × (entered g (λ q. group at k q next) ≡ entered (at' p) (λ q. group at' k q next'))
    go short h e ih = refused-is-not-done e
    go (got r q) h e ih =
        let i = ih q e in
        let u = up p r q h in
        let l = i.0 in
        (omega arith, rw (kept p r q h l) (ap (row r) i.1))

-- a group that begins inside is read inside
group-inside : (at : ℕ → Got) (size n : ℕ) → ((p : ℕ) (r : Row) (q : ℕ) → at p ≡ got r q → q ≤ size) → (k p : ℕ) (next : ℕ → Reading)
    → p ≤ size
    → ((p : ℕ) → p ≤ size → end_of (next p) ≡ done n → n ≤ size) → end_of (group at k p next) ≡ done n → n ≤ size
unfolding group
group-inside at size n g zero p next h f e = f p h e
group-inside at size n g (suc k) p next h f e = go (at p) refl e (λ q l. group-inside at size n g k q next l f)
  where
    go : (x : Got) → at p ≡ x → end_of (entered x (λ q. group at k q next)) ≡ done n
        → ((q : ℕ) → q ≤ size → end_of (group at k q next) ≡ done n → n ≤ size) → n ≤ size
    go short y e ih = refused-is-not-done e
    go (got r q) y e ih = ih q (g p r q y) e

-- no more bytes are consumed than there are
consumed-inside : (most : ℕ) (s : List ℕ) (n : ℕ) → end_of (reading most s) ≡ done n → n ≤ length s
unfolding reading reinstates
consumed-inside most s n e = first (number_at 4 s 0) refl e
  where
    last : (p : ℕ) → p ≤ length s → end_of (ends (done p)) ≡ done n → n ≤ length s
    last p h e = let q : p ≡ n = cc in omega arith

    inner : (k p m : ℕ) (b : Bool) → p + 4 ≤ length s → end_of
        (pick b (ends (refused 41)) (group (reinstate_at s) m (p + 4) (λ q. ends (done q)))) ≡ done n → n ≤ length s
    inner k p m true h e = refused-is-not-done e
    inner k p m false h e =
        group-inside (reinstate_at s) (length s) n (λ p r q y. let g = reinstate-is s p r q y in let a = g.0 in let b = g.2 in omega
        arith) m (p + 4) (λ q. ends (done q)) h last e

    second : (k p : ℕ) (w : Outcome ℕ) → w ≡ number_at 4 s p
        → end_of (onward w (λ m. pick (ltb most (k + m)) (ends (refused 41)) (group (reinstate_at s) m (p + 4) (λ q. ends (done q)))))
        ≡ done n → n ≤ length s
    second k p (refused x) q e = refused-is-not-done e
    second k p (done m) q e = inner k p m (ltb most (k + m)) (number-inside s p 4 m q) e

    outer : (k : ℕ) (b : Bool) → 0 + 4 ≤ length s → end_of (pick b (ends (refused 41)) (group (erase_at s) k 4 (λ p. reinstates most s k p)))
        ≡ done n → n ≤ length s
    outer k true h e = refused-is-not-done e
    outer k false h e =
        group-inside (erase_at s) (length s) n (λ p r q y. let g = erase-is s p r q y in let a = g.0 in let b = g.2 in omega arith) k 4
        (λ p. reinstates most s k p) (omega arith) (λ p l z. second k p (number_at 4 s p) refl z) e

    first : (w : Outcome ℕ) → w ≡ number_at 4 s 0
        → end_of (onward w (λ k. pick (ltb most k) (ends (refused 41)) (group (erase_at s) k 4 (λ p. reinstates most s k p)))) ≡ done n
        → n ≤ length s
    first (refused x) q e = refused-is-not-done e
    first (done k) q e = outer k (ltb most k) (number-inside s 0 4 k q) e

-- two inputs that agree on their first n bytes
module _ (s s' : List ℕ) (n : ℕ) (agree : take n s ≡ take n s') (l : n ≤ length s) (l' : n ≤ length s') where
  same-part : (p k : ℕ) → p + k ≤ n → part p k s ≡ part p k s'
  same-part p k h = sym (part-front p k n s h) ∙ ap (part p k) agree ∙ part-front p k n s' h

  same_byte : (j : ℕ) → j < n → get_or s j 0 ≡ get_or s' j 0
  same_byte j h = sym (get_or-take n s j 0 h) ∙ ap (λ (x : List ℕ). get_or x j 0) agree ∙ get_or-take n s' j 0 h

  same_number : (p : ℕ) → p + 4 ≤ n → le_at 4 s p ≡ le_at 4 s' p
  same_number p h = le-agree 4 s s' p (λ j a b. same_byte j (omega arith))

  same_count : (p : ℕ) → p + 4 ≤ n → number_at 4 s p ≡ number_at 4 s' p
  unfolding number_at
  same_count p h = rw (le-leb (p + 4) (length s) (omega arith), le-leb (p + 4) (length s') (omega arith), same_number p h)

  erase-kept : (p : ℕ) (r : Row) (q : ℕ) → erase_at s p ≡ got r q → q ≤ n → erase_at s' p ≡ got r q
  unfolding erase_at
  erase-kept p r q e h =
      let g = erase-is s p r q e in
      let b = g.2 in
      rw (le-leb (p + 32) (length s') (omega arith), ← same-part p 32 (omega arith)) (λ i. got (g.1 i) (b i))

  reinstate-kept : (p : ℕ) (r : Row) (q : ℕ) → reinstate_at s p ≡ got r q → q ≤ n → reinstate_at s' p ≡ got r q
  unfolding reinstate_at
  reinstate-kept p r q e h =
      let g = reinstate-is s p r q e in
      let b = g.2 in
      rw (
        ← same_number (p + 32) (omega arith),
        le-leb (p + (36 + le_at 4 s (p + 32))) (length s') (omega arith),
        ← same-part p 32
            (omega arith),
      )
      (λ i. got (g.1 i) (b i))

  reinstates-kept : (most k p : ℕ) → end_of (reinstates most s k p) ≡ done n → (p ≤ n) × (reinstates most s k p ≡ reinstates most s' k p)
  unfolding reinstates
  reinstates-kept most k p e = second (number_at 4 s p) refl e
    where
      behind : (p : ℕ) → end_of (ends (done p)) ≡ done n → (p ≤ n) × (◌≡◌ {A = Reading} (ends (done p)) (ends (done p)))
      behind p e = let q : p ≡ n = cc in (omega arith, refl)

      inner : (m : ℕ) (b : Bool) → done m ≡ number_at 4 s p → ltb most (k + m) ≡ b
          → end_of (pick b (ends (refused 41)) (group (reinstate_at s) m (p + 4) (λ q. ends (done q)))) ≡ done n
          → (p ≤ n) × (pick b (ends (refused 41)) (group (reinstate_at s) m (p + 4) (λ q. ends (done q))) ≡ reinstates most s' k p)
      inner m true w t e = refused-is-not-done e
      inner m false w t e =
          let g = group-kept (reinstate_at s) (reinstate_at s') n
          (λ p r q y. let z = (reinstate-is s p r q y).2 in omega arith) reinstate-kept m (p + 4)
          (λ q. ends (done q)) (λ q. ends (done q)) behind e in
          let h = g.0 in
          (omega arith, rw (sym (same_count p h) ∙ sym w, t) g.1)

      second : (w : Outcome ℕ) → w ≡ number_at 4 s p
          → end_of (onward w (λ m. pick (ltb most (k + m)) (ends (refused 41)) (group (reinstate_at s) m (p + 4) (λ q. ends (done q)))))
          ≡ done n
          → (p ≤ n) × (onward w (λ m. pick (ltb most (k + m)) (ends (refused 41)) (group (reinstate_at s) m (p + 4) (λ q. ends (done q))))
          ≡ reinstates most s' k p)
      second (refused x) q e = refused-is-not-done e
      second (done m) q e = inner m (ltb most (k + m)) q refl e

  reading-kept : (most : ℕ) → end_of (reading most s) ≡ done n → reading most s ≡ reading most s'
  unfolding reading
  reading-kept most e = first (number_at 4 s 0) refl e
    where
      inner : (k : ℕ) (b : Bool) → done k ≡ number_at 4 s 0 → ltb most k ≡ b
          → end_of (pick b (ends (refused 41)) (group (erase_at s) k 4 (λ p. reinstates most s k p))) ≡ done n
          → pick b (ends (refused 41)) (group (erase_at s) k 4 (λ p. reinstates most s k p)) ≡ reading most s'
      inner k true w t e = refused-is-not-done e
      inner k false w t e =
          let g = group-kept (erase_at s) (erase_at s') n (λ p r q y. let z = (erase-is s p r q y).2 in omega arith) erase-kept k 4
          (λ p. reinstates most s k p) (λ p. reinstates most s' k p) (reinstates-kept most k) e in
          let h = g.0 in
          rw (sym (same_count 0 h) ∙ sym w, t) g.1

      first : (w : Outcome ℕ) → w ≡ number_at 4 s 0
          → end_of (onward w (λ k. pick (ltb most k) (ends (refused 41)) (group (erase_at s) k 4 (λ p. reinstates most s k p)))) ≡ done n
          → onward w (λ k. pick (ltb most k) (ends (refused 41)) (group (erase_at s) k 4 (λ p. reinstates most s k p))) ≡ reading most s'
      first (refused x) q e = refused-is-not-done e
      first (done k) q e = inner k (ltb most k) q refl e

pub decode-depends : DecodeDepends
decode-depends most s s' n e agree =
    let g = accepted-good most s n e in
    let l = consumed-inside most s n g.end in
    let here = length-take n s in
    let there = length-take n s' in
    let both = ap length agree in
    ap (λ (w : Reading). answered (walk [] w).0 (walk [] w).1) (sym (reading-kept s s' n agree l (omega arith) most g.end))

-- in particular what follows the bytes consumed is not read
pub decode-prefix : (most : ℕ) (s rest : List ℕ) (n : ℕ) → (decoded_of most s).answer ≡ done n
    → decoded_of most (take n s ++ rest) ≡ decoded_of most s
decode-prefix most s rest n e =
    let g = accepted-good most s n e in
    let l = consumed-inside most s n g.end in
    decode-depends most s (take n s ++ rest) n e (sym (take_at (take n s) rest n (length-take-le n s l)))
