-- A reading taken apart: its rows and its end; what an accepted answer says of them; and what every row that was read is like.
-- Assumes nothing.
use Prim.Native.Nat.{ℕ, zero, suc, ◌+◌, ◌-◌, ◌^◌, ◌<◌, ◌≤◌}
use mathlib.Core.Bool.{Bool, true, false}
use mathlib.Core.List.{List, [], ◌∷◌}
use mathlib.Core.Path.{◌≡◌, refl, ap, sym, subst, ◌∙◌}
use lib.ListN.{length, get_or}
use lib.Dec.{ltb}
use native.Mathlib.Nat.{pow-suc}
use native.Mathlib.Omega.{arith}
use borrow.Author.Tests.{ltb-false}
use Rattle.lists.specs.Choice.{pick}
use Rattle.lists.specs.Outcome.{Outcome, refused, done}
use Rattle.lists.proofs.Outcome.{refused-is-not-done}
use Rattle.lists.proofs.Bools.{zero-is-not-one}
use Rattle.lists.proofs.Splice.{part_length}
use Rattle.little_endian.specs.LittleEndian.{le_at, number_at}
use Rattle.lists.specs.Each.{Every}
use Rattle.keys.specs.Sorting.{sort_by, clash}
use Rattle.delta.specs.Table.{row_key, table_of}
use Rattle.delta.specs.Reading.{Got, Got.short, Got.got, Reading, Reading.ends, Reading.row, erase_at, reinstate_at, entered}
use Rattle.delta.specs.Reading.{onward, group, reinstates, reading, DecodeOutcome, answered, decoded_of, prepend}
use Rattle.delta.specs.declared.Row.{Row}
use Rattle.delta.proofs.Entries.{erase-is, reinstate-is}
use Rattle.delta.proofs.ReadingWhole.{decoded-read}

-- the rows of a reading
abbrev pub rows_in : Reading → List Row
rows_in (ends e) = []
rows_in (row r w) = r ∷ rows_in w

-- how it ends
abbrev pub end_of : Reading → Outcome ℕ
end_of (ends e) = e
end_of (row r w) = end_of w

-- they are the reading
unwound : (w : Reading) → w ≡ prepend (rows_in w) (ends (end_of w))
unfolding prepend
unwound (ends e) = refl
unwound (row r w) = ap (row r) (unwound w)

-- what an accepted answer says of the reading
pub record Good (most : ℕ) (s : List ℕ) (n : ℕ) : Type 0 where
  pub once : clash row_key (rows_in (reading most s)) ≡ false
  pub end : end_of (reading most s) ≡ done n
  pub is : decoded_of most s ≡ record { answer = done n; table = table_of (sort_by row_key (rows_in (reading most s))) }

-- every accepted answer says so
pub accepted-good : (most : ℕ) (s : List ℕ) (n : ℕ) → (decoded_of most s).answer ≡ done n → Good most s n
accepted-good most s n e =
    go (clash row_key xs) refl (end_of (reading most s)) refl (sym (ap (λ (d : DecodeOutcome). d.answer) d) ∙ e)
  where
    xs : List Row
    xs = rows_in (reading most s)

    d : decoded_of most s ≡ pick (clash row_key xs) (answered (refused 42) xs) (answered (end_of (reading most s)) xs)
    d = decoded-read most s xs (end_of (reading most s)) (unwound (reading most s))

    go : (b : Bool) → clash row_key xs ≡ b → (f : Outcome ℕ) → end_of (reading most s) ≡ f
        → (pick b (answered (refused 42) xs) (answered f xs)).answer ≡ done n → Good most s n
    go true c f g q = refused-is-not-done q
    go false c (done m) g q =
        let same : done m ≡ done n = q in
        record { once = c; end = g ∙ same; is = d ∙ rw (c, g) (ap (λ (k : Outcome ℕ). answered k xs) same) }
    go false c (refused m) g q = refused-is-not-done q

-- a property of each row that a group gives, and of those behind it
every-group : (P : Row → Type 0) (at : ℕ → Got) → ((p : ℕ) (r : Row) (q : ℕ) → at p ≡ got r q → P r) → (n p : ℕ) (next : ℕ → Reading)
    → ((p : ℕ) → Every P (rows_in (next p))) → Every P (rows_in (group at n p next))
unfolding group
every-group P at f zero p next g = g p
every-group P at f (suc n) p next g = go (at p) refl (λ q. every-group P at f n q next g)
  where
    go : (x : Got) → at p ≡ x → ((q : ℕ) → Every P (rows_in (group at n q next))) → Every P (rows_in (entered x (λ q. group at n q next)))
    go short h ih = tt
    go (got r q) h ih = (f p r q h, ih q)

-- a property of each row that is read
pub every-read : (P : Row → Type 0) (most : ℕ) (s : List ℕ) → ((p : ℕ) (r : Row) (q : ℕ) → erase_at s p ≡ got r q → P r)
    → ((p : ℕ) (r : Row) (q : ℕ) → reinstate_at s p ≡ got r q → P r) → Every P (rows_in (reading most s))
unfolding reading reinstates
every-read P most s f g = first (number_at 4 s 0)
  where
    inner : (n p m : ℕ) (b : Bool) → Every P (rows_in (pick b (ends (refused 41)) (group (reinstate_at s) m (p + 4) (λ q. ends (done q)))))
    inner n p m true = tt
    inner n p m false = every-group P (reinstate_at s) g m (p + 4) (λ q. ends (done q)) (λ q. tt)

    second : (n p : ℕ) (w : Outcome ℕ)
        → Every P (rows_in (onward w (λ m. pick (ltb most (n + m)) (ends (refused 41))
        (group (reinstate_at s) m (p + 4) (λ q. ends (done q))))))
    second n p (refused e) = tt
    second n p (done m) = inner n p m (ltb most (n + m))

    outer : (n : ℕ) (b : Bool) → Every P (rows_in (pick b (ends (refused 41)) (group (erase_at s) n 4 (λ p. reinstates most s n p))))
    outer n true = tt
    outer n false = every-group P (erase_at s) f n 4 (λ p. reinstates most s n p) (λ p. second n p (number_at 4 s p))

    first : (w : Outcome ℕ) → Every P
        (rows_in (onward w (λ n. pick (ltb most n) (ends (refused 41)) (group (erase_at s) n 4 (λ p. reinstates most s n p)))))
    first (refused e) = tt
    first (done n) = outer n (ltb most n)

-- how many rows a group gives
count-group : (at : ℕ → Got) (n p : ℕ) (next : ℕ → Reading) (k : ℕ) → ((p : ℕ) → length (rows_in (next p)) ≤ k)
    → length (rows_in (group at n p next)) ≤ n + k
unfolding group
count-group at zero p next k h = omega (arith, h p)
count-group at (suc n) p next k h = go (at p) (λ q. count-group at n q next k h)
  where
    go : (x : Got) → ((q : ℕ) → length (rows_in (group at n q next)) ≤ n + k)
        → length (rows_in (entered x (λ q. group at n q next))) ≤ suc n + k
    go short ih = omega arith
    go (got r q) ih = omega (arith, ih q)

-- no more rows are read than the limit
pub count-read : (most : ℕ) (s : List ℕ) → length (rows_in (reading most s)) ≤ most
unfolding reading reinstates
count-read most s = first (number_at 4 s 0)
  where
    inner : (n p m : ℕ) (b : Bool) → ltb most (n + m) ≡ b → n ≤ most
        → length (rows_in (pick b (ends (refused 41)) (group (reinstate_at s) m (p + 4) (λ q. ends (done q))))) ≤ most - n
    inner n p m true h l = omega arith
    inner n p m false h l = omega (
      arith,
      count-group (reinstate_at s) m (p + 4) (λ q. ends (done q)) 0
          (λ q. omega arith),
      ltb-false most (n + m) h,
    )

    second : (n p : ℕ) (w : Outcome ℕ) → n ≤ most
        → length (rows_in (onward w (λ m. pick (ltb most (n + m)) (ends (refused 41))
        (group (reinstate_at s) m (p + 4) (λ q. ends (done q)))))) ≤ most - n
    second n p (refused e) l = omega arith
    second n p (done m) l = inner n p m (ltb most (n + m)) refl l

    outer : (n : ℕ) (b : Bool) → ltb most n ≡ b
        → length (rows_in (pick b (ends (refused 41)) (group (erase_at s) n 4 (λ p. reinstates most s n p)))) ≤ most
    outer n true h = omega arith
    outer n false h =
        let l = ltb-false most n h in
        omega (arith, count-group (erase_at s) n 4 (λ p. reinstates most s n p) (most - n) (λ p. second n p (number_at 4 s p) l))

    first : (w : Outcome ℕ) → length
        (rows_in (onward w (λ n. pick (ltb most n) (ends (refused 41)) (group (erase_at s) n 4 (λ p. reinstates most s n p))))) ≤ most
    first (refused e) = omega arith
    first (done n) = outer n (ltb most n) refl

-- every element is a byte
abbrev pub Bytes : List ℕ → Type 0
Bytes s = (i : ℕ) → get_or s i 0 < 256

-- n bytes spell a number of n bytes
le-bound : (n : ℕ) (s : List ℕ) (at : ℕ) → Bytes s → le_at n s at < 256 ^ n
unfolding le_at
le-bound zero s at b = omega arith
le-bound (suc n) s at b =
    let h = b at in
    let r = le-bound n s (suc at) b in
    let p = pow-suc 256 n in
    omega arith

-- a row as decoding gives it: 32 bytes of key, a length of 32 bits, a value inside the input
pub record Sound (s : List ℕ) (r : Row) : Type 0 where
  pub keyed : length r.key ≡ 32
  pub small : r.length < 4294967296
  pub inside : r.present ≡ true → r.offset + r.length ≤ length s

-- every row that is read is so
pub sound-read : (most : ℕ) (s : List ℕ) → Bytes s → Every (Sound s) (rows_in (reading most s))
sound-read most s b =
    every-read (Sound s) most s
    (λ p r q e.
    let g = erase-is s p r q e in
    let l = part_length p 32 s g.0 in
    subst (λ (x : Row). Sound s x) g.1
    (record { keyed = l; small = omega arith; inside = λ z. zero-is-not-one (cc) }))
    (λ p r q e.
    let g = reinstate-is s p r q e in
    let h = g.0 in
    let l = part_length p 32 s (omega arith) in
    subst (λ (x : Row). Sound s x) g.1 (record { keyed = l; small = le-bound 4 s (p + 32) b; inside = λ z. omega arith }))
