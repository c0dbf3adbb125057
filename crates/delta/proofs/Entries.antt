-- Reading one row: what stands at a place of the erase group and of the reinstate group, by what reading its parts answers.
-- Assumes nothing.
use Prim.Native.Nat.{ℕ, ◌+◌, ◌<◌, ◌≤◌}
use mathlib.Core.Bool.{Bool, true, false}
use mathlib.Core.List.{List}
use mathlib.Core.Path.{◌≡◌, refl, ap, sym, ◌∙◌}
use lib.ListN.{length}
use native.Mathlib.Omega.{arith}
use borrow.Author.Tests.{le-leb, lt-leb, leb-true, leb-false}
use Rattle.std.specs.Prelude.{Err}
use Rattle.lists.specs.Choice.{pick}
use Rattle.lists.specs.Outcome.{refused, done}
use Rattle.lists.specs.Splice.{part}
use Rattle.lists.proofs.Bools.{zero-is-not-one}
use Rattle.lists.proofs.Cases.{by-test}
use Rattle.lists.proofs.Outcome.{refused-is-not-done, refused-injective, done-injective}
use Rattle.refusal.specs.declared.Refusal.{Refusal}
use Rattle.refusal.specs.declared.Refusal.TheVariants.{EndsEarly}
use Rattle.refusal.specs.Refusals.{number}
use Rattle.refusal.proofs.Refusals.{numbers-differ}
use Rattle.little_endian.specs.LittleEndian.{le_at, stand_at, bytes_at, number_at}
use Rattle.little_endian.proofs.LittleEndian.{bytes-refuse-40, bytes-read, number-refuses-40, number-reads, number_is}
use Rattle.delta.specs.Table.{erased, reinstated}
use Rattle.delta.specs.Reading.{Got, Got.short, Got.got, erase_at, reinstate_at, entry}
use Rattle.delta.specs.declared.Row.{Row}

module _ (s : List ℕ) (p : ℕ) where
  -- a number that was read stands inside
  pub number-inside : (n v : ℕ) → done v ≡ number_at n s p → p + n ≤ length s
  number-inside n v e =
      by-test (stand_at n s p) (λ h. leb-true (p + n) (length s) h)
      (λ h. refused-is-not-done (sym (number-refuses-40 n s p h) ∙ sym e))

  -- one that was not read does not, and that is 40
  pub number-outside : (n m : ℕ) → refused m ≡ number_at n s p → (length s < p + n) × (m ≡ 40)
  number-outside n m e =
      by-test (stand_at n s p) (λ h. refused-is-not-done (e ∙ number-reads n s p h))
      (λ h. let q = e ∙ number-refuses-40 n s p h in (leb-false (p + n) (length s) h, refused-injective q))

  -- the same of bytes
  pub bytes-inside : (n : ℕ) (b : List ℕ) → done b ≡ bytes_at n s p → (p + n ≤ length s) × (b ≡ part p n s)
  bytes-inside n b e =
      by-test (stand_at n s p) (λ h. let q = e ∙ bytes-read n s p h in (leb-true (p + n) (length s) h, done-injective q))
      (λ h. refused-is-not-done (sym (bytes-refuse-40 n s p h) ∙ sym e))

  pub bytes-outside : (n m : ℕ) → refused m ≡ bytes_at n s p → (length s < p + n) × (m ≡ 40)
  bytes-outside n m e =
      by-test (stand_at n s p) (λ h. refused-is-not-done (e ∙ bytes-read n s p h))
      (λ h. let q = e ∙ bytes-refuse-40 n s p h in (leb-false (p + n) (length s) h, refused-injective q))

  -- ---- a row of the erase group

  -- too little for a key
  pub erase-short : length s < p + 32 → erase_at s p ≡ short
  unfolding erase_at
  erase-short h = rw (lt-leb (p + 32) (length s) h)

  -- a key
  pub erase-got : (key : List ℕ) → done key ≡ bytes_at 32 s p → erase_at s p ≡ got (erased key) (p + 32)
  unfolding erase_at
  erase-got key e =
      let b = bytes-inside 32 key e in
      rw (le-leb (p + 32) (length s) b.0, b.1)

  -- a row of the erase group that was got
  pub erase-is : (r : Row) (q : ℕ) → erase_at s p ≡ got r q → (p + 32 ≤ length s) × (erased (part p 32 s) ≡ r) × (p + 32 ≡ q)
  unfolding erase_at
  erase-is r q e = go (stand_at 32 s p) refl e
    where
      go : (b : Bool) → stand_at 32 s p ≡ b → pick b (got (erased (part p 32 s)) (p + 32)) short ≡ got r q
          → (p + 32 ≤ length s) × (erased (part p 32 s) ≡ r) × (p + 32 ≡ q)
      go true h e = (leb-true (p + 32) (length s) h, cc, cc)
      go false h e = zero-is-not-one (cc)

  -- it ends inside
  pub erase-ends : (r : Row) (q : ℕ) → erase_at s p ≡ got r q → q ≤ length s
  erase-ends r q e =
      let g = erase-is r q e in
      omega (arith, g.0, g.2)

  -- ---- a row of the reinstate group

  -- the value's length is not whole
  pub reinstate-short : length s < p + 32 + 4 → reinstate_at s p ≡ short
  unfolding reinstate_at
  reinstate-short h = rw (lt-leb (p + (36 + le_at 4 s (p + 32))) (length s) (omega arith))

  abbrev size : ℕ
  size = le_at 4 s (p + 32)

  -- a row of the reinstate group that was got
  pub reinstate-is : (r : Row) (q : ℕ) → reinstate_at s p ≡ got r q
      → (p + (36 + size) ≤ length s) × (reinstated (part p 32 s) (p + 36) size ≡ r) × (p + (36 + size) ≡ q)
  unfolding reinstate_at
  reinstate-is r q e = go (stand_at (36 + size) s p) refl e
    where
      go : (b : Bool) → stand_at (36 + size) s p ≡ b → pick b (got (reinstated (part p 32 s) (p + 36) size) (p + (36 + size))) short
          ≡ got r q
          → (p + (36 + size) ≤ length s) × (reinstated (part p 32 s) (p + 36) size ≡ r) × (p + (36 + size) ≡ q)
      go true h e = (leb-true (p + (36 + size)) (length s) h, cc, cc)
      go false h e = zero-is-not-one (cc)

  -- it ends inside
  pub reinstate-ends : (r : Row) (q : ℕ) → reinstate_at s p ≡ got r q → q ≤ length s
  reinstate-ends r q e =
      let g = reinstate-is r q e in
      omega (arith, g.0, g.2)

  module _ (n : ℕ) (f : number_at 4 s (p + 32) ≡ done n) where
    is : le_at 4 s (p + 32) ≡ n
    is = number_is 4 s (p + 32) n f

    -- the value is not whole
    pub reinstate-cut : length s < p + 36 + n → reinstate_at s p ≡ short
    unfolding reinstate_at
    reinstate-cut h = rw (is, lt-leb (p + (36 + n)) (length s) (omega arith))

    -- a key, a length and a value
    pub reinstate-got : p + 36 + n ≤ length s → (key : List ℕ) → done key ≡ bytes_at 32 s p
        → reinstate_at s p ≡ got (reinstated key (p + 36) n) (p + 36 + n)
    unfolding reinstate_at
    reinstate-got h key k =
        let q : p + (36 + n) ≡ p + 36 + n = omega arith in
        rw (is, le-leb (p + (36 + n)) (length s) (omega arith), (bytes-inside 32 key k).1, q)

-- a refusal whose number is 40 where no whole row stands
pub entry-short : (r : Refusal) (g : Got) → number r ≡ 40 → g ≡ short → Err r ≡ entry g
entry-short r g n e = ap Err (numbers-differ r EndsEarly n) ∙ ap entry (sym e)
