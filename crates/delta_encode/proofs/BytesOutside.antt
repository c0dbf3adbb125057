-- Rows whose value lies outside: when one does, and that one of some rows does.
-- Assumes nothing.
use Prim.Native.Nat.{ℕ, ◌+◌, ◌<◌, ◌≤◌}
use mathlib.Core.Bool.{Bool, true, false, ◌||◌}
use Rattle.std.specs.List.{list_any}
use mathlib.Core.List.{List, [], ◌∷◌}
use mathlib.Core.Path.{◌≡◌, refl, ap}
use lib.ListN.{length, get_or, take, drop, drop_of_length-le}
use lib.Seq.{length-take-le}
use borrow.Author.Tests.{lt-ltb, le-ltb}
use Rattle.lists.specs.Each.{any}
use Rattle.lists.proofs.Arrays.{front}
use Rattle.delta.specs.declared.Row.{Row}
use Rattle.delta_encode.specs.Bytes.{outside}
use Rattle.delta_encode.specs.Promised.{OutsideAbsent}

module _ {A : Type 0} (p : A → Bool) (rows : List A) (n i : ℕ) (l : n ≤ length rows) where
  -- the row at i passes the test
  pub any-yes : (d : A) → i < n → p (get_or rows i d) ≡ true → any p (drop i (take n rows)) ≡ true
  unfolding any
  any-yes d h e = rw (front rows n i d h l, e)

  -- it does not: the rows behind it decide
  pub any-no : (d : A) → i < n → p (get_or rows i d) ≡ false → any p (drop i (take n rows)) ≡ any p (drop (i + 1) (take n rows))
  unfolding any
  any-no d h e = rw (front rows n i d h l, e)

  -- no row is left
  pub any-end : n ≤ i → any p (drop i (take n rows)) ≡ false
  unfolding any
  any-end h = rw (drop_of_length-le (take n rows) {i = i} (simp (length-take-le n rows l) h))

-- a present row whose value ends behind the n bytes
pub outside-yes : (n : ℕ) (r : Row) → r.present ≡ true → n < r.offset + r.length → outside n r ≡ true
outside-yes n r e h = rw (e, lt-ltb n (r.offset + r.length) h)

-- an absent row has no value
pub outside-absent : OutsideAbsent
outside-absent n r e = rw e

-- a value that ends inside them
pub outside-within : (n : ℕ) (r : Row) → r.present ≡ true → r.offset + r.length ≤ n → outside n r ≡ false
outside-within n r e h = rw (e, le-ltb n (r.offset + r.length) h)

-- the test of some element is std's
pub any-listed : {A : Type 0} (p : A → Bool) (xs : List A) → list_any p xs ≡ any p xs
unfolding any
any-listed p [] = refl
any-listed p (x ∷ xs) = ap (λ (b : Bool). p x || b) (any-listed p xs)
