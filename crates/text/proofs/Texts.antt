-- The laws of texts that are put together: a text behind a text is one text.
-- Assumes nothing.
use mathlib.Core.Path.{◌≡◌, sym, ap, ◌∙◌}
use mathlib.Core.List.{List, [], ◌++◌}
use Prim.Native.Nat.{ℕ, ◌+◌, ◌≤◌, ◌<◌}
use native.Mathlib.Omega.{arith}
use lib.ListN.{length, length-append}
use Rattle.lists.specs.Splice.{splice}
use Rattle.lists.proofs.Cases.{by_order}
use Rattle.lists.proofs.Splice.{splice-join, splice-length, splice-outside, splice-none}
use Rattle.text.specs.Texts.{Put}

-- where the first text was cut, nothing more is written
splice_cut : (at : ℕ) (xs ys l : List ℕ) → length l ≤ at + length xs → splice (length l) ys (splice at xs l) ≡ splice at (xs ++ ys) l
splice_cut at xs ys l h =
    splice-outside (length l) ys (splice at xs l) (omega (arith, splice-length at xs l))
    ∙ sym (splice-outside (at + length xs) ys (splice at xs l) (omega (arith, splice-length at xs l))) ∙ splice-join at xs ys l

-- a text put right behind another: both are one text
pub put-join : {at mid end : ℕ} {xs ys l k m : List ℕ} → Put at xs l mid k → Put mid ys k end m → Put at (xs ++ ys) l end m
put-join {at} {mid} {end} {xs} {ys} {l} {k} {m} p q =
    let long : length k ≡ length l = ap length p.written ∙ splice-length at xs l in
    let stands : m ≡ splice mid ys (splice at xs l) = q.written ∙ ap (λ (j : List ℕ). splice mid ys j) p.written in
    record {
      written = by_order (at + length xs) (length l)
          (λ h. stands ∙ ap (λ (n : ℕ). splice n ys (splice at xs l)) (fits h) ∙ splice-join at xs ys l)
          (λ h. stands ∙ ap (λ (n : ℕ). splice n ys (splice at xs l)) (cut h) ∙ splice_cut at xs ys l (omega arith));
      ends = omega (arith, p.ends, q.ends, long, length-append xs ys);
    }
  where
    fits : at + length xs ≤ length l → mid ≡ at + length xs
    fits h = omega (arith, p.ends)

    cut : length l < at + length xs → mid ≡ length l
    cut h = omega (arith, p.ends)

-- no text
pub put-none : {at : ℕ} {l : List ℕ} → at ≤ length l → Put at [] l at l
put-none {at} {l} h = record { written = sym (splice-none at l); ends = omega arith }
