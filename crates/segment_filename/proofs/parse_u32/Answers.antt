-- `segment_filename::parse_u32` meets its contract. The loop's invariant: what is left to read decides whether all are digits, and the
-- number read so far goes on to the whole number. Assumes nothing.
use mathlib.Core.Path.{◌≡◌, refl, sym, ap, ◌∙◌}
use mathlib.Core.Bool.{Bool, true, false, not, ◌&&◌}
use mathlib.Core.List.{[]}
use Prim.Native.Nat.{◌<◌, ◌+◌, ◌-◌}
use native.Mathlib.Omega.{arith}
use lib.Dec.{leb}
use lib.ListN.{get_or, drop, drop_of_length-le}
use borrow.Author.Tests.{le-leb, lt-leb}
use Rattle.std.specs.Prelude.{ℕ, Result, Ok, Err}
use Rattle.std.specs.Result.{OkIff, result_or}
use Rattle.lists.specs.Choice.{pick}
use Rattle.lists.specs.Outcome.{refused, done}
use Rattle.lists.proofs.Cases.{by_order}
use Rattle.refusal.specs.declared.Refusal.{Refusal}
use Rattle.refusal.specs.declared.Refusal.TheVariants.{NotU32}
use Rattle.refusal.specs.Refusals.{outcome}
use Rattle.segment_filename.specs.Digits.{is_digit, all_digits, value_from, value_of}
use Rattle.segment_filename.proofs.Digits.{digits-at, value-at, digit-range, value_room, places-small}
use Rattle.segment_filename.proofs.parse_u32.Goals as goal

pub returns-then-not-is_ascii_digit : goal.returns-then-not-is_ascii_digit
returns-then-not-is_ascii_digit c =
    let ten-of = c.args.ten.now in
    let l = c.loop-b in
    let other : is_digit (get_or ten-of l.b-index 0) ≡ false = sym c.if-not-is_ascii_digit.ensures.value in
    simp (l.invariant.1, digits-at ten-of l.b-index c.loop-b-test.true, other)

pub overflow_mul-value : goal.overflow_mul-value
overflow_mul-value c =
    omega (arith, places-small c.loop-b.value c.loop-b.b-index c.loop-b.invariant.0 (omega arith))

pub loop-b-preserved : goal.loop-b-preserved
loop-b-preserved c =
    let ten-of = c.args.ten.now in
    let l = c.loop-b in
    let byte_of = get_or ten-of l.b-index 0 in
    let digit : is_digit byte_of ≡ true = sym c.if-not-is_ascii_digit.ensures.value in (
      rw c.from.ensures (value_room l.value (byte_of - 48) l.b-index l.invariant.0 (omega (arith, digit-range byte_of digit))),
      l.invariant.1 ∙ digits-at ten-of l.b-index c.loop-b-test.true ∙ ap (λ (t : Bool). t && all_digits (drop (l.b-index + 1) ten-of)) digit,
      rw c.from.ensures (l.invariant.2 ∙ value-at ten-of l.b-index c.loop-b-test.true l.value),
    )

-- a number of 64 bits as one of 32, where it is one
narrowed : {E : Type 0} (v : ℕ) (r : Result ℕ E) (a : Result ℕ Refusal) → OkIff r (v < 4294967296) v → a ≡ result_or r (Err NotU32)
    → outcome a ≡ pick (not (leb v 4294967295)) (refused 35) (done v)
narrowed v (Ok x) a h e = rw (e, h.1, le-leb v 4294967295 (omega (arith, h.0))) refl
narrowed v (Err x) a h e =
    by_order v 4294967295 (λ low. absurd (h (omega arith))) (λ high. rw (e, lt-leb v 4294967295 high) refl)

pub returns : goal.returns
unfolding all_digits value_from
returns c =
    let ten-of = c.args.ten.now in
    let none_left : drop c.loop-b.b-index ten-of ≡ [] = drop_of_length-le ten-of {i = c.loop-b.b-index} c.loop-b-test.false in
    let all_digits_lem : all_digits ten-of ≡ true = c.loop-b.invariant.1 ∙ ap all_digits none_left in
    let whole : value_of ten-of ≡ c.loop-b.value = c.loop-b.invariant.2 ∙ ap (value_from c.loop-b.value) none_left in
    let n = narrowed c.loop-b.value c.try_from.result c.or.result c.try_from.ensures c.or.ensures in
    simp (all_digits_lem, whole) n
