-- What `parse` accepts is what writing gives, and nothing else: the tests that an accepted name has passed put it together again.
-- Statements without a sentence of their own: specs/Promised.antt. Assumes nothing.
use mathlib.Core.Path.{◌≡◌, sym, ap, ◌∙◌}
use mathlib.Core.Bool.{true}
use mathlib.Core.List.{List, ◌++◌, append_assoc}
use Prim.Native.Nat.{ℕ, ◌≤◌}
use native.Mathlib.Omega.{arith}
use lib.ListN.{length}
use lib.Dec.{eqb, leb}
use borrow.Author.Tests.{eqb-true, eqb-false, leb-true}
use Rattle.lists.specs.Outcome.{refused, done}
use Rattle.lists.proofs.Bools.{and_both}
use Rattle.lists.proofs.Cases.{by-test}
use Rattle.lists.proofs.Outcome.{refused-is-not-done, done-injective, by-outcome}
use Rattle.segment_filename.specs.Words.{starts_with, ends_with}
use Rattle.segment_filename.specs.Digits.{digits, all_digits, is_u32, value_of}
use Rattle.segment_filename.specs.Formatting.{dot, suffix, name_of}
use Rattle.segment_filename.specs.Parsing.{without_prefix, without_suffix, id_bytes, u32_of, parse_of}
use Rattle.segment_filename.specs.Promised.{Writes, ParseExact, ParseAccepts, ParseRefuses, ParseInjective}
use Rattle.segment_filename.proofs.Words.{starts-split, ends-split}
use Rattle.segment_filename.proofs.Digits.{value-digits}
use Rattle.segment_filename.proofs.Parsing.{parse-refuses-30, parse-refuses-31, parse-refuses-32, parse-refuses-33}
use Rattle.segment_filename.proofs.Parsing.{parse-refuses-34, parse-reads}
use Rattle.segment_filename.proofs.RoundTrip.{parse-name}

-- ten bytes that are read are digits of a number of 32 bits, which is the answer
module _ (ten : List ℕ) (id : ℕ) (read : u32_of ten ≡ done id) where
  u32 : is_u32 ten ≡ true
  u32 = by-test (is_u32 ten) (λ t. t) (λ t. refused-is-not-done (rw t at read))

  value : value_of ten ≡ id
  value = done-injective (rw u32 at read)

  all_digits_lem : all_digits ten ≡ true
  all_digits_lem = (and_both (all_digits ten) (leb (value_of ten) 4294967295) u32).0

  small : id ≤ 4294967295
  small = rw (← value) (leb-true (value_of ten) 4294967295 (and_both (all_digits ten) (leb (value_of ten) 4294967295) u32).1)

module _ (prefix name : List ℕ) (id : ℕ) (accepted : parse_of prefix name ≡ done id) where
  abbrev rest : List ℕ
  rest = without_prefix prefix name

  abbrev stem : List ℕ
  stem = without_suffix prefix name

  abbrev ten : List ℕ
  ten = id_bytes prefix name

  -- what is accepted isn't refused
  no : {P : Type 0} {n : ℕ} → parse_of prefix name ≡ refused n → P
  no h = refused-is-not-done (sym h ∙ accepted)

  -- the tests, in their order
  some : length prefix ≡ 0 → ⊥
  some h = no (parse-refuses-30 prefix name h)

  begins : starts_with prefix name ≡ true
  begins = by-test (starts_with prefix name) (λ t. t) (λ t. no (parse-refuses-31 prefix name some t))

  ends : ends_with suffix rest ≡ true
  ends = by-test (ends_with suffix rest) (λ t. t) (λ t. no (parse-refuses-32 prefix name some begins t))

  dotted : starts_with dot stem ≡ true
  dotted = by-test (starts_with dot stem) (λ t. t) (λ t. no (parse-refuses-33 prefix name some begins ends t))

  ten-long : length ten ≡ 10
  ten-long =
      by-test (eqb (length ten) 10) (eqb-true (length ten) 10)
      (λ t. no (parse-refuses-34 prefix name some begins ends dotted (eqb-false (length ten) 10 t)))

  read : u32_of ten ≡ done id
  read = sym (parse-reads prefix name some begins ends dotted ten-long) ∙ accepted

  -- the ten bytes are the digits of the id
  ten-digits : digits 10 id ≡ ten
  ten-digits =
      ap (digits 10) (sym (value ten id read))
      ∙ rw (← ten-long) (value-digits ten (all_digits_lem ten id read))

  -- a name that is read as an id is the one that writing this id gives
  pub parse-writes : Writes prefix id name
  unfolding name_of
  parse-writes = (
    omega (arith, small ten id read),
    ap (λ (l : List ℕ). prefix ++ (dot ++ (l ++ suffix))) ten-digits
        ∙ ap (λ (l : List ℕ). prefix ++ l)
        (sym (append_assoc dot ten suffix)
        ∙ ap (λ (l : List ℕ). l ++ suffix) (sym (starts-split stem dot dotted))
        ∙ sym (ends-split rest suffix ends))
        ∙ sym (starts-split name prefix begins),
  )

pub parse-exact : ParseExact
parse-exact prefix name id some =
    (parse-writes prefix name id, λ w. ap (parse_of prefix) (sym w.1) ∙ parse-name prefix id some w.0)

pub parse-accepts : ParseAccepts
parse-accepts prefix name some =
    (λ p. (p.0, (parse-exact prefix name p.0 some).0 p.1), λ p. (p.0, (parse-exact prefix name p.0 some).1 p.1))

pub parse-refuses : ParseRefuses
parse-refuses prefix name some = (
  λ p id w. refused-is-not-done (sym p.1 ∙ (parse-exact prefix name id some).1 w),
  λ none. by-outcome (parse_of prefix name) (λ n h. (n, h)) (λ id h. absurd (none id (parse-writes prefix name id h))),
)

pub parse-injective : ParseInjective
parse-injective prefix a b id p q = sym (parse-writes prefix a id p).1 ∙ (parse-writes prefix b id q).1
