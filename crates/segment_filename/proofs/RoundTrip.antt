-- What is written is read back: names, and the buffer that `format` leaves.
-- Statements without a sentence of their own: specs/Promised.antt. Assumes nothing.
use mathlib.Core.Path.{◌≡◌, refl, sym, ap, ◌∙◌}
use mathlib.Core.Bool.{true}
use mathlib.Core.List.{List, ◌++◌, append_assoc}
use Prim.Native.Nat.{ℕ, ◌+◌, ◌^◌, ◌≤◌, ◌<◌}
use native.Mathlib.Omega.{arith}
use lib.ListN.{length}
use borrow.Author.Tests.{le-leb}
use Rattle.lists.specs.Outcome.{done}
use Rattle.lists.specs.Splice.{splice}
use Rattle.lists.proofs.Cases.{by_order}
use Rattle.lists.proofs.Outcome.{refused-is-not-done, done-injective}
use Rattle.lists.proofs.Splice.{splice-inside, splice-behind}
use Rattle.segment_filename.specs.Words.{starts_with, ends_with, behind, before}
use Rattle.segment_filename.specs.Digits.{digits, is_u32, value_of}
use Rattle.segment_filename.specs.Formatting.{dot, suffix, name_of, format_of, format_into}
use Rattle.segment_filename.specs.Parsing.{without_prefix, without_suffix, id_bytes, parse_of}
use Rattle.segment_filename.specs.Promised.{FormatRoom, FormatWritten, FormatLater, ParseFormat, FormatInjective}
use Rattle.segment_filename.proofs.Words.{starts-append, behind-append, ends-append, before-append}
use Rattle.segment_filename.proofs.Digits.{digits-length, digits-are-digits, digits_value, digits-injective}
use Rattle.segment_filename.proofs.Formatting.{name-length, format-refuses-30, format-refuses-36, format-accepts}
use Rattle.segment_filename.proofs.Parsing.{parse-reads}

-- an id of 32 bits has ten digits at most
id-places : (id : ℕ) → id < 2 ^ 32 → id < 10 ^ 10
id-places id h = omega arith

module _ (prefix : List ℕ) (id : ℕ) where
  -- a name without its prefix, as what stands before its suffix
  name-rest : without_prefix prefix (name_of prefix id) ≡ (dot ++ digits 10 id) ++ suffix
  unfolding name_of
  name-rest = behind-append prefix (dot ++ (digits 10 id ++ suffix)) ∙ sym (append_assoc dot (digits 10 id) suffix)

  name-stem : without_suffix prefix (name_of prefix id) ≡ dot ++ digits 10 id
  name-stem = ap (before suffix) name-rest ∙ before-append suffix (dot ++ digits 10 id)

  -- the bytes of a name's id are its ten digits
  pub name-digits : id_bytes prefix (name_of prefix id) ≡ digits 10 id
  name-digits = ap (behind dot) name-stem ∙ behind-append dot (digits 10 id)

  name-begins : starts_with prefix (name_of prefix id) ≡ true
  unfolding name_of
  name-begins = starts-append prefix (dot ++ (digits 10 id ++ suffix))

  name-ends : ends_with suffix (without_prefix prefix (name_of prefix id)) ≡ true
  name-ends = ap (ends_with suffix) name-rest ∙ ends-append suffix (dot ++ digits 10 id)

  name-dotted : starts_with dot (without_suffix prefix (name_of prefix id)) ≡ true
  name-dotted = ap (starts_with dot) name-stem ∙ starts-append dot (digits 10 id)

  -- the name of a segment is read as its id, for any prefix that isn't empty and any id of 32 bits
  pub parse-name : (length prefix ≡ 0 → ⊥) → id < 2 ^ 32 → parse_of prefix (name_of prefix id) ≡ done id
  parse-name some small =
      let value : value_of (digits 10 id) ≡ id = digits_value 10 id (id-places id small) in
      let good : is_u32 (digits 10 id) ≡ true = rw (value, le-leb id 4294967295 (omega arith), digits-are-digits 10 id) refl in
      parse-reads prefix (name_of prefix id) some name-begins name-ends name-dotted (ap length name-digits ∙ digits-length 10 id)
      ∙ rw (name-digits, good, value) refl

pub format-injective : FormatInjective
format-injective prefix a b h g e =
    digits-injective 10 a b (id-places a h) (id-places b g) (sym (name-digits prefix a) ∙ ap (id_bytes prefix) e ∙ name-digits prefix b)

module _ (prefix out : List ℕ) (n : ℕ) (accepted : format_of prefix (length out) ≡ done n) where
  -- an accepted prefix isn't empty
  pub format-prefix : length prefix ≡ 0 → ⊥
  format-prefix h = refused-is-not-done ((format-refuses-30 prefix 0 out h).0 ∙ accepted)

  -- an accepted buffer has room
  enough : length prefix + 15 ≤ length out
  enough =
      by_order (length prefix + 15) (length out) (λ h. h)
      (λ h. refused-is-not-done ((format-refuses-36 prefix 0 out format-prefix h).0 ∙ accepted))

pub format-room : FormatRoom
format-room prefix out n accepted =
    let fits = enough prefix out n accepted in
    let is = done-injective ((format-accepts prefix 0 out (format-prefix prefix out n accepted) fits).0 ∙ accepted) in
    (sym is, omega arith)

module _ (prefix : List ℕ) (id : ℕ) (out : List ℕ) (n : ℕ) (accepted : format_of prefix (length out) ≡ done n) where
  into : format_into prefix id out ≡ splice 0 (name_of prefix id) out
  into = sym (format-accepts prefix id out (format-prefix prefix out n accepted) (enough prefix out n accepted)).1

  -- the answer is the name's length
  pub format-length : n ≡ length (name_of prefix id)
  format-length = (format-room prefix out n accepted).0 ∙ sym (name-length prefix id)

pub format-written : FormatWritten
format-written prefix id out n accepted =
    let long = format-length prefix id out n accepted in
    rw (into prefix id out n accepted, long)
    (splice-inside 0 (name_of prefix id) out (omega (arith, long, (format-room prefix out n accepted).1)))

pub format-later : FormatLater
format-later prefix id out n accepted =
    rw (into prefix id out n accepted)
    (splice-behind 0 (name_of prefix id) out n (omega (arith, format-length prefix id out n accepted)))

pub parse-format : ParseFormat
parse-format prefix id out n accepted small =
    rw (format-written prefix id out n accepted) (parse-name prefix id (format-prefix prefix out n accepted) small)
