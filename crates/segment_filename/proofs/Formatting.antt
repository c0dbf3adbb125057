-- The laws of a written name: its length, its pieces, and the cases of what `format` answers and leaves in the buffer.
-- Assumes nothing.
use mathlib.Core.Path.{◌≡◌, refl, ap, ◌∙◌}
use mathlib.Core.List.{List, ◌++◌, append_assoc}
use Prim.Native.Nat.{ℕ, ◌+◌, ◌≤◌, ◌<◌}
use native.Mathlib.Omega.{arith}
use lib.ListN.{length, length-append}
use borrow.Author.Tests.{eq-eqb, ne_eqb, lt-ltb, le-ltb}
use Rattle.lists.specs.Outcome.{Outcome, refused, done}
use Rattle.lists.specs.Splice.{splice}
use Rattle.lists.proofs.Splice.{splice-join}
use Rattle.segment_filename.specs.Digits.{digits}
use Rattle.segment_filename.specs.Formatting.{dot, suffix, name_of, format_of, format_into}
use Rattle.segment_filename.proofs.Digits.{digits-length}

-- a name is as long as its prefix and 15 bytes
pub name-length : (prefix : List ℕ) (id : ℕ) → length (name_of prefix id) ≡ length prefix + 15
unfolding name_of
name-length prefix id = simp (length-append, digits-length) (omega arith)

-- a piece right behind one at the front: one piece at the front
splice-next : (n : ℕ) (xs ys out : List ℕ) → length xs ≡ n → splice n ys (splice 0 xs out) ≡ splice 0 (xs ++ ys) out
splice-next n xs ys out long =
    let place : n ≡ 0 + length xs = omega arith in
    ap (λ (k : ℕ). splice k ys (splice 0 xs out)) place ∙ splice-join 0 xs ys out

-- the four pieces of a name, written one behind the other, are the name
pub name-pieces : (prefix : List ℕ) (id : ℕ) (out : List ℕ)
    → splice (length prefix + 11) suffix (splice (length prefix + 1) (digits 10 id) (splice (length prefix) dot (splice 0 prefix out)))
    ≡ splice 0 (name_of prefix id) out
unfolding name_of
name-pieces prefix id out =
    let n : ℕ = length prefix in
    let ten : List ℕ = digits 10 id in
    let long-ten = digits-length 10 id in
    let long-dot : length (prefix ++ dot) ≡ n + 1 = length-append prefix dot in
    let long-id : length ((prefix ++ dot) ++ ten) ≡ n + 11 = length-append (prefix ++ dot) ten ∙ omega arith in
    ap (λ (l : List ℕ). splice (n + 11) suffix (splice (n + 1) ten l)) (splice-next n prefix dot out refl)
    ∙ ap (splice (n + 11) suffix) (splice-next (n + 1) (prefix ++ dot) ten out long-dot)
    ∙ splice-next (n + 11) ((prefix ++ dot) ++ ten) suffix out long-id
    ∙ ap (λ (l : List ℕ). splice 0 l out) (append_assoc (prefix ++ dot) ten suffix ∙ append_assoc prefix dot (ten ++ suffix))

module _ (prefix : List ℕ) (id : ℕ) (out : List ℕ) where
  -- an outcome and a buffer that the definitions give
  abbrev pub Given : Outcome ℕ → List ℕ → Type 0
  Given o after = (o ≡ format_of prefix (length out)) × (after ≡ format_into prefix id out)

  pub format-refuses-30 : length prefix ≡ 0 → Given (refused 30) out
  unfolding format_of format_into
  format-refuses-30 h = let t = eq-eqb (length prefix) 0 h in (simp t, simp t)

  module _ (some : length prefix ≡ 0 → ⊥) where
    pub format-refuses-36 : length out < length prefix + 15 → Given (refused 36) out
    unfolding format_of format_into
    format-refuses-36 h =
        let t = ne_eqb (length prefix) 0 some in let u = lt-ltb (length out) (length prefix + 15) h in (simp (t, u), simp (t, u))

    pub format-accepts : length prefix + 15 ≤ length out → Given (done (length prefix + 15)) (splice 0 (name_of prefix id) out)
    unfolding format_of format_into
    format-accepts h =
        let t = ne_eqb (length prefix) 0 some in let u = le-ltb (length out) (length prefix + 15) h in (simp (t, u), simp (t, u))
