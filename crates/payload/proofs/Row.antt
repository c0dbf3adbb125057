-- The laws of a row's answer: its cases, that it is determined by its number, that a good row's payload ends inside its slot and so
-- inside the area, and that another row has no payload. Assumes nothing.
use mathlib.Core.Path.{◌≡◌, refl, sym, ap, ap₂, ◌∙◌}
use mathlib.Core.Bool.{Bool, true, false, ◌&&◌, ◌||◌, not}
use mathlib.Core.List.{List, [], ◌∷◌}
use Prim.Native.Nat.{ℕ, ◌+◌, ◌*◌, ◌≤◌, ◌<◌}
use native.Mathlib.Nat.{mul-le-mul_right, suc-mul}
use native.Mathlib.Omega.{arith}
use lib.ListN.{length}
use lib.Dec.{leb, eqb}
use borrow.Author.Tests.{ltb-false, leb-false, eqb-true, eq-eqb, ne_eqb}
use Rattle.lists.specs.Choice.{◌⇒◌, first}
use Rattle.lists.specs.Splice.{part}
use Rattle.lists.proofs.Bools.{and_both, clash}
use Rattle.seglog.specs.declared.Log.{Log}
use Rattle.seglog.specs.View.{plain_of, view_of}
use Rattle.seglog.specs.Fit.{fitting_of, shaped_of}
use Rattle.delta.specs.declared.Decoded.{Decoded}
use Rattle.delta.specs.Reading.{decode_outcome, decoded_of}
use Rattle.std.specs.Prelude.{Result, Ok, Err}
use Rattle.refusal.specs.declared.Refusal.{Refusal}
use Rattle.refusal.specs.declared.Refusal.TheVariants.{OutputShort}
use Rattle.refusal.proofs.Refusals.{refusal_of, number-back, numbers-differ}
use Rattle.refusal.specs.Refusals.{number}
use Rattle.payload.specs.Row.{row_number, outside_of, row_question, GoodRow, payload_of}
use Rattle.payload.specs.PayloadDelta.{PayloadDelta, no_delta, delta_answer, payload_delta}

-- ---- an answer and its number

-- a refusal's number is not 0
pub row-refused : (r : Refusal) → number r ≡ 0 → ⊥
row-refused r e =
    let back : OutputShort ≡ r = ap refusal_of (sym e) ∙ number-back r in
    let n : number r ≡ 44 = ap number (sym back) in
    omega arith

-- an answer is determined by its number
pub row-determined : (q q' : Result (Unit {0}) Refusal) → row_number q ≡ row_number q' → q ≡ q'
row-determined (Ok u) (Ok v) e = refl
row-determined (Ok u) (Err r) e = absurd (row-refused r (sym e))
row-determined (Err r) (Ok u) e = absurd (row-refused r e)
row-determined (Err r) (Err r') e = ap Err (numbers-differ r r' e)

-- a row's delta is determined by its number, the bytes consumed and the rows
pub delta-determined : (d d' : Result Decoded Refusal) → delta_answer (decode_outcome d) ≡ delta_answer (decode_outcome d') → d ≡ d'
delta-determined (Ok d) (Ok d') e =
    ap₂ (λ n t. Ok (record { consumed = n; table = t })) (ap (λ (x : PayloadDelta). x.consumed) e) (ap (λ (x : PayloadDelta). x.table) e)
delta-determined (Ok d) (Err r) e = absurd (row-refused r (sym (ap (λ (x : PayloadDelta). x.refusal) e)))
delta-determined (Err r) (Ok d) e = absurd (row-refused r (ap (λ (x : PayloadDelta). x.refusal) e))
delta-determined (Err r) (Err r') e = ap Err (numbers-differ r r' (ap (λ (x : PayloadDelta). x.refusal) e))

-- ---- a row's answer

-- neither holds where two tests joined by "or" do not
none_first : (a b : Bool) → (a || b) ≡ false → a ≡ false
none_first true b h = clash (sym h)
none_first false b h = refl

none_last : (a b : Bool) → (a || b) ≡ false → b ≡ false
none_last true b h = clash (sym h)
none_last false b h = h

-- a log that fits has an area of K x C bytes
pub fitting-whole : (l : Log) (n : ℕ) → fitting_of l n ≡ true → n ≡ l.k * l.c
unfolding fitting_of
fitting-whole l n h =
    let t = and_both (plain_of l) (shaped_of (view_of l) && eqb n (l.k * l.c)) h in
    eqb-true n (l.k * l.c) (and_both (shaped_of (view_of l)) (eqb n (l.k * l.c)) t.1).1

-- a slot's end is inside K slots
slot-ends : (k c slot x : ℕ) → slot < k → x ≤ c → slot * c + x ≤ k * c
slot-ends k c slot x h g = omega (arith, mul-le-mul_right c h, suc-mul slot c)

module _ (l : Log) (area : List ℕ) (slot offset n : ℕ) where
  -- 2, then 24, then good
  pub row-unshaped : fitting_of l (length area) ≡ false → row_question l area slot offset n ≡ 2
  unfolding row_question
  row-unshaped h = simp h

  pub row-outside : fitting_of l (length area) ≡ true → outside_of l slot offset n ≡ true → row_question l area slot offset n ≡ 24
  unfolding row_question
  row-outside h g = simp (h, g)

  pub row-is-good : fitting_of l (length area) ≡ true → outside_of l slot offset n ≡ false → row_question l area slot offset n ≡ 0
  unfolding row_question
  row-is-good h g = simp (h, g)

  good-from : (f o : Bool) → fitting_of l (length area) ≡ f → outside_of l slot offset n ≡ o
      → first {A = ℕ} ((not f ⇒ 2) ∷ (o ⇒ 24) ∷ []) 0 ≡ 0 → GoodRow l area slot offset n
  unfolding outside_of
  good-from false o p q h = absurd (omega arith)
  good-from true true p q h = absurd (omega arith)
  good-from true false p q h =
      let low : slot < l.k = leb-false l.k slot (none_first _ _ q) in
      let fit : offset + n ≤ l.c = ltb-false l.c (offset + n) (none_last (leb l.k slot) _ q) in
      let whole = fitting-whole l (length area) p in
      let end = slot-ends l.k l.c slot (offset + n) low fit in
      record { listed = low; inside = fit; ends = omega arith }

  -- a good row's payload stands in the area
  pub row-good : row_question l area slot offset n ≡ 0 → GoodRow l area slot offset n
  unfolding row_question
  row-good h = good-from (fitting_of l (length area)) (outside_of l slot offset n) refl refl h

  module _ (good : row_question l area slot offset n ≡ 0) where
    -- it is the part that begins at the row's offset in the slot
    pub payload-good : payload_of l area slot offset n ≡ part (slot * l.c + offset) n area
    unfolding payload_of
    payload-good = simp (eq-eqb (row_question l area slot offset n) 0 good)

    -- and goes to the decoder
    pub delta-good : payload_delta l area slot offset n ≡ delta_answer (decoded_of 256 (part (slot * l.c + offset) n area))
    unfolding payload_delta
    delta-good = simp (eq-eqb (row_question l area slot offset n) 0 good)

  module _ (refused : row_question l area slot offset n ≡ 0 → ⊥) where
    -- a row that isn't good has no payload
    pub payload-none : payload_of l area slot offset n ≡ []
    unfolding payload_of
    payload-none = simp (ne_eqb (row_question l area slot offset n) 0 refused)

    -- and gives its number
    pub delta-none : payload_delta l area slot offset n ≡ no_delta (row_question l area slot offset n)
    unfolding payload_delta
    delta-none = simp (ne_eqb (row_question l area slot offset n) 0 refused)
