-- What `decode` answers is determined by what it comes to: a number, or the bytes consumed and the rows. Assumes nothing.
use mathlib.Core.Path.{◌≡◌, refl, ap, sym, ◌∙◌}
use Rattle.std.specs.Prelude.{Result, Ok, Err}
use Rattle.lists.proofs.Outcome.{refused-is-not-done, refused-injective, done-injective}
use Rattle.refusal.specs.declared.Refusal.{Refusal}
use Rattle.refusal.proofs.Refusals.{numbers-differ}
use Rattle.delta.specs.Reading.{DecodeOutcome, decode_outcome}
use Rattle.delta.specs.Table.{ordered}
use Rattle.delta.specs.declared.Decoded.{Decoded}
use Rattle.delta.specs.declared.Table.{Table}

answer_in : (a b : Result Decoded Refusal) → decode_outcome a ≡ decode_outcome b → (decode_outcome a).answer ≡ (decode_outcome b).answer
answer_in a b e = ap (λ (o : DecodeOutcome). o.answer) e

pub decode-determined : (a b : Result Decoded Refusal) → decode_outcome a ≡ decode_outcome b → a ≡ b
decode-determined (Ok d) (Ok f) e =
    let n : d.consumed ≡ f.consumed = done-injective (answer_in (Ok d) (Ok f) e) in
    let t : d.table ≡ f.table = ap (λ (o : DecodeOutcome). o.table) e in
    ap Ok (λ i. record { consumed = n i; table = t i })
decode-determined (Ok d) (Err r) e = refused-is-not-done (sym (answer_in (Ok d) (Err r) e))
decode-determined (Err r) (Ok d) e = refused-is-not-done (answer_in (Err r) (Ok d) e)
decode-determined (Err r) (Err x) e = ap Err (numbers-differ r x (refused-injective (answer_in (Err r) (Err x) e)))

-- what `in_order` answers, and the table afterwards, are determined by what it comes to, where a refusal leaves the table
pub order-determined : (t u v : Table) (a b : Result (Unit {0}) Refusal) → ordered a u ≡ ordered b v
    → ((r : Refusal) → a ≡ Err r → u ≡ t) → ((r : Refusal) → b ≡ Err r → v ≡ t) → (a ≡ b) × (u ≡ v)
order-determined t u v (Ok x) (Ok y) e f g = (refl, done-injective e)
order-determined t u v (Ok x) (Err r) e f g = refused-is-not-done (sym e)
order-determined t u v (Err r) (Ok x) e f g = refused-is-not-done e
order-determined t u v (Err r) (Err x) e f g = (ap Err (numbers-differ r x (refused-injective e)), f r refl ∙ sym (g x refl))
