-- `payload::payload_delta` meets its contract: a good row's place goes to the decoder, and another row gives its number. Assumes nothing.
use Rattle.std.proofs.Common.{List, ℕ, sym, ap, ◌∙◌}
use Rattle.lists.proofs.Outcome.{handed-on}
use Rattle.delta.specs.Reading.{decode_outcome, decoded_of}
use Rattle.payload.specs.Row.{row_number}
use Rattle.payload.specs.PayloadDelta.{no_delta, delta_answer}
use Rattle.payload.proofs.Row.{row-refused, row-good, delta-good, delta-none}
use Rattle.payload.proofs.payload_delta.Goals as goal

pub returns-in_err-row_question : goal.returns-in_err-row_question
returns-in_err-row_question c =
    let r = c.in_err-row_question.field-0.0 in
    let e = ap row_number (sym c.in_err-row_question.was) ∙ c.row_question.ensures in
    ap (λ d. delta_answer (decode_outcome d)) (handed-on c.from_residual.result r c.from_residual.ensures.1)
    ∙ ap no_delta e ∙ sym (delta-none _ _ _ _ _ (λ h. row-refused r (e ∙ h)))

pub place-requires : goal.place-requires
place-requires c = row-good _ _ _ _ _ (sym c.row_question.ensures ∙ ap row_number c.in_ok-row_question.was)

pub returns : goal.returns
returns c =
    ap delta_answer c.decode.ensures ∙ ap (λ (l : List ℕ). delta_answer (decoded_of 256 l)) c.place.ensures
    ∙ sym (delta-good _ _ _ _ _ (sym c.row_question.ensures ∙ ap row_number c.in_ok-row_question.was))
