-- `payload::payload` meets its contract: a good row's place is handed back, and of another row an empty part. Assumes nothing.
use Rattle.std.proofs.Common.{sym, ◌∙◌}
use Rattle.payload.proofs.Row.{row-refused, row-good, payload-good, payload-none}
use Rattle.payload.proofs.payload.Goals as goal

pub place-requires : goal.place-requires
place-requires c = row-good _ _ _ _ _ (sym c.in-Ok.ensures)

pub returns-in-Ok : goal.returns-in-Ok
returns-in-Ok c = c.place.ensures ∙ sym (payload-good _ _ _ _ _ (sym c.in-Ok.ensures))

pub returns-in-Err : goal.returns-in-Err
returns-in-Err c = sym (payload-none _ _ _ _ _ (λ h. row-refused c.in-Err.field-0 (c.in-Err.ensures ∙ h)))
