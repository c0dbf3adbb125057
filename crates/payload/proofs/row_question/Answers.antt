-- `payload::row_question` meets its contract: each `return` is a case of the definition. Assumes nothing.
use Rattle.std.proofs.Common.{sym, ◌∙◌}
use Rattle.payload.proofs.Row.{row-unshaped, row-outside, row-is-good}
use Rattle.payload.proofs.row_question.Goals as goal

pub returns-then-not-fits : goal.returns-then-not-fits
returns-then-not-fits c = sym (row-unshaped _ _ _ _ _ (sym c.fits.ensures ∙ c.if-not-fits.true))

pub returns-then-outside : goal.returns-then-outside
returns-then-outside c = sym (row-outside _ _ _ _ _ (sym c.fits.ensures ∙ c.if-not-fits.false) (sym c.outside.ensures ∙ c.if-outside.true))

pub returns : goal.returns
returns c = sym (row-is-good _ _ _ _ _ (sym c.fits.ensures ∙ c.if-not-fits.false) (sym c.outside.ensures ∙ c.if-outside.false))
