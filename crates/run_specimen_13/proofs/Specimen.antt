-- Specimen 13's three lines, worked out. Assumes nothing.
use mathlib.Core.Path.{refl}
use Rattle.text.specs.Decimal.{decimal_in}
use Rattle.listing.specs.Lines.{row_lines}
use Rattle.run_specimen_13.specs.Specimen.{Specimen13}

pub specimen-13 : Specimen13
unfolding decimal_in row_lines
specimen-13 = refl
