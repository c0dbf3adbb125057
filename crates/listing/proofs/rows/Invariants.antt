-- `listing::rows`: a line for each row that is left makes the whole text.
-- Assumes nothing.
use Rattle.std.proofs.Common.{◌≡◌}
use Rattle.listing.specs.Lines.{row_lines}
use Rattle.listing.proofs.Lines.{Rest}
use Rattle.listing.proofs.rows.Given as goal

abbrev pub invariant-loop-words : goal.invariant-loop-words
invariant-loop-words l =
    (l.words-iterator.iter.size ≡ 4)
    × Rest l.initial.text.end (row_lines l.count l.index) l.initial.text.out.now l.text.end l.words-iterator.n l.words-iterator.iter.rest.now
    l.text.out.now
    × (l.text.out.ghost_name ≡ l.initial.text.out.ghost_name)
