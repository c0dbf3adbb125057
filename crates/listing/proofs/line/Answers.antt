-- `listing::line`: the words, and a line end.
-- Assumes nothing.
use Rattle.text.proofs.Texts.{put-join}
use Rattle.listing.proofs.line.Goals as goal

pub returns-clause-put : goal.returns-clause-put
returns-clause-put c = put-join c.row.ensures.put c.put.ensures.text
