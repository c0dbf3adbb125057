-- `listing::row`: the words, one behind the other.
-- Assumes nothing.
use Rattle.text.proofs.Texts.{put-join}
use Rattle.listing.proofs.row.Goals as goal

pub returns-clause-put : goal.returns-clause-put
returns-clause-put c =
    put-join (put-join (put-join c.put_number.ensures.text c.put_named.ensures.text) c.put_named-2.ensures.text) c.put_named-3.ensures.text
