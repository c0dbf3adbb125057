-- `text::Text::put_named`: a number behind a word: both are one text.
-- Assumes nothing.
use Rattle.text.proofs.Texts.{put-join}
use Rattle.text.proofs.Text.put_named.Goals as goal

pub returns-clause-text : goal.returns-clause-text
returns-clause-text c = put-join c.put.ensures.text c.put_number.ensures.text
