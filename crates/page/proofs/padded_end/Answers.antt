-- `page::padded_end` meets its contract: its sum fits, and what it works out is the next multiple, by `pad-rounded`.
-- Assumes nothing.
use mathlib.Core.Path.{sym}
use lib.Dec.{lit<}
use Rattle.page.proofs.Page.{pad-rounded}
use Rattle.page.proofs.padded_end.Goals as goal

pub returns : goal.returns
returns c =
    rw c.from.ensures (sym (pad-rounded 4096 c.args.end (lit< tt)))
