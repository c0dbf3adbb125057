-- `folders::path_into`: the folder, a slash and the name, one behind the other.
-- Assumes nothing.
use Rattle.std.proofs.Common.{rules}
use Rattle.text.proofs.Texts.{put-join}
use Rattle.folders.proofs.path_into.Goals as goal

pub returns : goal.returns
returns c =
    let whole = put-join (put-join c.put.ensures.text c.put-2.ensures.text) c.put-3.ensures.text in search (rules, whole)
