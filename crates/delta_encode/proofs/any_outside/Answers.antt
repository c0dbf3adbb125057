-- `delta_encode::any_outside` meets its contract: std's test of some element is that of the specification. Assumes nothing.
use Rattle.std.proofs.Common.{rules, ◌∙◌}
use Rattle.std.proofs.lemmas.Iterator.{YieldsList-from_slice}
use Rattle.std.proofs.lemmas.Iterator.Search.{any_from_yields_List}
use Rattle.delta_encode.specs.Bytes.{outside}
use Rattle.delta_encode.proofs.BytesOutside.{any-listed}
use Rattle.delta_encode.proofs.any_outside.Goals as goal

pub returns : goal.returns
returns c =
    any_from_yields_List (outside c.args.n) _ _ _ c.any.ensures.ran (YieldsList-from_slice c.args.rows.now cc) (λ x b q k. search rules)
    ∙ any-listed (outside c.args.n) c.args.rows.now
