-- `listing::images_of`: the closure gives each segment's row.
-- Assumes nothing.
use Rattle.std.proofs.Common.{◌≡◌, arith, ap, length, ℕ, ◌<◌, get_or, rules}
use Rattle.segment.specs.Segment.{no_segment, no_row}
use Rattle.listing.specs.Images.{image_row_of}
use Rattle.listing.proofs.Images.{mapped-whole}
use Rattle.listing.proofs.images_of.Goals as goal

pub returns : goal.returns
returns c =
    let segs = c.args.log.segs in
    let rows = c.map-rows.result in
    let full : length segs ≡ 64 = search rules in
    let long : length rows ≡ 64 = search rules in
    let each : (i : ℕ) → i < length segs → get_or rows i no_row ≡ image_row_of (get_or segs i no_segment) =
    λ i l.
    let gives = (c.map-rows.ensures.items.at i no_segment no_row (omega arith)).2.met in search (rules, gives) in
    ap (λ l. record { count = c.args.log.count; rows = l }) (mapped-whole segs rows (omega arith) each)
