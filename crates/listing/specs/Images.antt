-- The image rows of a log's segments. Assumes nothing.
use Rattle.std.specs.Prelude.{map}
use Rattle.segment.specs.declared.Segment.{Segment}
use Rattle.seglog.specs.declared.Log.{Log}
use Rattle.segment.specs.declared.ImageRow.{ImageRow}
use Rattle.image_rows.specs.declared.Rows.{Rows}

-- the row of a segment's image
abbrev pub image_row_of : Segment → ImageRow
image_row_of g = record { id = g.id; slot = g.slot; size = g.size }

-- a row for each entry; as many are listed as segments
abbrev pub images_of : Log → Rows
images_of log = record { count = log.count; rows = map image_row_of log.segs }
