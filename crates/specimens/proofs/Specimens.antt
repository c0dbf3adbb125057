-- The specimens hold, all by computation. Assumes nothing.
use mathlib.Core.Path.{◌≡◌, refl}
use Prim.Native.Nat.{ℕ, ◌+◌, ◌-◌, ◌*◌, ◌/◌}
use lib.Dec.{lit<}
use Rattle.lists.specs.Splice.{splice}
use Rattle.page.proofs.Page.{pad-rounded}
use Rattle.record.specs.Record.{record_room}
use Rattle.little_endian.specs.LittleEndian.{le_at, le_bytes, number_at}
use Rattle.segment_filename.specs.Words.{same, starts_with, ends_with}
use Rattle.segment_filename.specs.Digits.{digits, all_digits, value_from}
use Rattle.segment_filename.specs.Formatting.{name_of, format_of}
use Rattle.segment_filename.specs.Parsing.{parse_of}
use Rattle.keys.specs.Order.{compare_keys}
use Rattle.lists.specs.Each.{any}
use Rattle.lists.specs.Sort.{insert, sort}
use Rattle.keys.specs.Sorting.{clash}
use Rattle.delta.specs.Reading.{erase_at, reinstate_at, group, reinstates, reading, walk}
use Rattle.delta_encode.specs.Bytes.{concat, sum, delta_bytes, encoded_of}
use Rattle.specimens.specs.Specimens.{Specimens}

-- a record's room as the sum that rounds up, which computes
room : (n : ℕ) → record_room n ≡ (12 + n + (4096 - 1)) / 4096 * 4096
unfolding record_room
room n = pad-rounded 4096 (12 + n) (lit< tt)

-- the table
pub specimens : Specimens
unfolding name_of format_of parse_of same starts_with ends_with digits all_digits value_from le_at le_bytes number_at compare_keys
    any insert sort clash erase_at reinstate_at group reinstates reading walk concat sum delta_bytes encoded_of splice
specimens =
    record {
      one-page = room 4084;
      two-pages = room 4085;
      no_payload = room 0;
      name = refl;
      name-length = refl;
      largest = refl;
      too_large = refl;
      plus-sign = refl;
      empty-encoded = refl;
      empty-decoded = refl;
      erase-encoded = refl;
      erase-length = refl;
      erase-decoded = refl;
      reinstate-encoded = refl;
      reinstate-bytes = refl;
      reinstate-length = refl;
      reinstate-decoded = refl;
      both-decoded = refl;
      both-encoded = refl;
    }
