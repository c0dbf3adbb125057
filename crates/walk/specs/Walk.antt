-- The walk of one image: its records from a state on, up to e's record, the image's end or the first fault. Laws: proofs/Walk.antt.
-- Assumes nothing.
use Rattle.std.specs.Prelude.{List, ◌&&◌, ℕ, ◌+◌, ◌-◌, length, leb, Result, Ok, Err}
use Rattle.lists.specs.Choice.{pick}
use Rattle.lists.specs.Until.{Turn, again, stop, until}
use Rattle.record.specs.declared.RecordHeader.{RecordHeader}
use Rattle.record.specs.Record.{header_at}
use Rattle.refusal.specs.declared.Refusal.{Refusal}
use Rattle.walk.specs.declared.Scan.{Scan}
use Rattle.walk.specs.declared.Fault.{Fault}
use Rattle.walk.specs.Judging.{judge_of, more_of}

-- a refusal of the walk, at the state where it stands
abbrev pub faulted : Refusal → Scan → Result Scan Fault
faulted r w = Err (record { refusal = r; scan = w })

-- a step as a turn of the walk: a fault stands at the state before it
abbrev pub route : Scan → Result Scan Refusal → Turn Scan (Result Scan Fault)
route w (Ok d) = again d
route w (Err r) = stop (faulted r w)

-- one turn, in an image of `size` bytes whose headers `read` answers: where no record is to be read the state is the answer
unfoldable pub walk_turn : ℕ → (ℕ → Result RecordHeader Refusal) → (s e : ℕ) → Scan → Turn Scan (Result Scan Fault)
walk_turn size read s e w = pick (more_of w size) (route w (judge_of size s e w (read w.pos))) (stop (Ok w))

-- the walk from a state on: it needs the image's size and headers, and no other byte
unfoldable pub walk_by : ℕ → (ℕ → Result RecordHeader Refusal) → (s e : ℕ) → Scan → Result Scan Fault
walk_by size read s e w = until (walk_turn size read s e) Ok (λ d. size - d.pos) w

-- the walk of an image's bytes
abbrev pub walk_of : List ℕ → (s e : ℕ) → Scan → Result Scan Fault
walk_of img s e w = walk_by (length img) (header_at img) s e w

-- ---- as far as the bytes at hand go

-- a step as a turn over the front of an image: a fault stops at the state before it
abbrev pub front_route : Scan → Result Scan Refusal → Turn Scan Scan
front_route w (Ok d) = again d
front_route w (Err r) = stop w

-- one turn over the front of an image of `size` bytes: it stops where a header does not lie in the front, and at a fault
unfoldable pub front_turn : List ℕ → (size s e : ℕ) → Scan → Turn Scan Scan
front_turn front size s e w =
    pick (more_of w size && leb (w.pos + 12) (length front)) (front_route w (judge_of size s e w (header_at front w.pos))) (stop w)

-- the state that the walk comes to there
unfoldable pub walk_front : List ℕ → (size s e : ℕ) → Scan → Scan
walk_front front size s e w = until (front_turn front size s e) (λ d. d) (λ d. size - d.pos) w
