-- Demand 3 for logs by their listed segments, as a statement: what recovering from the later log brings back.
-- Assumes nothing.
use mathlib.Core.Bool.{true}
use mathlib.Core.List.{List}
use mathlib.Core.Path.{◌≡◌, ap}
use Prim.Native.Nat.{ℕ, ◌*◌, ◌≤◌}
use lib.ListN.{length}
use Rattle.seglog.specs.View.{View, log_of, head_of}
use Rattle.segment.specs.declared.Segment.{Segment}
use Rattle.seglog_prune.specs.Prune.{prune_oldest_of, pruned, prune_recent_of}
use Rattle.recovery_walk.specs.Rows.{rows_all, pen_of}
use Rattle.segment.specs.declared.ImageRow.{ImageRow}
use Rattle.lists.specs.Outcome.{kept}
use Rattle.recovery.specs.Recovery.{Restored, recovery_of, recovered}
use Rattle.history.specs.Demand.{ids_in, rows_for}
use Rattle.history.proofs.Deliver.{delivered, items}
use Rattle.history.proofs.Invariant.{Holds}
use Rattle.history.proofs.Scans.{Has}

-- what recovering s to e from the later log gives, against the earlier one; f has what was last appended up to it
pub record Brings (a : View) (area : List ℕ) (z : View) (area' : List ℕ) (f : ℕ → List ℕ) (rows : List ImageRow)
    (s e room : ℕ) : Type 0 where
  pub log : View
  pub words : List ℕ
  -- it is accepted, and writes no byte of the area
  pub accepts : recovery_of z.k z.c z.m area' rows s e room ≡ recovered log area' words
  -- four words for each of s to e
  pub count : length words ≡ 4 * ids_in s e
  -- good rows with the payloads last appended under s to e, each once, in order
  pub payloads : delivered (log_of log) area' words ≡ items f s (ids_in s e)
  -- the log is the one that pruning at the earlier moment leaves
  pub older : View
  pub first : prune_oldest_of a true area s ≡ pruned older area
  pub then : prune_recent_of older true area e ≡ pruned log area
  -- the index words are those that the earlier images give
  pub same : words ≡ rows_all area a.c s e (rows_for a.segs) pen_of
  -- the invariant holds of both logs over the earlier area
  pub older-holds : Holds older area f
  pub log-holds : Holds log area f
  -- the images of the log that comes back give the same words, over the earlier area
  pub kept : rows_all area a.c s e (rows_for a.segs) pen_of ≡ rows_all area log.c s e (rows_for log.segs) pen_of
  -- the live range, and the live end between the two prunes
  pub older-end : older.end ≡ a.end
  pub start_is : log.start ≡ s
  pub end_is : log.end ≡ e
  -- the later log's segment whose image the last one is cut from, and that no padding is missing there
  pub cut-from : Segment
  pub cut-listed : Has cut-from z.segs
  pub cut-slot : (head_of log.segs).slot ≡ cut-from.slot
  pub cut-whole : (head_of log.segs).size ≤ cut-from.size

-- two accepted recoveries that are equal leave the same log and the same words
pub recovered-log : {a b : View} {x y ws us : List ℕ} → recovered a x ws ≡ recovered b y us → a ≡ b
recovered-log {a} q = ap (kept a (λ (r : Restored). r.log)) q

pub recovered-words : {a b : View} {x y ws us : List ℕ} → recovered a x ws ≡ recovered b y us → ws ≡ us
recovered-words {ws = ws} q = ap (kept ws (λ (r : Restored). r.words)) q
