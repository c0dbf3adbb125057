-- The statements that docs/PROMISES.md cites; proofs: Decide.antt, CutNewest.antt, PruneFrame.antt, PruneDepend.antt and PruneShape.antt in proofs/.
-- `length l.segs ≡ 64` is the array's type. Assumes nothing.
use Rattle.std.specs.Prelude.{◌≡◌, Bool, true, not, List, [], ◌∷◌, ℕ, ◌+◌, ◌*◌, ◌≤◌, length, ltb, eqb, Ok}
use Rattle.lists.specs.Choice.{◌⇒◌, first}
use Rattle.lists.specs.Outcome.{Outcome, done}
use Rattle.little_endian.specs.LittleEndian.{le_at}
use Rattle.page.specs.Page.{padded_end}
use Rattle.record.specs.Record.{max_payload}
use Rattle.walk.specs.Judging.{max_image}
use Rattle.lists.specs.Splice.{part, splice, slot_of}
use Rattle.segment.specs.declared.Segment.{Segment}
use Rattle.seglog.specs.declared.Log.{Log}
use Rattle.seglog.specs.View.{View, view_of, log_of, head_of}
use Rattle.seglog.specs.Fit.{fitting_of}
use Rattle.seglog_prune.specs.declared.Early.TheVariants.{Empty, Same}
use Rattle.seglog_prune.specs.Decide.{early_of}
use Rattle.seglog_prune.specs.Drop.{drop_new}
use Rattle.seglog_prune.specs.declared.Newest.{Newest}
use Rattle.seglog_prune.specs.Cut.{lost, cut_at}
use Rattle.seglog_prune.specs.Prune.{Pruned, pruned, oldest_log, recent_log, prune_answer, prune_area}

-- "argument 0 gives the empty log"
abbrev pub EarlyEmpties : Type 0
EarlyEmpties = (a : View) (fits : Bool) (n : ℕ) → fits ≡ true → n ≡ 0 → Ok Empty ≡ early_of a fits n

-- "on an empty log any argument gives the same log"
abbrev pub EarlyKeeps : Type 0
EarlyKeeps = (a : View) (fits : Bool) (n : ℕ) → fits ≡ true → (n ≡ 0 → ⊥) → length a.segs ≡ 0 → Ok Same ≡ early_of a fits n

-- beside a refusal's number stands the log given, and no byte is changed
abbrev pub RefusalKeeps : Type 0
RefusalKeeps =
    (l : Log) (area : List ℕ) (o : Outcome Pruned) → ((prune_answer l o).refusal ≡ 0 → ⊥)
    → ((prune_answer l o).log ≡ l) × (prune_area area o ≡ area)

-- prune oldest touches no byte
abbrev pub OldestBytes : Type 0
OldestBytes = (l : Log) (area : List ℕ) (n : ℕ) → prune_area area (oldest_log l area n) ≡ area

-- prune recent leaves every slot but that of the segment it cuts as it is
abbrev pub RecentOther : Type 0
RecentOther =
    (l : Log) (area : List ℕ) (n j : ℕ) → length l.segs ≡ 64 → ((head_of (drop_new n (view_of l).segs)).slot ≡ j → ⊥)
    → slot_of l.c j (prune_area area (recent_log l area n)) ≡ slot_of l.c j area

-- 10 at the newest record, condition by condition: the header's four length bytes and eight id bytes at a place of the image
unfoldable pub newest_cut : List ℕ → (n at : ℕ) → Outcome Newest
newest_cut img n at =
    let len : ℕ = le_at 4 img at in
    first
    ((ltb max_payload len ⇒ lost) ∷ (ltb (length img) (at + 12 + len) ⇒ lost) ∷ (not (eqb (le_at 8 img (at + 4)) n) ⇒ lost) ∷ [])
    (done (record { at = at; end = padded_end 4096 (at + 12 + len) }))

-- "It answers 10 if the id there isn't the one wanted, the length is above 2^30 or the payload ends past the size", and only then: so it
-- is wherever a header fits an image, as it does in each listed segment of a well-shaped log
abbrev pub NewestCutIs : Type 0
NewestCutIs = (img : List ℕ) (n at : ℕ) → at + 12 ≤ length img → length img ≤ max_image → cut_at img n at ≡ newest_cut img n at

-- the outcomes of a prune over two areas agree: the same answer, and the same bytes written at the same place
pub record Agree (l : Log) (area area' : List ℕ) (o o' : Outcome Pruned) : Type 0 where
  pub answer : prune_answer l o ≡ prune_answer l o'
  pub at : ℕ
  pub bytes : List ℕ
  pub written : prune_area area o ≡ splice at bytes area
  pub written' : prune_area area' o' ≡ splice at bytes area'

-- "A cut at a segment's max looks only at that header": where the last segment that prune recent keeps, g, ends with the record n, the
-- outcome depends on the area's length and the twelve bytes of its newest header, and on no other byte of the area
abbrev pub NewestCutDepends : Type 0
NewestCutDepends =
    (l : Log) (area area' : List ℕ) (n : ℕ) → length l.segs ≡ 64 → length area ≡ length area'
    → (g : Segment) → g ≡ head_of (drop_new n (view_of l).segs) → g.max ≡ n
    → part (g.slot * l.c + g.newest_at) 12 area ≡ part (g.slot * l.c + g.newest_at) 12 area'
    → Agree l area area' (recent_log l area n) (recent_log l area' n)

-- the log that prune oldest leaves is well shaped, and fits the area
abbrev pub OldestShaped : Type 0
OldestShaped =
    (l : Log) (area : List ℕ) (n : ℕ) (a : View) (after : List ℕ) → length l.segs ≡ 64
    → oldest_log l area n ≡ pruned a after → fitting_of (log_of a) (length after) ≡ true

-- and so is the log that prune recent leaves
abbrev pub RecentShaped : Type 0
RecentShaped =
    (l : Log) (area : List ℕ) (n : ℕ) (a : View) (after : List ℕ) → length l.segs ≡ 64
    → recent_log l area n ≡ pruned a after → fitting_of (log_of a) (length after) ≡ true
