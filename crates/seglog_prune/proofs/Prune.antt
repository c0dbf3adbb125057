-- The ways of the two prunes behind the shared tests, as the code takes them. Assumes nothing.
use mathlib.Core.Path.{◌≡◌, sym, ap, ◌∙◌, subst}
use mathlib.Core.Bool.{true}
use mathlib.Core.List.{List, [], ◌∷◌, ◌++◌, append_assoc}
use Prim.Native.Nat.{ℕ, suc, ◌+◌, ◌-◌, ◌*◌, ◌≤◌, ◌<◌}
use native.Mathlib.Omega.{arith}
use lib.ListN.{
  length,
  get_or,
  set,
  take,
  drop,
  replicate,
  length-append,
  length-take,
  length-drop,
  replicate-append-replicate,
  get_or-append,
}
use lib.Seq.{drop-append-le, take-take, get_or-take, take-suc}
use Rattle.std.specs.Prelude.{Result, Ok, Err}
use Rattle.refusal.specs.declared.Refusal.{Refusal}
use Rattle.refusal.specs.Refusals.{number}
use Rattle.segment.specs.declared.Segment.{Segment}
use Rattle.seglog.specs.declared.Log.{Log}
use Rattle.seglog.specs.View.{log_of, view_of, head_of, front_of, plain_of}
use Rattle.seglog.specs.Fit.{fitting_of}
use Rattle.lists.specs.Outcome.{refused, done}
use Rattle.segment.specs.Segment.{no_segment}
use Rattle.seglog.specs.New.{refused_log, accepted}
use Rattle.seglog.proofs.View.{log-view, entries_of, set-head, listed-length}
use Rattle.seglog.proofs.Fit.{SegmentGood}
use Rattle.seglog_prune.specs.declared.Early.{Early}
use Rattle.seglog_prune.specs.declared.Early.TheVariants.{Onward}
use Rattle.segment.specs.Segment.{image_in, ended_at, padded_to}
use Rattle.seglog_prune.specs.Decide.{early_of}
use Rattle.seglog_prune.specs.Drop.{drop_old, drop_new}
use Rattle.seglog_prune.specs.declared.Newest.{Newest}
use Rattle.seglog_prune.specs.Cut.{cut_in}
use Rattle.seglog_prune.specs.Prune.{
  pruned,
  outcome_of,
  started_at,
  prune_oldest_of,
  cut_off,
  prune_recent_of,
  oldest_log,
  recent_log,
  prune_answer,
  prune_area,
}
use Rattle.seglog_prune.specs.Steps.{settled_of, ended_log}
use Rattle.seglog_prune.proofs.Decide.{early-inner, plain-few, early-refused, early-settles}
use Rattle.seglog_prune.proofs.PruneInside.{InRange, in-range, slot-inside}

-- how far the shared tests lead
abbrev pub early_log : Log → List ℕ → ℕ → Result Early Refusal
early_log l area n = early_of (view_of l) (fitting_of l (length area)) n

-- ---- prune oldest

-- the answer and the area where the tests refuse
pub oldest-refused : (l : Log) (area : List ℕ) (n : ℕ) → length l.segs ≡ 64 → (r : Refusal) → Err r ≡ early_log l area n
    → (refused_log (number r) l ≡ prune_answer l (oldest_log l area n)) × (area ≡ prune_area area (oldest_log l area n))
unfolding oldest_log prune_oldest_of
oldest-refused l area n long r h = early-refused l area n _ long r h

-- where they accept
pub oldest-settled : (l : Log) (area : List ℕ) (n : ℕ) → length l.segs ≡ 64 → (e : Early) → Ok e ≡ early_log l area n
    → (e ≡ Onward → ⊥)
    → (accepted (settled_of l e) ≡ prune_answer l (oldest_log l area n)) × (area ≡ prune_area area (oldest_log l area n))
unfolding oldest_log prune_oldest_of
oldest-settled l area n long e h tag = early-settles l area n _ long e h tag

-- and where none does
pub oldest-drops : (l : Log) (area : List ℕ) (n : ℕ) → Ok Onward ≡ early_log l area n
    → oldest_log l area n ≡ pruned (started_at (view_of l) n (drop_old n (view_of l).segs)) area
unfolding oldest_log prune_oldest_of
oldest-drops l area n h = ap (outcome_of (view_of l) area (pruned (started_at (view_of l) n (drop_old n (view_of l).segs)) area)) (sym h)

-- the log as the code makes it: the entries from `first` on
pub started-is : (l : Log) (n first : ℕ) (segs : List Segment) → length l.segs ≡ 64 → plain_of l ≡ true → first ≤ l.count
    → drop_old n (take l.count l.segs) ≡ drop first (take l.count l.segs)
    → segs ≡ drop first l.segs ++ replicate first no_segment
    → ◌≡◌ {A = Log} (record { k = l.k; c = l.c; m = l.m; start = n; end = l.end; count = l.count - first; segs = segs })
    (log_of (started_at (view_of l) n (drop_old n (view_of l).segs)))
started-is l n first segs long plain within kept e =
    let gs : List Segment = take l.count l.segs in
    let few = plain-few l plain in
    let listed = listed-length l.count l.segs long few in
    let entries : l.segs ≡ gs ++ replicate (64 - length gs) no_segment = ap (λ (x : Log). x.segs) (sym (log-view l long plain)) in
    let many : length (drop first gs) ≡ l.count - first = length-drop first gs ∙ ap (λ (k : ℕ). k - first) listed in
    let room : 64 - length gs + first ≡ 64 - length (drop first gs) = omega arith in
    let count : l.count - first ≡ length (drop_old n gs) = sym (ap length kept ∙ many) in
    let same : segs ≡ drop_old n gs ++ replicate (64 - length (drop_old n gs)) no_segment =
    e ∙ ap (λ (x : List Segment). drop first x ++ replicate first no_segment) entries
    ∙ ap (λ (x : List Segment). x ++ replicate first no_segment)
    (drop-append-le first gs (replicate (64 - length gs) no_segment) (omega arith))
    ∙ append_assoc (drop first gs) (replicate (64 - length gs) no_segment) (replicate first no_segment)
    ∙ ap (λ (x : List Segment). drop first gs ++ x) (replicate-append-replicate (64 - length gs) first no_segment ∙ ap
    (λ (k : ℕ). replicate k no_segment) room)
    ∙ ap (λ (x : List Segment). x ++ replicate (64 - length x) no_segment) (sym kept) in
    λ i. record { k = l.k; c = l.c; m = l.m; start = n; end = l.end; count = count i; segs = same i }

-- ---- prune recent

-- the answer and the area where the tests refuse
pub recent-refused : (l : Log) (area : List ℕ) (n : ℕ) → length l.segs ≡ 64 → (r : Refusal) → Err r ≡ early_log l area n
    → (refused_log (number r) l ≡ prune_answer l (recent_log l area n)) × (area ≡ prune_area area (recent_log l area n))
unfolding recent_log prune_recent_of
recent-refused l area n long r h = early-refused l area n _ long r h

-- where they accept
pub recent-settled : (l : Log) (area : List ℕ) (n : ℕ) → length l.segs ≡ 64 → (e : Early) → Ok e ≡ early_log l area n
    → (e ≡ Onward → ⊥)
    → (accepted (settled_of l e) ≡ prune_answer l (recent_log l area n)) × (area ≡ prune_area area (recent_log l area n))
unfolding recent_log prune_recent_of
recent-settled l area n long e h tag = early-settles l area n _ long e h tag

-- none of the shared tests decides, and `left` segments stay
pub record Staying (l : Log) (area : List ℕ) (n left : ℕ) : Type 0 where
  pub long : length l.segs ≡ 64
  pub onward : Ok Onward ≡ early_log l area n
  pub few : left ≤ l.count
  pub kept : drop_new n (take l.count l.segs) ≡ take left l.segs

module _ (l : Log) (area : List ℕ) (n left : ℕ) (staying : Staying l area n left) where
  pub range : InRange l area n
  range = in-range l area n staying.long (early-inner (view_of l) (fitting_of l (length area)) n staying.onward)

  pub few-entries : l.count ≤ 64
  few-entries = omega (arith, range.fit.few, range.fit.sizes.few-slots)

  -- some segment stays
  pub left-some : 0 < left
  left-some = omega (arith, range.stays, ap length staying.kept, length-take left l.segs)

  -- the segment that is cut
  abbrev head : Segment
  head = get_or l.segs (left - 1) no_segment

  kept-length : length (take left l.segs) ≡ left
  kept-length = length-take left l.segs ∙ omega (arith, staying.long, few-entries, staying.few)

  front-is : front_of (drop_new n (take l.count l.segs)) ≡ take (left - 1) l.segs
  front-is =
      ap (λ (gs : List Segment). front_of gs) staying.kept ∙ ap (λ (k : ℕ). take (k - 1) (take left l.segs)) kept-length
      ∙ take-take (left - 1) left l.segs (omega arith)

  pub head-is : head_of (drop_new n (take l.count l.segs)) ≡ head
  head-is =
      ap (λ (gs : List Segment). head_of gs) staying.kept ∙ ap (λ (k : ℕ). get_or (take left l.segs) (k - 1) no_segment) kept-length
      ∙ get_or-take left l.segs (left - 1) no_segment (omega (arith, left-some))

  -- it is a good one, and its slot lies in the area
  pub head-good : SegmentGood l.k l.c head
  head-good = subst (SegmentGood l.k l.c) head-is range.good

  pub head-inside : head.slot * l.c + l.c ≤ length area
  head-inside = subst (λ (g : Segment). g.slot * l.c + l.c ≤ length area) head-is (slot-inside l area n range)

  recent-is : recent_log l area n
      ≡ cut_off (view_of l) area n (take (left - 1) l.segs) head (cut_in head (image_in area l.c head) n)
  unfolding recent_log prune_recent_of
  recent-is =
      ap (outcome_of (view_of l) area _) (sym staying.onward)
      ∙ ap (λ (g : Segment). cut_off (view_of l) area n (front_of (drop_new n (take l.count l.segs))) g
      (cut_in g (image_in area l.c g) n)) head-is
      ∙ ap (λ (hs : List Segment). cut_off (view_of l) area n hs head (cut_in head (image_in area l.c head) n)) front-is

  -- the cut is refused
  pub recent-refuses : (m : ℕ) → cut_in head (image_in area l.c head) n ≡ refused m → recent_log l area n ≡ refused m
  recent-refuses m e = recent-is ∙ ap (cut_off (view_of l) area n (take (left - 1) l.segs) head) e

  -- the cut x is found: the answer and the area
  pub recent-answer : (x : Newest) → cut_in head (image_in area l.c head) n ≡ done x
      → accepted (ended_log l left n x) ≡ prune_answer l (recent_log l area n)
  recent-answer x e = sym (ap (prune_answer l) (recent-is ∙ ap (cut_off (view_of l) area n (take (left - 1) l.segs) head) e))

  pub recent-area : (x : Newest) → cut_in head (image_in area l.c head) n ≡ done x
      → padded_to l.c area head x.end ≡ prune_area area (recent_log l area n)
  recent-area x e = sym (ap (prune_area area) (recent-is ∙ ap (cut_off (view_of l) area n (take (left - 1) l.segs) head) e))

-- the log as the code makes it: the first entries with the last one changed
pub ended_is : (l : Log) (left n : ℕ) (x : Newest) (all segs : List Segment) → length l.segs ≡ 64 → 0 < left → left ≤ 64
    → all ≡ take left l.segs ++ replicate (64 - left) no_segment → segs ≡ set all (left - 1) (ended_at (get_or all (left - 1) no_segment) n x.at x.end)
    → ◌≡◌ {A = Log} (record { k = l.k; c = l.c; m = l.m; start = l.start; end = n; count = left; segs = segs }) (ended_log l left n x)
ended_is l left n x all segs long some within e f =
    let hs : List Segment = take (left - 1) l.segs in
    let g : Segment = get_or l.segs (left - 1) no_segment in
    let g' : Segment = ended_at g n x.at x.end in
    let back : left ≡ suc (left - 1) = omega arith in
    let ends : take left l.segs ≡ hs ++ (g ∷ []) =
    ap (λ (k : ℕ). take k l.segs) back ∙ take-suc l.segs (left - 1) no_segment (omega arith) in
    let front : length hs ≡ left - 1 = length-take (left - 1) l.segs ∙ omega arith in
    let whole : length (take left l.segs) ≡ left = length-take left l.segs ∙ omega arith in
    let entries : all ≡ entries_of (hs ++ (g ∷ [])) =
    e ∙ ap (λ (k : ℕ). take left l.segs ++ replicate (64 - k) no_segment) (sym whole) ∙ ap (λ (x : List Segment). entries_of x) ends in
    let here : get_or all (left - 1) no_segment ≡ g =
    ap (λ (x : List Segment). get_or x (left - 1) no_segment) e
    ∙ get_or-append (take left l.segs) (replicate (64 - left) no_segment) no_segment (left - 1) (omega arith)
    ∙ get_or-take left l.segs (left - 1) no_segment (omega arith) in
    let same : segs ≡ entries_of (hs ++ (g' ∷ [])) =
    f ∙ ap (λ (h : Segment). set all (left - 1) (ended_at h n x.at x.end)) here ∙ ap (λ (y : List Segment). set y (left - 1) g') entries
    ∙ ap (λ (k : ℕ). set (entries_of (hs ++ (g ∷ []))) k g') (sym front) ∙ set-head hs g g' in
    let count : left ≡ length (hs ++ (g' ∷ [])) = sym (length-append hs (g' ∷ []) ∙ omega arith) in
    λ i. record { k = l.k; c = l.c; m = l.m; start = l.start; end = n; count = count i; segs = same i }
