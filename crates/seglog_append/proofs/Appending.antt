-- The laws of append: what it answers and writes once the place is decided, which bytes of the area change, and the target slot's bytes
-- afterwards. Each is said of any log and area, whatever the outcome. Assumes nothing.
use Rattle.std.proofs.Common.{◌≡◌, ℕ, ◌+◌, ◌*◌, ◌<◌, ◌≤◌, true, eqb, List, [], ◌∷◌, ◌++◌, length, set, sym, refl, ap, ◌∙◌, subst, arith, length-append}
use Rattle.lists.specs.Choice.{pick}
use Rattle.lists.specs.Outcome.{Outcome, refused, done, either}
use Rattle.lists.specs.Splice.{part, splice, slot_of}
use Rattle.lists.proofs.Splice.{splice-length, splice-before, splice-after, splice-slot, splice-grow}
use Rattle.record.specs.Record.{record_room, record_bytes}
use Rattle.record.proofs.Record.{room-ge, record-length}
use Rattle.segment.specs.declared.Segment.{Segment}
use Rattle.segment.specs.Segment.{ended_at}
use Rattle.segment.proofs.Cut.{slot-inside}
use Rattle.segment_rw.specs.Writer.{fits_slot, size_after, Wrote}
use Rattle.segment_rw.proofs.Writer.{fits-yes, record-in, area-is}
use Rattle.seglog.specs.declared.Log.{Log}
use Rattle.seglog.specs.View.{View, log_of, view_of}
use Rattle.seglog.specs.Fit.{fitting_of}
use Rattle.seglog.proofs.View.{entries_of, listed-length}
use Rattle.seglog.proofs.Fit.{fitting-is}
use Rattle.seglog_append.specs.declared.Place.{Place}
use Rattle.seglog_append.specs.Deciding.{target_of, before_of, place_of, decide_log}
use Rattle.seglog_append.specs.Appending.{grown_of, start_after, with_record, record_into, Left, left_of, append_of, append_log}
use Rattle.seglog_append.specs.Appending.{refused_append, taken, append_answer, append_area, advanced_by, advanced_of, grown_answer, GrownPre}
use Rattle.seglog_append.specs.Promised.{AppendAdvances}
use Rattle.seglog_append.proofs.Deciding.{Allowed, Accepted, few-listed, spot, view-outcomes, decide-outcomes, decided}

-- ---- the outcome

-- what holds of each refusal from 3 on, and of what is left, holds of an append to a well-shaped log
pub append-view-outcomes : (a : View) (area p : List ℕ) (Q : Outcome Left → Type 0) → ((n : ℕ) → 2 < n → Q (refused n))
    → (Allowed a (length p) → Q (done (left_of a area p))) → Q (append_of a area p)
unfolding append_of
append-view-outcomes a area p Q bad good =
    view-outcomes a (length p) (λ (o : Outcome Place). Q (either refused (λ s. done (left_of a area p)) o)) bad good

module _ (l : Log) (area p : List ℕ) where
  -- what holds of each refusal, and of what is left, holds of an append
  pub append-outcomes : (Q : Outcome Left → Type 0) → ((n : ℕ) → 1 < n → Q (refused n))
      → (Accepted l (length area) (length p) → Q (done (left_of (view_of l) area p))) → Q (append_log l area p)
  unfolding append_log
  append-outcomes Q bad good =
      decide-outcomes l (length area) (length p)
      (λ (o : Outcome Place). Q (either refused (λ s. done (left_of (view_of l) area p)) o)) bad good

  -- to a log that fits, an append is one to its listed segments
  pub append-fits : fitting_of l (length area) ≡ true → append_log l area p ≡ append_of (view_of l) area p
  unfolding append_log append_of decide_log
  append-fits h = simp h

  -- what was refused is refused
  pub append-refused : (n : ℕ) → decide_log l (length area) (length p) ≡ refused n → append_log l area p ≡ refused n
  unfolding append_log
  append-refused n e = rw e refl

  -- and what has a place is done
  pub append-done : (s : Place) → decide_log l (length area) (length p) ≡ done s → append_log l area p ≡ done (left_of (view_of l) area p)
  unfolding append_log
  append-done s e = rw e refl

-- ---- the log with the record

module _ (l : Log) (bytes n : ℕ) (long : length l.segs ≡ 64) where
  abbrev v : View
  v = view_of l

  -- what was decided can be stored
  pub decided-ready : (s : Place) → decide_log l bytes n ≡ done s → GrownPre l s
  decided-ready s e =
      let k = decided l bytes n s e in
      record {
        more = k.0.allowed.more;
        entry = omega (arith, (spot l bytes n long k.0).few, ap (λ (x : Place). x.at) k.1);
      }

  log_is : (size : ℕ) → Accepted l bytes n → size ≡ (target_of v).size + record_room n
      → grown_answer l (place_of v n) size ≡ record { id = l.end + 1; log = log_of (with_record v n) }
  log_is size ok grown =
      let t : Segment = target_of v in
      let there = spot l bytes n long ok in
      let y : Segment = grown_of t (record_room n) (l.end + 1) in
      let segs : set l.segs (length (before_of v)) (ended_at t (l.end + 1) t.size size) ≡ entries_of (before_of v ++ (y ∷ [])) =
      there.stores (ended_at t (l.end + 1) t.size size)
      ∙ ap (λ (z : ℕ). entries_of (before_of v ++ (ended_at t (l.end + 1) t.size z ∷ []))) grown in
      let count : length (before_of v) + 1 ≡ length (before_of v ++ (y ∷ [])) = omega (arith, length-append (before_of v) (y ∷ [])) in
      let start : pick (eqb l.count 0) (l.end + 1) l.start ≡ start_after v =
      ap (λ (z : ℕ). pick (eqb z 0) (l.end + 1) l.start)
      (sym (listed-length l.count l.segs long (few-listed l bytes long ok.fits))) in
      λ j. record {
        id = l.end + 1;
        log = record { k = l.k; c = l.c; m = l.m; start = start j; end = l.end + 1; count = count j; segs = segs j };
      }

  -- the answer of a place that was decided, where the target has grown by the record's room
  pub grown-answer : (s : Place) (size : ℕ) → decide_log l bytes n ≡ done s → size ≡ s.target.size + s.room
      → taken (grown_answer l s size) ≡ advanced_of l bytes n
  grown-answer s size e grown =
      let k = decided l bytes n s e in
      ap (λ (x : Place). taken (grown_answer l x size)) k.1
      ∙ ap taken (log_is size k.0 (grown ∙ ap (λ (x : Place). x.target.size + x.room) k.1))
      ∙ sym (ap (advanced_by l n) e)

  -- a refusal
  pub advance-refused : (m : ℕ) → decide_log l bytes n ≡ refused m → refused_append l m ≡ advanced_of l bytes n
  advance-refused m e = sym (ap (advanced_by l n) e)

  -- a record that has its place ends in its slot
  pub decided-room : (s : Place) → decide_log l bytes n ≡ done s → s.target.size + s.room ≤ 2147483648
  decided-room s e =
      let k = decided l bytes n s e in
      let low = (fitting-is l bytes long k.0.fits).sizes.at_most in
      let size = (spot l bytes n long k.0).size in
      let room = k.0.allowed.room in
      omega (arith, ap (λ (x : Place). x.target.size) k.1, ap (λ (x : Place). x.room) k.1)

-- an append answers what was foretold
pub append-advances : AppendAdvances
unfolding append_log
append-advances l area p = go (decide_log l (length area) (length p))
  where
    go : (o : Outcome Place)
        → append_answer l (either refused (λ s. done (left_of (view_of l) area p)) o) ≡ advanced_by l (length p) o
    go (refused n) = refl
    go (done s) = refl

-- ---- the record written

module _ (l : Log) (area p : List ℕ) (long : length l.segs ≡ 64) where
  abbrev w : View
  w = view_of l

  -- what a writer does at the place, where nothing refuses
  module _ (ok : Accepted l (length area) (length p)) where
    abbrev t : Segment
    t = target_of w

    written : fits_slot l.c t.slot t.size (record_room (length p)) (length p) (length area) ≡ true
    written =
        let held = fitting-is l (length area) long ok.fits in
        let there = spot l (length area) (length p) long ok in
        fits-yes l.c t.slot t.size (record_room (length p)) (length p) (length area)
        (record {
          small = ok.allowed.small;
          holds = room-ge (length p);
          room-inside = omega (arith, there.size, ok.allowed.room);
          slot-inside = slot-inside l.k l.c t.slot (length area) there.slot held.area;
        })

    wrote_at : (size : ℕ) (after : List ℕ) → Wrote l.c t.slot t.size (record_room (length p)) (l.end + 1) p area size after
        → (size ≡ t.size + record_room (length p)) × (after ≡ record_into w p area)
    unfolding size_after
    wrote_at size after wrote = (
      wrote.size_is ∙ simp written,
      wrote.area-is ∙ area-is l.c t.slot t.size (record_room (length p)) (l.end + 1) p area written
          ∙ ap (λ (x : List ℕ). splice (t.slot * l.c + t.size) x area) (record-in (record_room (length p)) (l.end + 1) p refl),
    )

  -- what a writer did at a place that was decided
  abbrev pub WroteAt : Place → ℕ → List ℕ → Type 0
  WroteAt s size after = Wrote l.c s.target.slot s.target.size s.room (l.end + 1) p area size after

  module _ (s : Place) (e : decide_log l (length area) (length p) ≡ done s) (size : ℕ) (after : List ℕ) where
    wrote-decided : WroteAt s size after → (size ≡ s.target.size + s.room) × (after ≡ record_into w p area)
    wrote-decided =
        let k = decided l (length area) (length p) s e in
        subst (λ (x : Place). WroteAt x size after → (size ≡ x.target.size + x.room) × (after ≡ record_into w p area)) (sym k.1)
        (wrote_at k.0 size after)

    -- the answer, as the code makes it
    pub put-answer : WroteAt s size after → taken (grown_answer l s size) ≡ append_answer l (append_log l area p)
    put-answer wrote =
        grown-answer l (length area) (length p) long s size e (wrote-decided wrote).0 ∙ sym (append-advances l area p)

    -- the area
    pub put-area : WroteAt s size after → after ≡ append_area area (append_log l area p)
    put-area wrote = (wrote-decided wrote).1 ∙ ap (append_area area) (sym (append-done l area p s e))

-- ---- the area

module _ (l : Log) (area p : List ℕ) where
  abbrev target : Segment
  target = target_of (view_of l)

  abbrev after : List ℕ
  after = append_area area (append_log l area p)

  -- where the record goes
  abbrev place : ℕ
  place = target.slot * l.c + target.size

  -- the area keeps its length
  pub append-length : length after ≡ length area
  append-length =
      append-outcomes l area p (λ o. length (append_area area o) ≡ length area) (λ n h. refl)
      (λ ok. splice-length place (record_bytes (l.end + 1) p) area)

  -- "Only the bytes from the old size to the new padded size change": a part in front of them stays
  pub append-before : (at n : ℕ) → at + n ≤ place → part at n after ≡ part at n area
  append-before at n h =
      append-outcomes l area p (λ o. part at n (append_area area o) ≡ part at n area) (λ n h. refl)
      (λ ok. splice-before place (record_bytes (l.end + 1) p) area at n h)

  -- and a part behind them
  pub append-behind : (at n : ℕ) → place + record_room (length p) ≤ at → part at n after ≡ part at n area
  append-behind at n h =
      append-outcomes l area p (λ o. part at n (append_area area o) ≡ part at n area) (λ n h. refl)
      (λ ok. splice-after place (record_bytes (l.end + 1) p) area at n (omega (arith, record-length (l.end + 1) p)))

  module _ (long : length l.segs ≡ 64) where
    -- the target lies in its slot, and its slot in the area
    inside : Accepted l (length area) (length p)
        → (target.size + record_room (length p) ≤ l.c) × (target.slot * l.c + l.c ≤ length area)
    inside ok =
        let fit = fitting-is l (length area) long ok.fits in
        let there = spot l (length area) (length p) long ok in (
          omega (arith, there.size, ok.allowed.room),
          slot-inside l.k l.c target.slot (length area) there.slot fit.area,
        )

    -- every other slot stays as it is
    pub append-others : (j : ℕ) → (target.slot ≡ j → ⊥) → slot_of l.c j after ≡ slot_of l.c j area
    append-others j apart =
        append-outcomes l area p (λ o. slot_of l.c j (append_area area o) ≡ slot_of l.c j area) (λ n h. refl)
        (λ ok.
        splice-slot l.c target.slot j place (record_bytes (l.end + 1) p) area (omega arith)
        (omega (arith, (inside ok).0, record-length (l.end + 1) p)) apart)

    -- where a record is accepted, the slot's bytes up to the new size are the old ones up to the old size and then the record's bytes
    pub append-image : (append_answer l (append_log l area p)).refusal ≡ 0
        → part (target.slot * l.c) (target.size + record_room (length p)) after
        ≡ part (target.slot * l.c) target.size area ++ record_bytes (l.end + 1) p
    append-image =
        append-outcomes l area p
        (λ o. (append_answer l o).refusal ≡ 0
        → part (target.slot * l.c) (target.size + record_room (length p)) (append_area area o)
        ≡ part (target.slot * l.c) target.size area ++ record_bytes (l.end + 1) p)
        (λ n h z. absurd (omega arith))
        (λ ok z.
        ap (λ (n : ℕ). part (target.slot * l.c) (target.size + n) (splice place (record_bytes (l.end + 1) p) area))
        (sym (record-length (l.end + 1) p))
        ∙ splice-grow place (record_bytes (l.end + 1) p) area (omega (arith, (inside ok).0, (inside ok).1, record-length (l.end + 1) p))
        (target.slot * l.c) target.size refl)
