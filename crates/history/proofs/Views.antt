-- Demand 3 for logs by their listed segments: a log z over area' that came from a over area by appends alone.
-- Assumes nothing.
use mathlib.Core.Bool.{true, false}
use mathlib.Core.List.{List, ◌++◌, ◌∷◌, [], map, map-append}
use mathlib.Core.Path.{◌≡◌, subst, sym, ◌∙◌, ap, refl}
use Prim.Native.Nat.{ℕ, ◌*◌, ◌-◌, ◌<◌, ◌≤◌, ◌+◌}
use native.Mathlib.Omega.{arith}
use lib.ListN.{length}
use borrow.Author.Tests.{lt-ltb, le-ltb, le-leb, eq-eqb, ne_eqb}
use Rattle.seglog.proofs.View.{front-snoc, head-snoc}
use Rattle.seglog.specs.View.{View, log_of, front_of, head_of}
use Rattle.seglog.specs.Fit.{fitting_of}
use Rattle.seglog.specs.New.{roomy_of}
use Rattle.segment.specs.declared.Segment.{Segment}
use Rattle.seglog_prune.specs.Drop.{drop_old, drop_new}
use Rattle.seglog_prune.specs.Prune.{prune_oldest_of, pruned, prune_recent_of, started_at}
use Rattle.seglog_prune.proofs.Decide.{Inner, prune-passes}
use Rattle.walk.specs.Judging.{max_image, start_of}
use Rattle.recovery_walk.specs.Images.{walked, images}
use Rattle.recovery_walk.specs.Rows.{rows_all, pen_of}
use Rattle.recovery_walk.specs.Scan.{scan_of, judged, live_count}
use Rattle.segment.specs.declared.ImageRow.{ImageRow}
use Rattle.image_rows.specs.ImageRows.{sort_rows, rows_fit, lowest_zero, one_apart}
use Rattle.recovery.specs.Recovery.{recovery_of, recovered, outcome_of, one_zero}
use Rattle.recovery.specs.Keeping.{kept_of}
use Rattle.recovery.proofs.Recovery.{recovered-rows}
use Rattle.seglog.proofs.Fit.{sizes-are}
use Rattle.segment.specs.Segment.{ended_at}
use Rattle.segment.specs.Chain.{Chain}
use Rattle.history.specs.Demand.{ids_in, rows_for, AnyOrder}
use Rattle.walk.specs.Records.{records_from}
use Rattle.seglog_prune.specs.declared.Newest.{Newest}
use Rattle.history.proofs.Cuts.{record_of}
use Rattle.history.proofs.Brings.{Brings}
use Rattle.history.proofs.OverStates.{place_of_e}
use Rattle.history.proofs.Read.{read_to, read-front, kept_read}
use Rattle.history.proofs.Deliver.{delivered, items, deliver-chain, live-items, items-agree}
use Rattle.history.proofs.Invariant.{Holds, some-live}
use Rattle.history.proofs.Kept.{Cutting, cut_all}
use Rattle.history.proofs.Later.{After, first-same, Grows, ended-grows}
use Rattle.history.proofs.OwnRows.{has-good, rising-rows, length-rows, inside-rows, apart-rows, lowest-rows, next-rows}
use Rattle.history.proofs.Prunes.{live-low, oldest-holds, New, newest_in, closed_by, at_new, ended_view, recent-is, ended-holds}
use Rattle.history.proofs.Records.{from-agree, from_front, splice-whole}
use Rattle.history.proofs.Runs.{log-fitting}
use Rattle.history.proofs.Same.{chain_same, old-rows}
use Rattle.history.proofs.Over.{Seen}
use Rattle.history.proofs.Scans.{start_seen, Through, through, rows_chain, rows-through}
use Rattle.history.proofs.Shape.{holds-few, sizes-few}
use Rattle.history.proofs.Slots.{Stored, newest-at}
use Rattle.lists.proofs.AnyOrder.{any-length}
use Rattle.history.proofs.Sorts.{sort-any, fit-any, apart-any}
use Rattle.recovery.specs.Recovery as R

module _ (a : View) (area : List ℕ) (z : View) (area' : List ℕ) (f f' : ℕ → List ℕ) (h : Holds a area f) (h' : Holds z area' f')
    (w : After a f z f') (s e : ℕ) (above : 0 < s) (order : s ≤ e) (from : a.start ≤ s) (to : e ≤ a.end) where
  abbrev Gt : Segment → Type 0
  Gt = Stored area f a.k a.c

  abbrev Gu : Segment → Type 0
  Gu = Stored area' f' z.k z.c

  some : 0 < length a.segs
  some = some-live a.segs a.start a.end h.j (omega arith) h.live

  inner : Inner a true s
  inner = record { good = refl; some = some; above = above; upper = omega arith; lower = from }

  low : h.b ≤ s
  low = omega (arith, live-low Gt a.segs h.i h.b a.start a.end h.j (a.end + 1) some h.chain h.live)

  same_first : h.b ≡ h'.b
  same_first =
      first-same Gt Gu a.segs z.segs h.i h.b h.j (a.end + 1) h'.i h'.b h'.j (z.end + 1) some w.grows h.chain
      h'.chain

  low' : h'.b ≤ s
  low' = omega (arith, low, same_first)

  -- ---- pruning at the earlier moment

  abbrev older : View
  older = started_at a s (drop_old s a.segs)

  old-holds : Holds older area f
  old-holds = oldest-holds a area f s h inner

  prunes-old : prune_oldest_of a true area s ≡ pruned older area
  unfolding prune_oldest_of
  prunes-old = prune-passes a true area s (pruned older area) inner

  inner' : Inner older true e
  inner' =
      record {
        good = refl;
        some = some-live (drop_old s a.segs) s a.end old-holds.j (omega arith) old-holds.live;
        above = omega arith;
        upper = to;
        lower = order;
      }

  cutting : Cutting e (drop_new e (drop_old s a.segs)) (kept_of s e z.segs) z.segs
  cutting =
      cut_all Gt Gu s e a.segs z.segs h.i h.b h.j (a.end + 1) h'.i h'.j (z.end + 1) low order (omega arith)
      h.chain
      (subst (λ (x : ℕ). Chain Gu h'.i x z.segs h'.j (z.end + 1)) (sym same_first) h'.chain) w.grows

  -- the log that comes back
  abbrev log : View
  log = record { k = z.k; c = z.c; m = z.m; start = s; end = e; segs = cutting.hs ++ (closed_by f cutting.g e ∷ []) }

  cut-found : New Gt old-holds.i old-holds.b e (drop_old s a.segs)
  cut-found = at_new older area f e old-holds inner'

  same_kept : cut-found.hs ++ (cut-found.g ∷ []) ≡ cutting.hs ++ (cutting.g ∷ [])
  same_kept = sym cut-found.kept ∙ cutting.new

  same-front : cut-found.hs ≡ cutting.hs
  same-front =
      sym (front-snoc cut-found.hs cut-found.g) ∙ ap (λ (l : List Segment). front_of l) same_kept
      ∙ front-snoc cutting.hs cutting.g

  same_head : cut-found.g ≡ cutting.g
  same_head =
      sym (head-snoc cut-found.hs cut-found.g) ∙ ap (λ (l : List Segment). head_of l) same_kept ∙ head-snoc cutting.hs cutting.g

  ended_is : ended_view older f e cut-found.hs cut-found.g ≡ log
  ended_is =
      ap (λ (l : List Segment). ended_view older f e l cut-found.g) same-front
      ∙ ap (λ (g : Segment). ended_view older f e cutting.hs g) same_head
      ∙ (λ i. record {
        k = sym w.k i;
        c = sym w.c i;
        m = sym w.m i;
        start = s;
        end = e;
        segs = cutting.hs ++ (closed_by f cutting.g e ∷ []);
      })

  prunes-new : prune_recent_of older true area e ≡ pruned log area
  unfolding prune_recent_of cut-found
  prunes-new =
      prune-passes older true area e _ inner' ∙ recent-is older area f e old-holds inner'
      ∙ ap (λ (x : View). pruned x area) ended_is

  log-holds : Holds log area f
  unfolding cut-found
  log-holds = subst (λ (x : View). Holds x area f) ended_is (ended-holds older area f e old-holds inner')

  -- it fits the later area too
  log-fits : fitting_of (log_of log) (length area') ≡ true
  log-fits = log-fitting log area f log-holds (length area') h'.all

  -- ---- the walk at the later moment

  slots : a.c ≤ max_image
  slots = (sizes-are a.k a.c a.m h.sizes).at_most

  slots' : z.c ≤ max_image
  slots' = (sizes-are z.k z.c z.m h'.sizes).at_most

  seen : Seen s e h'.b start_of
  seen = start_seen s e h'.b order h'.low low'

  walk : Through area' f' z.k z.c s e order z.segs h'.b (z.end + 1) start_of
  walk = through area' f' z.k z.c s e order slots' z.segs h'.i h'.b h'.j (z.end + 1) start_of h'.low h'.chain seen

  abbrev words : List ℕ
  words = rows_all area' z.c s e (rows_for z.segs) pen_of

  words_are : words ≡ rows_chain area' f' z.k z.c s e order z.segs
  words_are =
      rows-through area' f' z.k z.c s e order slots' z.segs h'.i h'.b h'.j (z.end + 1) start_of [] h'.low
      h'.chain seen

  -- the rows are those of the earlier images
  rows_same : words ≡ rows_all area a.c s e (rows_for a.segs) pen_of
  rows_same =
      words_are
      ∙ chain_same s e Gt Gu area area' f f' a.k a.c z.k z.c order a.segs z.segs h.i h.b h.j (a.end + 1) h'.i
      h'.b h'.j (z.end + 1) same_first (omega arith) h.chain h'.chain w.grows (λ i l. w.same i (omega arith))
      ∙ sym (rows-through area f a.k a.c s e order slots a.segs h.i h.b h.j (a.end + 1) start_of [] h.low h.chain
      (start_seen s e h.b order h.low low))

  -- and those of the log that comes back
  rows-kept : rows_all area a.c s e (rows_for a.segs) pen_of ≡ rows_all area log.c s e (rows_for log.segs) pen_of
  unfolding cut-found
  rows-kept =
      let lh = log-holds in
      let Gl : Segment → Type 0 = Stored area f log.k log.c in
      let some-kept = some-live log.segs s e lh.j (omega arith) lh.live in
      let lower = live-low Gl log.segs lh.i lh.b s e lh.j (e + 1) some-kept lh.chain lh.live in
      let grown : Grows log.segs (drop_old s a.segs) =
      subst (λ (gs : List Segment). Grows gs (drop_old s a.segs)) (ap (λ (x : View). x.segs) ended_is)
      (subst (λ (ys : List Segment). Grows (cut-found.hs ++ (closed_by f cut-found.g e ∷ [])) ys) (sym cut-found.is)
      (ended-grows f cut-found.hs cut-found.rest cut-found.g e cut-found.high)) in
      rows-through area f a.k a.c s e order slots a.segs h.i h.b h.j (a.end + 1) start_of [] h.low h.chain
      (start_seen s e h.b order h.low low)
      ∙ sym (old-rows s e area f a.k a.c order Gt a.segs h.i h.b h.j (a.end + 1) h.chain)
      ∙ chain_same s e Gl Gt area area f f log.k log.c a.k a.c order log.segs (drop_old s a.segs) lh.i lh.b lh.j
      (e + 1)
      old-holds.i old-holds.b old-holds.j (a.end + 1)
      (first-same Gl Gt log.segs (drop_old s a.segs) lh.i lh.b lh.j (e + 1) old-holds.i old-holds.b old-holds.j
      (a.end + 1)
      some-kept grown lh.chain old-holds.chain) (omega arith) lh.chain old-holds.chain grown (λ i l. refl)
      ∙ sym (rows-through area f log.k log.c s e order slots' log.segs lh.i lh.b lh.j (e + 1) start_of [] lh.low
      lh.chain
      (start_seen s e lh.b order lh.low lower))

  items-are : delivered (log_of log) area' words ≡ items f s (ids_in s e)
  items-are =
      ap (delivered (log_of log) area') words_are
      ∙ deliver-chain (log_of log) area' f' s e log-fits z.segs h'.i h'.b h'.j (z.end + 1) order h'.chain
      ∙ live-items f' s e (z.end + 1 - h'.b) h'.b low' order (omega (arith, w.end, low'))
      ∙ items-agree f' f (ids_in s e) s (λ i l u. w.same i (omega arith))

  -- ---- the head's size is the cut's

  head-stored : Gu cutting.y
  head-stored =
      has-good area' f' z.k z.c cutting.y z.segs h'.i h'.b h'.j (z.end + 1) h'.chain cutting.has

  head-is : place_of_e walk.d ≡ newest_in f' cutting.y e
  head-is = walk.head cutting.y cutting.has cutting.low cutting.high

  head-same : place_of_e walk.d ≡ newest_in f cutting.g e
  head-same =
      let from : ℕ = cutting.y.min in
      let same : (n : ℕ) → n ≤ e + 1 - from → length (records_from f' from n) ≡ length (records_from f from n) =
      λ n few. ap length (from-agree f' f from n (λ i l u. w.same i (omega (arith, cutting.low)))) in
      head-is ∙ (λ i. record { at = same (e - from) (omega arith) i; end = same (e + 1 - from) (omega arith) i })
      ∙ ap (λ (x : ℕ). record_of f x e) (sym cutting.more.min)

  whole : walk.d.end_of_e ≤ cutting.y.size
  whole =
      let y : Segment = cutting.y in
      let fit = from_front f' y.min (e + 1 - y.min) (y.max + 1 - y.min) (omega (arith, cutting.high)) in
      omega (arith, fit.0, ap (λ (x : Newest). x.end) head-is, head-stored.long)

  -- the segments that the walk saw, and of them the kept ones: the last of them up to e
  abbrev read : List Segment
  read = map (read_to f' e) z.segs

  kept-are : kept_of s e read ≡ cutting.hs ++ (read_to f' e cutting.y ∷ [])
  kept-are =
      let lh = log-holds in
      kept_read f' s e z.segs above order ∙ ap (map (read_to f' e)) cutting.kept
      ∙ map-append (read_to f' e) cutting.hs (cutting.y ∷ [])
      ∙ ap (λ (l : List Segment). l ++ (read_to f' e cutting.y ∷ []))
      (read-front (Stored area f log.k log.c) f' e cutting.hs (closed_by f cutting.g e ∷ []) lh.i lh.b lh.j (e + 1)
      lh.chain (omega arith)
      (λ g low high p.
      newest-at area f log.k log.c g p low
      ∙ sym (ap length (from-agree f' f g.min (g.max - g.min) (λ i l u. w.same i (omega arith))))))

  closed : R.closed_of z.k z.c z.m area' s e walk.d.start_of_e walk.d.end_of_e words (front_of (kept_of s e read)) (head_of (kept_of s e read))
      ≡ recovered log area' words
  closed =
      let y : Segment = read_to f' e cutting.y in
      let kept : List Segment = kept_of s e read in
      let front : front_of kept ≡ cutting.hs = ap (λ (l : List Segment). front_of l) kept-are ∙ front-snoc cutting.hs y in
      let head : head_of kept ≡ y = ap (λ (l : List Segment). head_of l) kept-are ∙ head-snoc cutting.hs y in
      let first-id : y.min ≡ cutting.g.min = simp (le-leb cutting.y.min e cutting.low) (sym cutting.more.min) in
      let last : ended_at y e walk.d.start_of_e walk.d.end_of_e ≡ closed_by f cutting.g e =
      λ i. record {
        id = sym cutting.more.id i;
        slot = sym cutting.more.slot i;
        size = (head-same i).end;
        min = first-id i;
        max = e;
        newest_at = (head-same i).at;
      } in
      ap (λ (l : List Segment). R.closed_of z.k z.c z.m area' s e walk.d.start_of_e walk.d.end_of_e words l (head_of kept)) front
      ∙ ap (λ (x : Segment). R.closed_of z.k z.c z.m area' s e walk.d.start_of_e walk.d.end_of_e words cutting.hs x) head
      ∙ (λ i. recovered (record { k = z.k; c = z.c; m = z.m; start = s; end = e; segs = cutting.hs ++ (last i ∷ []) })
      (splice-whole (y.slot * z.c + y.size) walk.d.end_of_e y.size area' whole i) words)

  -- ---- the tests pass

  module _ (rows : List ImageRow) (room : ℕ) (any : AnyOrder rows (rows_for z.segs)) (enough : 4 * ids_in s e ≤ room) where
    sorted : sort_rows rows ≡ rows_for z.segs
    sorted = sort-any h'.i rows (rows_for z.segs) any (rising-rows Gu z.segs h'.i h'.b h'.j (z.end + 1) h'.chain)

    scanned : scan_of area' z.c s e (sort_rows rows) room ≡ walked walk.d read
    unfolding scan_of judged
    scanned =
        let b = walk.seen.start ∙ lt-ltb s (z.end + 1) (omega (arith, w.end)) in
        let x = walk.seen.end ∙ lt-ltb e (z.end + 1) (omega (arith, w.end)) in
        ap (λ (l : List ImageRow). judged s e room (images area' z.c s e l start_of)) sorted ∙ ap (judged s e room) walk.is
        ∙ simp (b, x, le-ltb room (4 * live_count s e) enough)

    fit : rows_fit z.k z.c rows ≡ true
    unfolding rows_fit
    fit =
        let few : length rows ≤ 64 =
        omega (
          arith,
          any-length rows (rows_for z.segs) any,
          length-rows z.segs,
          holds-few z area' f' h',
          sizes-few z.k z.c z.m h'.sizes,
        ) in
        let inside = inside-rows area' f' z.k z.c z.segs h'.i h'.b h'.j (z.end + 1) h'.chain in
        simp (
          le-leb (length rows) 64 few,
          fit-any z.k z.c rows (rows_for z.segs) any inside,
          apart-any rows (rows_for z.segs) any (apart-rows z.segs ∙ h'.apart),
        )

    in-front : recovery_of z.k z.c z.m area' rows s e room
        ≡ outcome_of z.k z.c z.m area' s e (sort_rows rows) (scan_of area' z.c s e (sort_rows rows) room)
    unfolding recovery_of roomy_of one_zero
    in-front =
        let one : lowest_zero (sort_rows rows) ≡ false =
        ap lowest_zero sorted ∙ lowest-rows area' f' z.k z.c z.segs h'.i h'.b h'.j (z.end + 1) h'.first h'.chain in
        let two : one_apart (sort_rows rows) ≡ true =
        ap one_apart sorted ∙ next-rows area' f' z.k z.c z.segs h'.i h'.b h'.j (z.end + 1) h'.chain in
        simp (
          h'.sizes,
          eq-eqb (length area') (z.k * z.c) h'.all,
          ne_eqb s 0 (λ y. omega arith),
          ne_eqb e 0 (λ y. omega arith),
          le-ltb e s order,
          fit,
          one,
          two,
        )

    accepted : recovery_of z.k z.c z.m area' rows s e room ≡ recovered log area' words
    accepted =
        in-front ∙ ap (outcome_of z.k z.c z.m area' s e (sort_rows rows)) scanned
        ∙ ap (λ (l : List ImageRow). R.closed_of z.k z.c z.m area' s e walk.d.start_of_e walk.d.end_of_e (rows_all area' z.c s e l pen_of)
        (front_of (kept_of s e read)) (head_of (kept_of s e read))) sorted ∙ closed

    -- demand 3, by views
    pub brings : Brings a area z area' f rows s e room
    brings =
        let last : head_of log.segs ≡ closed_by f cutting.g e = head-snoc cutting.hs (closed_by f cutting.g e) in
        record {
          log = log;
          words = words;
          accepts = accepted;
          count = (recovered-rows z.k z.c z.m area' rows s e room log area' words (λ y. omega arith) accepted).count;
          payloads = items-are;
          older = older;
          first = prunes-old;
          then = prunes-new;
          same = rows_same;
          older-holds = old-holds;
          log-holds = log-holds;
          kept = rows-kept;
          older-end = refl;
          start_is = refl;
          end_is = refl;
          cut-from = cutting.y;
          cut-listed = cutting.has;
          cut-slot = ap (λ (x : Segment). x.slot) last ∙ cutting.more.slot;
          cut-whole = omega (arith, ap (λ (x : Segment). x.size) last, ap (λ (x : Newest). x.end) head-same, whole);
        }
