-- Recovering the whole live range gives back the log itself, the empty one too: the proof of specs/Corollaries.antt's statement.
-- Assumes nothing.
use mathlib.Core.Bool.{true}
use mathlib.Core.List.{List, [], ◌∷◌, ◌++◌}
use mathlib.Core.Path.{◌≡◌, refl, ap, ◌∙◌, sym, subst}
use Prim.Native.Nat.{◌-◌, ℕ, ◌+◌, ◌<◌, ◌≤◌, ◌*◌, ◌/◌}
use native.Mathlib.Omega.{arith}
use lib.Dec.{eqb}
use lib.ListN.{length, length-append}
use borrow.Author.Tests.{le-ltb, eq-eqb, eqb-true, eqb-false}
use Rattle.lists.proofs.Cases.{by-test}
use Rattle.seglog.specs.View.{View, log_of, empty_of}
use Rattle.seglog.specs.Fit.{sizes_of}
use Rattle.seglog.specs.New.{roomy_of}
use Rattle.segment.specs.declared.Segment.{Segment}
use Rattle.seglog_prune.specs.Drop.{drop_old, drop_new, keep_at}
use Rattle.seglog_prune.specs.Prune.{prune_oldest_of, pruned, started_at, prune_recent_of}
use Rattle.segment.specs.declared.ImageRow.{ImageRow}
use Rattle.segment.specs.Chain.{Chain}
use Rattle.segment.proofs.Chain.{chain-le, chain_snoc}
use Rattle.lists.specs.Each.{all, linked}
use Rattle.lists.specs.Distinct.{distinct}
use Rattle.lists.specs.Sort.{sort}
use Rattle.image_rows.specs.ImageRows.{rows_fit, lowest_zero}
use Rattle.recovery.specs.Recovery.{recovery_answer, recovery_of, recovered, one_zero}
use Rattle.history.specs.Corollaries.{live_count, WholeRangeGivesTheLog}
use Rattle.history.specs.Demand.{AnyOrder, rows_for, ids_in, recovering, listed}
use Rattle.history.specs.History.{Held, last_under, begun}
use Rattle.walk.specs.Records.{records_from}
use Rattle.history.proofs.Invariant.{Live, Holds, some-live}
use Rattle.history.proofs.Later.{after-refl}
use Rattle.seglog_prune.proofs.Decide.{Inner, prune-passes, pruned-same}
use Rattle.history.proofs.Prunes.{live-low, at_new, closed_by, recent-is}
use Rattle.history.proofs.Runs.{Any, held_of, listed-log, Came, runs-keep, on-view}
use Rattle.history.proofs.Slots.{Stored, newest-at}
use Rattle.history.proofs.Brings.{Brings}
use Rattle.history.proofs.Views.{brings}

-- the first segment holds the live start, so none is dropped
old-none : (s e j : ℕ) (gs : List Segment) → Live s e j gs → drop_old s gs ≡ gs
unfolding drop_old
old-none s e j [] l = refl
old-none s e j (g ∷ []) l = refl
old-none s e j (g ∷ x ∷ gs) l = simp (le-ltb g.max s l.1)

-- the last segment holds the live end, so none is dropped
new-all : (P : Segment → Type 0) (gs : List Segment) (i b n j : ℕ) → Chain P i b gs j (n + 1) → drop_new n gs ≡ gs
unfolding drop_new
new-all P [] i b n j h = refl
new-all P (g ∷ gs) i b n j h = ap (keep_at n g) (new-all P gs (i + 1) (g.max + 1) n j h.1) ∙ kept gs h.1
  where
    kept : (hs : List Segment) → Chain P (i + 1) (g.max + 1) hs j (n + 1) → keep_at n g hs ≡ g ∷ hs
    kept [] c = simp (le-ltb n g.min (omega (arith, h.0.min, h.0.order, c.1)))
    kept (x ∷ hs) c = refl

module _ (a : View) (area : List ℕ) (f : ℕ → List ℕ) (h : Holds a area f) where
  abbrev P : Segment → Type 0
  P = Stored area f a.k a.c

  module _ (live : 0 < a.end) where
    some : 0 < length a.segs
    some = some-live a.segs a.start a.end h.j live h.live

    -- the live range of a log that has a segment
    pub start-above : 0 < a.start
    start-above =
        omega (arith, h.low, live-low P a.segs h.i h.b a.start a.end h.j (a.end + 1) some h.chain h.live)

    -- the live start is not above the live end
    pub start-order : a.start ≤ a.end
    start-order = under a.segs some h.chain h.live
      where
        under : (gs : List Segment) → 0 < length gs → Chain P h.i h.b gs h.j (a.end + 1) → Live a.start a.end h.j gs
            → a.start ≤ a.end
        under [] s c l = absurd (omega arith)
        under (g ∷ gs) s c l = omega (arith, l.1, chain-le P gs (h.i + 1) (g.max + 1) h.j (a.end + 1) c.1)

    -- prune oldest to the live start leaves the log
    pub oldest-whole : prune_oldest_of a true area a.start ≡ pruned a area
    unfolding prune_oldest_of
    oldest-whole =
        prune-passes a true area a.start (pruned (started_at a a.start (drop_old a.start a.segs)) area)
        (record { good = refl; some = some; above = start-above; upper = start-order; lower = omega arith })
        ∙ ap (λ (gs : List Segment). pruned (started_at a a.start gs) area) (old-none a.start a.end h.j a.segs h.live)

    -- prune recent to the live end leaves the log
    pub recent-whole : prune_recent_of a true area a.end ≡ pruned a area
    unfolding prune_recent_of
    recent-whole =
        let w : Inner a true a.end = record { good = refl; some = some; above = live; upper = omega arith; lower = start-order } in
        let t = at_new a area f a.end h w in
        let split : t.hs ++ (t.g ∷ []) ≡ a.segs = sym t.kept ∙ new-all P a.segs h.i h.b a.end h.j h.chain in
        let ends =
        chain_snoc P t.hs t.g h.i h.b h.j (a.end + 1)
        (subst (λ (gs : List Segment). Chain P h.i h.b gs h.j (a.end + 1)) (sym split) h.chain) in
        let max : t.g.max ≡ a.end = omega (arith, ends.max) in
        let long : length (records_from f t.g.min (a.end + 1 - t.g.min)) ≡ t.g.size =
        sym (t.good.long ∙ ap (λ (n : ℕ). length (records_from f t.g.min (n + 1 - t.g.min))) max) in
        let newest : length (records_from f t.g.min (a.end - t.g.min)) ≡ t.g.newest_at =
        sym (newest-at area f a.k a.c t.g t.good ends.order
        ∙ ap (λ (n : ℕ). length (records_from f t.g.min (n - t.g.min))) max) in
        let same : closed_by f t.g a.end ≡ t.g =
        λ i. record { id = t.g.id; slot = t.g.slot; size = long i; min = t.g.min; max = sym max i; newest_at = newest i } in
        prune-passes a true area a.end _ w ∙ recent-is a area f a.end h w
        ∙ ap (λ (g : Segment). pruned (started_at a a.start (t.hs ++ (g ∷ []))) area) same
        ∙ ap (λ (gs : List Segment). pruned (started_at a a.start gs) area) split

  -- recovering from a log's own images, with nothing appended since
  pub brings-self : (s e : ℕ) → 0 < s → s ≤ e → a.start ≤ s → e ≤ a.end → (rows : List ImageRow) (room : ℕ)
      → AnyOrder rows (rows_for a.segs)
      → 4 * ids_in s e ≤ room → Brings a area a area f rows s e room
  brings-self s e above order from to rows room any enough =
      brings a area a area f f h h (after-refl a f) s e above order from to rows room any enough

  -- what pruning to the whole live range leaves is the log
  pub whole-log : 0 < a.end → (z : View) (area' : List ℕ) (rows : List ImageRow) (s e room : ℕ) → a.start ≡ s → a.end ≡ e
      → (d : Brings a area z area' f rows s e room) → d.log ≡ a
  whole-log live z area' rows s e room p q d =
      let old : a ≡ d.older =
      pruned-same _ _ area area (sym (oldest-whole live) ∙ ap (prune_oldest_of a true area) p ∙ d.first) in
      pruned-same _ _ area area
      (sym d.then ∙ ap (λ (x : View). prune_recent_of x true area e) (sym old) ∙ ap (prune_recent_of a true area) (sym q) ∙ recent-whole
      live)

  whole-some : 0 < a.end → (rows : List ImageRow) → AnyOrder rows (rows_for a.segs) → (index : List ℕ)
      → 4 * ids_in a.start a.end ≤ length index
      → recovery_answer (recovering (held_of a area) rows a.start a.end index)
      ≡ record { refusal = 0; rows = ids_in a.start a.end; log = log_of a }
  whole-some live rows any index room =
      let d = brings-self a.start a.end (start-above live) (start-order live) (omega arith) (omega arith) rows
      (length index) any room in
      let count : length d.words / 4 ≡ ids_in a.start a.end = ap (λ (n : ℕ). n / 4) d.count ∙ omega arith in
      let log : log_of d.log ≡ log_of a = ap log_of (whole-log live a area rows a.start a.end (length index) refl refl d) in
      ap recovery_answer d.accepts ∙ (λ i. record { refusal = 0; rows = count i; log = log i })

  -- ---- the empty log

  empty-is : a.end ≡ 0 → a ≡ empty_of a.k a.c a.m
  empty-is none = go a.segs refl h.chain h.live
    where
      go : (gs : List Segment) → a.segs ≡ gs → Chain P h.i h.b gs h.j (a.end + 1) → Live a.start a.end h.j gs
          → a ≡ empty_of a.k a.c a.m
      go [] p c l = λ i. record { k = a.k; c = a.c; m = a.m; start = l.0 i; end = l.1 i; segs = p i }
      go (g ∷ gs) p c l =
          absurd (omega (arith, h.low, c.0.order, chain-le P gs (h.i + 1) (g.max + 1) h.j (a.end + 1) c.1))

no_rows_lem : (rows : List ImageRow) → AnyOrder rows [] → rows ≡ []
no_rows_lem [] any = refl
no_rows_lem (r ∷ rs) any =
    absurd (omega (arith, ap length any.whole, length-append any.before (r ∷ any.behind)))

recover-empty : (k c m : ℕ) (area : List ℕ) (room : ℕ) → sizes_of k c m ≡ true → length area ≡ k * c
    → recovery_of k c m area [] 0 0 room ≡ recovered (empty_of k c m) area []
unfolding recovery_of roomy_of one_zero rows_fit all distinct sort lowest_zero linked
recover-empty k c m area room sizes all = simp (sizes, eq-eqb (length area) (k * c) all)

whole-none : (k c m : ℕ) (area : List ℕ) → sizes_of k c m ≡ true → length area ≡ k * c → (rows : List ImageRow) → AnyOrder rows []
    → (index : List ℕ)
    → recovery_answer (recovering (held_of (empty_of k c m) area) rows 0 0 index)
    ≡ record { refusal = 0; rows = 0; log = log_of (empty_of k c m) }
whole-none k c m area sizes all rows any index =
    ap (λ (l : List ImageRow). recovery_answer (recovering (held_of (empty_of k c m) area) l 0 0 index)) (no_rows_lem rows any)
    ∙ ap recovery_answer (recover-empty k c m area (length index) sizes all)

-- ---- both

abbrev GivesBack : Held → Type 0
GivesBack t =
    (rows : List ImageRow) → AnyOrder rows (rows_for (listed t.log)) → (index : List ℕ) → 4 * live_count t.log ≤ length index
    → recovery_answer (recovering t rows t.log.start t.log.end index)
    ≡ record { refusal = 0; rows = live_count t.log; log = t.log }

whole-view : (a : View) (area : List ℕ) (f : ℕ → List ℕ) → Holds a area f → GivesBack (held_of a area)
whole-view a area f h =
    by-test (eqb a.end 0)
    (λ q.
    let is = empty-is a area f h (eqb-true a.end 0 q) in
    subst (λ (x : View). GivesBack (held_of x area)) (sym is)
    (λ rows any index room. whole-none a.k a.c a.m area h.sizes h.all rows any index))
    (λ q rows any index room.
    let own : AnyOrder rows (rows_for a.segs) = subst (λ (gs : List Segment). AnyOrder rows (rows_for gs)) (listed-log a) any in
    let live : 0 < a.end = omega (arith, eqb-false a.end 0 q) in
    let count : live_count (log_of a) ≡ ids_in a.start a.end = simp q in
    whole-some a area f h live rows own index (omega (arith, count))
    ∙ (λ i. record { refusal = 0; rows = sym count i; log = log_of a }))

-- recovering the whole live range gives back the log
pub whole-range-gives-the-log : WholeRangeGivesTheLog
whole-range-gives-the-log k c m area calls new t is =
    let f : ℕ → List ℕ = last_under (begun k c m area) calls in
    let came : Came Any t f = subst (λ (x : Held). Came Any x f) (sym is) (runs-keep k c m area calls new) in
    on-view GivesBack t f came (whole-view came.view t.area f came.holds)
