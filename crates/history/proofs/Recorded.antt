-- The invariant as a reader wants it said, and that no call answers 2 or 10: the proofs of specs/Recorded.antt's statements.
-- Assumes nothing.
use mathlib.Core.Bool.{true}
use mathlib.Core.List.{List, [], ◌∷◌, ◌++◌}
use mathlib.Core.Path.{◌≡◌, ap, subst, sym, refl, ◌∙◌}
use Prim.Native.Nat.{◌-◌, ℕ, ◌≤◌, ◌<◌, zero, suc, ◌+◌}
use native.Mathlib.Omega.{arith}
use lib.ListN.{length, get_or, drop, replicate}
use lib.Seq.{drop_at}
use Rattle.record.specs.Record.{record_bytes}
use lib.Dec.{eqb}
use borrow.Author.Tests.{eqb-true}
use Rattle.lists.proofs.Cases.{by-test}
use Rattle.seglog.proofs.Fit.{sizes-are}
use Rattle.seglog.specs.View.{View, log_of}
use Rattle.segment.specs.Segment.{no_segment, image_in}
use Rattle.seglog.specs.declared.Log.{Log}
use Rattle.segment.specs.declared.Segment.{Segment}
use Rattle.segment.specs.Chain.{Chain}
use Rattle.segment.proofs.Chain.{chain-map}
use Rattle.seglog_append.specs.Appending.{Left, append_answer, append_of}
use Rattle.lists.specs.Outcome.{Outcome, refused, done}
use Rattle.seglog_prune.specs.Prune.{Pruned, prune_answer, prune_oldest_of, prune_recent_of}
use Rattle.history.specs.History.{run, Held, begun, last_under, append, Call, refusal_of, oldest, recent}
use Rattle.walk.specs.Judging.{max_image}
use Rattle.walk.specs.Records.{records_from}
use Rattle.seglog_prune.specs.Cut.{find_cut, cut_in}
use Rattle.history.specs.Recorded.{segment_at, Recorded, RunsAreRecorded, RunsCutAsSearched, RunsNeverMeet2Or10}
use Rattle.history.proofs.Appends.{AppendKeeps, append-keeps}
use Rattle.history.proofs.Invariant.{Holds}
use Rattle.history.proofs.Prunes.{PruneKeeps, oldest-keeps, cut-stored, recent-keeps}
use Rattle.history.proofs.Records.{from_more}
use Rattle.history.proofs.Runs.{held_of, log-fitting, runs-keep, on-view, append-log, oldest-log, recent-log}
use Rattle.history.proofs.Slots.{Stored, newest-at}

-- what holds of each segment of a chain, by its number
chain-at : (P : Segment → Type 0) (gs : List Segment) (i a j b : ℕ) → Chain P i a gs j b → (n : ℕ) → n < length gs → P (get_or gs n no_segment)
chain-at P [] i a j b h n l = absurd (omega arith)
chain-at P (g ∷ gs) i a j b h zero l = h.0.good
chain-at P (g ∷ gs) i a j b h (suc n) l = chain-at P gs (i + 1) (g.max + 1) j b h.1 n (omega arith)

-- an entry in front
get_d_front : (gs hs : List Segment) (n : ℕ) → n < length gs → get_or (gs ++ hs) n no_segment ≡ get_or gs n no_segment
get_d_front [] hs n l = absurd (omega arith)
get_d_front (g ∷ gs) hs zero l = refl
get_d_front (g ∷ gs) hs (suc n) l = get_d_front gs hs n (omega arith)

-- ---- the invariant, entry by entry

module _ (a : View) (area : List ℕ) (f : ℕ → List ℕ) (h : Holds a area f) where
  -- the listed entry n
  abbrev entry : ℕ → Segment
  entry n = get_or (log_of a).segs n no_segment

  -- it is stored, and its ids are in order
  abbrev InOrder : Segment → Type 0
  InOrder g = Stored area f a.k a.c g × (g.min ≤ g.max)

  entry-stored : (n : ℕ) → n < length a.segs → InOrder (entry n)
  entry-stored n l =
      subst InOrder (sym (get_d_front a.segs (replicate (64 - length a.segs) no_segment) n l))
      (chain-at InOrder a.segs h.i h.b h.j (a.end + 1)
      (chain-map a.segs h.i h.b h.j (a.end + 1) (λ g order p. (p, order)) h.chain) n l)

  -- from newest_at on its image is its record max
  newest-bytes : (g : Segment) → InOrder g → drop g.newest_at (image_in area a.c g) ≡ record_bytes g.max (f g.max)
  newest-bytes g o =
      let front : List ℕ = records_from f g.min (g.max - g.min) in
      let one : g.max + 1 - g.min ≡ suc (g.max - g.min) = omega (arith, o.1) in
      let last : g.min + (g.max - g.min) ≡ g.max = omega (arith, o.1) in
      let is : image_in area a.c g ≡ front ++ record_bytes g.max (f g.max) =
      o.0.image ∙ ap (records_from f g.min) one ∙ from_more f g.min (g.max - g.min)
      ∙ ap (λ (n : ℕ). front ++ record_bytes n (f n)) last in
      ap (drop g.newest_at) is
      ∙ drop_at front (record_bytes g.max (f g.max)) g.newest_at (sym (newest-at area f a.k a.c g o.0 o.1))

  recorded_view : Recorded (held_of a area) f
  recorded_view =
      record {
        well-shaped = log-fitting a area f h (length area) h.all;
        images = λ n l. (entry-stored n l).0.image;
        newest = λ n l. newest-bytes (entry n) (entry-stored n l);
      }

  -- the look at its newest header finds what the search does; any other record is searched
  cut-view : (i n : ℕ) → i < length a.segs
      → cut_in (entry i) (image_in area a.c (entry i)) n ≡ find_cut (image_in area a.c (entry i)) n 0
  unfolding cut_in
  cut-view i n l =
      by-test (eqb (entry i).max n)
      (λ q.
      let o = entry-stored i l in
      let is : (entry i).max ≡ n = eqb-true (entry i).max n q in
      let slots : a.c ≤ max_image = (sizes-are a.k a.c a.m h.sizes).at_most in
      let cut = cut-stored area f a.k a.c slots n (entry i) o.0 (omega (arith, o.1)) (omega arith) in
      cut.newest ∙ sym cut.searched)
      (λ q. simp q)

-- any run of calls from a new log is recorded
pub runs-are-recorded : RunsAreRecorded
runs-are-recorded k c m area calls new =
    let t : Held = run (begun k c m area) calls in
    let f : ℕ → List ℕ = last_under (begun k c m area) calls in
    let came = runs-keep k c m area calls new in
    on-view (λ (x : Held). Recorded x f) t f came (recorded_view came.view t.area f came.holds)

-- after it the look at a segment's newest header finds what the search would
pub runs-cut-as-searched : RunsCutAsSearched
runs-cut-as-searched k c m area calls new t is =
    let f : ℕ → List ℕ = last_under (begun k c m area) calls in
    let came = runs-keep k c m area calls new in
    let CutsAlike : Held → Type 0 = λ (x : Held).
    (i n : ℕ) → i < x.log.count
    → cut_in (segment_at x i) (image_in x.area x.log.c (segment_at x i)) n ≡ find_cut (image_in x.area x.log.c (segment_at x i)) n 0 in
    subst CutsAlike (sym is)
    (on-view CutsAlike (run (begun k c m area) calls) f came
    (cut-view came.view (run (begun k c m area) calls).area f came.holds))

-- ---- never 2, never 10

abbrev Never : ℕ → Type 0
Never n = (n ≡ 2 → ⊥) × (n ≡ 10 → ⊥)

append-never : (f : ℕ → List ℕ) (p : List ℕ) (l : Log) (r : Outcome Left) → AppendKeeps f p r → Never (append_answer l r).refusal
append-never f p l (refused n) k = (λ z. omega (arith, k.0), λ z. omega (arith, k.1))
append-never f p l (done w) k = (λ z. omega arith, λ z. omega arith)

prune-never : (f : ℕ → List ℕ) (l : Log) (r : Outcome Pruned) → PruneKeeps f r → Never (prune_answer l r).refusal
prune-never f l (refused n) k = (λ z. omega (arith, k.0), λ z. omega (arith, k.1))
prune-never f l (done p) k = (λ z. omega arith, λ z. omega arith)

never-view : (a : View) (area : List ℕ) (f : ℕ → List ℕ) → Holds a area f → (call : Call) → Never (refusal_of (held_of a area) call)
never-view a area f h (append p) =
    subst (λ (r : Outcome Left). Never (append_answer (log_of a) r).refusal) (sym (append-log a area f h p))
    (append-never f p (log_of a) (append_of a area p) (append-keeps a area f p h))
never-view a area f h (oldest n) =
    subst (λ (r : Outcome Pruned). Never (prune_answer (log_of a) r).refusal) (sym (oldest-log a area f h n))
    (prune-never f (log_of a) (prune_oldest_of a true area n) (oldest-keeps a area f n h))
never-view a area f h (recent n) =
    subst (λ (r : Outcome Pruned). Never (prune_answer (log_of a) r).refusal) (sym (recent-log a area f h n))
    (prune-never f (log_of a) (prune_recent_of a true area n) (recent-keeps a area f n h))

-- after any run from a new log no call answers 2 or 10
pub runs-never-meet-2-or-10 : RunsNeverMeet2Or10
runs-never-meet-2-or-10 k c m area calls new call =
    let t : Held = run (begun k c m area) calls in
    let f : ℕ → List ℕ = last_under (begun k c m area) calls in
    let came = runs-keep k c m area calls new in
    on-view (λ (x : Held). Never (refusal_of x call)) t f came (never-view came.view t.area f came.holds call)
