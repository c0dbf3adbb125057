-- Demand 3 for images that were read back into any slots of any area: the proof of specs/Relocation.antt's second statement.
-- Assumes nothing.
use mathlib.Core.Bool.{Bool, true, false, not}
use mathlib.Core.List.{List, [], ◌∷◌, ◌++◌}
use mathlib.Core.Logic.{⊎_elim}
use mathlib.Core.Path.{◌≡◌, refl, ap, sym, subst, ◌∙◌}
use Prim.Native.Nat.{ℕ, suc, ◌+◌, ◌*◌, ◌≤◌, ◌<◌}
use native.Mathlib.Omega.{arith}
use lib.Dec.{ltb}
use lib.ListN.{length, drop, length-append, length-drop}
use lib.Seq.{drop_at}
use Rattle.lists.specs.Choice.{pick}
use Rattle.lists.proofs.Bools.{zero-is-not-one}
use Rattle.segment.specs.declared.Segment.{Segment}
use Rattle.segment.specs.declared.ImageRow.{ImageRow}
use Rattle.seglog.specs.declared.Log.{Log}
use Rattle.seglog.specs.View.{View, empty_of, head_of}
use Rattle.seglog.specs.New.{roomy_of}
use Rattle.seglog_prune.proofs.PruneFrame.{padded-none}
use Rattle.image_rows.specs.ImageRows.{sort_rows, rows_fit}
use Rattle.image_rows.proofs.ImageRows.{fit_is, sort-apart}
use Rattle.segment.specs.Segment.{ended_at}
use Rattle.recovery_walk.specs.Images.{row_at}
use Rattle.lists.specs.Outcome.{refused}
use Rattle.recovery.specs.Recovery.{Recovery, recovered, recovery_of, recovery_answer, recovery_area, recovery_index, one_zero}
use Rattle.history.specs.Demand.{row_for, rows_for, listed, recovering, ids_in, Delivers, earlier}
use Rattle.history.specs.History.{Held, run, appends, told, last_under, begun}
use Rattle.history.specs.Relocation.{images_of, placeless_log, SameImages, DeliversElsewhere, Demand3Elsewhere}
use Rattle.lists.proofs.AnyOrder.{any-refl}
use Rattle.history.proofs.OwnRows.{rising-rows}
use Rattle.history.proofs.Runs.{Came, Any, listed-log, runs-keep}
use Rattle.history.proofs.Scans.{Has}
use Rattle.history.proofs.Slots.{Stored}
use Rattle.history.proofs.Sorts.{sort-any}
use Rattle.history.proofs.Theorem.{later-came, brings-held, accepts-held, delivers-held}
use Rattle.history.proofs.Brings.{Brings, recovered-log, recovered-words}
use Rattle.history.proofs.RelocationOutcome.{Alike, both-refuse, both-empty, both-close, recovery-alike}
use Rattle.history.proofs.Relocation.{relocation, moved-long, one-slot, head-good}

-- an accepted recovery has passed 1 and 13
accepted-passes : (k c m : ℕ) (area : List ℕ) (rows : List ImageRow) (s e room : ℕ)
    → (recovery_answer (recovery_of k c m area rows s e room)).refusal ≡ 0
    → (roomy_of k c m (length area) ≡ true) × (rows_fit k c rows ≡ true)
unfolding recovery_of
accepted-passes k c m area rows s e room h =
    go (roomy_of k c m (length area)) (one_zero s e) (ltb e s) (rows_fit k c rows) refl refl _ h
  where
    go : (x o t f : Bool) → roomy_of k c m (length area) ≡ x → rows_fit k c rows ≡ f → (rest : Recovery)
        → (recovery_answer (pick (not x) (refused 1) (pick o (refused 11) (pick t (refused 12) (pick (not f) (refused 13) rest))))).refusal
        ≡ 0
        → (roomy_of k c m (length area) ≡ true) × (rows_fit k c rows ≡ true)
    go false o t f p q rest h = absurd (omega arith)
    go true true t f p q rest h = absurd (omega arith)
    go true false true f p q rest h = absurd (omega arith)
    go true false false false p q rest h = absurd (omega arith)
    go true false false true p q rest h = (p, q)

-- the row of a listed segment, by its number
record RowOf (g : Segment) (rs : List ImageRow) : Type 0 where
  i : ℕ
  below : i < length rs
  is : row_at rs i ≡ row_for g

row-of : (g : Segment) (gs : List Segment) → Has g gs → RowOf g (rows_for gs)
row-of g [] h = absurd h
row-of g (x ∷ gs) h = ⊎_elim (λ q. here q) (λ m. on (row-of g gs m)) h
  where
    here : g ≡ x → RowOf g (rows_for (x ∷ gs))
    here q = record { i = 0; below = omega arith; is = ap (λ (y : Segment). row_for y) (sym q) }

    on : RowOf g (rows_for gs) → RowOf g (rows_for (x ∷ gs))
    on t = record { i = suc t.i; below = omega (arith, t.below); is = t.is }

module _ (t : Held) (f : ℕ → List ℕ) (came : Came Any t f) (further : List (List ℕ)) (s e : ℕ) (above : 0 < s) (order : s ≤ e)
    (from : t.log.start ≤ s) (to : e ≤ t.log.end) (index : List ℕ) (enough : 4 * ids_in s e ≤ length index) where
  abbrev u : Held
  u = run t (appends further)

  abbrev z : View
  z = (later-came t f came further).view

  -- the later log's rows, in their own order
  abbrev own : List ImageRow
  own = rows_for (listed u.log)

  own_is : own ≡ rows_for z.segs
  own_is =
      ap (λ (x : Log). rows_for (listed x)) (later-came t f came further).packed ∙ ap (λ (gs : List Segment). rows_for gs) (listed-log z)

  own-sorted : sort_rows own ≡ own
  own-sorted =
      let h = (later-came t f came further).holds in
      let P : Segment → Type 0 = Stored u.area (told f t (appends further)) z.k z.c in
      ap sort_rows own_is
      ∙ sort-any h.i (rows_for z.segs) (rows_for z.segs) (any-refl (rows_for z.segs))
      (rising-rows P z.segs h.i h.b h.j (z.end + 1) h.chain)
      ∙ sym own_is

  -- what recovering from them brings, and delivers
  d : Brings came.view t.area z u.area f own s e (length index)
  d = brings-held t f came further s e own (length index) above order from to (any-refl own) enough

  gives : Delivers t u f s e index (recovering u own s e index)
  gives = delivers-held t f came further s e own index above order from to (any-refl own) enough

  accepts : recovering u own s e index ≡ recovered d.log u.area d.words
  accepts = accepts-held t f came further s e own index d

  passes : (roomy_of u.log.k u.log.c u.log.m (length u.area) ≡ true) × (rows_fit u.log.k u.log.c own ≡ true)
  passes = accepted-passes u.log.k u.log.c u.log.m u.area own s e (length index) gives.accepts

  module _ (k c m : ℕ) (area : List ℕ) (rows : List ImageRow) (roomy : roomy_of k c m (length area) ≡ true) (fit : rows_fit k c rows ≡ true)
      (images : images_of area c (sort_rows rows) ≡ images_of u.area u.log.c own) where
    same : SameImages u.log.k u.log.c u.log.m u.area own k c m area rows
    same =
        record {
          roomy = passes.0;
          roomy' = roomy;
          fit = passes.1;
          fit' = fit;
          images = ap (images_of u.area u.log.c) own-sorted ∙ sym images;
        }

    abbrev outcome : Recovery
    outcome = recovery_of k c m area rows s e (length index)

    -- what relocation leaves open: the index behind the rows, and the area
    record Rest (o : Recovery) : Type 0 where
      long : length (recovery_index index o) ≡ length index
      later-words : drop (4 * ids_in s e) (recovery_index index o) ≡ drop (4 * ids_in s e) index
      area_same : recovery_area area o ≡ area

    rest : (o o' : Recovery) → recovering u own s e index ≡ o
        → Alike u.log.k u.log.c u.log.m u.area own k c m area rows s e o o' → Rest o'
    rest o o' q both-refuse = let p = sym accepts ∙ q in zero-is-not-one (cc)
    rest o o' q both-empty =
        let p = sym q ∙ accepts in
        let empty : empty_of u.log.k u.log.c u.log.m ≡ d.log = recovered-log p in
        absurd (omega (arith, ap (λ (v : View). v.start) empty, d.start_is))
    rest o o' q (both-close {a} {a'} {after} {after'} {ws} {ws'} start end segs moved left left' x size) =
        let p = sym q ∙ accepts in
        let log : a ≡ d.log = recovered-log p in
        let words : ws ≡ d.words = recovered-words p in
        let count : length ws' ≡ 4 * ids_in s e = sym (moved-long moved) ∙ ap length words ∙ d.count in
        record {
          long = length-append ws' (drop (length ws') index) ∙ omega (arith, length-drop (length ws') index);
          later-words =
              ap (λ (n : ℕ). drop n (ws' ++ drop (length ws') index)) (sym count)
              ∙ drop_at ws' (drop (length ws') index) (length ws') refl ∙ ap (λ (n : ℕ). drop n index) count;
          area_same = left'.bytes ∙ padded-none c area left'.g left'.x (omega (arith, x, size, whole log));
        }
      where
        -- in the later log itself no padding is missing
        whole : a ≡ d.log → left.x ≤ left.g.size
        whole log =
            let head : head_of d.log.segs ≡ ended_at left.g e left.at left.x = sym (ap (λ (v : View). head_of v.segs) log) ∙ left.last in
            let good =
            head-good u.log.k u.log.c u.log.m u.area own s e (length index) passes.1 a after ws q left in
            let g = left.row (λ y. omega (arith, good.some_id, ap (λ (h : Segment). h.id) left.last)) in
            let r = subst (RowOf d.cut-from) (sym (own-sorted ∙ own_is)) (row-of d.cut-from z.segs d.cut-listed) in
            let slot : left.g.slot ≡ d.cut-from.slot = sym (ap (λ (h : Segment). h.slot) head) ∙ d.cut-slot in
            let one : g.i ≡ r.i =
            one-slot (sort_rows own) g.i r.i (sort-apart own (fit_is u.log.k u.log.c own passes.1).apart) g.below
            r.below
            (sym g.slot ∙ slot ∙ sym (ap (λ (y : ImageRow). y.slot) r.is)) in
            let size : left.g.size ≡ d.cut-from.size =
            g.size ∙ ap (λ (i : ℕ). (row_at (sort_rows own) i).size) one ∙ ap (λ (y : ImageRow). y.size) r.is in
            omega (arith, ap (λ (h : Segment). h.size) head, d.cut-whole)

    -- demand 3, elsewhere
    delivers-elsewhere : DeliversElsewhere t f s e area index outcome
    delivers-elsewhere =
        let r = relocation u.log.k u.log.c u.log.m u.area own k c m area rows same s e index index refl in
        let y = rest _ _ refl (recovery-alike u.log.k u.log.c u.log.m u.area own k c m area rows s e same (length index)) in
        let row : (i : ℕ) → i < ids_in s e → i < (recovery_answer (recovering u own s e index)).rows = λ i l. omega
        (arith, gives.row_count) in
        record {
          accepts = sym r.refusal-same ∙ gives.accepts;
          log-same = sym r.log-same ∙ ap (λ (l : Log). placeless_log l) gives.log-same;
          live-start = ap (λ (l : Log). l.start) (sym r.log-same) ∙ gives.live-start;
          live_end = ap (λ (l : Log). l.end) (sym r.log-same) ∙ gives.live_end;
          row_count = sym r.count_same ∙ gives.row_count;
          row-id = λ i l. sym (r.row_same i (row i l)).id ∙ gives.row-id i l;
          row-good = λ i l. sym (r.question-same i (row i l)) ∙ gives.row-good i l;
          row-payload = λ i l. sym (r.payload_same i (row i l)) ∙ gives.row-payload i l;
          index-length = y.long;
          later-words = y.later-words;
          area_same = y.area_same;
        }

-- demand 3 for images that were read back
pub demand3-elsewhere : Demand3Elsewhere
demand3-elsewhere k c m area calls further s e k' c' m' area' rows index back =
    delivers-elsewhere (earlier k c m area calls) (last_under (begun k c m area) calls) (runs-keep k c m area calls back.new) further s e
    back.above back.order back.from back.to index back.room k' c' m' area' rows back.roomy back.fit back.images
