-- Recovering twice gives the same, from the same rows and from the log that came back: the proofs of specs/Corollaries.antt's statements.
-- Assumes nothing.
use mathlib.Core.List.{List, ◌++◌}
use mathlib.Core.Path.{◌≡◌, ap, refl, subst, sym, ◌∙◌}
use Prim.Native.Nat.{ℕ, ◌≤◌, ◌<◌, ◌*◌}
use native.Mathlib.Omega.{arith}
use lib.ListN.{drop, length, length-append, length-drop}
use lib.Seq.{drop_at}
use Rattle.seglog.specs.View.{View}
use Rattle.seglog.specs.declared.Log.{Log}
use Rattle.segment.specs.declared.Segment.{Segment}
use Rattle.segment.specs.declared.ImageRow.{ImageRow}
use Rattle.recovery.specs.Recovery.{Recovery, recovered, recovery_index, recovery_area, recovery_of, recovery_answer}
use Rattle.history.specs.Corollaries.{SameTwice, after_recovery, RecoveringTwice, RecoveringTheRecovered}
use Rattle.history.specs.Demand.{AnyOrder, rows_for, listed, ids_in, recovering, earlier}
use Rattle.history.specs.History.{Held, run, appends, told, last_under, begun}
use Rattle.history.proofs.Invariant.{some-live}
use Rattle.history.proofs.Runs.{Came, Any, listed-log, on-view, held_of, runs-keep}
use Rattle.history.proofs.Theorem.{later-came, brings-held, accepts-held}
use Rattle.history.proofs.Brings.{Brings}
use Rattle.history.proofs.Whole.{brings-self, whole-log}

-- the same outcome over what it left
same-twice : (u : Held) (index : List ℕ) (l : View) (ws : List ℕ) (r r₂ : Recovery) → r ≡ recovered l u.area ws
    → r₂ ≡ recovered l u.area ws → SameTwice u index r r₂
same-twice u index l ws r r₂ p q =
    let o : Recovery = recovered l u.area ws in
    let again : ws ++ drop (length ws) (ws ++ drop (length ws) index) ≡ ws ++ drop (length ws) index =
    ap (λ (x : List ℕ). ws ++ x) (drop_at ws (drop (length ws) index) (length ws) refl) in
    subst (λ (x : Recovery). SameTwice u index x r₂) (sym p)
    (subst (λ (y : Recovery). SameTwice u index o y) (sym q) (record { again-answer = refl; again-index = again; again-area = refl }))

-- the words keep the index's length
words-fit : (l : View) (area ws index : List ℕ) (n : ℕ) → length ws ≡ n → n ≤ length index
    → length (recovery_index index (recovered l area ws)) ≡ length index
words-fit l area ws index n count room = length-append ws (drop (length ws) index) ∙ omega (arith, length-drop (length ws) index)

module _ (t : Held) (f : ℕ → List ℕ) (c : Came Any t f) (further : List (List ℕ)) (s e : ℕ) (rows : List ImageRow) (index : List ℕ)
    (above : 0 < s) (order : s ≤ e) (from : t.log.start ≤ s) (to : e ≤ t.log.end)
    (any : AnyOrder rows (rows_for (listed (run t (appends further)).log))) (enough : 4 * ids_in s e ≤ length index) where
  abbrev u : Held
  u = run t (appends further)

  d : Brings c.view t.area (later-came t f c further).view u.area f rows s e (length index)
  d = brings-held t f c further s e rows (length index) above order from to any enough

  is : recovering u rows s e index ≡ recovered d.log u.area d.words
  is = accepts-held t f c further s e rows index d

  twice : (r : Recovery) → r ≡ recovering u rows s e index
      → SameTwice u index r (recovering (record { log = u.log; area = recovery_area u.area r }) rows s e (recovery_index index r))
  twice r p =
      let q : r ≡ recovered d.log u.area d.words = p ∙ is in
      let area : recovery_area u.area r ≡ u.area = ap (recovery_area u.area) q in
      let long : length (recovery_index index r) ≡ length index =
      ap (λ (x : Recovery). length (recovery_index index x)) q
      ∙ words-fit d.log u.area d.words index (4 * ids_in s e) d.count enough in
      let same : recovering (record {
        log =
            u.log;
        area = recovery_area u.area r;
      }) rows s e (recovery_index index r) ≡ recovering u rows s e index =
      λ i. recovery_of u.log.k u.log.c u.log.m (area i) rows s e (long i) in
      same-twice u index d.log d.words r _ q (same ∙ is)

  -- ---- the log that came back

  abbrev z : View
  z = (later-came t f c further).view

  abbrev g : ℕ → List ℕ
  g = told f t (appends further)

  from-later : z.start ≤ s
  from-later =
      let l = later-came t f c further in
      let first : c.view.start ≤ s = subst (λ (x : Log). x.start ≤ s) c.packed from in
      let last : e ≤ c.view.end = subst (λ (x : Log). e ≤ x.end) c.packed to in
      let some = some-live c.view.segs c.view.start c.view.end c.holds.j (omega arith) c.holds.live in
      omega (arith, l.also.start some)

  to-later : e ≤ z.end
  to-later =
      let last : e ≤ c.view.end = subst (λ (x : Log). e ≤ x.end) c.packed to in omega (arith, (later-came t f c further).also.end)

  own-later : AnyOrder rows (rows_for z.segs)
  own-later =
      subst (λ (gs : List Segment). AnyOrder rows (rows_for gs))
      (ap (λ (x : Log). listed x) (later-came t f c further).packed ∙ listed-log z) any

  -- the first time, against what is held later
  once : Brings z u.area z u.area g rows s e (length index)
  once =
      brings-self z u.area g (later-came t f c further).holds s e above order from-later to-later rows (length index) own-later enough

  once_is : recovering u rows s e index ≡ recovered once.log u.area once.words
  once_is =
      on-view (λ (y : Held). recovering y rows s e index ≡ recovered once.log y.area once.words) u g (later-came t f c further)
      once.accepts

  module _ (rows' : List ImageRow) (any' : AnyOrder rows' (rows_for once.log.segs)) (room : ℕ) (enough' : 4 * ids_in s e ≤ room) where
    -- the second time, from the log that came back
    second : Brings once.log u.area once.log u.area g rows' s e room
    second =
        brings-self once.log u.area g once.log-holds s e above order (omega (arith, once.start_is))
        (omega (arith, once.end_is)) rows'
        room any' enough'

    second-log : second.log ≡ once.log
    second-log =
        whole-log once.log u.area g once.log-holds (omega (arith, once.end_is)) once.log u.area rows' s e room
        once.start_is
        once.end_is second

    second-words : second.words ≡ once.words
    second-words = second.same ∙ sym once.kept ∙ sym once.same

    second_is : recovery_of once.log.k once.log.c once.log.m u.area rows' s e room
        ≡ recovered once.log u.area once.words
    second_is = second.accepts ∙ (λ i. recovered (second-log i) u.area (second-words i))

  recovered-twice : (r : Recovery) → r ≡ recovering u rows s e index → (rows' : List ImageRow)
      → AnyOrder rows' (rows_for (listed (after_recovery u r).log))
      → SameTwice u index r (recovering (after_recovery u r) rows' s e (recovery_index index r))
  recovered-twice r p rows' any' =
      let q : r ≡ recovered once.log u.area once.words = p ∙ once_is in
      let long : length (recovery_index index r) ≡ length index =
      ap (λ (x : Recovery). length (recovery_index index x)) q
      ∙ words-fit once.log u.area once.words index (4 * ids_in s e) once.count enough in
      let own : AnyOrder rows' (rows_for once.log.segs) =
      subst (λ (gs : List Segment). AnyOrder rows' (rows_for gs))
      (ap (λ (x : Recovery). listed (recovery_answer x).log) q ∙ listed-log once.log) any' in
      let held : after_recovery u r ≡ held_of once.log u.area = ap (after_recovery u) q in
      same-twice u index once.log once.words r _ q
      (ap (λ (x : Held). recovering x rows' s e (recovery_index index r)) held
      ∙ second_is rows' own (length (recovery_index index r)) (omega arith))

-- recovering twice gives the same
pub recovering-twice : RecoveringTwice
recovering-twice k c m area calls further s e rows index asked u is r p =
    subst (λ (x : Held). (r : Recovery) → r ≡ recovering x rows s e index
    → SameTwice x index r (recovering (record { log = x.log; area = recovery_area x.area r }) rows s e (recovery_index index r))) (sym is)
    (twice (earlier k c m area calls) (last_under (begun k c m area) calls) (runs-keep k c m area calls asked.new) further s e rows index
    asked.above asked.order asked.from asked.to asked.own-rows asked.room) r p

-- recovering from the log that came back gives the same
pub recovering-the-recovered : RecoveringTheRecovered
recovering-the-recovered k c m area calls further s e rows index asked u is r p rows' any' =
    subst (λ (x : Held). (r : Recovery) → r ≡ recovering x rows s e index → (rows' : List ImageRow)
    → AnyOrder rows' (rows_for (listed (after_recovery x r).log))
    → SameTwice x index r (recovering (after_recovery x r) rows' s e (recovery_index index r))) (sym is)
    (recovered-twice (earlier k c m area calls) (last_under (begun k c m area) calls)
    (runs-keep k c m area calls asked.new) further s e rows
    index asked.above asked.order asked.from asked.to asked.own-rows asked.room) r p rows' any'
