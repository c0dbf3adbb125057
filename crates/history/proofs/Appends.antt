-- An append keeps the invariant, with the payload noted under the id that it answers; refused, it answers 3 to 7.
-- Assumes nothing.
use mathlib.Core.Bool.{true, false, Bool, ◌&&◌}
use mathlib.Core.List.{List, ◌++◌, ◌∷◌, []}
use mathlib.Core.Path.{ap, ◌≡◌, sym, ◌∙◌, refl, subst}
use Prim.Native.Nat.{ℕ, ◌≤◌, ◌+◌, ◌-◌, suc, ◌<◌, ◌^◌, ◌%◌, ◌*◌}
use native.Mathlib.Omega.{arith}
use lib.Dec.{eqb, ltb}
use lib.ListN.{length}
use borrow.Author.Tests.{ne_eqb, eqb-false, ltb-false}
use Rattle.lists.proofs.Cases.{pick-either}
use Rattle.lists.proofs.Splice.{splice-length}
use Rattle.lists.specs.Choice.{pick}
use Rattle.record.proofs.Record.{record-length}
use Rattle.record.specs.Record.{max_payload, record_room, record_bytes}
use Rattle.seglog.proofs.View.{ends-with}
use Rattle.seglog.specs.View.{View, head_of, front_of}
use Rattle.seglog.specs.Chain.{slots_apart}
use Rattle.segment.specs.declared.Segment.{Segment}
use Rattle.seglog_append.proofs.DecidingFree.{free-most, free-good}
use Rattle.lists.specs.Outcome.{Outcome, refused, done, either}
use Rattle.lists.specs.Distinct.{fresh}
use Rattle.lists.proofs.Distinct.{distinct_more, snoc-distinct}
use Rattle.segment.specs.Segment.{slot_number}
use Rattle.segment.specs.Chain.{Chain}
use Rattle.segment.proofs.Chain.{chain_more, chain-keep}
use Rattle.seglog.proofs.Chain.{chain-ends}
use Rattle.seglog_append.specs.declared.Place.{Place}
use Rattle.seglog_append.specs.Deciding.{next_id, opens_of, lowest_free, fresh_of, before_of, target_of, decide_of}
use Rattle.seglog_append.specs.Appending.{Left, left_of, start_after, grown_of, with_record, record_into, append_of}
use Rattle.seglog_append.proofs.Deciding.{opens-no}
use Rattle.history.specs.History.{noted}
use Rattle.walk.specs.Records.{records_from}
use Rattle.history.proofs.Invariant.{Holds, Live}
use Rattle.history.proofs.Slots.{Stored, Upto, keep-other, keep-grown}

-- what an append's outcome keeps: a refusal is 3 to 7
abbrev pub AppendKeeps : (ℕ → List ℕ) → List ℕ → Outcome Left → Type 0
AppendKeeps f p (refused n) = (3 ≤ n) × (n ≤ 7)
AppendKeeps f p (done w) = Holds w.view w.area (noted f w.id p)

-- a place to write to: g, open, after hs
pub record Spot (a : View) (area : List ℕ) (f : ℕ → List ℕ) (i b : ℕ) (hs : List Segment) (g : Segment) : Type 0 where
  pub chain : Chain (Stored area f a.k a.c) i b hs g.id g.min
  pub under : g.min ≤ a.end + 1
  pub upto : Upto area f a.k a.c (a.end + 1) g
  pub fresh : fresh slot_number g.slot hs ≡ true
  pub apart : slots_apart hs ≡ true
  pub live : (n : ℕ) → Live (start_after a) (a.end + 1) (g.id + 1) (hs ++ (grown_of g n (a.end + 1) ∷ []))

live-grown : (hs : List Segment) (g : Segment) (s e j s' e' j' n x : ℕ) → s' ≡ s → g.max ≤ x → Live s e j (hs ++ (g ∷ []))
    → Live s' e' j' (hs ++ (grown_of g n x ∷ []))
live-grown [] g s e j s' e' j' n x q m h = (omega arith, omega arith)
live-grown (y ∷ hs) g s e j s' e' j' n x q m h = (omega arith, omega arith)

live-new : (gs : List Segment) (g : Segment) (s e j j' n : ℕ) → g.min ≡ e + 1 → Live s e j gs
    → Live (pick (eqb (length gs) 0) (e + 1) s) (e + 1) j' (gs ++ (grown_of g n (e + 1) ∷ []))
live-new [] g s e j j' n q h = (omega arith, omega arith)
live-new (y ∷ gs) g s e j j' n q h = simp (ne_eqb (suc (length gs)) 0 (λ z. omega arith)) (h.0, h.1)

-- the id of the next segment
next-is : (P : Segment → Type 0) (gs : List Segment) (i b s e j c : ℕ) → ((g : Segment) → P g → g.id < 2 ^ 32) → Chain P i b gs j c
    → Live s e j gs → (next_id gs ≡ 0 → ⊥) → next_id gs ≡ j
unfolding next_id
next-is P [] i b s e j c w h l z = sym l.2
next-is P (g ∷ gs) i b s e j c w h l z =
    let t = chain-ends P (g ∷ gs) i b j c (omega arith) h in
    let some : eqb (length (g ∷ gs)) 0 ≡ false = ne_eqb (length (g ∷ gs)) 0 (λ y. omega arith) in
    let is : next_id (g ∷ gs) ≡ ((head_of (g ∷ gs)).id + 1) % 2 ^ 32 = simp some in
    is ∙ omega (arith, w (head_of (g ∷ gs)) t.good, z, is, t.id)

next_small : (gs : List Segment) → next_id gs < 2 ^ 32
unfolding next_id
next_small gs =
    pick-either (λ (x : ℕ). x < 2 ^ 32) (eqb (length gs) 0) 1 (((head_of gs).id + 1) % 2 ^ 32) (λ q. omega arith) (λ q. omega arith)

module _ (a : View) (area : List ℕ) (f : ℕ → List ℕ) (h : Holds a area f) where
  abbrev P : Segment → Type 0
  P = Stored area f a.k a.c

  -- the head
  to-head : 0 < length a.segs → Spot a area f h.i h.b (front_of a.segs) (head_of a.segs)
  to-head l =
      let t = chain-ends P a.segs h.i h.b h.j (a.end + 1) l h.chain in
      let split = ends-with a.segs l in
      let slots = snoc-distinct slot_number (front_of a.segs) (head_of a.segs) (ap slots_apart (sym split) ∙ h.apart) in
      record {
        chain = t.left;
        under = omega (arith, t.order, t.max);
        upto = subst (λ (x : ℕ). Upto area f a.k a.c x (head_of a.segs)) t.max t.good;
        fresh = slots.1;
        apart = slots.0;
        live = λ n.
            live-grown (front_of a.segs) (head_of a.segs) a.start a.end h.j (start_after a) (a.end + 1)
            ((head_of a.segs).id + 1) n (a.end + 1) (simp (ne_eqb (length a.segs) 0 (λ z. omega arith))) (omega (arith, t.max))
            (subst (λ (x : List Segment). Live a.start a.end h.j x) split h.live);
      }

  -- a new segment
  to-new : (next_id a.segs ≡ 0 → ⊥) → (lowest_free a ≡ a.k → ⊥) → Spot a area f h.i h.b a.segs (fresh_of a)
  unfolding records_from
  to-new some free =
      let is = next-is P a.segs h.i h.b a.start a.end h.j (a.end + 1) (λ g y. y.id) h.chain h.live some in
      let below : lowest_free a < a.k = omega (arith, free-most a.segs a.k 0) in
      let none : a.end + 1 - (a.end + 1) ≡ 0 = omega arith in
      record {
        chain = subst (λ (y : ℕ). Chain P h.i h.b a.segs y (a.end + 1)) (sym is) h.chain;
        under = omega arith;
        upto = record {
          slot = below;
          room = omega arith;
          id = next_small a.segs;
          top = h.top;
          small = λ i l u. absurd (omega arith);
          long = rw none refl;
          image = rw none refl;
          newest = λ l. absurd (omega arith);
        };
        fresh = free-good a.segs a.k 0 (omega arith);
        apart = h.apart;
        live = λ n. live-new a.segs (fresh_of a) a.start a.end h.j (next_id a.segs + 1) n refl h.live;
      }

  -- the target, by whether a segment is opened
  spot-by : (t : Bool) → opens_of a ≡ t → t && eqb (next_id a.segs) 0 ≡ false → t && eqb (lowest_free a) a.k ≡ false
      → Spot a area f h.i h.b (pick t a.segs (front_of a.segs)) (pick t (fresh_of a) (head_of a.segs))
  spot-by true o q5 q6 = to-new (eqb-false (next_id a.segs) 0 q5) (eqb-false (lowest_free a) a.k q6)
  spot-by false o q5 q6 = to-head (opens-no a o)

  module _ (p : List ℕ) (little : length p ≤ max_payload) (more : a.end ≡ 18446744073709551615 → ⊥) where
    -- a record written to a place keeps the invariant
    written : (s : Spot a area f h.i h.b (before_of a) (target_of a)) → record_room (length p) ≤ a.c - (target_of a).size
        → Holds (with_record a (length p)) (record_into a p area) (noted f (a.end + 1) p)
    written s fits =
        let g : Segment = target_of a in
        let bytes : List ℕ = record_bytes (a.end + 1) p in
        let few : a.end + 1 < 2 ^ 64 = omega (arith, h.top) in
        let n : length bytes ≡ record_room (length p) = record-length (a.end + 1) p in
        let in-slot : g.size + length bytes ≤ a.c = omega (arith, s.upto.room) in
        let last : Segment = grown_of g (record_room (length p)) (a.end + 1) in
        let Q : Segment → Type 0 = Stored (record_into a p area) (noted f (a.end + 1) p) a.k a.c in
        record {
          sizes = h.sizes;
          all = splice-length (g.slot * a.c + g.size) bytes area ∙ h.all;
          top = omega arith;
          i = h.i;
          b = h.b;
          j = g.id + 1;
          first = h.first;
          low = h.low;
          chain = chain_more Q (before_of a) last h.i h.b
              (chain-keep g.slot (before_of a) h.i h.b g.id g.min
              (λ x n m y. keep-other area f a.k a.c h.all g.slot g.size bytes s.upto.slot in-slot (a.end + 1) p x n
              (omega (arith, s.under)) y) s.fresh s.chain)
              s.under (keep-grown area f a.k a.c h.all (a.end + 1) p g s.under s.upto fits little few);
          apart = distinct_more slot_number (before_of a) last s.apart s.fresh;
          live = s.live (record_room (length p));
        }

-- an append keeps the invariant
pub append-keeps : (a : View) (area : List ℕ) (f : ℕ → List ℕ) (p : List ℕ) → Holds a area f → AppendKeeps f p (append_of a area p)
unfolding append_of decide_of
append-keeps a area f p h =
    pick-either Keeps (ltb max_payload (length p)) (refused 3) _ (λ q. (omega arith, omega arith))
    (λ q3. pick-either Keeps (eqb a.end 18446744073709551615) (refused 4) _ (λ q. (omega arith, omega arith))
    (λ q4. pick-either Keeps (opens_of a && eqb (next_id a.segs) 0) (refused 5) _ (λ q. (omega arith, omega arith))
    (λ q5. pick-either Keeps (opens_of a && eqb (lowest_free a) a.k) (refused 6) _ (λ q. (omega arith, omega arith))
    (λ q6. pick-either Keeps (ltb (a.c - (target_of a).size) (record_room (length p))) (refused 7) _ (λ q. (omega arith, omega arith))
    (λ q7. written a area f h p (ltb-false max_payload (length p) q3) (eqb-false a.end 18446744073709551615 q4)
    (spot-by a area f h (opens_of a) refl q5 q6) (ltb-false (a.c - (target_of a).size) (record_room (length p)) q7))))))
  where
    Keeps : Outcome Place → Type 0
    Keeps o = AppendKeeps f p (either refused (λ s. done (left_of a area p)) o)
