-- The laws of deciding where a record goes: each refusal, the two segments that it can go to, and what is known where nothing refuses.
-- Assumes nothing.
use Rattle.std.proofs.Common.{◌≡◌, ℕ, ◌+◌, ◌-◌, ◌*◌, ◌%◌, ◌^◌, ◌<◌, ◌≤◌, Bool, true, false, not, ◌&&◌, eqb, ltb, leb, List, [], ◌∷◌, ◌++◌, length, get_or, take, drop, set, sym, refl, ap, ◌∙◌, subst, arith, length-take, ltb-false, le-ltb, lt-ltb, eq-eqb, ne_eqb, eqb-true}
use borrow.Author.Tests.{eqb-false, not-false}
use Rattle.std.specs.Prelude.{Option, Some, None, Ok, Err}
use Rattle.std.specs.Option.{ok_or}
use Rattle.refusal.specs.declared.Refusal.{Refusal}
use Rattle.lists.specs.Choice.{pick}
use Rattle.lists.specs.Outcome.{Outcome, refused, done}
use Rattle.lists.proofs.Bools.{clash, and_both, both-and}
use Rattle.lists.proofs.Cases.{by-test, pick-either}
use Rattle.lists.proofs.Outcome.{refused-is-not-done, refused-injective, done-injective}
use Rattle.lists.specs.Distinct.{fresh, distinct}
use Rattle.lists.proofs.Distinct.{pigeons}
use Rattle.record.specs.Record.{max_payload, record_room}
use Rattle.segment.specs.declared.Segment.{Segment}
use Rattle.segment.specs.Segment.{no_segment, slot_number}
use Rattle.seglog.specs.declared.Log.{Log}
use Rattle.seglog.specs.View.{View, view_of, head_of, front_of, zeros_of, plain_of}
use Rattle.seglog.specs.Chain.{chain_of, slots_apart}
use Rattle.seglog.specs.Fit.{shaped_of, fitting_of}
use Rattle.seglog.proofs.View.{log-view, entries_of, set-head, set_new, ends-with, listed-length, listed-head}
use Rattle.seglog.proofs.Fit.{SegmentGood, Fitting, fitting-is, chain-below}
use Rattle.seglog.proofs.Chain.{snoc-chain, zeros-at}
use Rattle.seglog_append.specs.declared.Place.{Place}
use Rattle.seglog_append.specs.Deciding.{lowest_free, opened_of, opens_of, next_id, fresh_of, target_of, before_of, place_of, decide_of, decide_log}
use Rattle.seglog_append.specs.Promised.{AppendRefuses5, AppendRefuses7}
use Rattle.seglog_append.proofs.DecidingFree.{free-most, free-good}

-- a head is there where no new segment is wanted
pub opens-no : (a : View) → opens_of a ≡ false → 0 < length a.segs
unfolding opens_of
opens-no a h =
    by-test (eqb (length a.segs) 0) (λ e. clash (sym h ∙ simp e))
    (λ e. let some = eqb-false (length a.segs) 0 e in omega arith)

-- ---- no refusal

-- what 3 to 7 say where none of them holds
pub record Allowed (a : View) (n : ℕ) : Type 0 where
  pub small : n ≤ max_payload
  pub more : a.end ≡ 18446744073709551615 → ⊥
  pub id-good : opens_of a ≡ true → next_id a.segs ≡ 0 → ⊥
  pub slot-free : opens_of a ≡ true → lowest_free a ≡ a.k → ⊥
  pub room : record_room n ≤ a.c - (target_of a).size

-- and 2
pub record Accepted (l : Log) (bytes n : ℕ) : Type 0 where
  pub fits : fitting_of l bytes ≡ true
  pub allowed : Allowed (view_of l) n

-- a rule that wants a new segment does not apply
not_opened : (o : Bool) (x y : ℕ) → o && eqb x y ≡ false → o ≡ true → x ≡ y → ⊥
not_opened true x y h z e = eqb-false x y h e
not_opened false x y h z e = clash z

-- what holds of each refusal from 3 on, and of a place, holds of the outcome
pub view-outcomes : (a : View) (n : ℕ) (Q : Outcome Place → Type 0) → ((m : ℕ) → 2 < m → Q (refused m))
    → (Allowed a n → Q (done (place_of a n))) → Q (decide_of a n)
unfolding decide_of
view-outcomes a n Q bad good =
    pick-either Q (ltb max_payload n) (refused 3) _ (λ q. bad 3 (omega arith))
    (λ h3. pick-either Q (eqb a.end 18446744073709551615) (refused 4) _ (λ q. bad 4 (omega arith))
    (λ h4. pick-either Q (opens_of a && eqb (next_id a.segs) 0) (refused 5) _ (λ q. bad 5 (omega arith))
    (λ h5. pick-either Q (opens_of a && eqb (lowest_free a) a.k) (refused 6) _ (λ q. bad 6 (omega arith))
    (λ h6. pick-either Q (ltb (a.c - (target_of a).size) (record_room n)) (refused 7) _ (λ q. bad 7 (omega arith))
    (λ h7. good
    (record {
      small = ltb-false max_payload n h3;
      more = eqb-false a.end 18446744073709551615 h4;
      id-good = not_opened (opens_of a) (next_id a.segs) 0 h5;
      slot-free = not_opened (opens_of a) (lowest_free a) a.k h6;
      room = ltb-false (a.c - (target_of a).size) (record_room n) h7;
    }))))))

module _ (l : Log) (bytes n : ℕ) where
  -- what holds of each refusal, and of a place, holds of the outcome
  pub decide-outcomes : (Q : Outcome Place → Type 0) → ((m : ℕ) → 1 < m → Q (refused m))
      → (Accepted l bytes n → Q (done (place_of (view_of l) n))) → Q (decide_log l bytes n)
  unfolding decide_log
  decide-outcomes Q bad good =
      pick-either Q (not (fitting_of l bytes)) (refused 2) _ (λ q. bad 2 (omega arith))
      (λ h2. view-outcomes (view_of l) n Q (λ m h. bad m (omega arith))
      (λ ok. good (record { fits = not-false (fitting_of l bytes) h2; allowed = ok })))

  -- a place that was decided is the one of the definition, and nothing refuses
  pub decided : (s : Place) → decide_log l bytes n ≡ done s → Accepted l bytes n × (s ≡ place_of (view_of l) n)
  decided s =
      decide-outcomes (λ (o : Outcome Place). o ≡ done s → Accepted l bytes n × (s ≡ place_of (view_of l) n))
      (λ m h e. refused-is-not-done e) (λ ok e. (ok, sym (done-injective e)))

-- ---- the ways of the code

-- the id after the head's, which is 0 where there is none
after-head : (gs : List Segment) → ((head_of gs).id + 1) % 2 ^ 32 ≡ next_id gs
unfolding next_id
after-head [] = refl
after-head (g ∷ gs) = sym (simp (ne_eqb (length (g ∷ gs)) 0 (λ z. omega arith)))

-- what is known once 2, 3 and 4 are passed
pub record Past (l : Log) (bytes n : ℕ) : Type 0 where
  pub long : length l.segs ≡ 64
  pub fits : fitting_of l bytes ≡ true
  pub small : n ≤ max_payload
  pub more : l.end ≡ 18446744073709551615 → ⊥

-- the segment g was chosen, the i-th of the entries; 5 and 6 are passed
pub record Chosen (l : Log) (g : Segment) (i : ℕ) : Type 0 where
  pub target : g ≡ target_of (view_of l)
  pub index : i ≡ length (before_of (view_of l))
  pub id-good : opens_of (view_of l) && eqb (next_id (take l.count l.segs)) 0 ≡ false
  pub slot-free : opens_of (view_of l) && eqb (lowest_free (view_of l)) l.k ≡ false
  pub size : g.size ≤ l.c

module _ (l : Log) (bytes n : ℕ) where
  abbrev a : View
  a = view_of l

  abbrev gs : List Segment
  gs = take l.count l.segs

  pub append-refuses-2 : fitting_of l bytes ≡ false → decide_log l bytes n ≡ refused 2
  unfolding decide_log
  append-refuses-2 h = simp h

  pub append-refuses-3 : fitting_of l bytes ≡ true → max_payload < n → decide_log l bytes n ≡ refused 3
  unfolding decide_log decide_of
  append-refuses-3 fits h = simp (fits, lt-ltb max_payload n h)

  pub append-refuses-4 : fitting_of l bytes ≡ true → n ≤ max_payload → l.end ≡ 18446744073709551615 → decide_log l bytes n ≡ refused 4
  unfolding decide_log decide_of
  append-refuses-4 fits small h = simp (fits, le-ltb max_payload n small, eq-eqb l.end 18446744073709551615 h)

  -- behind 2, 3 and 4
  passed : fitting_of l bytes ≡ true → n ≤ max_payload → (l.end ≡ 18446744073709551615 → ⊥) → decide_log l bytes n
      ≡ pick (opens_of a && eqb (next_id gs) 0) (refused 5)
      (pick (opens_of a && eqb (lowest_free a) l.k) (refused 6)
      (pick (ltb (l.c - (target_of a).size) (record_room n)) (refused 7) (done (place_of a n))))
  unfolding decide_log decide_of
  passed fits small more = simp (fits, le-ltb max_payload n small, ne_eqb l.end 18446744073709551615 more)

pub append-refuses-5 : AppendRefuses5
append-refuses-5 l bytes n fits small more o h = passed l bytes n fits small more ∙ simp (o, eq-eqb (next_id (view_of l).segs) 0 h)

pub append-refuses-7 : AppendRefuses7
append-refuses-7 l bytes n fits small more id-good slot-free h =
    passed l bytes n fits small more ∙ simp (id-good, slot-free, lt-ltb (l.c - (target_of (view_of l)).size) (record_room n) h)

module _ (l : Log) (bytes n : ℕ) (k : Past l bytes n) where
  pub append-refuses-6 : opens_of (view_of l) ≡ true → (next_id (view_of l).segs ≡ 0 → ⊥) → lowest_free (view_of l) ≡ l.k
      → decide_log l bytes n ≡ refused 6
  append-refuses-6 o h q =
      passed l bytes n k.fits k.small k.more
      ∙ simp (o, ne_eqb (next_id (view_of l).segs) 0 h, eq-eqb (lowest_free (view_of l)) l.k q)

  module _ (g : Segment) (i : ℕ) (chosen : Chosen l g i) where
    same_size : g.size ≡ (target_of (view_of l)).size
    same_size = ap (λ (x : Segment). x.size) chosen.target

    -- 7, as the code holds the target
    pub chosen-refuses-7 : (room : ℕ) → room ≡ record_room n → l.c - g.size < room → decide_log l bytes n ≡ refused 7
    chosen-refuses-7 room e h =
        append-refuses-7 l bytes n k.fits k.small k.more chosen.id-good chosen.slot-free (omega (arith, same_size))

    -- a record that fits has its place
    pub append_places : (room : ℕ) → room ≡ record_room n → room ≤ l.c - g.size
        → ◌≡◌ {A = Outcome Place} (done (record { target = g; at = i; room = room })) (decide_log l bytes n)
    append_places room e h =
        (λ j. done (record { target = chosen.target j; at = chosen.index j; room = e j }))
        ∙ sym (passed l bytes n k.fits k.small k.more
        ∙ simp (chosen.id-good, chosen.slot-free, le-ltb (l.c - (target_of (view_of l)).size) (record_room n) (omega (arith, same_size))))

-- ---- a new segment

-- a number that is none where it is y
module _ (x y : ℕ) (r : Option ℕ) (e : Refusal) (h : r ≡ pick (eqb x y) None (Some x)) where
  -- it is there
  pub number-found : (s : ℕ) → ok_or r e ≡ Ok s → (s ≡ x) × (x ≡ y → ⊥)
  number-found s q = go (eqb x y) refl (sym (ap (λ (o : Option ℕ). ok_or o e) h) ∙ q)
    where
      go : (t : Bool) → eqb x y ≡ t → ok_or (pick t None (Some x)) e ≡ Ok s → (s ≡ x) × (x ≡ y → ⊥)
      go true g q = cc
      go false g q = let is : s ≡ x = cc in (is, eqb-false x y g)

  -- it is not
  pub number-refused : (d : Refusal) → ok_or r e ≡ Err d → (d ≡ e) × (x ≡ y)
  number-refused d q = go (eqb x y) refl (sym (ap (λ (o : Option ℕ). ok_or o e) h) ∙ q)
    where
      go : (t : Bool) → eqb x y ≡ t → ok_or (pick t None (Some x)) e ≡ Err d → (d ≡ e) × (x ≡ y)
      go true g q = let is : d ≡ e = cc in (is, eqb-true x y g)
      go false g q = cc

module _ (a : View) (last : ℕ) where
  -- a new segment with these numbers
  abbrev pub opened : ℕ → ℕ → Segment
  opened id slot = record { id = id; slot = slot; size = 0; min = a.end + 1; max = a.end + 1; newest_at = 0 }

  pub opened-5 : (last + 1) % 2 ^ 32 ≡ 0 → opened_of a last ≡ refused 5
  unfolding opened_of
  opened-5 h = simp (eq-eqb ((last + 1) % 2 ^ 32) 0 h)

  pub opened-6 : ((last + 1) % 2 ^ 32 ≡ 0 → ⊥) → lowest_free a ≡ a.k → opened_of a last ≡ refused 6
  unfolding opened_of
  opened-6 h q = simp (ne_eqb ((last + 1) % 2 ^ 32) 0 h, eq-eqb (lowest_free a) a.k q)

  pub opened-done : ((last + 1) % 2 ^ 32 ≡ 0 → ⊥) → (lowest_free a ≡ a.k → ⊥)
      → opened_of a last ≡ done (opened ((last + 1) % 2 ^ 32) (lowest_free a))
  unfolding opened_of
  opened-done h q = simp (ne_eqb ((last + 1) % 2 ^ 32) 0 h, ne_eqb (lowest_free a) a.k q)

  -- what holds of 5 and 6, and of a segment, holds of the outcome
  pub opened-outcomes : (Q : Outcome Segment → Type 0) → ((last + 1) % 2 ^ 32 ≡ 0 → Q (refused 5))
      → (((last + 1) % 2 ^ 32 ≡ 0 → ⊥) → lowest_free a ≡ a.k → Q (refused 6))
      → (((last + 1) % 2 ^ 32 ≡ 0 → ⊥) → (lowest_free a ≡ a.k → ⊥) → Q (done (opened ((last + 1) % 2 ^ 32) (lowest_free a))))
      → Q (opened_of a last)
  unfolding opened_of
  opened-outcomes Q five six good =
      pick-either Q (eqb ((last + 1) % 2 ^ 32) 0) (refused 5) _ (λ q. five (eqb-true ((last + 1) % 2 ^ 32) 0 q))
      (λ h5. pick-either Q (eqb (lowest_free a) a.k) (refused 6) _ (λ q. six (eqb-false ((last + 1) % 2 ^ 32) 0 h5) (eqb-true (lowest_free a) a.k q))
      (λ h6. good (eqb-false ((last + 1) % 2 ^ 32) 0 h5) (eqb-false (lowest_free a) a.k h6)))

-- ---- a log that fits

module _ (l : Log) (bytes : ℕ) (long : length l.segs ≡ 64) (fits : fitting_of l bytes ≡ true) where
  abbrev v : View
  v = view_of l

  abbrev listing : List Segment
  listing = take l.count l.segs

  -- what the test says
  pub fit : Fitting l bytes
  fit = fitting-is l bytes long fits

  pub few-listed : l.count ≤ 64
  few-listed = omega (arith, fit.few, fit.sizes.few-slots)

  listed : length listing ≡ l.count
  listed = listed-length l.count l.segs long few-listed

  -- it is well shaped, whatever the area
  pub shaped : fitting_of l (l.k * l.c) ≡ true
  shaped = subst (λ (n : ℕ). fitting_of l n ≡ true) fit.area fits

  -- the entry that the code reads is the head, and zeros where there is none
  head_at : get_or l.segs (l.count - 1) no_segment ≡ head_of listing
  head_at = by-test (eqb l.count 0) (λ e. none (eqb-true l.count 0 e)) (λ e. some (eqb-false l.count 0 e))
    where
      some : (l.count ≡ 0 → ⊥) → get_or l.segs (l.count - 1) no_segment ≡ head_of listing
      some h = sym (listed-head l.count l.segs long few-listed (omega arith))

      none : l.count ≡ 0 → get_or l.segs (l.count - 1) no_segment ≡ head_of listing
      none z =
          let zeros : zeros_of l.segs ≡ true = sym (ap (λ (n : ℕ). zeros_of (drop n l.segs)) z) ∙ fit.zeros in
          ap (λ (n : ℕ). get_or l.segs (n - 1) no_segment) z ∙ zeros-at l.segs 0 zeros (omega arith)
          ∙ ap (λ (n : ℕ). head_of (take n l.segs)) (sym z)

  -- the last of the listed segments is good
  head-good : opens_of v ≡ false → SegmentGood l.k l.c (head_of listing)
  head-good o =
      (snoc-chain l.k l.c (front_of listing) (head_of listing)
      (ap (chain_of l.k l.c) (sym (ends-with listing (opens-no v o))) ∙ fit.chain)).good

  front_length : length (front_of listing) ≡ l.count - 1
  front_length = length-take (length listing - 1) listing ∙ omega (arith, listed)

  -- a new segment is chosen
  pub chosen-new : (g : Segment) (i next slot : ℕ) → opens_of v ≡ true → next ≡ next_id listing → (next ≡ 0 → ⊥) → slot ≡ lowest_free v
      → (slot ≡ l.k → ⊥) → i ≡ l.count
      → g ≡ record { id = next; slot = slot; size = 0; min = l.end + 1; max = l.end + 1; newest_at = 0 } → Chosen l g i
  chosen-new g i next slot o n nz f nf p e =
      record {
        target = e ∙ (λ j. record { id = n j; slot = f j; size = 0; min = l.end + 1; max = l.end + 1; newest_at = 0 }) ∙ simp o;
        index = simp o (p ∙ sym listed);
        id-good = simp (o, ne_eqb (next_id listing) 0 (λ z. nz (n ∙ z)));
        slot-free = simp (o, ne_eqb (lowest_free v) l.k (λ z. nf (f ∙ z)));
        size = omega (arith, ap (λ (x : Segment). x.size) e);
      }

  -- ---- in the code's terms: `last` is the place of the head's entry

  module _ (last : ℕ) (at_last : last ≡ l.count - 1) where
    here : get_or l.segs last no_segment ≡ head_of listing
    here = ap (λ (j : ℕ). get_or l.segs j no_segment) at_last ∙ head_at

    -- whether a new segment is wanted
    pub opens_by : (b : Bool) → b ≡ pick (eqb l.count 0) true (leb l.m (get_or l.segs last no_segment).size) → b ≡ opens_of v
    unfolding opens_of
    opens_by b e = e ∙ rw (here, listed) refl

    -- a new segment's id
    pub next-by : (x : ℕ) → x ≡ ((get_or l.segs last no_segment).id + 1) % 2 ^ 32 → x ≡ next_id listing
    next-by x e = e ∙ ap (λ (g : Segment). (g.id + 1) % 2 ^ 32) here ∙ after-head listing

    -- a new segment is refused by 5 or 6, as the definition says
    pub opened-refuses : (n d : ℕ) → opens_of v ≡ true → Past l bytes n
        → opened_of v (get_or l.segs last no_segment).id ≡ refused d → decide_log l bytes n ≡ refused d
    opened-refuses n d o k =
        opened-outcomes v (get_or l.segs last no_segment).id (λ (x : Outcome Segment). x ≡ refused d → decide_log l bytes n ≡ refused d)
        (λ h e. append-refuses-5 l bytes n k.fits k.small k.more o (sym (next-by _ refl) ∙ h) ∙ ap refused (refused-injective e))
        (λ h q e. append-refuses-6 l bytes n k o (λ z. h (next-by _ refl ∙ z)) q ∙ ap refused (refused-injective e))
        (λ h q e. refused-is-not-done (sym e))

    -- or chosen
    pub opened-chosen : (g : Segment) (i : ℕ) → opens_of v ≡ true → i ≡ l.count
        → opened_of v (get_or l.segs last no_segment).id ≡ done g → Chosen l g i
    opened-chosen g i o p =
        opened-outcomes v (get_or l.segs last no_segment).id (λ (x : Outcome Segment). x ≡ done g → Chosen l g i)
        (λ h e. refused-is-not-done e) (λ h q e. refused-is-not-done e)
        (λ h q e. chosen-new g i _ (lowest_free v) o (next-by _ refl) h refl q p (sym (done-injective e)))

    -- the head is chosen
    pub chosen-head : (g : Segment) (i : ℕ) → opens_of v ≡ false → i ≡ last → g ≡ get_or l.segs last no_segment → Chosen l g i
    chosen-head g i o p e =
        let is : g ≡ head_of listing = e ∙ here in
        record {
          target = is ∙ simp o;
          index = simp o (p ∙ at_last ∙ sym front_length);
          id-good = simp o;
          slot-free = simp o;
          size = omega (arith, (head-good o).size, ap (λ (x : Segment). x.size) is);
        }

-- ---- the target of an accepted record

-- its entry is one of the 64, its slot lies in the area, and a store at its entry is the segment behind those before it
pub record Spot (l : Log) : Type 0 where
  pub few : length (before_of (view_of l)) < 64
  pub slot : (target_of (view_of l)).slot < l.k
  pub size : (target_of (view_of l)).size ≤ l.c
  pub stores : (x : Segment) → set l.segs (length (before_of (view_of l))) x ≡ entries_of (before_of (view_of l) ++ (x ∷ []))

module _ (l : Log) (bytes n : ℕ) (long : length l.segs ≡ 64) (ok : Accepted l bytes n) where
  abbrev w : View
  w = view_of l

  abbrev hs : List Segment
  hs = take l.count l.segs

  f : Fitting l bytes
  f = fit l bytes long ok.fits

  count-is : length hs ≡ l.count
  count-is = listed l bytes long ok.fits

  plain : plain_of l ≡ true
  unfolding fitting_of
  plain = (and_both (plain_of l) (shaped_of w && eqb bytes (l.k * l.c)) ok.fits).0

  all-segs : l.segs ≡ entries_of hs
  all-segs = sym (ap (λ (x : Log). x.segs) (log-view l long plain))

  -- a new segment
  spot-new : opens_of w ≡ true → Spot l
  unfolding distinct
  spot-new o =
      let free : lowest_free w ≡ l.k → ⊥ = ok.allowed.slot-free o in
      let slot : lowest_free w < l.k = omega (arith, free-most hs l.k 0) in
      let own : fresh slot_number (lowest_free w) hs ≡ true = free-good hs l.k 0 (omega arith) in
      let pigeon = pigeons slot_number l.k (fresh_of w ∷ hs) (both-and (fresh slot_number (lowest_free w) hs) (slots_apart hs) own f.apart)
      (slot, chain-below l.k l.c hs f.chain) in
      let room : length hs < 64 = omega (arith, pigeon, f.sizes.few-slots) in
      record {
        few = simp o room;
        slot = simp o slot;
        size = simp o (omega arith);
        stores = λ x. simp o (ap (λ (y : List Segment). set y (length hs) x) all-segs ∙ set_new hs x room);
      }

  -- the head
  spot-head : opens_of w ≡ false → Spot l
  spot-head o =
      let ends = ends-with hs (opens-no w o) in
      let good = head-good l bytes long ok.fits o in
      record {
        few = simp o (omega (arith, front_length l bytes long ok.fits, few-listed l bytes long ok.fits));
        slot = simp o good.slot;
        size = simp o good.size;
        stores = λ x.
            simp o
            (ap (λ (y : List Segment). set y (length (front_of hs)) x) (all-segs ∙ ap entries_of ends)
            ∙ set-head (front_of hs) (head_of hs) x);
      }

  pub spot : Spot l
  spot = by-test (opens_of w) spot-new spot-head
