-- The prunes keep the invariant, and prune recent always finds its cut; refused, they answer 8 or 9.
-- Assumes nothing.
use mathlib.Core.Bool.{false, true, Bool}
use mathlib.Core.List.{List, [], ◌∷◌, ◌++◌, append_assoc}
use mathlib.Core.Path.{sym, ap, ◌∙◌, ◌≡◌, refl, subst}
use Prim.Native.Nat.{ℕ, ◌≤◌, ◌<◌, ◌-◌, ◌+◌, ◌*◌}
use native.Mathlib.Omega.{arith}
use lib.Dec.{ltb, eqb}
use lib.ListN.{length, get_or, drop, take}
use lib.Seq.{take-take, take_at}
use borrow.Author.Tests.{ltb-false, le-ltb, ltb-true, lt-ltb, eqb-true}
use Rattle.lists.proofs.Bools.{clash}
use Rattle.lists.proofs.Cases.{by-test}
use Rattle.seglog.proofs.View.{front-snoc, head-snoc}
use Rattle.seglog.proofs.Fit.{sizes-are}
use Rattle.seglog.specs.View.{View, front_of, head_of}
use Rattle.seglog.specs.Chain.{slots_apart}
use Rattle.segment.specs.declared.Segment.{Segment}
use Rattle.segment.specs.Segment.{no_segment, image_in, ended_at, slot_number}
use Rattle.segment.specs.Chain.{Chain}
use Rattle.segment.proofs.Chain.{chain_more}
use Rattle.lists.specs.Outcome.{Outcome, refused, done}
use Rattle.lists.proofs.Distinct.{distinct-front, distinct_more, snoc-distinct}
use Rattle.seglog_prune.specs.Drop.{drop_old, drop_new, keep_at}
use Rattle.seglog_prune.specs.declared.Newest.{Newest}
use Rattle.seglog_prune.specs.Cut.{cut_at, find_cut, cut_in}
use Rattle.seglog_prune.specs.Prune.{Pruned, pruned, prune_of, started_at, prune_oldest_of, cut_off, prune_recent_of}
use Rattle.seglog_prune.specs.Prune as Prune
use Rattle.seglog_prune.proofs.DropKept.{old-chain}
use Rattle.seglog_prune.proofs.Decide.{Inner, prune-ways}
use Rattle.walk.specs.Judging.{max_image}
use Rattle.walk.specs.Records.{records_from, Plain}
use Rattle.history.proofs.Cuts.{record_of, cut-records, cut-newest}
use Rattle.history.proofs.Invariant.{Holds, empty_holds, Live}
use Rattle.history.proofs.Records.{from_front, splice-whole}
use Rattle.history.proofs.Slots.{Stored, newest-at}

-- what a prune's outcome keeps: a refusal is 8 or 9
abbrev pub PruneKeeps : (ℕ → List ℕ) → Outcome Pruned → Type 0
PruneKeeps f (refused n) = (8 ≤ n) × (n ≤ 9)
PruneKeeps f (done p) = Holds p.log p.area f

-- it is enough to show it past the tests
prune-keeps : (a : View) (area : List ℕ) (f : ℕ → List ℕ) (n : ℕ) (rest : Outcome Pruned) → Holds a area f
    → (Inner a true n → PruneKeeps f rest) → PruneKeeps f (prune_of a true area n rest)
prune-keeps a area f n rest h k =
    prune-ways a true area n rest (PruneKeeps f) (λ q. clash (sym q))
    (λ q. empty_holds a.k a.c a.m area f h.sizes h.all) (λ q. h) (omega arith, omega arith) (omega arith, omega arith) k

-- ---- oldest

-- the live start lies in the first segment
live-from : (gs : List Segment) (s e j : ℕ) → 0 < length gs → (get_or gs 0 no_segment).min ≤ s → s ≤ (get_or gs 0 no_segment).max → Live s e j gs
live-from [] s e j some from to = absurd (omega arith)
live-from (g ∷ gs) s e j some from to = (from, to)

-- the live start is not below the first record
pub live-low : (P : Segment → Type 0) (gs : List Segment) (i b s e j c : ℕ) → 0 < length gs → Chain P i b gs j c → Live s e j gs → b ≤ s
live-low P [] i b s e j c l h v = absurd (omega arith)
live-low P (g ∷ gs) i b s e j c l h v = omega (arith, h.0.min, v.0)

-- the invariant after prune oldest
pub oldest-holds : (a : View) (area : List ℕ) (f : ℕ → List ℕ) (n : ℕ) → Holds a area f → Inner a true n
    → Holds (started_at a n (drop_old n a.segs)) area f
oldest-holds a area f n h w =
    let P : Segment → Type 0 = Stored area f a.k a.c in
    let l = live-low P a.segs h.i h.b a.start a.end h.j (a.end + 1) w.some h.chain h.live in
    let o = old-chain P a.segs h.i h.b n h.j (a.end + 1) w.some (omega (arith, l, w.lower)) (omega (arith, w.upper))
    h.chain h.apart in
    record {
      sizes = h.sizes;
      all = h.all;
      top = h.top;
      i = o.i';
      b = o.b';
      j = h.j;
      first = omega (arith, h.first, o.first);
      low = omega (arith, h.low, o.low);
      chain = o.chain;
      apart = o.apart;
      live = live-from (drop_old n a.segs) n a.end h.j o.some o.from o.to;
    }

-- prune oldest keeps the invariant
pub oldest-keeps : (a : View) (area : List ℕ) (f : ℕ → List ℕ) (n : ℕ) → Holds a area f → PruneKeeps f (prune_oldest_of a true area n)
unfolding prune_oldest_of
oldest-keeps a area f n h =
    prune-keeps a area f n (pruned (started_at a n (drop_old n a.segs)) area) h (λ w. oldest-holds a area f n h w)

-- ---- recent

-- segments above n are all dropped
pub new_none : (P : Segment → Type 0) (gs : List Segment) (i b n j c : ℕ) → n < b → Chain P i b gs j c → drop_new n gs ≡ []
unfolding drop_new
new_none P [] i b n j c l h = refl
new_none P (g ∷ gs) i b n j c l h =
    ap (keep_at n g) (new_none P gs (i + 1) (g.max + 1) n j c (omega (arith, h.0.order)) h.1)
    ∙ simp (lt-ltb n g.min (omega (arith, h.0.min)))

-- a segment in front of one that is kept is kept
pub keep-cons : (n : ℕ) (g : Segment) (hs : List Segment) (x : Segment) → keep_at n g (hs ++ (x ∷ [])) ≡ g ∷ (hs ++ (x ∷ []))
keep-cons n g [] x = refl
keep-cons n g (h ∷ hs) x = refl

-- the segment that holds the record n, with those before and behind it
pub record New (P : Segment → Type 0) (i b n : ℕ) (gs : List Segment) : Type 0 where
  pub hs : List Segment
  pub g : Segment
  pub rest : List Segment
  pub is : gs ≡ hs ++ (g ∷ rest)
  pub kept : drop_new n gs ≡ hs ++ (g ∷ [])
  pub left : Chain P i b hs g.id g.min
  pub good : P g
  pub low : g.min ≤ n
  pub high : n ≤ g.max

-- prune recent keeps the segments up to the one that holds n
pub new : (P : Segment → Type 0) (gs : List Segment) (i b n j c : ℕ) → b ≤ n → n < c → Chain P i b gs j c → New P i b n gs
unfolding drop_new
new P [] i b n j c l u h = absurd (omega (arith, h.1))
new P (g ∷ gs) i b n j c l u h = go (ltb g.max n) refl (λ q. new P gs (i + 1) (g.max + 1) n j c q u h.1)
  where
    go : (t : Bool) → ltb g.max n ≡ t → (g.max + 1 ≤ n → New P (i + 1) (g.max + 1) n gs) → New P i b n (g ∷ gs)
    go true q ih =
        let t = ih (omega (arith, ltb-true g.max n q)) in
        record {
          hs = g ∷ t.hs;
          g = t.g;
          rest = t.rest;
          is = ap (λ (y : List Segment). g ∷ y) t.is;
          kept = ap (keep_at n g) t.kept ∙ keep-cons n g t.hs t.g;
          left = (h.0, t.left);
          good = t.good;
          low = t.low;
          high = t.high;
        }
    go false q ih =
        record {
          hs = [];
          g = g;
          rest = gs;
          is = refl;
          kept =
              ap (keep_at n g) (new_none P gs (i + 1) (g.max + 1) n j c (omega (arith, ltb-false g.max n q)) h.1)
              ∙ simp (le-ltb n g.min (omega (arith, h.0.min)));
          left = (sym h.0.id, sym h.0.min);
          good = h.0.good;
          low = omega (arith, h.0.min);
          high = ltb-false g.max n q;
        }

-- the record n in g, whose payloads f has
abbrev pub newest_in : (ℕ → List ℕ) → Segment → ℕ → Newest
newest_in f g n = record_of f g.min n

-- g ends with it
abbrev pub closed_by : (ℕ → List ℕ) → Segment → ℕ → Segment
closed_by f g n = ended_at g n (newest_in f g n).at (newest_in f g n).end

-- the log that ends with it, after hs
abbrev pub ended_view : View → (ℕ → List ℕ) → ℕ → List Segment → Segment → View
ended_view a f n hs g = Prune.ended_view a n hs g (newest_in f g n)

live-ended : (hs rest : List Segment) (g y : Segment) (s e j e' j' : ℕ) → Live s e j (hs ++ (g ∷ rest)) → y.min ≡ g.min → s ≤ y.max
    → Live s e' j' (hs ++ (y ∷ []))
live-ended [] rest g y s e j e' j' h q l = (omega (arith, h.0), omega arith)
live-ended (x ∷ hs) rest g y s e j e' j' h q l = (h.0, h.1)

-- what the two ways to the record n of a stored segment come to
pub record Cut (area : List ℕ) (f : ℕ → List ℕ) (c n : ℕ) (g : Segment) : Type 0 where
  -- a look at the newest record's header, or the search
  pub newest : cut_in g (image_in area c g) n ≡ done (newest_in f g n)
  -- the search
  pub searched : find_cut (image_in area c g) n 0 ≡ done (newest_in f g n)

-- both find it
pub cut-stored : (area : List ℕ) (f : ℕ → List ℕ) (k c : ℕ) → c ≤ max_image → (n : ℕ) (g : Segment) → Stored area f k c g → g.min ≤ n
    → n ≤ g.max → Cut area f c n g
unfolding cut_in
cut-stored area f k c slots n g good low high =
    let img : List ℕ = image_in area c g in
    let none : (m : ℕ) → 0 + m ≡ m = λ m. omega arith in
    let searched : find_cut img n 0 ≡ done (newest_in f g n) =
    ap (λ (l : List ℕ). find_cut l n 0) good.image
    ∙ cut-records f n (g.max + 1 - g.min) [] g.min 0 refl refl plain low (omega arith) (omega (arith, good.long, good.room))
    ∙ (λ i. done (record { at = none (newest_in f g n).at i; end = none (newest_in f g n).end i })) in
    record {
      newest = by-test (eqb g.max n) (λ q. simp q (looked (eqb-true g.max n q))) (λ q. simp q searched);
      searched = searched;
    }
  where
    plain : Plain f g.min (g.max + 1 - g.min)
    plain = record { small = λ i l u. good.small i l (omega arith); ids = omega (arith, good.top) }

    looked : g.max ≡ n → cut_at (image_in area c g) n g.newest_at ≡ done (newest_in f g n)
    looked e =
        ap (λ (l : List ℕ). cut_at l n g.newest_at) good.image
        ∙ ap (cut_at (records_from f g.min (g.max + 1 - g.min)) n) (newest-at area f k c g good (omega arith))
        ∙ subst (λ (m : ℕ). cut_at (records_from f g.min (m + 1 - g.min)) n (length (records_from f g.min (m - g.min)))
        ≡ done (newest_in f g n)) (sym e)
        (cut-newest f g.min n (subst (λ (m : ℕ). Plain f g.min (m + 1 - g.min)) e plain) low
        (omega (arith, good.long, good.room, ap (λ (m : ℕ). length (records_from f g.min (m + 1 - g.min))) e)))

module _ (a : View) (area : List ℕ) (f : ℕ → List ℕ) (n : ℕ) (h : Holds a area f) (w : Inner a true n) where
  abbrev P : Segment → Type 0
  P = Stored area f a.k a.c

  slots : a.c ≤ max_image
  slots = (sizes-are a.k a.c a.m h.sizes).at_most

  -- the segment that holds n
  pub at_new : New P h.i h.b n a.segs
  at_new =
      new P a.segs h.i h.b n h.j (a.end + 1)
      (omega (arith, live-low P a.segs h.i h.b a.start a.end h.j (a.end + 1) w.some h.chain h.live, w.lower))
      (omega (arith, w.upper)) h.chain

  -- the cut is found, and nothing is missing
  pub ended : (hs : List Segment) (g : Segment) → P g → g.min ≤ n → n ≤ g.max
      → cut_off a area n hs g (cut_in g (image_in area a.c g) n) ≡ pruned (ended_view a f n hs g) area
  ended hs g good low high =
      let fit = from_front f g.min (n + 1 - g.min) (g.max + 1 - g.min) (omega arith) in
      ap (cut_off a area n hs g) (cut-stored area f a.k a.c slots n g good low high).newest
      ∙ ap (pruned (ended_view a f n hs g)) (splice-whole (g.slot * a.c + g.size) (length (records_from f g.min (n + 1 - g.min)))
      g.size area (omega (arith, fit.0, good.long)))

  ended-good : (g : Segment) → P g → g.min ≤ n → n ≤ g.max → P (closed_by f g n)
  ended-good g good low high =
      let fit = from_front f g.min (n + 1 - g.min) (g.max + 1 - g.min) (omega arith) in
      record {
        slot = good.slot;
        room = omega (arith, fit.0, good.long, good.room);
        id = good.id;
        top = omega (arith, good.top);
        small = λ i l u. good.small i l (omega arith);
        long = refl;
        image =
            sym (take-take (length (records_from f g.min (n + 1 - g.min))) g.size (drop (g.slot * a.c) area)
            (omega (arith, fit.0, good.long)))
            ∙ ap (take (length (records_from f g.min (n + 1 - g.min)))) good.image ∙ fit.1;
        newest = λ l.
            let back : n ≡ n + 1 - 1 = omega arith in ap (λ (j : ℕ). length (records_from f g.min (j - g.min))) back;
      }

  -- the invariant after prune recent
  pub ended-holds : Holds (ended_view a f n at_new.hs at_new.g) area f
  ended-holds =
      let t = at_new in
      let split : a.segs ≡ (t.hs ++ (t.g ∷ [])) ++ t.rest = t.is ∙ sym (append_assoc t.hs (t.g ∷ []) t.rest) in
      let front : List Segment = t.hs ++ (t.g ∷ []) in
      let slots = snoc-distinct slot_number t.hs t.g (ap slots_apart (sym (take_at front t.rest (length front) refl))
      ∙ distinct-front slot_number (length front) (front ++ t.rest) (ap slots_apart (sym split) ∙ h.apart)) in
      record {
        sizes = h.sizes;
        all = h.all;
        top = omega (arith, h.top, w.upper);
        i = h.i;
        b = h.b;
        j = t.g.id + 1;
        first = h.first;
        low = h.low;
        chain = chain_more P t.hs (closed_by f t.g n) h.i h.b t.left t.low
            (ended-good t.g t.good t.low t.high);
        apart = distinct_more slot_number t.hs (closed_by f t.g n) slots.0 slots.1;
        live =
            live-ended t.hs t.rest t.g (closed_by f t.g n) a.start a.end h.j n (t.g.id + 1)
            (subst (λ (l : List Segment). Live a.start a.end h.j l) t.is h.live) refl w.lower;
      }

  -- prune recent, past its tests, is the log cut there, with the area as it was
  pub recent-is : cut_off a area n (front_of (drop_new n a.segs)) (head_of (drop_new n a.segs))
      (cut_in (head_of (drop_new n a.segs)) (image_in area a.c (head_of (drop_new n a.segs))) n)
      ≡ pruned (ended_view a f n at_new.hs at_new.g) area
  recent-is =
      let t = at_new in
      let front : front_of (drop_new n a.segs) ≡ t.hs = ap (λ (l : List Segment). front_of l) t.kept ∙ front-snoc t.hs t.g in
      let head : head_of (drop_new n a.segs) ≡ t.g = ap (λ (l : List Segment). head_of l) t.kept ∙ head-snoc t.hs t.g in
      ap (λ (l : List Segment). cut_off a area n l (head_of (drop_new n a.segs))
      (cut_in (head_of (drop_new n a.segs)) (image_in area a.c (head_of (drop_new n a.segs))) n)) front
      ∙ ap (λ (y : Segment). cut_off a area n t.hs y (cut_in y (image_in area a.c y) n)) head
      ∙ ended t.hs t.g t.good t.low t.high

-- prune recent keeps the invariant
pub recent-keeps : (a : View) (area : List ℕ) (f : ℕ → List ℕ) (n : ℕ) → Holds a area f → PruneKeeps f (prune_recent_of a true area n)
unfolding prune_recent_of
recent-keeps a area f n h =
    prune-keeps a area f n _ h (λ w. subst (PruneKeeps f) (sym (recent-is a area f n h w)) (ended-holds a area f n h w))
