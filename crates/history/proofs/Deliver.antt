-- What the index rows of a log's own images lead to: for each live id, once and in order, a good row with the id's payload.
-- Assumes nothing.
use mathlib.Core.Bool.{true, false, Bool}
use mathlib.Core.List.{List, [], ◌∷◌, ◌++◌, append_assoc}
use mathlib.Core.Path.{◌≡◌, refl, ap, ◌∙◌, sym}
use Prim.Native.Nat.{ℕ, zero, suc, ◌+◌, ◌-◌, ◌≤◌, ◌<◌, min, ◌*◌}
use native.Mathlib.Nat.{add-zero}
use native.Mathlib.Omega.{arith}
use lib.Dec.{leb}
use lib.ListN.{length, length-append, take}
use lib.Seq.{drop-append-add}
use borrow.Author.Tests.{le-leb, lt-leb, leb-true, leb-false, le-ltb}
use Rattle.lists.proofs.Splice.{part-part}
use Rattle.lists.specs.Choice.{pick}
use Rattle.lists.specs.Splice.{part}
use Rattle.record.proofs.Record.{record-length, room-ge, record-payload}
use Rattle.record.specs.Record.{record_bytes, record_room}
use Rattle.seglog.specs.Fit.{fitting_of}
use Rattle.seglog.specs.declared.Log.{Log}
use Rattle.segment.specs.declared.Segment.{Segment}
use Rattle.segment.specs.Segment.{image_in}
use Rattle.segment.specs.Chain.{Chain}
use Rattle.segment.proofs.Chain.{chain-le}
use Rattle.recovery_walk.specs.Rows.{row_of}
use Rattle.walk.specs.Judging.{live_of}
use Rattle.walk.proofs.Judging.{live-over}
use Rattle.payload.specs.Row.{row_question, payload_of, outside_of}
use Rattle.payload.proofs.Row.{payload-good}
use Rattle.walk.specs.Records.{records_from}
use Rattle.history.proofs.Over.{rows_over}
use Rattle.history.proofs.Scans.{rows_chain}
use Rattle.history.proofs.Slots.{Stored}

-- a row as a reader meets it: its id, the number of the row question, the payload
pub data Item : Type 0 where
  item : ℕ → ℕ → List ℕ → Item

-- each row's id, number and payload, in order; fewer than four words are no row
unfoldable pub delivered : Log → List ℕ → List ℕ → List Item
delivered l area [] = []
delivered l area (id ∷ []) = []
delivered l area (id ∷ slot ∷ []) = []
delivered l area (id ∷ slot ∷ off ∷ []) = []
delivered l area (id ∷ slot ∷ off ∷ len ∷ ws) =
    item id (row_question l area slot off len) (payload_of l area slot off len) ∷ delivered l area ws

-- good rows with the ids a, a + 1, .., n of them, and what f has for them
unfoldable pub items : (ℕ → List ℕ) → ℕ → ℕ → List Item
items f a zero = []
items f a (suc n) = item a 0 (f a) ∷ items f (suc a) n

-- the live ones of n ids from a on
unfoldable pub live_items : (ℕ → List ℕ) → (s e a n : ℕ) → List Item
live_items f s e a zero = []
live_items f s e a (suc n) = pick (live_of s e a) (item a 0 (f a) ∷ []) [] ++ live_items f s e (suc a) n

live-join : (f : ℕ → List ℕ) (s e a m n : ℕ) → live_items f s e a (m + n) ≡ live_items f s e a m ++ live_items f s e (a + m) n
unfolding live_items
live-join f s e a zero n = let z : 0 + n ≡ n = omega arith in rw (z, add-zero) refl
live-join f s e a (suc m) n =
    let y : suc m + n ≡ suc (m + n) = omega arith in
    let z : suc a + m ≡ a + suc m = omega arith in
    rw (y, append_assoc, ← z) (ap (λ (l : List Item). pick (live_of s e a) (item a 0 (f a) ∷ []) [] ++ l) (live-join f s e (suc a) m n))

live-yes : (s e a : ℕ) → s ≤ a → a ≤ e → live_of s e a ≡ true
unfolding live_of
live-yes s e a h g = simp (le-leb s a h, le-leb a e g)

-- an id below s is not live
pub live-under : (s e a : ℕ) → a < s → live_of s e a ≡ false
unfolding live_of
live-under s e a h = simp (lt-leb s a h)

live-tail : (f : ℕ → List ℕ) (s e n a : ℕ) → s ≤ a → live_items f s e a n ≡ items f a (min (a + n) (e + 1) - a)
unfolding live_items items
live-tail f s e zero a h = let z : min (a + 0) (e + 1) - a ≡ 0 = omega arith in rw z refl
live-tail f s e (suc n) a h = go (leb a e) refl (live-tail f s e n (suc a) (omega arith))
  where
    go : (b : Bool) → leb a e ≡ b → live_items f s e (suc a) n ≡ items f (suc a) (min (suc a + n) (e + 1) - suc a)
        → pick (live_of s e a) (item a 0 (f a) ∷ []) [] ++ live_items f s e (suc a) n ≡ items f a (min (a + suc n) (e + 1) - a)
    go true q ih =
        let z : min (a + suc n) (e + 1) - a ≡ suc (min (suc a + n) (e + 1) - suc a) = omega (arith, leb-true a e q) in
        simp (live-yes s e a h (leb-true a e q)) (rw z (ap (λ (l : List Item). item a 0 (f a) ∷ l) ih))
    go false q ih =
        let y : min (a + suc n) (e + 1) - a ≡ 0 = omega (arith, leb-false a e q) in
        let z : min (suc a + n) (e + 1) - suc a ≡ 0 = omega (arith, leb-false a e q) in
        simp (live-over s e a (leb-false a e q)) (rw y (ih ∙ rw z refl))

-- the live ones of ids that reach from s or below to e or above
pub live-items : (f : ℕ → List ℕ) (s e n a : ℕ) → a ≤ s → s ≤ e → e < a + n → live_items f s e a n ≡ items f s (e + 1 - s)
unfolding live_items
live-items f s e zero a h o u = absurd (omega arith)
live-items f s e (suc n) a h o u = go (leb s a) refl (live-items f s e n (suc a))
  where
    go : (b : Bool) → leb s a ≡ b → (suc a ≤ s → s ≤ e → e < suc a + n → live_items f s e (suc a) n ≡ items f s (e + 1 - s))
        → live_items f s e a (suc n) ≡ items f s (e + 1 - s)
    go true q ih =
        let same : a ≡ s = omega (arith, leb-true s a q) in
        let z : min (a + suc n) (e + 1) - a ≡ e + 1 - s = omega arith in
        live-tail f s e (suc n) a (leb-true s a q) ∙ ap (items f a) z ∙ ap (λ (x : ℕ). items f x (e + 1 - s)) same
    go false q ih = simp (live-under s e a (leb-false s a q)) (ih (leb-false s a q) o (omega arith))

module _ (l : Log) (area : List ℕ) (f : ℕ → List ℕ) (s e : ℕ) (fits : fitting_of l (length area) ≡ true) where
  good-row : (slot off n : ℕ) → slot < l.k → off + n ≤ l.c → row_question l area slot off n ≡ 0
  unfolding row_question outside_of
  good-row slot off n in_area_lem in-slot = simp (fits, lt-leb l.k slot in_area_lem, le-ltb l.c (off + n) in-slot)

  module _ (g : Segment) (in_area_lem : g.slot < l.k) (in-slot : g.size ≤ l.c) where
    -- the row of a record that stands in the image
    row-record : (id : ℕ) (p pre post : List ℕ) → image_in area l.c g ≡ pre ++ (record_bytes id p ++ post)
        → g.size ≡ length (pre ++ (record_bytes id p ++ post))
        → (row_question l area g.slot (length pre + 12) (length p) ≡ 0) × (payload_of l area g.slot (length pre + 12) (length p) ≡ p)
    row-record id p pre post is long =
        let size : g.size ≡ length pre + (record_room (length p) + length post) =
        long ∙ length-append pre (record_bytes id p ++ post)
        ∙ ap (λ (k : ℕ). length pre + k) (length-append (record_bytes id p) post ∙ ap (λ (k : ℕ). k + length post) (record-length id p)) in
        let inside : length pre + 12 + length p ≤ g.size = omega (arith, room-ge (length p)) in
        let good = good-row g.slot (length pre + 12) (length p) in_area_lem (omega arith) in (
          good,
          payload-good l area g.slot (length pre + 12) (length p) good
              ∙ sym (part-part (g.slot * l.c) g.size (length pre + 12) (length p) area inside)
              ∙ ap (part (length pre + 12) (length p)) is
              ∙ ap (take (length p)) (drop-append-add pre (record_bytes id p ++ post) 12) ∙ record-payload id p post,
        )

    deliver-records : (n b : ℕ) (pre ws : List ℕ) → image_in area l.c g ≡ pre ++ records_from f b n
        → g.size ≡ length (pre ++ records_from f b n)
        → delivered l area (rows_over f s e g.slot (length pre) b n ++ ws) ≡ live_items f s e b n ++ delivered l area ws
    unfolding rows_over live_items records_from row_of delivered
    deliver-records zero b pre ws is long = refl
    deliver-records (suc n) b pre ws is long =
        let there : pre ++ (record_bytes b (f b) ++ records_from f (suc b) n) ≡ (pre ++ record_bytes b (f b)) ++ records_from f (suc b) n =
        sym (append_assoc pre (record_bytes b (f b)) (records_from f (suc b) n)) in
        let size : length (pre ++ record_bytes b (f b)) ≡ length pre + record_room (length (f b)) =
        length-append pre (record_bytes b (f b)) ∙ ap (λ (k : ℕ). length pre + k) (record-length b (f b)) in
        let ih = deliver-records n (suc b) (pre ++ record_bytes b (f b)) ws (is ∙ there) (long ∙ ap length there) in
        let row = row-record b (f b) pre (records_from f (suc b) n) is long in
        go (live_of s e b) (ap (λ (k : ℕ). delivered l area (rows_over f s e g.slot k (suc b) n ++ ws)) (sym size) ∙ ih) row.0 row.1
      where
        rest : List ℕ
        rest = rows_over f s e g.slot (length pre + record_room (length (f b))) (suc b) n

        go : (t : Bool) → delivered l area (rest ++ ws) ≡ live_items f s e (suc b) n ++ delivered l area ws
            → row_question l area g.slot (length pre + 12) (length (f b)) ≡ 0
            → payload_of l area g.slot (length pre + 12) (length (f b)) ≡ f b
            → delivered l area ((row_of t b g.slot (length pre + 12) (length (f b)) ++ rest) ++ ws)
            ≡ (pick t (item b 0 (f b) ∷ []) [] ++ live_items f s e (suc b) n) ++ delivered l area ws
        go true ih q r =
            ap (λ (x : ℕ). item b x (payload_of l area g.slot (length pre + 12) (length (f b))) ∷ delivered l area (rest ++ ws)) q
            ∙ ap (λ (p : List ℕ). item b 0 p ∷ delivered l area (rest ++ ws)) r ∙ ap (λ (x : List Item). item b 0 (f b) ∷ x) ih
        go false ih q r = ih

  -- the rows of all listed segments
  pub deliver-chain : (gs : List Segment) (i b j b' : ℕ) (order : s ≤ e) → Chain (Stored area f l.k l.c) i b gs j b'
      → delivered l area (rows_chain area f l.k l.c s e order gs) ≡ live_items f s e b (b' - b)
  unfolding rows_chain delivered live_items
  deliver-chain [] i b j b' order h = let z : b' - b ≡ 0 = omega arith in rw z refl
  deliver-chain (g ∷ gs) i b j b' order h =
      let t = h.0 in
      let p = t.good in
      let under = chain-le (Stored area f l.k l.c) gs (i + 1) (g.max + 1) j b' h.1 in
      let y : b' - b ≡ (g.max + 1 - b) + (b' - (g.max + 1)) = omega (arith, t.order, under) in
      let z : b + (g.max + 1 - b) ≡ g.max + 1 = omega (arith, t.order) in
      deliver-records g p.slot p.room (g.max + 1 - g.min) g.min [] (rows_chain area f l.k l.c s e order gs) p.image
      p.long
      ∙ ap (λ (x : List Item). live_items f s e g.min (g.max + 1 - g.min) ++ x)
      (deliver-chain gs (i + 1) (g.max + 1) j b' order h.1)
      ∙ ap (λ (x : ℕ). live_items f s e x (g.max + 1 - x) ++ live_items f s e (g.max + 1) (b' - (g.max + 1))) t.min
      ∙ ap (λ (x : ℕ). live_items f s e b (g.max + 1 - b) ++ live_items f s e x (b' - (g.max + 1))) (sym z)
      ∙ sym (ap (live_items f s e b) y ∙ live-join f s e b (g.max + 1 - b) (b' - (g.max + 1)))

-- only what f has for their ids counts
pub items-agree : (f g : ℕ → List ℕ) (n a : ℕ) → ((i : ℕ) → a ≤ i → i < a + n → f i ≡ g i) → items f a n ≡ items g a n
unfolding items
items-agree f g zero a h = refl
items-agree f g (suc n) a h =
    rw (h a (omega arith) (omega arith), items-agree f g n (suc a) (λ i l u. h i (omega arith) (omega arith)))
