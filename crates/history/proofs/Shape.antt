-- A log of which the invariant holds is well shaped, and fits its area.
-- Assumes nothing.
use mathlib.Core.Bool.{true, ◌&&◌}
use mathlib.Core.List.{List, [], ◌∷◌}
use mathlib.Core.Path.{◌≡◌, ap, refl, ◌∙◌}
use Prim.Native.Nat.{ℕ, ◌-◌, ◌≤◌, ◌<◌, ◌+◌, suc, ◌%◌, ◌*◌}
use native.Mathlib.Omega.{arith}
use lib.Dec.{eqb}
use lib.ListN.{length, length-append}
use borrow.Author.Tests.{eq-eqb, le-leb}
use Rattle.record.proofs.Record.{record-length, room-ge}
use Rattle.record.specs.Record.{record_bytes}
use Rattle.lists.proofs.Each.{every_map}
use Rattle.lists.proofs.Distinct.{pigeons, Below}
use Rattle.segment.specs.Segment.{slot_number}
use Rattle.seglog.proofs.Fit.{sizes-are}
use Rattle.seglog.specs.View.{head_of, View}
use Rattle.seglog.specs.Chain.{chain_of, ends_of}
use Rattle.seglog.specs.Fit.{fits_of, shaped_of, sizes_of}
use Rattle.segment.specs.declared.Segment.{Segment}
use Rattle.segment.specs.Chain.{Chain, NewestFits}
use Rattle.segment.proofs.Chain.{chain-every, chain-map}
use Rattle.seglog.proofs.Chain.{chain-passes, chain-ends, are-ends, empty-ends}
use Rattle.walk.specs.Records.{records_from}
use Rattle.history.proofs.Invariant.{Live, Holds}
use Rattle.history.proofs.Records.{from_more, from-pages}
use Rattle.history.proofs.Slots.{Stored, newest-at}

module _ (area : List ℕ) (f : ℕ → List ℕ) (k c : ℕ) where
  abbrev P : Segment → Type 0
  P = Stored area f k c

  -- a segment's newest record fits
  pub newest-fits : (g : Segment) → P g → g.min ≤ g.max → NewestFits g.newest_at g.size
  newest-fits g p h =
      let at = newest-at area f k c g p h in
      let one : g.max + 1 - g.min ≡ suc (g.max - g.min) = omega arith in
      let last : ℕ = g.min + (g.max - g.min) in
      record {
        pages = ap (λ (n : ℕ). n % 4096) at ∙ from-pages f g.min (g.max - g.min);
        header = omega (
          arith,
          at,
          p.long,
          ap (λ (n : ℕ). length (records_from f g.min n)) one,
          ap length (from_more f g.min (g.max - g.min)),
          length-append (records_from f g.min (g.max - g.min)) (record_bytes last (f last)),
          record-length last (f last),
          room-ge (length (f last)),
        );
      }

  -- slots below K
  pub below : (gs : List Segment) (i b j e : ℕ) → Chain P i b gs j e → Below slot_number k gs
  below gs i b j e h = every_map P (λ (g : Segment). g.slot < k) (λ g p. p.slot) gs (chain-every P gs i b j e h)

  -- the segments pass the test of neighbours
  pub chain-good : (gs : List Segment) (i b j e : ℕ) → 1 ≤ i → 1 ≤ b → Chain P i b gs j e → chain_of k c gs ≡ true
  chain-good gs i b j e l m h =
      chain-passes k c gs i b j e l m
      (chain-map gs i b j e
      (λ g o p.
      let fits = newest-fits g p o in record { slot = p.slot; some = omega (arith, fits.header); size = p.room; newest = fits }) h)

  ends-good : (gs : List Segment) (i b j s e : ℕ) → Chain P i b gs j (e + 1) → Live s e j gs → ends_of s e gs ≡ true
  ends-good [] i b j s e h l = empty-ends s e [] refl l.0 l.1
  ends-good (g ∷ gs) i b j s e h l =
      let t = chain-ends P (g ∷ gs) i b j (e + 1) (omega arith) h in
      let x : Segment = head_of (g ∷ gs) in
      are-ends s e (g ∷ gs) (omega arith)
      (record {
        from = l.0;
        to = l.1;
        pages = ap (λ (n : ℕ). n % 4096) t.good.long ∙ from-pages f x.min (x.max + 1 - x.min);
        newest = omega (arith, t.max);
      })

-- no more segments than slots
pub holds-few : (a : View) (area : List ℕ) (f : ℕ → List ℕ) → Holds a area f → length a.segs ≤ a.k
holds-few a area f h =
    pigeons slot_number a.k a.segs h.apart (below area f a.k a.c a.segs h.i h.b h.j (a.end + 1) h.chain)

-- the invariant implies that the log is well shaped and fits
pub holds_fits : (a : View) (area : List ℕ) (f : ℕ → List ℕ) → Holds a area f → fits_of a area ≡ true
unfolding fits_of shaped_of
holds_fits a area f h =
    simp (
      h.sizes,
      le-leb (length a.segs) a.k (holds-few a area f h),
      chain-good area f a.k a.c a.segs h.i h.b h.j (a.end + 1) h.first h.low h.chain,
      h.apart,
      ends-good area f a.k a.c a.segs h.i h.b h.j a.start a.end h.chain h.live,
      eq-eqb (length area) (a.k * a.c) h.all,
    )

-- K is 64 at most
pub sizes-few : (k c m : ℕ) → sizes_of k c m ≡ true → k ≤ 64
sizes-few k c m h = (sizes-are k c m h).few-slots

-- what fits is well shaped, over K x C bytes
pub fits_both : (a : View) (area : List ℕ) → fits_of a area ≡ true → shaped_of a && eqb (length area) (a.k * a.c) ≡ true
unfolding fits_of
fits_both a area h = h
