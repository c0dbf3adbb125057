-- Appends that follow leave the earlier segments, but for the head, which grows, and the payloads up to the earlier live end.
-- Assumes nothing.
use mathlib.Core.Bool.{Bool, true, false}
use mathlib.Core.List.{List, [], ◌∷◌, ◌++◌}
use mathlib.Core.Path.{◌≡◌, refl, ◌∙◌, ap, sym, subst}
use Prim.Native.Nat.{◌≤◌, ◌+◌, ◌<◌, ℕ}
use native.Mathlib.Omega.{arith}
use lib.ListN.{length}
use borrow.Author.Tests.{ne_eqb}
use Rattle.lists.specs.Choice.{pick}
use Rattle.record.specs.Record.{record_room}
use Rattle.seglog.proofs.View.{ends-with}
use Rattle.seglog.specs.View.{View, front_of, head_of}
use Rattle.segment.specs.declared.Segment.{Segment}
use Rattle.segment.specs.Chain.{Chain}
use Rattle.seglog.proofs.Chain.{chain-ends}
use Rattle.seglog_append.specs.Deciding.{opens_of, fresh_of}
use Rattle.seglog_append.specs.Appending.{append_of, grown_of}
use Rattle.seglog_append.proofs.Deciding.{opens-no}
use Rattle.seglog_append.proofs.Appending.{append-view-outcomes}
use Rattle.history.specs.History.{append, appends, Held, run, told, step, heard_call}
use Rattle.history.proofs.Invariant.{Holds}
use Rattle.history.proofs.Prunes.{closed_by}
use Rattle.history.proofs.Runs.{AppendAlso, Came, on-view, came-append}
use Rattle.history.proofs.Slots.{noted_other, Stored}

-- the same segment, with more records
pub record More (g g' : Segment) : Type 0 where
  pub id : g.id ≡ g'.id
  pub slot : g.slot ≡ g'.slot
  pub min : g.min ≡ g'.min
  pub max : g.max ≤ g'.max

-- the earlier segments, the last of them perhaps with more records, and further ones
abbrev pub Grows : List Segment → List Segment → Type 0
Grows [] ys = Unit {0}
Grows (g ∷ []) [] = ⊥
Grows (g ∷ []) (y ∷ ys) = More g y
Grows (g ∷ x ∷ gs) [] = ⊥
Grows (g ∷ x ∷ gs) (y ∷ ys) = (g ≡ y) × Grows (x ∷ gs) ys

grows-nil : (g : Segment) (gs : List Segment) → Grows (g ∷ gs) [] → ⊥
grows-nil g [] h = h
grows-nil g (x ∷ gs) h = h

-- nothing appended
pub grows-refl : (gs : List Segment) → Grows gs gs
grows-refl [] = tt
grows-refl (g ∷ []) = record { id = refl; slot = refl; min = refl; max = omega arith }
grows-refl (g ∷ x ∷ gs) = (refl, grows-refl (x ∷ gs))

grows-more : (gs ys zs : List Segment) → Grows gs ys → Grows gs (ys ++ zs)
grows-more [] ys zs h = tt
grows-more (g ∷ []) [] zs h = absurd h
grows-more (g ∷ []) (y ∷ ys) zs h = h
grows-more (g ∷ x ∷ gs) [] zs h = absurd h
grows-more (g ∷ x ∷ gs) (y ∷ ys) zs h = (h.0, grows-more (x ∷ gs) ys zs h.1)

grows-last : (gs hs : List Segment) (y z : Segment) → More y z → Grows gs (hs ++ (y ∷ [])) → Grows gs (hs ++ (z ∷ []))
grows-last [] hs y z m h = tt
grows-last (g ∷ []) [] y z m h =
    record { id = h.id ∙ m.id; slot = h.slot ∙ m.slot; min = h.min ∙ m.min; max = omega (arith, h.max, m.max) }
grows-last (g ∷ []) (w ∷ hs) y z m h = h
grows-last (g ∷ x ∷ gs) [] y z m h = absurd (grows-nil x gs h.1)
grows-last (g ∷ x ∷ gs) (w ∷ hs) y z m h = (h.0, grows-last (x ∷ gs) hs y z m h.1)

grows_some : (gs ys : List Segment) → 0 < length gs → Grows gs ys → 0 < length ys
grows_some [] ys l h = absurd (omega arith)
grows_some (g ∷ gs) [] l h = absurd (grows-nil g gs h)
grows_some (g ∷ gs) (y ∷ ys) l h = omega arith

-- segments whose last was cut short have grown to those that were there
pub ended-grows : (f : ℕ → List ℕ) (hs rest : List Segment) (g : Segment) (e : ℕ) → e ≤ g.max
    → Grows (hs ++ (closed_by f g e ∷ [])) (hs ++ (g ∷ rest))
ended-grows f [] rest g e h = record { id = refl; slot = refl; min = refl; max = h }
ended-grows f (x ∷ []) rest g e h = (refl, ended-grows f [] rest g e h)
ended-grows f (x ∷ y ∷ hs) rest g e h = (refl, ended-grows f (y ∷ hs) rest g e h)

-- a is what became of a₀ by appends alone
pub record After (a₀ : View) (f₀ : ℕ → List ℕ) (a : View) (f : ℕ → List ℕ) : Type 0 where
  pub k : a.k ≡ a₀.k
  pub c : a.c ≡ a₀.c
  pub m : a.m ≡ a₀.m
  pub start : 0 < length a₀.segs → a.start ≡ a₀.start
  pub end : a₀.end ≤ a.end
  pub same : (i : ℕ) → i ≤ a₀.end → f i ≡ f₀ i
  pub grows : Grows a₀.segs a.segs

-- no append yet
pub after-refl : (a : View) (f : ℕ → List ℕ) → After a f a f
after-refl a f =
    record { k = refl; c = refl; m = refl; start = λ some. refl; end = omega arith; same = λ i h. refl; grows = grows-refl a.segs }

-- an append goes on from there
append-after : (a₀ : View) (f₀ : ℕ → List ℕ) (a : View) (area : List ℕ) (f : ℕ → List ℕ) (p : List ℕ) → Holds a area f → After a₀ f₀ a f
    → AppendAlso (After a₀ f₀) f p (append_of a area p)
append-after a₀ f₀ a area f p h w =
    append-view-outcomes a area p (AppendAlso (After a₀ f₀) f p) (λ n q. tt)
    (λ ok. record {
      k = w.k;
      c = w.c;
      m = w.m;
      start = λ some.
          let left = grows_some a₀.segs a.segs some w.grows in
          simp (ne_eqb (length a.segs) 0 (λ z. omega arith)) (w.start some);
      end = omega (arith, w.end);
      same = λ i l. sym (noted_other f (a.end + 1) p i (omega (arith, w.end))) ∙ w.same i l;
      grows = by (opens_of a) refl;
    })
  where
    last : Segment → Segment
    last g = grown_of g (record_room (length p)) (a.end + 1)

    to-head : 0 < length a.segs → Grows a₀.segs (front_of a.segs ++ (last (head_of a.segs) ∷ []))
    to-head l =
        let e = chain-ends (Stored area f a.k a.c) a.segs h.i h.b h.j (a.end + 1) l h.chain in
        grows-last a₀.segs (front_of a.segs) (head_of a.segs) (last (head_of a.segs))
        (record { id = refl; slot = refl; min = refl; max = omega (arith, e.max) })
        (subst (Grows a₀.segs) (ends-with a.segs l) w.grows)

    by : (t : Bool) → opens_of a ≡ t → Grows a₀.segs
        (pick t a.segs (front_of a.segs) ++ (last (pick t (fresh_of a) (head_of a.segs)) ∷ []))
    by true q = grows-more a₀.segs a.segs (last (fresh_of a) ∷ []) w.grows
    by false q = to-head (opens-no a q)

-- appends alone
pub appends-after : (a₀ : View) (f₀ : ℕ → List ℕ) (ps : List (List ℕ)) (t : Held) (f : ℕ → List ℕ) → Came (After a₀ f₀) t f
    → Came (After a₀ f₀) (run t (appends ps)) (told f t (appends ps))
unfolding run told
appends-after a₀ f₀ [] t f c = c
appends-after a₀ f₀ (p ∷ ps) t f c =
    appends-after a₀ f₀ ps (step t (append p)) (heard_call f t (append p))
    (on-view (λ (x : Held). Came (After a₀ f₀) (step x (append p)) (heard_call f x (append p))) t f c
    (came-append c.view t.area f c.holds (After a₀ f₀) c.also p
    (append-after a₀ f₀ c.view t.area f p c.holds c.also)))

-- the first segment keeps its first record
pub first-same : (P Q : Segment → Type 0) (gs ys : List Segment) (i b j c i' b' j' c' : ℕ) → 0 < length gs → Grows gs ys
    → Chain P i b gs j c
    → Chain Q i' b' ys j' c' → b ≡ b'
first-same P Q [] ys i b j c i' b' j' c' l w h h' = absurd (omega arith)
first-same P Q (g ∷ []) [] i b j c i' b' j' c' l w h h' = absurd w
first-same P Q (g ∷ []) (y ∷ ys) i b j c i' b' j' c' l w h h' = sym h.0.min ∙ w.min ∙ h'.0.min
first-same P Q (g ∷ x ∷ gs) [] i b j c i' b' j' c' l w h h' = absurd w
first-same P Q (g ∷ x ∷ gs) (y ∷ ys) i b j c i' b' j' c' l w h h' = sym h.0.min ∙ ap (λ (z : Segment). z.min) w.0 ∙ h'.0.min
