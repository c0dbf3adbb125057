-- Looking for the cut: what one header tells, the search's turns as laws, and what is known of a cut that was found. Assumes nothing.
use mathlib.Core.Path.{◌≡◌, refl, sym, ap, subst, ◌∙◌}
use mathlib.Core.Bool.{Bool, true, false}
use mathlib.Core.List.{List}
use mathlib.Core.Logic.{◌⊎◌, ⊎_elim}
use Prim.Native.Nat.{ℕ, ◌+◌, ◌-◌, ◌%◌, ◌≤◌, ◌<◌}
use native.Mathlib.Omega.{arith}
use lib.ListN.{length}
use lib.Dec.{ltb, eqb, lit<}
use borrow.Author.Tests.{lt-ltb, le-ltb, ltb-true, ltb-false, eq-eqb, ne_eqb}
use Rattle.std.specs.Prelude.{Result, Ok, Err}
use Rattle.lists.specs.Choice.{pick}
use Rattle.lists.specs.Outcome.{Outcome, refused, done}
use Rattle.lists.specs.Until.{Turn, again, stop}
use Rattle.lists.proofs.Bools.{zero-is-not-one}
use Rattle.lists.proofs.Until.{until-again, until_stop, until-keeps}
use Rattle.page.specs.Page.{padded_end}
use Rattle.page.proofs.Page.{pad-ge, pad-least, pad-multiple}
use Rattle.record.specs.declared.RecordHeader.{RecordHeader}
use Rattle.record.specs.Record.{max_payload, header_of, header_at}
use Rattle.record.proofs.Record.{header-answer}
use Rattle.refusal.specs.Refusals.{outcome}
use Rattle.refusal.specs.declared.Refusal.{Refusal}
use Rattle.refusal.specs.declared.Refusal.TheVariants.{ShortHeader, HeaderTooLong}
use Rattle.walk.specs.declared.Placed.{Placed}
use Rattle.walk.specs.Judging.{header_fits, placed_of, read_at, record_at}
use Rattle.segment.specs.declared.Segment.{Segment}
use Rattle.segment.specs.Chain.{NewestFits}
use Rattle.seglog_prune.specs.declared.Newest.{Newest}
use Rattle.seglog_prune.specs.declared.Look.{Look}
use Rattle.seglog_prune.specs.declared.Look.TheVariants.{Here, Other, Nothing}
use Rattle.seglog_prune.specs.Cut.{lost, look_by, look_at, only, cut_at, turn_of, cut_turn, find_cut, cut_in}

-- ---- the record at a place

-- a record at a place: its payload ends behind its header, and it is followed by the next whole page
pub record AtPlace (at : ℕ) (p : Placed) : Type 0 where
  pub low : at + 12 ≤ p.end
  pub next : p.next ≡ padded_end 4096 p.end

-- what is found at a place stands there
pub record-placed : (size at : ℕ) (h : Result RecordHeader Refusal) (p : Placed) → record_at size at h ≡ Ok p → AtPlace at p
unfolding record_at
record-placed size at h p q = go (header_fits size at) h q
  where
    is : (len id : ℕ) → placed_of at len id ≡ p → AtPlace at p
    is len id e = subst (AtPlace at) e (record { low = omega arith; next = refl })

    by : (len id : ℕ) (t : Bool) → pick t (Err HeaderTooLong) (Ok (placed_of at len id)) ≡ Ok p → AtPlace at p
    by len id true q = zero-is-not-one (cc)
    by len id false q = is len id (cc)

    go : (t : Bool) (h : Result RecordHeader Refusal) → pick t (read_at at h) (Err ShortHeader) ≡ Ok p → AtPlace at p
    go false h q = zero-is-not-one (cc)
    go true (Err r) q = zero-is-not-one (cc)
    go true (Ok k) q = by k.length k.id (ltb max_payload k.length) q

-- it is followed by a later place
pub place-moves : (at : ℕ) (p : Placed) → AtPlace at p → at < p.next
place-moves at p h = omega (arith, h.low, h.next, pad-ge 4096 p.end (lit< tt))

-- ---- one header

module _ (img : List ℕ) (n at : ℕ) where
  -- what stands at a place
  abbrev pub found_at : Result Placed Refusal
  found_at = record_at (length img) at (header_at img at)

  -- a header that can't be read
  pub look-unread : (r : Refusal) → found_at ≡ Err r → Nothing ≡ look_at img n at
  unfolding look_at
  look-unread r read = rw read refl

  -- a payload that ends past the image, whether or not it is of the record looked for
  pub look-past : (p : Placed) → found_at ≡ Ok p → length img < p.end → Nothing ≡ look_at img n at
  unfolding look_at
  look-past p read past = simp (read, lt-ltb (length img) p.end past)

  module _ (p : Placed) (read : found_at ≡ Ok p) (fits : p.end ≤ length img) where
    -- the record looked for
    pub look-here : p.id ≡ n → Here (record { at = at; end = p.next }) ≡ look_at img n at
    unfolding look_at
    look-here e = simp (read, le-ltb (length img) p.end fits, eq-eqb p.id n e)

    -- another record
    pub look-other : (p.id ≡ n → ⊥) → Other p.next ≡ look_at img n at
    unfolding look_at
    look-other e = simp (read, le-ltb (length img) p.end fits, ne_eqb p.id n e)

-- what the walk makes of the header that was read
pub answer_at : (img : List ℕ) (at : ℕ) (h : Result RecordHeader Refusal) → outcome h ≡ header_of img at
    → record_at (length img) at h ≡ record_at (length img) at (header_at img at)
answer_at img at h e = ap (record_at (length img) at) (header-answer h img at e)

-- a record that ends inside the image, from a whole page to its padded end
pub record Ends (img : List ℕ) (x : Newest) : Type 0 where
  pub end : ℕ
  pub some : x.at + 12 ≤ end
  pub within : end ≤ length img
  pub is : x.end ≡ padded_end 4096 end
  pub page : x.at % 4096 ≡ 0

-- what a look at a place tells: the record, or a whole page further on
abbrev Tells : List ℕ → ℕ → Look → Type 0
Tells img at (Here x) = at % 4096 ≡ 0 → Ends img x
Tells img at (Other next) = (at < next) × (next % 4096 ≡ 0)
Tells img at Nothing = Unit {0}

look-tells : (img : List ℕ) (n at : ℕ) → Tells img at (look_at img n at)
unfolding look_at
look-tells img n at = go (found_at img n at) refl
  where
    by : (p : Placed) (a b : Bool) → AtPlace at p → ltb (length img) p.end ≡ a
        → Tells img at (pick a Nothing (pick b (Here (record { at = at; end = p.next })) (Other p.next)))
    by p true b l q = tt
    by p false true l q = λ page.
        record { end = p.end; some = l.low; within = ltb-false (length img) p.end q; is = l.next; page = page }
    by p false false l q = (place-moves at p l, ap (λ (k : ℕ). k % 4096) l.next ∙ pad-multiple 4096 p.end (lit< tt))

    go : (o : Result Placed Refusal) → found_at img n at ≡ o → Tells img at (look_by (length img) n at o)
    go (Err m) r = tt
    go (Ok p) r =
        by p (ltb (length img) p.end) (eqb p.id n) (record-placed (length img) at (header_at img at) p r) refl

-- what the other two answers come to
pub only-lost : (o : Look) → ((x : ℕ) × (o ≡ Other x)) ⊎ (o ≡ Nothing) → only o ≡ lost
only-lost o is = ⊎_elim (λ h. ap only h.1) (λ h. ap only h) is

-- ---- the search

module _ (img : List ℕ) (n : ℕ) where
  -- a turn that goes on goes to a whole page further on
  turn_on : (x y : ℕ) → cut_turn img n x ≡ again y → (x < length img) × (x < y) × (y % 4096 ≡ 0)
  unfolding cut_turn
  turn_on x y t = go (ltb x (length img)) (look_at img n x) refl (look-tells img n x) t
    where
      go : (b : Bool) (o : Look) → ltb x (length img) ≡ b → Tells img x o → pick b (turn_of o) (stop lost) ≡ again y
          → (x < length img) × (x < y) × (y % 4096 ≡ 0)
      go false o g l q = zero-is-not-one (cc)
      go true (Here z) g l q = zero-is-not-one (cc)
      go true Nothing g l q = zero-is-not-one (cc)
      go true (Other z) g l q =
          let same : z ≡ y = cc in (ltb-true x (length img) g, omega (arith, l.0), ap (λ (k : ℕ). k % 4096) (sym same) ∙ l.1)

  -- so it comes nearer to the image's end
  falls : (x y : ℕ) → cut_turn img n x ≡ again y → length img - y < length img - x
  falls x y t = let on = turn_on x y t in omega (arith, on.0, on.1)

  ends : (at : ℕ) (o : Outcome Newest) → cut_turn img n at ≡ stop o → find_cut img n at ≡ o
  unfolding find_cut
  ends at o e = until_stop (cut_turn img n) (λ x. lost) (λ x. length img - x) falls at o e

  -- the end of the image
  pub cut-end : (at : ℕ) → length img ≤ at → find_cut img n at ≡ lost
  unfolding cut_turn
  cut-end at h = ends at lost (simp (le-ltb at (length img) h))

  module _ (at : ℕ) (inside : at < length img) where
    -- no record
    pub cut-none : look_at img n at ≡ Nothing → find_cut img n at ≡ lost
    unfolding cut_turn
    cut-none look = ends at lost (simp (lt-ltb at (length img) inside, look))

    -- the record looked for
    pub cut-here : (x : Newest) → look_at img n at ≡ Here x → find_cut img n at ≡ done x
    unfolding cut_turn
    cut-here x look = ends at (done x) (simp (lt-ltb at (length img) inside, look))

    -- another record: the search goes on behind it, nearer to the image's end
    pub cut_on : (next : ℕ) → look_at img n at ≡ Other next → find_cut img n at ≡ find_cut img n next
    unfolding find_cut cut_turn
    cut_on next look =
        until-again (cut_turn img n) (λ x. lost) (λ x. length img - x) falls at next (simp (lt-ltb at (length img) inside, look))

    pub cut-nearer : (next : ℕ) → look_at img n at ≡ Other next → length img - next < length img - at
    unfolding cut_turn
    cut-nearer next look = falls at next (simp (lt-ltb at (length img) inside, look))

-- ---- a record at a place

module _ (img : List ℕ) (n at : ℕ) (p : Placed) (read : found_at img n at ≡ Ok p) (fits : p.end ≤ length img) where
  -- the one looked for: a look finds it, and so does the search
  pub newest-here : p.id ≡ n → cut_at img n at ≡ done (record { at = at; end = p.next })
  newest-here e = sym (ap only (look-here img n at p read fits e))

  pub search-here : at < length img → p.id ≡ n → find_cut img n at ≡ done (record { at = at; end = p.next })
  search-here inside e = cut-here img n at inside _ (sym (look-here img n at p read fits e))

  -- another one: the search goes on behind it
  pub search-on : at < length img → (p.id ≡ n → ⊥) → find_cut img n at ≡ find_cut img n p.next
  search-on inside e = cut_on img n at inside _ (sym (look-other img n at p read fits e))

-- ---- what is found

abbrev pub Found : List ℕ → Outcome Newest → Type 0
Found img (refused m) = Unit {0}
Found img (done x) = Ends img x

-- the search finds such a record, from a whole page on
search-found : (img : List ℕ) (n at : ℕ) → at % 4096 ≡ 0 → Found img (find_cut img n at)
unfolding find_cut cut_turn
search-found img n at =
    until-keeps (cut_turn img n) (λ x. lost) (λ x. length img - x) (falls img n) (λ s a. s % 4096 ≡ 0 → Found img a)
    (λ s d a e p page. p (turn_on img n s d e).2) last at
  where
    none : (a : Outcome Newest) → ◌≡◌ {A = Turn ℕ (Outcome Newest)} (stop lost) (stop a) → Found img a
    none (refused m) q = tt
    none (done x) q = zero-is-not-one (cc)

    here : (x : Newest) (a : Outcome Newest) → Ends img x → ◌≡◌ {A = Turn ℕ (Outcome Newest)} (stop (done x)) (stop a) → Found img a
    here x (refused m) l q = zero-is-not-one (cc)
    here x (done y) l q = let same : x ≡ y = cc in subst (Ends img) same l

    go : (s : ℕ) (a : Outcome Newest) (t : Bool) (o : Look) → s % 4096 ≡ 0 → Tells img s o → pick t (turn_of o) (stop lost) ≡ stop a
        → Found img a
    go s a false o page l q = none a q
    go s a true Nothing page l q = none a q
    go s a true (Here x) page l q = here x a (l page) q
    go s a true (Other next) page l q = zero-is-not-one (cc)

    last : (s : ℕ) (a : Outcome Newest) → cut_turn img n s ≡ stop a → s % 4096 ≡ 0 → Found img a
    last s a e page = go s a (ltb s (length img)) (look_at img n s) page (look-tells img n s) e

-- so does a look at one header on a whole page
newest-found : (img : List ℕ) (n at : ℕ) → at % 4096 ≡ 0 → Found img (cut_at img n at)
newest-found img n at page = go (look_at img n at) (look-tells img n at)
  where
    go : (o : Look) → Tells img at o → Found img (only o)
    go (Here x) l = l page
    go (Other next) l = tt
    go Nothing l = tt

-- and so does a segment's cut
pub cut-found : (g : Segment) (img : List ℕ) (n : ℕ) → g.newest_at % 4096 ≡ 0 → Found img (cut_in g img n)
unfolding cut_in
cut-found g img n page = go (eqb g.max n)
  where
    go : (b : Bool) → Found img (pick b (cut_at img n g.newest_at) (find_cut img n 0))
    go true = newest-found img n g.newest_at page
    go false = search-found img n 0 refl

-- ---- a cut of a segment in its slot

module _ (g : Segment) (img : List ℕ) (n : ℕ) (x : Newest) (page : g.newest_at % 4096 ≡ 0) (cut : cut_in g img n ≡ done x) where
  found : Ends img x
  found = subst (Found img) cut (cut-found g img n page)

  -- it lies in the slot, whose size is a number of whole pages
  pub cut-within : (c : ℕ) → length img ≤ c → c % 4096 ≡ 0 → x.end ≤ c
  cut-within c fits whole =
      omega (arith, found.is, pad-least 4096 found.end (lit< tt) c whole (omega (arith, found.within)))

  -- it ends with a page
  pub cut-pages : x.end % 4096 ≡ 0
  cut-pages = ap (λ (k : ℕ). k % 4096) found.is ∙ pad-multiple 4096 found.end (lit< tt)

  -- its header fits in front of that
  pub cut-newest : NewestFits x.at x.end
  cut-newest = record { pages = found.page; header = omega (arith, found.is, found.some, pad-ge 4096 found.end (lit< tt)) }
