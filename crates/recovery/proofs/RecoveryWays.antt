-- The ways of recovery, on plain values: each test that leads to a refusal, the empty range, and the scan of the sorted rows; and what the
-- answer of `arrange` tells of them. Assumes nothing.
use mathlib.Core.Path.{◌≡◌, sym, ap, subst, ◌∙◌}
use mathlib.Core.Bool.{true, false}
use mathlib.Core.List.{List, []}
use Prim.Native.Nat.{ℕ, ◌≤◌, ◌<◌}
use native.Mathlib.Omega.{arith}
use lib.ListN.{length, take}
use borrow.Author.Tests.{eq-eqb, ne_eqb, lt-ltb, le-ltb}
use Rattle.lists.specs.Outcome.{Outcome, refused, done}
use Rattle.lists.proofs.Outcome.{refused-injective, refused-is-not-done, done-injective}
use Rattle.std.specs.Prelude.{Result, Ok, Err}
use Rattle.refusal.specs.declared.Refusal.{Refusal}
use Rattle.refusal.specs.Refusals.{number}
use Rattle.seglog.specs.View.{empty_of, log_of}
use Rattle.seglog.specs.New.{roomy_of}
use Rattle.seglog.proofs.Fit.{roomy-is}
use Rattle.segment.specs.declared.ImageRow.{ImageRow}
use Rattle.image_rows.specs.declared.Rows.{Rows}
use Rattle.image_rows.specs.ImageRows.{sort_rows, rows_inside, rows_fit, lowest_zero, one_apart}
use Rattle.image_rows.specs.Rows.{listed_of, sorted_of}
use Rattle.image_rows.specs.Arrange.{arranged_of}
use Rattle.image_rows.proofs.ImageRows.{fit_is, sort-inside, sort-length}
use Rattle.image_rows.proofs.RowsListed.{fit-few, sorted-is}
use Rattle.image_rows.proofs.ArrangeWays.{Took, arranged-either}
use Rattle.recovery.specs.declared.Recovered.{Recovered}
use Rattle.recovery.specs.Recovery.{Recovery, recovered, scanned, one_zero, recovery_of, recovery_answer, recovery_area, recovery_index}
use Rattle.recovery.specs.Recovery.{RecoveryDid, ScanPre, answered}

-- ---- the ways

module _ (k c m : ℕ) (area : List ℕ) (rows : List ImageRow) (s e room : ℕ) where
  abbrev found : Recovery
  found = recovery_of k c m area rows s e room

  -- 1: K, C, M or the area's length
  pub recovery-refuses-1 : roomy_of k c m (length area) ≡ false → found ≡ refused 1
  unfolding recovery_of
  recovery-refuses-1 h = simp h

  module _ (roomy : roomy_of k c m (length area) ≡ true) where
    -- 11: exactly one of s, e is 0
    pub recovery-refuses-11 : one_zero s e ≡ true → found ≡ refused 11
    unfolding recovery_of
    recovery-refuses-11 h = simp (roomy, h)

    module _ (range : one_zero s e ≡ false) where
      -- 12: s > e
      pub recovery-refuses-12 : e < s → found ≡ refused 12
      unfolding recovery_of
      recovery-refuses-12 h = simp (roomy, range, lt-ltb e s h)

      module _ (order : s ≤ e) where
        -- 13: the rows
        pub recovery-refuses-13 : rows_fit k c rows ≡ false → found ≡ refused 13
        unfolding recovery_of
        recovery-refuses-13 h = simp (roomy, range, le-ltb e s order, h)

        module _ (fit : rows_fit k c rows ≡ true) where
          -- 14: the lowest segment id is 0
          pub recovery-refuses-14 : lowest_zero (sort_rows rows) ≡ true → found ≡ refused 14
          unfolding recovery_of
          recovery-refuses-14 h = simp (roomy, range, le-ltb e s order, fit, h)

          module _ (low : lowest_zero (sort_rows rows) ≡ false) where
            -- 15: neighbours not 1 apart
            pub recovery-refuses-15 : one_apart (sort_rows rows) ≡ false → found ≡ refused 15
            unfolding recovery_of
            recovery-refuses-15 h = simp (roomy, range, le-ltb e s order, fit, low, h)

            module _ (apart : one_apart (sort_rows rows) ≡ true) where
              -- the range (0, 0): the empty log
              pub recovery-empty : s ≡ 0 → found ≡ recovered (empty_of k c m) area []
              unfolding recovery_of
              recovery-empty h = simp (roomy, range, le-ltb e s order, fit, low, apart, eq-eqb s 0 h)

              -- else the scan of the sorted rows
              pub recovery-scans : (s ≡ 0 → ⊥) → found ≡ scanned k c m area (sort_rows rows) s e room
              unfolding recovery_of
              recovery-scans h = simp (roomy, range, le-ltb e s order, fit, low, apart, ne_eqb s 0 h)

-- ---- what each way ensures

-- a refusal: its number, and nothing changed
pub did-refused : (o : Recovery) (area index : List ℕ) (r : Refusal) → o ≡ refused (number r) → RecoveryDid o area index (Err r) area index
did-refused o area index r q =
    record {
      answer = sym (ap recovery_answer q);
      bytes = sym (ap (recovery_area area) q);
      words = sym (ap (recovery_index index) q);
    }

-- the range (0, 0): the empty log, and nothing changed
pub did-empty : (o : Recovery) (k c m : ℕ) (area index : List ℕ) (r : Recovered) → r ≡ record { rows = 0; log = log_of (empty_of k c m) }
    → o ≡ recovered (empty_of k c m) area [] → RecoveryDid o area index (Ok r) area index
did-empty o k c m area index r p q =
    record {
      answer = ap (λ (a : Recovered). answered (Ok a)) p ∙ sym (ap recovery_answer q);
      bytes = sym (ap (recovery_area area) q);
      words = sym (ap (recovery_index index) q);
    }

-- the scan of the sorted rows
pub did-scan : (k c m : ℕ) (area index : List ℕ) (rs ss : List ImageRow) (s e room : ℕ) (o : Recovery) (r : Result Recovered Refusal)
    (area' index' : List ℕ) → rs ≡ ss → o ≡ scanned k c m area ss s e room
    → RecoveryDid (scanned k c m area rs s e room) area index r area' index' → RecoveryDid o area index r area' index'
did-scan k c m area index rs ss s e room o r area' index' sorted is h =
    subst (λ (q : Recovery). RecoveryDid q area index r area' index') (sym is)
    (subst (λ (l : List ImageRow). RecoveryDid (scanned k c m area l s e room) area index r area' index') sorted h)

-- ---- what the answer of `arrange` tells, after 1, 11 and 12

module _ (k c m : ℕ) (area : List ℕ) (images : Rows) (s e room : ℕ) (roomy : roomy_of k c m (length area) ≡ true)
    (range : one_zero s e ≡ false) (order : s ≤ e) where
  few-slots : k ≤ 64
  few-slots = (roomy-is k c m (length area) roomy).sizes.few-slots

  -- 13 to 15
  pub rows-refused : (n : ℕ) → refused n ≡ arranged_of k c images → recovery_of k c m area (listed_of images) s e room ≡ refused n
  rows-refused n =
      arranged-either (λ o. refused n ≡ o → recovery_of k c m area (listed_of images) s e room ≡ refused n) k c images few-slots
      (λ f q. recovery-refuses-13 _ _ _ _ _ _ _ _ roomy range order f ∙ same 13 q)
      (λ f w q. recovery-refuses-14 _ _ _ _ _ _ _ _ roomy range order f w ∙ same 14 q)
      (λ f w p q. recovery-refuses-15 _ _ _ _ _ _ _ _ roomy range order f w p ∙ same 15 q) (λ w q. refused-is-not-done q)
    where
      same : (m : ℕ) → ◌≡◌ {A = Outcome Rows} (refused n) (refused m) → ◌≡◌ {A = Recovery} (refused m) (refused n)
      same m q = ap (λ (x : ℕ). refused x) (sym (refused-injective q))

  -- sorted rows, of which none of 13 to 15 was met
  pub record Passed (sorted : Rows) : Type 0 where
    pub took : Took k c images
    pub is : sorted ≡ sorted_of images

  pub rows-taken : (sorted : Rows) → done sorted ≡ arranged_of k c images → Passed sorted
  rows-taken sorted =
      arranged-either (λ o. done sorted ≡ o → Passed sorted) k c images few-slots (λ f q. refused-is-not-done (sym q))
      (λ f w q. refused-is-not-done (sym q)) (λ f w p q. refused-is-not-done (sym q))
      (λ w q. record { took = w; is = done-injective q })

  module _ (sorted : Rows) (p : Passed sorted) (long : length images.rows ≡ 64) where
    -- there are 64 at most
    pub sorted-few : sorted.count ≤ 64
    sorted-few = omega (arith, fit-few k c images long p.took.fit, ap (λ (z : Rows). z.count) p.is)

    -- the rows of the array that the scan is given
    pub rows-sorted : take sorted.count sorted.rows ≡ sort_rows (listed_of images)
    rows-sorted = sorted-is images sorted p.is (fit-few k c images long p.took.fit) long

    -- what the scan asks
    pub scan-asks : (s ≡ 0 → ⊥) → ScanPre k c m area (take sorted.count sorted.rows) s e
    scan-asks some =
        record {
          roomy = roomy;
          order = order;
          some = some;
          few = omega (arith, ap length rows-sorted, sort-length (listed_of images), (fit_is k c (listed_of images) p.took.fit).few);
          inside = ap (rows_inside k c) rows-sorted
              ∙ sort-inside k c (listed_of images) (fit_is k c (listed_of images) p.took.fit).inside;
          low = ap lowest_zero rows-sorted ∙ p.took.low;
          apart = ap one_apart rows-sorted ∙ p.took.apart;
        }
