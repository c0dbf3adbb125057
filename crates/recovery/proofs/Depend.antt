-- Recovery's answer and rows depend on the headers walked, and on no other byte of the area. Assumes nothing.
use mathlib.Core.Path.{◌≡◌, refl, sym, ap, ◌∙◌}
use mathlib.Core.List.{List, [], ◌++◌, append-nil}
use mathlib.Core.Bool.{Bool, true, false, not}
use Prim.Native.Nat.{ℕ}
use lib.ListN.{length, drop}
use lib.Seq.{drop-nil}
use lib.Dec.{ltb, eqb}
use borrow.Author.Tests.{not-false}
use Rattle.lists.specs.Choice.{pick}
use Rattle.segment.specs.declared.Segment.{Segment}
use Rattle.seglog.specs.View.{head_of, front_of}
use Rattle.seglog.specs.New.{roomy_of}
use Rattle.segment.specs.declared.ImageRow.{ImageRow}
use Rattle.lists.specs.Outcome.{Outcome, refused, done}
use Rattle.walk.specs.declared.Scan.{Scan}
use Rattle.recovery_walk.specs.Images.{Found, walked}
use Rattle.recovery_walk.specs.Rows.{rows_all, pen_of}
use Rattle.recovery_walk.specs.Scan.{scan_of, index_of}
use Rattle.recovery_walk.specs.Promised.{ScansAgree}
use Rattle.recovery_walk.proofs.Headers.{scan-depends}
use Rattle.image_rows.specs.ImageRows.{sort_rows, rows_fit, lowest_zero, one_apart}
use Rattle.recovery.specs.Recovery.{Recovery, recovery_of, recovery_answer, one_zero, closed_of, scanned}
use Rattle.recovery.specs.Keeping.{kept_of}
use Rattle.recovery.specs.Depend.{Agree, walks, DependsOnHeaders}

-- an outcome agrees with itself
pub same : (r : Recovery) → Agree r r
same r = record { answer = refl; rows = λ index. refl }

-- choices by one test agree where each side does where it is taken
pub pick-agree : (t : Bool) (x x' y y' : Recovery) → Agree x x' → (t ≡ false → Agree y y') → Agree (pick t x y) (pick t x' y')
pick-agree true x x' y y' p q = p
pick-agree false x x' y y' p q = q refl

module _ (k c m : ℕ) (area area' : List ℕ) (rows : List ImageRow) (s e room : ℕ) (agree : ScansAgree area area' c s e rows room) where
  abbrev words : List ℕ → List ℕ
  words bytes = rows_all bytes c s e rows pen_of

  -- an accepted scan has the same words
  words_same : (d : Scan) (gs : List Segment) → scan_of area c s e rows room ≡ walked d gs → words area ≡ words area'
  unfolding index_of
  words_same d gs q =
      let q' : scan_of area' c s e rows room ≡ walked d gs = sym agree.outcome ∙ q in
      let bare : (ws : List ℕ) → ws ++ drop (length ws) [] ≡ ws = λ ws. rw (drop-nil {A = ℕ} (length ws)) (append-nil ws) in
      let left : index_of (words area) (scan_of area c s e rows room) [] ≡ words area = rw q (bare (words area)) in
      let right : index_of (words area') (scan_of area' c s e rows room) [] ≡ words area' = rw q' (bare (words area')) in
      sym left ∙ agree.index [] ∙ right

  -- what the two scans come to
  pub scanned-agree : Agree (scanned k c m area rows s e room) (scanned k c m area' rows s e room)
  scanned-agree = by (scan_of area c s e rows room) refl
    where
      by : (o : Outcome Found) → scan_of area c s e rows room ≡ o
          → Agree (scanned k c m area rows s e room) (scanned k c m area' rows s e room)
      by (refused n) q = rw (← agree.outcome, q) (same (refused n))
      by (done (d, gs)) q =
          let w = words_same d gs q in
          rw (← agree.outcome, q) (record {
            answer = ap (λ (ws : List ℕ). recovery_answer
                (closed_of k c m area s e d.start_of_e d.end_of_e ws (front_of (kept_of s e gs)) (head_of (kept_of s e gs)))) w;
            rows = λ index. ap (λ (ws : List ℕ). ws ++ drop (length ws) index) w;
          })

-- document 01's dependence statement
pub recovery-depends : DependsOnHeaders
unfolding recovery_of walks
recovery-depends k c m area area' rows s e room long each =
    let sorted : List ImageRow = sort_rows rows in
    rw (← long)
    (pick-agree (not (roomy_of k c m (length area))) _ _ _ _ (same (refused 1)) (λ h1.
    pick-agree (one_zero s e) _ _ _ _ (same (refused 11)) (λ h2.
    pick-agree (ltb e s) _ _ _ _ (same (refused 12)) (λ h3.
    pick-agree (not (rows_fit k c rows)) _ _ _ _ (same (refused 13)) (λ h4.
    pick-agree (lowest_zero sorted) _ _ _ _ (same (refused 14)) (λ h5.
    pick-agree (not (one_apart sorted)) _ _ _ _ (same (refused 15)) (λ h6.
    pick-agree (eqb s 0) _ _ _ _ (record { answer = refl; rows = λ index. refl }) (λ h7.
    let roomy : roomy_of k c m (length area) ≡ true = not-false _ h1 in
    let fit : rows_fit k c rows ≡ true = not-false _ h4 in
    let apart : one_apart sorted ≡ true = not-false _ h6 in
    scanned-agree k c m area area' sorted s e room
    (scan-depends area area' c s e long sorted room (each (simp (roomy, h2, h3, fit, h5, apart, h7))))))))))))
