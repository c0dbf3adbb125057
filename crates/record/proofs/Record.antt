-- The laws of a record's bytes and of reading headers: how long they are, the cases of what is read, that an answer is determined by
-- its number and value, and that a record's bytes, wherever they stand, are read as its header. Statements without a sentence of their
-- own: specs/Promised.antt. Assumes nothing.
use mathlib.Core.Path.{◌≡◌, refl, sym, ap, ◌∙◌}
use mathlib.Core.Bool.{Bool, true, false}
use mathlib.Core.List.{List, ◌++◌, append_assoc}
use Prim.Native.Nat.{ℕ, ◌+◌, ◌-◌, ◌%◌, ◌^◌, ◌≤◌, ◌<◌}
use native.Mathlib.Omega.{arith}
use lib.ListN.{length, take, replicate, length-append, length-replicate}
use lib.Seq.{take_at, drop_at}
use lib.Dec.{ltb, lit<}
use borrow.Author.Tests.{lt-ltb, le-ltb, ltb-false}
use Rattle.lists.specs.Choice.{pick}
use Rattle.lists.specs.Outcome.{refused, done}
use Rattle.lists.specs.Splice.{part, splice}
use Rattle.lists.proofs.Bools.{zero-is-not-one}
use Rattle.lists.proofs.Splice.{splice-join}
use Rattle.page.proofs.Page.{pad-ge, pad-lt, pad-multiple}
use Rattle.little_endian.specs.LittleEndian.{le_at, le_bytes}
use Rattle.little_endian.proofs.LittleEndian.{le-bytes-length, le_read}
use Rattle.refusal.specs.declared.Refusal.{Refusal}
use Rattle.refusal.specs.declared.Refusal.TheVariants.{ShortHeader}
use Rattle.refusal.specs.Refusals.{outcome}
use Rattle.refusal.proofs.Refusals.{outcomes-differ}
use Rattle.std.specs.Prelude.{Result, Ok, Err}
use Rattle.record.specs.declared.RecordHeader.{RecordHeader}
use Rattle.record.specs.Record.{max_payload, header_bytes, record_room, record_bytes, header_of, header_by, header_at}
use Rattle.record.specs.Promised.{RecordLength, RecordReads, RecordPayload}

-- a header of a length and an id
abbrev pub header : ℕ → ℕ → RecordHeader
header n i = record { length = n; id = i }

-- ---- lengths

-- a header has twelve bytes
pub header-length : (h : RecordHeader) → length (header_bytes h) ≡ 12
unfolding header_bytes
header-length h = simp (length-append, le-bytes-length)

-- header and payload have room
pub room-ge : (n : ℕ) → 12 + n ≤ record_room n
unfolding record_room
room-ge n = pad-ge 4096 (12 + n) (lit< tt)

-- the padding is less than a page
pub room-lt : (n : ℕ) → record_room n < 12 + n + 4096
unfolding record_room
room-lt n = pad-lt 4096 (12 + n) (lit< tt)

-- a record takes whole pages
pub room-pages : (n : ℕ) → record_room n % 4096 ≡ 0
unfolding record_room
room-pages n = pad-multiple 4096 (12 + n) (lit< tt)

pub record-length : RecordLength
unfolding record_bytes
record-length id p =
    simp (length-append, le-bytes-length, length-replicate) (omega (arith, room-ge (length p)))

-- ---- a record's bytes are its header, its payload and zeros

-- the padding of a payload of n bytes
abbrev pub padding : ℕ → List ℕ
padding n = replicate (record_room n - (12 + n)) 0

pub record-parts : (id : ℕ) (p : List ℕ) → record_bytes id p ≡ header_bytes (header (length p) id) ++ (p ++ padding (length p))
unfolding record_bytes header_bytes
record-parts id p = sym (append_assoc (le_bytes 4 (length p)) (le_bytes 8 id) (p ++ padding (length p)))

-- a record written in three pieces: header, payload, zeros
pub record-steps : (at id : ℕ) (p l : List ℕ)
    → splice (at + 12 + length p) (padding (length p)) (splice (at + 12) p (splice at (header_bytes (header (length p) id)) l))
    ≡ splice at (record_bytes id p) l
record-steps at id p l =
    let h : List ℕ = header_bytes (header (length p) id) in
    let twelve = header-length (header (length p) id) in
    let one : splice (at + 12) p (splice at h l) ≡ splice at (h ++ p) l =
    ap (λ (k : ℕ). splice (at + k) p (splice at h l)) (sym twelve) ∙ splice-join at h p l in
    let place : at + 12 + length p ≡ at + length (h ++ p) = omega (arith, length-append h p) in
    ap (λ (m : List ℕ). splice (at + 12 + length p) (padding (length p)) m) one
    ∙ ap (λ (k : ℕ). splice k (padding (length p)) (splice at (h ++ p) l)) place
    ∙ splice-join at (h ++ p) (padding (length p)) l
    ∙ ap (λ (m : List ℕ). splice at m l) (append_assoc h p (padding (length p)) ∙ sym (record-parts id p))

-- ---- reading headers

module _ (img : List ℕ) (pos : ℕ) where
  pub header-refuses-17 : length img - pos < 12 → header_of img pos ≡ refused 17
  unfolding header_of
  header-refuses-17 h = simp (lt-ltb _ _ h)

  pub header-refuses-18 : 12 ≤ length img - pos → max_payload < le_at 4 img pos → header_of img pos ≡ refused 18
  unfolding header_of
  header-refuses-18 h l = simp (le-ltb _ _ h, lt-ltb _ _ l)

  -- a header that can be read
  pub header-reads : (n i : ℕ) → 12 ≤ length img - pos → le_at 4 img pos ≡ n → le_at 8 img (pos + 4) ≡ i → n ≤ max_payload
      → header_of img pos ≡ done (header n i)
  unfolding header_of
  header-reads n i h e f l = simp (le-ltb _ _ h, e, f, le-ltb max_payload n l)

  -- as answers: too short
  pub header-short : length img - pos < 12 → header_at img pos ≡ Err ShortHeader
  unfolding header_at
  header-short h = ap header_by (header-refuses-17 h)

-- it comes to what reading the header comes to
pub header_at-outcome : (img : List ℕ) (pos : ℕ) → outcome (header_at img pos) ≡ header_of img pos
unfolding header_at header_of
header_at-outcome img pos = go (ltb (length img - pos) 12) (ltb max_payload (le_at 4 img pos))
  where
    h : RecordHeader
    h = header (le_at 4 img pos) (le_at 8 img (pos + 4))

    go : (a b : Bool) → outcome (header_by (pick a (refused 17) (pick b (refused 18) (done h)))) ≡ pick a (refused 17) (pick b (refused 18) (done h))
    go true b = refl
    go false true = refl
    go false false = refl

-- what `read_header` answers, by its contract, as the case that it is
pub header-answer : (a : Result RecordHeader Refusal) (img : List ℕ) (pos : ℕ) → outcome a ≡ header_of img pos → a ≡ header_at img pos
header-answer a img pos e = outcomes-differ RecordHeader a (header_at img pos) (e ∙ sym (header_at-outcome img pos))

-- what a header that was read tells of its place
pub record Readable (img : List ℕ) (pos n i : ℕ) : Type 0 where
  pub room : 12 ≤ length img - pos
  pub small : n ≤ max_payload
  pub length-there : le_at 4 img pos ≡ n
  pub id-there : le_at 8 img (pos + 4) ≡ i

pub readable : (img : List ℕ) (pos n i : ℕ) → header_at img pos ≡ Ok (header n i) → Readable img pos n i
unfolding header_at header_of
readable img pos n i e = go (ltb (length img - pos) 12) (ltb max_payload (le_at 4 img pos)) refl refl e
  where
    go : (a b : Bool) → ltb (length img - pos) 12 ≡ a → ltb max_payload (le_at 4 img pos) ≡ b
        → header_by (pick a (refused 17) (pick b (refused 18) (done (header (le_at 4 img pos) (le_at 8 img (pos + 4)))))) ≡ Ok (header n i)
        → Readable img pos n i
    go true b ea eb h = zero-is-not-one (cc)
    go false true ea eb h = zero-is-not-one (cc)
    go false false ea eb h =
        let same : header (le_at 4 img pos) (le_at 8 img (pos + 4)) ≡ header n i = cc in
        let l : le_at 4 img pos ≡ n = ap (λ (k : RecordHeader). k.length) same in
        let k : le_at 8 img (pos + 4) ≡ i = ap (λ (k : RecordHeader). k.id) same in
        record { room = ltb-false _ _ ea; small = omega (arith, ltb-false max_payload (le_at 4 img pos) eb); length-there = l; id-there = k }

pub record-reads : RecordReads
unfolding record_bytes
record-reads id p pre post at e small fits =
    let tail : List ℕ = p ++ padding (length p) in
    let len4 : List ℕ = le_bytes 4 (length p) in
    let img : List ℕ = pre ++ (record_bytes id p ++ post) in
    let one : record_bytes id p ++ post ≡ len4 ++ ((le_bytes 8 id ++ tail) ++ post) = append_assoc len4 (le_bytes 8 id ++ tail) post in
    let two : img ≡ (pre ++ len4) ++ (le_bytes 8 id ++ (tail ++ post)) =
    ap (λ (l : List ℕ). pre ++ l) (one ∙ ap (λ (l : List ℕ). len4 ++ l) (append_assoc (le_bytes 8 id) tail post))
    ∙ sym (append_assoc pre len4 (le_bytes 8 id ++ (tail ++ post))) in
    let long : length img ≡ length pre + (record_room (length p) + length post) =
    length-append pre (record_bytes id p ++ post)
    ∙ ap (λ (k : ℕ). length pre + k) (length-append (record_bytes id p) post ∙ ap (λ (k : ℕ). k + length post) (record-length id p)) in
    let r4 : le_at 4 img at ≡ length p =
    ap (λ (l : List ℕ). le_at 4 (pre ++ l) at) one ∙ le_read 4 (length p) pre ((le_bytes 8 id ++ tail) ++ post) at e (omega arith) in
    let r8 : le_at 8 img (at + 4) ≡ id =
    ap (λ (l : List ℕ). le_at 8 l (at + 4)) two
    ∙ le_read 8 id (pre ++ len4) (tail ++ post) (at + 4) (rw (length-append, le-bytes-length) (omega arith)) (omega arith) in
    header-reads img at (length p) id (omega (arith, room-ge (length p))) r4 r8 small

-- a record's bytes are read as its header, as an answer of `read_header`
pub record-header : (id : ℕ) (p pre post : List ℕ) (at : ℕ) → at ≡ length pre → length p ≤ max_payload → id < 2 ^ 64
    → header_at (pre ++ (record_bytes id p ++ post)) at ≡ Ok (header (length p) id)
unfolding header_at
record-header id p pre post at e small fits = ap header_by (record-reads id p pre post at e small fits)

pub record-payload : RecordPayload
record-payload id p post =
    let h : List ℕ = header_bytes (header (length p) id) in
    let is : record_bytes id p ++ post ≡ h ++ (p ++ (padding (length p) ++ post)) =
    ap (λ (l : List ℕ). l ++ post) (record-parts id p) ∙ append_assoc h (p ++ padding (length p)) post
    ∙ ap (λ (l : List ℕ). h ++ l) (append_assoc p (padding (length p)) post) in
    ap (λ (l : List ℕ). part 12 (length p) l) is
    ∙ ap (take (length p)) (drop_at h (p ++ (padding (length p) ++ post)) 12 (header-length (header (length p) id)))
    ∙ take_at p (padding (length p) ++ post) (length p) refl
