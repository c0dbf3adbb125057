-- The statement that docs/PROMISES.md cites: "what follows isn't read". Proof: proofs/ReadingDepends.antt. Assumes nothing.
use Rattle.std.specs.Prelude.{ℕ, List, ◌≡◌, take}
use Rattle.lists.specs.Outcome.{done}
use Rattle.delta.specs.Reading.{decoded_of}

-- decoding that consumed n bytes depends on them alone: any input that begins with them decodes to the same
abbrev pub DecodeDepends : Type 0
DecodeDepends =
    (most : ℕ) (s s' : List ℕ) (n : ℕ) → (decoded_of most s).answer ≡ done n → take n s ≡ take n s'
    → decoded_of most s' ≡ decoded_of most s
