-- "The next multiple": where a record that ends at x has its padding's end, for pages of any size p.
-- Laws: proofs/Page.antt. Assumes nothing.
use Rattle.std.specs.Prelude.{Bool, ℕ, zero, suc, ◌%◌, eqb}
use Rattle.lists.specs.Choice.{pick}

-- p divides x
abbrev pub divides_b : ℕ → ℕ → Bool
divides_b p x = eqb (x % p) 0

-- the first number from x on that p divides, looking at n of them
unfoldable pub multiple_from : ℕ → ℕ → ℕ → ℕ
multiple_from p zero x = x
multiple_from p (suc n) x = pick (divides_b p x) x (multiple_from p n (suc x))

-- the next multiple of p: x itself where p divides it, else the first one above; one of p neighbours is a multiple
unfoldable pub padded_end : ℕ → ℕ → ℕ
padded_end p x = multiple_from p p x
