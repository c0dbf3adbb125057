-- When a log is well shaped and fits its area, as one test: not refusal 2. Laws: proofs/Fit.antt. Assumes nothing.
use Rattle.std.specs.Prelude.{List, Bool, ◌&&◌, ℕ, ◌*◌, ◌%◌, length, leb, eqb}
use Rattle.seglog.specs.declared.Log.{Log}
use Rattle.seglog.specs.View.{View, view_of, plain_of}
use Rattle.seglog.specs.Chain.{chain_of, slots_apart, ends_of}

-- "1 <= K <= 64, C a multiple of 4096, 4096 <= C <= 2,147,483,648, 0 <= M <= C"
unfoldable pub sizes_of : ℕ → ℕ → ℕ → Bool
sizes_of k c m = leb 1 k && leb k 64 && eqb (c % 4096) 0 && leb 4096 c && leb c 2147483648 && leb m c

-- a view is well shaped
unfoldable pub shaped_of : View → Bool
shaped_of a =
    sizes_of a.k a.c a.m && leb (length a.segs) a.k && chain_of a.k a.c a.segs && slots_apart a.segs
    && ends_of a.start a.end a.segs

-- a view is well shaped and the area has K x C bytes
unfoldable pub fits_of : View → List ℕ → Bool
fits_of a area = shaped_of a && eqb (length area) (a.k * a.c)

-- not refusal 2: the log is well shaped, and the area's length n is K x C
unfoldable pub fitting_of : Log → ℕ → Bool
fitting_of l n = plain_of l && (shaped_of (view_of l) && eqb n (l.k * l.c))
