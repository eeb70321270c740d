-- What was measured is the size of the formula that the bytes are.
use Rattle.std.specs.Prelude.{Ok}
use Prim.Native.Nat.{ℕ}
use native.Mathlib.Omega.{arith}
use mathlib.Core.Path.{◌≡◌, refl, sym}
use mathlib.Core.Option.{Option, none, some}
use mathlib.Core.List.{List}
use Rattle.formula.specs.declared.Sort.{Sort}
use Rattle.formula.specs.declared.Size.{Size}
use Rattle.formula.specs.Bytes.{Tree, read_all}
use Rattle.formula.specs.Answers.{size_of, size_read, measurement}

pub record WholeSize (s : Sort) (f : List ℕ) (z : Size) : Type 0 where
  pub tree : Tree s
  pub whole : read_all s f ≡ some tree
  pub size : size_of s tree ≡ z

pub sized-by : (s : Sort) (f : List ℕ) {z : Size} → Ok z ≡ measurement s f → WholeSize s f z
unfolding measurement
sized-by s f {z} e = go (read_all s f) refl e
  where
    go : (o : Option (Tree s)) → read_all s f ≡ o → Ok z ≡ size_read s o → WholeSize s f z
    go none h k = absurd (let q : ◌≡◌ {A = ℕ} 0 1 = cc in omega arith)
    go (some t) h k = record { tree = t; whole = h; size = let q : z ≡ size_of s t = cc in sym q }
