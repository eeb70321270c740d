-- What was read into the front of a space, and what is written.
use Rattle.std.specs.Prelude.{◌≡◌, ℕ, ◌≤◌, ◌<◌, Bool, true, List, [], ◌∷◌, ◌%◌, length, take, flat_map, Option, All, drop, slice_index, ◌+◌, ◌*◌}
use Rattle.std.specs.Fmt.{decimal}
use Rattle.std.specs.Io.KnownBytes.{Consumes, IsAtEnd}

-- `&xs[..n]` is in bounds and has n bytes
abbrev pub IsPrefixLen : ℕ → List ℕ → Type 0
IsPrefixLen n xs = (n ≤ length xs) × (n ≡ length (take n xs))

-- the n bytes that the reader had next stand in front of the space; fewer than the space has only at the reader's end, or where a
-- read failed and so not all is whole
pub record Gathers (had has : Option (List ℕ)) (space : List ℕ) (n : ℕ) (whole : Bool) : Type 0 where
  pub took : Consumes had has (take n space)
  pub ended : whole ≡ true → n < length space → IsAtEnd has

-- each byte in decimal, with a space before it
abbrev pub spaced : List ℕ → List ℕ
spaced b = flat_map (λ x. 32 ∷ decimal x) b

-- the bytes that the reader had next, and zeros where it ended
pub record Padded (had has : Option (List ℕ)) (b : List ℕ) : Type 0 where
  pub count : ℕ
  pub gathers : Gathers had has b count true
  pub zeros : All (λ x. x ≡ 0) (drop count b)

-- the number of the first two bytes, the lowest first, and that of the next two
abbrev pub low_value : List ℕ → ℕ
low_value b = slice_index b 0 + 256 * slice_index b 1

abbrev pub high_value : List ℕ → ℕ
high_value b = slice_index b 2 + 256 * slice_index b 3

-- the number of four bytes, the lowest first
abbrev pub word_value : List ℕ → ℕ
word_value b = low_value b + 65536 * high_value b

-- the two sums of Adler's checksum, from a and from b on: of the bytes, and of the first sum after each of them
unfoldable pub low_sum : ℕ → List ℕ → ℕ
low_sum a [] = a
low_sum a (x ∷ l) = low_sum ((a + x) % 65521) l

unfoldable pub high_sum : ℕ → ℕ → List ℕ → ℕ
high_sum a b [] = b
high_sum a b (x ∷ l) = high_sum ((a + x) % 65521) ((b + (a + x) % 65521) % 65521) l
