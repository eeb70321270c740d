-- A rule's row as tokens, for private contracts; no public contract rests on them.
use Rattle.std.specs.Prelude.{List, ℕ, ◌<◌, length, get_or}
use Rattle.rows.specs.declared.Token.{Token}
use Rattle.rows.specs.declared.Token.TheVariants.{Byte as byte, Number as number, Slot as slot, Front as front, Done as done, Pad as pad}
use Rattle.rows.specs.declared.Item.{Item}
use Rattle.rows.specs.declared.Item.TheVariants.{Claim as claim, Inside as inside}

-- The token's variable is one of the 24 slots of bytes, or of the 8 numbers.
abbrev pub Fit : Token → Type 0
Fit (byte b) = Unit {0}
Fit (number k v) = v < 8
Fit (slot u) = u < 24
Fit (front k) = Unit {0}
Fit done = Unit {0}
Fit pad = Unit {0}

-- The same for an item.
abbrev pub FitItem : Item → Type 0
FitItem (claim p) = Unit {0}
FitItem (inside t) = Fit t

-- The same for all items of a line.
abbrev pub AllFit : List Item → Type 0
AllFit is = (i : ℕ) (d : Item) → i < length is → FitItem (get_or is i d)

-- The same for all lines of a row.
abbrev pub RowFits : List (List Item) → Type 0
RowFits ls = (i : ℕ) (d : List Item) → i < length ls → AllFit (get_or ls i d)
