-- Amounts as people write them.
use Rattle.std.specs.Prelude.{ℕ, List, ◌+◌, ◌/◌, ◌%◌, ◌-◌, ◌^◌, ◌==◌, ◌++◌, ◌∷◌, [], min, if◌then◌else◌, nat_lt, codes, decimal, Option, Some, None}
use Rattle.std.specs.List.{concat}

-- a count and a name, in the plural unless the count is one
abbrev pub counted : ℕ → List ℕ → List ℕ
counted count name = if count == 1 then codes "1 " ++ name else concat (decimal count ∷ codes " " ∷ name ∷ codes "s" ∷ [])

-- how many steps of this size an amount is, to the nearest
abbrev pub rounded : ℕ → ℕ → ℕ
rounded amount step = min (amount + step / 2) (2 ^ 64 - 1) / step

-- an amount of bytes in tenths of a unit, and the unit: the first in which it is less than a thousand
abbrev pub scaled : ℕ → ℕ × List ℕ
scaled bytes =
    if nat_lt (rounded bytes 100) 10000 then (rounded bytes 100, codes "kB")
    else if nat_lt (rounded bytes 100000) 10000 then (rounded bytes 100000, codes "MB")
    else if nat_lt (rounded bytes 100000000) 10000 then (rounded bytes 100000000, codes "GB")
    else (rounded bytes 100000000000, codes "TB")

-- tenths of a unit, followed by the unit
abbrev pub in_tenths : ℕ → List ℕ → List ℕ
in_tenths tenths unit = concat (decimal (tenths / 10) ∷ codes "." ∷ decimal (tenths % 10) ∷ codes " " ∷ unit ∷ [])

-- an amount of bytes
abbrev pub amount : ℕ → List ℕ
amount bytes = if nat_lt bytes 1000 then counted bytes (codes "byte") else in_tenths (scaled bytes).0 (scaled bytes).1

-- A size as a whole number of a binary unit, and the name of that unit. It is the greatest unit that divides the size.
-- KiB is used only for sizes below 1 MiB. The result is None if no unit divides the size, and for the size 0.
abbrev pub in_binary : ℕ → Option (ℕ × List ℕ)
in_binary size =
    if size == 0 then None
    else if size % 2 ^ 40 == 0 then Some (size / 2 ^ 40, codes "TiB")
    else if size % 2 ^ 30 == 0 then Some (size / 2 ^ 30, codes "GiB")
    else if size % 2 ^ 20 == 0 then Some (size / 2 ^ 20, codes "MiB")
    else if nat_lt (2 ^ 20) size then None
    else if size % 2 ^ 10 == 0 then Some (size / 2 ^ 10, codes "KiB")
    else None

-- a size as a whole number of this unit; a size that isn't one is written as an amount
abbrev pub in_units_or : List ℕ → Option (ℕ × List ℕ) → List ℕ
in_units_or other None = other
in_units_or other (Some (count, unit)) = concat (decimal count ∷ codes " " ∷ unit ∷ [])

-- the size of a disk
abbrev pub size_text : ℕ → List ℕ
size_text size = in_units_or (amount size) (in_binary size)
