-- Operations on an array of bytes, one after the other.
use Rattle.std.specs.Prelude.{◌≡◌, ◌⊎◌, ℕ, ◌+◌, ◌*◌, ◌<◌, ◌≤◌, List, [], ◌∷◌, length}
use Rattle.oram_nbd.specs.Bytes.{bytes_at, written, zeroes, IsBegun}
use Rattle.oram_nbd.specs.declared.operations.Operation.{Operation}
use Rattle.oram_nbd.specs.declared.operations.Operation.TheVariants.{Read, Write, Zero}

-- where the range of an operation begins
abbrev pub place_of : Operation → ℕ
place_of (Read at count) = at
place_of (Write at payload) = at
place_of (Zero at count) = at

-- how many bytes it has
abbrev pub len_of : Operation → ℕ
len_of (Read at count) = count
len_of (Write at payload) = length payload
len_of (Zero at count) = count

-- the bytes that it reads of an array
abbrev pub given_by : Operation → List ℕ → List ℕ
given_by (Read at count) bytes = bytes_at bytes at count
given_by (Write at payload) bytes = []
given_by (Zero at count) bytes = []

-- how many bytes it reads
abbrev pub read_len : Operation → ℕ
read_len (Read at count) = count
read_len (Write at payload) = 0
read_len (Zero at count) = 0

-- the array after it
abbrev pub done_by : Operation → List ℕ → List ℕ
done_by (Read at count) bytes = bytes
done_by (Write at payload) bytes = written bytes at payload
done_by (Zero at count) bytes = written bytes at (zeroes count)

-- the array if the operation was done up to some byte of its range
abbrev pub IsPartOf : Operation → List ℕ → List ℕ → Type 0
IsPartOf (Read at count) old new = new ≡ old
IsPartOf (Write at payload) old new = IsBegun old at payload new
IsPartOf (Zero at count) old new = IsBegun old at (zeroes count) new

-- what each of several operations reads, one after the other
abbrev pub all_given : List Operation → List ℕ → List (List ℕ)
all_given [] bytes = []
all_given (op ∷ ops) bytes = given_by op bytes ∷ all_given ops (done_by op bytes)

-- the array after all of them
abbrev pub all_done : List Operation → List ℕ → List ℕ
all_done [] bytes = bytes
all_done (op ∷ ops) bytes = all_done ops (done_by op bytes)

-- The first ones are done, one may be done in part, and the others aren't begun.
abbrev pub AreBegun : List Operation → List ℕ → List ℕ → Type 0
AreBegun [] old new = new ≡ old
AreBegun (op ∷ ops) old new = IsPartOf op old new ⊎ AreBegun ops (done_by op old) new

-- the range of at least one of them has a byte
abbrev pub TouchSomeByte : List Operation → Type 0
TouchSomeByte [] = ⊥
TouchSomeByte (op ∷ ops) = (0 < len_of op) ⊎ TouchSomeByte ops

-- The range is one of whole blocks, which have `block` bytes.
pub record IsWhole (block : ℕ) (op : Operation) : Type 0 where
  pub first : ℕ
  pub count : ℕ
  pub place : place_of op ≡ block * first
  pub len : len_of op ≡ block * count

-- It lies within `size` bytes.
abbrev pub IsWithin : ℕ → Operation → Type 0
IsWithin size op = place_of op + len_of op ≤ size

-- An operation of no bytes is at 0.
abbrev pub IsPlaced : Operation → Type 0
IsPlaced op = len_of op ≡ 0 → place_of op ≡ 0
