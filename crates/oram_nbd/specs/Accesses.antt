-- Which blocks a device is asked for, call by call. Only where the ranges of the requests lie decides that, and not whether they
-- read, write or zero, nor any byte.
use Rattle.std.specs.Prelude.{◌≡◌, ℕ, zero, suc, ◌+◌, ◌-◌, ◌*◌, ◌/◌, ◌%◌, Bool, true, false, not, List, [], ◌∷◌, ◌++◌, drop, map, nat_le, nat_lt, Option, Some, None, if◌then◌else◌}
use Rattle.std.specs.List.{FoldsTo, flat_map}
use Rattle.oram_nbd.specs.Operations.{len_of, place_of}
use Rattle.oram_nbd.specs.Service.{refusal_of, touched_len}
use Rattle.oram_nbd.specs.declared.faults.NbdError.{NbdError}
use Rattle.oram_nbd.specs.declared.operations.Operation.{Operation}
use Rattle.oram_nbd.specs.declared.requests.Request.{Request}

-- n numbers, from `first` on
abbrev pub numbers_from : ℕ → ℕ → List ℕ
numbers_from first zero = []
numbers_from first (suc n) = first ∷ numbers_from (suc first) n

-- a range of bytes: where it begins, and how many they are
pub record Range : Type 0 where
  pub at : ℕ
  pub len : ℕ

abbrev pub range : ℕ → ℕ → Range
range at len = record { at = at; len = len }

-- the range begins or ends within a block
abbrev pub is_part : ℕ → Range → Bool
is_part block r = nat_lt 0 (r.at % block + r.len % block)

-- over how many blocks a range of n bytes lies, which has at least one
abbrev pub cover_len : ℕ → ℕ → ℕ → ℕ
cover_len block at n = ((at + n) - 1) / block - at / block + 1

-- 1 if there are any
abbrev pub one_if : ℕ → ℕ
one_if zero = 0
one_if (suc n) = 1

-- Those of `count` blocks from `first` on that lie partly outside of a range: the first one if bytes lie before the range there,
-- and the last one if bytes lie after it.
abbrev pub edges_of : ℕ → ℕ → ℕ → ℕ → List ℕ
edges_of first count before after =
    if nat_le count 1 then first ∷ [] else numbers_from first (one_if before) ++ numbers_from ((first + count) - one_if after) (one_if after)

-- Two calls for a range that isn't one of whole blocks. The first one reads the blocks that lie partly outside of it. The second
-- one is on all of its blocks.
abbrev pub part_calls : ℕ → Range → List (List ℕ)
part_calls block r =
    let first = r.at / block in let count = cover_len block r.at r.len in
    edges_of first count (r.at % block) (block * count - (r.at % block + r.len)) ∷ numbers_from first count ∷ []

-- the blocks of a range of whole blocks
abbrev pub whole_blocks : ℕ → Range → List ℕ
whole_blocks block r = numbers_from (r.at / block) (r.len / block)

-- the first range is one of whole blocks
abbrev pub begins_whole : ℕ → List Range → Bool
begins_whole block [] = false
begins_whole block (r ∷ ranges) = not (is_part block r)

-- blocks that go into the first of these calls, or into a call of their own
abbrev pub in_first : Bool → List ℕ → List (List ℕ) → List (List ℕ)
in_first false blocks calls = blocks ∷ calls
in_first true blocks [] = blocks ∷ []
in_first true blocks (call ∷ calls) = (blocks ++ call) ∷ calls

-- The calls for ranges, one after the other. Ranges of whole blocks share a call, up to the next one that isn't.
abbrev pub calls_of : ℕ → List Range → List (List ℕ)
calls_of block [] = []
calls_of block (r ∷ ranges) =
    if is_part block r then part_calls block r ++ calls_of block ranges else in_first (begins_whole block ranges) (whole_blocks block r) (calls_of block ranges)

abbrev pub range_of : Operation → Range
range_of op = range (place_of op) (len_of op)

-- the blocks of operations on whole blocks, one after the other
abbrev pub blocks_of : ℕ → List Operation → List ℕ
blocks_of block ops = flat_map (λ op. whole_blocks block (range_of op)) ops

-- the range of a request that reads, writes or zeroes n bytes; one of no bytes is at 0
abbrev pub touched_from : ℕ → ℕ → Range
touched_from at zero = range 0 0
touched_from at (suc n) = range at (suc n)

-- the bytes that a request touches: none if it is refused
abbrev pub touched_by : Option NbdError → Request → Range
touched_by (Some e) r = range 0 0
touched_by None r = touched_from r.offset (touched_len r.command r.length)

-- the calls for requests to a device of `size` bytes
abbrev pub request_calls : ℕ → ℕ → List Request → List (List ℕ)
request_calls block size requests = calls_of block (map (λ r. touched_by (refusal_of size r) r) requests)

-- the device was called for these blocks, call by call
abbrev pub AsksFor : {D : Type 0} → (D → List ℕ → D → Type 0) → D → List (List ℕ) → D → Type 0
AsksFor {D} asked old calls new = FoldsTo {P = D} {A = List ℕ} asked old calls new

-- It was called for the first n of these operations. The calls for the others are left.
pub record AsksFirst {D : Type 0} (asked : D → List ℕ → D → Type 0) (block : ℕ) (ops : List Operation) (n : ℕ) (old new : D) : Type 0 where
  pub calls : List (List ℕ)
  pub made : AsksFor asked old calls new
  pub left : calls_of block (map range_of ops) ≡ calls ++ calls_of block (map range_of (drop n ops))
