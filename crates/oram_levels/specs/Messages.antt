-- The messages about some levels of a path, and what answers a FETCH of levels. All numbers are big-endian.
use Rattle.std.specs.Prelude.{◌≡◌, ℕ, ◌<◌, ◌^◌, ◌==◌, ◌||◌, nat_le, if◌then◌else◌, Bool, true, false, List, [], ◌∷◌, ◌++◌, length, slice_index}
use Rattle.std.specs.Int.{w32, to_be_bytes}
use Rattle.oram_levels.specs.declared.request.LevelsRequest.{LevelsRequest}
use Rattle.oram_levels.specs.declared.request.LevelsRequest.TheVariants as request

-- FETCH of levels asks for the records of a leaf's path from level `first` to level `last`
abbrev pub fetch_levels_body : ℕ → ℕ → ℕ → ℕ → List ℕ
fetch_levels_body tree first last leaf = (6 ∷ tree ∷ first ∷ last ∷ []) ++ to_be_bytes w32 leaf

-- STORE of levels replaces the records of a leaf's path from level `first` to that of the leaf
abbrev pub store_levels_body : ℕ → ℕ → ℕ → List ℕ → List ℕ
store_levels_body tree first leaf records = (7 ∷ tree ∷ first ∷ []) ++ to_be_bytes w32 leaf ++ records

-- a message about some levels of a path, with its records as they are, and not where they lie in memory
pub data LevelsMessage : Type 0 where
  FetchLevels : (tree first last leaf : ℕ) → LevelsMessage
  StoreLevels : (tree first leaf : ℕ) (records : List ℕ) → LevelsMessage

-- the body of a message
abbrev pub levels_body : LevelsMessage → List ℕ
levels_body (FetchLevels tree first last leaf) = fetch_levels_body tree first last leaf
levels_body (StoreLevels tree first leaf records) = store_levels_body tree first leaf records

-- the message that a request is
abbrev pub message_of : LevelsRequest → LevelsMessage
message_of (request.Fetch tree first last leaf) = FetchLevels tree first last leaf
message_of (request.Store tree first leaf records) = StoreLevels tree first leaf records.now

-- the leaf of a message fits its four bytes
abbrev pub HasNumbers : LevelsMessage → Type 0
HasNumbers (FetchLevels tree first last leaf) = leaf < 2 ^ 32
HasNumbers (StoreLevels tree first leaf records) = leaf < 2 ^ 32

-- the first byte names one of the two messages
abbrev pub names_levels : List ℕ → Bool
names_levels [] = false
names_levels (op ∷ fields) = op == 6 || op == 7

-- the lengths that the body of a message with this first byte may have: FETCH of levels has 8 bytes, STORE of levels at least 7
abbrev pub is_levels_length : ℕ → ℕ → Bool
is_levels_length op len = if op == 6 then len == 8 else nat_le 7 len

-- the first byte names one of the two messages, but the length isn't one of such a message
abbrev pub IsMisfit : List ℕ → Type 0
IsMisfit body = (names_levels body ≡ true) × (is_levels_length (slice_index body 0) (length body) ≡ false)

-- the payload of an answer: how many records it has, and the records one behind the other
abbrev pub levels_payload : ℕ → List ℕ → List ℕ
levels_payload count records = count ∷ records
