-- A FETCH or a STORE of a whole path, and the message about its far levels that goes to the host in its place.
use Rattle.std.specs.Prelude.{◌≡◌, ℕ, ◌+◌, ◌-◌, ◌*◌, ◌^◌, ◌<◌, ◌==◌, if◌then◌else◌, List, drop, length, slice_index, slice_range}
use Rattle.std.specs.Int.{w32, from_be_bytes}
use Rattle.oram_geometry.specs.declared.Sizes.{Sizes}
use Rattle.oram_geometry.specs.Sizes.{depth_of, trees_of}
use Rattle.oram_levels.specs.Messages.{FetchLevels, LevelsMessage, StoreLevels, levels_body}
use Rattle.oram_wire.specs.HostMessages.{fetch_body, store_body}
use Rattle.oram_near.specs.declared.path_message.PathMessage.{PathMessage}
use Rattle.oram_near.specs.declared.path_message.PathMessage.TheVariants as message

pub data PathRequest : Type 0 where
  FetchPath : (tree leaf : ℕ) → PathRequest
  StorePath : (tree leaf : ℕ) (records : List ℕ) → PathRequest

-- the request that a message borrows
abbrev pub request_of : PathMessage → PathRequest
request_of (message.Fetch tree leaf) = FetchPath tree leaf
request_of (message.Store tree leaf records) = StorePath tree leaf records.now

-- the body of a request
abbrev pub path_body : PathRequest → List ℕ
path_body (FetchPath tree leaf) = fetch_body tree leaf
path_body (StorePath tree leaf records) = store_body tree leaf records

-- it names a path of the device, and a STORE has a record of this length for each level
abbrev pub IsOfDevice : Sizes → ℕ → PathRequest → Type 0
IsOfDevice d record_len (FetchPath tree leaf) = (tree < trees_of d) × (leaf < 2 ^ depth_of d tree)
IsOfDevice d record_len (StorePath tree leaf records) =
    (tree < trees_of d) × (leaf < 2 ^ depth_of d tree) × (length records ≡ (depth_of d tree + 1) * record_len)

-- the first far level of a tree, if the client keeps so many levels of tree 0 itself: it keeps none of another tree
abbrev pub first_far : ℕ → ℕ → ℕ
first_far levels tree = if tree == 0 then levels else 0

-- the message about the far levels, for records of this length
abbrev pub far_of : Sizes → ℕ → ℕ → PathRequest → LevelsMessage
far_of d levels record_len (FetchPath tree leaf) = FetchLevels tree (first_far levels tree) (depth_of d tree) leaf
far_of d levels record_len (StorePath tree leaf records) = StoreLevels tree (first_far levels tree) leaf (drop (first_far levels tree * record_len) records)

-- a STORE of the far levels of a path of the device
abbrev pub IsFarStore : Sizes → ℕ → ℕ → LevelsMessage → Type 0
IsFarStore d levels record_len (FetchLevels tree first last leaf) = ⊥
IsFarStore d levels record_len (StoreLevels tree first leaf records) =
    (tree < trees_of d) × (leaf < 2 ^ depth_of d tree) × (first ≡ first_far levels tree) × (length records ≡ (depth_of d tree + 1 - first) * record_len)

-- the STORE of levels that a body is
unfoldable pub store_in : List ℕ → LevelsMessage
store_in body = StoreLevels (slice_index body 1) (slice_index body 2) (from_be_bytes w32 (slice_range body 3 7)) (drop 7 body)

-- the body is that of such a STORE
abbrev pub IsFarStoreBody : Sizes → ℕ → ℕ → List ℕ → Type 0
IsFarStoreBody d levels record_len body = IsFarStore d levels record_len (store_in body) × (body ≡ levels_body (store_in body))
