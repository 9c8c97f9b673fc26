-- The messages to the host, and the records that they leave there.
use Rattle.std.specs.Prelude.{◌≡◌, ℕ, ◌+◌, ◌*◌, ◌==◌, ◌&&◌, not, Bool, if◌then◌else◌, List, [], ◌∷◌, length, drop, slice_index, slice_range, Option, Some, None, find, unwrap_or}
use Rattle.std.specs.List.{range_with_len}
use Rattle.std.specs.Option.{option_map}
use Rattle.std.specs.Int.{w32, to_be_bytes, from_be_bytes}
use Rattle.oram_geometry.specs.Sizes.{depth_of}
use Rattle.oram_geometry.specs.Path.{node_on}
use Rattle.oram_trace.specs.declared.entries.Entry.{Entry}
use Rattle.oram_wire.specs.HostMessages.{fetch_body, store_body}
use Rattle.oram_hash.specs.Path.{Path, path_of, record_at}
use Rattle.oram_semantics.specs.Scheme.{Scheme, record_len}

-- the first bytes of an entry's message: what it asks, the tree, and the leaf of the path
abbrev pub header_of : Entry → List ℕ
header_of e = (if e.fetch then 1 else 2) ∷ e.tree ∷ to_be_bytes w32 e.leaf

-- the message of an entry: the FETCH of a path, or its STORE with these records
abbrev pub message_of : Entry → List ℕ → List ℕ
message_of e records = if e.fetch then fetch_body e.tree e.leaf else store_body e.tree e.leaf records

-- the number of bytes of the records in an entry's message: as many as a path has in a STORE, none in a FETCH
abbrev pub records_len : Scheme → Entry → ℕ
records_len v e = if e.fetch then 0 else (depth_of v.device e.tree + 1) * record_len v

-- m is the message of an entry, with records of the right length
pub record IsMessage (v : Scheme) (e : Entry) (m : List ℕ) : Type 0 where
  pub records : List ℕ
  pub body : m ≡ message_of e records
  pub length_is : length records ≡ records_len v e

-- the tree that a message names, in byte 1, and the place, a leaf or a node, in the four bytes after it
abbrev pub message_tree : List ℕ → ℕ
message_tree m = slice_index m 1

abbrev pub message_place : List ℕ → ℕ
message_place m = from_be_bytes w32 (slice_range m 2 6)

-- the entry that a FETCH or a STORE asks for
unfoldable pub requested : List ℕ → Entry
requested m = record { fetch = slice_index m 0 == 1; tree = message_tree m; leaf = message_place m }

abbrev pub is_store : List ℕ → Bool
is_store m = slice_index m 0 == 2

abbrev pub is_put : List ℕ → Bool
is_put m = slice_index m 0 == 3

-- the path that a STORE writes
abbrev pub stored_path : Scheme → List ℕ → Path
stored_path v m = path_of v.device (message_tree m) (message_place m) v.cipher.overhead (drop 6 m)

-- the levels of a tree of this depth
abbrev pub levels : ℕ → List ℕ
levels depth = range_with_len 0 (depth + 1)

-- the level at which the path of a leaf has this node, if it has it
unfoldable pub level_on : ℕ → ℕ → ℕ → Option ℕ
level_on depth leaf node = find (λ level. node_on depth leaf level == node) (levels depth)

-- the record that a STORE leaves at a node, if its path has the node
abbrev pub record_on : Path → ℕ → Option (List ℕ)
record_on p node = option_map (record_at p) (level_on p.depth p.leaf node)

-- the record that a message leaves at a node of tree i: a STORE leaves one at each node of its path, a PUT at its node
unfoldable pub written : Scheme → List ℕ → ℕ → ℕ → Option (List ℕ)
written v m i node =
    if not (message_tree m == i) then None
    else if is_store m then record_on (stored_path v m) node
    else if is_put m && (message_place m == node) then Some (drop 6 m)
    else None

-- the record last stored at a node of tree i by these messages, the newest first
unfoldable pub last_stored : Scheme → List (List ℕ) → ℕ → ℕ → List ℕ
last_stored v [] i node = []
last_stored v (m ∷ older) i node = unwrap_or (written v m i node) (last_stored v older i node)
