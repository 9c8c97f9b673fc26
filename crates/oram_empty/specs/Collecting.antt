-- What a client collects of the messages of a formatting, as they pass.
use Rattle.std.specs.Prelude.{◌≡◌, ◌≢◌, ℕ, Bool, ◌+◌, ◌-◌, ◌*◌, ◌^◌, ◌<◌, ◌≤◌, List, ◌++◌, ◌==◌, ◌&&◌, length, take, drop, replicate, nat_lt, if◌then◌else◌}
use Rattle.oram_geometry.specs.declared.Sizes.{Sizes}
use Rattle.oram_geometry.specs.Sizes.{trees_of, depth_of, record_len_of}
use Rattle.oram_wire.specs.HostMessages.{put_body}
use Rattle.oram_empty.specs.KeptDigests.{upper_count, upper_below, digests_len, digests_part}

-- the bytes with another piece number k
abbrev pub with_piece : ℕ → List ℕ → ℕ → List ℕ → List ℕ
with_piece size bytes k new = take (k * size) bytes ++ new ++ drop (k * size + size) bytes

-- What has been collected so far: the digests that end the records of the upper nodes, and the records of the near nodes, which are those
-- of the top `near` levels of tree 0, in the order of the nodes.
pub record Collection : Type 0 where
  pub device : Sizes
  pub record_len : ℕ
  pub near : ℕ
  pub digests : List ℕ
  pub records : List ℕ

-- the number of near nodes
abbrev pub near_nodes : ℕ → ℕ
near_nodes near = 2 ^ near - 1

-- a collection has room for the digests of each upper node, and for the record of each near node
pub record IsCollection (s : Collection) : Type 0 where
  pub digests_whole : length s.digests ≡ digests_len s.device
  pub records_whole : length s.records ≡ near_nodes s.near * s.record_len
  pub few_near : s.near ≤ 24
  pub long : 64 ≤ s.record_len
  pub short : s.record_len ≤ 32960

-- the collection that bytes have: the records, and behind them the digests
abbrev pub collection_of : Sizes → ℕ → ℕ → List ℕ → Collection
collection_of d record_len near bytes = record {
  device = d;
  record_len = record_len;
  near = near;
  digests = drop (near_nodes near * record_len) bytes;
  records = take (near_nodes near * record_len) bytes;
}

-- the collection before the first message: zeros
abbrev pub blank : Sizes → ℕ → ℕ → Collection
blank d overhead near = record {
  device = d;
  record_len = record_len_of d overhead;
  near = near;
  digests = replicate (digests_len d) 0;
  records = replicate (near_nodes near * record_len_of d overhead) 0;
}

-- whether a node of this number is an upper node of a tree
abbrev pub is_upper : Sizes → ℕ → ℕ → Bool
is_upper d tree node = nat_lt tree (trees_of d) && nat_lt node (upper_count (depth_of d tree))

-- whether a node of this number of a tree is near
abbrev pub is_near : ℕ → ℕ → ℕ → Bool
is_near near tree node = tree == 0 && nat_lt node (near_nodes near)

-- the collection after the PUT of a record at a node: it has the two digests that end the record if the node is an upper one, and the record
-- itself if the node is near
abbrev pub collected : Collection → ℕ → ℕ → List ℕ → Collection
collected s tree node r = record s {
  digests = if is_upper s.device tree node then with_piece 64 s.digests (upper_below s.device tree + node) (digests_part r) else s.digests;
  records = if is_near s.near tree node then with_piece s.record_len s.records node r else s.records;
}

-- The collection before and after a message. The PUT of a record is collected, and no other message changes the collection.
pub record Collects (from : Collection) (body : List ℕ) (to : Collection) : Type 0 where
  pub put : (tree node : ℕ) (r : List ℕ) → node < 2 ^ 32 → length r ≡ from.record_len → body ≡ put_body tree node r → to ≡ collected from tree node r
  pub other : ((tree node : ℕ) (r : List ℕ) → node < 2 ^ 32 → length r ≡ from.record_len → body ≢ put_body tree node r) → to ≡ from
