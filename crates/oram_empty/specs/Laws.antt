-- Laws about the records of a formatting.
use Rattle.std.specs.Prelude.{◌≡◌, ℕ, ◌+◌, ◌-◌, ◌*◌, ◌<◌, ◌≤◌, ◌^◌, List, length}
use Rattle.oram_geometry.specs.Sizes.{trees_of, depth_of}
use Rattle.oram_geometry.specs.Path.{node_on}
use Rattle.oram_hash.specs.Path.{HasLength, path_of}
use Rattle.oram_hash.specs.Tree.{IsPathOf}
use Rattle.oram_bucket.specs.Cipher.{Cipher, IsCipher, plain_cipher}
use Rattle.oram_tree.specs.Format.{PutsAll}
use Rattle.oram_tree.specs.State.{State as Tree}
use Rattle.oram_semantics.specs.Formatting.{IsTreeMade, AreTreesMade}
use Rattle.oram_semantics.specs.Scheme.{Scheme, record_len}
use Rattle.oram_empty.specs.EmptyRecords.{empty_path, empty_record}
use Rattle.oram_empty.specs.KeptDigests.{AreNodesRecords, AreOfFormatting, Digests, digests_len, made_record, piece}
use Rattle.oram_empty.specs.Collecting.{Collection, Collects, blank, near_nodes}

-- Whatever messages make tree i of a device, the record that they put at each node is the empty record of that node.
abbrev pub FormatsPutEmptyRecords : Type 0
FormatsPutEmptyRecords = (v : Scheme) (i : ℕ) (tree : Tree) (bodies : List (List ℕ)) (is : IsTreeMade v i tree bodies)
    (leaf level : ℕ) → leaf < 2 ^ depth_of v.device i → level ≤ depth_of v.device i
    → is.made.records (node_on (depth_of v.device i) leaf level) ≡ empty_record v.cipher v.device i leaf level

-- The empty records of a leaf's path, from the root on, are the records of that path in the tree that the messages make.
abbrev pub EmptyPathsAreTheTrees : Type 0
EmptyPathsAreTheTrees = (v : Scheme) (i : ℕ) (tree : Tree) (bodies : List (List ℕ)) (is : IsTreeMade v i tree bodies) (leaf : ℕ) → leaf < 2 ^ depth_of v.device i
    → (let p = path_of v.device i leaf v.cipher.overhead (empty_path v.cipher v.device i leaf 0) in HasLength p × IsPathOf is.made.records p)

-- So are those from any other level on: one record for each level, in turn.
abbrev pub LowerLevelsAreTheTrees : Type 0
LowerLevelsAreTheTrees = (v : Scheme) (i : ℕ) (tree : Tree) (bodies : List (List ℕ)) (is : IsTreeMade v i tree bodies) (leaf first : ℕ) → leaf < 2 ^ depth_of v.device i
    → first ≤ depth_of v.device i
    → (length (empty_path v.cipher v.device i leaf first) ≡ (depth_of v.device i + 1 - first) * record_len v)
    × ((level : ℕ) → first ≤ level → level ≤ depth_of v.device i
    → piece (record_len v) (empty_path v.cipher v.device i leaf first) (level - first) ≡ is.made.records (node_on (depth_of v.device i) leaf level))

-- Whatever the digests are, a client makes one record for each node, and all these records have the same length.
abbrev pub MadeRecordsAreOfNodes : Type 0
MadeRecordsAreOfNodes = (cipher : Cipher) (s : Digests) → IsCipher cipher → length s.bytes ≡ digests_len s.device → AreNodesRecords cipher s

-- With the digests of the formatting, the records that a client makes are those of the formatting.
abbrev pub MadeRecordsAreEmpty : Type 0
MadeRecordsAreEmpty = (cipher : Cipher) (s : Digests) → AreOfFormatting cipher s → (tree leaf level : ℕ) → tree < trees_of s.device → leaf < 2 ^ depth_of s.device tree
    → level ≤ depth_of s.device tree → made_record cipher s tree leaf level ≡ empty_record cipher s.device tree leaf level

-- The collection has the digests of the formatting of a device, and the records of its near nodes.
pub record HasFormatting (v : Scheme) (near : ℕ) (s : Collection) : Type 0 where
  pub device_is : s.device ≡ v.device
  pub near_is : s.near ≡ near
  pub digests_whole : length s.digests ≡ digests_len v.device
  pub records_whole : length s.records ≡ near_nodes near * record_len v
  pub digests : AreOfFormatting v.cipher (record { device = v.device; bytes = s.digests })
  pub records : (leaf level : ℕ) → leaf < 2 ^ depth_of v.device 0 → level < near
      → piece (record_len v) s.records (node_on (depth_of v.device 0) leaf level) ≡ empty_record v.cipher v.device 0 leaf level

-- What was collected of all messages of a formatting, and of no others, has its digests and the records of the near nodes.
abbrev pub CollectionsHaveTheFormatting : Type 0
CollectionsHaveTheFormatting = (v : Scheme) (trees : List Tree) (messages : List (List ℕ)) (near : ℕ) (s : Collection) → near ≤ depth_of v.device 0
    → AreTreesMade v (trees_of v.device) trees messages → PutsAll Collects (blank v.device v.cipher.overhead near) messages s
    → HasFormatting v near s

-- An example for these laws: a device of 128 blocks of 16 bytes with a map of 32 blocks, so its trees have the depths 7 and 5, and the
-- cipher of `PlainSeal`.
abbrev pub example_scheme : Scheme
example_scheme = record {
  device = record { blocks = 128; block_bytes = 16; slots = 4; top = 32; lifetime = 100; leaf_load = 1 };
  cipher = plain_cipher;
}

-- Some messages make its trees, and some collection is what was collected of exactly these messages.
abbrev pub FormattingExample : Type 0
FormattingExample = (trees : List Tree) × (messages : List (List ℕ)) × (s : Collection)
    × AreTreesMade example_scheme (trees_of example_scheme.device) trees messages × PutsAll Collects (blank example_scheme.device 0 2) messages s

-- There are digests that meet the premises of both laws about made records.
abbrev pub MadeExample : Type 0
MadeExample = (s : Digests) × (s.device ≡ example_scheme.device) × IsCipher plain_cipher × (length s.bytes ≡ digests_len s.device) × AreOfFormatting plain_cipher s
