-- How long the answers of a disk's host are.
use Rattle.std.specs.Prelude.{ℕ, ◌+◌, ◌*◌, ◌==◌, ◌&&◌, max, min, nat_lt, if◌then◌else◌, List, [], ◌∷◌, drop, length}
use Rattle.std.specs.Int.{w32, from_be_bytes}
use Rattle.oram_geometry.specs.declared.Sizes.{Sizes}
use Rattle.oram_geometry.specs.Sizes.{depth_of, record_len_of, trees_of}
use Rattle.oram_wire.specs.declared.TheConstants.{LONGEST_BODY}
use Rattle.oram_client.specs.declared.identity.TheConstants.{IDENTITY_TREE, STAMP_TREE}

-- the sizes of a disk, and how many bytes its sealer adds to a bucket
pub record DiskSizes : Type 0 where
  pub device : Sizes
  pub overhead : ℕ

-- the length of an answer with a path of a tree: one byte, and the record of each node of the path
abbrev pub path_answer_len : Sizes → ℕ → ℕ → ℕ
path_answer_len d overhead tree = 1 + (depth_of d tree + 1) * record_len_of d overhead

-- the length of an answer with the rows of this many nodes, if all have a record: one byte, and for each node a byte and its record
abbrev pub rows_answer_len : DiskSizes → ℕ → ℕ
rows_answer_len disk count = 1 + count * (1 + record_len_of disk.device disk.overhead)

-- the length of the answer with the disk's identity, which has 32 bytes
abbrev pub identity_answer_len : ℕ
identity_answer_len = 33

-- the length of the answer with the host's stamps, which are two records of 48 bytes
abbrev pub stamps_answer_len : ℕ
stamps_answer_len = 97

-- the length of a refusal: one byte and its code
abbrev pub refusal_len : ℕ
refusal_len = 2

-- the length of the longest answer to a FETCH of a path of this tree
abbrev pub longest_to_fetch : DiskSizes → ℕ → ℕ
longest_to_fetch disk tree =
    if nat_lt tree (trees_of disk.device) then path_answer_len disk.device disk.overhead tree
    else if tree == IDENTITY_TREE then identity_answer_len
    else if tree == STAMP_TREE then stamps_answer_len
    else refusal_len

-- The length of the longest answer to a FETCH of levels of this tree: one byte, one that counts the levels, and the record of each node of the path.
-- No answer is longer than the body of a frame.
abbrev pub longest_to_levels : DiskSizes → ℕ → ℕ
longest_to_levels disk tree =
    if nat_lt tree (trees_of disk.device) then min (1 + path_answer_len disk.device disk.overhead tree) LONGEST_BODY
    else refusal_len

-- The length of the longest answer to a RECORDS for this many nodes of this tree. No answer is longer than the body of a frame.
abbrev pub longest_to_records : DiskSizes → ℕ → ℕ → ℕ
longest_to_records disk tree count =
    if nat_lt tree (trees_of disk.device) then max refusal_len (min (rows_answer_len disk count) LONGEST_BODY)
    else refusal_len

-- The length of the longest answer to a RECORDS, given what follows its first byte: 0, the tree, the first node and the number of nodes. Each of
-- the last two takes four bytes. If anything else follows, the answer is a refusal.
abbrev pub longest_to_fields : DiskSizes → List ℕ → ℕ
longest_to_fields disk [] = refusal_len
longest_to_fields disk (now ∷ []) = refusal_len
longest_to_fields disk (now ∷ (tree ∷ numbers)) =
    if (now == 0) && (length numbers == 8) then longest_to_records disk tree (from_be_bytes w32 (drop 4 numbers))
    else refusal_len

-- The length of the longest answer that an honest host of a disk gives to a message. The first byte of a FETCH is 1, that of a RECORDS is 5, and
-- that of a FETCH of levels is 6. Any other message is answered as done or refused.
abbrev pub longest_answer : DiskSizes → List ℕ → ℕ
longest_answer disk [] = refusal_len
longest_answer disk (op ∷ []) = refusal_len
longest_answer disk (op ∷ (tree ∷ fields)) =
    if op == 1 then longest_to_fetch disk tree
    else if op == 5 then longest_to_fields disk (tree ∷ fields)
    else if op == 6 then longest_to_levels disk tree
    else refusal_len
