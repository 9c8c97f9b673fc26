-- What a scan's findings say about the tree that was stored.
use Rattle.std.specs.Prelude.{◌≡◌, ◌≢◌, ◌⊎◌, ℕ, ◌+◌, ◌<◌, List, [], ◌∷◌, ◌++◌, Option, Some, None, ⊤, zero, suc}
use Rattle.std.specs.List.{FoldsTo}
use Rattle.sha2.specs.Sha256.{sha256}
use Rattle.oram_hash.specs.Record.{no_digest}
use Rattle.oram_hash.specs.Tree.{IsStored}
use Rattle.oram_scan.specs.Scan.{IsFinding, Scan, begun, node_count, passed}
use Rattle.oram_scan.specs.declared.tree_scan.Finding.{Finding}
use Rattle.oram_scan.specs.declared.tree_scan.Finding.TheVariants.{Sound}

-- what comes for a node: a record and what the scan says of it, or nothing
abbrev pub Row : Type 0
Row = Option (List ℕ × Finding)

-- the scan takes what comes for the next node
abbrev pub Takes : Scan → Row → Scan → Type 0
Takes s None t = (s.node < node_count s.depth) × (t ≡ passed s)
Takes s (Some (r, finding)) t = (s.node < node_count s.depth) × IsFinding s r finding t

-- from this node on, each record that is found sound is the tree's
abbrev pub AreTheTrees : (ℕ → List ℕ) → ℕ → List Row → Type 0
AreTheTrees records n [] = ⊤
AreTheTrees records n (Some (r, Sound) ∷ rows) = (r ≡ records n) × AreTheTrees records (n + 1) rows
AreTheTrees records n (row ∷ rows) = AreTheTrees records (n + 1) rows

-- this record differs from the tree's at some node, and has the same digest
abbrev pub Collides : (ℕ → List ℕ) → List ℕ → Type 0
Collides records r = (n : ℕ) × (r ≢ records n) × (sha256 r ≡ sha256 (records n))

-- a record that was found sound collides
abbrev pub HasCollision : (ℕ → List ℕ) → List Row → Type 0
HasCollision records rows = (before : List Row) × (r : List ℕ) × (after : List Row) × (rows ≡ before ++ Some (r, Sound) ∷ after) × Collides records r

-- Whatever comes for the nodes of a tree, each record that is found sound is the stored one, or one of them collides with it.
abbrev pub SoundRecordsAreTheTrees : Type 0
SoundRecordsAreTheTrees = (depth record_len : ℕ) (root : List ℕ) (records : ℕ → List ℕ) (rows : List Row) (s : Scan)
    → IsStored depth record_len root records → FoldsTo Takes (begun depth record_len root) rows s
    → AreTheTrees records 0 rows ⊎ HasCollision records rows

-- for each row the tree's record came
abbrev pub AreGiven : (ℕ → List ℕ) → ℕ → List Row → Type 0
AreGiven records n [] = ⊤
AreGiven records n (None ∷ rows) = ⊥
AreGiven records n (Some (r, finding) ∷ rows) = (r ≡ records n) × AreGiven records (n + 1) rows

abbrev pub AreSound : List Row → Type 0
AreSound [] = ⊤
AreSound (None ∷ rows) = ⊥
AreSound (Some (r, finding) ∷ rows) = (finding ≡ Sound) × AreSound rows

-- If the stored record comes for each node, all are found sound.
abbrev pub HonestScansAreSound : Type 0
HonestScansAreSound = (depth record_len : ℕ) (root : List ℕ) (records : ℕ → List ℕ) (rows : List Row) (s : Scan)
    → IsStored depth record_len root records → FoldsTo Takes (begun depth record_len root) rows s
    → AreGiven records 0 rows → AreSound rows

-- An example: a tree of three records of 65 bytes.
abbrev pub leaf_record : ℕ → List ℕ
leaf_record byte = byte ∷ no_digest ++ no_digest

abbrev pub root_of_two : List ℕ
root_of_two = 7 ∷ sha256 (leaf_record 8) ++ sha256 (leaf_record 9)

abbrev pub example_records : ℕ → List ℕ
example_records zero = root_of_two
example_records (suc zero) = leaf_record 8
example_records (suc (suc n)) = leaf_record 9

abbrev pub example_rows : List Row
example_rows = Some (root_of_two, Sound) ∷ Some (leaf_record 8, Sound) ∷ None ∷ []

-- The scan takes the first two records, and none comes for the third node.
abbrev pub ScanExample : Type 0
ScanExample = IsStored 1 65 (sha256 root_of_two) example_records
    × ((s : Scan) × FoldsTo Takes (begun 1 65 (sha256 root_of_two)) example_rows s × (s.node ≡ 3))
