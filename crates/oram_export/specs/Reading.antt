-- A tree that was read whole.
use Rattle.std.specs.Prelude.{◌≡◌, ◌⊎◌, ℕ, ◌+◌, List, [], ◌∷◌, ◌++◌, drop, length, map, count_by, sum_by, Ok, Err, Some}
use Rattle.std.specs.List.{All, FoldsTo, flat_map}
use Rattle.oram_link_laws.specs.Runs.{Exchange}
use Rattle.oram_records.specs.Messages.{rows_text}
use Rattle.oram_rounds.specs.Batches.{BatchOutcome}
use Rattle.oram_scan.specs.Laws.{Row, Takes}
use Rattle.oram_scan.specs.Scan.{Scan, begun, node_count}
use Rattle.oram_scan.specs.declared.tree_scan.Finding.TheVariants.{Sound}
use Rattle.oram_export.specs.Findings.{is_lost, levels_of, lost_of}
use Rattle.oram_export.specs.Requests.{batches_of, requests_for}
use Rattle.oram_export.specs.Stages.{HasLength, record_in}
use Rattle.oram_export.specs.declared.findings.LevelFindings.{LevelFindings}
use Rattle.oram_export.specs.declared.tree_reading.TreeToRead.{TreeToRead}

-- a batch of requests, and the answers to them, or why there are none
abbrev pub Asking : Type 0
Asking = List (List ℕ) × BatchOutcome

-- the requests of these batches
abbrev pub asked_in : List Asking → List (List (List ℕ))
asked_in askings = map {A = Asking} (λ x. x.0) askings

-- the link carries these batches, one after the other
abbrev pub Carries : {B : Type 0} → (B → List (List ℕ) → BatchOutcome → List Exchange → B → Type 0) → B → List Asking → B → Type 0
Carries {B} batches l askings m = FoldsTo {P = B} {A = Asking} (λ a x b. (exchanges : List Exchange) × batches a x.0 x.1 exchanges b) l askings m

-- what the answers say, without the first byte of each
abbrev pub answers_text : List Asking → List ℕ
answers_text [] = []
answers_text ((bodies, Ok answers) ∷ askings) = flat_map (drop 1) answers ++ answers_text askings
answers_text ((bodies, Err fault) ∷ askings) = answers_text askings

-- the records that were found sound, in the order of their nodes
abbrev pub sound_in : List Row → List (List ℕ)
sound_in [] = []
sound_in (Some (r, Sound) ∷ rows) = r ∷ sound_in rows
sound_in (row ∷ rows) = sound_in rows

-- the requests for a tree's records
abbrev pub asked_of : TreeToRead → List (List (List ℕ))
asked_of t = batches_of (requests_for t.tree t.depth t.record_len)

-- All records of a tree were asked for. The answers spell these rows, a scan has judged each of them, and all are counted.
pub record IsRead {B : Type 0} (batches : B → List (List ℕ) → BatchOutcome → List Exchange → B → Type 0) (tree : TreeToRead) (l : B) (rows : List Row)
    (levels : List LevelFindings) (m : B) : Type 0 where
  pub askings : List Asking
  pub carried : Carries batches l askings m
  pub asked : asked_in askings ≡ asked_of tree
  pub spelled : answers_text askings ≡ rows_text (map record_in rows)
  pub long : All (HasLength tree.record_len) rows
  pub scan : Scan
  pub judged : FoldsTo Takes (begun tree.depth tree.record_len tree.root) rows scan
  pub whole : scan.node ≡ node_count tree.depth
  pub counted : levels ≡ levels_of tree.depth rows
  pub lost : sum_by lost_of levels ≡ count_by is_lost rows

-- The link is asked for the first of these batches ahead, or for none.
abbrev pub MayAskNext : {B : Type 0} → (B → List (List ℕ) → B → Type 0) → B → List (List (List ℕ)) → B → Type 0
MayAskNext asks k [] m = m ≡ k
MayAskNext asks k (bodies ∷ later) m = (m ≡ k) ⊎ asks k bodies m

-- A reading that stopped has asked for the first records of the tree, and perhaps for the next ones, whose answers it hasn't read.
abbrev pub HasAsked : {B : Type 0} → (B → List (List ℕ) → BatchOutcome → List Exchange → B → Type 0) → (B → List (List ℕ) → B → Type 0) → TreeToRead → B → B → Type 0
HasAsked {B} batches asks tree l m = (askings : List Asking) × (k : B) × Carries batches l askings k
    × ((later : List (List (List ℕ))) × (asked_of tree ≡ asked_in askings ++ later) × MayAskNext asks k later m)

-- these trees were read, one after the other, from tree i on
abbrev pub AreRead : {B : Type 0} → (B → List (List ℕ) → BatchOutcome → List Exchange → B → Type 0) → (ℕ → TreeToRead) → ℕ → B → List (List LevelFindings) → B → Type 0
AreRead batches trees i l [] m = m ≡ l
AreRead {B} batches trees i l (levels ∷ found) m = (k : B) × ((rows : List Row) × IsRead batches (trees i) l rows levels k) × AreRead batches trees (i + 1) k found m

-- Of these trees the first ones were read, and of the next one the first records were asked for.
abbrev pub HasAskedTrees : {B : Type 0} → (B → List (List ℕ) → BatchOutcome → List Exchange → B → Type 0) → (B → List (List ℕ) → B → Type 0) → (ℕ → TreeToRead) → B → B → Type 0
HasAskedTrees {B} batches asks trees l m = (found : List (List LevelFindings)) × (k : B) × AreRead batches trees 0 l found k × HasAsked batches asks (trees (length found)) k m
