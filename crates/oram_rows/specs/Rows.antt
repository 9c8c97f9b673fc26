-- How a client completes the rows of a host's answer: it has the near records itself, and makes those records that the host doesn't have.
use Rattle.std.specs.Prelude.{◌≡◌, ◌⊎◌, ℕ, ◌+◌, ◌*◌, ◌^◌, ◌<◌, ◌≤◌, List, [], ◌∷◌, length, map, Option, Some, IfSome}
use Rattle.std.specs.List.{AllByRecursion}
use Rattle.oram_geometry.specs.declared.Sizes.{Sizes}
use Rattle.oram_geometry.specs.Path.{node_on}
use Rattle.oram_geometry.specs.Sizes.{depth_of, trees_of}
use Rattle.oram_wire.specs.HostMessages.{payload_answer}
use Rattle.oram_wire.specs.declared.TheConstants.{LONGEST_BODY}
use Rattle.oram_tree.specs.Content.{node_count}
use Rattle.oram_records.specs.Messages.{records_body, rows_text}
use Rattle.oram_records.specs.declared.request.RecordsRequest.{RecordsRequest}
use Rattle.oram_near.specs.Completion.{ClientRecords, whole_record}
use Rattle.oram_near.specs.EmptyRecords.{WithRest}
use Rattle.oram_near.specs.Near.{Near}

-- what a client has of a device's records beside its host: the near records, and what makes those of the formatting
pub record KnownValue (E : Type 0) : Type 0 where
  pub empty : WithRest E
  pub device : Sizes
  pub near : Near

-- the same, for a host that has carried out all STOREs
abbrev pub client_of : {E : Type 0} → (WithRest E → ℕ → ℕ → ℕ → List ℕ) → KnownValue E → ClientRecords
client_of record_at k = record { device = k.device; near = k.near; unsure = []; empty = record_at k.empty }

-- the request names nodes of one of the device's trees, and an answer with a record for each of them fits into a frame
pub record IsOfDevice (d : Sizes) (record_len : ℕ) (r : RecordsRequest) : Type 0 where
  pub tree_in : r.tree < trees_of d
  pub nodes_in : r.first + r.count ≤ node_count (depth_of d r.tree)
  pub fits : 1 + r.count * (record_len + 1) ≤ LONGEST_BODY

-- a row for each of so many nodes, with a record of this length or none
pub record AreRows (record_len count : ℕ) (rows : List (Option (List ℕ))) : Type 0 where
  pub count_is : length rows ≡ count
  pub long : AllByRecursion (λ row. IfSome row (λ r. length r ≡ record_len)) rows

-- the answer has a row for each node of the request
pub record HasRows (record_len : ℕ) (r : RecordsRequest) (answer : List ℕ) : Type 0 where
  pub rows : List (Option (List ℕ))
  pub are : AreRows record_len r.count rows
  pub spelled : answer ≡ payload_answer (rows_text rows)

-- the record that the formatting made for a node
abbrev pub IsMadeRow : ClientRecords → ℕ → ℕ → List ℕ → Type 0
IsMadeRow c tree node r = (leaf level : ℕ) → leaf < 2 ^ depth_of c.device tree → level ≤ depth_of c.device tree → node_on (depth_of c.device tree) leaf level ≡ node → r ≡ c.empty tree leaf level

-- the record of a node, if the host has this row for it
abbrev pub IsWholeRow : ClientRecords → ℕ → ℕ → Option (List ℕ) → List ℕ → Type 0
IsWholeRow c tree node row r = (leaf level : ℕ) → leaf < 2 ^ depth_of c.device tree → level ≤ depth_of c.device tree → node_on (depth_of c.device tree) leaf level ≡ node
    → r ≡ whole_record c tree leaf level row

-- the records of nodes in a row, from this one on, if the host has these rows for them
abbrev pub AreWholeRows : ClientRecords → ℕ → ℕ → List (Option (List ℕ)) → List (List ℕ) → Type 0
AreWholeRows c tree node [] records = records ≡ []
AreWholeRows c tree node (row ∷ rows) [] = ⊥
AreWholeRows c tree node (row ∷ rows) (r ∷ records) = IsWholeRow c tree node row r × AreWholeRows c tree (node + 1) rows records

-- the answer of a host that has these records
abbrev pub records_answer : List (List ℕ) → List ℕ
records_answer records = payload_answer (rows_text (map Some records))

-- the whole answer to a request, in place of one that has these rows
pub record IsWholeAnswer (c : ClientRecords) (r : RecordsRequest) (rows : List (Option (List ℕ))) (given : List ℕ) : Type 0 where
  pub records : List (List ℕ)
  pub whole : AreWholeRows c r.tree r.first rows records
  pub given_is : given ≡ records_answer records

-- the body is a request about the device, and the answer has its rows
pub record IsRowsAnswer (c : ClientRecords) (body answer : List ℕ) : Type 0 where
  pub request : RecordsRequest
  pub asked : body ≡ records_body request
  pub of_device : IsOfDevice c.device c.near.record_len request
  pub has : HasRows c.near.record_len request answer

-- The answer to a body once it is completed. One that hasn't the rows of a request stays as it is.
abbrev pub IsCompleted : ClientRecords → List ℕ → List ℕ → List ℕ → Type 0
IsCompleted c body answer given =
    ((is : IsRowsAnswer c body answer) × IsWholeAnswer c is.request is.has.rows given) ⊎ ((IsRowsAnswer c body answer → ⊥) × (given ≡ answer))

-- the answers to some bodies
abbrev pub AreCompleted : ClientRecords → List (List ℕ) → List (List ℕ) → List (List ℕ) → Type 0
AreCompleted c [] answers given = (answers ≡ []) × (given ≡ [])
AreCompleted c (body ∷ bodies) [] given = ⊥
AreCompleted c (body ∷ bodies) (answer ∷ answers) [] = ⊥
AreCompleted c (body ∷ bodies) (answer ∷ answers) (one ∷ given) = IsCompleted c body answer one × AreCompleted c bodies answers given
