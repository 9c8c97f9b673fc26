-- What a client has of a device's records beside its host, and how it completes what the host answers.
use Rattle.std.specs.Prelude.{◌≡◌, ℕ, ◌+◌, ◌-◌, ◌*◌, ◌<◌, ◌≤◌, ◌==◌, ◌&&◌, nat_le, nat_lt, Bool, if◌then◌else◌, List, [], ◌∷◌, drop, length, slice_index, MatchBool, Option, Some, None, unwrap_or}
use Rattle.std.specs.Option.{option_or}
use Rattle.oram_geometry.specs.declared.Sizes.{Sizes}
use Rattle.oram_geometry.specs.Path.{node_on}
use Rattle.oram_geometry.specs.Sizes.{depth_of}
use Rattle.oram_host.specs.Path.{record_at}
use Rattle.oram_levels.specs.Messages.{FetchLevels, LevelsMessage, StoreLevels}
use Rattle.oram_wire.specs.HostMessages.{payload_answer}
use Rattle.oram_wire.specs.declared.host_messages.TheConstants.{GOOD}
use Rattle.oram_rounds.specs.Rounds.{refused_with}
use Rattle.oram_near.specs.Near.{Near, near_record}
use Rattle.oram_near.specs.PathRequests.{first_far}

-- what a client has of a device's records
pub record ClientRecords : Type 0 where
  pub device : Sizes
  pub near : Near
  pub unsure : List LevelsMessage  -- the STOREs of levels that the host may or may not have carried out, the oldest first
  pub empty : ℕ → ℕ → ℕ → List ℕ  -- the records of the formatting, by tree, leaf and level

-- at a level of a leaf's path of a tree, with records of this length
module _ (d : Sizes) (record_len tree leaf level : ℕ) where
  -- the record that a STORE of levels has for this node, if it has one
  abbrev pub stored_by : LevelsMessage → Option (List ℕ)
  stored_by (FetchLevels t first last l) = None
  stored_by (StoreLevels t first l records) =
      if (t == tree) && nat_le first level && (node_on (depth_of d tree) l level == node_on (depth_of d tree) leaf level)
      then Some (record_at record_len records (level - first)) else None

  -- what STOREs of levels leave there, one after the other, where `old` was
  abbrev pub left_by : List LevelsMessage → Option (List ℕ) → Option (List ℕ)
  left_by [] old = old
  left_by (message ∷ messages) old = left_by messages (option_or (stored_by message) old)

-- The record at a level of a leaf's path, if `far` is what the host has there: the near record, where there is one. Otherwise it is what
-- the host has once it has carried out the unsure STOREs, and the formatting's record if that is none.
abbrev pub whole_record : ClientRecords → ℕ → ℕ → ℕ → Option (List ℕ) → List ℕ
whole_record c tree leaf level far =
    if nat_lt level (first_far c.near.levels tree) then near_record c.near (node_on (depth_of c.device tree) leaf level)
    else unwrap_or (left_by c.device c.near.record_len tree leaf level c.unsure far) (c.empty tree leaf level)

-- The records of so many levels, from level `first` on, are replaced by the first ones of `records`, and no others are.
pub record PutsLevels (record_len first count : ℕ) (records old new : List ℕ) : Type 0 where
  pub long : length new ≡ length old
  pub put : (level : ℕ) → first ≤ level → level < first + count → record_at record_len new level ≡ record_at record_len records (level - first)
  pub above : (level : ℕ) → level < first → record_at record_len new level ≡ record_at record_len old level
  pub below : (level : ℕ) → first + count ≤ level → record_at record_len new level ≡ record_at record_len old level

-- The records that STOREs of levels have for the nodes of a path are laid over the path, the oldest STORE first.
pub record LaysOver (d : Sizes) (record_len tree leaf : ℕ) (messages : List LevelsMessage) (old new : List ℕ) : Type 0 where
  pub long : length new ≡ length old
  pub each : (level : ℕ) → level ≤ depth_of d tree
      → Some (record_at record_len new level) ≡ left_by d record_len tree leaf level messages (Some (record_at record_len old level))

-- whether an answer has records of this length, and at most so many: their number, and the records one behind the other
abbrev pub gives_records : ℕ → ℕ → List ℕ → Bool
gives_records record_len most answer =
    (slice_index answer 0 == GOOD) && nat_le 2 (length answer) && (length answer == 2 + slice_index answer 1 * record_len) && nat_le (slice_index answer 1) most

-- the record that `count` records from level `first` on have for a level, one behind the other
abbrev pub far_level : ℕ → ℕ → ℕ → List ℕ → ℕ → Option (List ℕ)
far_level record_len first count records level =
    if nat_le first level && nat_lt level (first + count) then Some (record_at record_len records (level - first)) else None

-- the answer to the FETCH of the far levels of a leaf's path
module _ (c : ClientRecords) (tree leaf : ℕ) where
  abbrev pub first : ℕ
  first = first_far c.near.levels tree

  -- The records of the path without those of the unsure STOREs, if the host has these records of the first far levels, and none of the
  -- others.
  pub record IsUnlaidPath (count : ℕ) (records path : List ℕ) : Type 0 where
    pub long : length path ≡ (depth_of c.device tree + 1) * c.near.record_len
    pub near : (level : ℕ) → level < first → record_at c.near.record_len path level ≡ near_record c.near (node_on (depth_of c.device tree) leaf level)
    pub far : (level : ℕ) → first ≤ level → level ≤ depth_of c.device tree
        → record_at c.near.record_len path level ≡ unwrap_or (far_level c.near.record_len first count records level) (c.empty tree leaf level)

  -- The records of the whole path, root first, if the host has these records of the first far levels, and none of the others.
  pub record IsWholePath (count : ℕ) (records path : List ℕ) : Type 0 where
    pub long : length path ≡ (depth_of c.device tree + 1) * c.near.record_len
    pub each : (level : ℕ) → level ≤ depth_of c.device tree
        → record_at c.near.record_len path level ≡ whole_record c tree leaf level (far_level c.near.record_len first count records level)

  -- The answer to the FETCH of the whole path. Where the host's answer has no such records, that is a refusal, or no bytes.
  abbrev pub IsCompleted : List ℕ → List ℕ → Type 0
  IsCompleted answer given = MatchBool (gives_records c.near.record_len (depth_of c.device tree + 1 - first) answer)
      ((path : List ℕ) × IsWholePath (slice_index answer 1) (drop 2 answer) path × (given ≡ payload_answer path)) (given ≡ refused_with answer)
