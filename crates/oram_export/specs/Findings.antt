-- How many records of a tree are what was stored, level by level.
use Rattle.std.specs.Prelude.{◌≡◌, ℕ, ◌+◌, ◌-◌, ◌*◌, ◌^◌, ◌<◌, ◌≤◌, Bool, true, false, not, List, drop, take, map, count_by, slice_set, slice_index_or, Option, Some, None}
use Rattle.std.specs.List.{range_with_len}
use Rattle.oram_scan.specs.Laws.{Row}
use Rattle.oram_scan.specs.declared.tree_scan.Finding.{Finding}
use Rattle.oram_scan.specs.declared.tree_scan.Finding.TheVariants.{Sound, Changed, Unchecked}
use Rattle.oram_export.specs.declared.findings.LevelFindings.{LevelFindings}

abbrev pub none_found : LevelFindings
none_found = record { sound = 0; changed = 0; missing = 0; unchecked = 0 }

-- the records of a level that aren't found sound
abbrev pub lost_of : LevelFindings → ℕ
lost_of f = f.changed + f.missing + f.unchecked

-- the nodes of a level about which something was found
abbrev pub count_of : LevelFindings → ℕ
count_of f = f.sound + lost_of f

-- each record of the level is sound
pub record IsLevelWhole (f : LevelFindings) : Type 0 where
  pub changed : f.changed ≡ 0
  pub missing : f.missing ≡ 0
  pub unchecked : f.unchecked ≡ 0

-- what a scan says of a row's record, if the row has one
abbrev pub finding_of : Row → Option Finding
finding_of None = None
finding_of (Some (r, finding)) = Some finding

-- the findings with one more node
abbrev pub one_more : LevelFindings → Option Finding → LevelFindings
one_more f None = record f { missing = f.missing + 1 }
one_more f (Some Sound) = record f { sound = f.sound + 1 }
one_more f (Some Changed) = record f { changed = f.changed + 1 }
one_more f (Some Unchecked) = record f { unchecked = f.unchecked + 1 }

-- the node is at this level: the root at level 0, its children at level 1
abbrev pub IsAtLevel : ℕ → ℕ → Type 0
IsAtLevel node level = (2 ^ level ≤ node + 1) × (node + 1 < 2 * 2 ^ level)

-- the findings of a tree with one more node
pub record IsCounted (old : List LevelFindings) (node : ℕ) (finding : Option Finding) (new : List LevelFindings) : Type 0 where
  pub level : ℕ
  pub at_level : IsAtLevel node level
  pub counted : new ≡ slice_set old level (one_more (slice_index_or old level none_found) finding)

abbrev pub is_sound : Row → Bool
is_sound (Some (r, Sound)) = true
is_sound row = false

abbrev pub is_changed : Row → Bool
is_changed (Some (r, Changed)) = true
is_changed row = false

abbrev pub is_missing : Row → Bool
is_missing None = true
is_missing row = false

abbrev pub is_unchecked : Row → Bool
is_unchecked (Some (r, Unchecked)) = true
is_unchecked row = false

-- the row isn't a record that was found sound
abbrev pub is_lost : Row → Bool
is_lost row = not (is_sound row)

-- how many of these rows are what
abbrev pub tally : List Row → LevelFindings
tally rows = record {
  sound = count_by is_sound rows;
  changed = count_by is_changed rows;
  missing = count_by is_missing rows;
  unchecked = count_by is_unchecked rows;
}

-- of the rows of a tree's nodes, those of this level
abbrev pub level_rows : ℕ → List Row → List Row
level_rows level rows = take (2 ^ level) (drop (2 ^ level - 1) rows)

-- the findings of a tree of this depth, by level
abbrev pub levels_of : ℕ → List Row → List LevelFindings
levels_of depth rows = map (λ level. tally (level_rows level rows)) (range_with_len 0 (depth + 1))
