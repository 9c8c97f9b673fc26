-- A plan has a list for each level of the path. The list holds the indices, in the stash, of the blocks that go there.
use Rattle.std.specs.Prelude.{◌≡◌, ℕ, ◌<◌, ◌≤◌, Bool, true, false, cond, List, [], ◌∷◌, length, Option, Some, None, slice_index_or, slice_set, Contains, ◌↔◌, count_by, ◌==◌}
use Rattle.std.specs.List.{HoldsAt, flat_map}
use Rattle.oram_geometry.specs.Path.{MeetsAt}

-- the level of the block at index j, if it has one
abbrev pub level_at : List (Option ℕ) → ℕ → Option ℕ
level_at levels j = slice_index_or levels j None

-- the list of a level, of lists by level
abbrev pub list_at : {X : Type 0} → List (List X) → ℕ → List X
list_at lists level = slice_index_or lists level []

-- the elements of all lists, from the root down
abbrev pub joined : {X : Type 0} → List (List X) → List X
joined lists = flat_map (λ list. list) lists

-- whether it is this level
abbrev pub is_level : ℕ → Option ℕ → Bool
is_level l None = false
is_level l (Some k) = k == l

-- there is no level, or it is nearer the root than l
abbrev pub IsAbove : Option ℕ → ℕ → Type 0
IsAbove None l = Unit {0}
IsAbove (Some k) l = k < l

-- the path of the leaf at index j meets that of leaf x at level l
abbrev pub Reaches : ℕ → ℕ → List ℕ → ℕ → ℕ → Type 0
Reaches deep x leaves j l = HoldsAt (λ own. MeetsAt deep x own l) leaves j

-- a plan for n blocks in which the levels from `from` on have their blocks; R says which levels a block can go to
pub record IsPlan (R : ℕ → ℕ → Type 0) (n deep slots from : ℕ) (levels : List (Option ℕ)) : Type 0 where
  pub same_length : length levels ≡ n
  pub from_on : (j l : ℕ) → level_at levels j ≡ Some l → from ≤ l
  pub in_tree : (j l : ℕ) → level_at levels j ≡ Some l → l ≤ deep
  pub on_path : (j l : ℕ) → level_at levels j ≡ Some l → R j l
  pub within : (l : ℕ) → count_by (is_level l) levels ≤ slots
  pub full : (j l : ℕ) → j < n → from ≤ l → l ≤ deep → R j l → IsAbove (level_at levels j) l → count_by (is_level l) levels ≡ slots
  pub least : (j l : ℕ) → j < n → from ≤ l → l ≤ deep → R j l → IsAbove (level_at levels j) l → (k : ℕ) → level_at levels k ≡ Some l → k < j

-- the elements whose level passes the test
abbrev pub picked : {X : Type 0} → (Option ℕ → Bool) → List (Option ℕ) → List X → List X
picked p [] xs = []
picked p (level ∷ levels) [] = []
picked p (level ∷ levels) (x ∷ xs) = cond (p level) (x ∷ picked p levels xs) (picked p levels xs)

-- whether the block stays in the stash
abbrev pub stays : Option ℕ → Bool
stays None = true
stays (Some k) = false

-- the block at index j waits: it has no level yet, and it can go to level `from`
pub record WaitsAt (shared : ℕ → ℕ) (n from : ℕ) (levels : List (Option ℕ)) (j : ℕ) : Type 0 where
  pub in_range : j < n
  pub no_level : level_at levels j ≡ None
  pub reaches : from ≤ shared j

-- the list holds exactly the indices of the blocks that wait
pub record Waits (shared : ℕ → ℕ) (n from : ℕ) (levels : List (Option ℕ)) (waiting : List ℕ) : Type 0 where
  pub each : (j : ℕ) → Contains waiting j → WaitsAt shared n from levels j
  pub all : (j : ℕ) → j < n → level_at levels j ≡ None → from ≤ shared j → Contains waiting j

-- the levels, with level l for the indices in the list
abbrev pub given : ℕ → List ℕ → List (Option ℕ) → List (Option ℕ)
given l [] levels = levels
given l (j ∷ js) levels = given l js (slice_set levels j (Some l))

-- l is the greatest level at which the path of the leaf at index j meets that of leaf x
pub record IsShared (deep x : ℕ) (leaves : List ℕ) (j l : ℕ) : Type 0 where
  pub in_tree : l ≤ deep
  pub reaches : (k : ℕ) → k ≤ deep → (Reaches deep x leaves j k) ↔ (k ≤ l)
