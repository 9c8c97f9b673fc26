-- The near records: those of the top levels of tree 0, which a client keeps itself.
use Rattle.std.specs.Prelude.{◌≡◌, ◌≢◌, ◌+◌, ◌*◌, ◌<◌, ◌≤◌, ℕ, Bool, true, false, List, [], ◌++◌, drop, length, map, ⊤}
use Rattle.std.specs.List.{Contains, flat_map, range_with_len}
use Rattle.oram_geometry.specs.Path.{node_on}
use Rattle.oram_host.specs.Path.{record_at}
use Rattle.oram_near.specs.NearLevels.{near_len}
use Rattle.oram_near.specs.declared.near_changes.NearChanges.{NearChanges}
use Rattle.oram_near.specs.declared.near_changes.NearChanges.TheVariants.{Any, Nodes}

-- which near records may have changed since they were last kept: any, or else those of these nodes
pub record Noted : Type 0 where
  pub any : Bool
  pub nodes : List ℕ

-- The near records. The bytes have them one behind the other in the order of their nodes, and behind them the rest: what else the client
-- keeps beside them, which never changes.
pub record Near : Type 0 where
  pub levels : ℕ
  pub record_len : ℕ
  pub bytes : List ℕ
  pub noted : Noted

-- the rest behind the near records
abbrev pub rest_of : Near → List ℕ
rest_of near = drop (near_len near.levels near.record_len) near.bytes

-- the record of a node
abbrev pub near_record : Near → ℕ → List ℕ
near_record near node = record_at near.record_len near.bytes node

-- the records of a path's top levels, root first
abbrev pub records_on : ℕ → ℕ → ℕ → ℕ → List ℕ → List ℕ
records_on depth leaf levels record_len records = flat_map (λ level. record_at record_len records (node_on depth leaf level)) (range_with_len 0 levels)

abbrev pub near_path : ℕ → ℕ → Near → List ℕ
near_path depth leaf near = records_on depth leaf near.levels near.record_len near.bytes

-- one of the records that lie one behind the other is replaced, and no other; nothing behind it changes
pub record PutsRecord (record_len node : ℕ) (new_record old new : List ℕ) : Type 0 where
  pub long : length new ≡ length old
  pub put : record_at record_len new node ≡ new_record
  pub others : (other : ℕ) → other ≢ node → record_at record_len new other ≡ record_at record_len old other
  pub behind : (n : ℕ) → (node + 1) * record_len ≤ n → drop n new ≡ drop n old

-- The records of a path's top levels are replaced by those of `path`, which are given root first, and no others are.
pub record PutsPath (depth leaf levels record_len : ℕ) (path old new : List ℕ) : Type 0 where
  pub long : length new ≡ length old
  pub put : (level : ℕ) → level < levels → record_at record_len new (node_on depth leaf level) ≡ record_at record_len path level
  pub others : (node : ℕ) → ((level : ℕ) → level < levels → node ≢ node_on depth leaf level) → record_at record_len new node ≡ record_at record_len old node

-- the nodes of a path's top levels, root first
abbrev pub path_nodes : ℕ → ℕ → ℕ → List ℕ
path_nodes depth leaf levels = map (node_on depth leaf) (range_with_len 0 levels)

-- a note becomes one that has these nodes, too
abbrev pub NotesNodes : List ℕ → Noted → Noted → Type 0
NotesNodes nodes old new = new.any ≡ false → (old.any ≡ false) × (new.nodes ≡ old.nodes ++ nodes)

-- It doesn't say that any record may have changed unless it did before, or has no room for so many nodes: 2,048 have room.
abbrev pub HasRoomFor : ℕ → Noted → Noted → Type 0
HasRoomFor count old new = old.any ≡ false → length old.nodes + count ≤ 2048 → new.any ≡ false

-- a STORE of a whole path replaces the near records of the path, and leaves the rest as it was
pub record StoresNear (depth leaf : ℕ) (path : List ℕ) (old new : Near) : Type 0 where
  pub levels : new.levels ≡ old.levels
  pub record_len : new.record_len ≡ old.record_len
  pub records : PutsPath depth leaf old.levels old.record_len path old.bytes new.bytes
  pub rest : rest_of new ≡ rest_of old
  pub noted : NotesNodes (path_nodes depth leaf old.levels) old.noted new.noted
  pub room : HasRoomFor old.levels old.noted new.noted

-- no near record has changed
abbrev pub nothing_noted : Noted
nothing_noted = record { any = false; nodes = [] }

-- Two lists of bytes are as long, and have the same records except perhaps those of these nodes. Where bytes lie behind the records, each
-- piece of them that is as long as a record counts as one.
pub record DifferAtMost (record_len : ℕ) (nodes old new : List ℕ) : Type 0 where
  pub long : length new ≡ length old
  pub others : (node : ℕ) → (Contains nodes node → ⊥) → record_at record_len new node ≡ record_at record_len old node

-- the bytes were once `old`, and the note has the node of each record that differs now; the rest is the same
abbrev pub AreNoted : List ℕ → Near → Type 0
AreNoted old near = near.noted.any ≡ false → DifferAtMost near.record_len near.noted.nodes old near.bytes

-- and this tells of each node whose record differs
abbrev pub AreTold : NearChanges → List ℕ → Near → Type 0
AreTold Any old near = ⊤
AreTold (Nodes nodes) old near = DifferAtMost near.record_len nodes.now old near.bytes

-- it tells of just what is noted
abbrev pub TellsOf : Noted → NearChanges → Type 0
TellsOf noted Any = noted.any ≡ true
TellsOf noted (Nodes nodes) = (noted.any ≡ false) × (nodes.now ≡ noted.nodes)
