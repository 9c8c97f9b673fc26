-- The settings of a disk, and which texts are a file with these settings. Size, key and host are required; each other
-- setting has a default.
use Rattle.std.specs.Prelude.{◌≡◌, ◌∷◌, ◌++◌, ◌⊎◌, ◌*◌, ◌/◌, ◌^◌, ℕ, Bool, true, if◌then◌else◌, min, nat_le, List, [], codes, decimal, string_bytes, Some, Ok, MatchOption}
use Rattle.std.specs.List.{concat}
use Rattle.hex.specs.Hex.{encode_lower}
use Rattle.toml.specs.Data.{Members, boolean, get_member}
use Rattle.toml.specs.Parse.{parse_document}
use Rattle.oram_geometry.specs.Sizes.{device_of}
use Rattle.oram_geometry.specs.declared.Sizes.{Sizes}
use Rattle.oram_cli.specs.Tables.{HasHex, HasNumber, HasOnly, HasText, IsAddress, IsCount, IsName}
use Rattle.oram_settings.specs.declared.disk_file.Sealing.{Sealing}
use Rattle.oram_settings.specs.declared.disk_file.Sealing.TheVariants.{Plain, ChaCha}
use Rattle.oram_settings.specs.declared.disk_file.DiskSettings.{DiskSettings}

-- the settings by value, without the places of texts in memory
pub record DiskValue : Type 0 where
  pub size : ℕ
  pub block : ℕ
  pub slots : ℕ
  pub leaf_load : ℕ  -- how many blocks there is a leaf for
  pub table : ℕ  -- the most entries that the client's own table may have, which a device calls `top`
  pub sealer : Sealing
  pub near : ℕ  -- how many bytes the near records may have, which the client keeps itself
  pub key : List ℕ
  pub host : List ℕ
  pub listen : List ℕ
  pub state : List ℕ
  pub sync : Bool
  pub reconnect_timeout : ℕ

abbrev pub settings_value : DiskSettings → DiskValue
settings_value s = record {
  size = s.size;
  block = s.block;
  slots = s.slots;
  leaf_load = s.leaf_load;
  table = s.table;
  sealer = s.sealer;
  near = s.near;
  key = s.key;
  host = string_bytes s.host;
  listen = string_bytes s.listen;
  state = string_bytes s.state;
  sync = s.sync;
  reconnect_timeout = s.reconnect_timeout;
}

abbrev pub HasFlag : Members → List ℕ → Bool → Type 0
HasFlag table key flag = get_member key table ≡ Some (boolean flag)

abbrev pub sealing_name : Sealing → List ℕ
sealing_name Plain = codes "plain"
sealing_name ChaCha = codes "chacha"

abbrev pub HasSealing : Members → List ℕ → Sealing → Type 0
HasSealing table key sealing = HasText table key (sealing_name sealing)

-- a Unix socket, which is a file
abbrev pub IsSocket : List ℕ → Type 0
IsSocket text = (path : List ℕ) × IsName path × (text ≡ codes "unix:" ++ path)

-- where a program listens, or where another one is reached
pub record IsPlace (text : List ℕ) : Type 0 where
  pub is_either : IsAddress text ⊎ IsSocket text

-- P holds of the value if the table has the key; if not, the value is the default
abbrev pub OrDefault : {X : Type 0} → Members → List ℕ → X → (X → Type 0) → X → Type 0
OrDefault table key default P x = MatchOption (get_member key table) (x ≡ default) (λ _. P x)

-- the default for the leaf load: 5, and 1 where a bucket has fewer than four slots
abbrev pub default_leaf_load : ℕ → ℕ
default_leaf_load slots = if nat_le 4 slots then 5 else 1

-- the default for the table: an entry for each block
abbrev pub default_table : ℕ → ℕ → ℕ
default_table size block = size / block

-- the default for the near records: 1/32 of the disk's size, and at most 64 MiB
abbrev pub default_near : ℕ → ℕ
default_near size = min (size / 32) (2 ^ 26)

-- a document's table has these settings; `members` are its keys with their values
pub record IsDisk (members : Members) (s : DiskValue) : Type 0 where
  pub only : HasOnly (codes "size" ∷ codes "block" ∷ codes "slots" ∷ codes "leaf_load" ∷ codes "table" ∷ codes "sealer" ∷ codes "near" ∷ codes "key" ∷ codes "host" ∷ codes "listen" ∷ codes "state" ∷ codes "sync" ∷ codes "reconnect_timeout" ∷ []) members
  pub size : HasNumber members (codes "size") s.size
  pub block : OrDefault members (codes "block") 4096 (HasNumber members (codes "block")) s.block
  pub slots : OrDefault members (codes "slots") 4 (HasNumber members (codes "slots")) s.slots
  pub leaf_load : OrDefault members (codes "leaf_load") (default_leaf_load s.slots) (HasNumber members (codes "leaf_load")) s.leaf_load
  pub table : OrDefault members (codes "table") (default_table s.size s.block) (HasNumber members (codes "table")) s.table
  pub sealer : OrDefault members (codes "sealer") ChaCha (HasSealing members (codes "sealer")) s.sealer
  pub near : OrDefault members (codes "near") (default_near s.size) (HasNumber members (codes "near")) s.near
  pub key : HasHex members (codes "key") s.key
  pub host : HasText members (codes "host") s.host × IsPlace s.host
  pub listen : OrDefault members (codes "listen") (codes "unix:disk.sock") (λ text. HasText members (codes "listen") text × IsPlace text) s.listen
  pub state : OrDefault members (codes "state") (codes "disk.state") (λ text. HasText members (codes "state") text × IsName text) s.state
  pub sync : OrDefault members (codes "sync") true (HasFlag members (codes "sync")) s.sync
  pub reconnect_timeout : OrDefault members (codes "reconnect_timeout") 600 (λ n. HasNumber members (codes "reconnect_timeout") n × IsCount n) s.reconnect_timeout

-- the text is a TOML document whose table has these settings
abbrev pub IsDocumentOf : List ℕ → DiskValue → Type 0
IsDocumentOf text s = (table : Members) × (parse_document text ≡ Some table) × IsDisk table s

-- the device with this size in bytes, a whole number of blocks
abbrev pub IsDeviceOf : ℕ → ℕ → ℕ → ℕ → ℕ → Sizes → Type 0
IsDeviceOf size block slots leaf_load table device = (blocks : ℕ) × (blocks * block ≡ size)
    × (device_of (record { blocks = blocks; block_bytes = block; slots = slots; top = table; lifetime = 2 ^ 40; leaf_load = leaf_load }) ≡ Ok device)

-- the text of the settings file of a new disk with this size in bytes and this key; the settings that have defaults are in it
-- as comments
abbrev pub first_text : ℕ → List ℕ → List ℕ
first_text size key =
    concat (codes "# The disk's size in bytes. It is fixed once the disk is formatted.\nsize = "
    ∷ decimal size
    ∷ codes "\n\n# Whoever has this key can read the disk. Without it nobody can.\nkey = \""
    ∷ encode_lower key
    ∷ codes "\"\n\n# Where the host is reached: your end of the tunnel, a socket in this folder, for you alone; or \"127.0.0.1:PORT\", for all users of\n# this machine.\nhost = \"unix:buckets.sock\"\n\n# Each line below shows what holds without it. To set another value, take away the \"# \" that the line begins with.\n\n# These six are fixed once the disk is formatted.\n# block = 4096               # the bytes of a block\n# slots = 4                  # how many blocks a bucket has room for\n# leaf_load = 5              # for how many blocks there is a leaf, which takes two buckets at the host; with fewer than 4 slots it is 1\n# table = "
    ∷ decimal (default_table size 4096)
    ∷ codes "             # the most entries of the table that the client keeps; with one for each block the disk has one tree\n# sealer = \"chacha\"          # how buckets are sealed; \"plain\" hides nothing, and is only for trying things out\n# near = "
    ∷ decimal (default_near size)
    ∷ codes "            # the most bytes of the tree's top levels that the client itself keeps\n\n# These may be changed at any time.\n# listen = \"unix:disk.sock\"  # where the disk is served: a socket in this folder, for you alone; or \"127.0.0.1:PORT\", for all users of this machine\n# state = \"disk.state\"       # the file of the disk's state, in this folder\n# sync = true                # each state is synced before it counts\n# reconnect_timeout = 600    # for how many seconds the client waits for a host that doesn't answer\n" ∷ [])
