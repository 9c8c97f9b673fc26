-- What a settings file says, and which texts say it.
use Rattle.std.specs.Prelude.{◌≡◌, ◌∷◌, ℕ, List, [], codes, string_bytes, Option, Some}
use Rattle.toml.specs.Data.{Members}
use Rattle.toml.specs.Parse.{parse_document}
use Rattle.oram_cli.specs.Tables.{HasHex, HasNumber, HasOnly, HasSealer, HasText, IsAddress, IsCount, IsName}
use Rattle.oramd.specs.declared.command_line.Role.{Role}
use Rattle.oramd.specs.declared.command_line.Role.TheVariants as role
use Rattle.oramd.specs.declared.settings_file.Settings.{Settings}
use Rattle.oramd.specs.declared.settings_file.Settings.TheVariants as settings

-- the settings of each role, without where the texts lie in memory
pub record HostSettings : Type 0 where
  pub listen : List ℕ
  pub connections : ℕ
  pub image : List ℕ

pub record FormatSettings : Type 0 where
  pub host : List ℕ
  pub state : List ℕ
  pub key : Option (List ℕ)  -- the sealer's, where it seals by ChaCha20
  pub blocks : ℕ
  pub block_bytes : ℕ
  pub slots : ℕ
  pub top : ℕ
  pub lifetime : ℕ

pub record ProxySettings : Type 0 where
  pub listen : List ℕ
  pub connections : ℕ
  pub host : List ℕ
  pub state : List ℕ
  pub key : Option (List ℕ)
  pub tape_key : List ℕ

pub data SettingsValue : Type 0 where
  host : HostSettings → SettingsValue
  format : FormatSettings → SettingsValue
  proxy : ProxySettings → SettingsValue

-- settings, as the clauses of contracts see them
abbrev pub settings_value : Settings → SettingsValue
settings_value (settings.Host listen connections image) = host (record { listen = string_bytes listen; connections = connections; image = string_bytes image })
settings_value (settings.Format server state key blocks block_bytes slots top lifetime) = format (record {
  host = string_bytes server;
  state = string_bytes state;
  key = key;
  blocks = blocks;
  block_bytes = block_bytes;
  slots = slots;
  top = top;
  lifetime = lifetime;
})
settings_value (settings.Proxy listen connections server state key tape_key) = proxy (record {
  listen = string_bytes listen;
  connections = connections;
  host = string_bytes server;
  state = string_bytes state;
  key = key;
  tape_key = tape_key;
})

-- ---- the settings of each role

pub record IsHost (table : Members) (s : HostSettings) : Type 0 where
  pub only : HasOnly (codes "listen" ∷ codes "connections" ∷ codes "image" ∷ []) table
  pub listen : HasText table (codes "listen") s.listen × IsAddress s.listen
  pub connections : HasNumber table (codes "connections") s.connections × IsCount s.connections
  pub image : HasText table (codes "image") s.image × IsName s.image

pub record IsFormat (table : Members) (s : FormatSettings) : Type 0 where
  pub only : HasOnly (codes "host" ∷ codes "state" ∷ codes "seal" ∷ codes "seal_key" ∷ codes "blocks" ∷ codes "block_bytes" ∷ codes "slots" ∷ codes "top" ∷ codes "lifetime" ∷ []) table
  pub host : HasText table (codes "host") s.host × IsAddress s.host
  pub state : HasText table (codes "state") s.state × IsName s.state
  pub sealer : HasSealer table s.key
  pub blocks : HasNumber table (codes "blocks") s.blocks
  pub block_bytes : HasNumber table (codes "block_bytes") s.block_bytes
  pub slots : HasNumber table (codes "slots") s.slots
  pub top : HasNumber table (codes "top") s.top
  pub lifetime : HasNumber table (codes "lifetime") s.lifetime

pub record IsProxy (table : Members) (s : ProxySettings) : Type 0 where
  pub only : HasOnly (codes "listen" ∷ codes "connections" ∷ codes "host" ∷ codes "state" ∷ codes "seal" ∷ codes "seal_key" ∷ codes "tape_key" ∷ []) table
  pub listen : HasText table (codes "listen") s.listen × IsAddress s.listen
  pub connections : HasNumber table (codes "connections") s.connections × IsCount s.connections
  pub host : HasText table (codes "host") s.host × IsAddress s.host
  pub state : HasText table (codes "state") s.state × IsName s.state
  pub sealer : HasSealer table s.key
  pub tape_key : HasHex table (codes "tape_key") s.tape_key

-- The table has these settings, which are the role's.
abbrev pub IsSettings : Role → Members → SettingsValue → Type 0
IsSettings role.Host table (host s) = IsHost table s
IsSettings role.Format table (format s) = IsFormat table s
IsSettings role.Proxy table (proxy s) = IsProxy table s
IsSettings role table s = ⊥

-- The text is a TOML document, and its table has these settings.
abbrev pub IsDocumentOf : Role → List ℕ → SettingsValue → Type 0
IsDocumentOf role text s = (table : Members) × (parse_document text ≡ Some table) × IsSettings role table s
