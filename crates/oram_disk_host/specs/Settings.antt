-- The settings of a host, and which texts are a file with these settings.
use Rattle.std.specs.Prelude.{◌≡◌, ◌∷◌, ℕ, List, [], codes, string_bytes, Some}
use Rattle.toml.specs.Data.{Members}
use Rattle.toml.specs.Parse.{parse_document}
use Rattle.oram_cli.specs.Tables.{HasOnly, HasText, IsName}
use Rattle.oram_settings.specs.Settings.{IsPlace}
use Rattle.oram_disk_host.specs.declared.settings_file.HostSettings.{HostSettings}

-- the settings by value, without the places of texts in memory
pub record HostValue : Type 0 where
  pub listen : List ℕ
  pub file : List ℕ

abbrev pub settings_value : HostSettings → HostValue
settings_value s = record { listen = string_bytes s.listen; file = string_bytes s.file }

-- the table has these settings
pub record IsHost (table : Members) (s : HostValue) : Type 0 where
  pub only : HasOnly (codes "listen" ∷ codes "file" ∷ []) table
  pub listen : HasText table (codes "listen") s.listen × IsPlace s.listen
  pub file : HasText table (codes "file") s.file × IsName s.file

-- the text is a TOML document whose table has these settings
abbrev pub IsDocumentOf : List ℕ → HostValue → Type 0
IsDocumentOf text s = (table : Members) × (parse_document text ≡ Some table) × IsHost table s
