-- Tables that are no proxy's.
use Rattle.std.proofs.Common.{◌≡◌, ℕ, List, codes}
use Rattle.toml.specs.Data.{Members}
use Rattle.oram_cli.specs.Tables.{HasHex}
use Rattle.oram_cli.specs.declared.input.InputFault.{InputFault}
use Rattle.oram_cli.specs.declared.input.InputFault.TheVariants.{Bad}
use Rattle.oramd.specs.Settings.{IsSettings, SettingsValue, host, format, proxy}
use Rattle.oramd.specs.declared.command_line.Role.TheVariants as role

-- If the tape's key is bad, the table is no proxy's.
pub no_proxy : (t : Members) (e : InputFault) → (e ≡ Bad → (k : List ℕ) → HasHex t (codes "tape_key") k → ⊥) → e ≡ Bad → (x : SettingsValue) → IsSettings role.Proxy t x → ⊥
no_proxy t e none bad (host s) h = h
no_proxy t e none bad (format s) h = h
no_proxy t e none bad (proxy s) h = none bad s.tape_key h.tape_key
