-- Tables that aren't those of a host's settings.
use Rattle.std.proofs.Common.{◌≡◌}
use Rattle.toml.specs.Data.{Members}
use Rattle.oram_cli.specs.declared.input.InputFault.{InputFault}
use Rattle.oram_cli.specs.declared.input.InputFault.TheVariants.{Bad}
use Rattle.oram_disk_host.specs.Settings.{HostValue, IsHost}

-- if a value that the table of a host has is bad, the table isn't a host's
pub no_host : {X : Type 0} {P : X → Type 0} (t : Members) (e : InputFault) → (e ≡ Bad → (x : X) → P x → ⊥) → (value : HostValue → X) → ((s : HostValue) → IsHost t s → P (value s))
    → e ≡ Bad → (s : HostValue) → IsHost t s → ⊥
no_host t e none value has bad s h = none bad (value s) (has s h)
