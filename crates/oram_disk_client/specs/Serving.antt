-- What a process that serves a disk decides before it serves, and once it stops.
use Rattle.std.specs.Prelude.{◌≡◌, ◌++◌, ℕ, Bool, List, MatchBool, Option, None, Some, ⊤, codes, string_bytes}
use Rattle.oram_client.specs.declared.dialer.Trouble.{Trouble}
use Rattle.oram_keeper.specs.declared.pair_keeper.KeepFailure.{KeepFailure}
use Rattle.oram_client.specs.declared.disk_head.SealerKind.{SealerKind}
use Rattle.oram_client.specs.declared.disk_head.SealerKind.TheVariants as sealer
use Rattle.oram_disk_client.specs.Faults.{IsAbout, IsOfKind}
use Rattle.oram_disk_client.specs.HostFaults.{kind_of}
use Rattle.oram_disk_client.specs.declared.serving.DiskSealer.{DiskSealer}
use Rattle.oram_disk_client.specs.declared.serving.DiskSealer.TheVariants as disk
use Rattle.oram_disk_host.specs.declared.faults.Fault.{Fault}
use Rattle.oram_disk_host.specs.declared.faults.Fault.TheVariants.{OutOfMemory}
use Rattle.oram_disk_host.specs.declared.kinds.FaultKind.TheVariants as kind
use Rattle.oram_settings.specs.declared.disk_file.DiskSettings.{DiskSettings}

-- the name of the file that says why the disk of a state failed
abbrev pub failure_of : List ℕ → List ℕ
failure_of state = state ++ codes ".failed"

-- the sealer of this kind, with this key if it has one
abbrev pub Seals : SealerKind → List ℕ → DiskSealer → Type 0
Seals sealer.Plain key (disk.Plain seal) = ⊤
Seals sealer.Plain key (disk.ChaCha20 seal) = ⊥
Seals sealer.ChaCha20 key (disk.Plain seal) = ⊥
Seals sealer.ChaCha20 key (disk.ChaCha20 seal) = seal.key ≡ key

-- The fault for the trouble of a link is about the host, except if the state is older than what the host has.
pub record IsHostFault (trouble : Option Trouble) (settings : DiskSettings) (fault : Fault) : Type 0 where
  pub state : kind_of trouble ≡ kind.ReplacedState → IsAbout (kind_of trouble) (string_bytes settings.state) fault
  pub host : ¬ (kind_of trouble ≡ kind.ReplacedState) → IsAbout (kind_of trouble) (string_bytes settings.host) fault

-- The fault of a disk whose link returned a fault, by whether the core has failed and the link's trouble. A link without trouble
-- has failed only for want of memory, unless the core has failed.
abbrev pub IsLinkStop : DiskSettings → Bool → Option Trouble → Fault → Type 0
IsLinkStop settings failed None fault = MatchBool failed (IsHostFault None settings fault) (fault ≡ OutOfMemory)
IsLinkStop settings failed (Some trouble) fault = IsHostFault (Some trouble) settings fault

-- The fault of a disk that has stopped, by the keeper's failure, whether no access is left, and what stopped its link. A state that
-- wasn't kept comes first, and then a disk that is used up.
abbrev pub IsStopFault : DiskSettings → Option KeepFailure → Bool → Bool → Option Trouble → Fault → Type 0
IsStopFault settings (Some failure) used_up failed trouble fault = IsOfKind kind.StateNotKept fault
IsStopFault settings None used_up failed trouble fault = MatchBool used_up (IsAbout kind.UsedUp (string_bytes settings.state) fault) (IsLinkStop settings failed trouble fault)
