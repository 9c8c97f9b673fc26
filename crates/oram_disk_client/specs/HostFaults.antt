-- Why a program ends that can't use its disk's host.
use Rattle.std.specs.Prelude.{Option, Some, None}
use Rattle.oram_cli.specs.declared.hosts.HostFault.TheVariants as host
use Rattle.oram_client.specs.declared.faults.IntroductionFault.{IntroductionFault}
use Rattle.oram_client.specs.declared.faults.IntroductionFault.TheVariants as introduction
use Rattle.oram_client.specs.declared.dialer.Trouble.{Trouble}
use Rattle.oram_client.specs.declared.dialer.Trouble.TheVariants as trouble
use Rattle.oram_disk_host.specs.declared.kinds.FaultKind.{FaultKind}
use Rattle.oram_disk_host.specs.declared.kinds.FaultKind.TheVariants.{Host, NoStamps, OlderHost, ReplacedState}

-- the kind of fault for the last trouble
abbrev pub kind_of : Option Trouble → FaultKind
kind_of (Some (trouble.OutOfReach fault)) = Host host.OutOfReach
kind_of (Some trouble.NoRoom) = Host host.NoRoom
kind_of (Some trouble.AnotherDisk) = Host host.AnotherDisk
kind_of (Some trouble.NoDisk) = Host host.NoDisk
kind_of (Some trouble.OlderState) = ReplacedState
kind_of (Some trouble.OlderHost) = OlderHost
kind_of (Some trouble.NoStamps) = NoStamps
kind_of None = Host host.OutOfReach

-- the kind of fault for a disk that wasn't introduced to its host; none if memory ran out
abbrev pub kind_for : IntroductionFault → Option FaultKind
kind_for introduction.Taken = Some (Host host.Taken)
kind_for introduction.Used = Some ReplacedState
kind_for introduction.NoRoom = Some (Host host.NoRoom)
kind_for introduction.Refused = Some (Host host.Refused)
kind_for introduction.Link = Some (Host host.OutOfReach)
kind_for introduction.NotStored = Some (Host host.Refused)
kind_for introduction.OutOfMemory = None
