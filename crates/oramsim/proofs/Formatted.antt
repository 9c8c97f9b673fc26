-- A device that has just been formatted.
use Rattle.std.proofs.Common.{◌≡◌, ◌<◌, ◌*◌, [], None, replicate, refl, sym, ap, subst, arith}
use Rattle.oram_geometry.specs.declared.Sizes.{Sizes}
use Rattle.oram_geometry.specs.Sizes.{IsDevice, trees_of}
use Rattle.oram_host.specs.Host.{Host}
use Rattle.oram_tree.specs.declared.faults.FormatFault.{FormatFault}
use Rattle.oram_tree.specs.declared.faults.FormatFault.TheVariants as formatting
use Rattle.oram_semantics.specs.Formatting.{IsFormatBegun}
use Rattle.oram_tree.specs.Format.{IsBrokenOff, PutsAll}
use Rattle.oram_semantics.specs.Law.{world_of}
use Rattle.oram_semantics.specs.Progress.{Setting}
use Rattle.oram_semantics.specs.State.{State}
use Rattle.oram_semantics.proofs.Bounds.{some_trees}
use Rattle.oram_core.specs.Formatting as core
use Rattle.oram_host_laws.specs.Honest.{Refusing, Takes}
use Rattle.oram_host_laws.proofs.FormattedHosts.{broken_off_for_room}
use Rattle.oram_host_laws.proofs.Honest.{new_hosts_serve}
use Rattle.oramsim.specs.Script.{IsNewRun, Running, plain_scheme}
use Rattle.oramsim.specs.Correspondence.{IsFaithful, IsWhole, IsAtRun}
use Rattle.oramsim.specs.declared.machine.Machine.{Machine}

some_stages : (d : Sizes) → 0 < 2 * trees_of d
some_stages d = let some : 0 < trees_of d = some_trees d in omega (arith, some)

pub new_whole : (d : Sizes) (s : State) (from to : Host) → core.IsNew (plain_scheme d) Takes from s to → IsWhole d s None
new_whole d s from to k = rw k.state (record { waits = refl; latest = tt; rests = λ none empty. refl; stage = λ none. some_stages d })

pub new_run : (d : Sizes) (m : Machine) (from : Host) → IsDevice d → m.core.device ≡ d → from ≡ [] → core.IsNew (plain_scheme d) Takes from m.core.state m.server → m.outstanding ≡ None → m.snapshot ≡ None
    → (r : Running) × IsNewRun d r × IsAtRun r m × IsFaithful r m.core.state
new_run d m from is device empty k out copy =
    let v : Setting = record { scheme = plain_scheme d; format = k.format } in
    let r : Running = record { setting = v; turns = []; message = None; host = m.server; copy = None } in
    let puts = subst (λ (h : Host). PutsAll Takes h k.format m.server) empty k.puts in
    let new = new_hosts_serve v k.trees m.server is (omega arith) k.formatted puts in (
      r,
      record { scheme = refl; trees = k.trees; formatted = k.formatted; taken = puts; turns = refl; message = refl; copy = refl },
      record { ranges = rw device is; scheme = ap plain_scheme (sym device); leads = (k.trees, k.formatted, sym k.state); message = out; host = refl; copy = copy },
      rw k.state (record { calm = tt; alive = refl; world = world_of v []; array = λ a. replicate d.block_bytes 0; serving = new.serving; hosts = new.hosts }),
    )

-- A formatting on a host that keeps nothing is broken off only if memory runs out.
pub room_alone : (d : Sizes) (from to : Host) (fault : FormatFault) → IsDevice d → from ≡ [] → IsBrokenOff Takes Refusing (IsFormatBegun (plain_scheme d)) from fault to → fault ≡ formatting.OutOfMemory
room_alone d from to fault is empty broken =
    broken_off_for_room (plain_scheme d) fault to is (omega arith) (subst (λ (h : Host). IsBrokenOff Takes Refusing (IsFormatBegun (plain_scheme d)) h fault to) empty broken)
