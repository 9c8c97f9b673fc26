-- The fault that a tree reports when a layer below it has one.
use Rattle.oram_bucket.specs.declared.sealer.OpenFault.{OpenFault}
use Rattle.oram_bucket.specs.declared.sealer.OpenFault.TheVariants as opening
use Rattle.oram_wire.specs.declared.sinks.SinkFault.{SinkFault}
use Rattle.oram_wire.specs.declared.sinks.SinkFault.TheVariants as putting
use Rattle.oram_tree.specs.declared.faults.FormatFault.{FormatFault}
use Rattle.oram_tree.specs.declared.faults.FormatFault.TheVariants as formatting
use Rattle.oram_tree.specs.declared.faults.TreeFault.{TreeFault}
use Rattle.oram_tree.specs.declared.faults.TreeFault.TheVariants as access

-- why a tree can't be formatted, if its sink has this fault
abbrev pub format_fault : SinkFault → FormatFault
format_fault putting.OutOfMemory = formatting.OutOfMemory
format_fault fault = formatting.Sink fault

-- why an access fails, if a bucket doesn't open for this reason
abbrev pub tree_fault : OpenFault → TreeFault
tree_fault opening.Broken = access.Unreadable
tree_fault opening.OutOfMemory = access.OutOfMemory
