-- How the faults of the crates below are reported.
use Rattle.oram_bucket.specs.declared.sealer.OpenFault.{OpenFault}
use Rattle.oram_bucket.specs.declared.sealer.OpenFault.TheVariants as opening
use Rattle.oram_session.specs.declared.link.LinkFault.{LinkFault}
use Rattle.oram_session.specs.declared.link.LinkFault.TheVariants as link
use Rattle.oram_export.specs.declared.visitor.VisitFault.{VisitFault}
use Rattle.oram_export.specs.declared.visitor.VisitFault.TheVariants as visit
use Rattle.oram_export.specs.declared.read_fault.ReadFault.{ReadFault}
use Rattle.oram_export.specs.declared.read_fault.ReadFault.TheVariants as read

abbrev pub bucket_fault : OpenFault → VisitFault
bucket_fault opening.Broken = visit.BrokenBucket
bucket_fault opening.OutOfMemory = visit.OutOfMemory

abbrev pub link_fault : LinkFault → ReadFault
link_fault link.OutOfMemory = read.OutOfMemory
link_fault fault = read.Link fault

abbrev pub visit_fault : VisitFault → ReadFault
visit_fault visit.BrokenBucket = read.BrokenBucket
visit_fault visit.SinkStopped = read.SinkStopped
visit_fault visit.OutOfMemory = read.OutOfMemory
