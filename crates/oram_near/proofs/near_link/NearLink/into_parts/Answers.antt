use Rattle.std.proofs.Common.{subst}
use Rattle.oram_rounds.specs.Batches.{texts}
use Rattle.oram_near.specs.EmptyRecords.{of_maker}
use Rattle.oram_near.specs.Near.{rest_of}
use Rattle.oram_near.specs.NearCalls.{FitsTogether, NearValue}
use Rattle.oram_near.proofs.FarStores.{fits_by}
use Rattle.oram_near.proofs.near_link.NearLink.into_parts.Goals as goal

pub returns-clause-fits : goal.returns-clause-fits
returns-clause-fits g c =
    let i = c.self.inside in
    let inv = c.self.invariant in
    subst (λ (l : NearValue _ _). FitsTogether (of_maker g.E.EmptyRecords.device) (of_maker g.E.EmptyRecords.record_len) l) c.self.view_is
    (fits_by (of_maker g.E.EmptyRecords.device) (of_maker g.E.EmptyRecords.record_len) i.inner (record { maker = i.empty; rest = rest_of i.near }) i.device i.near (texts i.unsure.items) i.coming inv.0 inv.1 inv.2 inv.3)
