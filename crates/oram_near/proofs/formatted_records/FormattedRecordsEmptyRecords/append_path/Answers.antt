use Rattle.std.proofs.Common.{◌≡◌, ◌+◌, ◌-◌, ◌++◌, OnOk, subst}
use Rattle.std.proofs.lemmas.Result.{on_ok_weaker}
use Rattle.oram_geometry.specs.Sizes.{depth_of}
use Rattle.oram_empty.specs.KeptDigests.{made_record}
use Rattle.oram_near.specs.EmptyRecords.{records_from}
use Rattle.oram_near.specs.FormattedRecords.{SealedDevice, digests_with}
use Rattle.oram_near.proofs.Formatted.{made_as}
use Rattle.oram_near.proofs.formatted_records.FormattedRecordsEmptyRecords.append_path.Goals as goal

pub returns : goal.returns
returns g c =
    let i = c.self.inside in
    subst (λ (e : SealedDevice _). OnOk c.append_path.result (c.append_path.new.path.items
    ≡ c.args.path.now.items ++ records_from (made_record (g.S.Sealer.cipher e.sealer) (digests_with e.device c.args.rest.now) c.args.tree c.args.leaf) c.args.first (depth_of e.device c.args.tree + 1 - c.args.first))) c.self.view_is
    (on_ok_weaker c.append_path.result
    (λ is. made_as (g.S.Sealer.cipher i.sealer) c.in-Some.digests i.device c.args.rest.now c.args.tree c.args.leaf c.args.first c.args.path.now.items c.append_path.new.path.items c.in-Some.ensures.value is) c.append_path.ensures.made)
