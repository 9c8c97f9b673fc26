use Rattle.std.proofs.Common.{◌≡◌, ◌++◌, OnOk, ap, ◌∙◌, subst}
use Rattle.std.proofs.lemmas.Result.{on_ok_weaker}
use Rattle.oram_empty.specs.KeptDigests.{Digests, made_record}
use Rattle.oram_near.specs.FormattedRecords.{SealedDevice, digests_with}
use Rattle.oram_near.proofs.formatted_records.FormattedRecordsEmptyRecords.append_record.Goals as goal

pub returns : goal.returns
returns g c =
    let i = c.self.inside in
    subst (λ (e : SealedDevice _). OnOk c.append_record.result (c.append_record.new.out.items
    ≡ c.args.out.now.items ++ made_record (g.S.Sealer.cipher e.sealer) (digests_with e.device c.args.rest.now) c.args.tree c.args.leaf c.args.level)) c.self.view_is
    (on_ok_weaker c.append_record.result
    (λ is. is ∙ ap (λ (s : Digests). c.args.out.now.items ++ made_record (g.S.Sealer.cipher i.sealer) s c.args.tree c.args.leaf c.args.level) c.in-Some.ensures.value) c.append_record.ensures.made)
