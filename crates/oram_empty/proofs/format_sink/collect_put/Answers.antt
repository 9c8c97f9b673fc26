use Rattle.std.proofs.Common.{ℕ, ◌*◌, ap, length, refl}
use Rattle.oram_empty.proofs.Collected.{parts_collected, parts_collection}
use Rattle.oram_empty.proofs.format_sink.collect_put.Goals as goal

pub returns-clause-whole : goal.returns-clause-whole
returns-clause-whole c =
    parts_collection c.args.device.now (length c.args.record.now) c.args.near (c.near_nodes.result * length c.args.record.now) c.args.bytes.now c.args.bytes.now
    c.split_at_mut-records.result.0.now c.split_at_mut-records.result.1.now c.collect_record.new.records c.collect_digests.new.digests c.requires
    (ap (λ (n : ℕ). n * length c.args.record.now) c.near_nodes.ensures.value) refl c.split_at_mut-records.ensures.front c.split_at_mut-records.ensures.back c.collect_record.auto.records c.collect_digests.auto.digests

pub returns-clause-collected : goal.returns-clause-collected
returns-clause-collected c =
    parts_collected c.args.device.now (length c.args.record.now) c.args.near (c.near_nodes.result * length c.args.record.now) c.args.bytes.now c.args.bytes.now
    c.split_at_mut-records.result.0.now c.split_at_mut-records.result.1.now c.collect_record.new.records c.collect_digests.new.digests c.requires
    (ap (λ (n : ℕ). n * length c.args.record.now) c.near_nodes.ensures.value) refl c.split_at_mut-records.ensures.front c.split_at_mut-records.ensures.back c.collect_record.auto.records c.collect_digests.auto.digests
    c.args.tree c.args.node c.args.record.now refl c.collect_record.ensures c.collect_digests.ensures
