use Rattle.std.proofs.Common.{◌+◌, ◌*◌, ◌-◌, arith}
use Rattle.oram_near.proofs.RecordsInLine.{puts_record}
use Rattle.oram_near.specs.Near.{PutsRecord}
use Rattle.std.proofs.Common.{List, ℕ, sym, subst}
use borrow.Rule.Slice.PartMut.{put_mid}
use Rattle.oram_near.proofs.near_records.put_record.Goals as goal

pub returns : goal.returns
returns c =
    let start = c.args.node * c.args.record_len in
    let k = start + c.args.record_len - start in
    subst (λ (x : List ℕ). PutsRecord c.args.record_len c.args.node c.args.new_record.now c.args.records.now (put_mid start k c.args.records.now x))
    (sym c.copy_from_slice.ensures.after)
    (puts_record c.args.record_len c.args.node k c.args.new_record.now c.args.records.now (omega arith) c.requires.whole c.requires.there)
