use Rattle.std.proofs.Common.{◌+◌, ◌*◌, ◌-◌, ℕ, List, arith, sym, subst}
use Rattle.oram_near.proofs.RecordsInLine.{puts_levels}
use Rattle.oram_near.specs.Completion.{PutsLevels}
use borrow.Rule.Slice.PartMut.{put_mid}
use Rattle.oram_near.proofs.overlay.put_levels.Goals as goal

pub returns : goal.returns
returns c =
    let start = c.args.first * c.args.record_len in
    let k = start + c.args.count * c.args.record_len - start in
    subst (λ (x : List ℕ). PutsLevels c.args.record_len c.args.first c.args.count c.args.records.now c.args.path.now (put_mid start k c.args.path.now x))
    (sym c.copy_from_slice.ensures.after)
    (puts_levels c.args.record_len c.args.first c.args.count k c.args.records.now c.args.path.now (omega arith) c.requires.enough c.requires.there)
