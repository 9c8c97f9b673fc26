use Rattle.std.proofs.Common.{refl}
use Rattle.oram_levels.specs.Messages.{levels_payload}
use Rattle.oram_store.proofs.Levels.{counted, levels_fit}
use Rattle.oram_store.proofs.cells.read_levels_answer.Goals as goal

pub returns-clause-fits : goal.returns-clause-fits
returns-clause-fits g c =
    let onto = c.in_ok-count.ensures.levels in
    let count = c.in_ok-count.count in (
      levels_payload count onto.more,
      counted c.in_ok-answer.answer.items c.extend_from_slice.new.self.items c.read_levels.new.bytes.items onto.more count c.in_ok-answer.ensures.items c.in_ok-extend_from_slice.ensures.items onto.grown,
      levels_fit c.args.tree.now c.args.first c.args.last count onto.more c.requires.last onto.within onto.whole,
    )

pub returns-clause-levels : goal.returns-clause-levels
returns-clause-levels g c honest =
    let onto = c.in_ok-count.ensures.levels in
    let count = c.in_ok-count.count in (
      levels_payload count onto.more,
      counted c.in_ok-answer.answer.items c.extend_from_slice.new.self.items c.read_levels.new.bytes.items onto.more count c.in_ok-answer.ensures.items c.in_ok-extend_from_slice.ensures.items onto.grown,
      record { count = count; bytes = onto.more; is = refl; within = onto.within; are = onto.are honest; ends = λ more. onto.ends honest more },
    )
