use Rattle.oram_keeper.proofs.Texts.{number_pushed}
use Rattle.oram_keeper.proofs.pair_keeper.process_text.Goals as goal

pub loop-number-preserved : goal.loop-number-preserved
loop-number-preserved c =
    number_pushed c.args.before.now c.args.table.now c.loop-number.text.items _ c.extend_from_slice-in-loop-number.new.self.items c.loop-number.number-index
    c.loop-number-test.true c.loop-number.invariant c.to_be_bytes.ensures c.in_ok-extend_from_slice-2.ensures.items
