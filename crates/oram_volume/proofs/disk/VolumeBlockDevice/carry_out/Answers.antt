use Rattle.std.proofs.Common.{ℕ, List, ◌<◌, ◌*◌, sym, ◌∙◌, subst, arith}
use Rattle.std.proofs.lemmas.Result.{err_from_is_err_and}
use Rattle.oram_nbd.specs.Operations.{AreBegun, all_done}
use Rattle.oram_nbd.proofs.Beside.{at_rest as calls_none}
use Rattle.oram_nbd.proofs.Saving.{part_after_all, part_at_rest}
use Rattle.oram_nbd.proofs.ListSteps.{begun_nothing}
use Rattle.oram_volume.specs.Blocks.{IsLaidOut}
use Rattle.oram_volume.specs.CarriedOut.{AsksInRounds}
use Rattle.oram_volume.proofs.Rounded.{all_at}
use Rattle.oram_volume.specs.HeldArrays.{HoldsBytes, running}
use Rattle.oram_volume.proofs.DiskCalls.{as_bytes, by_lies, laid_all, laid_part}
use Rattle.oram_volume.proofs.LaidOperations.{begun_all_of, given_are, laid_data, laid_done, laid_front, touched_have_commands}
use Rattle.oram_volume.proofs.Layouts.{length_laid}
use Rattle.oram_volume.proofs.disk.VolumeBlockDevice.carry_out.Goals as goal

pub returns-then-has_failed-clause-goes : goal.returns-then-has_failed-clause-goes
returns-then-has_failed-clause-goes g c = calls_none (λ may_lie world old h. (
  begun_nothing c.args.operations.now old.held,
  λ e. by_lies (λ b. HoldsBytes b (running g.S.Sealer.cipher g.T.Tape.words c.args.self.now) world old.held) may_lie h.0
      (λ honest. c.has_failed.ensures.sound world old.held honest (c.has_failed.ensures.value.0 c.if-has_failed.true)),
  part_at_rest,
))

pub returns-in_err-found-clause-goes : goal.returns-in_err-found-clause-goes
returns-in_err-found-clause-goes g c =
    let p = err_from_is_err_and c.from_residual.result c.from_residual.ensures.1 in
    let d = c.args.self.now.core.device in
    let ops = c.args.operations.now in
    let some : 0 < d.block_bytes = omega (arith, c.blocks_in_all-blocks.ensures.block.0) in
    rw p.1 (as_bytes g.S.Sealer.cipher g.T.Tape.words g.B.BatchLink.batches g.K.Keeper.reads_back c.args.self.now c.carry_out_rounds.new.self c.in_err-found.ensures.kept c.in_err-found.ensures.goes
    (λ may_lie from to bytes laid step.
    let h = laid_front d some ops c.requires.whole c.requires.within step.0.0 step.0.1 step.0.2 from.held to.held bytes.held laid.held step.0.3 in
    let k = laid_part d from to bytes laid (AreBegun ops) step.2
    (λ part is. laid_front d some ops c.requires.whole c.requires.within is.0 is.1 is.2 from.held part bytes.held laid.held is.3) h.0 h.2 in
    (k.0, (subst (AreBegun ops bytes.held) (sym k.1) h.1, λ e. step.1 cc, k.3), k.2)))

pub returns-in_err-given-clause-goes : goal.returns-in_err-given-clause-goes
returns-in_err-given-clause-goes g c =
    let p = err_from_is_err_and c.from_residual-in_err-given.result c.from_residual-in_err-given.ensures.1 in
    let d = c.args.self.now.core.device in
    let ops = c.args.operations.now in
    let some : 0 < d.block_bytes = omega (arith, c.blocks_in_all-blocks.ensures.block.0) in
    rw p.1 (as_bytes g.S.Sealer.cipher g.T.Tape.words g.B.BatchLink.batches g.K.Keeper.reads_back c.args.self.now c.carry_out_rounds.new.self c.in_ok-found.ensures.kept c.in_ok-found.ensures.goes
    (λ may_lie from to bytes laid step.
    let there = subst (λ a. IsLaidOut d a (all_done ops bytes.held)) (sym step.0.1) (laid_done d some ops c.requires.whole c.requires.within from.held bytes.held laid.held) in
    let k = laid_all d from to bytes laid {touched' = ⊥} step.2 (all_done ops bytes.held) there (λ none. absurd none) in
    let begun : AreBegun ops bytes.held k.0.held = subst (AreBegun ops bytes.held) (sym k.1) (begun_all_of ops bytes.held) in
    (k.0, (begun, λ e. cc (c.in_err-given.ensures.err), part_after_all k.3 begun), k.2)))

pub returns-clause-goes : goal.returns-clause-goes
returns-clause-goes g c =
    let d = c.args.self.now.core.device in
    let ops = c.args.operations.now in
    let some : 0 < d.block_bytes = omega (arith, c.blocks_in_all-blocks.ensures.block.0) in
    as_bytes g.S.Sealer.cipher g.T.Tape.words g.B.BatchLink.batches g.K.Keeper.reads_back c.args.self.now c.carry_out_rounds.new.self c.in_ok-found.ensures.kept c.in_ok-found.ensures.goes
    (λ may_lie from to bytes laid step.
    let there = subst (λ a. IsLaidOut d a (all_done ops bytes.held)) (sym step.0.1) (laid_done d some ops c.requires.whole c.requires.within from.held bytes.held laid.held) in
    let k = laid_all d from to bytes laid step.2 (all_done ops bytes.held) there (λ touched none. touched_have_commands d.block_bytes some ops c.requires.whole touched none) in (
      k.0,
      (
        (
          given_are (d.block_bytes * d.blocks) ops bytes.held c.in_ok-found.found.items c.in_ok-given.given.items (length_laid d from.held bytes.held laid.held) c.requires.within c.in_ok-given.ensures.len
              c.in_ok-given.ensures.all (step.0.0 ∙ laid_data d some ops c.requires.whole c.requires.within from.held bytes.held laid.held),
          k.1,
        ),
        λ e. cc,
        k.3,
      ),
      k.2,
    ))

pub returns-clause-asks : goal.returns-clause-asks
returns-clause-asks g c =
    let d = c.args.self.now.core.device in
    subst (λ (blocks : List ℕ). AsksInRounds g.B.BatchLink.batches g.K.Keeper.reads_back (running g.S.Sealer.cipher g.T.Tape.words c.args.self.now) blocks (running g.S.Sealer.cipher g.T.Tape.words c.carry_out_rounds.new.self))
    (all_at d.block_bytes c.args.operations.now) c.in_ok-found.ensures.asks
