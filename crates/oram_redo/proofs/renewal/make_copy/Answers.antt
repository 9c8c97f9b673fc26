use Rattle.std.proofs.Common.{false, refl, arith}
use Rattle.oram_redo.specs.NamedLog.{calls_on}
use Rattle.oram_redo.proofs.Renewals.{synced_copy, unnamed_then}
use Rattle.oram_redo.proofs.renewal.make_copy.Goals as goal

pub returns-in_err-end-clause-unnamed : goal.returns-in_err-end-clause-unnamed
returns-in_err-end-clause-unnamed c = c.in_err-end.ensures.unnamed

pub returns-in_err-sync-clause-unnamed : goal.returns-in_err-sync-clause-unnamed
returns-in_err-sync-clause-unnamed c = unnamed_then 3 false (calls_on c.copy_up_to.new.named) (calls_on c.sync.new.self) (λ is. omega (arith, is)) c.in_ok-copy_up_to.ensures.unnamed (c.in_err-sync.ensures.copy refl)

pub returns-clause-copy : goal.returns-clause-copy
returns-clause-copy c =
    synced_copy c.args.bounds (calls_on c.copy_up_to.new.named) (calls_on c.sync.new.self) (c.in_ok-sync.ensures.copy refl) (λ log read.
    (c.in_ok-end.end, c.in_ok-end.ensures.enough log (c.in_ok-copy_up_to.ensures.reads log read), c.in_ok-copy_up_to.ensures.same log read))
