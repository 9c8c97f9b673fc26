use Rattle.std.proofs.Common.{List, IfErr, OnOk, subst}
use Rattle.oram_client.specs.Introduction.{IsOwned, IsUnowned, OwnTree, Turn, TurnsRun}
use Rattle.oram_client.specs.declared.faults.IntroductionFault.TheVariants.{Used}
use Rattle.oram_client.proofs.introduction.keep_stamps.Goals as goal

pub returns-clause-ok : goal.returns-clause-ok
returns-clause-ok g c =
    subst (λ (t : OwnTree). OnOk c.own.result ((turns : List Turn) × TurnsRun g.L.BatchLink.batches c.args.link.now turns c.own.new.link × IsOwned t turns))
    c.in_ok-tree.ensures c.own.ensures.ok

pub returns-clause-err : goal.returns-clause-err
returns-clause-err g c =
    subst (λ (t : OwnTree). IfErr c.own.result (λ fault. (turns : List Turn) × TurnsRun g.L.BatchLink.batches c.args.link.now turns c.own.new.link × IsUnowned t Used turns fault))
    c.in_ok-tree.ensures c.own.ensures.err
