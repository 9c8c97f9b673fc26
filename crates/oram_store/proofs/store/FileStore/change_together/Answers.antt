use Rattle.std.proofs.Common.{Some, sym, ap, subst, ◌∙◌}
use Rattle.std.specs.Prelude.{IsSomeAnd, map}
use Rattle.oram_store.specs.Groups.{message_of}
use Rattle.oram_store.specs.KeptRecords.{StoreValue}
use Rattle.oram_store.specs.RecordFile.{IsReason, Runs}
use Rattle.oram_store.proofs.Together.{group_refused}
use Rattle.oram_store.proofs.store.FileStore.change_together.Goals as goal

pub returns-in-Ok-clause-serves : goal.returns-in-Ok-clause-serves
returns-in-Ok-clause-serves g c of honest s = c.in-Ok.ensures.serves of honest s

pub returns-in-Err-clause-serves : goal.returns-in-Err-clause-serves
returns-in-Err-clause-serves g c of honest s =
    group_refused g.F.FilePair.model (map message_of c.args.changes.now) c.args.self.now c.commit_puts_and_change.new.self c.refuse.new.self c.refuse.result (Some c.in-Err.fault)
    c.refuse.ensures.why c.refuse.ensures.kept (λ was. c.in-Err.ensures.serves of was s) honest

pub returns-in-Ok-clause-trees : goal.returns-in-Ok-clause-trees
returns-in-Ok-clause-trees g c = c.commit_puts_and_change.ensures.trees

pub returns-in-Ok-clause-none_pending : goal.returns-in-Ok-clause-none_pending
returns-in-Ok-clause-none_pending g c = c.in-Ok.ensures.none_pending

pub returns-in-Ok-clause-runs : goal.returns-in-Ok-clause-runs
returns-in-Ok-clause-runs g c = c.commit_puts_and_change.ensures.calls.runs

pub returns-in-Ok-clause-running : goal.returns-in-Ok-clause-running
returns-in-Ok-clause-running g c = c.in-Ok.ensures.running

pub returns-in-Err-clause-trees : goal.returns-in-Err-clause-trees
returns-in-Err-clause-trees g c = ap (λ (v : StoreValue g.row.F.Denot). v.trees) c.refuse.ensures.kept ∙ c.commit_puts_and_change.ensures.trees

pub returns-in-Err-clause-runs : goal.returns-in-Err-clause-runs
returns-in-Err-clause-runs g c =
    subst (λ (v : StoreValue g.row.F.Denot). Runs g.F.FilePair.model c.args.self.now.file v.file) (sym c.refuse.ensures.kept) c.commit_puts_and_change.ensures.calls.runs

pub returns-in-Err-clause-failure : goal.returns-in-Err-clause-failure
returns-in-Err-clause-failure g c =
    subst (λ (v : StoreValue g.row.F.Denot). IsSomeAnd v.failure (IsReason g.F.FilePair.model c.args.self.now.file v.file)) (sym c.refuse.ensures.kept) c.in-Err.ensures.calls.reason
