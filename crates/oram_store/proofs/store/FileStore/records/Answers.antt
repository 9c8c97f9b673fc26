use Rattle.std.proofs.Common.{sym, subst}
use Rattle.std.specs.Prelude.{IsSomeAnd}
use Rattle.oram_store.specs.KeptRecords.{StoreValue}
use Rattle.oram_store.specs.RecordFile.{IsReason}
use Rattle.oram_store.proofs.CommittedPuts.{commits_puts_none}
use Rattle.oram_store.proofs.store.FileStore.records.Goals as goal

pub returns-in_default-clause-commits : goal.returns-in_default-clause-commits
returns-in_default-clause-commits g c s = commits_puts_none g.F.FilePair.model c.args.self.now s (g.met.F.FilePair.only_now c.args.self.now.file.files)

pub returns-then-not-has_nodes-clause-commits : goal.returns-then-not-has_nodes-clause-commits
returns-then-not-has_nodes-clause-commits g c s = commits_puts_none g.F.FilePair.model c.args.self.now s (g.met.F.FilePair.only_now c.args.self.now.file.files)

pub returns-then-not-fits_answer-clause-commits : goal.returns-then-not-fits_answer-clause-commits
returns-then-not-fits_answer-clause-commits g c s = commits_puts_none g.F.FilePair.model c.args.self.now s (g.met.F.FilePair.only_now c.args.self.now.file.files)

pub returns-in-Err-clause-failure : goal.returns-in-Err-clause-failure
returns-in-Err-clause-failure g c full =
    subst (λ (v : StoreValue g.row.F.Denot). IsSomeAnd v.failure (IsReason g.F.FilePair.model c.args.self.now.file v.file)) (sym c.refuse.ensures.kept) c.in-Err.ensures.calls.reason
