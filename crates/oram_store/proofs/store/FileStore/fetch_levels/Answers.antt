use Rattle.std.proofs.Common.{ap, sym, subst, ◌∙◌}
use Rattle.std.specs.Prelude.{IsSomeAnd}
use Rattle.oram_layout.specs.Trees.{shape_of, sizes_of}
use Rattle.oram_store.specs.KeptRecords.{StoreValue}
use Rattle.oram_store.specs.RecordFile.{IsReason}
use Rattle.oram_store.proofs.CommittedPuts.{commits_puts_none}
use Rattle.oram_store.proofs.store.FileStore.fetch_levels.Goals as goal

pub returns-in_default-clause-commits : goal.returns-in_default-clause-commits
returns-in_default-clause-commits g c s = commits_puts_none g.F.FilePair.model c.args.self.now s (g.met.F.FilePair.only_now c.args.self.now.file.files)

pub returns-then-leaf-leaves-clause-commits : goal.returns-then-leaf-leaves-clause-commits
returns-then-leaf-leaves-clause-commits g c s = commits_puts_none g.F.FilePair.model c.args.self.now s (g.met.F.FilePair.only_now c.args.self.now.file.files)

pub returns-then-last-tree-clause-commits : goal.returns-then-last-tree-clause-commits
returns-then-last-tree-clause-commits g c s = commits_puts_none g.F.FilePair.model c.args.self.now s (g.met.F.FilePair.only_now c.args.self.now.file.files)

pub returns-then-first-last-clause-commits : goal.returns-then-first-last-clause-commits
returns-then-first-last-clause-commits g c s = commits_puts_none g.F.FilePair.model c.args.self.now s (g.met.F.FilePair.only_now c.args.self.now.file.files)

pub returns-in-Ok-clause-levels : goal.returns-in-Ok-clause-levels
returns-in-Ok-clause-levels g c honest s =
    let there = sym c.tree_of.ensures ∙ c.in-Some.is in
    let given = c.in-Ok.ensures.levels c.args.number there honest s in
    (given.0, given.1, sizes_of c.in-Some.tree.shape, ap shape_of there, given.2)

pub returns-in-Err-clause-failure : goal.returns-in-Err-clause-failure
returns-in-Err-clause-failure g c full =
    subst (λ (v : StoreValue g.row.F.Denot). IsSomeAnd v.failure (IsReason g.F.FilePair.model c.args.self.now.file v.file)) (sym c.refuse.ensures.kept) c.in-Err.ensures.calls.reason
