use Rattle.std.proofs.Common.{◌≡◌, [], subst}
use Rattle.oram_store.specs.Close.{Closes}
use Rattle.oram_store.specs.Crashes.{CommitsPuts}
use Rattle.oram_store.specs.KeptRecords.{IsSound, StoreValue}
use Rattle.oram_store.specs.RecordFile.{Runs}
use Rattle.oram_store.proofs.Close.{closes_by, closes_err, commits_puts_then}
use Rattle.oram_store.proofs.store.FileStore.empty_log.Goals as goal

pub returns-in_err-commit_puts-clause-closes : goal.returns-in_err-commit_puts-clause-closes
returns-in_err-commit_puts-clause-closes g c =
    closes_err g.F.FilePair.model
    c.from_residual.result c.in_err-commit_puts.field-0.0 c.args.self.now c.commit_puts.new.self c.from_residual.ensures.1 c.commit_puts.ensures.commits_puts c.in_err-commit_puts.ensures.calls

pub returns-clause-closes : goal.returns-clause-closes
returns-clause-closes g c =
    let old = c.args.self.now in
    let last = c.restart.new.self in
    (subst
    (λ (mid : StoreValue g.row.F.Denot). mid.trees ≡ old.trees → mid.pending ≡ []
    → (IsSound g.F.FilePair.model old → CommitsPuts g.F.FilePair.model old mid)
    → Runs g.F.FilePair.model old.file mid.file → mid.file.has_stopped ≡ old.file.has_stopped
    → Closes g.F.FilePair.model c.restart.result old last)
    c.self.view_is
    (λ trees none commits_puts runs goes_on.
    closes_by g.F.FilePair.model
    c.restart.result old _ last trees none commits_puts c.restart.ensures.passes c.restart.ensures.empty c.restart.ensures.running c.restart.ensures.same runs goes_on c.restart.ensures.calls
    (g.met.F.FilePair.counts_now c.self.inside.file.files) (g.met.F.FilePair.whole c.self.inside.file.files)))
    c.commit_puts.ensures.trees c.in_ok-commit_puts.ensures.none_pending c.commit_puts.ensures.commits_puts c.commit_puts.ensures.calls.runs c.in_ok-commit_puts.ensures.calls.goes_on

pub returns-clause-commits_puts : goal.returns-clause-commits_puts
returns-clause-commits_puts g c =
    let old = c.args.self.now in
    let last = c.restart.new.self in
    let new : StoreValue g.row.F.Denot = record { file = last; trees = c.self.inside.trees.items; pending = c.self.inside.pending.items; failure = c.self.inside.failure } in
    (subst
    (λ (mid : StoreValue g.row.F.Denot). mid.trees ≡ old.trees → mid.pending ≡ []
    → (IsSound g.F.FilePair.model old → CommitsPuts g.F.FilePair.model old mid)
    → IsSound g.F.FilePair.model old → CommitsPuts g.F.FilePair.model old new)
    c.self.view_is
    (λ trees none commits_puts sound.
    commits_puts_then g.F.FilePair.model old _ last trees none (commits_puts sound) c.restart.ensures.passes c.restart.ensures.same c.restart.ensures.calls.runs.stays
    (g.met.F.FilePair.counts_now c.self.inside.file.files) (g.met.F.FilePair.whole c.self.inside.file.files)))
    c.commit_puts.ensures.trees c.in_ok-commit_puts.ensures.none_pending c.commit_puts.ensures.commits_puts
