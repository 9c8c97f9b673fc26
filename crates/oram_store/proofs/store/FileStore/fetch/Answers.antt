use Rattle.std.proofs.Common.{ℕ, ◌<◌, Some, inl, inr, refl, sym, ap, subst, ◌∙◌, arith}
use Rattle.std.specs.Prelude.{IsSomeAnd}
use Rattle.oram_wire.specs.declared.host_messages.HostRequest.TheVariants as request
use Rattle.oram_store.specs.KeptRecords.{StoreValue}
use Rattle.oram_store.specs.RecordFile.{IsReason, Runs}
use Rattle.oram_store.specs.Refusals.{refusal_by}
use Rattle.oram_store.proofs.Allowed.{fetch_allowed, not_refused}
use Rattle.oram_store.proofs.Served.{serves_refused, serves_untouched}
use Rattle.oram_store.proofs.store.FileStore.fetch.Goals as goal

pub returns-in_default-clause-serves : goal.returns-in_default-clause-serves
returns-in_default-clause-serves g c honest s =
    serves_untouched g.F.FilePair.model (request.Fetch c.args.number c.args.leaf) 1 c.args.self.now (λ six. absurd (omega arith)) s
    (g.met.F.FilePair.only_now c.args.self.now.file.files)

pub returns-then-leaf-leaves-clause-serves : goal.returns-then-leaf-leaves-clause-serves
returns-then-leaf-leaves-clause-serves g c honest s =
    serves_untouched g.F.FilePair.model (request.Fetch c.args.number c.args.leaf) 2 c.args.self.now (λ six. absurd (omega arith)) s
    (g.met.F.FilePair.only_now c.args.self.now.file.files)

pub returns-in-Ok-Some-clause-serves : goal.returns-in-Ok-Some-clause-serves
returns-in-Ok-Some-clause-serves g c honest s = rw c.in-Ok-Some.field-0-is at (c.in-Ok-Some.ensures.serves c.args.number (sym c.tree_of.ensures ∙ c.in-Some.is) honest s)

pub returns-in-Ok-None-clause-serves : goal.returns-in-Ok-None-clause-serves
returns-in-Ok-None-clause-serves g c honest s = rw c.in-Ok-None.field-0-is at (c.in-Ok-None.ensures.serves c.args.number (sym c.tree_of.ensures ∙ c.in-Some.is) honest s)

pub returns-in-Err-clause-serves : goal.returns-in-Err-clause-serves
returns-in-Err-clause-serves g c honest s =
    serves_refused g.F.FilePair.model (request.Fetch c.args.number c.args.leaf) c.args.self.now c.commit_puts_and_fetch.new.self c.refuse.new.self c.refuse.result (Some c.in-Err.fault)
    c.refuse.ensures.why c.refuse.ensures.kept (λ was. c.in-Err.ensures.serves c.args.number (sym c.tree_of.ensures ∙ c.in-Some.is) was s) honest

pub returns-in-Ok-Some-clause-allowed : goal.returns-in-Ok-Some-clause-allowed
returns-in-Ok-Some-clause-allowed g c =
    fetch_allowed c.args.self.now.trees c.args.number c.args.leaf c.in-Some.tree (sym c.tree_of.ensures ∙ c.in-Some.is) (subst (λ (n : ℕ). c.args.leaf < n) c.leaves.ensures c.if-leaf-leaves.false)

pub returns-in-Ok-Some-clause-untouched : goal.returns-in-Ok-Some-clause-untouched
returns-in-Ok-Some-clause-untouched g c =
    not_refused (refusal_by c.args.self.now.trees (request.Fetch c.args.number c.args.leaf)) _ (fetch_allowed c.args.self.now.trees c.args.number c.args.leaf c.in-Some.tree (sym c.tree_of.ensures ∙ c.in-Some.is) (subst (λ (n : ℕ). c.args.leaf < n) c.leaves.ensures c.if-leaf-leaves.false))

pub returns-in-Ok-Some-clause-trees : goal.returns-in-Ok-Some-clause-trees
returns-in-Ok-Some-clause-trees g c = c.commit_puts_and_fetch.ensures.trees

pub returns-in-Ok-Some-clause-none_pending : goal.returns-in-Ok-Some-clause-none_pending
returns-in-Ok-Some-clause-none_pending g c = c.in-Ok-Some.ensures.none_pending

pub returns-in-Ok-Some-clause-runs : goal.returns-in-Ok-Some-clause-runs
returns-in-Ok-Some-clause-runs g c = c.commit_puts_and_fetch.ensures.calls.runs

pub returns-in-Ok-Some-clause-running : goal.returns-in-Ok-Some-clause-running
returns-in-Ok-Some-clause-running g c = c.in-Ok-Some.ensures.running

pub returns-in-Ok-None-clause-refused : goal.returns-in-Ok-None-clause-refused
returns-in-Ok-None-clause-refused g c =
    inr (fetch_allowed c.args.self.now.trees c.args.number c.args.leaf c.in-Some.tree (sym c.tree_of.ensures ∙ c.in-Some.is) (subst (λ (n : ℕ). c.args.leaf < n) c.leaves.ensures c.if-leaf-leaves.false), inl refl)

pub returns-in-Ok-None-clause-untouched : goal.returns-in-Ok-None-clause-untouched
returns-in-Ok-None-clause-untouched g c =
    not_refused (refusal_by c.args.self.now.trees (request.Fetch c.args.number c.args.leaf)) _ (fetch_allowed c.args.self.now.trees c.args.number c.args.leaf c.in-Some.tree (sym c.tree_of.ensures ∙ c.in-Some.is) (subst (λ (n : ℕ). c.args.leaf < n) c.leaves.ensures c.if-leaf-leaves.false))

pub returns-in-Ok-None-clause-trees : goal.returns-in-Ok-None-clause-trees
returns-in-Ok-None-clause-trees g c = c.commit_puts_and_fetch.ensures.trees

pub returns-in-Ok-None-clause-runs : goal.returns-in-Ok-None-clause-runs
returns-in-Ok-None-clause-runs g c = c.commit_puts_and_fetch.ensures.calls.runs

pub returns-in-Err-clause-refused : goal.returns-in-Err-clause-refused
returns-in-Err-clause-refused g c =
    inr (fetch_allowed c.args.self.now.trees c.args.number c.args.leaf c.in-Some.tree (sym c.tree_of.ensures ∙ c.in-Some.is) (subst (λ (n : ℕ). c.args.leaf < n) c.leaves.ensures c.if-leaf-leaves.false), inr c.refuse.ensures.why)

pub returns-in-Err-clause-untouched : goal.returns-in-Err-clause-untouched
returns-in-Err-clause-untouched g c =
    not_refused (refusal_by c.args.self.now.trees (request.Fetch c.args.number c.args.leaf)) _ (fetch_allowed c.args.self.now.trees c.args.number c.args.leaf c.in-Some.tree (sym c.tree_of.ensures ∙ c.in-Some.is) (subst (λ (n : ℕ). c.args.leaf < n) c.leaves.ensures c.if-leaf-leaves.false))

pub returns-in-Err-clause-trees : goal.returns-in-Err-clause-trees
returns-in-Err-clause-trees g c = ap (λ (v : StoreValue g.row.F.Denot). v.trees) c.refuse.ensures.kept ∙ c.commit_puts_and_fetch.ensures.trees

pub returns-in-Err-clause-runs : goal.returns-in-Err-clause-runs
returns-in-Err-clause-runs g c =
    subst (λ (v : StoreValue g.row.F.Denot). Runs g.F.FilePair.model c.args.self.now.file v.file) (sym c.refuse.ensures.kept) c.commit_puts_and_fetch.ensures.calls.runs

pub returns-in-Err-clause-failure : goal.returns-in-Err-clause-failure
returns-in-Err-clause-failure g c full =
    subst (λ (v : StoreValue g.row.F.Denot). IsSomeAnd v.failure (IsReason g.F.FilePair.model c.args.self.now.file v.file)) (sym c.refuse.ensures.kept) c.in-Err.ensures.calls.reason
