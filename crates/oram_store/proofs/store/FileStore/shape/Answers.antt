use Rattle.std.proofs.Common.{◌≡◌, ℕ, None, Some, inr, sym, ap, subst, ◌∙◌, arith, rules}
use Rattle.oram_host.specs.Refusals.{code_of}
use Rattle.oram_store.specs.Crashes.{Serves}
use Rattle.oram_wire.specs.declared.host_messages.HostAnswer.TheVariants as answer
use Rattle.oram_wire.specs.declared.host_messages.HostRequest.TheVariants as request
use Rattle.oram_layout.specs.Trees.{tree_at}
use Rattle.oram_store.specs.KeptRecords.{StoreValue}
use Rattle.oram_store.specs.Reasons.{IsReasonFor, ReportsWhy}
use Rattle.oram_store.specs.RecordFile.{Runs}
use Rattle.oram_store.specs.Refusals.{ChangesTrees, refusal_by}
use Rattle.oram_store.proofs.Allowed.{not_refused, shape_allowed}
use Rattle.oram_store.proofs.Served.{serves_refused, serves_untouched}
use Rattle.oram_store.proofs.store.FileStore.shape.Goals as goal

pub returns-in_default-clause-serves : goal.returns-in_default-clause-serves
returns-in_default-clause-serves g c honest s =
    serves_untouched g.F.FilePair.model (request.Shape c.args.number c.args.depth c.args.record_len) 4 c.args.self.now (λ six. absurd (omega arith)) s
    (g.met.F.FilePair.only_now c.args.self.now.file.files)

pub returns-then-is_some-clause-serves : goal.returns-then-is_some-clause-serves
returns-then-is_some-clause-serves g c honest s =
    serves_untouched g.F.FilePair.model (request.Shape c.args.number c.args.depth c.args.record_len) 5 c.args.self.now (λ six. absurd (omega arith)) s
    (g.met.F.FilePair.only_now c.args.self.now.file.files)

pub returns-in-Ok-clause-serves : goal.returns-in-Ok-clause-serves
returns-in-Ok-clause-serves g c honest s =
    subst (λ (d : ℕ). Serves g.F.FilePair.model (request.Shape c.args.number d c.args.record_len) answer.Done c.args.self.now c.commit_puts_and_add.new.self) c.in-Some.ensures.1
    (subst (λ (l : ℕ). Serves g.F.FilePair.model (request.Shape c.args.number c.in-Some.shape.depth l) answer.Done c.args.self.now c.commit_puts_and_add.new.self) c.in-Some.ensures.2
    (c.in-Ok.ensures.serves s))

pub returns-in-Err-clause-serves : goal.returns-in-Err-clause-serves
returns-in-Err-clause-serves g c honest s =
    subst (λ (d : ℕ). Serves g.F.FilePair.model (request.Shape c.args.number d c.args.record_len) (answer.Refused (code_of c.refuse.result)) c.args.self.now c.refuse.new.self) c.in-Some.ensures.1
    (subst (λ (l : ℕ). Serves g.F.FilePair.model (request.Shape c.args.number c.in-Some.shape.depth l) (answer.Refused (code_of c.refuse.result)) c.args.self.now c.refuse.new.self) c.in-Some.ensures.2
    (serves_refused g.F.FilePair.model (request.Shape c.args.number c.in-Some.shape.depth c.in-Some.shape.record_len) c.args.self.now c.commit_puts_and_add.new.self c.refuse.new.self c.refuse.result (Some c.in-Err.fault)
    c.refuse.ensures.why c.refuse.ensures.kept (λ was. c.in-Err.ensures.serves s) honest))

pub returns-in-Ok-clause-allowed : goal.returns-in-Ok-clause-allowed
returns-in-Ok-clause-allowed g c =
    let free : tree_at c.args.self.now.trees c.args.number ≡ None = search rules in
    shape_allowed c.args.self.now.trees c.args.number c.args.depth c.args.record_len c.in-Some.ensures.0 free

pub returns-in-Ok-clause-untouched : goal.returns-in-Ok-clause-untouched
returns-in-Ok-clause-untouched g c =
    let free : tree_at c.args.self.now.trees c.args.number ≡ None = search rules in
    not_refused (refusal_by c.args.self.now.trees (request.Shape c.args.number c.args.depth c.args.record_len)) _ (shape_allowed c.args.self.now.trees c.args.number c.args.depth c.args.record_len c.in-Some.ensures.0 free)

pub returns-in-Ok-clause-after : goal.returns-in-Ok-clause-after
returns-in-Ok-clause-after g c =
    subst (λ (d : ℕ). ChangesTrees c.args.self.now.trees (request.Shape c.args.number d c.args.record_len) c.commit_puts_and_add.new.self.trees) c.in-Some.ensures.1
    (subst (λ (l : ℕ). ChangesTrees c.args.self.now.trees (request.Shape c.args.number c.in-Some.shape.depth l) c.commit_puts_and_add.new.self.trees) c.in-Some.ensures.2 c.in-Ok.ensures.after)

pub returns-in-Ok-clause-none_pending : goal.returns-in-Ok-clause-none_pending
returns-in-Ok-clause-none_pending g c = c.in-Ok.ensures.none_pending

pub returns-in-Ok-clause-runs : goal.returns-in-Ok-clause-runs
returns-in-Ok-clause-runs g c = c.commit_puts_and_add.ensures.runs

pub returns-in-Ok-clause-running : goal.returns-in-Ok-clause-running
returns-in-Ok-clause-running g c = c.in-Ok.ensures.running

pub returns-in-Err-clause-refused : goal.returns-in-Err-clause-refused
returns-in-Err-clause-refused g c =
    let free : tree_at c.args.self.now.trees c.args.number ≡ None = search rules in
    inr (shape_allowed c.args.self.now.trees c.args.number c.args.depth c.args.record_len c.in-Some.ensures.0 free, c.refuse.ensures.why)

pub returns-in-Err-clause-untouched : goal.returns-in-Err-clause-untouched
returns-in-Err-clause-untouched g c =
    let free : tree_at c.args.self.now.trees c.args.number ≡ None = search rules in
    not_refused (refusal_by c.args.self.now.trees (request.Shape c.args.number c.args.depth c.args.record_len)) _ (shape_allowed c.args.self.now.trees c.args.number c.args.depth c.args.record_len c.in-Some.ensures.0 free)

pub returns-in-Err-clause-same : goal.returns-in-Err-clause-same
returns-in-Err-clause-same g c = ap (λ (v : StoreValue g.row.F.Denot). v.trees) c.refuse.ensures.kept ∙ c.in-Err.ensures.same

pub returns-in-Err-clause-runs : goal.returns-in-Err-clause-runs
returns-in-Err-clause-runs g c =
    subst (λ (v : StoreValue g.row.F.Denot). Runs g.F.FilePair.model c.args.self.now.file v.file) (sym c.refuse.ensures.kept) c.commit_puts_and_add.ensures.runs

pub returns-in-Err-clause-failure : goal.returns-in-Err-clause-failure
returns-in-Err-clause-failure g c full =
    subst (λ (v : StoreValue g.row.F.Denot). ReportsWhy g.F.FilePair.model c.args.self.now v (request.Shape c.args.number c.args.depth c.args.record_len)) (sym c.refuse.ensures.kept)
    (subst (λ (d : ℕ). IsReasonFor g.F.FilePair.model c.args.self.now c.commit_puts_and_add.new.self (request.Shape c.args.number d c.args.record_len) c.in-Err.fault) c.in-Some.ensures.1
    (subst (λ (l : ℕ). IsReasonFor g.F.FilePair.model c.args.self.now c.commit_puts_and_add.new.self (request.Shape c.args.number c.in-Some.shape.depth l) c.in-Err.fault) c.in-Some.ensures.2 c.in-Err.ensures.reason))
