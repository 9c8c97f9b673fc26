use Rattle.std.proofs.Common.{◌≡◌, Result, Some, inr, sym, ap, subst, ◌∙◌}
use Rattle.std.specs.Prelude.{IsSomeAnd, MatchResult}
use Rattle.std.proofs.lemmas.Result.{err_from_is_err_and}
use Rattle.oram_host.specs.Refusals.{code_of}
use Rattle.oram_host.specs.declared.refusals.HostRefusal.{HostRefusal}
use Rattle.oram_wire.specs.declared.host_messages.HostAnswer.TheVariants as answer
use Rattle.oram_wire.specs.declared.host_messages.HostRequest.{HostRequest}
use Rattle.oram_wire.specs.declared.host_messages.HostRequest.TheVariants as request
use Rattle.oram_store.specs.Crashes.{Serves}
use Rattle.oram_store.specs.KeptRecords.{StoreValue}
use Rattle.oram_store.specs.Messages.{OfHost}
use Rattle.oram_store.specs.RecordFile.{IsReason, Runs}
use Rattle.oram_store.specs.Refusals.{refusal_by}
use Rattle.oram_store.proofs.Allowed.{not_refused}
use Rattle.oram_store.proofs.Served.{serves_refused, serves_untouched}
use Rattle.oram_store.proofs.store.FileStore.put.Goals as goal

of_host : (one two : HostRequest) → OfHost one ≡ OfHost two → one ≡ two
of_host one two is = cc

pub returns-in_err-put-clause-serves : goal.returns-in_err-put-clause-serves
returns-in_err-put-clause-serves g c honest s =
    let p = err_from_is_err_and c.from_residual.result c.from_residual.ensures.1 in
    let message = request.Put c.args.number c.args.node c.args.bytes.now in
    subst (λ (r : Result Unit HostRefusal). MatchResult r (λ _. Serves g.F.FilePair.model message answer.Done c.args.self.now c.args.self.now)
    (λ why. Serves g.F.FilePair.model message (answer.Refused (code_of why)) c.args.self.now c.args.self.now)) (sym p.1)
    (serves_untouched g.F.FilePair.model message (code_of p.0) c.args.self.now (λ six. c.in_err-put.ensures.code (ap code_of (sym p.2) ∙ six)) s (g.met.F.FilePair.only_now c.args.self.now.file.files))

pub put_record-requires-clause-node : goal.put_record-requires-clause-node
put_record-requires-clause-node g c = c.in_ok-put.ensures.fits.0.node

pub put_record-requires-clause-whole : goal.put_record-requires-clause-whole
put_record-requires-clause-whole g c = c.in_ok-put.ensures.fits.0.whole

pub returns-in-Ok-clause-serves : goal.returns-in-Ok-clause-serves
returns-in-Ok-clause-serves g c honest s =
    subst (λ (m : HostRequest). Serves g.F.FilePair.model m answer.Done c.args.self.now c.put_record.new.self)
    (of_host (request.Put c.in_ok-put.put.number c.in_ok-put.put.node c.in_ok-put.put.bytes.now) (request.Put c.args.number c.args.node c.args.bytes.now) c.in_ok-put.ensures.message)
    (c.in-Ok.ensures.serves c.in_ok-put.put.number c.in_ok-put.ensures.fits.1 honest s)

pub returns-in-Err-clause-serves : goal.returns-in-Err-clause-serves
returns-in-Err-clause-serves g c honest s =
    subst (λ (m : HostRequest). Serves g.F.FilePair.model m (answer.Refused (code_of c.refuse.result)) c.args.self.now c.refuse.new.self)
    (of_host (request.Put c.in_ok-put.put.number c.in_ok-put.put.node c.in_ok-put.put.bytes.now) (request.Put c.args.number c.args.node c.args.bytes.now) c.in_ok-put.ensures.message)
    (serves_refused g.F.FilePair.model (request.Put c.in_ok-put.put.number c.in_ok-put.put.node c.in_ok-put.put.bytes.now) c.args.self.now c.put_record.new.self c.refuse.new.self c.refuse.result (Some c.in-Err.fault)
    c.refuse.ensures.why c.refuse.ensures.kept (λ was. c.in-Err.ensures.serves c.in_ok-put.put.number c.in_ok-put.ensures.fits.1 was s) honest)

pub returns-in-Ok-clause-untouched : goal.returns-in-Ok-clause-untouched
returns-in-Ok-clause-untouched g c = not_refused (refusal_by c.args.self.now.trees (request.Put c.args.number c.args.node c.args.bytes.now)) _ c.in_ok-put.ensures.allowed

pub returns-in-Ok-clause-trees : goal.returns-in-Ok-clause-trees
returns-in-Ok-clause-trees g c = c.put_record.ensures.trees

pub returns-in-Ok-clause-runs : goal.returns-in-Ok-clause-runs
returns-in-Ok-clause-runs g c = c.put_record.ensures.calls.runs

pub returns-in-Ok-clause-running : goal.returns-in-Ok-clause-running
returns-in-Ok-clause-running g c = c.in-Ok.ensures.running

pub returns-in-Err-clause-refused : goal.returns-in-Err-clause-refused
returns-in-Err-clause-refused g c = inr (c.in_ok-put.ensures.allowed, c.refuse.ensures.why)

pub returns-in-Err-clause-untouched : goal.returns-in-Err-clause-untouched
returns-in-Err-clause-untouched g c = not_refused (refusal_by c.args.self.now.trees (request.Put c.args.number c.args.node c.args.bytes.now)) _ c.in_ok-put.ensures.allowed

pub returns-in-Err-clause-trees : goal.returns-in-Err-clause-trees
returns-in-Err-clause-trees g c = ap (λ (v : StoreValue g.row.F.Denot). v.trees) c.refuse.ensures.kept ∙ c.put_record.ensures.trees

pub returns-in-Err-clause-runs : goal.returns-in-Err-clause-runs
returns-in-Err-clause-runs g c =
    subst (λ (v : StoreValue g.row.F.Denot). Runs g.F.FilePair.model c.args.self.now.file v.file) (sym c.refuse.ensures.kept) c.put_record.ensures.calls.runs

pub returns-in-Err-clause-failure : goal.returns-in-Err-clause-failure
returns-in-Err-clause-failure g c full =
    subst (λ (v : StoreValue g.row.F.Denot). IsSomeAnd v.failure (IsReason g.F.FilePair.model c.args.self.now.file v.file)) (sym c.refuse.ensures.kept) c.in-Err.ensures.calls.reason
