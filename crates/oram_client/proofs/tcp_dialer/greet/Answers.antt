use Rattle.std.proofs.Common.{ℕ, List, [], ◌∷◌, Ok, ap, subst}
use Rattle.oram_rounds.specs.Batches.{texts}
use Rattle.oram_client.specs.BatchExchanges.{streams_are_batches}
use Rattle.oram_client.specs.Dialer.{Shows}
use Rattle.oram_client.proofs.Greeted.{another, none, only}
use Rattle.oram_client.proofs.tcp_dialer.greet.Goals as goal

pub returns-in-Err-judge-clause-err : goal.returns-in-Err-judge-clause-err
returns-in-Err-judge-clause-err g c =
    let message = c.in_ok-greeting.field-0.items in
    let answers = texts c.in-Ok.answers.items in
    let called = c.in-Ok.ensures in
    let batch = streams_are_batches g.S.Read.remaining g.S.Write.contents c.in_ok-line.line c.call_all.new.self (message ∷ []) (Ok answers) called.0 called.1 in
    another g.S.Read.remaining g.S.Write.contents c.args.reader c.args.writer c.args.lengths c.in_ok-line.line c.call_all.new.self (message ∷ [])
    c.args.identity.now c.index.result.now.items answers called.0 c.in-Err-judge.trouble c.in_ok-line.ensures.ok
    (ap (λ (m : List ℕ). m ∷ []) c.in_ok-greeting.ensures.ok) called.1
    (only c.in-Ok.answers.items c.index.result.now batch.0 c.index.ensures)
    (subst (λ (answer : List ℕ). Shows c.args.identity.now answer c.in-Err-judge.trouble) c.deref.ensures.value c.in-Err-judge.ensures.err)

pub returns-in-Err-clause-err : goal.returns-in-Err-clause-err
returns-in-Err-clause-err g c =
    let message = c.in_ok-greeting.field-0.items in
    none g.S.Read.remaining g.S.Write.contents c.args.reader c.args.writer c.args.lengths c.in_ok-line.line c.call_all.new.self (message ∷ [])
    c.args.identity.now c.in-Err.ensures.0 c.in-Err.fault c.in_ok-line.ensures.ok
    (ap (λ (m : List ℕ). m ∷ []) c.in_ok-greeting.ensures.ok) c.in-Err.ensures.1
