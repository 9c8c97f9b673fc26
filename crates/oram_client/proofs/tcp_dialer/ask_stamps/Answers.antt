use Rattle.std.proofs.Common.{ℕ, List, [], ◌∷◌, Err, inr, refl, subst}
use Rattle.oram_client.specs.StreamBatches.{StreamBatch}
use Rattle.oram_client.proofs.Greeted.{shown_by}
use Rattle.oram_client.proofs.tcp_dialer.ask_stamps.Goals as goal

pub returns-in-Ok-clause-ok : goal.returns-in-Ok-clause-ok
returns-in-Ok-clause-ok g c =
    shown_by g.S.Read.remaining g.S.Write.contents c.args.line.now c.call_all.new.self c.args.key.now.0 c.in_ok-stamps_question.field-0.items c.deref.result.now c.in-Ok.answers.items
    c.index.result.now c.shown_in.result c.in-Ok.ensures.0 c.in_ok-stamps_question.ensures.ok c.in-Ok.ensures.1 c.index.ensures c.deref.ensures.value c.shown_in.ensures.ok

pub returns-clause-err : goal.returns-clause-err
returns-clause-err g c =
    let batch = subst (λ (q : List ℕ). StreamBatch g.S.Read.remaining g.S.Write.contents c.args.line.now (q ∷ []) (Err c.in-Err.fault) c.in-Err.ensures.0 c.call_all.new.self)
    c.in_ok-stamps_question.ensures.ok c.in-Err.ensures.1 in
    inr (Err c.in-Err.fault, c.in-Err.ensures.0, batch, refl)
