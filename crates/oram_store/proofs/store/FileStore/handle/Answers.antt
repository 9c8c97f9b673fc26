use Rattle.std.proofs.Common.{◌≡◌, Err, ap, sym, ◌∙◌}
use Rattle.oram_host.specs.declared.refusals.HostRefusal.{HostRefusal}
use Rattle.oram_store.proofs.Responses.{no_room_is}
use Rattle.oram_store.proofs.store.FileStore.handle.Goals as goal

pub returns-in-Err-clause-failure : goal.returns-in-Err-clause-failure
returns-in-Err-clause-failure g c message numbers is full =
    let eight : c.code.result ≡ 8 = cc in
    c.in-Err.ensures.failure message numbers is (ap (λ (why : HostRefusal). Err why) (no_room_is c.in-Err.why (sym c.code.ensures ∙ eight)))

pub returns-in-Ok-Records-clause-runs : goal.returns-in-Ok-Records-clause-runs
returns-in-Ok-Records-clause-runs g c = c.serve_body.ensures.runs

pub returns-in-Ok-Records-clause-untouched : goal.returns-in-Ok-Records-clause-untouched
returns-in-Ok-Records-clause-untouched g c = c.serve_body.ensures.untouched

pub returns-in-Ok-Done-clause-runs : goal.returns-in-Ok-Done-clause-runs
returns-in-Ok-Done-clause-runs g c = c.serve_body.ensures.runs

pub returns-in-Ok-Done-clause-untouched : goal.returns-in-Ok-Done-clause-untouched
returns-in-Ok-Done-clause-untouched g c = c.serve_body.ensures.untouched

pub returns-in-Err-clause-runs : goal.returns-in-Err-clause-runs
returns-in-Err-clause-runs g c = c.serve_body.ensures.runs

pub returns-in-Err-clause-untouched : goal.returns-in-Err-clause-untouched
returns-in-Err-clause-untouched g c = c.serve_body.ensures.untouched

pub returns-in-Ok-Records-clause-running : goal.returns-in-Ok-Records-clause-running
returns-in-Ok-Records-clause-running g c granted = c.in-Ok-Records.ensures.running

pub returns-in-Ok-Records-clause-committed : goal.returns-in-Ok-Records-clause-committed
returns-in-Ok-Records-clause-committed g c message numbers is at_once granted = (c.in-Ok-Records.ensures.responds message numbers is).3 at_once

pub returns-in-Ok-Done-clause-running : goal.returns-in-Ok-Done-clause-running
returns-in-Ok-Done-clause-running g c granted = c.in-Ok-Done.ensures.running

pub returns-in-Ok-Done-clause-committed : goal.returns-in-Ok-Done-clause-committed
returns-in-Ok-Done-clause-committed g c message numbers is at_once granted = (c.in-Ok-Done.ensures.responds message numbers is).3 at_once
