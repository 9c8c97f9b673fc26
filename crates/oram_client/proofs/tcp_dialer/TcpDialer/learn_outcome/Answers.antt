use Rattle.std.proofs.Common.{◌≡◌, ℕ, List, Result, MatchResult, refl, subst}
use Rattle.oram_rounds.specs.Batches.{texts}
use Rattle.oram_wire.specs.HostMessages.{done_answer}
use Rattle.oram_client.specs.Stamped.{ArePutFor}
use Rattle.oram_client.specs.declared.dialer.Trouble.{Trouble}
use Rattle.oram_client.proofs.tcp_dialer.TcpDialer.learn_outcome.Goals as goal

pub returns-in-Err-take_stamps : goal.returns-in-Err-take_stamps
returns-in-Err-take_stamps g c =
    let t = c.take_stamps.ensures in
    let unput : ArePutFor t.begun t.done c.in-Err-take_stamps.trouble =
    subst (λ (r : Result (Unit {0}) Trouble). MatchResult r (λ put. (t.begun ≡ done_answer) × (t.done ≡ done_answer)) (λ trouble. ArePutFor t.begun t.done trouble)) c.in-Err-take_stamps.is t.puts in
    rw c.in-Ok.is (
      texts c.take_stamps.new.answers.items,
      record { begun = t.begun; done = t.done; all = t.all; puts = unput },
      refl,
    )
