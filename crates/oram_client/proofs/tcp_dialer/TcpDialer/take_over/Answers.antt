use Rattle.std.proofs.Common.{◌≡◌, List, ℕ, ap, subst}
use Rattle.oram_stamps.specs.Known.{IsTakenOver, Stamps}
use Rattle.oram_client.specs.Dialer.{Destination}
use Rattle.oram_client.specs.Stamped.{with_known}
use Rattle.oram_client.proofs.tcp_dialer.TcpDialer.take_over.Goals as goal
use Rattle.oram_client.proofs.tcp_dialer.TcpDialer.take_over.Goals.{in-Ok, in-Err}

pub returns-clause-ok : goal.returns-clause-ok
returns-clause-ok g c =
    let now = c.take_over.new.self in
    let shown = c.args.shown.now in
    elim c.match-take_over.branch [
      | in-Ok w ↦
          let taken : IsTakenOver c.args.self.now.known shown now =
          subst (λ (k : Stamps). IsTakenOver k shown now) (ap (λ (d : Destination). d.known) c.self.view_is) w.in-Ok.ensures.ok in
          rw w.result-is (now, taken, ap (λ (d : Destination). with_known d now) c.self.view_is)
      | in-Err w ↦ rw w.result-is tt
    ]
