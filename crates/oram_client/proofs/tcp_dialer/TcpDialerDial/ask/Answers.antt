use Rattle.std.proofs.Common.{rules, Err, inl, inr, refl}
use Rattle.oram_stamps.specs.Known.{IsSettled}
use Rattle.oram_client.proofs.tcp_dialer.TcpDialerDial.ask.Goals as goal

pub returns-in-Err : goal.returns-in-Err
returns-in-Err g c =
    let settled : IsSettled c.args.self.now.known = search rules in
    let batch = c.in-Err.ensures.err in
    (batch.0, c.ask.new.self, inr (inl (record { settled = settled; outcome = Err c.in-Err.fault; batch = batch.1; says = refl; same = refl })))
