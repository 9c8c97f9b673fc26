use Rattle.std.proofs.Common.{Ok, Err}
use Rattle.oram_client.proofs.StampedStreams.{begun_heard, done_heard, own_heard}
use Rattle.oram_client.proofs.tcp_dialer.TcpDialer.next_stamped.Goals as goal

pub returns-in-Err : goal.returns-in-Err
returns-in-Err g c = λ d line bodies answers rest h next.
    begun_heard g.S.Read.remaining g.S.Write.contents d c.args.self.now line c.args.line.now c.hear_begun.new.line bodies answers c.args.progress.now c.hear_begun.new.progress
    rest c.args.body.now (Err c.in-Err.trouble) h next c.in-Err.ensures

pub returns-in-Err-hear_own : goal.returns-in-Err-hear_own
returns-in-Err-hear_own g c = λ d line bodies answers rest h next.
    let one = begun_heard g.S.Read.remaining g.S.Write.contents d c.args.self.now line c.args.line.now c.hear_begun.new.line bodies answers c.args.progress.now c.hear_begun.new.progress
    rest c.args.body.now (Ok c.in-Ok.field-0) h next c.in-Ok.ensures in
    own_heard g.S.Read.remaining g.S.Write.contents d c.args.self.now line c.hear_begun.new.line c.hear_own.new.line bodies answers rest c.args.body.now c.hear_begun.new.progress c.hear_own.new.progress
    next (Err c.in-Err-hear_own.trouble) one.0 one.1 c.in-Err-hear_own.ensures

pub returns-in-Err-hear_done : goal.returns-in-Err-hear_done
returns-in-Err-hear_done g c = λ d line bodies answers rest h next.
    let one = begun_heard g.S.Read.remaining g.S.Write.contents d c.args.self.now line c.args.line.now c.hear_begun.new.line bodies answers c.args.progress.now c.hear_begun.new.progress
    rest c.args.body.now (Ok c.in-Ok.field-0) h next c.in-Ok.ensures in
    let two = own_heard g.S.Read.remaining g.S.Write.contents d c.args.self.now line c.hear_begun.new.line c.hear_own.new.line bodies answers rest c.args.body.now c.hear_begun.new.progress
    c.hear_own.new.progress next (Ok c.in-Ok-hear_own.answer) one.0 one.1 c.in-Ok-hear_own.ensures in
    done_heard g.S.Read.remaining g.S.Write.contents d c.args.self.now c.hear_done.new.self line c.hear_own.new.line c.hear_done.new.line bodies answers c.in-Ok-hear_own.answer.items
    c.hear_own.new.progress c.hear_done.new.progress (Err c.in-Err-hear_done.trouble) two c.in-Err-hear_done.ensures

pub returns-in-Ok-hear_done : goal.returns-in-Ok-hear_done
returns-in-Ok-hear_done g c = λ d line bodies answers rest h next.
    let one = begun_heard g.S.Read.remaining g.S.Write.contents d c.args.self.now line c.args.line.now c.hear_begun.new.line bodies answers c.args.progress.now c.hear_begun.new.progress
    rest c.args.body.now (Ok c.in-Ok.field-0) h next c.in-Ok.ensures in
    let two = own_heard g.S.Read.remaining g.S.Write.contents d c.args.self.now line c.hear_begun.new.line c.hear_own.new.line bodies answers rest c.args.body.now c.hear_begun.new.progress
    c.hear_own.new.progress next (Ok c.in-Ok-hear_own.answer) one.0 one.1 c.in-Ok-hear_own.ensures in
    done_heard g.S.Read.remaining g.S.Write.contents d c.args.self.now c.hear_done.new.self line c.hear_own.new.line c.hear_done.new.line bodies answers c.in-Ok-hear_own.answer.items
    c.hear_own.new.progress c.hear_done.new.progress (Ok c.in-Ok-hear_done.field-0) two c.in-Ok-hear_done.ensures
