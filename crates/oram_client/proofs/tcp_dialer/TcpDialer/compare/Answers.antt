use Rattle.std.proofs.Common.{◌≡◌, ℕ, List, inl, refl, ap, subst}
use Rattle.oram_sockets.specs.Duplex.{contents_of, remaining_of}
use Rattle.oram_client.specs.Dialer.{Destination}
use Rattle.oram_client.specs.Stamped.{GivesNoStamps, GivesStamps}
use Rattle.oram_client.proofs.Greeted.{mismatched}
use Rattle.oram_client.proofs.tcp_dialer.TcpDialer.compare.Goals as goal

pub returns-in-Err-clause-err : goal.returns-in-Err-clause-err
returns-in-Err-clause-err g c =
    let rem = remaining_of g.R.Stream.Read.remaining in
    let con = contents_of g.R.Stream.Write.contents in
    let none = subst (λ (key : List ℕ). GivesNoStamps (remaining_of g.R.Stream.Read.remaining) (contents_of g.R.Stream.Write.contents) key c.args.line.now c.in-Err.trouble c.ask_stamps.new.line)
    (ap (λ (d : Destination). d.key) c.self.view_is) c.in-Err.ensures.err in
    (refl, inl (c.ask_stamps.new.line, none))

pub returns-in-Ok-limit_silence-clause-err : goal.returns-in-Ok-limit_silence-clause-err
returns-in-Ok-limit_silence-clause-err g c =
    let gives = subst (λ (key : List ℕ). GivesStamps (remaining_of g.R.Stream.Read.remaining) (contents_of g.R.Stream.Write.contents) key c.args.line.now c.in-Ok.shown c.ask_stamps.new.line)
    (ap (λ (d : Destination). d.key) c.self.view_is) c.in-Ok.ensures.ok in
    mismatched (remaining_of g.R.Stream.Read.remaining) (contents_of g.R.Stream.Write.contents) c.args.self.now c.take_over.new.self c.args.line.now c.ask_stamps.new.line c.in-Ok.shown c.take_over.result
    gives c.take_over.ensures.err
