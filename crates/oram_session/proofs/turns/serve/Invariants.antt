use Rattle.std.proofs.Common.{◌≡◌}
use Rattle.oram_core.specs.Core.{IsSameDevice, scheme_of}
use Rattle.oram_session.specs.CoreWork.{HasNoWork}
use Rattle.oram_session.proofs.Served.{Served, serving}
use Rattle.oram_session.proofs.turns.serve.Given as goal

abbrev pub invariant-loop-served : goal.invariant-loop-served
invariant-loop-served g l = record {
  kept : IsSameDevice l.fn.core l.core;
  no_work : HasNoWork l.core.state;
  tape : g.T.Tape.words l.tape ≡ g.T.Tape.words l.fn.tape;
  so_far : Served (scheme_of g.S.Sealer.cipher l.fn.core) g.L.Link.calls (g.T.Tape.words l.fn.tape) l.session
      (serving l.fn.core.state l.fn.link (g.R.Read.remaining l.fn.reader) (g.W.Write.contents l.fn.writer)) l.served
      (serving l.core.state l.link (g.R.Read.remaining l.reader) (g.W.Write.contents l.writer));
}
