use Rattle.std.proofs.Common.{◌≡◌, length, count_by}
use Rattle.oram_semantics.specs.Run.{is_accepted}
use Rattle.oram_core.specs.Core.{IsSameDevice, NotesChanges, scheme_of}
use Rattle.oram_rounds.proofs.AllSubmitted.{HasSubmitted, HasBegun}
use Rattle.oram_rounds.proofs.submissions.submit_all.Given as goal

abbrev pub invariant-loop-command : goal.invariant-loop-command
invariant-loop-command g l = record {
  kept : IsSameDevice l.fn.core l.core;
  noted : NotesChanges l.fn.core l.core;
  quiet : l.core.noted ≡ l.fn.core.noted;
  tape : g.T.Tape.words l.tape ≡ g.T.Tape.words l.fn.tape;
  submitted : HasSubmitted (scheme_of g.S.Sealer.cipher l.fn.core) (g.T.Tape.words l.fn.tape) l.session l.fn.commands.items l.command-iterator.rest.items l.fn.core.state l.notes.items l.core.state;
  count : length l.core.state.queue ≡ count_by is_accepted l.notes.items;
  begun : HasBegun l.fn.core.state l.begun (count_by is_accepted l.notes.items) l.core.state;
}
