use Rattle.std.proofs.Common.{take}
use Rattle.oram_wire.specs.HostMessages.{no_room_answer}
use Rattle.oram_link_laws.specs.Repair.{IsAmong}
use Rattle.oram_rounds.specs.Batches.{texts}
use Rattle.oram_client.proofs.no_room.has_no_room.Given as goal

abbrev pub invariant-loop-answer : goal.invariant-loop-answer
invariant-loop-answer l = ¬ IsAmong no_room_answer (take l.answer-index (texts l.answers))
