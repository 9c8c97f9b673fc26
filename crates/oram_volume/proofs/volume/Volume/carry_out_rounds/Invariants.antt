use Rattle.std.proofs.Common.{◌≡◌, ◌≢◌, ◌++◌, ℕ, List, [], map}
use Rattle.std.specs.List.{flat_map}
use Rattle.oram_core.specs.Core.{IsSameDevice}
use Rattle.oram_nbd.specs.Beside.{GoesOn, HasArrays}
use Rattle.oram_nbd.specs.Calls.{SavesAll}
use Rattle.oram_semantics.specs.declared.events.Command.{Command}
use Rattle.oram_session.specs.Honesty.{HasFailed}
use Rattle.oram_volume.specs.CarriedOut.{AskRounds, Had, after_commands, bodies_from}
use Rattle.oram_volume.specs.DiskCalls.{data_of}
use Rattle.oram_volume.specs.HeldArrays.{HostHears, HoldsArray, KeepsArray, running}
use Rattle.oram_core.specs.declared.machine.TheConstants.{MOST_WAITING}
use Rattle.oram_semantics.specs.Events.{address_of}
use Rattle.oram_volume.proofs.Rounded.{CutSoFar}
use Rattle.oram_volume.specs.RangeCommands.{all_commands, rest_of}
use Rattle.oram_volume.proofs.volume.Volume.carry_out_rounds.Given as goal

abbrev pub invariant-loop-round_number : goal.invariant-loop-round_number
invariant-loop-round_number g l = record {
  kept : IsSameDevice l.fn.self.core l.self.core;
  still : HasFailed l.fn.self.core.state → HasFailed l.self.core.state;
  done : List Command;
  split : all_commands l.fn.self.core.device.block_bytes l.operations ≡ done ++ rest_of l.fn.self.core.device.block_bytes l.operations l.cursor.operation l.cursor.block;
  rounds : List (List ℕ);
  cut : CutSoFar MOST_WAITING (map address_of (all_commands l.fn.self.core.device.block_bytes l.operations)) rounds
      (map address_of (rest_of l.fn.self.core.device.block_bytes l.operations l.cursor.operation l.cursor.block));
  asked : AskRounds g.B.BatchLink.batches g.K.Keeper.reads_back (running g.S.Sealer.cipher g.T.Tape.words l.fn.self) rounds (running g.S.Sealer.cipher g.T.Tape.words l.self);
  so_far : GoesOn (Had g.B.BatchLink.batches g.K.Keeper.reads_back) HostHears (HasArrays HoldsArray (KeepsArray g.K.Keeper.reads_back)) (running g.S.Sealer.cipher g.T.Tape.words l.fn.self)
      (λ may_lie old new. (l.found.items ≡ flat_map data_of (bodies_from l.fn.self.core.device done old.held)) × (new.held ≡ after_commands l.fn.self.core.device done old.held) × SavesAll (done ≢ []) old new)
      (running g.S.Sealer.cipher g.T.Tape.words l.self);
}
