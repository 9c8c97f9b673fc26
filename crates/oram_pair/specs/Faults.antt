-- The pair's fault for an error of its redo log.
use Rattle.oram_redo.specs.declared.faults.RedoError.{RedoError}
use Rattle.oram_redo.specs.declared.faults.RedoError.TheVariants as error
use Rattle.oram_pair.specs.declared.faults.PairFault.{PairFault}
use Rattle.oram_pair.specs.declared.faults.PairFault.TheVariants.{Io, LogDamaged, NoRoom, OutOfMemory}

abbrev pub fault_of : RedoError → PairFault
fault_of error.Memory = OutOfMemory
fault_of error.NoRoom = NoRoom
fault_of error.Damaged = LogDamaged
fault_of error.Failed = Io
fault_of error.LogFull = Io
