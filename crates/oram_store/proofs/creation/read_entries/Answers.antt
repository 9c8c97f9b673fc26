use Rattle.oram_redo.specs.declared.file_pair.FileKind.TheVariants.{Records}
use Rattle.oram_redo.proofs.Bytes.{has_along, has_read}
use Rattle.oram_redo.proofs.Outcomes.{if_ok_none}
use Rattle.oram_store.proofs.creation.read_entries.Goals as goal

pub returns-clause-entries : goal.returns-clause-entries
returns-clause-entries g c honest =
    let seen = g.F.FilePair.model.seen c.args.files.now Records in
    has_along c.in_ok-bytes.bytes.items c.entry_place.result 4096 seen c.entry_place.ensures
    (has_read 4096 c.entry_place.result seen c.in_ok-bytes.bytes.items (c.in_ok-bytes.ensures.bytes honest))

pub returns-in_err-bytes-clause-len : goal.returns-in_err-bytes-clause-len
returns-in_err-bytes-clause-len g c = if_ok_none c.from_residual.result _ c.from_residual.ensures.0

pub returns-in_err-bytes-clause-entries : goal.returns-in_err-bytes-clause-entries
returns-in_err-bytes-clause-entries g c = if_ok_none c.from_residual.result _ c.from_residual.ensures.0
