use Rattle.std.proofs.Common.{[], None, lit<, refl, ◌∙◌, arith}
use Rattle.std.specs.Prelude.{replicate}
use Rattle.std.proofs.lemmas.Result.{IfOk-weaker}
use Rattle.oram_layout.specs.Header.{letters}
use Rattle.oram_pair.specs.Fronts.{front_bytes}
use Rattle.oram_redo.proofs.Logs.{log_none}
use Rattle.oram_redo.specs.contracts.system.SystemPairFilePair.TheImpl.{ghosts}
use Rattle.oram_redo.specs.declared.file_pair.FileKind.TheVariants.{Log, Records}
use Rattle.oram_store.specs.RecordFile.{bounds}
use Rattle.oram_store.proofs.Recovery.{first_file}
use Rattle.oram_store.proofs.files.make_store.Goals as goal

pub returns-clause-new : goal.returns-clause-new
returns-clause-new c =
    let filled = c.in_ok-files.ensures.filled.filled in
    let identity = c.in_ok-files.first.identity in
    let seen = ghosts.model.seen c.in_ok-files.files in
    IfOk-weaker c.over.result _ _ (λ store found honest.
    let is =
    found honest (replicate 256 None) (seen Records)
    (record {
      patches = [];
      log = log_none bounds (seen Log) (lit< tt) (λ is. absurd (omega (arith, is, filled.kept.shut)));
      gives = λ i spared. refl;
    })
    (first_file 256 identity (front_bytes letters identity) (seen Records) refl refl filled.are_new.whole (λ i. filled.filled Records i ∙ filled.are_new.records i)) in
    (is.0, is.1)) c.over.ensures.found
