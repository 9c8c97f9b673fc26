use Rattle.std.proofs.Common.{◌≡◌, [], subst}
use Rattle.std.specs.Prelude.{IfOk}
use Rattle.oram_layout.specs.BucketFile.{IsBucketFile}
use Rattle.oram_layout.specs.Records.{AreKept, records_in}
use Rattle.oram_layout.specs.Trees.{Trees}
use Rattle.oram_redo.specs.Content.{Content}
use Rattle.oram_redo.specs.FilePair.{Contents}
use Rattle.oram_redo.specs.Log.{StandsFor}
use Rattle.oram_redo.specs.contracts.system.SystemPairFilePair.TheImpl.{ghosts}
use Rattle.oram_redo.specs.declared.system.SystemPair.{SystemPair}
use Rattle.oram_store.specs.KeptRecords.{IsSound, StoreValue, records_of}
use Rattle.oram_store.specs.RecordFile.{bounds}
use Rattle.oram_store.proofs.files.open_pair.Goals as goal

pub returns-clause-found : goal.returns-clause-found
returns-clause-found g c =
    subst (λ (seen : Contents). IfOk c.over.result (λ (store : StoreValue SystemPair). ghosts.model.is_honest store.file.files → (trees : Trees) (d : Content) → StandsFor bounds [] d seen → IsBucketFile trees d
    → (store.trees ≡ trees) × IsSound ghosts.model store × AreKept (records_in trees d) (records_of ghosts.model store)))
    c.new-files.ensures.holds c.over.ensures.found
