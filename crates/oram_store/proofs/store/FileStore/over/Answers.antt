use Rattle.std.proofs.Common.{◌≡◌, [], sym, ◌∙◌, ap, subst, None}
use Rattle.oram_redo.specs.Content.{Content}
use Rattle.oram_redo.specs.Log.{StandsFor}
use Rattle.oram_layout.specs.BucketFile.{IsBucketFile}
use Rattle.oram_layout.specs.Records.{AreKept, records_in}
use Rattle.oram_layout.specs.Trees.{Trees}
use Rattle.oram_store.specs.KeptRecords.{IsSound, StoreValue, records_of}
use Rattle.oram_store.specs.RecordFile.{FileValue, bounds}
use Rattle.oram_store.proofs.Recovery.{fresh, fresh_found}
use Rattle.oram_store.proofs.store.FileStore.over.Goals as goal

pub returns-clause-found : goal.returns-clause-found
returns-clause-found g c honest =
    let model = g.F.FilePair.model in
    let new = c.recover_trees.new.files in
    let redo = c.in_ok-redo.redo in
    let opened = c.in_ok-redo.trees.items in
    let is : c.new-2.result ≡ fresh model new redo opened =
    c.new-2.ensures ∙ ap (λ (v : FileValue g.row.F.Denot). record { file = v; trees = opened; pending = []; failure = None }) c.new.ensures in
    let was_honest : model.is_honest new = subst (λ (s : StoreValue g.row.F.Denot). model.is_honest s.file.files) is honest in
    subst
    (λ (s : StoreValue g.row.F.Denot). (trees : Trees) (d : Content) → StandsFor bounds [] d (model.seen c.args.files) → IsBucketFile trees d
    → (s.trees ≡ trees) × IsSound model s × AreKept (records_in trees d) (records_of model s)) (sym is)
    (fresh_found model redo opened c.args.files new (c.in_ok-redo.ensures.opened was_honest) c.in_ok-redo.ensures.bounds)
