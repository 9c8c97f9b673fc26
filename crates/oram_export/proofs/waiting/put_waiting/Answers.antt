use Rattle.std.proofs.Common.{◌≡◌, ◌+◌, ◌++◌, [], ◌∷◌, List, take, sym, ap, ◌∙◌, subst}
use Rattle.std.specs.List.{FoldsTo, flat_map}
use Rattle.std.proofs.lemmas.List.{flat_map_more, take_more}
use Rattle.oram_core.specs.declared.parts.Pending.{Pending}
use Rattle.oram_export.specs.Images.{BlockWrite, writes_of}
use Rattle.oram_export.proofs.Staging.{folds-append}
use Rattle.oram_export.proofs.waiting.put_waiting.Goals as goal

pub loop-pending-preserved : goal.loop-pending-preserved
loop-pending-preserved g c =
    let takes = g.K.BlockSink.takes in
    let i = c.loop-pending.pending-index in
    let x = c.pending-item.result in
    let xs = c.args.waiting.now in
    let f : Pending → List BlockWrite = λ p. writes_of c.args.zeros.now p.command in
    let more : flat_map f (take (i + 1) xs) ≡ flat_map f (take i xs) ++ f x =
    ap (λ ps. flat_map f ps) (take_more xs i x c.loop-pending-test.true ∙ ap (λ p. take i xs ++ p ∷ []) (sym c.pending-item.is)) ∙ sym (flat_map_more f [] (take i xs) x) in
    subst (λ ws. FoldsTo takes c.args.sink.now ws c.put_written.new.sink) (sym more)
    (folds-append takes c.args.sink.now (flat_map f (take i xs)) c.loop-pending.sink (f x) c.put_written.new.sink c.loop-pending.invariant c.in_ok-put_written.ensures)
