use Rattle.std.proofs.Common.{◌≡◌, [], ◌∷◌, List, ℕ, ◌∙◌, ap, arith}
use Rattle.oram_redo.specs.Content.{Content, Agrees, put}
use Rattle.oram_redo.specs.declared.file_pair.FileKind.TheVariants.{Log, Records}
use Rattle.oram_redo.proofs.Outcomes.{on_ok_holds}
use Rattle.oram_pair.specs.Filling.{AreNew}
use Rattle.oram_pair.specs.Fronts.{front_bytes}
use Rattle.oram_pair.proofs.NewFiles.{content_one, put_in_zeros}
use Rattle.oram_pair.proofs.filling.begin_files.Goals as goal

pub returns-clause-new : goal.returns-clause-new
returns-clause-new g c =
    let model = g.F.FilePair.model in
    let at = c.args.format.now.bounds.log_start in
    let records : Agrees (model.seen c.write_at-2.new.self Records) (put c.front_of-2.result 0 (λ i. 0)) =
    put_in_zeros c.front_of-2.result 0 (model.seen c.write_at.new.self Records) (model.seen c.write_at-2.new.self Records)
    (λ i. c.in_ok-write_at.ensures.written.other i ∙ c.requires.empty Records i) c.in_ok-write_at-2.ensures.written.there in
    let log : Agrees (model.seen c.write_at.new.self Log) (put c.front_of.result 0 (λ i. 0)) =
    put_in_zeros c.front_of.result 0 (model.seen c.args.files.now Log) (model.seen c.write_at.new.self Log) (c.requires.empty Log) c.in_ok-write_at.ensures.written.there in
    let mid : model.seen c.write_at-2.new.self Log ≡ put c.front_of.result 0 (λ i. 0) =
    content_one _ _ (λ i. c.in_ok-write_at-2.ensures.written.other i ∙ log i) in
    on_ok_holds c.sync-2.result _ (record {
      whole = omega arith;
      records = λ i.
          c.sync-2.ensures.seen Records i ∙ c.sync.ensures.seen Records i ∙ c.in_ok-write_at-3.ensures.written.other i ∙ records i
          ∙ ap (λ (l : List ℕ). put l 0 (λ k. 0) i) c.front_of-2.ensures;
      log = λ i.
          c.sync-2.ensures.seen Log i ∙ c.sync.ensures.seen Log i ∙ c.in_ok-write_at-3.ensures.written.there i
          ∙ ap (λ (d : Content). put (15 ∷ []) at d i) (mid ∙ ap (λ (l : List ℕ). put l 0 (λ k. 0)) c.front_of.ensures);
    })
