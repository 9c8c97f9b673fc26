use Rattle.std.proofs.Common.{◌≡◌, ℕ, [], subst, sym, ◌∙◌}
use Rattle.oram_redo.specs.Batch.{patches_of}
use Rattle.oram_redo.specs.Log.{StandsFor}
use Rattle.oram_redo.specs.declared.bounds.Bounds.{Bounds}
use Rattle.oram_redo.specs.declared.file_pair.FileKind.TheVariants.{Log, Records}
use Rattle.oram_redo.proofs.Heal.{put_all_heals}
use Rattle.oram_redo.proofs.LawProofs.{empty_stands}
use Rattle.oram_redo.proofs.Consistent.{gate_written, keeps_now}
use Rattle.oram_redo.proofs.laws.first_commit.Goals as goal

pub returns : goal.returns
returns g c honest f now =
    let was_honest = c.commit.ensures.after.honest honest in
    let opened = c.in_ok-redo.ensures.records was_honest in
    let mid = g.F.FilePair.model.seen c.recover.new.files Records in
    let wrote = c.in_ok-write_at.ensures.written in
    let gate : g.F.FilePair.model.seen c.write_at.new.self Log c.args.bounds.log_start ≡ 15 = wrote.there c.args.bounds.log_start ∙ gate_written 15 c.args.bounds.log_start (g.F.FilePair.model.seen c.args.files.now Log) in
    let blank = λ (k : ℕ). wrote.other k ∙ c.requires.empty Records k in
    let zero_mid = λ (i : ℕ). sym (opened.gives i tt) ∙ empty_stands c.args.bounds opened.patches (g.F.FilePair.model.seen c.write_at.new.self) blank gate opened.log i in
    let kept = keeps_now c.commit.new.self [] _ _ (c.in_ok-commit.ensures.acknowledged [] (c.in_ok-redo.ensures.consistent was_honest)) f now in
    let same = c.in_ok-commit.ensures.bounds ∙ c.in_ok-redo.ensures.bounds in
    let stands = subst (λ (b : Bounds). StandsFor b [] (g.F.FilePair.model.seen c.commit.new.files Records) f) same kept.stands in
    record {
      patches = stands.patches;
      log = stands.log;
      gives = λ i spared.
          stands.gives i spared ∙ c.in_ok-commit.ensures.records i ∙ put_all_heals (patches_of c.args.batch.now) mid (λ k. 0) i (λ any. zero_mid i);
    }
