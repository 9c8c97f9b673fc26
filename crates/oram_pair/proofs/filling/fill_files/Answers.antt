use Rattle.std.proofs.Common.{sym, subst}
use Rattle.oram_redo.specs.FilePair.{Contents}
use Rattle.oram_pair.specs.Filling.{AreFilled}
use Rattle.oram_pair.proofs.NewFiles.{contents_one}
use Rattle.oram_pair.proofs.filling.fill_files.Goals as goal

pub fill-requires : goal.fill-requires
fill-requires g c = (c.args.first.now.identity, c.in_ok-begin_files.ensures.new)

pub returns-clause-filled : goal.returns-clause-filled
returns-clause-filled g c =
    let model = g.F.FilePair.model in
    let after = model.seen c.fill.new.files in
    let same = sym (contents_one (model.seen c.say_first.new.files) after c.say_first.ensures.seen) in
    record {
      filled = subst (λ (files : Contents). AreFilled c.args.format.now c.args.first.now.identity (g.W.Fill.fills c.args.filling.now) files) same (record {
        new = model.seen c.begin_files.new.files;
        are_new = c.in_ok-begin_files.ensures.new;
        kept = c.in_ok-fill.ensures.kept;
        filled = c.in_ok-fill.ensures.filled;
      });
      sure = c.in_ok-say_first.ensures.sure;
    }
