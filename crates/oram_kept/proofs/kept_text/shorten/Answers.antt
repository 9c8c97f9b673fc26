use Rattle.std.proofs.Common.{[]}
use Rattle.oram_redo.specs.Log.{StandsFor}
use Rattle.oram_redo.specs.Redo.{bounds_of}
use Rattle.oram_redo.specs.declared.file_pair.FileKind.TheVariants.{Records}
use Rattle.oram_redo.proofs.Consistent.{keeps_now}
use Rattle.oram_redo.proofs.Moments.{leads_to, started}
use Rattle.oram_kept.proofs.kept_text.shorten.Goals as goal

pub returns-then-log_len-le-LONG-clause-any_moment : goal.returns-then-log_len-le-LONG-clause-any_moment
returns-then-log_len-le-LONG-clause-any_moment g c consistent =
    let model = g.F.FilePair.model in
    let files = c.args.files.now in
    let redo = c.args.redo.now in
    started model files (StandsFor (bounds_of redo) [] (model.seen files Records))
    (λ d left. (keeps_now redo [] (model.seen files) (model.may_leave files) consistent d (g.met.F.FilePair.only_now files d left)).stands)

pub returns-clause-any_moment : goal.returns-clause-any_moment
returns-clause-any_moment g c consistent =
    let model = g.F.FilePair.model in
    let files = c.args.files.now in
    let redo = c.args.redo.now in
    leads_to model files c.restart.new.files _ (StandsFor (bounds_of redo) [] (model.seen files Records)) (c.restart.ensures.any_moment [] consistent) (λ d keeps. keeps.stands)
