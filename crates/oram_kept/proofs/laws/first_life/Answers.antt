use Rattle.oram_kept.specs.Pages.{parts_of}
use Rattle.oram_kept.proofs.Held.{kept_found}
use Rattle.oram_kept.proofs.laws.first_life.Goals as goal

pub returns : goal.returns
returns g c honest content left =
    let later = c.in_ok-keep-2.ensures.after.honest honest in
    kept_found g.F.FilePair.model (parts_of c.args.third.now) c.keep-2.new.self
    (c.in_ok-keep-2.ensures.ok _ (c.in_ok-keep.ensures.ok _ (c.in_ok-kept.ensures.kept (c.in_ok-keep.ensures.after.honest later)))) content left
