use Rattle.std.proofs.Common.{◌*◌, ap, ◌∙◌, refl}
use Rattle.oram_hash.specs.Path.{Path, record_at}
use Rattle.oram_hash.proofs.Paths.{record_at-slice}
use Rattle.oram_hash.proofs.view.PathView.record.Goals as goal

pub returns-clause-exact : goal.returns-clause-exact
returns-clause-exact c =
    record_at-slice _ c.args.level (c.args.level * c.self.inside.record_len) c.self.inside.record_len refl refl
    ∙ ap (λ (p : Path). record_at p c.args.level) c.self.view_is
