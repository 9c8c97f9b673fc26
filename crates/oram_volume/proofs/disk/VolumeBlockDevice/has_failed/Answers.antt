use Rattle.std.proofs.Common.{◌≡◌, Bool, IsTrue, Option, Some, None, is_some, refl, ap, ◌∙◌}
use Rattle.oram_semantics.specs.declared.events.Reason.{Reason}
use Rattle.oram_volume.specs.Parts.{VolumeParts}
use Rattle.oram_volume.proofs.disk.VolumeBlockDevice.has_failed.Goals as goal

says : (o : Option Reason) (b : Bool) → b ≡ is_some o → (IsTrue b → (x : Reason) × (o ≡ Some x)) × (((x : Reason) × (o ≡ Some x)) → IsTrue b)
says None b is = ((λ yes. absurd cc), λ some. absurd (let none = some.1 in cc))
says (Some x) b is = ((λ yes. (x, refl)), λ some. is)

pub returns-clause-value : goal.returns-clause-value
returns-clause-value g c =
    says c.args.self.now.core.state.failure c.is_some.result
    (c.is_some.ensures ∙ ap is_some c.failure.ensures ∙ ap (λ (v : VolumeParts g.row.S.Denot g.row.B.Denot g.row.K.Denot g.row.T.Denot). is_some v.core.state.failure) c.self.view_is)
