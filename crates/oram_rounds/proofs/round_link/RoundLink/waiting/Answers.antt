use Rattle.std.proofs.Common.{ap, sym, ◌∙◌, take, drop}
use Rattle.std.proofs.lemmas.List.{map-append, take-append-drop}
use Rattle.oram_rounds.specs.Batches.{texts}
use Rattle.oram_rounds.specs.Rounds.{waiting}
use Rattle.oram_rounds.proofs.round_link.RoundLink.waiting.Goals as goal

pub returns : goal.returns
returns g c =
    let i = c.self.inside in
    ap texts c.deref.ensures.value
    ∙ (ap texts (sym (take-append-drop i.kept i.stores.items)) ∙ map-append (λ v. v.items) (take i.kept i.stores.items) (drop i.kept i.stores.items))
    ∙ ap waiting c.self.view_is
