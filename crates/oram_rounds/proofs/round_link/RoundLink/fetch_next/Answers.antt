use Rattle.std.proofs.Common.{sym, ap, ◌∙◌, subst}
use Rattle.oram_rounds.specs.Overlay.{IsOverlaid}
use Rattle.oram_rounds.specs.PathMessages.{IsPathFetch}
use Rattle.oram_rounds.specs.Rounds.{Round}
use Rattle.oram_rounds.proofs.SentBodies.{taken_does}
use Rattle.oram_rounds.proofs.round_link.RoundLink.fetch_next.Goals as goal

pub returns-in-Some-clause-call : goal.returns-in-Some-clause-call
returns-in-Some-clause-call g c =
    let f : IsPathFetch c.args.self.now.device c.args.body.now =
    record { tree = c.args.tree; leaf = c.args.leaf; tree_in = c.requires.tree; leaf_in = c.requires.leaf; named = c.requires.body } in
    let next = sym (ap (λ (r : Round _). r.ahead) c.self.view_is) ∙ c.in-Some.ensures in
    let over = subst (λ (r : Round _). IsOverlaid r.device r.record_len c.args.tree c.args.leaf r.held c.in-Some.answer.items c.overlaid.result.items) c.self.view_is c.overlaid.ensures in
    taken_does g.B.BatchLink.batches c.args.self.now _ c.args.body.now c.in-Some.answer.items c.overlaid.result.items f next
    (ap (λ (r : Round _). let q : Round _ = record r { ahead = c.take.new.self } in q) c.self.view_is) over
