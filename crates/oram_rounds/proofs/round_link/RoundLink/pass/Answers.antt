use Rattle.std.proofs.Common.{refl, sym, ◌∙◌, subst, inr}
use Rattle.oram_session.specs.declared.link.LinkFault.TheVariants.{Closed}
use Rattle.oram_rounds.specs.PathMessages.{IsPathFetch, IsPathStore}
use Rattle.oram_rounds.specs.Rounds.{Round}
use Rattle.oram_rounds.proofs.SentBodies.{declines, hold_does}
use Rattle.oram_rounds.proofs.round_link.RoundLink.pass.Goals as goal

pub returns-then-is_path_store-clause-call : goal.returns-then-is_path_store-clause-call
returns-then-is_path_store-clause-call g c =
    let path = subst (λ (r : Round _). IsPathStore r.device r.record_len c.args.body.now) c.self.view_is (c.is_path_store.ensures.0 c.if-is_path_store.true) in
    hold_does g.B.BatchLink.batches c.args.self.now c.hold.new.self c.args.body.now c.hold.result path c.hold.ensures

pub returns-in-None-clause-call : goal.returns-in-None-clause-call
returns-in-None-clause-call g c =
    let no_store = subst (λ (r : Round _). ¬ IsPathStore r.device r.record_len c.args.body.now) c.self.view_is (λ path. absurd (let both = sym c.if-is_path_store.false ∙ c.is_path_store.ensures.1 path in cc)) in
    let no_fetch = subst (λ (r : Round _). ¬ IsPathFetch r.device c.args.body.now) c.self.view_is c.in-None.ensures in
    declines g.B.BatchLink.batches c.args.self.now c.args.body.now Closed (inr (refl, no_fetch, no_store))
