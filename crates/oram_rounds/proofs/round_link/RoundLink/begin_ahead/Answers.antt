use Rattle.std.proofs.Common.{◌≡◌, ◌≢◌, ◌++◌, ◌==◌, ℕ, List, [], true, false, take, length, sym, ap, ◌∙◌, subst}
use Rattle.std.specs.Global.{Vec}
use Rattle.oram_rounds.specs.Batches.{texts}
use Rattle.oram_rounds.specs.Streams.{BeginsBatch}
use Rattle.oram_rounds.proofs.SentBodies.{not_begun}
use Rattle.oram_rounds.proofs.Texts.{some_texts}
use Rattle.oram_rounds.proofs.round_link.RoundLink.begin_ahead.Goals as goal

pub returns-clause-broken : goal.returns-clause-broken
returns-clause-broken g c = λ no.
    let fetches = c.args.fetches.now in
    let some : texts fetches ≢ [] = some_texts fetches (λ none.
    let yes : c.is_empty.result ≡ true = c.is_empty.ensures ∙ ap (λ (xs : List (Vec ℕ)). length xs == 0) none in
    let both : true ≡ false = sym yes ∙ c.if-is_empty.false in cc) in
    let begins = subst (λ (all : List (Vec ℕ)). BeginsBatch g.B.BatchLink.batches g.B.BatchLink.streams c.self.inside.inner (texts fetches ++ texts all) c.begin.result c.begin.new.self) (ap (take c.self.inside.kept) c.deref.ensures.value) c.begin.ensures in
    not_begun g.B.BatchLink.batches g.B.BatchLink.streams g.met.B.BatchLink.are_batches _ c.args.self.now c.self.view_is (texts fetches) c.begin.new.self some
    (c.are_path_fetches.ensures.0 c.if-not-are_path_fetches.false) c.requires c.begin.result begins no
