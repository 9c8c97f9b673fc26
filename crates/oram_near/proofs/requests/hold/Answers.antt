use Rattle.std.proofs.Common.{◌≡◌, ◌++◌, List, ℕ, ap, ◌∙◌, rules}
use Rattle.std.specs.Global.{Vec}
use Rattle.std.specs.List.{filter}
use Rattle.std.proofs.lemmas.Fn.{filter_same}
use Rattle.std.proofs.lemmas.List.{map-append}
use Rattle.oram_rounds.specs.Batches.{texts}
use Rattle.oram_near.specs.NearCalls.{begins_as_store}
use Rattle.oram_near.proofs.RequestLists.{filter_texts}
use Rattle.oram_near.proofs.requests.hold.Goals as goal

pub returns : goal.returns
returns c =
    let test = λ (v : Vec ℕ). begins_as_store v.items in
    let kept : c.retain.new.self.items ≡ filter test c.args.messages.items =
    filter_same _ test _ (λ x b f called. (search rules, search rules)) c.args.messages.items c.retain.new.self.items c.retain.ensures.filtered in
    let all : c.append.new.self.items ≡ c.args.stores.now.items ++ c.retain.new.self.items = rw c.if-is_err.ensures.negation at c.append.ensures.items in
    ap texts (all ∙ ap (λ (vs : List (Vec ℕ)). c.args.stores.now.items ++ vs) kept)
    ∙ map-append (λ (v : Vec ℕ). v.items) c.args.stores.now.items (filter test c.args.messages.items)
    ∙ ap (λ (bodies : List (List ℕ)). texts c.args.stores.now.items ++ bodies) (filter_texts begins_as_store c.args.messages.items)
