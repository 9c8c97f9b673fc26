use Rattle.std.proofs.Common.{◌≡◌, ◌∙◌, ℕ, List, [], length, inl, inr, ap, sym, refl, subst}
use Rattle.oram_host.specs.Trees.{IsExchanged, IsThere}
use Rattle.oram_host.proofs.Swapped.{second_there, swapped, taken_first, taken_second, third_there}
use Rattle.oram_host.proofs.swaps.swap_records.Goals as goal

pub exchange-requires-clause-there : goal.exchange-requires-clause-there
exchange-requires-clause-there c = rw c.in-Some.ensures.slot refl

pub exchange-requires-clause-fits : goal.exchange-requires-clause-fits
exchange-requires-clause-fits c = λ shape e. inl (c.from_vec-held.ensures ∙ c.new.ensures.items)

pub exchange-requires-2-clause-there : goal.exchange-requires-2-clause-there
exchange-requires-2-clause-there c = second_there _ _ _ _ _ _ _ _ c.if-is_same.ensures c.in-Some-len_at.ensures c.exchange.ensures.given

pub exchange-requires-2-clause-fits : goal.exchange-requires-2-clause-fits
exchange-requires-2-clause-fits c = λ shape e.
    let first = taken_first c.args.trees.now c.args.tree_a c.args.node_a c.in-Some.len_a c.exchange.new.bytes c.in-Some.ensures c.exchange.ensures.taken in
    inr (ap length first ∙ c.in-Some.ensures.long ∙ c.if-len_a-len_b.false ∙ sym (c.in-Some-len_at.ensures.shaped shape (sym (c.exchange.ensures.given.shapes c.args.tree_b) ∙ e)))

pub exchange-requires-3-clause-there : goal.exchange-requires-3-clause-there
exchange-requires-3-clause-there c = third_there _ _ _ _ _ _ _ _ c.if-is_same.ensures c.exchange.ensures.given.here c.exchange-2.ensures.given

pub exchange-requires-3-clause-fits : goal.exchange-requires-3-clause-fits
exchange-requires-3-clause-fits c = λ shape e.
    let second = taken_second c.args.trees.now c.exchange.new.trees c.args.tree_a c.args.node_a c.args.tree_b c.args.node_b c.in-Some-len_at.len_b _ c.exchange-2.new.bytes c.if-is_same.ensures c.in-Some-len_at.ensures
    c.exchange.ensures.given c.exchange-2.ensures.taken in
    inr (ap length second ∙ c.in-Some-len_at.ensures.long ∙ sym c.if-len_a-len_b.false
    ∙ sym (c.in-Some.ensures.shaped shape (sym (c.exchange-2.ensures.given.shapes c.args.tree_a ∙ c.exchange.ensures.given.shapes c.args.tree_a) ∙ e)))

pub returns-clause-swapped : goal.returns-clause-swapped
returns-clause-swapped c =
    let t0 = c.args.trees.now in
    let empty : c.from_vec-held.result ≡ [] = c.from_vec-held.ensures ∙ c.new.ensures.items in
    let X : List ℕ → Type 0 = λ bytes. IsExchanged c.args.trees.now c.args.tree_a c.args.node_a bytes c.exchange.new.trees in
    let first = taken_first c.args.trees.now c.args.tree_a c.args.node_a c.in-Some.len_a c.exchange.new.bytes c.in-Some.ensures c.exchange.ensures.taken in
    let second = taken_second c.args.trees.now c.exchange.new.trees c.args.tree_a c.args.node_a c.args.tree_b c.args.node_b c.in-Some-len_at.len_b _ c.exchange-2.new.bytes c.if-is_same.ensures c.in-Some-len_at.ensures
    c.exchange.ensures.given c.exchange-2.ensures.taken in
    let L : ℕ → Type 0 = IsThere c.args.trees.now c.args.tree_b c.args.node_b in
    swapped c.args.trees.now c.exchange.new.trees c.exchange-2.new.trees c.exchange-3.new.trees c.args.tree_a c.args.node_a c.args.tree_b c.args.node_b c.in-Some.len_a c.in-Some-len_at.len_b c.exchange.new.bytes c.exchange-2.new.bytes
    c.requires c.exchange-3.ensures.trees c.if-is_same.ensures c.in-Some.ensures c.in-Some-len_at.ensures c.if-len_a-len_b.false first second
    (subst X empty c.exchange.ensures.given) c.exchange-2.ensures.given c.exchange-3.ensures.given
