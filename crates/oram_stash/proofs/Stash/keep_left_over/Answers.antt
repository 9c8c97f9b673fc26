use Rattle.std.proofs.Common.{◌≡◌, ◌++◌, [], Vec, Global, eqb, ap, subst, ◌∙◌, rules}
use Rattle.std.specs.List.{filter, list_any}
use Rattle.std.proofs.lemmas.Fn.{filter_same}
use Rattle.std.proofs.lemmas.List.Sorted.{IsNonDecreasingBy-from_sort_by_key}
use Rattle.oram_bucket.specs.declared.block.Block.{Block}
use Rattle.oram_bucket.specs.Cell.{IsRising}
use Rattle.oram_stash.proofs.StayingBlocks.{sorted_blocks_rise, staying, staying_apart}
use Rattle.oram_stash.proofs.Stash.keep_left_over.Goals as goal

-- those that stay, in the order in which they came
kept_is : (c : goal.After-drop-others) → c.retain.new.self.items ≡ filter (λ (b : Block). list_any (λ s. eqb s b.address) c.args.stays.now) (c.args.self.now ++ c.args.other)
kept_is c =
    let items = λ (v : Vec Block Global). v.items in
    let test = λ (b : Block). list_any (λ s. eqb s b.address) c.args.stays.now in
    let first : c.append.new.self.items ≡ c.replace-own.new.dest.items ++ c.replace-own.result.items = rw c.unwrap.ensures at c.append.ensures.items in
    let second : c.append-2.new.self.items ≡ c.append.new.self.items ++ c.other.inside.blocks.items = rw c.unwrap-2.ensures at c.append-2.ensures.items in
    let none : c.replace-own.new.dest.items ≡ [] = ap items c.replace-own.ensures.after ∙ c.requires.empty in
    let own : c.replace-own.result.items ≡ c.args.self.now = ap items c.replace-own.ensures.value ∙ c.self.view_is in
    let all : c.append-2.new.self.items ≡ c.args.self.now ++ c.args.other =
    second ∙ ap (λ xs. xs ++ c.other.inside.blocks.items) (first ∙ ap (λ xs. xs ++ c.replace-own.result.items) none ∙ own) ∙ ap (λ xs. c.args.self.now ++ xs) c.other.view_is in
    filter_same _ test _ (λ x b f called. (search rules, search rules)) c.append-2.new.self.items c.retain.new.self.items c.retain.ensures.filtered ∙ ap (filter test) all

pub returns-clause-kept : goal.returns-clause-kept
returns-clause-kept c = staying c.args.self.now c.args.other c.retain.new.self.items c.sort_unstable_by_key.new.self.items c.args.stays.now (kept_is c) c.sort_unstable_by_key.ensures.permutation

pub returns-clause-rising : goal.returns-clause-rising
returns-clause-rising c =
    let apart = staying_apart c.args.self.now c.args.other c.retain.new.self.items c.args.stays.now (kept_is c) (subst IsRising c.self.view_is c.self.invariant) (subst IsRising c.other.view_is c.other.invariant) c.requires.apart in
    sorted_blocks_rise c.retain.new.self.items c.sort_unstable_by_key.new.self.items c.sort_unstable_by_key.ensures.permutation apart
    (IsNonDecreasingBy-from_sort_by_key (λ (b : Block). b.address) c.sort_unstable_by_key.new.self.items c.sort_unstable_by_key.ensures.sorted (λ a r f called. search rules))

pub invariant_of-self : goal.invariant_of-self
invariant_of-self c = returns-clause-rising c
