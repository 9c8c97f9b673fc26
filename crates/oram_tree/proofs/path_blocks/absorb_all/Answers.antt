use Rattle.std.proofs.Common.{◌≡◌, List, Err, sym, ap, ◌∙◌, subst, arith}
use Rattle.std.proofs.lemmas.List.{map-id}
use Rattle.std.proofs.lemmas.List.Elements.{Contains-append_left, Contains-append_right}
use Rattle.std.proofs.lemmas.Iterator.Adapters.{YieldsList-from_vec}
use Rattle.std.proofs.lemmas.Iterator.Consumers.{YieldsList-turn, YieldsList-end, YieldsList-so_far}
use Rattle.oram_bucket.specs.Cell.{Cell}
use Rattle.oram_tree.proofs.Gathered.{both_more, both_none, apart_more, apart_beside, apart_both, found_at, twice, duplicate_is, HasBoth}
use Rattle.oram_tree.proofs.path_blocks.absorb_all.Goals as goal

pub loop-block-init : goal.loop-block-init
loop-block-init c = record {
  rising = c.requires.near_rising;
  apart = λ x y none there. absurd (let h = none.1 in omega arith);
  apart_own = λ x y none there. absurd (let h = none.1 in omega arith);
  all = both_none c.args.near.now;
}

pub loop-block-preserved : goal.loop-block-preserved
loop-block-preserved c =
    let address_is : c.block.inside.address ≡ c.in-Some.block.address = ap (λ (b : Cell). b.address) c.block.view_is in
    record {
      rising = c.absorb.ensures.rising;
      apart = apart_more c.args.near.now c.loop-block.yielded c.loop-block.near c.absorb.new.self c.in-Some.block c.absorb.ensures.rising c.in-Ok.ensures.ok c.loop-block.invariant.all c.loop-block.invariant.apart;
      apart_own = apart_beside c.args.stash.now c.loop-block.yielded c.in-Some.block _ address_is (sym c.contains.ensures ∙ c.if-contains.false) c.loop-block.invariant.apart_own;
      all = both_more c.args.near.now c.loop-block.yielded c.loop-block.near c.absorb.new.self c.in-Some.block c.in-Ok.ensures.ok c.loop-block.invariant.all;
    }

pub returns-then-contains-clause-rising : goal.returns-then-contains-clause-rising
returns-then-contains-clause-rising c = c.loop-block.invariant.rising

pub returns-then-contains-clause-twice : goal.returns-then-contains-clause-twice
returns-then-contains-clause-twice c _ =
    let began = c.into_iter-block-iterator.ensures.into_iter_gives in
    let road = YieldsList-from_vec {s = c.into_iter-block-iterator.result} c.args.blocks.items began.0 (began.1 ∙ c.args.blocks.ok.0) in
    let turn = YieldsList-turn road c.loop-block.yielded c.loop-block.block-iterator c.loop-block.yielded_by _ c.next.new.self c.in-Some.block c.in-Some.is c.next.ensures.steps in
    let address_is : c.block.inside.address ≡ c.in-Some.block.address = ap (λ (b : Cell). b.address) c.block.view_is in
    let d = found_at c.args.stash.now c.block.inside.address (sym c.contains.ensures ∙ c.if-contains.true) in
    (c.in-Some.block, d.0, (_, turn.0, sym turn.1), Contains-append_left c.args.stash.now c.args.near.now d.0 d.1, sym (d.2 ∙ address_is))

pub returns-in-Err-Duplicate-clause-twice : goal.returns-in-Err-Duplicate-clause-twice
returns-in-Err-Duplicate-clause-twice c _ =
    let began = c.into_iter-block-iterator.ensures.into_iter_gives in
    let road = YieldsList-from_vec {s = c.into_iter-block-iterator.result} c.args.blocks.items began.0 (began.1 ∙ c.args.blocks.ok.0) in
    let turn = YieldsList-turn road c.loop-block.yielded c.loop-block.block-iterator c.loop-block.yielded_by _ c.next.new.self c.in-Some.block c.in-Some.is c.next.ensures.steps in
    let part = sym (map-id c.loop-block.yielded) ∙ YieldsList-so_far road c.loop-block.yielded c.loop-block.block-iterator c.loop-block.yielded_by in
    let same = duplicate_is c.in-Err-Duplicate.field-0 c.in-Err-Duplicate.field-0-0 c.in-Some.block c.in-Err-Duplicate.field-0-is c.in-Err-Duplicate.ensures.returned in
    let two = twice c.args.near.now c.loop-block.near c.args.blocks.items c.loop-block.yielded c.in-Some.block c.requires.rising c.loop-block.invariant.all part turn.0 turn.1
    (c.in-Err-Duplicate.ensures.duplicate.0 (ap Err same)) in
    (two.0, two.1, two.2, Contains-append_right c.args.stash.now c.args.near.now two.1 two.3, two.4)

pub returns-clause-rising : goal.returns-clause-rising
returns-clause-rising c = c.loop-block.invariant.rising

pub returns-clause-all : goal.returns-clause-all
returns-clause-all c =
    let began = c.into_iter-block-iterator.ensures.into_iter_gives in
    let road = YieldsList-from_vec {s = c.into_iter-block-iterator.result} c.args.blocks.items began.0 (began.1 ∙ c.args.blocks.ok.0) in
    let whole = YieldsList-end road c.loop-block.yielded c.loop-block.block-iterator c.loop-block.yielded_by _ c.next.new.self c.in-None.is c.next.ensures.steps in
    let P : List Cell → Type 0 = λ done. HasBoth c.args.near.now done c.loop-block.near in
    subst P (sym (map-id c.loop-block.yielded) ∙ whole.0) c.loop-block.invariant.all

pub returns-clause-apart : goal.returns-clause-apart
returns-clause-apart c =
    let began = c.into_iter-block-iterator.ensures.into_iter_gives in
    let road = YieldsList-from_vec {s = c.into_iter-block-iterator.result} c.args.blocks.items began.0 (began.1 ∙ c.args.blocks.ok.0) in
    let whole = YieldsList-end road c.loop-block.yielded c.loop-block.block-iterator c.loop-block.yielded_by _ c.next.new.self c.in-None.is c.next.ensures.steps in
    apart_both c.args.stash.now c.args.near.now c.loop-block.yielded c.args.blocks.items (sym (map-id c.loop-block.yielded) ∙ whole.0) c.loop-block.invariant.apart_own c.loop-block.invariant.apart
