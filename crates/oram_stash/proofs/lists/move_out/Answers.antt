use Rattle.std.proofs.Common.{◌<◌, ◌≤◌, [], ◌∷◌, ◌++◌, length, vec_capacity, vec_len, count_by, Some, None, subst, refl, sym, ap, ◌∙◌, arith, rules}
use Rattle.std.proofs.lemmas.Iterator.{YieldsList-from_zip, YieldsList-from_slice}
use Rattle.std.proofs.lemmas.Iterator.Adapters.{YieldsList-from_vec}
use Rattle.std.proofs.lemmas.Iterator.Consumers.{YieldsList-turn}
use Rattle.std.proofs.lemmas.List.{length_push}
use Rattle.std.proofs.lemmas.List.Elements.{All-set}
use Rattle.oram_stash.specs.Plan.{is_level}
use Rattle.oram_stash.proofs.Moves.{Moved-none, zip_read, room_in_list, room_in_rest, Moved-pushed, Moved-kept}
use Rattle.oram_stash.proofs.lists.move_out.Goals as goal

pub loop-block-init : goal.loop-block-init
loop-block-init g c = record {
  can_next = search rules;
  is_finite = search rules;
  moved = Moved-none _ _ _ _ c.requires.empty c.requires.rest_empty;
  room = c.requires.room;
  rest_room = c.requires.rest_room;
}

pub unwrap-requires : goal.unwrap-requires
unwrap-requires g c =
    let began = c.into_iter-block-iterator.ensures.into_iter_gives in
    let in_vec = YieldsList-from_vec {s = c.into_iter-block-iterator.result.a} c.args.blocks.items (ap (λ s. s.a.rest.items) began ∙ ap (λ s. s.rest.items) c.zip-block-items.ensures.first ∙ c.into_iter.ensures.rest) (ap (λ s. s.a.rest.len) began ∙ ap (λ s. s.rest.len) c.zip-block-items.ensures.first ∙ c.into_iter.ensures.len ∙ c.args.blocks.ok.0) in
    let in_slice = YieldsList-from_slice {s = c.into_iter-block-iterator.result.b} c.args.levels.now (ap (λ s. s.b.rest.now) began ∙ c.zip-block-items.ensures.second.0) in
    let road = YieldsList-from_zip {s = c.into_iter-block-iterator.result} in_vec in_slice in
    let turn = YieldsList-turn road c.loop-block.yielded c.loop-block.block-iterator c.loop-block.yielded_by _ c.next.new.self (c.in-Some.block, c.in-Some.level) c.in-Some.is c.next.ensures.steps in
    let read = zip_read c.args.blocks.items c.args.levels.now (length c.loop-block.yielded) c.in-Some.block c.in-Some.level.now turn.0 turn.1 in
    let is = c.in-Some-level.is ∙ ap Some (sym c.from.ensures) in
    let level_in = rw (read.level, is) at (c.requires.in_lists (length c.loop-block.yielded) None read.in_levels) in
    let lt : c.from.result < length c.loop-block.lists = omega (arith, level_in, c.loop-block.auto.lists) in
    let list = c.index-lists-from.result in
    let at = c.index-lists-from.is in
    let room = subst (λ w. count_by (is_level c.from.result) c.args.levels.now ≤ vec_capacity w) (sym at) (c.loop-block.invariant.room c.from.result c.from.result list lt) in
    c.push.ensures.succeeds (subst (λ w. vec_len w < vec_capacity w) at (room_in_list _ _ _ _ _ c.loop-block.invariant.moved _ _ read c.from.result list is lt at room))

pub loop-block-preserved-in-Some-level : goal.loop-block-preserved-in-Some-level
loop-block-preserved-in-Some-level g c =
    let began = c.into_iter-block-iterator.ensures.into_iter_gives in
    let in_vec = YieldsList-from_vec {s = c.into_iter-block-iterator.result.a} c.args.blocks.items (ap (λ s. s.a.rest.items) began ∙ ap (λ s. s.rest.items) c.zip-block-items.ensures.first ∙ c.into_iter.ensures.rest) (ap (λ s. s.a.rest.len) began ∙ ap (λ s. s.rest.len) c.zip-block-items.ensures.first ∙ c.into_iter.ensures.len ∙ c.args.blocks.ok.0) in
    let in_slice = YieldsList-from_slice {s = c.into_iter-block-iterator.result.b} c.args.levels.now (ap (λ s. s.b.rest.now) began ∙ c.zip-block-items.ensures.second.0) in
    let road = YieldsList-from_zip {s = c.into_iter-block-iterator.result} in_vec in_slice in
    let turn = YieldsList-turn road c.loop-block.yielded c.loop-block.block-iterator c.loop-block.yielded_by _ c.next.new.self (c.in-Some.block, c.in-Some.level) c.in-Some.is c.next.ensures.steps in
    let read = zip_read c.args.blocks.items c.args.levels.now (length c.loop-block.yielded) c.in-Some.block c.in-Some.level.now turn.0 turn.1 in
    let is = c.in-Some-level.is ∙ ap Some (sym c.from.ensures) in
    let level_in = rw (read.level, is) at (c.requires.in_lists (length c.loop-block.yielded) None read.in_levels) in
    let lt : c.from.result < length c.loop-block.lists = omega (arith, level_in, c.loop-block.auto.lists) in
    let list = c.index-lists-from.result in
    let at = c.index-lists-from.is in
    let a = c.push.ensures.items in let b = c.unwrap.ensures in
    record {
      can_next = search rules;
      is_finite = search rules;
      moved = rw (length_push c.loop-block.yielded (c.in-Some.block, c.in-Some.level)) (Moved-pushed _ _ _ _ _ c.loop-block.invariant.moved _ _ read c.from.result list c.push.new.self is lt at (rw b at a ∙ ap (λ w. w.items ++ c.in-Some.block ∷ []) (sym at)));
      room = λ m. All-set (λ w. count_by (is_level m) c.args.levels.now ≤ vec_capacity w) c.loop-block.lists c.from.result c.push.new.self (let r = c.loop-block.invariant.room m c.from.result list lt in let g = c.push.ensures.capacity in omega (arith, r, g)) (c.loop-block.invariant.room m);
      rest_room = c.loop-block.invariant.rest_room;
    }

pub unwrap-requires-in-None-level : goal.unwrap-requires-in-None-level
unwrap-requires-in-None-level g c =
    let began = c.into_iter-block-iterator.ensures.into_iter_gives in
    let in_vec = YieldsList-from_vec {s = c.into_iter-block-iterator.result.a} c.args.blocks.items (ap (λ s. s.a.rest.items) began ∙ ap (λ s. s.rest.items) c.zip-block-items.ensures.first ∙ c.into_iter.ensures.rest) (ap (λ s. s.a.rest.len) began ∙ ap (λ s. s.rest.len) c.zip-block-items.ensures.first ∙ c.into_iter.ensures.len ∙ c.args.blocks.ok.0) in
    let in_slice = YieldsList-from_slice {s = c.into_iter-block-iterator.result.b} c.args.levels.now (ap (λ s. s.b.rest.now) began ∙ c.zip-block-items.ensures.second.0) in
    let road = YieldsList-from_zip {s = c.into_iter-block-iterator.result} in_vec in_slice in
    let turn = YieldsList-turn road c.loop-block.yielded c.loop-block.block-iterator c.loop-block.yielded_by _ c.next.new.self (c.in-Some.block, c.in-Some.level) c.in-Some.is c.next.ensures.steps in
    let read = zip_read c.args.blocks.items c.args.levels.now (length c.loop-block.yielded) c.in-Some.block c.in-Some.level.now turn.0 turn.1 in
    c.push-in-None-level.ensures.succeeds (room_in_rest _ _ _ _ _ c.loop-block.invariant.moved _ _ read c.loop-block.rest refl (omega (arith, c.loop-block.invariant.rest_room, c.args.blocks.ok.0)))

pub loop-block-preserved : goal.loop-block-preserved
loop-block-preserved g c =
    let began = c.into_iter-block-iterator.ensures.into_iter_gives in
    let in_vec = YieldsList-from_vec {s = c.into_iter-block-iterator.result.a} c.args.blocks.items (ap (λ s. s.a.rest.items) began ∙ ap (λ s. s.rest.items) c.zip-block-items.ensures.first ∙ c.into_iter.ensures.rest) (ap (λ s. s.a.rest.len) began ∙ ap (λ s. s.rest.len) c.zip-block-items.ensures.first ∙ c.into_iter.ensures.len ∙ c.args.blocks.ok.0) in
    let in_slice = YieldsList-from_slice {s = c.into_iter-block-iterator.result.b} c.args.levels.now (ap (λ s. s.b.rest.now) began ∙ c.zip-block-items.ensures.second.0) in
    let road = YieldsList-from_zip {s = c.into_iter-block-iterator.result} in_vec in_slice in
    let turn = YieldsList-turn road c.loop-block.yielded c.loop-block.block-iterator c.loop-block.yielded_by _ c.next.new.self (c.in-Some.block, c.in-Some.level) c.in-Some.is c.next.ensures.steps in
    let read = zip_read c.args.blocks.items c.args.levels.now (length c.loop-block.yielded) c.in-Some.block c.in-Some.level.now turn.0 turn.1 in
    let a = c.push-in-None-level.ensures.items in let b = c.unwrap-in-None-level.ensures in let g = c.push-in-None-level.ensures.capacity in
    record {
      can_next = search rules;
      is_finite = search rules;
      moved = rw (length_push c.loop-block.yielded (c.in-Some.block, c.in-Some.level)) (Moved-kept _ _ _ _ _ c.loop-block.invariant.moved _ _ read c.push-in-None-level.new.self.items c.in-None-level.is (rw b at a));
      room = c.loop-block.invariant.room;
      rest_room = omega (arith, g, c.loop-block.invariant.rest_room);
    }
