use Rattle.std.proofs.Common.{ℕ, ◌≤◌, length, map, All, count_by, vec_capacity, vec_len, Vec, Global}
use Rattle.oram_stash.specs.Plan.{is_level}
use Rattle.oram_stash.proofs.Picks.{Moved}
use Rattle.oram_stash.proofs.lists.move_out.Given as goal

abbrev pub invariant-loop-block : goal.invariant-loop-block
invariant-loop-block g l = record {
  can_next : (goal.iterator-loop-block g).can_next l.block-iterator;
  is_finite : (goal.iterator-loop-block g).is_finite l.block-iterator;
  moved : Moved l.levels l.fn.blocks.items (length l.yielded) (map (λ (list : Vec g.row.B.Denot Global). list.items) l.lists) l.rest.items;
  room : (m : ℕ) → All (λ (list : Vec g.row.B.Denot Global). count_by (is_level m) l.levels ≤ vec_capacity list) l.lists;
  rest_room : vec_len l.fn.blocks ≤ vec_capacity l.rest;
}
