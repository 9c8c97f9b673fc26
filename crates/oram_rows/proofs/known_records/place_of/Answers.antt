use Rattle.std.proofs.Common.{◌≡◌, ◌+◌, ◌-◌, ◌*◌, ◌%◌, ◌^◌, ◌<◌, ◌≤◌, ℕ, sym, subst}
use Rattle.oram_geometry.specs.Path.{node_on}
use Rattle.oram_rows.proofs.Places.{leaf_in, leaf_there, level_in}
use Rattle.oram_rows.proofs.known_records.place_of.Goals as goal

pub overflow_sub-leaf-2 : goal.overflow_sub-leaf-2
overflow_sub-leaf-2 c =
    let P : ℕ → Type 0 = λ n. c.args.node < 2 ^ (n + 1) - 1 in
    level_in c.depth-depth.result c.args.node c.ilog2-level.result c.depth-depth.ensures.range (subst P (sym c.depth-depth.ensures.count) c.requires.node) c.ilog2-level.ensures.power_le c.ilog2-level.ensures.next_power_gt

pub returns-clause-level : goal.returns-clause-level
returns-clause-level c =
    let P : ℕ → Type 0 = λ n. c.args.node < 2 ^ (n + 1) - 1 in
    let Q : ℕ → Type 0 = λ n. c.ilog2-level.result ≤ n in
    subst Q c.depth-depth.ensures.count
    (level_in c.depth-depth.result c.args.node c.ilog2-level.result c.depth-depth.ensures.range (subst P (sym c.depth-depth.ensures.count) c.requires.node) c.ilog2-level.ensures.power_le c.ilog2-level.ensures.next_power_gt)

pub returns-clause-leaf : goal.returns-clause-leaf
returns-clause-leaf c =
    let depth = c.depth-depth.result in
    let l = c.ilog2-level.result in
    let P : ℕ → Type 0 = λ n. c.args.node < 2 ^ (n + 1) - 1 in
    let Q : ℕ → Type 0 = λ n. (c.args.node + 1 - 1 * 2 ^ l % 4294967296) * 2 ^ (depth - l) % 4294967296 < 2 ^ n in
    subst Q c.depth-depth.ensures.count (leaf_in depth c.args.node l c.depth-depth.ensures.range (subst P (sym c.depth-depth.ensures.count) c.requires.node) c.ilog2-level.ensures.power_le c.ilog2-level.ensures.next_power_gt)

pub returns-clause-there : goal.returns-clause-there
returns-clause-there c =
    let depth = c.depth-depth.result in
    let l = c.ilog2-level.result in
    let P : ℕ → Type 0 = λ n. c.args.node < 2 ^ (n + 1) - 1 in
    let Q : ℕ → Type 0 = λ n. node_on n ((c.args.node + 1 - 1 * 2 ^ l % 4294967296) * 2 ^ (depth - l) % 4294967296) l ≡ c.args.node in
    subst Q c.depth-depth.ensures.count (leaf_there depth c.args.node l c.depth-depth.ensures.range (subst P (sym c.depth-depth.ensures.count) c.requires.node) c.ilog2-level.ensures.power_le c.ilog2-level.ensures.next_power_gt)
