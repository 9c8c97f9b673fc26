use Rattle.std.proofs.Common.{◌≡◌, ℕ, ◌+◌, ◌^◌, ◌<◌, ◌≤◌, arith, ap, sym, subst, List, length, get_or, sum_by}
use Rattle.std.proofs.lemmas.List.Sums.{get_or-le-sum_by}
use Rattle.oram_export.specs.Findings.{count_of}
use Rattle.oram_export.specs.declared.findings.LevelFindings.{LevelFindings}
use Rattle.oram_export.proofs.Counting.{level_below}
use Rattle.oram_export.proofs.findings.TreeFindings.count.Goals as goal

pub overflow_add-node : goal.overflow_add-node
overflow_add-node c = omega (arith, c.requires.node)

pub index_mut-level-requires : goal.index_mut-level-requires
index_mut-level-requires c =
    let below = level_below c.ilog2.result (c.args.node + 1) (length c.self.inside.levels.items) c.ilog2.ensures.power_le
    (subst (λ (levels : List LevelFindings). c.args.node + 1 < 2 ^ length levels) (sym c.self.view_is) c.requires.level) in
    omega (arith, below)

small : (levels : List LevelFindings) (i : ℕ) (f : LevelFindings) → i < length levels → sum_by count_of levels < 4294967296 → f ≡ get_or levels i f → count_of f < 4294967296
small levels i f within few is =
    let one : count_of (get_or levels i f) ≤ sum_by count_of levels = get_or-le-sum_by count_of levels i f within in
    let same : count_of f ≡ count_of (get_or levels i f) = ap count_of is in
    omega (arith, one, same)

pub overflow_add-level : goal.overflow_add-level
overflow_add-level c =
    let few = small c.self.inside.levels.items c.ilog2.result c.index_mut-level.result.now (level_below c.ilog2.result (c.args.node + 1) (length c.self.inside.levels.items) c.ilog2.ensures.power_le
    (subst (λ (levels : List LevelFindings). c.args.node + 1 < 2 ^ length levels) (sym c.self.view_is) c.requires.level)) c.self.invariant c.index_mut-level.ensures.value in omega (arith, few)

pub overflow_add-level-in-Some-Changed : goal.overflow_add-level-in-Some-Changed
overflow_add-level-in-Some-Changed c =
    let few = small c.self.inside.levels.items c.ilog2.result c.index_mut-level.result.now (level_below c.ilog2.result (c.args.node + 1) (length c.self.inside.levels.items) c.ilog2.ensures.power_le
    (subst (λ (levels : List LevelFindings). c.args.node + 1 < 2 ^ length levels) (sym c.self.view_is) c.requires.level)) c.self.invariant c.index_mut-level.ensures.value in omega (arith, few)

pub overflow_add-level-in-Some-Unchecked : goal.overflow_add-level-in-Some-Unchecked
overflow_add-level-in-Some-Unchecked c =
    let few = small c.self.inside.levels.items c.ilog2.result c.index_mut-level.result.now (level_below c.ilog2.result (c.args.node + 1) (length c.self.inside.levels.items) c.ilog2.ensures.power_le
    (subst (λ (levels : List LevelFindings). c.args.node + 1 < 2 ^ length levels) (sym c.self.view_is) c.requires.level)) c.self.invariant c.index_mut-level.ensures.value in omega (arith, few)

pub overflow_add-level-in-None : goal.overflow_add-level-in-None
overflow_add-level-in-None c =
    let few = small c.self.inside.levels.items c.ilog2.result c.index_mut-level.result.now (level_below c.ilog2.result (c.args.node + 1) (length c.self.inside.levels.items) c.ilog2.ensures.power_le
    (subst (λ (levels : List LevelFindings). c.args.node + 1 < 2 ^ length levels) (sym c.self.view_is) c.requires.level)) c.self.invariant c.index_mut-level.ensures.value in omega (arith, few)
