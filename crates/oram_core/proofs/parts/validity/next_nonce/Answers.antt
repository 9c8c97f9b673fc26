use Rattle.std.proofs.Common.{◌≡◌, ◌+◌, ◌-◌, ◌*◌, ◌/◌, ◌^◌, ◌≤◌, ap, ◌∙◌, arith}
use Rattle.std.proofs.Math.Nat.{mul-le-mul}
use Rattle.oram_geometry.specs.Sizes.{trees_of}
use Rattle.oram_semantics.specs.Nonces.{formatted, buckets_below}
use Rattle.oram_semantics.proofs.Nonces.{no_buckets}
use Rattle.oram_semantics.proofs.NoncesApart.{formatted_small}
use Rattle.oram_core.proofs.Sound.{buckets_small}
use Rattle.oram_core.proofs.parts.validity.next_nonce.Goals as goal

pub overflow_mul-result : goal.overflow_mul-result
overflow_mul-result c =
    let d = c.args.device.now in
    let path : c.path_buckets.result ≤ 25 * 14 = omega (arith, c.path_buckets.ensures, buckets_small d (trees_of d), c.trees.ensures.few, c.trees.ensures.count) in
    let many : c.args.answered * c.path_buckets.result ≤ 2 ^ 40 * (25 * 14) = mul-le-mul c.requires.answered path in
    omega (arith, many)

pub overflow_add-result : goal.overflow_add-result
overflow_add-result c =
    let d = c.args.device.now in
    let path : c.path_buckets.result ≤ 25 * 14 = omega (arith, c.path_buckets.ensures, buckets_small d (trees_of d), c.trees.ensures.few, c.trees.ensures.count) in
    let many : c.args.answered * c.path_buckets.result ≤ 2 ^ 40 * (25 * 14) = mul-le-mul c.requires.answered path in
    omega (arith, many, c.formatted.ensures, formatted_small d (trees_of d), c.trees.ensures.few, c.trees.ensures.count)

pub overflow_add-result-2 : goal.overflow_add-result-2
overflow_add-result-2 c =
    let d = c.args.device.now in
    let path : c.path_buckets.result ≤ 25 * 14 = omega (arith, c.path_buckets.ensures, buckets_small d (trees_of d), c.trees.ensures.few, c.trees.ensures.count) in
    let rest : c.path_buckets-2.result ≤ 25 * 14 = omega (arith, c.path_buckets-2.ensures, buckets_small d (trees_of d), c.trees.ensures.few, c.trees.ensures.count) in
    let many : c.args.answered * c.path_buckets.result ≤ 2 ^ 40 * (25 * 14) = mul-le-mul c.requires.answered path in
    omega (arith, many, rest, c.formatted.ensures, formatted_small d (trees_of d), c.trees.ensures.few, c.trees.ensures.count)

pub returns : goal.returns
returns c =
    let d = c.args.device.now in
    let all : c.path_buckets.result ≡ buckets_below d (trees_of d) = c.path_buckets.ensures ∙ ap (λ (k : _). buckets_below d (trees_of d) - k) (no_buckets d) ∙ omega arith in
    rw (c.formatted.ensures, all) (ap (λ (k : _). formatted d + c.args.answered * buckets_below d (trees_of d) + k) (c.path_buckets-2.ensures ∙ ap (λ (k : _). buckets_below d (trees_of d) - buckets_below d (k - (c.args.entry_number + 1) / 2)) c.trees.ensures.count))
