-- The numbers of a request.
use Rattle.std.proofs.Common.{ℕ, ◌+◌, ◌^◌, ◌<◌, ◌≤◌, arith}
use Rattle.std.proofs.Math.Nat.{pow-le-pow_right}
use Rattle.oram_geometry.specs.declared.Sizes.{Sizes}
use Rattle.oram_geometry.specs.Sizes.{depth_of}
use Rattle.oram_semantics.proofs.Bounds.{depth_small}
use Rattle.oram_records.specs.Messages.{HasNumbers}
use Rattle.oram_records.specs.declared.request.RecordsRequest.{RecordsRequest}
use Rattle.oram_rows.specs.Rows.{IsOfDevice}

-- no tree has more nodes
few_nodes : (d : Sizes) (tree : ℕ) → 2 ^ (depth_of d tree + 1) ≤ 2 ^ 25
few_nodes d tree = pow-le-pow_right (omega arith) (let e : depth_of d tree + 1 ≤ 25 = omega (arith, depth_small d tree) in e)

pub numbers_fit : (d : Sizes) (len : ℕ) (r : RecordsRequest) → IsOfDevice d len r → HasNumbers r
numbers_fit d len r of = (omega (arith, few_nodes d r.tree, of.nodes_in), omega (arith, few_nodes d r.tree, of.nodes_in))

-- so does the number of any of its nodes
pub node_fits : (d : Sizes) (len : ℕ) (r : RecordsRequest) (at : ℕ) → IsOfDevice d len r → at < r.count → r.first + at < 2 ^ 32
node_fits d len r at of within = omega (arith, few_nodes d r.tree, of.nodes_in, within)
