use Rattle.std.proofs.Common.{ℕ, List, ap, ◌∙◌, arith, bit_xor, take_all}
use Rattle.std.specs.Simd.Lanes.{zip2}
use Rattle.rand_chacha.specs.ChaCha.{ChaCha}
use Rattle.oram_bucket.proofs.chacha.xored_block.Goals as goal

pub returns-clause-value : goal.returns-clause-value
returns-clause-value c =
    ap (λ (b : List ℕ). zip2 bit_xor b c.next_lanes.result) (take_all 64 c.args.block.now (omega (arith, c.requires)))
    ∙ ap (λ (p : List ℕ × ChaCha). zip2 bit_xor c.args.block.now p.0) c.next_lanes.ensures
