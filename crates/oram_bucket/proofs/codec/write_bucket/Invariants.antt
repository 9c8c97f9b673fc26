use Rattle.std.proofs.Common.{◌≡◌, take, map}
use Rattle.std.specs.List.{flat_map}
use Rattle.oram_bucket.specs.Bytes.{IsBytes}
use Rattle.oram_bucket.specs.Bucket.{slot_of}
use Rattle.oram_bucket.proofs.codec.write_bucket.Given as goal

abbrev pub invariant-loop-block : goal.invariant-loop-block
invariant-loop-block l = record {
  so_far : l.bucket.items ≡ flat_map slot_of (take l.block-index (map (λ b. b.now) l.blocks));
  bytes : IsBytes l.bucket.items;
}
