use Rattle.std.proofs.Common.{◌≡◌, length, IfOk}
use Rattle.std.specs.Slice.Iter.{chunks_exact_rest, chunks_exact_size}
use Rattle.oram_bucket.proofs.Decoder.{IsAt}
use Rattle.oram_bucket.proofs.codec.decode_bucket.Given as goal

abbrev pub invariant-loop-slot : goal.invariant-loop-slot
invariant-loop-slot l =
    IsAt l.device l.tree l.bytes (length l.yielded) (chunks_exact_rest l.slot-iterator) (chunks_exact_size l.slot-iterator) l.before (λ cells. IfOk l.blocks (λ v. v.items ≡ cells))
