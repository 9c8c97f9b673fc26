use Rattle.std.proofs.Common.{◌≡◌, ◌≤◌, ◌+◌, ◌++◌, ◌*◌, drop, vec_len, vec_capacity}
use Rattle.rand_chacha.specs.ChaCha.{key_of}
use Rattle.oram_bucket.specs.Keystream.{xored_from}
use Rattle.oram_bucket.proofs.chacha.append_xored.Given as goal

abbrev pub invariant-loop-place : goal.invariant-loop-place
invariant-loop-place l = record {
  so_far : l.out.items ++ xored_from (key_of l.fn.key) l.nonce (256 * l.place) (drop (256 * l.place) l.bytes) ≡ l.fn.out.items ++ xored_from (key_of l.fn.key) l.nonce 0 l.bytes;
  key : l.generator.key ≡ key_of l.fn.key;
  stream : l.generator.stream ≡ l.nonce;
  grown : vec_len l.out ≡ vec_len l.fn.out + 256 * l.place;
  room : vec_capacity l.fn.out ≤ vec_capacity l.out;
}
