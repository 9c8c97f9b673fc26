use Rattle.std.proofs.Common.{rules, ◌≡◌, ◌+◌, ◌*◌, ◌≤◌, sym, subst, arith, ℕ, replicate}
use Rattle.oram_semantics.proofs.Bounds.{depth_small}
use Rattle.oram_empty.specs.Collecting.{IsCollection, blank, collection_of}
use Rattle.oram_empty.proofs.Collected.{blank_collection, blank_is}
use Rattle.oram_empty.proofs.format_sink.FormatSink.new.Goals as goal

pub near_nodes-requires : goal.near_nodes-requires
near_nodes-requires c = omega (arith, c.requires.near, depth_small c.args.device.now 0)

module _ (c : goal.After-copy) where
  zeros : c.in_ok-bytes.bytes.items ≡ replicate (c.near_nodes.result * c.record_len-record_len.result + c.digests_len.result) 0
  zeros = search rules

  is_blank : collection_of c.copy.result c.record_len-record_len.result c.args.near c.in_ok-bytes.bytes.items ≡ blank c.args.device.now c.args.overhead c.args.near
  is_blank =
      blank_is c.args.device.now c.copy.result c.args.overhead c.args.near c.record_len-record_len.result c.near_nodes.result c.digests_len.result c.in_ok-bytes.bytes.items
      c.copy.ensures c.record_len-record_len.ensures.value c.near_nodes.ensures.value c.digests_len.ensures.value zeros

pub invariant_of-result : goal.invariant_of-result
invariant_of-result c =
    let len = c.record_len-record_len in
    let P : ℕ → Type 0 = λ n. 64 ≤ n in
    let Q : ℕ → Type 0 = λ n. n ≤ 32960 in
    subst IsCollection (sym (is_blank c))
    (blank_collection c.args.device.now c.args.overhead c.args.near (omega (arith, c.requires.near, depth_small c.args.device.now 0))
    (subst P len.ensures.value (omega (arith, len.ensures.holds_digests))) (subst Q len.ensures.value len.ensures.range))

pub returns : goal.returns
returns c = is_blank c
