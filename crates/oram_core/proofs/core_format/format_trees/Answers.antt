use Rattle.std.proofs.Common.{◌≡◌, ◌<◌, ℕ, [], refl, sym, ap, subst, ◌∙◌, arith}
use Rattle.oram_geometry.specs.Sizes.{trees_of}
use Rattle.oram_semantics.specs.Formatting.{IsFormatBegun}
use Rattle.oram_semantics.specs.Nonces.{formatted_below}
use Rattle.oram_bucket.specs.Cipher.{IsCipher}
use Rattle.oram_core.specs.Formatting.{AreMade}
use Rattle.oram_core.specs.Core.{scheme_with}
use Rattle.oram_tree.proofs.Puts.{if_err, broken_with}
use Rattle.oram_core.proofs.Made.{below_none, none_made, next_made, broken_between, broken_within}
use Rattle.std.proofs.lemmas.Result.{IfOk-from_err}
use Rattle.oram_core.proofs.core_format.format_trees.Goals as goal

pub returns-in_err-with_capacity-clause-broken_off : goal.returns-in_err-with_capacity-clause-broken_off
returns-in_err-with_capacity-clause-broken_off g c =
    let v = scheme_with g.S.Sealer.cipher c.args.device.now c.args.sealer.now in
    let law : IsCipher v.cipher = g.met.S.Sealer.lawful c.args.sealer.now in
    if_err c.from_residual.result _ _ c.from_residual.ensures.1
    (λ fault memory. broken_between v g.K.Sink.putting g.K.Sink.refusing c.trees.ensures.ranges law c.args.sink.now c.args.sink.now 0 [] fault (omega arith) (none_made v g.K.Sink.putting c.args.sink.now [] refl) memory)

pub loop-tree-init : goal.loop-tree-init
loop-tree-init g c =
    let v = scheme_with g.S.Sealer.cipher c.args.device.now c.args.sealer.now in
    record { nonce = sym (below_none c.args.device.now); made = none_made v g.K.Sink.putting c.args.sink.now _ c.in_ok-with_capacity.ensures.items }

pub returns-in_err-format_next-clause-broken_off : goal.returns-in_err-format_next-clause-broken_off
returns-in_err-format_next-clause-broken_off g c =
    let v = scheme_with g.S.Sealer.cipher c.args.device.now c.args.sealer.now in
    let law : IsCipher v.cipher = g.met.S.Sealer.lawful c.args.sealer.now in
    let below : c.loop-tree.tree < trees_of c.args.device.now = omega (arith, c.trees-tree-end.ensures.count) in
    if_err c.from_residual-in_err-format_next.result _ _ c.from_residual-in_err-format_next.ensures.1
    (λ fault same. broken_with g.K.Sink.putting g.K.Sink.refusing (IsFormatBegun v) c.args.sink.now c.format_next.new.sink fault c.in_err-format_next.field-0.0 same
    (broken_within v g.K.Sink.putting g.K.Sink.refusing c.trees.ensures.ranges law c.args.sink.now c.loop-tree.sink c.format_next.new.sink c.loop-tree.tree c.loop-tree.so_far.trees.items c.in_err-format_next.field-0.0 below c.loop-tree.invariant.made c.in_err-format_next.ensures.broken_off))

pub loop-tree-preserved : goal.loop-tree-preserved
loop-tree-preserved g c =
    let v = scheme_with g.S.Sealer.cipher c.args.device.now c.args.sealer.now in
    record {
      nonce = c.in_ok-format_next.ensures.nonce;
      made = next_made v g.K.Sink.putting c.args.sink.now c.loop-tree.sink c.format_next.new.sink c.loop-tree.tree c.loop-tree.so_far.trees.items c.format_next.new.so_far.trees.items c.loop-tree.invariant.made c.in_ok-format_next.ensures.made;
    }

pub returns-clause-nonce : goal.returns-clause-nonce
returns-clause-nonce g c =
    let all : c.loop-tree.tree ≡ trees_of c.args.device.now = omega (arith, c.trees-tree-end.ensures.count) in
    c.loop-tree.invariant.nonce ∙ ap (formatted_below c.args.device.now) all

pub returns-clause-made : goal.returns-clause-made
returns-clause-made g c =
    let v = scheme_with g.S.Sealer.cipher c.args.device.now c.args.sealer.now in
    let all : c.loop-tree.tree ≡ trees_of c.args.device.now = omega (arith, c.trees-tree-end.ensures.count) in
    let M = λ (n : ℕ). AreMade v g.K.Sink.putting c.args.sink.now n c.loop-tree.so_far.trees.items c.loop-tree.sink in
    subst M all c.loop-tree.invariant.made

pub returns-in_err-with_capacity-clause-nonce : goal.returns-in_err-with_capacity-clause-nonce
returns-in_err-with_capacity-clause-nonce g c = IfOk-from_err c.from_residual.result _ c.from_residual.ensures.0

pub returns-in_err-with_capacity-clause-made : goal.returns-in_err-with_capacity-clause-made
returns-in_err-with_capacity-clause-made g c = IfOk-from_err c.from_residual.result _ c.from_residual.ensures.0

pub returns-in_err-format_next-clause-nonce : goal.returns-in_err-format_next-clause-nonce
returns-in_err-format_next-clause-nonce g c = IfOk-from_err c.from_residual-in_err-format_next.result _ c.from_residual-in_err-format_next.ensures.0

pub returns-in_err-format_next-clause-made : goal.returns-in_err-format_next-clause-made
returns-in_err-format_next-clause-made g c = IfOk-from_err c.from_residual-in_err-format_next.result _ c.from_residual-in_err-format_next.ensures.0
