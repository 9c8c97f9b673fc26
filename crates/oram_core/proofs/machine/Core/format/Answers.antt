use Rattle.std.proofs.Common.{◌-◌, ℕ, refl, ap, ◌∙◌, arith, replicate}
use Rattle.oram_geometry.specs.Sizes.{trees_of, blocks_in}
use Rattle.oram_bucket.specs.Cipher.{IsCipher}
use Rattle.oram_core.specs.Core.{scheme_with}
use Rattle.oram_tree.proofs.Puts.{if_err}
use Rattle.oram_core.proofs.Made.{new_sound, broken_between}
use Rattle.std.proofs.lemmas.Result.{IfOk-from_err}
use Rattle.oram_core.proofs.machine.Core.format.Goals as goal

pub returns-in_err-table-clause-broken_off : goal.returns-in_err-table-clause-broken_off
returns-in_err-table-clause-broken_off g c =
    let d = c.args.device in
    let s = c.args.sealer in
    let v = scheme_with g.S.Sealer.cipher d s in
    let law : IsCipher v.cipher = g.met.S.Sealer.lawful s in
    if_err c.from_residual-in_err-table.result _ _ c.from_residual-in_err-table.ensures.1
    (λ fault memory. broken_between v g.K.Sink.putting g.K.Sink.refusing c.trees.ensures.ranges law c.args.sink.now c.format_trees.new.sink (trees_of d) c.in_ok-trees.field-0.trees.items fault (omega arith) c.in_ok-trees.ensures.made memory)

pub invariant_of-result : goal.invariant_of-result
invariant_of-result g c =
    let d = c.args.device in
    let v = scheme_with g.S.Sealer.cipher d c.args.sealer in
    let table_is = c.in_ok-table.ensures.items_if_clones_equal (λ y e. e) ∙ ap (λ (n : ℕ). replicate n 0) (c.blocks_in-blocks.ensures.count ∙ ap (λ (n : ℕ). blocks_in d (n - 1)) c.trees.ensures.count) in
    new_sound v g.K.Sink.putting c.args.sink.now c.format_trees.new.sink c.in_ok-trees.field-0.trees.items _ c.trees.ensures.ranges (g.met.S.Sealer.lawful c.args.sealer).small c.in_ok-trees.ensures.made
    table_is refl refl c.in_ok-trees.ensures.nonce c.new.ensures.items refl refl (c.from_vec.ensures ∙ c.new-2.ensures.items) (c.from_vec-2.ensures ∙ c.new-3.ensures.items) refl refl

pub returns-in_err-trees-clause-device : goal.returns-in_err-trees-clause-device
returns-in_err-trees-clause-device g c = IfOk-from_err c.from_residual.result _ c.from_residual.ensures.0

pub returns-in_err-trees-clause-sealer : goal.returns-in_err-trees-clause-sealer
returns-in_err-trees-clause-sealer g c = IfOk-from_err c.from_residual.result _ c.from_residual.ensures.0

pub returns-in_err-trees-clause-made : goal.returns-in_err-trees-clause-made
returns-in_err-trees-clause-made g c = IfOk-from_err c.from_residual.result _ c.from_residual.ensures.0

pub returns-in_err-table-clause-device : goal.returns-in_err-table-clause-device
returns-in_err-table-clause-device g c = IfOk-from_err c.from_residual-in_err-table.result _ c.from_residual-in_err-table.ensures.0

pub returns-in_err-table-clause-sealer : goal.returns-in_err-table-clause-sealer
returns-in_err-table-clause-sealer g c = IfOk-from_err c.from_residual-in_err-table.result _ c.from_residual-in_err-table.ensures.0

pub returns-in_err-table-clause-made : goal.returns-in_err-table-clause-made
returns-in_err-table-clause-made g c = IfOk-from_err c.from_residual-in_err-table.result _ c.from_residual-in_err-table.ensures.0

pub returns-in_err-noted-clause-broken_off : goal.returns-in_err-noted-clause-broken_off
returns-in_err-noted-clause-broken_off g c =
    let d = c.args.device in
    let s = c.args.sealer in
    let v = scheme_with g.S.Sealer.cipher d s in
    let law : IsCipher v.cipher = g.met.S.Sealer.lawful s in
    if_err c.from_residual-in_err-noted.result _ _ c.from_residual-in_err-noted.ensures.1
    (λ fault memory. broken_between v g.K.Sink.putting g.K.Sink.refusing c.trees.ensures.ranges law c.args.sink.now c.format_trees.new.sink (trees_of d) c.in_ok-trees.field-0.trees.items fault (omega arith) c.in_ok-trees.ensures.made memory)
