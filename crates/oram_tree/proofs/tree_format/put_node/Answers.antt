use Rattle.std.proofs.Common.{List, ℕ, [], refl, subst, ◌∙◌, ap}
use Rattle.oram_wire.specs.HostMessages.{put_body}
use Rattle.oram_tree.proofs.Puts.{if_err, stands_still, refused_first}
use Rattle.oram_tree.proofs.tree_format.put_node.Goals as goal

pub returns-in_err-record-clause-broken_off : goal.returns-in_err-record-clause-broken_off
returns-in_err-record-clause-broken_off g c =
    if_err c.from_residual.result _ _ c.from_residual.ensures.1
    (λ fault memory. stands_still g.K.Sink.putting g.K.Sink.refusing _ c.args.sink.now c.args.sink.now fault (_, refl) memory refl)

pub returns-in_err-body-clause-broken_off : goal.returns-in_err-body-clause-broken_off
returns-in_err-body-clause-broken_off g c =
    if_err c.from_residual-in_err-body.result _ _ c.from_residual-in_err-body.ensures.1
    (λ fault memory. stands_still g.K.Sink.putting g.K.Sink.refusing _ c.args.sink.now c.args.sink.now fault (_, refl) memory refl)

pub returns-in_err-put-clause-broken_off : goal.returns-in_err-put-clause-broken_off
returns-in_err-put-clause-broken_off g c =
    let R = λ (body : List ℕ). g.K.Sink.refusing c.args.sink.now body c.in_err-put.field-0.0 c.put.new.self in
    if_err c.from_residual-in_err-put.result _ _ c.from_residual-in_err-put.ensures.1
    (λ fault reported. refused_first g.K.Sink.putting g.K.Sink.refusing _ c.args.sink.now c.put.new.self fault _ c.in_err-put.field-0.0 (_, refl) ([], refl)
    (subst R (c.deref-2.ensures.value ∙ c.in_ok-body.ensures ∙ ap (put_body c.args.tree c.args.node) c.in_ok-record.ensures) c.in_err-put.ensures.refused) reported)
