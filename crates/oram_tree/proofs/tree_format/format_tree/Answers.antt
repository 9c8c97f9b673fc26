use Rattle.std.proofs.Common.{◌^◌, ◌≤◌, ℕ, List, [], ◌∷◌, refl, sym, ap, subst, ◌∙◌, arith}
use Rattle.std.proofs.Math.Nat.{pow-le-pow_right}
use Rattle.std.proofs.lemmas.Result.{IfErr-weaker}
use Rattle.oram_geometry.specs.Sizes.{depth_of, record_len_of}
use Rattle.oram_bucket.specs.Bucket.{spelling}
use Rattle.oram_wire.specs.HostMessages.{shape_body}
use Rattle.oram_tree.specs.Subtree.{puts}
use Rattle.oram_tree.proofs.Formed.{made, begun, both}
use Rattle.oram_tree.proofs.Puts.{if_err, stands_still, refused_first, broken_after}
use Rattle.oram_tree.proofs.tree_format.format_tree.Goals as goal

pub put_subtree-requires-clause-nodes : goal.put_subtree-requires-clause-nodes
put_subtree-requires-clause-nodes g c = let most : 2 ^ c.depth.result ≤ 2 ^ 24 = pow-le-pow_right (omega arith) c.depth.ensures.range in omega arith

pub returns-clause-made : goal.returns-clause-made
returns-clause-made g c =
    let d = c.args.device.now in
    let i = c.args.tree in
    let len = record_len_of d (g.S.Sealer.cipher c.args.sealer.now).overhead in
    let shape_is = c.deref.ensures.value ∙ c.in_ok-shape.ensures ∙ ap (λ (o : ℕ). shape_body i (depth_of d i) (record_len_of d o)) c.overhead.ensures ∙ ap (λ (h : ℕ). shape_body i h len) (sym c.depth.ensures.count) in
    both c.put_subtree.result _ _ _ c.put_subtree.ensures.digest c.put_subtree.ensures.put (λ root digest put.
    made g.K.Sink.putting c.args.sink.now c.put.new.self c.put_subtree.new.sink (g.S.Sealer.cipher c.args.sealer.now) d i c.depth.result len c.args.nonce c.deref.result.now root
    c.trees.ensures.ranges c.depth.ensures.count refl (g.met.S.Sealer.lawful c.args.sealer.now) c.requires.nonces shape_is c.in_ok-put.ensures.taken put digest)

pub returns-in_err-shape-clause-broken_off : goal.returns-in_err-shape-clause-broken_off
returns-in_err-shape-clause-broken_off g c =
    let begins = λ (xs : List (List ℕ)). begun (g.S.Sealer.cipher c.args.sealer.now) c.args.device.now c.args.tree c.args.nonce xs
    c.trees.ensures.ranges (g.met.S.Sealer.lawful c.args.sealer.now) c.requires.nonces in
    if_err c.from_residual.result _ _ c.from_residual.ensures.1
    (λ fault memory. stands_still g.K.Sink.putting g.K.Sink.refusing _ c.args.sink.now c.args.sink.now fault (begins [] (_, refl)) memory refl)

pub returns-in_err-put-clause-broken_off : goal.returns-in_err-put-clause-broken_off
returns-in_err-put-clause-broken_off g c =
    let d = c.args.device.now in
    let i = c.args.tree in
    let R = λ (body : List ℕ). g.K.Sink.refusing c.args.sink.now body c.in_err-put.field-0.0 c.put.new.self in
    let begins = λ (xs : List (List ℕ)). begun (g.S.Sealer.cipher c.args.sealer.now) d i c.args.nonce xs
    c.trees.ensures.ranges (g.met.S.Sealer.lawful c.args.sealer.now) c.requires.nonces in
    let shape_is = c.deref.ensures.value ∙ c.in_ok-shape.ensures ∙ ap (λ (o : ℕ). shape_body i (depth_of d i) (record_len_of d o)) c.overhead.ensures in
    if_err c.from_residual-in_err-put.result _ _ c.from_residual-in_err-put.ensures.1
    (λ fault reported. refused_first g.K.Sink.putting g.K.Sink.refusing _ c.args.sink.now c.put.new.self fault (shape_body i (depth_of d i) (record_len_of d (g.S.Sealer.cipher c.args.sealer.now).overhead)) c.in_err-put.field-0.0
    (begins [] (_, refl)) (begins (_ ∷ []) (_, refl)) (subst R shape_is c.in_err-put.ensures.refused) reported)

pub returns-clause-broken_off : goal.returns-clause-broken_off
returns-clause-broken_off g c =
    let d = c.args.device.now in
    let i = c.args.tree in
    let seal = λ (n : ℕ). (g.S.Sealer.cipher c.args.sealer.now).sealing n (spelling d []) in
    let shape = shape_body i (depth_of d i) (record_len_of d (g.S.Sealer.cipher c.args.sealer.now).overhead) in
    let F = λ (body : List ℕ). g.K.Sink.putting c.args.sink.now body c.put.new.self in
    let begins = λ (xs : List (List ℕ)). begun (g.S.Sealer.cipher c.args.sealer.now) d i c.args.nonce xs
    c.trees.ensures.ranges (g.met.S.Sealer.lawful c.args.sealer.now) c.requires.nonces in
    let shape_is = c.deref.ensures.value ∙ c.in_ok-shape.ensures ∙ ap (λ (o : ℕ). shape_body i (depth_of d i) (record_len_of d o)) c.overhead.ensures in
    IfErr-weaker c.put_subtree.result _ _
    (λ fault b. broken_after g.K.Sink.putting g.K.Sink.refusing _ _ c.args.sink.now c.put.new.self c.put_subtree.new.sink fault (shape ∷ [])
    (λ xs s. begins (shape ∷ xs) (s.0, ap (λ (ys : List (List ℕ)). shape ∷ ys) (s.1 ∙ ap (λ (h : ℕ). puts seal i h c.args.nonce 0) c.depth.ensures.count)))
    (c.put.new.self, subst F shape_is c.in_ok-put.ensures.taken, refl) b) c.put_subtree.ensures.broken_off
