use Rattle.std.proofs.Common.{◌≡◌, ◌+◌, ◌-◌, ◌*◌, ◌<◌, ◌++◌, ℕ, List, [], ap, sym, ◌∙◌, subst, length}
use Rattle.std.proofs.lemmas.Result.{on_ok_weaker}
use Rattle.oram_geometry.specs.declared.Sizes.{Sizes}
use Rattle.oram_geometry.specs.Sizes.{depth_of}
use Rattle.oram_geometry.specs.Path.{node_on}
use Rattle.oram_bucket.specs.Bucket.{spelling}
use Rattle.oram_bucket.specs.Cipher.{Cipher}
use Rattle.oram_tree.specs.Content.{node_count}
use Rattle.oram_semantics.specs.Nonces.{formatted_below}
use Rattle.oram_empty.specs.EmptyRecords.{begins_at}
use Rattle.oram_empty.specs.KeptDigests.{Digests, children_in, upper_count, upper_record}
use Rattle.oram_empty.proofs.Counts.{upper_node}
use Rattle.oram_empty.proofs.Joined.{length-upper}
use Rattle.oram_empty.proofs.digests.EmptyDigests.append_upper.Goals as goal

-- the parts that were appended are the upper record
upper_made : (cipher : Cipher) (s : Digests) (dev : Sizes) (tree leaf level depth k b n : ℕ) (plain digests : List ℕ) → dev ≡ s.device → plain ≡ spelling s.device [] → depth ≡ depth_of dev tree
    → b ≡ node_count (depth - (level + 1)) → k ≡ begins_at (formatted_below dev tree) (depth_of dev tree) leaf level → n ≡ node_on (depth_of dev tree) leaf level → digests ≡ children_in s.device s.bytes tree n
    → cipher.sealing (k + 2 * b) plain ++ digests ≡ upper_record cipher s tree leaf level
upper_made cipher s dev tree leaf level depth k b n plain digests same plain_is depth_is b_is k_is n_is digests_are =
    let d = s.device in
    ap (λ (x : ℕ). cipher.sealing (x + 2 * b) plain ++ digests) (k_is ∙ ap (λ (t : Sizes). begins_at (formatted_below t tree) (depth_of t tree) leaf level) same)
    ∙ ap (λ (x : ℕ). cipher.sealing (begins_at (formatted_below d tree) (depth_of d tree) leaf level + 2 * x) plain ++ digests)
    (b_is ∙ ap (λ (x : ℕ). node_count (x - (level + 1))) depth_is ∙ ap (λ (t : Sizes). node_count (depth_of t tree - (level + 1))) same)
    ∙ ap (λ (xs : List ℕ). cipher.sealing (begins_at (formatted_below d tree) (depth_of d tree) leaf level + 2 * node_count (depth_of d tree - (level + 1))) xs ++ digests) plain_is
    ∙ ap (λ (xs : List ℕ). cipher.sealing (begins_at (formatted_below d tree) (depth_of d tree) leaf level + 2 * node_count (depth_of d tree - (level + 1))) (spelling d []) ++ xs)
    (digests_are ∙ ap (children_in d s.bytes tree) (n_is ∙ ap (λ (t : Sizes). node_on (depth_of t tree) leaf level) same))

pub children-digests-requires-clause-node : goal.children-digests-requires-clause-node
children-digests-requires-clause-node g c =
    let d = c.args.self.now.device in
    let is : c.node_on.result ≡ node_on (depth_of d c.args.tree) c.args.leaf c.args.level = c.node_on.ensures.value ∙ ap (λ (t : Sizes). node_on (depth_of t c.args.tree) c.args.leaf c.args.level) c.device-device.ensures in
    let F : ℕ → Type 0 = λ n. n < upper_count (depth_of d c.args.tree) in
    subst F (sym is) (upper_node (depth_of d c.args.tree) c.args.leaf c.args.level c.requires.leaf c.requires.level)

pub returns-clause-ok : goal.returns-clause-ok
returns-clause-ok g c =
    let cipher = g.S.Sealer.cipher c.args.sealer.now in
    on_ok_weaker c.append_record.result
    (λ same. same ∙ ap (λ (r : List ℕ). c.args.path.now.items ++ r) (upper_made cipher c.args.self.now c.device-device.result.now c.args.tree c.args.leaf c.args.level c.depth.result c.begins_at.result c.node_count-below.result c.node_on.result c.args.plain.now c.children-digests.result.now
    c.device-device.ensures c.requires.plain c.depth.ensures.count c.node_count-below.ensures.value c.begins_at.ensures.value c.node_on.ensures.value c.children-digests.ensures.digests)) c.append_record.ensures.ok

pub returns-clause-len : goal.returns-clause-len
returns-clause-len g c =
    let cipher = g.S.Sealer.cipher c.args.sealer.now in
    let d = c.args.self.now.device in
    let is : c.node_on.result ≡ node_on (depth_of d c.args.tree) c.args.leaf c.args.level = c.node_on.ensures.value ∙ ap (λ (t : Sizes). node_on (depth_of t c.args.tree) c.args.leaf c.args.level) c.device-device.ensures in
    let pair = ap (λ (n : ℕ). length (children_in d c.args.self.now.bytes c.args.tree n)) (sym is) ∙ ap length (sym c.children-digests.ensures.digests) ∙ c.children-digests.ensures.len in
    on_ok_weaker c.append_record.result (λ _. length-upper cipher c.args.self.now c.args.tree c.args.leaf c.args.level (g.met.S.Sealer.lawful c.args.sealer.now) pair) c.append_record.ensures.ok
