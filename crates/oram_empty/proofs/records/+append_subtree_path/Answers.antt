use Rattle.std.proofs.Common.{◌≡◌, ◌+◌, ◌-◌, ◌*◌, ◌≤◌, ◌++◌, ℕ, Bool, true, false, if◌then◌else◌, List, length, refl, ap, sym, ◌∙◌, arith}
use Rattle.std.proofs.lemmas.Result.{on_ok_weaker}
use Rattle.oram_bucket.specs.Cipher.{Cipher, IsCipher}
use Rattle.oram_tree.proofs.Puts.{node_count-twice}
use Rattle.oram_empty.specs.SubtreePaths.{subtree_path}
use Rattle.oram_empty.proofs.Subtrees.{leaf_record, path-leaf, two_records, linked_in_place}
use Rattle.oram_empty.proofs.records.+append_subtree_path.Goals as goal

either : (s : Bool) (x k b : ℕ) → x ≡ (if s then k else k + b) → x ≤ k + b
either true x k b is = omega arith
either false x k b is = omega arith

other : (s : Bool) (x k b : ℕ) → x ≡ (if s then k + b else k) → x ≤ k + b
other true x k b is = omega arith
other false x k b is = omega arith

pub returns-then-height-eq0-clause-ok : goal.returns-then-height-eq0-clause-ok
returns-then-height-eq0-clause-ok g t c =
    let seal = λ (n : ℕ). (g.S.Sealer.cipher c.args.sealer.now).sealing n c.args.plain.now in
    let path = leaf_record seal c.args.height c.args.nonce c.if-height-eq0.true ∙ sym (path-leaf seal c.args.height c.args.nonce c.args.leaf c.if-height-eq0.true) in
    on_ok_weaker c.append_record.result (λ same. same ∙ ap (λ (p : List ℕ). c.args.path.now.items ++ p) path) c.append_record.ensures.ok

pub subtree_digest-requires-clause-nonces : goal.subtree_digest-requires-clause-nonces
subtree_digest-requires-clause-nonces g t c =
    omega (arith, node_count-twice c.args.height (omega arith), c.node_count-below.ensures.value, other _ c.child_nonces-on_path.result.1 c.args.nonce c.node_count-below.result c.child_nonces-on_path.ensures.off)

each_long : (cipher : Cipher) (plain : List ℕ) → IsCipher cipher → (x : ℕ) → length (cipher.sealing x plain) + 64 ≡ cipher.overhead + length plain + 64
each_long cipher plain law x = ap (λ (n : ℕ). n + 64) (law.longer x plain)

pub link-requires-clause-two : goal.link-requires-clause-two
link-requires-clause-two g t c =
    let cipher = g.S.Sealer.cipher c.args.sealer.now in
    let plain = c.args.plain.now in
    let out = c.append_record-2.new.out in
    let old = c.args.path.now in
    two_records (λ n. cipher.sealing n plain) (cipher.overhead + length plain + 64) (c.args.height - 1) (c.args.nonce + 2 * c.node_count-below.result) c.child_nonces-on_path.result.0 c.args.leaf
    old.items c.append_subtree_path.new.path.items c.deref_mut.result.now c.len-start.result c.len.result
    (each_long cipher plain (g.met.S.Sealer.lawful c.args.sealer.now))
    (c.in_ok-append_subtree_path.ensures.ok ∙ ap (λ (xs : List ℕ). xs ++ subtree_path (λ n. cipher.sealing n plain) (c.args.height - 1) c.child_nonces-on_path.result.0 c.args.leaf) c.in_ok-append_record.ensures.ok)
    c.deref_mut.ensures.value
    (c.len-start.ensures ∙ old.ok.0)
    (c.len.ensures ∙ out.ok.0 ∙ ap length c.in_ok-append_record.ensures.ok)

pub returns-clause-ok : goal.returns-clause-ok
returns-clause-ok g t c =
    let cipher = g.S.Sealer.cipher c.args.sealer.now in
    let plain = c.args.plain.now in
    let out = c.append_record-2.new.out in
    let old = c.args.path.now in
    linked_in_place (λ n. cipher.sealing n plain) (cipher.overhead + length plain + 64) c.args.height c.args.nonce c.node_count-below.result c.args.leaf c.child_nonces-on_path.result.0 c.child_nonces-on_path.result.1
    _ c.in_ok-other.other old.items c.append_subtree_path.new.path.items c.deref_mut.result.now c.link.new.records c.len-start.result c.len.result c.append_subtree_path.new.path.len
    (each_long cipher plain (g.met.S.Sealer.lawful c.args.sealer.now))
    (omega arith) c.node_count-below.ensures.value refl c.child_nonces-on_path.ensures.on c.child_nonces-on_path.ensures.off c.in_ok-other.ensures
    (c.in_ok-append_subtree_path.ensures.ok ∙ ap (λ (xs : List ℕ). xs ++ subtree_path (λ n. cipher.sealing n plain) (c.args.height - 1) c.child_nonces-on_path.result.0 c.args.leaf) c.in_ok-append_record.ensures.ok)
    c.deref_mut.ensures.value
    (c.len-start.ensures ∙ old.ok.0)
    (c.len.ensures ∙ out.ok.0 ∙ ap length c.in_ok-append_record.ensures.ok)
    c.append_subtree_path.new.path.ok.0
    c.link.ensures c.link.auto.records
