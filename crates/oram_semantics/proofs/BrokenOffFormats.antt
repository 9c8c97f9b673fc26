-- A formatting that was broken off: its messages are a beginning of those of a whole one.
use Rattle.std.proofs.Common.{◌≡◌, ℕ, zero, suc, ◌+◌, ◌-◌, ◌^◌, ◌<◌, ◌≤◌, List, [], ◌∷◌, ◌++◌, refl, ap, sym, ◌∙◌, subst, arith, append_assoc}
use Rattle.std.proofs.lemmas.List.{append-nil}
use Rattle.sha2.specs.Sha256.{sha256}
use Rattle.oram_geometry.specs.Sizes.{IsDevice, trees_of, depth_of, record_len_of}
use Rattle.oram_geometry.proofs.DeviceSizes.{trees_of-few}
use Rattle.oram_wire.specs.HostMessages.{shape_body}
use Rattle.oram_bucket.specs.Cipher.{IsCipher}
use Rattle.oram_bucket.specs.Bucket.{spelling}
use Rattle.oram_tree.specs.Content.{node_count}
use Rattle.oram_tree.specs.Format.{PutsAll}
use Rattle.oram_tree.specs.State.{State as Tree}
use Rattle.oram_tree.specs.Subtree.{puts, root_record}
use Rattle.oram_tree.proofs.Formed.{made}
use Rattle.oram_semantics.specs.Scheme.{Scheme}
use Rattle.oram_semantics.specs.Nonces.{formatted_below}
use Rattle.oram_semantics.specs.Formatting.{IsTreeMade, AreTreesMade, IsFormatBegun}
use Rattle.oram_semantics.proofs.Bounds.{depth_small}
use Rattle.oram_semantics.proofs.NoncesApart.{formatted_small, node_count-small}
use Rattle.oram_semantics.proofs.Formatting.{one_more_made}

-- a sink that takes anything
abbrev takes_all : ℕ → List ℕ → ℕ → Type 0
takes_all from body to = Unit {0}

all_taken : (bodies : List (List ℕ)) → PutsAll takes_all 0 bodies 0
all_taken [] = refl
all_taken (body ∷ bodies) = (0, tt, all_taken bodies)

-- each tree can be made
tree_made : (v : Scheme) (i : ℕ) → IsDevice v.device → IsCipher v.cipher → i < trees_of v.device
    → (tree : Tree) × (bodies : List (List ℕ)) × IsTreeMade v i tree bodies
tree_made v i device law below =
    let d = v.device in
    let nonce : ℕ = formatted_below d i in
    let few : trees_of d ≤ 14 = trees_of-few d device in
    let fits : nonce + node_count (depth_of d i) ≤ 2 ^ 64 =
    omega (arith, formatted_small d i, node_count-small (depth_of d i) (depth_small d i)) in
    let bodies = puts (λ n. v.cipher.sealing n (spelling d [])) i (depth_of d i) nonce 0 in
    let is = made takes_all 0 0 0 v.cipher d i (depth_of d i) (record_len_of d v.cipher.overhead) nonce (shape_body i (depth_of d i) (record_len_of d v.cipher.overhead)) (sha256 (root_record (λ n. v.cipher.sealing n (spelling d [])) (depth_of d i) nonce))
    device refl refl law fits refl tt (all_taken bodies) refl in
    (record { number = i; root = sha256 (root_record (λ n. v.cipher.sealing n (spelling d [])) (depth_of d i) nonce); stash = [] }, is.0, record { number = refl; made = is.2 })

-- and so can those that are left
rest_made : (v : Scheme) (left n : ℕ) (trees : List Tree) (messages : List (List ℕ)) → IsDevice v.device → IsCipher v.cipher
    → n + left ≡ trees_of v.device → AreTreesMade v n trees messages → IsFormatBegun v messages
rest_made v zero n trees messages device law all are =
    let same : n ≡ trees_of v.device = omega arith in
    ([], trees, subst (λ (ms : List (List ℕ)). AreTreesMade v (trees_of v.device) trees ms) (sym (append-nil messages)) (subst (λ (k : ℕ). AreTreesMade v k trees messages) same are))
rest_made v (suc left) n trees messages device law all are =
    let one = tree_made v n device law (omega arith) in
    let next =
    rest_made v left (n + 1) (trees ++ one.0 ∷ []) (messages ++ one.1) device law (omega arith) (one_more_made v n trees messages one.1 one.0 are one.2) in
    (one.1 ++ next.0, next.1, subst (λ (ms : List (List ℕ)). AreTreesMade v (trees_of v.device) next.1 ms) (append_assoc messages one.1 next.0) next.2)

-- if some trees were made,
pub begun_between : (v : Scheme) (n : ℕ) (trees : List Tree) (messages : List (List ℕ)) → IsDevice v.device → IsCipher v.cipher
    → n ≤ trees_of v.device → AreTreesMade v n trees messages → IsFormatBegun v messages
begun_between v n trees messages device law few are =
    rest_made v (trees_of v.device - n) n trees messages device law (omega arith) are

-- and the next one in part
pub begun_within : (v : Scheme) (n : ℕ) (trees : List Tree) (tree : Tree) (messages taken more : List (List ℕ))
    → IsDevice v.device → IsCipher v.cipher → n < trees_of v.device → AreTreesMade v n trees messages
    → IsTreeMade v n tree (taken ++ more) → IsFormatBegun v (messages ++ taken)
begun_within v n trees tree messages taken more device law few are one =
    let next =
    begun_between v (n + 1) (trees ++ tree ∷ []) (messages ++ (taken ++ more)) device law (omega arith) (one_more_made v n trees messages (taken ++ more) tree are one) in (
      more ++ next.0,
      next.1,
      subst (λ (ms : List (List ℕ)). AreTreesMade v (trees_of v.device) next.1 ms) (
          append_assoc messages (taken ++ more) next.0 ∙ ap (λ ms. messages ++ ms) (append_assoc taken more next.0)
          ∙ sym (append_assoc messages taken (more ++ next.0))) next.2,
    )
