-- A formatted device: each tree stands, without blocks, in the records that the messages of the formatting leave.
use Rattle.std.proofs.Math.Path.{fun_ext}
use Rattle.std.proofs.Common.{◌≡◌, ℕ, zero, suc, ◌+◌, ◌*◌, ◌^◌, ◌<◌, ◌≤◌, List, [], ◌∷◌, ◌++◌, length, reverse, slice_index_or, Option, refl, ap, sym, ◌∙◌, subst, arith, inl, inr, length-append}
use Rattle.std.specs.List.{flat_map}
use Rattle.std.proofs.Math.Nat.{pow-le-pow_right}
use Rattle.std.proofs.Math.Seq.{take-nil}
use Rattle.std.proofs.lemmas.Nat.{pow-add, pow_pos}
use Rattle.std.proofs.lemmas.Grind.{flat_map-append}
use Rattle.std.proofs.lemmas.List.{append-nil, get_or_at, get_or_append_left}
use Rattle.std.proofs.lemmas.Bool.{cases_eq}
use Rattle.std.proofs.lemmas.Bool.Decides.{eqb_tells}
use Rattle.oram_geometry.specs.declared.Sizes.{Sizes}
use Rattle.oram_geometry.specs.Sizes.{trees_of, depth_of, record_len_of}
use Rattle.oram_wire.specs.HostMessages.{put_body}
use Rattle.sha2.specs.Sha256.{sha256}
use Rattle.oram_hash.specs.Record.{HoldsDigests, no_digest, sealed_part}
use Rattle.oram_hash.specs.Tree.{IsStored}
use Rattle.oram_bucket.specs.Cell.{Cell}
use Rattle.oram_bucket.specs.SealedBlocks.{Reads}
use Rattle.oram_tree.specs.Content.{Map, HasContent, Holds, no_blocks, node_count}
use Rattle.oram_tree.specs.State.{State as Tree, IsStoredWith}
use Rattle.oram_semantics.specs.Scheme.{Scheme}
use Rattle.oram_semantics.specs.Messages.{last_stored, written}
use Rattle.oram_semantics.specs.Progress.{Setting, accepted, progress, sent, records_of}
use Rattle.oram_semantics.specs.Content.{accesses, content_after, content_of}
use Rattle.oram_semantics.specs.Trees.{Stands}
use Rattle.oram_semantics.specs.State.{AllStand, no_tree}
use Rattle.oram_semantics.specs.Formatting.{IsTreeMade, AreTreesMade, IsFormatted}
use Rattle.oram_semantics.specs.Law.{new_state, world_of}
use Rattle.oram_semantics.proofs.Bounds.{depth_small}
use Rattle.oram_semantics.proofs.PostOrder.{Each, Some1, each_append, some_left, some_right, LeavesAtMost, Leaves, stored_one, written_shape, put_leaves, put_here, each_put, some_put}

-- what a tree requires of the records, it requires only of those of its nodes

module _ (depth size : ℕ) (root : List ℕ) (records others : ℕ → List ℕ) (same : (n : ℕ) → n < node_count depth → records n ≡ others n) where
  double : 2 ^ (depth + 1) ≡ 2 ^ depth * 2
  double = pow-add 2 depth 1

  stored_over : IsStored depth size root records → IsStored depth size root others
  stored_over s = record {
    lengths = λ n below. ap length (sym (same n below)) ∙ s.lengths n below;
    top = ap sha256 (sym (same 0 (omega (arith, double, pow_pos depth)))) ∙ s.top;
    inner = λ n below.
        let both : HoldsDigests (records n) (sha256 (others (2 * n + 1))) (sha256 (others (2 * n + 2))) =
        subst (λ (r : List ℕ). HoldsDigests (records n) (sha256 (others (2 * n + 1))) (sha256 r)) (same (2 * n + 2) (omega (arith, double)))
        (subst (λ (r : List ℕ). HoldsDigests (records n) (sha256 r) (sha256 (records (2 * n + 2)))) (same (2 * n + 1) (omega (arith, double))) (s.inner n below)) in
        subst (λ (r : List ℕ). HoldsDigests r (sha256 (others (2 * n + 1))) (sha256 (others (2 * n + 2)))) (same n (omega (arith, double, pow_pos depth))) both;
    leaves = λ n low below. subst (λ (r : List ℕ). HoldsDigests r no_digest no_digest) (same n below) (s.leaves n low below);
  }

  back : (reads : List ℕ → List Cell → Type 0) (n : ℕ) (c : Cell) → n < node_count depth → Holds reads (others n) c
      → Holds reads (records n) c
  back reads n c below h = subst (λ (r : List ℕ). Holds reads r c) (sym (same n below)) h

  content_over : (reads : List ℕ → List Cell → Type 0) (stash : List Cell) (content : Map)
      → HasContent reads depth records stash content → HasContent reads depth others stash content
  content_over reads stash content h = record {
    readable = λ n below. subst (λ (r : List ℕ). (cells : List Cell) × reads (sealed_part r) cells) (same n below) (h.readable n below);
    on_own_path = λ n c below holds. h.on_own_path n c below (back reads n c below holds);
    once_in_tree = λ n m c d below small holds holds'. h.once_in_tree n m c d below small (back reads n c below holds) (back reads m d small holds');
    once_in_stash = h.once_in_stash;
    once_in_all = λ n c d below holds. h.once_in_all n c d below (back reads n c below holds);
    from_tree = λ n c below holds. h.from_tree n c below (back reads n c below holds);
    from_stash = h.from_stash;
    held = λ a some. elim (h.held a some) [
      | inl stashed ↦ inl stashed
      | inr there ↦ inr (there.0, there.1, there.2, there.3, subst (λ (r : List ℕ). Holds reads r there.0) (same there.1 there.3) there.4)
    ];
  }

pub stored_with_over : (opening : List ℕ → Option (List ℕ)) (overhead : ℕ) (d : Sizes) (t : Tree)
    (records others : ℕ → List ℕ) (content : Map) → ((n : ℕ) → n < node_count (depth_of d t.number) → records n ≡ others n)
    → IsStoredWith opening overhead d t records content → IsStoredWith opening overhead d t others content
stored_with_over opening overhead d t records others content same s = record {
  stands = stored_over (depth_of d t.number) (record_len_of d overhead) t.root records others same s.stands;
  holds = content_over (depth_of d t.number) (record_len_of d overhead) t.root records others same (Reads opening d t.number) t.stash content s.holds;
}

-- the messages of one tree leave its records at its nodes, and no records in other trees

each_part : (v : Scheme) (j i n : ℕ) (r : List ℕ) (tree : Tree) (bodies : List (List ℕ)) (made : IsTreeMade v j tree bodies)
    → (j ≡ i → made.made.records n ≡ r) → Each (LeavesAtMost v i n r) bodies
each_part v j i n r tree bodies made is =
    let m = made.made in
    let k : ℕ = tree.number in
    subst (Each (LeavesAtMost v i n r)) (sym m.bodies_are) (
      inl (written_shape v k (depth_of v.device k) (record_len_of v.device v.cipher.overhead) i n),
      each_put (LeavesAtMost v i n r) (λ q. put_body k q (m.records q)) (depth_of v.device k) (depth_small v.device k) (λ q small. put_leaves v k q i n m.records r small (λ e. is (sym made.number ∙ e))),
    )

some_part : (v : Scheme) (i n : ℕ) (tree : Tree) (bodies : List (List ℕ)) (made : IsTreeMade v i tree bodies)
    → n < node_count (depth_of v.device i) → Some1 (Leaves v i n (made.made.records n)) bodies
some_part v i n tree bodies made below =
    let m = made.made in
    let k : ℕ = tree.number in
    let small : n < 2 ^ 32 = omega (arith, below_most (depth_of v.device i) (depth_small v.device i)) in
    subst (Some1 (Leaves v i n (m.records n))) (sym m.bodies_are)
    (inr (some_put (Leaves v i n (m.records n)) (λ q. put_body k q (m.records q)) (depth_of v.device k) n (subst (λ (q : ℕ). n < node_count (depth_of v.device q)) (sym made.number) below)
    (ap (λ t. written v (put_body t n (m.records n)) i n) made.number ∙ put_here v i n (m.records n) small)))
  where
    below_most : (depth : ℕ) → depth ≤ 24 → node_count depth ≤ 2 ^ 25
    below_most depth few =
        let most : 2 ^ depth ≤ 2 ^ 24 = pow-le-pow_right {n = 2} (omega arith) {i = depth} {j = 24} few in
        omega (arith, pow-add 2 depth 1)

-- so do the messages of all trees

pub each_joined : {X : Type 0} (P : X → Type 0) (parts : List (List X))
    → ((k : ℕ) → k < length parts → Each P (slice_index_or parts k [])) → Each P (flat_map (λ part. part) parts)
each_joined P [] h = tt
each_joined P (part ∷ parts) h =
    each_append P part (flat_map (λ part. part) parts) (h 0 (omega arith)) (each_joined P parts (λ k below. h (suc k) (omega arith)))

pub some_joined : {X : Type 0} (P : X → Type 0) (parts : List (List X)) (k : ℕ) → k < length parts
    → Some1 P (slice_index_or parts k []) → Some1 P (flat_map (λ part. part) parts)
some_joined P [] k below h = absurd (omega arith)
some_joined P (part ∷ parts) zero below h = some_left P part (flat_map (λ part. part) parts) h
some_joined P (part ∷ parts) (suc k) below h =
    some_right P part (flat_map (λ part. part) parts) (some_joined P parts k (omega arith) h)

pub left_there : (v : Scheme) (n : ℕ) (trees : List Tree) (messages : List (List ℕ)) (made : AreTreesMade v n trees messages)
    (i m : ℕ) (below : i < n) → m < node_count (depth_of v.device i)
    → last_stored v (reverse messages) i m ≡ (made.each i below).made.records m
left_there v n trees messages made i m below small =
    let r : List ℕ = (made.each i below).made.records m in
    let tree : ℕ → Tree = λ k. slice_index_or trees k no_tree in
    let part : ℕ → List (List ℕ) = λ k. slice_index_or made.parts k [] in
    let few : length made.parts ≡ n = made.parts_count in
    ap (λ ms. last_stored v (reverse ms) i m) made.joined
    ∙ stored_one v i m r (flat_map (λ part. part) made.parts)
    (each_joined (LeavesAtMost v i m r) made.parts (λ k inside. elim (eqb_tells k i) [
      | inl same ↦ subst (λ (j : ℕ). Each (LeavesAtMost v i m r) (part j)) (sym same.1) (each_part v i i m r (tree i) (part i) (made.each i below) (λ e. refl))
      | inr other ↦ each_part v k i m r (tree k) (part k) (made.each k (omega arith)) (λ e. absurd (other.1 e))
    ]))
    (some_joined (Leaves v i m r) made.parts i (omega arith) (some_part v i m (tree i) (part i) (made.each i below) small))

-- before any access a tree holds no block
pub empty_content : (v : Setting) (i : ℕ) → content_of v [] i ≡ no_blocks
unfolding accepted content_after
empty_content v i =
    fun_ext (λ a. ap (λ xs. content_after v.scheme.device i (reverse xs) a) (take-nil (accesses v.scheme.device (progress v []).good i)))

-- A device that has just been formatted: each tree stands in the records last stored.
pub formatted_holds : (v : Setting) (trees : List Tree) → IsFormatted v trees → AllStand v.scheme (new_state v trees) (world_of v [])
unfolding sent
formatted_holds v trees made i below =
    let tree : Tree = slice_index_or trees i no_tree in
    let one : IsTreeMade v.scheme i tree (slice_index_or made.parts i []) = made.each i below in
    subst (λ (content : Map). Stands v.scheme i tree (records_of v [] i) content) (sym (empty_content v i)) (record {
      number = one.number;
      stored =
          stored_with_over v.scheme.cipher.opening v.scheme.cipher.overhead v.scheme.device tree one.made.records (records_of v [] i) no_blocks
          (λ n small. sym (left_there v.scheme (trees_of v.scheme.device) trees v.format made i n below (subst (λ (k : ℕ). n < node_count (depth_of v.scheme.device k)) one.number small)))
          one.made.empty;
    })

-- how a formatting goes on, tree by tree

pub no_trees_made : (v : Scheme) → AreTreesMade v 0 [] []
no_trees_made v = record { parts = []; joined = refl; trees_count = refl; parts_count = refl; each = λ i below. absurd (omega arith) }

pub one_more_made : (v : Scheme) (n : ℕ) (trees : List Tree) (messages bodies : List (List ℕ)) (tree : Tree)
    → AreTreesMade v n trees messages → IsTreeMade v n tree bodies
    → AreTreesMade v (n + 1) (trees ++ tree ∷ []) (messages ++ bodies)
one_more_made v n trees messages bodies tree made one =
    let kept : length trees ≡ n = made.trees_count in
    let few : length made.parts ≡ n = made.parts_count in
    record {
      parts = made.parts ++ bodies ∷ [];
      joined = ap (λ ms. ms ++ bodies) made.joined
          ∙ ap (λ ms. flat_map (λ part. part) made.parts ++ ms) (sym (append-nil bodies))
          ∙ sym (flat_map-append (λ part. part) made.parts (bodies ∷ []));
      trees_count = length-append trees (tree ∷ []) ∙ omega arith;
      parts_count = length-append made.parts (bodies ∷ []) ∙ omega arith;
      each = λ i below. elim (cases_eq i n) [
        | inl last ↦
            subst (λ (t : Tree). IsTreeMade v i t (slice_index_or (made.parts ++ bodies ∷ []) i [])) (sym (get_or_at trees tree [] no_tree i (kept ∙ sym last)))
            (subst (λ (bs : List (List ℕ)). IsTreeMade v i tree bs) (sym (get_or_at made.parts bodies [] [] i (few ∙ sym last)))
            (subst (λ (k : ℕ). IsTreeMade v k tree bodies) (sym last) one))
        | inr earlier ↦
            let low : i < n = omega arith in
            subst (λ (t : Tree). IsTreeMade v i t (slice_index_or (made.parts ++ bodies ∷ []) i [])) (sym (get_or_append_left trees (tree ∷ []) no_tree i (omega arith)))
            (subst (λ (bs : List (List ℕ)). IsTreeMade v i (slice_index_or trees i no_tree) bs) (sym (get_or_append_left made.parts (bodies ∷ []) [] i (omega arith))) (made.each i low))
      ];
    }
