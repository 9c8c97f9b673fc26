-- STOREs that are sent again: hosts that agree at each node that the STOREs don't set have the same records after them.
use Rattle.std.proofs.Common.{◌≡◌, ◌≢◌, ◌⊎◌, ℕ, zero, suc, ◌≤◌, arith, List, [], ◌∷◌, ◌++◌, Option, Some, unwrap_or, refl, sym, ap, ◌∙◌, subst, inl, inr}
use Rattle.std.specs.Prelude.{⊤}
use Rattle.std.specs.Option.{option_and_then, option_map}
use Rattle.std.proofs.lemmas.Bool.{cases_eq}
use Rattle.oram_wire.specs.declared.host_messages.HostRequest.TheVariants.{Store}
use Rattle.oram_host.specs.Answers.{IsStored}
use Rattle.oram_host.specs.Host.{Host, Kept, record_of, tree_at}
use Rattle.oram_host.specs.Path.{node_on, record_at}
use Rattle.oram_host.specs.Swaps.{shape_at, stored_at}
use Rattle.oram_host_laws.specs.Honest.{Takes}
use Rattle.oram_link_laws.specs.ResentStores.{AreStores, IsSameHost, IsStore, ResentStoresLeaveTheSame, TakesEach}

-- the record and the shape that a host has, by what it keeps of the tree

stored_found : (host : Host) (t n : ℕ) (kept : Kept) → tree_at host t ≡ Some kept → stored_at host t n ≡ record_of kept n
unfolding stored_at
stored_found host t n kept e = ap (option_and_then (λ (k : Kept). record_of k n)) e

stored_same : (new old : Host) (t n : ℕ) → tree_at new t ≡ tree_at old t → stored_at new t n ≡ stored_at old t n
unfolding stored_at
stored_same new old t n e = ap (option_and_then (λ (k : Kept). record_of k n)) e

shape_found : (host : Host) (t : ℕ) (kept : Kept) → tree_at host t ≡ Some kept → shape_at host t ≡ Some (kept.depth, kept.record_len)
unfolding shape_at
shape_found host t kept e = ap (option_map (λ (k : Kept). (k.depth, k.record_len))) e

shape_same : (new old : Host) (t : ℕ) → tree_at new t ≡ tree_at old t → shape_at new t ≡ shape_at old t
unfolding shape_at
shape_same new old t e = ap (option_map (λ (k : Kept). (k.depth, k.record_len))) e

pub some_pair : (a b : ℕ × ℕ) → Some a ≡ Some b → a ≡ b
some_pair a b e = ap (λ (o : Option (ℕ × ℕ)). unwrap_or o a) e

-- one of the numbers up to m is mapped to n, or none is
pub found_or_not : (f : ℕ → ℕ) (n m : ℕ) → ((level : ℕ) × (level ≤ m) × (n ≡ f level)) ⊎ ((level : ℕ) → level ≤ m → n ≢ f level)
found_or_not f n zero = elim (cases_eq n (f 0)) [
  | inl same ↦ inl (0, omega arith, same)
  | inr other ↦ inr (λ level low e. let none : level ≡ 0 = omega (arith, low) in other (e ∙ ap f none))
]
found_or_not f n (suc m) = elim (cases_eq n (f (suc m))) [
  | inl same ↦ inl (suc m, omega arith, same)
  | inr other ↦ elim (found_or_not f n m) [
    | inl there ↦ inl (there.0, (let low = there.1 in omega (arith, low)), there.2)
    | inr none ↦ inr (λ level low e. elim (cases_eq level (suc m)) [
      | inl last ↦ other (e ∙ ap f last)
      | inr before ↦ none level (omega (arith, low, before)) e
    ])
  ]
]

-- one STORE

pub is_stored : (host after : Host) (body : List ℕ) (s : IsStore body) → Takes host body after → IsStored host s.tree s.leaf s.records after
is_stored host after body s takes = takes.request (Store s.tree s.leaf s.records) s.fits s.named

module _ (old new : Host) (tree leaf : ℕ) (bytes : List ℕ) (k : IsStored old tree leaf bytes new) where
  shapes_stay : (t : ℕ) → shape_at new t ≡ shape_at old t
  shapes_stay t = elim (cases_eq t tree) [
    | inl same ↦
        ap (shape_at new) same ∙ shape_found new tree k.stored k.keeps.here ∙ ap (λ (d : ℕ). Some (d, k.stored.record_len)) k.stores.depth
        ∙ ap (λ (l : ℕ). Some (k.kept.depth, l)) k.stores.record_len ∙ sym (shape_found old tree k.kept k.shaped) ∙ ap (shape_at old) (sym same)
    | inr other ↦ shape_same new old t (k.keeps.others t other)
  ]

  on_path : (level : ℕ) → level ≤ k.kept.depth → stored_at new tree (node_on k.kept.depth leaf level) ≡ Some (record_at k.kept.record_len bytes level)
  on_path level low =
      let P : ℕ → Type 0 = λ d. level ≤ d in
      stored_found new tree (node_on k.kept.depth leaf level) k.stored k.keeps.here
      ∙ ap (λ (d : ℕ). record_of k.stored (node_on d leaf level)) (sym k.stores.depth)
      ∙ k.stores.path.each level (subst P (sym k.stores.depth) low)
      ∙ ap (λ (l : ℕ). Some (record_at l bytes level)) k.stores.record_len

  off_path : (n : ℕ) → ((level : ℕ) → level ≤ k.kept.depth → n ≢ node_on k.kept.depth leaf level) → stored_at new tree n ≡ stored_at old tree n
  off_path n off =
      stored_found new tree n k.stored k.keeps.here ∙ k.stores.others n off ∙ sym (stored_found old tree n k.kept k.shaped)

  off_tree : (t n : ℕ) → t ≢ tree → stored_at new t n ≡ stored_at old t n
  off_tree t n other = stored_same new old t n (k.keeps.others t other)

-- hosts whose trees have these shapes
module _ (shapes : ℕ → Option (ℕ × ℕ)) where
  abbrev pub HasShapes : Host → Type 0
  HasShapes host = (t : ℕ) → shape_at host t ≡ shapes t

  -- a STORE doesn't set the record of this node
  abbrev pub IsOff : {body : List ℕ} → ℕ → ℕ → IsStore body → Type 0
  IsOff t n s = t ≡ s.tree → (shape : ℕ × ℕ) → shapes t ≡ Some shape → (level : ℕ) → level ≤ shape.0 → n ≢ node_on shape.0 s.leaf level

  abbrev pub IsOffAll : ℕ → ℕ → (bodies : List (List ℕ)) → AreStores bodies → Type 0
  IsOffAll t n [] are = ⊤
  IsOffAll t n (body ∷ bodies) are = IsOff t n are.0 × IsOffAll t n bodies are.1

  -- two hosts agree at each node that none of these STOREs sets
  abbrev pub Agree : (bodies : List (List ℕ)) → AreStores bodies → Host → Host → Type 0
  Agree bodies are a b = (t n : ℕ) → IsOffAll t n bodies are → stored_at a t n ≡ stored_at b t n

  pub kept_shape : (host : Host) (t : ℕ) (kept : Kept) → HasShapes host → tree_at host t ≡ Some kept → shapes t ≡ Some (kept.depth, kept.record_len)
  kept_shape host t kept has e = sym (has t) ∙ shape_found host t kept e

  pub shapes_after : (old new : Host) (body : List ℕ) → IsStore body → HasShapes old → Takes old body new → HasShapes new
  shapes_after old new body s has takes t = shapes_stay old new s.tree s.leaf s.records (is_stored old new body s takes) t ∙ has t

  pub off_stays : (old new : Host) (body : List ℕ) (s : IsStore body) → HasShapes old → Takes old body new → (t n : ℕ) → IsOff t n s
      → stored_at new t n ≡ stored_at old t n
  off_stays old new body s has takes t n off =
      let k = is_stored old new body s takes in
      elim (cases_eq t s.tree) [
        | inl same ↦
            let shape : shapes t ≡ Some (k.kept.depth, k.kept.record_len) = ap shapes same ∙ kept_shape old s.tree k.kept has k.shaped in
            ap (λ (x : ℕ). stored_at new x n) same
            ∙ off_path old new s.tree s.leaf s.records k n (off same (k.kept.depth, k.kept.record_len) shape)
            ∙ ap (λ (x : ℕ). stored_at old x n) (sym same)
        | inr other ↦ off_tree old new s.tree s.leaf s.records k t n other
      ]

  -- two hosts carry out one STORE: a node is off its path, or has the same record in both afterwards
  off_or_set : (a a' b b' : Host) (body : List ℕ) (s : IsStore body) → HasShapes a → HasShapes b → Takes a body a' → Takes b body b' → (t n : ℕ)
      → IsOff t n s ⊎ (stored_at a' t n ≡ stored_at b' t n)
  off_or_set a a' b b' body s has_a has_b takes_a takes_b t n =
      let k = is_stored a a' body s takes_a in
      let j = is_stored b b' body s takes_b in
      let of_a = kept_shape a s.tree k.kept has_a k.shaped in
      let of_b = kept_shape b s.tree j.kept has_b j.shaped in
      let alike : (k.kept.depth, k.kept.record_len) ≡ (j.kept.depth, j.kept.record_len) = some_pair _ _ (sym of_a ∙ of_b) in
      let deep : k.kept.depth ≡ j.kept.depth = ap (λ (p : ℕ × ℕ). p.0) alike in
      let long : k.kept.record_len ≡ j.kept.record_len = ap (λ (p : ℕ × ℕ). p.1) alike in
      elim (cases_eq t s.tree) [
        | inr other ↦ inl (λ same. absurd (other same))
        | inl same ↦ elim (found_or_not (node_on k.kept.depth s.leaf) n k.kept.depth) [
          | inl there ↦
              let P : ℕ → Type 0 = λ d. there.0 ≤ d in
              let here : stored_at a' s.tree n ≡ stored_at b' s.tree n =
              ap (stored_at a' s.tree) there.2 ∙ on_path a a' s.tree s.leaf s.records k there.0 there.1
              ∙ ap (λ (l : ℕ). Some (record_at l s.records there.0)) long
              ∙ sym (on_path b b' s.tree s.leaf s.records j there.0 (subst P deep there.1))
              ∙ ap (λ (d : ℕ). stored_at b' s.tree (node_on d s.leaf there.0)) (sym deep)
              ∙ ap (stored_at b' s.tree) (sym there.2) in
              inr (ap (λ (x : ℕ). stored_at a' x n) same ∙ here ∙ ap (λ (x : ℕ). stored_at b' x n) (sym same))
          | inr none ↦ inl (λ e shape is.
              let alike2 : (k.kept.depth, k.kept.record_len) ≡ shape = some_pair _ _ (sym of_a ∙ ap shapes (sym same) ∙ is) in
              let P : ℕ → Type 0 = λ d. (level : ℕ) → level ≤ d → n ≢ node_on d s.leaf level in
              subst P (ap (λ (p : ℕ × ℕ). p.0) alike2) none)
        ]
      ]

  pub resent : (bodies : List (List ℕ)) (are : AreStores bodies) (a b h k : Host) → HasShapes a → HasShapes b → Agree bodies are a b
      → TakesEach a bodies h → TakesEach b bodies k → IsSameHost h k
  resent [] are a b h k has_a has_b agree to_h to_k =
      let same : IsSameHost a b = record { shapes = λ t. has_a t ∙ sym (has_b t); records = λ t n. agree t n tt } in
      subst (λ (x : Host). IsSameHost x k) to_h (subst (λ (y : Host). IsSameHost a y) to_k same)
  resent (body ∷ bodies) are a b h k has_a has_b agree to_h to_k =
      resent bodies are.1 to_h.0 to_k.0 h k (shapes_after a to_h.0 body are.0 has_a to_h.1) (shapes_after b to_k.0 body are.0 has_b to_k.1)
      (λ t n off. elim (off_or_set a to_h.0 b to_k.0 body are.0 has_a has_b to_h.1 to_k.1 t n) [
        | inl clear ↦
            off_stays a to_h.0 body are.0 has_a to_h.1 t n clear ∙ agree t n (clear, off)
            ∙ sym (off_stays b to_k.0 body are.0 has_b to_k.1 t n clear)
        | inr set ↦ set
      ])
      to_h.2 to_k.2

  begun_agrees : (begun rest : List (List ℕ)) (are : AreStores (begun ++ rest)) (host part : Host) → HasShapes host → TakesEach host begun part
      → Agree (begun ++ rest) are host part
  begun_agrees [] rest are host part has to t n off = ap (λ (x : Host). stored_at x t n) to
  begun_agrees (body ∷ begun) rest are host part has to t n off =
      sym (off_stays host to.0 body are.0 has to.1 t n off.0)
      ∙ begun_agrees begun rest are.1 to.0 part (shapes_after host to.0 body are.0 has to.1) to.2 t n off.1

  pub begun_shapes : (begun rest : List (List ℕ)) → AreStores (begun ++ rest) → (host part : Host) → HasShapes host → TakesEach host begun part → HasShapes part
  begun_shapes [] rest are host part has to = subst HasShapes to has
  begun_shapes (body ∷ begun) rest are host part has to =
      begun_shapes begun rest are.1 to.0 part (shapes_after host to.0 body are.0 has to.1) to.2

pub resent_stores_leave_the_same : ResentStoresLeaveTheSame
resent_stores_leave_the_same host once part again begun rest are to_once to_part to_again =
    resent (shape_at host) (begun ++ rest) are host part once again (λ t. refl)
    (begun_shapes (shape_at host) begun rest are host part (λ t. refl) to_part)
    (begun_agrees (shape_at host) begun rest are host part (λ t. refl) to_part)
    to_once to_again
