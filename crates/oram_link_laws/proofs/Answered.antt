-- STOREs that are sent again are carried out, unless memory runs out.
use Rattle.std.proofs.Common.{◌≡◌, ◌⊎◌, ℕ, ◌+◌, ◌*◌, ◌^◌, ◌<◌, arith, List, [], ◌∷◌, ◌++◌, length, Option, Some, None, refl, sym, ap, ◌∙◌, subst, inl, inr}
use Rattle.std.specs.Prelude.{MatchOption}
use Rattle.std.specs.Option.{option_map}
use Rattle.oram_wire.specs.declared.host_messages.HostRequest.TheVariants.{Store}
use Rattle.oram_wire.specs.declared.host_messages.HostAnswer.{HostAnswer}
use Rattle.oram_wire.specs.declared.host_messages.HostAnswer.TheVariants.{Done, Payload, Refused}
use Rattle.oram_host.specs.declared.refusals.HostRefusal.{HostRefusal}
use Rattle.oram_host.specs.declared.refusals.HostRefusal.TheVariants.{NoShape, BadLeaf, BadNode, BadLength, ShapeTaken, Missing, BadOp, OutOfMemory}
use Rattle.oram_host.specs.Answers.{Answers}
use Rattle.oram_host.specs.Host.{Host, Kept, tree_at}
use Rattle.oram_host.specs.Refusals.{RefusesStore, code_of}
use Rattle.oram_host.specs.Swaps.{shape_at}
use Rattle.oram_link_laws.specs.ResentStores.{AreStores, IsStore, ResentStoresAreTaken, TakesEach}
use Rattle.oram_link_laws.proofs.ResentStores.{HasShapes, begun_shapes, is_stored, kept_shape, shapes_after, some_pair}

-- the records fit a path of their tree
record Fits (shapes : ℕ → Option (ℕ × ℕ)) (tree leaf : ℕ) (records : List ℕ) : Type 0 where
  depth : ℕ
  record_len : ℕ
  shaped : shapes tree ≡ Some (depth, record_len)
  leaf_in : leaf < 2 ^ depth
  whole : length records ≡ (depth + 1) * record_len

-- one of the STOREs, which fits because a host with these shapes carried it out
record Sent (shapes : ℕ → Option (ℕ × ℕ)) (body : List ℕ) : Type 0 where
  store : IsStore body
  fits : Fits shapes store.tree store.leaf store.records

sent_at : (shapes : ℕ → Option (ℕ × ℕ)) (sent later : List (List ℕ)) (body : List ℕ) (are : AreStores (sent ++ body ∷ later)) (host once : Host)
    → HasShapes shapes host → TakesEach host (sent ++ body ∷ later) once → Sent shapes body
sent_at shapes [] later body are host once has to =
    let k = is_stored host to.0 body are.0 to.1 in
    record {
      store = are.0;
      fits = record {
        depth = k.kept.depth;
        record_len = k.kept.record_len;
        shaped = kept_shape shapes host are.0.tree k.kept has k.shaped;
        leaf_in = k.stores.leaf_in;
        whole = k.stores.path.whole ∙ ap (λ (d : ℕ). (d + 1) * k.stored.record_len) k.stores.depth ∙ ap (λ (l : ℕ). (k.kept.depth + 1) * l) k.stores.record_len;
      };
    }
sent_at shapes (first ∷ sent) later body are host once has to =
    sent_at shapes sent later body are.1 to.0 once (shapes_after shapes host to.0 first are.0 has to.1) to.2

refused_store : (kept : Kept) (leaf : ℕ) (records : List ℕ) (why : HostRefusal) → leaf < 2 ^ kept.depth
    → length records ≡ (kept.depth + 1) * kept.record_len → RefusesStore kept leaf records why → why ≡ OutOfMemory
refused_store kept leaf records BadLeaf leaf_in whole h = absurd (omega (arith, leaf_in, h))
refused_store kept leaf records BadLength leaf_in whole h = absurd (h.1 whole)
refused_store kept leaf records OutOfMemory leaf_in whole h = refl
refused_store kept leaf records NoShape leaf_in whole h = absurd h
refused_store kept leaf records BadNode leaf_in whole h = absurd h
refused_store kept leaf records ShapeTaken leaf_in whole h = absurd h
refused_store kept leaf records Missing leaf_in whole h = absurd h
refused_store kept leaf records BadOp leaf_in whole h = absurd h

refused_by : (o : Option Kept) (leaf depth record_len : ℕ) (records : List ℕ) (why : HostRefusal)
    → option_map {T = Kept} {U = ℕ × ℕ} (λ k. (k.depth, k.record_len)) o ≡ Some (depth, record_len) → leaf < 2 ^ depth → length records ≡ (depth + 1) * record_len
    → MatchOption o (why ≡ NoShape) (λ kept. RefusesStore kept leaf records why) → why ≡ OutOfMemory
refused_by None leaf depth record_len records why shaped leaf_in whole h = absurd cc
refused_by (Some kept) leaf depth record_len records why shaped leaf_in whole h =
    let same : (depth, record_len) ≡ (kept.depth, kept.record_len) = some_pair _ _ (sym shaped) in
    let P : ℕ × ℕ → Type 0 = λ s. leaf < 2 ^ s.0 in
    let Q : ℕ × ℕ → Type 0 = λ s. length records ≡ (s.0 + 1) * s.1 in
    refused_store kept leaf records why (subst P same leaf_in) (subst Q same whole) h

opened : (host : Host) (tree : ℕ) → shape_at host tree ≡ option_map (λ (k : Kept). (k.depth, k.record_len)) (tree_at host tree)
unfolding shape_at
opened host tree = refl

answered : (shapes : ℕ → Option (ℕ × ℕ)) (now after : Host) (tree leaf : ℕ) (records : List ℕ) (answer : HostAnswer) → HasShapes shapes now
    → Fits shapes tree leaf records → Answers now (Store tree leaf records) answer after → (answer ≡ Done) ⊎ (answer ≡ Refused 8)
answered shapes now after tree leaf records Done has fits a = inl refl
answered shapes now after tree leaf records (Payload bytes) has fits a = absurd a
answered shapes now after tree leaf records (Refused code) has fits a =
    let why : a.0 ≡ OutOfMemory =
    refused_by (tree_at now tree) leaf fits.depth fits.record_len records a.0 (sym (opened now tree) ∙ has tree ∙ fits.shaped) fits.leaf_in fits.whole a.2 in
    inr (ap (λ (c : ℕ). Refused c) (a.1 ∙ ap code_of why))

pub resent_stores_are_taken : ResentStoresAreTaken
resent_stores_are_taken host once part now after begun rest sent later body answer are to_once to_part split to_now serves =
    let are' : AreStores (sent ++ body ∷ later) = subst AreStores split are in
    let P : List (List ℕ) → Type 0 = λ bodies. TakesEach host bodies once in
    let one : Sent (shape_at host) body = sent_at (shape_at host) sent later body are' host once (λ t. refl) (subst P split to_once) in
    let has_part : HasShapes (shape_at host) part = begun_shapes (shape_at host) begun rest are host part (λ t. refl) to_part in
    let has_now : HasShapes (shape_at host) now = begun_shapes (shape_at host) sent (body ∷ later) are' part now has_part to_now in
    answered (shape_at host) now after one.store.tree one.store.leaf one.store.records answer has_now one.fits
    (serves.request (Store one.store.tree one.store.leaf one.store.records) one.store.fits one.store.named)
