-- The host of a dialer that puts stamps between the messages of its batches.
use Rattle.std.proofs.Common.{◌≡◌, ℕ, ◌+◌, ◌^◌, ◌<◌, ◌≤◌, List, [], ◌∷◌, ◌++◌, Option, Some, inl, inr, refl, sym, ap, ◌∙◌, subst, arith}
use Rattle.std.specs.List.{AllByRecursion}
use Rattle.std.proofs.Math.Nat.{pow-le-pow_right}
use Rattle.oram_geometry.specs.Sizes.{depth_of}
use Rattle.oram_geometry.proofs.DeviceSizes.{trees_of-few}
use Rattle.oram_semantics.proofs.Bounds.{depth_small}
use Rattle.oram_wire.specs.declared.host_messages.HostRequest.TheVariants.{Fetch, Put, Store}
use Rattle.oram_host.specs.Host.{Host}
use Rattle.oram_session.specs.declared.link.LinkFault.{LinkFault}
use Rattle.oram_session.specs.declared.link.LinkFault.TheVariants.{Closed}
use Rattle.oram_link_laws.specs.Repair.{AreAmong, IsAmong}
use Rattle.oram_link_laws.specs.Runs.{Exchange, HostRun, bodies_of}
use Rattle.oram_stamps.specs.Known.{next_stamp}
use Rattle.oram_stamps.specs.Stamps.{record_text}
use Rattle.oram_stamps.specs.declared.stamp.Place.TheVariants.{Begun, Done}
use Rattle.oram_client.specs.Attempts.{link_outcome}
use Rattle.oram_client.specs.BatchExchanges.{batch_among, cut_among}
use Rattle.oram_client.specs.Dialer.{Destination}
use Rattle.oram_client.specs.StampMessages.{stamp_put}
use Rattle.oram_client.specs.StreamBatches.{GivesFrames, cut_short}
use Rattle.oram_client.specs.Stamped.{IsStampPut, LeavesOut, between}
use Rattle.oram_client.specs.StampedHost.{PathMessagesAreAboutOthers, StampedBatchesReachTheHost}
use Rattle.oram_client.specs.TreesApart.{AgreeBeside, IsAbout, IsAboutAnother, LeavesTreeOut}
use Rattle.oram_client.specs.declared.identity.TheConstants.{STAMP_TREE}
use Rattle.oram_client.proofs.Reached.{read_some, stream_batches_reach_the_host}
use Rattle.oram_client.proofs.TreesApart.{trees_are_apart}

put_about : (body : List ℕ) → IsStampPut body → IsAbout STAMP_TREE body
put_about body (node, bytes, fits, is) = (Put STAMP_TREE node bytes, fits, is, refl)

another_of : (body : List ℕ) (bodies : List (List ℕ)) → IsAmong body bodies → AllByRecursion (IsAboutAnother STAMP_TREE) bodies → IsAboutAnother STAMP_TREE body
another_of body [] among others = absurd among
another_of body (b ∷ bodies) (inl same) others = subst (IsAboutAnother STAMP_TREE) (sym same) others.0
another_of body (b ∷ bodies) (inr later) others = another_of body bodies later others.1

left_out : (heard exchanges : List Exchange) (bodies : List (List ℕ)) → LeavesOut heard exchanges → AreAmong (bodies_of exchanges) bodies
    → AllByRecursion (IsAboutAnother STAMP_TREE) bodies → LeavesTreeOut STAMP_TREE heard exchanges
left_out [] exchanges bodies none among others = none
left_out (e ∷ heard) exchanges bodies (inl (put, more)) among others = inl (put_about e.0 put, left_out heard exchanges bodies more among others)
left_out (e ∷ heard) exchanges bodies (inr (rest, is, more)) among others =
    let here : AreAmong (bodies_of (e ∷ rest)) bodies = subst (λ (es : List Exchange). AreAmong (bodies_of es) bodies) is among in
    inr (rest, is, another_of e.0 bodies here.0 others, left_out heard rest bodies more here.1 others)

-- if no answer is given to any of the messages, no other exchanges are left out than those with the last one
unheard_left : (done : List ℕ) (bodies : List (List ℕ)) (fault : LinkFault) → IsStampPut done → LeavesOut (cut_short (bodies ++ done ∷ []) [] fault) (cut_short bodies [] fault)
unheard_left done [] fault put = inl (put, refl)
unheard_left done (b ∷ bodies) fault put = inr (cut_short bodies [] fault, refl, unheard_left done bodies fault put)

module _ {S : Type 0} (remaining contents : S → Option (List ℕ)) where
  -- the host that is sent the batch and its stamps, and the other one, which isn't sent the stamps
  apart : (d : Destination) (bodies : List (List ℕ)) (heard exchanges : List Exchange) (host other after : Host) → AllByRecursion (IsAboutAnother STAMP_TREE) bodies → AgreeBeside STAMP_TREE host other
      → HostRun host heard after → LeavesOut heard exchanges → AreAmong (bodies_of exchanges) bodies → (rest : Host) × HostRun other exchanges rest × AgreeBeside STAMP_TREE after rest
  apart d bodies heard exchanges host other after others agree run left among =
      trees_are_apart STAMP_TREE host other after heard exchanges agree run (left_out heard exchanges bodies left among others)

  pub stamped_batches_reach_the_host : StampedBatchesReachTheHost remaining contents
  stamped_batches_reach_the_host d e line line' bodies came exchanges host other after bytes others agree unclosed known (inl batch) leads =
      let all = between (stamp_put d.key Begun (next_stamp d.known)) bodies (stamp_put d.key Done (next_stamp d.known)) in
      let run = stream_batches_reach_the_host remaining contents line line' all batch.outcome batch.heard host after bytes unclosed known leads batch.batch in
      apart d bodies batch.heard exchanges host other after others agree run.0 batch.left (batch_among bodies (link_outcome came) exchanges batch.is_batch)
  stamped_batches_reach_the_host d e line line' bodies came exchanges host other after bytes others agree unclosed known (inr stopped) leads =
      let begun = stamp_put d.key Begun (next_stamp d.known) in
      let done = stamp_put d.key Done (next_stamp d.known) in
      let all = between begun bodies done in
      let answers = stopped.answer ∷ [] in
      let read : GivesFrames (Some bytes) (remaining line'.reader) answers =
      subst (λ (old : Option (List ℕ)). GivesFrames old (remaining line'.reader) answers) known stopped.read.received.read in
      let run = read_some (remaining line'.reader) all answers Closed host after bytes leads read in
      let put_begun : IsStampPut begun = (0, record_text d.key Begun (next_stamp d.known), omega arith, refl) in
      let put_done : IsStampPut done = (1, record_text d.key Done (next_stamp d.known), omega arith, refl) in
      let none = cut_short bodies [] Closed in
      let left : LeavesOut (cut_short all answers Closed) none = inl (put_begun, unheard_left done bodies Closed put_done) in
      subst (λ (es : List Exchange). (rest : Host) × HostRun other es rest × AgreeBeside STAMP_TREE after rest) (sym stopped.unheard)
      (apart d bodies (cut_short all answers Closed) none host other after others agree run left (cut_among bodies bodies [] Closed (λ x k. k)))

pub path_messages : PathMessagesAreAboutOthers
path_messages d device = (
  λ record_len body store.
      let few = trees_of-few d device in
      let most : 2 ^ depth_of d store.tree ≤ 2 ^ 24 = pow-le-pow_right (omega arith) (depth_small d store.tree) in
      inr (Store store.tree store.leaf store.records, omega (arith, store.leaf_in, most), store.named, λ here. (let is : store.tree ≡ 254 = here in omega (arith, store.tree_in, few, is))),
  λ body fetch.
      let few = trees_of-few d device in
      let most : 2 ^ depth_of d fetch.tree ≤ 2 ^ 24 = pow-le-pow_right (omega arith) (depth_small d fetch.tree) in
      inr (Fetch fetch.tree fetch.leaf, omega (arith, fetch.leaf_in, most), fetch.named, λ here. (let is : fetch.tree ≡ 254 = here in omega (arith, fetch.tree_in, few, is))),
)
