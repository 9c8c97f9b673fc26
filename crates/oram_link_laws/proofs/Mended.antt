-- STOREs that are sent again, after the host received any of them.
use Rattle.std.proofs.Common.{◌≡◌, ◌⊎◌, ℕ, Bool, List, [], ◌∷◌, Option, Ok, Err, refl, sym, ap, ◌∙◌, subst, inl, inr}
use Rattle.oram_wire.specs.declared.host_messages.HostRequest.TheVariants.{Store}
use Rattle.oram_wire.specs.declared.host_messages.HostAnswer.{HostAnswer}
use Rattle.oram_wire.specs.declared.host_messages.HostAnswer.TheVariants.{Done, Payload, Refused}
use Rattle.oram_host.specs.Host.{Host}
use Rattle.oram_host.specs.Service.{Serves}
use Rattle.oram_host.specs.Swaps.{shape_at, stored_at}
use Rattle.oram_semantics.specs.Scheme.{Scheme}
use Rattle.oram_host_laws.specs.Honest.{HeardOrNot, Takes}
use Rattle.oram_session.specs.Honesty.{IsHeardCall, IsHonestCall}
use Rattle.oram_session.specs.Outcome.{Outcome}
use Rattle.oram_link_laws.specs.Repair.{AreAmong, HearsEach, IsAmong, ResentStoresMend, ResentStoresMendRuns}
use Rattle.oram_link_laws.specs.ResentStores.{AreStores, IsStore}
use Rattle.oram_link_laws.specs.Runs.{Exchange, HeardRun, bodies_of}
use Rattle.oram_link_laws.proofs.ResentStores.{Agree, HasShapes, IsOff, IsOffAll, off_stays, resent, shapes_after}

-- a STORE that the host received was carried out, or changed nothing
answered_so : (old new : Host) (body : List ℕ) (s : IsStore body) (answer : HostAnswer) → Serves old body answer new → (new ≡ old) ⊎ Takes old body new
answered_so old new body s Done serves = inr serves
answered_so old new body s (Payload bytes) serves = absurd (serves.request (Store s.tree s.leaf s.records) s.fits s.named)
answered_so old new body s (Refused code) serves =
    let a = serves.request (Store s.tree s.leaf s.records) s.fits s.named in inl a.3

heard_so : (old new : Host) (body : List ℕ) → IsStore body → HeardOrNot body old new → (new ≡ old) ⊎ Takes old body new
heard_so old new body s (inl same) = inl same
heard_so old new body s (inr heard) = answered_so old new body s heard.0 heard.1

store_among : (body : List ℕ) (bodies : List (List ℕ)) → AreStores bodies → IsAmong body bodies → IsStore body
store_among body [] are among = absurd among
store_among body (first ∷ bodies) are (inl same) = subst IsStore (sym same) are.0
store_among body (first ∷ bodies) are (inr later) = store_among body bodies are.1 later

module _ (shapes : ℕ → Option (ℕ × ℕ)) where
  shapes_heard : (old new : Host) (body : List ℕ) → IsStore body → HasShapes shapes old → HeardOrNot body old new → HasShapes shapes new
  shapes_heard old new body s has heard = elim (heard_so old new body s heard) [
    | inl same ↦ subst (HasShapes shapes) (sym same) has
    | inr takes ↦ shapes_after shapes old new body s has takes
  ]

  off_heard : (old new : Host) (body : List ℕ) (s : IsStore body) → HasShapes shapes old → HeardOrNot body old new → (t n : ℕ) → IsOff shapes t n s
      → stored_at new t n ≡ stored_at old t n
  off_heard old new body s has heard t n off = elim (heard_so old new body s heard) [
    | inl same ↦ ap (λ (h : Host). stored_at h t n) same
    | inr takes ↦ off_stays shapes old new body s has takes t n off
  ]

  -- one of the STOREs doesn't set a node that none of them sets
  off_among : (t n : ℕ) (body : List ℕ) (bodies : List (List ℕ)) (are : AreStores bodies) → IsAmong body bodies → IsOffAll shapes t n bodies are
      → (s : IsStore body) × IsOff shapes t n s
  off_among t n body [] are among off = absurd among
  off_among t n body (first ∷ bodies) are (inl same) off =
      let P : List ℕ → Type 0 = λ b. (s : IsStore b) × IsOff shapes t n s in
      subst P (sym same) (are.0, off.0)
  off_among t n body (first ∷ bodies) are (inr later) off = off_among t n body bodies are.1 later off.1

  heard_shapes : (heard bodies : List (List ℕ)) → AreStores bodies → AreAmong heard bodies → (host part : Host) → HasShapes shapes host
      → HearsEach host heard part → HasShapes shapes part
  heard_shapes [] bodies are among host part has to = subst (HasShapes shapes) to has
  heard_shapes (body ∷ heard) bodies are among host part has to =
      heard_shapes heard bodies are among.1 to.0 part (shapes_heard host to.0 body (store_among body bodies are among.0) has to.1) to.2

  heard_agrees : (heard bodies : List (List ℕ)) (are : AreStores bodies) → AreAmong heard bodies → (host part : Host) → HasShapes shapes host
      → HearsEach host heard part → Agree shapes bodies are host part
  heard_agrees [] bodies are among host part has to t n off = ap (λ (h : Host). stored_at h t n) to
  heard_agrees (body ∷ heard) bodies are among host part has to t n off =
      let s = off_among t n body bodies are among.0 off in
      sym (off_heard host to.0 body s.0 has to.1 t n s.1)
      ∙ heard_agrees heard bodies are among.1 to.0 part (shapes_heard host to.0 body s.0 has to.1) to.2 t n off

pub resent_stores_mend : ResentStoresMend
resent_stores_mend host once part again bodies heard are among to_once to_part to_again =
    resent (shape_at host) bodies are host part once again (λ t. refl)
    (heard_shapes (shape_at host) heard bodies are among host part (λ t. refl) to_part)
    (heard_agrees (shape_at host) heard bodies are among host part (λ t. refl) to_part)
    to_once to_again

called_honest : (host after : Host) (body : List ℕ) (o : Outcome) → IsHonestCall host body o after → HeardOrNot body host after
called_honest host after body (Ok bytes) call = inr (call.0, call.3)
called_honest host after body (Err fault) call = call

called : (may_lie : Bool) (v : Scheme) (host after : Host) (body : List ℕ) (o : Outcome) → IsHeardCall may_lie v host body o after → HeardOrNot body host after
called may_lie v host after body o (inl honest) = called_honest host after body o honest
called may_lie v host after body o (inr lie) = inr (lie.3.answer, lie.3.heard)

hears_run : (may_lie : Bool) (v : Scheme) (exchanges : List Exchange) (host after : Host) → HeardRun may_lie v host exchanges after
    → HearsEach host (bodies_of exchanges) after
hears_run may_lie v [] host after run = run
hears_run may_lie v (e ∷ exchanges) host after run =
    (run.0, called may_lie v host run.0 e.0 e.1 run.1, hears_run may_lie v exchanges run.0 after run.2)

pub resent_stores_mend_runs : ResentStoresMendRuns
resent_stores_mend_runs may_lie v host once part again bodies exchanges are among to_once run to_again =
    resent_stores_mend host once part again bodies (bodies_of exchanges) are among to_once (hears_run may_lie v exchanges host part run) to_again
