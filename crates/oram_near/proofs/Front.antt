-- The STOREs that go before a batch: those that are unsure, or none if each of them is in the batch again.
use Rattle.std.proofs.Common.{◌≡◌, ◌⊎◌, ℕ, ◌≤◌, arith, List, [], ◌∷◌, map, sym, ap, ◌∙◌, subst, inl, inr}
use Rattle.std.specs.Global.{Vec}
use Rattle.std.specs.List.{AllByRecursion}
use Rattle.oram_geometry.specs.Sizes.{depth_of}
use Rattle.oram_geometry.specs.declared.Sizes.{Sizes}
use Rattle.oram_levels.specs.Messages.{FetchLevels, LevelsMessage, StoreLevels, levels_body}
use Rattle.oram_link_laws.specs.Repair.{IsAmong}
use Rattle.oram_link_laws.specs.Runs.{Exchange}
use Rattle.oram_link_laws.proofs.Put.{first}
use Rattle.oram_rounds.specs.Batches.{BatchOutcome, texts}
use Rattle.oram_near.specs.ComingAnswers.{Coming}
use Rattle.oram_near.specs.Near.{Near}
use Rattle.oram_near.specs.NearCalls.{AreAgain, IsOneMissing, IsOneOf, NearValue, stores_among}
use Rattle.oram_near.specs.PathRequests.{FetchPath, IsFarStore, IsFarStoreBody, IsOfDevice, PathRequest, StorePath, far_of, store_in}
use Rattle.oram_near.proofs.FarStores.{has_numbers, store_in-body}
use Rattle.oram_near.proofs.Kernel.{body_of_one, of_one}
use Rattle.oram_near.proofs.Sent.{HasBatch, HasSent, stores_are}

-- which STOREs go before the batch
abbrev pub IsFront : List (List ℕ) → List (List ℕ) → List (List ℕ) → Type 0
IsFront front old sent = (front ≡ old) ⊎ ((front ≡ []) × AreAgain sent old)

pub front_by : (old reserved front : List (Vec ℕ)) (sent sent' : List (List ℕ)) → reserved ≡ old → sent' ≡ sent
    → ((front ≡ reserved) × IsOneMissing sent' (texts reserved)) ⊎ ((front ≡ []) × AreAgain sent' (texts reserved)) → IsFront (texts front) (texts old) sent
front_by old reserved front sent sent' same is (inl kept) = inl (ap texts (kept.0 ∙ same))
front_by old reserved front sent sent' same is (inr forgotten) =
    inr (ap texts forgotten.0, subst (λ (s : List (List ℕ)). AreAgain s (texts old)) is (subst (λ (o : List (Vec ℕ)). AreAgain sent' (texts o)) same forgotten.1))

module _ (d : Sizes) (levels len : ℕ) where
  pub front_are : (front old sent : List (List ℕ)) → IsFront front old sent → AllByRecursion (IsFarStoreBody d levels len) old → AllByRecursion (IsFarStoreBody d levels len) front
  front_are front old sent (inl same) are = subst (AllByRecursion (IsFarStoreBody d levels len)) (sym same) are
  front_are front old sent (inr none) are = subst (AllByRecursion (IsFarStoreBody d levels len)) (sym none.0) tt

  store_or_fetch : (m : LevelsMessage) (requests : List PathRequest) → IsOneOf m (map (far_of d levels len) requests)
      → IsOneOf m (stores_among (map (far_of d levels len) requests)) ⊎ ((t : ℕ) × (f : ℕ) × (last : ℕ) × (l : ℕ) × (m ≡ FetchLevels t f last l))
  store_or_fetch m [] one = absurd one
  store_or_fetch m (FetchPath t l ∷ requests) (inl here) = inr (_, _, _, _, here)
  store_or_fetch m (FetchPath t l ∷ requests) (inr later) = store_or_fetch m requests later
  store_or_fetch m (StorePath t l records ∷ requests) (inl here) = inl (inl here)
  store_or_fetch m (StorePath t l records ∷ requests) (inr later) = elim (store_or_fetch m requests later) [ inl store ↦ inl (inr store) | inr fetch ↦ inr fetch ]

  module _ (requests : List PathRequest) (deep : levels ≤ depth_of d 0) (paths : AllByRecursion (IsOfDevice d len) requests) where
    abbrev messages : List LevelsMessage
    messages = map (far_of d levels len) requests

    same_store : (m : LevelsMessage) → IsFarStore d levels len m → store_in (levels_body m) ≡ m
    same_store (FetchLevels t f last l) far = absurd far
    same_store (StoreLevels t f l records) far = store_in-body t f l records (has_numbers d levels len (StoreLevels t f l records) far)

    -- a body of a STORE that is among the bodies of the messages
    one_again : (body : List ℕ) → IsFarStoreBody d levels len body → IsAmong body (map levels_body messages) → IsOneOf (store_in body) (stores_among messages)
    unfolding store_in
    one_again body is among =
        let found = body_of_one body messages among in
        elim (store_or_fetch found.0 requests found.1) [
          | inl store ↦
              let far : IsFarStore d levels len found.0 = of_one (IsFarStore d levels len) found.0 (stores_among messages) (stores_are d levels len deep requests paths) store in
              subst (λ (m : LevelsMessage). IsOneOf m (stores_among messages)) (sym (ap store_in found.2 ∙ same_store found.0 far)) store
          | inr fetch ↦ absurd (let six : 7 ≡ 6 = ap first (sym is.1 ∙ found.2 ∙ ap levels_body fetch.4) in omega (arith, six))
        ]

    pub all_again : (old : List (List ℕ)) → AllByRecursion (IsFarStoreBody d levels len) old → AreAgain (map levels_body messages) old → (m : LevelsMessage) → IsOneOf m (map store_in old) → IsOneOf m (stores_among messages)
    all_again [] are among m one = absurd one
    all_again (body ∷ old) are among m (inl here) = subst (λ (n : LevelsMessage). IsOneOf n (stores_among messages)) (sym here) (one_again body are.0 among.0)
    all_again (body ∷ old) are among m (inr later) = all_again old are.1 among.1 m later

module _ {B E : Type 0} (batches : B → List (List ℕ) → BatchOutcome → List Exchange → B → Type 0) (record_at : E → ℕ → ℕ → ℕ → List ℕ) (inner : B) (empty : E) (d : Sizes) (near : Near) (coming : Coming)
    (m : NearValue B E) (bodies old front sent : List (List ℕ)) (requests : List PathRequest) (o : BatchOutcome) where
  abbrev pub link : List (List ℕ) → NearValue B E
  link stores = record { inner = inner; empty = empty; device = d; near = near; unsure = map store_in stores; coming = coming }

  pub front_sent : near.levels ≤ depth_of d 0 → AllByRecursion (IsOfDevice d near.record_len) requests → AllByRecursion (IsFarStoreBody d near.levels near.record_len) old
      → sent ≡ map levels_body (map (far_of d near.levels near.record_len) requests) → IsFront front old sent → HasSent batches record_at (link front) bodies requests o m
      → HasBatch batches record_at (link old) bodies o m
  front_sent deep paths are named (inl same) has =
      let now = subst (λ (f : List (List ℕ)). HasSent batches record_at (link f) bodies requests o m) same has in (now.2, now.3, (now.0, now.1, inl now.4))
  front_sent deep paths are named (inr none) has =
      let now = subst (λ (f : List (List ℕ)). HasSent batches record_at (link f) bodies requests o m) none.0 has in
      let among : AreAgain (map levels_body (map (far_of d near.levels near.record_len) requests)) old = subst (λ (s : List (List ℕ)). AreAgain s old) named none.1 in (
        now.2,
        now.3,
        (
          now.0,
          now.1,
          inr (inl (record {
            sends = now.4;
            again = λ message one. subst (λ (rs : List PathRequest). IsOneOf message (stores_among (map (far_of d near.levels near.record_len) rs))) (sym now.5)
                (all_again d near.levels near.record_len requests deep paths old are among message one);
          })),
        ),
      )
