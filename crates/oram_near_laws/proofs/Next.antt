-- The next process over a host of levels begins over a host of whole paths that has received the kept STOREs.
use Rattle.std.proofs.Common.{◌≡◌, ◌⊎◌, ℕ, Bool, List, [], ◌∷◌, ◌++◌, map, refl, sym, ap, ◌∙◌, subst, inl, inr}
use Rattle.std.proofs.lemmas.List.{append-nil}
use Rattle.std.specs.List.{AllByRecursion}
use Rattle.oram_geometry.specs.declared.Sizes.{Sizes}
use Rattle.oram_host.specs.Host.{Host}
use Rattle.oram_levels.specs.Messages.{LevelsMessage}
use Rattle.oram_semantics.specs.Scheme.{Scheme, record_len}
use Rattle.oram_semantics.specs.State.{State}
use Rattle.oram_session.specs.declared.link.LinkFault.{LinkFault}
use Rattle.oram_session.specs.declared.link.LinkFault.TheVariants.{Closed}
use Rattle.oram_link_laws.specs.Repair.{AreAmong, IsAmong}
use Rattle.oram_link_laws.specs.Runs.{Exchange, bodies_of}
use Rattle.oram_rounds.proofs.CatchUp.{IsWaitingOrFetch, run_catches}
use Rattle.oram_rounds.proofs.GoneAhead.{all_sent}
use Rattle.oram_rounds.proofs.Safety.{begun_is_safe}
use Rattle.oram_rounds.proofs.Sent.{all_among}
use Rattle.oram_rounds.specs.CatchUp.{PlainRun}
use Rattle.oram_rounds.specs.Process.{IsKept}
use Rattle.oram_rounds.specs.Service.{WillHoldAfter}
use Rattle.oram_near.proofs.Resumed.{resumes_paths}
use Rattle.oram_near.specs.NearCalls.{IsOneOf, NearValue, stores_among, store_tries}
use Rattle.oram_near.specs.PathRequests.{FetchPath, IsOfDevice, PathRequest, StorePath, far_of, path_body}
use Rattle.oram_near_laws.specs.BesideLevels.{NearSide}
use Rattle.oram_near_laws.specs.NextProcess.{NextOverLevelsIsSafe}

-- the tries of STOREs are tries of the requests

among_more : (heard bodies : List (List ℕ)) (first : List ℕ) → AreAmong heard bodies → AreAmong heard (first ∷ bodies)
among_more [] bodies first are = tt
among_more (x ∷ heard) bodies first are = (inr are.0, among_more heard bodies first are.1)

tries_among : (fault : LinkFault) (requests : List PathRequest) → AreAmong (bodies_of (store_tries fault requests)) (map path_body requests)
tries_among fault [] = tt
tries_among fault (FetchPath tree leaf ∷ requests) = among_more (bodies_of (store_tries fault requests)) (map path_body requests) (path_body (FetchPath tree leaf)) (tries_among fault requests)
tries_among fault (StorePath tree leaf records ∷ requests) =
    (inl refl, among_more (bodies_of (store_tries fault requests)) (map path_body requests) (path_body (StorePath tree leaf records)) (tries_among fault requests))

-- a host that has received some of the STOREs that wait still has the same to come
still_comes : (may_lie : Bool) (v : Scheme) (core : State) (stores : List (List ℕ)) (host after : Host) (array : ℕ → List ℕ) (exchanges : List Exchange) → AreAmong (bodies_of exchanges) stores
    → PlainRun may_lie v host exchanges after → WillHoldAfter may_lie v core stores host array → WillHoldAfter may_lie v core stores after array
still_comes may_lie v core stores host after array exchanges among run w =
    let all : AllByRecursion (IsWaitingOrFetch v stores) (bodies_of exchanges) =
    all_among (IsWaitingOrFetch v stores) (stores ++ []) (bodies_of exchanges) (all_sent v stores stores [] (λ x one. one) tt) (subst (AreAmong (bodies_of exchanges)) (sym (append-nil stores)) among) in
    (w.0, run_catches v stores w.0 may_lie exchanges host after all run w.1, w.2)

pub next_over_levels_is_safe : (B : Type 0) {E K : Type 0} (record_at : E → ℕ → ℕ → ℕ → List ℕ) (device_of : E → Sizes) (len_of : E → ℕ) (reads_back : K → List ℕ → Type 0)
    → NextOverLevelsIsSafe B record_at device_of len_of reads_back
next_over_levels_is_safe B {E} {K} record_at device_of len_of reads_back may_lie v p whole sent bytes before array c k unsure l m device long fits none same takes below after heard run keeper one =
    let of_device : AllByRecursion (IsOfDevice p.0.device p.0.near.record_len) takes.requests =
    subst (λ (n : ℕ). AllByRecursion (IsOfDevice p.0.device n) takes.requests) same.record_len
    (subst (λ (d : Sizes). AllByRecursion (IsOfDevice d l.near.record_len) takes.requests) same.device takes.paths) in
    let taken : m.unsure ≡ stores_among (map (far_of l.device l.near.levels l.near.record_len) takes.requests) =
    ap (λ (x : NearValue B E). x.unsure) takes.same ∙ ap (λ (u : List LevelsMessage). u ++ stores_among (map (far_of l.device l.near.levels l.near.record_len) takes.requests)) none in
    let far_is : stores_among (map (far_of p.0.device p.0.near.levels p.0.near.record_len) takes.requests) ≡ m.unsure =
    ap (λ (d : Sizes). stores_among (map (far_of d p.0.near.levels p.0.near.record_len) takes.requests)) (sym same.device)
    ∙ ap (λ (n : ℕ). stores_among (map (far_of l.device n p.0.near.record_len) takes.requests)) (sym same.levels)
    ∙ ap (λ (n : ℕ). stores_among (map (far_of l.device l.near.levels n) takes.requests)) (sym same.record_len) ∙ sym taken in
    let inside : (message : LevelsMessage) → IsOneOf message p.0.unsure → IsOneOf message m.unsure =
    λ message among. subst (IsOneOf message) far_is (unsure takes.requests takes.named of_device message among) in
    let r = resumes_paths record_at device_of len_of may_lie v _ l m k.stores below p.1 after whole device long fits none same c.completes takes inside heard run in
    let among : AreAmong (bodies_of (store_tries Closed takes.requests)) k.stores = subst (AreAmong (bodies_of (store_tries Closed takes.requests))) (sym takes.named) (tries_among Closed takes.requests) in
    let now : IsKept may_lie v [] bytes r.0 before array = record {
      stores = k.stores;
      core = k.core;
      file = k.file;
      covers = λ b nothing. absurd nothing;
      holds = elim k.holds [
        | inl old ↦ inl (still_comes may_lie v k.core k.stores whole r.0 before (store_tries Closed takes.requests) among r.1 old)
        | inr new ↦ inr (still_comes may_lie v k.core k.stores whole r.0 array (store_tries Closed takes.requests) among r.1 new)
      ];
    } in
    let empty_is : m.empty ≡ l.empty = ap (λ (x : NearValue B E). x.empty) takes.same in (
      r.0,
      record {
        device = ap (λ (x : NearValue B E). x.device) takes.same ∙ device;
        long = sym r.3.same_len ∙ ap len_of empty_is ∙ fits.same_len ∙ long;
        fits = r.3;
        completes = r.2;
      },
      begun_is_safe (NearSide B E) reads_back may_lie v (m, after) k.stores k.core keeper bytes r.0 before array now refl refl one,
    )
