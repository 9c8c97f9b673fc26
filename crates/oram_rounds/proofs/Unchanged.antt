-- A FETCH changes nothing at a host. So an answer that came ahead stays the host's as long as no STORE leaves.
use Rattle.std.proofs.Common.{◌≡◌, ℕ, Bool, List, [], ◌∷◌, sym, ◌∙◌, subst, inl, inr}
use Rattle.std.specs.List.{AllByRecursion}
use Rattle.oram_wire.specs.declared.host_messages.HostAnswer.{HostAnswer}
use Rattle.oram_wire.specs.declared.host_messages.HostAnswer.TheVariants.{Done, Payload, Refused}
use Rattle.oram_wire.specs.declared.host_messages.HostRequest.TheVariants.{Fetch}
use Rattle.oram_host.specs.Answers.{Answers}
use Rattle.oram_host.specs.Host.{Host}
use Rattle.oram_host.specs.Service.{Serves}
use Rattle.oram_semantics.specs.Scheme.{Scheme}
use Rattle.oram_session.specs.Outcome.{Outcome}
use Rattle.oram_link_laws.specs.Runs.{Exchange, bodies_of}
use Rattle.oram_rounds.specs.CatchUp.{CatchesUp, IsPlainCall, PlainRun}
use Rattle.oram_rounds.specs.Law.{AreAhead, IsFetchNow}
use Rattle.oram_rounds.specs.PathMessages.{IsPathFetch}
use Rattle.oram_rounds.specs.Rounds.{Round}
use Rattle.oram_rounds.proofs.CatchUp.{hears}
use Rattle.oram_rounds.proofs.KeptPaths.{leaf_small}

served_same : (v : Scheme) (host after : Host) (answer : HostAnswer) (body : List ℕ) → IsPathFetch v.device body → Serves host body answer after → after ≡ host
served_same v host after answer body f serves = by answer (serves.request (Fetch f.tree f.leaf) (leaf_small v f.tree f.leaf f.leaf_in) f.named)
  where
    by : (a : HostAnswer) → Answers host (Fetch f.tree f.leaf) a after → after ≡ host
    by Done is = absurd is
    by (Payload bytes) is = is.1
    by (Refused code) is = is.3

module _ (may_lie : Bool) (v : Scheme) where
  pub fetch_same : (host after : Host) (body : List ℕ) (o : Outcome) → IsPathFetch v.device body → IsPlainCall may_lie v host body o after → after ≡ host
  fetch_same host after body o f call = elim (hears may_lie v host after body o call) [
    | inl same ↦ same
    | inr heard ↦ served_same v host after heard.0 body f heard.1
  ]

  pub run_same : (exchanges : List Exchange) (host after : Host) → AllByRecursion (IsPathFetch v.device) (bodies_of exchanges) → PlainRun may_lie v host exchanges after → after ≡ host
  run_same [] host after are run = sym run
  run_same (e ∷ exchanges) host after are run = run_same exchanges run.0 after are.1 run.2 ∙ fetch_same host run.0 e.0 e.1 are.0 run.1

  module _ {B : Type 0} (l m : Round B) (host after : Host) where
    -- while the host gives what it will have given once it has carried out the STOREs that are kept
    pub ahead_on : m.ahead ≡ l.ahead → ((reached : Host) → CatchesUp v host l.kept reached → CatchesUp v after m.kept reached) → AreAhead may_lie v host l → AreAhead may_lie v after m
    ahead_on same still (inl none) = inl (same ∙ none)
    ahead_on same still (inr a) = inr (a.0, still a.0 a.1, subst (AllByRecursion (IsFetchNow may_lie v a.0)) (sym same) a.2)

    pub none_ahead : m.ahead ≡ [] → AreAhead may_lie v after m
    none_ahead none = inl none
