-- The host behind an honest link is honest in the exchanges of a session.
use Rattle.std.proofs.Common.{ℕ, List, [], ◌∷◌, refl, ap}
use Rattle.oram_host.specs.Host.{Host}
use Rattle.oram_tree.specs.Format.{PutsAll}
use Rattle.oram_semantics.specs.Law.{new_state, world_of}
use Rattle.oram_semantics.specs.Progress.{Setting}
use Rattle.oram_host_laws.specs.Honest.{Takes}
use Rattle.oram_host_laws.specs.Law.{IsNewHosted}
use Rattle.oram_host_laws.proofs.Honest.{new_hosts_serve}
use Rattle.oram_session.specs.Honesty.{IsHeardCall, IsHonestLink}
use Rattle.oram_session.specs.Links.{DirectCall, ToServer}
use Rattle.oram_session.specs.Outcome.{Outcome}
use Rattle.oram_session.proofs.Honesty.{direct_is_honest}
use Rattle.oram_link_laws.specs.Examples.{DirectSessionsAreRun}
use Rattle.oram_link_laws.specs.Runs.{BesideGivesInside, Exchange, HonestLinksAreRun, HostRun, IsHeldBy, LinkRun, NewDevicesHoldZerosBeside, SessionsBesideHeardHosts, exchanges_in}
use Rattle.oram_link_laws.specs.ResentStores.{TakesEach}
use Rattle.oram_link_laws.proofs.Exchanged.{turns_ran}
use Rattle.oram_link_laws.proofs.Paired.{beside_is_heard, turns_beside}
use Rattle.oram_link_laws.proofs.Same.{taken_each}

pub puts_each : (bodies : List (List ℕ)) (host after : Host) → TakesEach host bodies after → PutsAll Takes host bodies after
puts_each [] host after to = to
puts_each (body ∷ bodies) host after to = (to.0, to.1, puts_each bodies to.0 after to.2)

module _ {L : Type 0} (calls : L → List ℕ → Outcome → L → Type 0) where
  honest_run : (host_of : L → Host) → IsHonestLink calls host_of → (exchanges : List Exchange) (l m : L) → LinkRun calls l exchanges m
      → HostRun (host_of l) exchanges (host_of m)
  honest_run host_of honest [] l m run = ap host_of run
  honest_run host_of honest (e ∷ exchanges) l m run =
      (host_of run.0, honest l run.0 e.0 e.1 run.1, honest_run host_of honest exchanges run.0 m run.2)

  pub honest_links_are_run : HonestLinksAreRun calls
  honest_links_are_run host_of honest v words session p q turns fold =
      honest_run host_of honest (exchanges_in turns) p.1 q.1 (turns_ran calls v words session turns p q fold)

  pub beside_gives_inside : BesideGivesInside calls
  beside_gives_inside law host_of honest v words session p q turns array device held fold =
      let by_host : IsHeldBy v p.0 (host_of p.1) array =
      record { no_work = held.no_work; alive = held.alive; world = held.world; serving = held.serving; hosts = held.hosts } in
      let done = law v words session p q turns (host_of p.1) (host_of q.1) array device by_host fold
      (honest_links_are_run host_of honest v words session p q turns fold) in
      let k : IsHeldBy v q.0 (host_of q.1) done.0 = done.2 in
      (done.0, done.1, record { no_work = k.no_work; alive = k.alive; world = k.world; serving = k.serving; hosts = k.hosts })

  pub new_devices_hold_zeros_beside : NewDevicesHoldZerosBeside calls
  new_devices_hold_zeros_beside v from to s host light k run =
      let setting : Setting = record { scheme = v; format = k.format } in
      let puts : PutsAll Takes [] k.format host = puts_each k.format [] host (taken_each k.format [] host run) in
      let new : IsNewHosted v (new_state setting k.trees) (world_of setting []) host = new_hosts_serve setting k.trees host k.ranges light k.formatted puts in
      rw k.state (record { no_work = refl; alive = refl; world = world_of setting []; serving = new.serving; hosts = new.hosts })

  pub sessions_beside_heard_hosts : SessionsBesideHeardHosts calls
  sessions_beside_heard_hosts may_lie v words session p q turns host left fold run = record {
    heard = beside_is_heard may_lie v calls;
    session_of = turns_beside v calls (IsHeardCall may_lie v) words session turns p q host left fold run;
  }

pub direct_sessions_are_run : DirectSessionsAreRun
direct_sessions_are_run v words session p q turns fold =
    honest_links_are_run DirectCall (λ (l : ToServer). l.host) direct_is_honest v words session p q turns fold
