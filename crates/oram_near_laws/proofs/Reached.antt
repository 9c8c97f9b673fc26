-- A host of whole paths goes with a process over a host of levels, act by act.
use Rattle.std.proofs.Common.{◌≡◌, ◌⊎◌, ℕ, Bool, true, false, List, [], ◌∷◌, ◌++◌, Ok, refl, sym, ap, ◌∙◌, subst, inl, inr}
use Rattle.std.specs.List.{flat_map}
use Rattle.oram_geometry.specs.Sizes.{IsDevice}
use Rattle.oram_geometry.specs.declared.Sizes.{Sizes}
use Rattle.oram_host.specs.Host.{Host}
use Rattle.oram_semantics.specs.Scheme.{Scheme, record_len}
use Rattle.oram_session.specs.Outcome.{Outcome}
use Rattle.oram_link_laws.proofs.Exchanged.{folds_join}
use Rattle.oram_link_laws.specs.Runs.{Exchange}
use Rattle.oram_rounds.proofs.Replies.{replies_are_the_arrays}
use Rattle.oram_rounds.proofs.Safety.{acts_are_safe}
use Rattle.oram_rounds.specs.Batches.{BatchOutcome, SendsNothing}
use Rattle.oram_rounds.specs.CatchUp.{IsPlainCall, PlainRun}
use Rattle.oram_rounds.specs.Law.{AreBatches}
use Rattle.oram_rounds.specs.Process.{Act, Calls, Does, DoesAll, GoesAhead, Hears, Keeps, Misses, Process, exchanges_of}
use Rattle.oram_rounds.specs.Rounds.{Declines, Fetches, HoldsBack, Round, RoundCall, SendsAhead, SendsNone, TakesAhead, WentAhead}
use Rattle.oram_near.proofs.Completed.{completes_paths}
use Rattle.oram_near.specs.BatchExchanges.{near_are_batches}
use Rattle.oram_near.specs.NearCalls.{NearValue}
use Rattle.oram_near_laws.specs.BesideLevels.{ActsOverLevelsAreSafe, CompletesSide, NearBeside, NearSide, RepliesOverLevelsAreTheArrays}

module _ {B E K : Type 0} (batches : B → List (List ℕ) → BatchOutcome → List Exchange → B → Type 0) (record_at : E → ℕ → ℕ → ℕ → List ℕ) (device_of : E → Sizes) (len_of : E → ℕ) (reads_back : K → List ℕ → Type 0) (are : AreBatches batches) (may_lie : Bool) (v : Scheme) where
  abbrev Beside : NearSide B E → List (List ℕ) → BatchOutcome → List Exchange → NearSide B E → Type 0
  Beside = NearBeside batches record_at may_lie v

  abbrev Completes : NearSide B E → Host → Type 0
  Completes p whole = CompletesSide record_at device_of len_of v p whole

  beside_are_batches : AreBatches Beside
  beside_are_batches l m bodies o exchanges h = near_are_batches batches record_at l.0 m.0 bodies o exchanges (h.0, h.1)

  -- a host of whole paths goes on from `whole` by these exchanges, and completes the host of levels then
  abbrev Reaches : Host → List Exchange → NearSide B E → Type 0
  Reaches whole exchanges q = (later : Host) × Completes q later × PlainRun may_lie v whole exchanges later

  batch_reaches : (p q : NearSide B E) (bodies : List (List ℕ)) (o : BatchOutcome) (exchanges : List Exchange) (whole : Host) → Completes p whole → Beside p bodies o exchanges q → Reaches whole exchanges q
  batch_reaches p q bodies o exchanges whole c h =
      let near = h.1 in
      let done = completes_paths batches record_at device_of len_of are may_lie v p.0 q.0 bodies o exchanges h.0 p.1 q.1 whole c.device c.long c.fits c.completes near h.2 in (
        done.0,
        record {
          device = near.0 ∙ c.device;
          long = sym done.3.same_len ∙ ap len_of near.1 ∙ c.fits.same_len ∙ c.long;
          fits = done.3;
          completes = done.2;
        },
        done.1,
      )

  stays : (p q : NearSide B E) (exchanges : List Exchange) (whole : Host) → exchanges ≡ [] → q ≡ p → Completes p whole → Reaches whole exchanges q
  stays p q exchanges whole none same c =
      (whole, subst (λ (x : NearSide B E). Completes x whole) (sym same) c, subst (λ (es : List Exchange). PlainRun may_lie v whole es whole) (sym none) refl)

  call_reaches : (l m : Round (NearSide B E)) (body : List ℕ) (o : Outcome) (exchanges : List Exchange) (whole : Host) → Completes l.inner whole → RoundCall Beside l body o exchanges m → Reaches whole exchanges m.inner
  call_reaches l m body o exchanges whole c call = by call.does
    where
      by : HoldsBack Beside l.device l.record_len l body o exchanges m
          ⊎ (Fetches Beside l.device l.record_len l body o exchanges m ⊎ (Declines Beside l.device l.record_len l body o exchanges m ⊎ TakesAhead Beside l.device l.record_len l body o exchanges m))
          → Reaches whole exchanges m.inner
      by (inl holds) = stays l.inner m.inner exchanges whole holds.none holds.same c
      by (inr (inl fetches)) = batch_reaches l.inner m.inner (l.kept ++ body ∷ []) fetches.outcome exchanges whole c fetches.batch
      by (inr (inr (inl declines))) = stays l.inner m.inner exchanges whole declines.none declines.same c
      by (inr (inr (inr takes))) = stays l.inner m.inner exchanges whole takes.none takes.same c

  ahead_reaches : (l m : Round (NearSide B E)) (fetches : List (List ℕ)) (exchanges : List Exchange) (whole : Host) → Completes l.inner whole → WentAhead Beside l fetches exchanges m → Reaches whole exchanges m.inner
  ahead_reaches l m fetches exchanges whole c went = by went.does
    where
      by : SendsAhead Beside l.device l.record_len l fetches exchanges m ⊎ SendsNone Beside l.device l.record_len l fetches exchanges m → Reaches whole exchanges m.inner
      by (inl sends) = batch_reaches l.inner m.inner (fetches ++ l.kept) sends.outcome exchanges whole c sends.batch
      by (inr none) = stays l.inner m.inner exchanges whole none.none none.same c

  nothing_reaches : (p q : NearSide B E) (whole : Host) → Completes p whole → SendsNothing Beside p q → Reaches whole [] q
  nothing_reaches p q whole c (inl same) = stays p q [] whole refl same c
  nothing_reaches p q whole c (inr idles) = batch_reaches p q [] (Ok []) [] whole c idles

  act_reaches : (act : Act) (p q : Process (NearSide B E) K) (whole : Host) → Completes p.link.inner whole → Does v Beside reads_back p act q → Reaches whole (exchanges_of act) q.link.inner
  act_reaches (Hears event x) p q whole c does = stays p.link.inner q.link.inner [] whole refl (ap (λ (l : Round (NearSide B E)). l.inner) does.0.2) c
  act_reaches (Calls o exchanges x) p q whole c does = call_reaches p.link q.link does.0.0 o exchanges whole c does.0.2
  act_reaches (Misses o exchanges) p q whole c does = call_reaches p.link q.link does.0.0 o exchanges whole c does.0.2
  act_reaches (GoesAhead exchanges) p q whole c does = ahead_reaches p.link q.link _ exchanges whole c does.0.0
  act_reaches (Keeps true) p q whole c does = nothing_reaches p.link.inner q.link.inner whole c does.3
  act_reaches (Keeps false) p q whole c does = stays p.link.inner q.link.inner [] whole refl (ap (λ (l : Round (NearSide B E)). l.inner) does.2) c

  acts_reach : (acts : List Act) (p q : Process (NearSide B E) K) (whole : Host) → Completes p.link.inner whole → DoesAll v Beside reads_back p acts q → Reaches whole (flat_map exchanges_of acts) q.link.inner
  acts_reach [] p q whole c does = (whole, subst (λ (r : Process (NearSide B E) K). Completes r.link.inner whole) does c, refl)
  acts_reach (act ∷ acts) p q whole c does =
      let one = act_reaches act p does.0 whole c does.1 in
      let rest = acts_reach acts does.0 q one.0 one.1 does.2 in
      (rest.0, rest.1, folds_join {P = Host} {A = Exchange} (λ h e g. IsPlainCall may_lie v h e.0 e.1 g) whole one.0 rest.0 (exchanges_of act) (flat_map exchanges_of acts) one.2 rest.2)

pub acts_over_levels_are_safe : {B E K : Type 0} (batches : B → List (List ℕ) → BatchOutcome → List Exchange → B → Type 0) (record_at : E → ℕ → ℕ → ℕ → List ℕ) (device_of : E → Sizes) (len_of : E → ℕ) (reads_back : K → List ℕ → Type 0)
    → ActsOverLevelsAreSafe batches record_at device_of len_of reads_back
acts_over_levels_are_safe batches record_at device_of len_of reads_back are may_lie v acts p q whole before array device c safe does =
    let reached = acts_reach batches record_at device_of len_of reads_back are may_lie v acts p q whole c does in (
      reached.0,
      reached.1,
      reached.2,
      acts_are_safe (NearBeside batches record_at may_lie v) reads_back (beside_are_batches batches record_at device_of len_of reads_back are may_lie v) may_lie v acts p q whole reached.0 before array device safe does reached.2,
    )

pub replies_over_levels_are_the_arrays : {B E K : Type 0} (batches : B → List (List ℕ) → BatchOutcome → List Exchange → B → Type 0) (record_at : E → ℕ → ℕ → ℕ → List ℕ) (device_of : E → Sizes) (len_of : E → ℕ) (reads_back : K → List ℕ → Type 0)
    → RepliesOverLevelsAreTheArrays batches record_at device_of len_of reads_back
replies_over_levels_are_the_arrays batches record_at device_of len_of reads_back are may_lie v acts p q whole array device of_device long c goes_on does =
    let reached = acts_reach batches record_at device_of len_of reads_back are may_lie v acts p q whole c does in (
      reached.0,
      reached.1,
      replies_are_the_arrays (NearBeside batches record_at may_lie v) reads_back (beside_are_batches batches record_at device_of len_of reads_back are may_lie v) may_lie v acts p q whole reached.0 array device of_device long goes_on does reached.2,
    )
