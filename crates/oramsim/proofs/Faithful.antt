-- A run whose host is honest.
use Rattle.std.proofs.Common.{◌≡◌, ℕ, true, false, List, [], ◌∷◌, ◌++◌, Option, Some, None, IfSome, inl, inr, map, refl, sym, subst}
use Rattle.std.specs.Prelude.{is_some}
use Rattle.std.specs.List.{AllByRecursion, FoldsTo}
use Rattle.oram_geometry.specs.Sizes.{IsDevice}
use Rattle.oram_host.specs.Host.{Host}
use Rattle.oram_host.specs.Service.{Serves}
use Rattle.oram_semantics.specs.Law.{StepsByRule, StepsAlong, new_state}
use Rattle.oram_semantics.specs.Progress.{Setting, Status}
use Rattle.oram_semantics.specs.Progress.Status.{Idle, Waiting, Stalling, Over}
use Rattle.oram_semantics.specs.Moves.{moved, world_after}
use Rattle.oram_semantics.specs.Run.{AllRight, Shown, fails_now, is_waiting}
use Rattle.oram_semantics.specs.ArrayReplies.{HasServed, ServesArray, array_after}
use Rattle.oram_semantics.specs.Scheme.{Scheme}
use Rattle.oram_semantics.specs.State.{State, World, status_in}
use Rattle.oram_semantics.specs.declared.events.Event.{Event}
use Rattle.oram_semantics.specs.declared.events.Event.TheVariants.{Submit, Answer, Lost, Reopen, Retry}
use Rattle.oram_semantics.specs.declared.events.Reply.{Reply}
use Rattle.oram_semantics.proofs.WholeRuns.{steps_are_right}
use Rattle.oram_host_laws.specs.Honest.{IsHonest}
use Rattle.oram_host_laws.proofs.Honest.{honest_hosts_serve}
use Rattle.oramsim.specs.Script.{HostAnswers, Running, Turn, all_shown, events, is_answer, plain_scheme}
use Rattle.oramsim.specs.Correspondence.{IsPlayed, IsAtRun, StaysFaithful}
use Rattle.oramsim.specs.declared.machine.Machine.{Machine}
use Rattle.oramsim.proofs.Turns.{moving}

-- the array that is served after an event
served_now : (v : Scheme) (s t : State) (w : World) (array : ℕ → List ℕ) (replies : List Reply) → HasServed v s t w array replies → (now : ℕ → List ℕ) × ServesArray v t w now
served_now v s t w array replies (inl quiet) = (array, quiet.1)
served_now v s t w array replies (inr replied) = (array_after v.device replied.0.command array, replied.4)

calm_more : (turns : List Turn) (t : Turn) → AllByRecursion (λ (u : Turn). fails_now u.shown.note ≡ false) turns → fails_now t.shown.note ≡ false → AllByRecursion (λ (u : Turn). fails_now u.shown.note ≡ false) (turns ++ t ∷ [])
calm_more [] t a e = (e, tt)
calm_more (u ∷ turns) t a e = (a.0, calm_more turns t a.1 e)

pub stays_faithful : (r : Running) (m : Machine) (e : Event) (x : Shown) (sent : Option (List ℕ)) (t : State) → IsAtRun r m → IsPlayed m.core.device m.core.state e x sent t → StaysFaithful r m.core.state e x t
stays_faithful r m e x sent t f played before honest h =
    let v : Scheme = r.setting.scheme in
    let s : State = m.core.state in
    let k = honest_hosts_serve v s t h.world h.array e x before r.host (subst (λ (u : Scheme). IsDevice u.device) (sym f.scheme) f.ranges) h.alive h.serving h.hosts
    (moving (plain_scheme m.core.device) v s t e x f.scheme played.steps) honest in
    let now : World = world_after v h.world (moved v s h.world e) x.sends in
    let served = served_now v s t now h.array x.replies k.goes_on.served in
    record {
      calm = calm_more r.turns (record { event = e; shown = x }) h.calm k.calm;
      alive = k.alive;
      world = now;
      array = served.0;
      serving = record { orderly = k.goes_on.orderly; holds = k.goes_on.holds; agrees = k.goes_on.agrees; serves = served.1 };
      hosts = k.hosts;
    }

-- an event that isn't an answer, and so doesn't reach the host
pub unheard : (now : Status) (last : List ℕ) (e : Event) (host : Host) → is_answer e ≡ false → IsHonest now last e host host
unheard Waiting last (Submit s c w) host off = refl
unheard Waiting last (Answer bytes) host off = cc
unheard Waiting last Lost host off = inl refl
unheard Waiting last Reopen host off = inl refl
unheard Waiting last Retry host off = refl
unheard Idle last e host off = refl
unheard Stalling last e host off = refl
unheard Over last e host off = refl

idle_host : (now : Status) (last : List ℕ) (e : Event) (host after : Host) → is_waiting now ≡ false → after ≡ host → IsHonest now last e host after
idle_host Waiting last e host after off same = cc
idle_host Idle last e host after off same = same
idle_host Stalling last e host after off same = same
idle_host Over last e host after off same = same

reply_waiting : (now : Status) (last bytes m : List ℕ) (host after : Host) → is_waiting now ≡ true → m ≡ last → HostAnswers host (Some m) bytes after → IsHonest now last (Answer bytes) host after
reply_waiting Waiting last bytes m host after w same r = (r.0, r.2, subst (λ (l : List ℕ). Serves host l r.0 after) same r.1)
reply_waiting Idle last bytes m host after w same r = cc
reply_waiting Stalling last bytes m host after w same r = cc
reply_waiting Over last bytes m host after w same r = cc

late_waiting : (now : Status) (last bytes m : List ℕ) (host after : Host) → is_waiting now ≡ true → m ≡ last → HostAnswers host (Some m) bytes after → IsHonest now last Lost host after
late_waiting Waiting last bytes m host after w same r = inr (r.0, subst (λ (l : List ℕ). Serves host l r.0 after) same r.1)
late_waiting Idle last bytes m host after w same r = cc
late_waiting Stalling last bytes m host after w same r = cc
late_waiting Over last bytes m host after w same r = cc

pub reply_honest : (s : State) (message : Option (List ℕ)) (bytes : List ℕ) (host after : Host) → is_some message ≡ is_waiting (status_in s) → IfSome message (λ m. m ≡ s.message) → HostAnswers host message bytes after
    → IsHonest (status_in s) s.message (Answer bytes) host after
reply_honest s None bytes host after w same r = idle_host (status_in s) s.message (Answer bytes) host after (sym w) r.1
reply_honest s (Some m) bytes host after w same r = reply_waiting (status_in s) s.message bytes m host after (sym w) same r

pub late_honest : (s : State) (message : Option (List ℕ)) (bytes : List ℕ) (host after : Host) → is_some message ≡ is_waiting (status_in s) → IfSome message (λ m. m ≡ s.message) → HostAnswers host message bytes after
    → IsHonest (status_in s) s.message Lost host after
late_honest s None bytes host after w same r = idle_host (status_in s) s.message Lost host after (sym w) r.1
late_honest s (Some m) bytes host after w same r = late_waiting (status_in s) s.message bytes m host after (sym w) same r

-- What was shown is right.
along : (v : Setting) (s t : State) (turns : List Turn) → FoldsTo (λ a (u : Turn) b. StepsByRule v.scheme a u.event u.shown b) s turns t
    → StepsAlong v.scheme s (map (λ (u : Turn). u.event) turns) (map (λ (u : Turn). u.shown) turns)
along v s t [] run = tt
along v s t (u ∷ turns) run = (run.0, run.1, along v run.0 t turns run.2)

pub run_right : (r : Running) (m : Machine) → IsAtRun r m → AllRight r.setting [] (events r) (all_shown r)
run_right r m f =
    steps_are_right r.setting f.leads.0 (events r) (all_shown r) (subst (λ (v : Scheme). IsDevice v.device) (sym f.scheme) f.ranges) f.leads.1
    (along r.setting (new_state r.setting f.leads.0) m.core.state r.turns f.leads.2)
