-- Over an honest host no event fails a core that serves an array.
use Rattle.std.proofs.Common.{◌≡◌, ℕ, ◌&&◌, false, List, [], ◌∷◌, length, Option, None, refl, ap, sym, ◌∙◌, subst, inl, inr}
use Rattle.oram_wire.specs.HostMessages.{answer_body}
use Rattle.oram_wire.specs.declared.host_messages.HostAnswer.{HostAnswer}
use Rattle.oram_geometry.specs.Sizes.{IsDevice}
use Rattle.oram_host.specs.Host.{Host}
use Rattle.oram_semantics.specs.Agree.{IsOrderly}
use Rattle.oram_semantics.specs.Answers.{Outcome, outcome_of, pair_in}
use Rattle.oram_semantics.specs.Messages.{requested}
use Rattle.oram_semantics.specs.Moves.{Moves, moved, goes_on, on_answer, on_loss, on_retry, shows_in}
use Rattle.oram_semantics.specs.Progress.{Status}
use Rattle.oram_semantics.specs.Progress.Status.{Idle, Waiting, Stalling, Over}
use Rattle.oram_semantics.specs.Law.{IsServing, StepsByRule}
use Rattle.oram_semantics.specs.Run.{fails_now, is_over, is_waiting, refusal_of}
use Rattle.oram_semantics.specs.Scheme.{Scheme}
use Rattle.oram_semantics.specs.State.{State, World, status_by, status_in}
use Rattle.oram_semantics.specs.declared.events.Event.{Event}
use Rattle.oram_semantics.specs.declared.events.Event.TheVariants.{Submit, Answer, Lost, Reopen, Retry}
use Rattle.oram_semantics.specs.declared.events.Note.TheVariants.{Unexpected}
use Rattle.oram_semantics.specs.declared.events.Reason.{Reason}
use Rattle.oram_semantics.specs.declared.events.Submission.{Submission}
use Rattle.oram_semantics.proofs.AgreeSteps.{agreeing_fits}
use Rattle.oram_semantics.proofs.Bounds.{IsFit, fit_device}
use Rattle.oram_semantics.proofs.ArrayService.{cores_serve, new_cores_serve}
use Rattle.oram_host_laws.specs.Honest.{HeardOrNot, IsHonest}
use Rattle.oram_host_laws.specs.HostRecords.{GoesOnHosted, HostedEvent, Hosts, HostsBy, HostsWork}
use Rattle.oram_host_laws.specs.Law.{HonestHostsServe, NewHostsServe}
use Rattle.oram_host_laws.proofs.FormattedHosts.{formatted_kept}
use Rattle.oram_host_laws.proofs.HonestSteps.{Goes, goes_again, goes_good, goes_stalled, goes_submitted, goes_unchanged}
use Rattle.oram_host_laws.proofs.Handed.{full_apart, full_outcome}
use Rattle.oram_host_laws.proofs.Receipt.{Met, met, met_hosts}

-- a command is at work in a core that waits
pub record IsBusy (v : Scheme) (s : State) (w : World) (host : Host) : Type 0 where
  pub oldest : Submission
  pub rest : List Submission
  pub queue : s.queue ≡ oldest ∷ rest
  pub work : HostsWork v s w host

pub busy_by : (v : Scheme) (s : State) (w : World) (host : Host) (queue : List Submission) → s.queue ≡ queue → s.failure ≡ None
    → status_in s ≡ Waiting → HostsBy v s w host queue → IsBusy v s w host
busy_by v s w host [] qu alive waits h =
    let idle : status_in s ≡ Idle = ap (λ (f : Option Reason). status_by f s.queue s.lost) alive ∙ ap (λ (q : List Submission). status_by None q s.lost) qu in
    absurd (let both : Waiting ≡ Idle = sym waits ∙ idle in let no_way : ⊥ = cc in no_way)
busy_by v s w host (x ∷ rest) qu alive waits h = record { oldest = x; rest = rest; queue = qu; work = h }

-- the host after a loss, or before it
heard_hosts : (v : Scheme) (s : State) (w : World) (host after : Host) → IsBusy v s w host → HeardOrNot s.message host after
    → Hosts v s w after
heard_hosts v s w host after b (inl same) = subst (HostsBy v s w after) (sym b.queue) (subst (HostsWork v s w) (sym same) b.work)
heard_hosts v s w host after b (inr late) =
    subst (HostsBy v s w after) (sym b.queue) (met_hosts v s w host after late.0 b.work (met v s w host after late.0 b.work late.1))

module _ (v : Scheme) (s : State) (w : World) (fit : IsFit v.device) (alive : s.failure ≡ None) (o : IsOrderly v s) where
  -- an event at which the host receives nothing
  kept : (host after : Host) → Hosts v s w host → after ≡ host → Hosts v s w after
  kept host after h same = subst (Hosts v s w) (sym same) h

  -- the answer to the outstanding message is good, or says that there is no room

  goes_met : (host after : Host) (answer : HostAnswer) → IsBusy v s w host → Met v s w host answer after
      → Goes v s w after (on_answer v s w Waiting (outcome_of v w.records (requested s.message) (answer_body answer)))
  goes_met host after answer b (inl good) =
      subst (λ (k : Outcome). Goes v s w after (on_answer v s w Waiting k)) (sym good.outcome)
      (subst (λ (q : List Submission). Goes v s w after (goes_on v s w q)) (sym b.queue)
      (goes_good v s w after b.oldest b.rest fit alive b.queue b.work.posted good.keeps))
  goes_met host after answer b (inr full) =
      subst (λ (k : Outcome). Goes v s w after (on_answer v s w Waiting k))
      (sym (full_outcome v w.records (requested s.message) host after answer full))
      (goes_stalled v s w after alive (subst (HostsBy v s w after) (sym b.queue) (met_hosts v s w host after answer b.work (inr full))))

  goes_answered : (host after : Host) (bytes : List ℕ) (now : Status) → status_in s ≡ now → Hosts v s w host
      → IsHonest now s.message (Answer bytes) host after
      → Goes v s w after (on_answer v s w now (outcome_of v w.records (requested s.message) bytes))
  goes_answered host after bytes Idle is h honest = goes_unchanged v s w after Unexpected alive refl (kept host after h honest)
  goes_answered host after bytes Stalling is h honest = goes_unchanged v s w after Unexpected alive refl (kept host after h honest)
  goes_answered host after bytes Over is h honest = goes_unchanged v s w after Unexpected alive refl (kept host after h honest)
  goes_answered host after bytes Waiting is h honest =
      let b : IsBusy v s w host = busy_by v s w host s.queue refl alive is h in
      subst (λ (k : List ℕ). Goes v s w after (on_answer v s w Waiting (outcome_of v w.records (requested s.message) k))) (sym honest.1)
      (goes_met host after honest.0 b (met v s w host after honest.0 b.work honest.2))

  goes_lost : (host after : Host) (now : Status) → status_in s ≡ now → Hosts v s w host → IsHonest now s.message Lost host after
      → Goes v s w after (on_loss s w now)
  goes_lost host after Idle is h honest = goes_unchanged v s w after Unexpected alive refl (kept host after h honest)
  goes_lost host after Stalling is h honest = goes_unchanged v s w after Unexpected alive refl (kept host after h honest)
  goes_lost host after Over is h honest = goes_unchanged v s w after Unexpected alive refl (kept host after h honest)
  goes_lost host after Waiting is h honest =
      goes_stalled v s w after alive (heard_hosts v s w host after (busy_by v s w host s.queue refl alive is h) honest)

  goes_retried : (host after : Host) (now : Status) → Hosts v s w host → IsHonest now s.message Retry host after
      → Goes v s w after (on_retry s w now)
  goes_retried host after Idle h honest = goes_unchanged v s w after Unexpected alive refl (kept host after h honest)
  goes_retried host after Waiting h honest = goes_unchanged v s w after Unexpected alive refl (kept host after h honest)
  goes_retried host after Over h honest = goes_unchanged v s w after Unexpected alive refl (kept host after h honest)
  goes_retried host after Stalling h honest = goes_again v s w after alive (kept host after h honest)

  -- at a submission the host receives nothing, and a reopening is a loss
  unheard : (host after : Host) (now : Status) (e : Event) → IsHonest now s.message e host after
      → ((last : List ℕ) → IsHonest Waiting last e host after → after ≡ host) → after ≡ host
  unheard host after Idle e honest waiting = honest
  unheard host after Stalling e honest waiting = honest
  unheard host after Over e honest waiting = honest
  unheard host after Waiting e honest waiting = waiting s.message honest

  as_lost : (host after : Host) (now : Status) → IsHonest now s.message Reopen host after → IsHonest now s.message Lost host after
  as_lost host after Idle honest = honest
  as_lost host after Stalling honest = honest
  as_lost host after Over honest = honest
  as_lost host after Waiting honest = honest

  goes : (host after : Host) (e : Event) → Hosts v s w host → IsHonest (status_in s) s.message e host after
      → Goes v s w after (moved v s w e)
  goes host after (Submit session c words) h honest =
      let same : after ≡ host = unheard host after (status_in s) (Submit session c words) honest (λ last k. k) in
      goes_submitted v s w after (record { session = session; ticket = s.next; command = c; words = words })
      (refusal_of v.device (is_over (status_in s)) (length s.queue) s.next c words) fit alive o (kept host after h same)
  goes host after (Answer bytes) h honest = goes_answered host after bytes (status_in s) refl h honest
  goes host after Lost h honest = goes_lost host after (status_in s) refl h honest
  goes host after Reopen h honest = goes_lost host after (status_in s) refl h (as_lost host after (status_in s) honest)
  goes host after Retry h honest = goes_retried host after (status_in s) h honest

  -- an answer shows no two records with the same digest

  met_apart : (host after : Host) (answer : HostAnswer) → Met v s w host answer after
      → pair_in v w.records (requested s.message) (answer_body answer) ≡ false
  met_apart host after answer (inl good) = good.apart
  met_apart host after answer (inr full) = full_apart v w.records (requested s.message) host after answer full

  apart_answered : (host after : Host) (bytes : List ℕ) (now : Status) → status_in s ≡ now → Hosts v s w host
      → IsHonest now s.message (Answer bytes) host after → (is_waiting now && pair_in v w.records (requested s.message) bytes) ≡ false
  apart_answered host after bytes Idle is h honest = refl
  apart_answered host after bytes Stalling is h honest = refl
  apart_answered host after bytes Over is h honest = refl
  apart_answered host after bytes Waiting is h honest =
      let b : IsBusy v s w host = busy_by v s w host s.queue refl alive is h in
      ap (pair_in v w.records (requested s.message)) honest.1
      ∙ met_apart host after honest.0 (met v s w host after honest.0 b.work honest.2)

  apart : (host after : Host) (e : Event) → Hosts v s w host → IsHonest (status_in s) s.message e host after
      → shows_in v s w e ≡ false
  apart host after (Submit session c words) h honest = refl
  apart host after (Answer bytes) h honest = apart_answered host after bytes (status_in s) refl h honest
  apart host after Lost h honest = refl
  apart host after Reopen h honest = refl
  apart host after Retry h honest = refl

-- the event doesn't fail the core, and shows no two records with the same digest
pub served_on : (v : Scheme) (e : HostedEvent) → IsDevice v.device → IsServing v e.before e.world e.array → shows_in v e.before e.world e.event ≡ false
    → Goes v e.before e.world e.host (moved v e.before e.world e.event) → StepsByRule v e.before e.event e.shown e.after → GoesOnHosted v e
served_on v e device serving off one steps =
    let fit : IsFit v.device = fit_device v.device device in
    let mv : Moves v e.before e.world e.event e.shown e.after =
    steps e.world (agreeing_fits v e.before e.world fit serving.orderly serving.agrees serving.holds) off in
    let healthy : e.after.failure ≡ None = ap (λ (u : State). u.failure) mv.state ∙ one.alive in
    let on =
    cores_serve v e.before e.after e.world e.array e.event e.shown device serving.orderly serving.holds serving.agrees serving.serves off steps healthy in
    record {
      apart = off;
      calm = ap fails_now mv.note ∙ one.calm;
      alive = healthy;
      goes_on = on;
      hosts = one.hosts e.shown e.after mv (record { alive = healthy; orderly = on.orderly; holds = on.holds; agrees = on.agrees });
    }

pub honest_hosts_serve : HonestHostsServe
honest_hosts_serve v s t w array event x host after device alive serving hosts steps honest =
    let fit : IsFit v.device = fit_device v.device device in
    let off : shows_in v s w event ≡ false = apart v s w fit alive serving.orderly host after event hosts honest in
    let e : HostedEvent = record { before = s; world = w; array = array; event = event; shown = x; after = t; host = after } in
    served_on v e device serving off (goes v s w fit alive serving.orderly host after event hosts honest) steps

pub new_hosts_serve : NewHostsServe
new_hosts_serve v trees host device light made puts =
    record { serving = new_cores_serve v trees device made; hosts = formatted_kept v trees host device light made puts }
