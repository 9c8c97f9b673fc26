-- Whatever a host answers, a core that serves an array still serves it, or fails.
use Rattle.std.proofs.Common.{◌≡◌, ◌≢◌, ◌⊎◌, ℕ, zero, suc, ◌+◌, ◌<◌, ◌≤◌, ◌&&◌, not, Bool, true, false, if◌then◌else◌, cond, List, [], ◌∷◌, Option, Some, None, unwrap_or, refl, ap, sym, ◌∙◌, subst, arith, inl, inr}
use Rattle.std.specs.List.{find, range_with_len}
use Rattle.std.specs.Option.{option_map_or}
use Rattle.std.specs.Str.{bytes_eq}
use Rattle.std.proofs.lemmas.Slice.Eq.{bytes_eq-Decides}
use Rattle.std.proofs.lemmas.Bool.{cases_eq}
use Rattle.sha2.specs.Sha256.{sha256}
use Rattle.oram_geometry.specs.Sizes.{trees_of}
use Rattle.oram_trace.specs.declared.entries.Entry.{Entry}
use Rattle.oram_hash.specs.Path.{Path, node_at, record_at}
use Rattle.oram_hash.specs.Tree.{Collides}
use Rattle.oram_wire.specs.HostMessages.{fetch_body, store_body}
use Rattle.oram_wire.specs.declared.host_messages.HostAnswer.{HostAnswer}
use Rattle.oram_wire.specs.declared.host_messages.HostAnswer.TheVariants.{Refused}
use Rattle.oram_host.specs.Host.{Host}
use Rattle.oram_semantics.specs.Answers.{Outcome, answered_path, first_other, has_one_digest, is_last_stored, is_payload, outcome_of, pair_in}
use Rattle.oram_semantics.specs.Answers.Outcome.{Good, NoRoom, Fails}
use Rattle.oram_semantics.specs.Messages.{requested}
use Rattle.oram_semantics.specs.Moves.{Moves, MovesTo, fails, goes_on, on_answer, records_after, shows_in}
use Rattle.oram_semantics.specs.Progress.{Status}
use Rattle.oram_semantics.specs.Progress.Status.{Waiting}
use Rattle.oram_semantics.specs.Run.{is_waiting}
use Rattle.oram_semantics.specs.Scheme.{Scheme}
use Rattle.oram_semantics.specs.State.{State, World, status_in}
use Rattle.oram_semantics.specs.declared.events.Event.TheVariants.{Answer}
use Rattle.oram_semantics.specs.declared.events.Reason.{Reason}
use Rattle.oram_semantics.specs.declared.events.Submission.{Submission}
use Rattle.oram_semantics.proofs.AgreeSteps.{agreeing_fits}
use Rattle.oram_semantics.proofs.Bounds.{IsFit, fit_device, some_trees}
use Rattle.oram_semantics.proofs.Judged.{bytes_same}
use Rattle.oram_host_laws.specs.Honest.{KeepsAll}
use Rattle.oram_host_laws.specs.HostRecords.{HostedEvent, HostsBy, HostsWork}
use Rattle.oram_host_laws.specs.AnyHost.{LyingHostsFail, ShowsPair}
use Rattle.oram_host_laws.proofs.HonestSteps.{Goes, goes_good, goes_stalled}
use Rattle.oram_host_laws.proofs.Handed.{fetch_leaves}
use Rattle.oram_host_laws.proofs.Honest.{IsBusy, busy_by, served_on}
use Rattle.oram_host_laws.proofs.Receipt.{Met, met, met_hosts}

-- if two tests pass together, each of them passes

both : (a b : Bool) → (a && b) ≡ true → (a ≡ true) × (b ≡ true)
both true b h = (refl, h)
both false b h = absurd cc

first_of : (a b c : Bool) → (a && b && c) ≡ true → a ≡ true
first_of true b c h = refl
first_of false b c h = absurd (let no : false ≡ true = elim c as (λ k. (false && b && k) ≡ true → false ≡ true) [ true ↦ λ q. q | false ↦ λ q. q ] h in cc)

passed : (f : ℕ → Bool) (o : Option ℕ) → option_map_or f o false ≡ true → (l : ℕ) × (o ≡ Some l) × (f l ≡ true)
passed f None h = absurd cc
passed f (Some l) h = (l, refl, h)

alike : (xs ys : List ℕ) → bytes_eq xs ys ≡ true → xs ≡ ys
alike xs ys h = (bytes_eq-Decides xs ys).0 h

alike_unless : (xs ys : List ℕ) → not (bytes_eq xs ys) ≡ false → xs ≡ ys
alike_unless xs ys h = alike xs ys (elim (bytes_eq xs ys) as (λ b. not b ≡ false → b ≡ true) [ true ↦ λ q. refl | false ↦ λ q. absurd cc ] h)

differ_by : (xs ys : List ℕ) → not (bytes_eq xs ys) ≡ true → xs ≢ ys
differ_by xs ys h same = let off : not (bytes_eq xs ys) ≡ false = ap not (bytes_same xs ys same) in let no : false ≡ true = sym off ∙ h in cc

-- the first number of a range that passes
record IsFound (p : ℕ → Bool) (a n l : ℕ) : Type 0 where
  least : a ≤ l
  most : l < a + n
  here : p l ≡ true
  before : (k : ℕ) → a ≤ k → k < l → p k ≡ false

some_is : (k l : ℕ) → Some k ≡ Some l → k ≡ l
some_is k l e = ap (λ (o : Option ℕ). unwrap_or o 0) e

found : (p : ℕ → Bool) (a n l : ℕ) → find p (range_with_len a n) ≡ Some l → IsFound p a n l
found p a zero l h = absurd cc
found p a (suc n) l h = by (λ q. found p (a + 1) n l q) (p a) refl h
  where
    by : (find p (range_with_len (a + 1) n) ≡ Some l → IsFound p (a + 1) n l) → (b : Bool) → p a ≡ b
        → cond b (Some a) (find p (range_with_len (a + 1) n)) ≡ Some l → IsFound p a (suc n) l
    by rest true e q =
        let same : a ≡ l = some_is a l q in
        record { least = omega arith; most = omega arith; here = ap p (sym same) ∙ e; before = λ k low high. absurd (omega (arith, same)) }
    by rest false e q =
        let later : IsFound p (a + 1) n l = rest q in
        let least : a + 1 ≤ l = later.least in
        let most : l < a + 1 + n = later.most in
        record {
          least = omega arith;
          most = omega arith;
          here = later.here;
          before = λ k low high. elim (cases_eq a k) [
            | inl same ↦ ap p (sym same) ∙ e
            | inr apart ↦ later.before k (omega arith) high
          ];
        }

-- if two records with the same digest are found, the answer shows them

collides : (v : Scheme) (records : ℕ → ℕ → List ℕ) (e : Entry) (bytes : List ℕ) → pair_in v records e bytes ≡ true
    → (is_payload v e bytes ≡ true) × Collides (records e.tree) (answered_path v e bytes)
unfolding pair_in first_other
collides v records e bytes h =
    let p : Path = answered_path v e bytes in
    let two = both (is_payload v e bytes) _ h in
    let one = passed (has_one_digest (records e.tree) p) (find (λ level. not (is_last_stored (records e.tree) p level)) (range_with_len 0 (p.depth + 1))) two.1 in
    let at : IsFound (λ level. not (is_last_stored (records e.tree) p level)) 0 (p.depth + 1) one.0 =
    found (λ level. not (is_last_stored (records e.tree) p level)) 0 (p.depth + 1) one.0 one.1 in
    let most : one.0 < 0 + (p.depth + 1) = at.most in (
      two.0,
      (
        one.0,
        record {
          within = omega arith;
          same_above = λ k high. alike_unless (record_at p k) (records e.tree (node_at p k)) (at.before k (omega arith) high);
          differs = differ_by (record_at p one.0) (records e.tree (node_at p one.0)) at.here;
        },
        alike (sha256 (record_at p one.0)) (sha256 (records e.tree (node_at p one.0))) one.2,
      ),
    )

-- a FETCH leaves the records as they were
kept_now : (v : Scheme) (s : State) (w : World) (host : Host) → HostsWork v s w host → (requested s.message).fetch ≡ true → KeepsAll v w.records host
kept_now v s w host b fetch =
    let e : Entry = requested s.message in
    let body : s.message ≡ fetch_body e.tree e.leaf =
    b.posted.whole.body ∙ ap (λ (f : Bool). if f then fetch_body e.tree e.leaf else store_body e.tree e.leaf b.posted.whole.records) fetch in
    let same : w.records ≡ b.before = b.leaves ∙ ap (λ (m : List ℕ). records_after v b.before (m ∷ [])) body ∙ fetch_leaves v b.before e.tree e.leaf in
    elim b.keeps [ inl lacks ↦ subst (λ (r : ℕ → ℕ → List ℕ). KeepsAll v r host) (sym same) lacks | inr whole ↦ whole ]

pair_found : (v : Scheme) (s : State) (w : World) (host : Host) (bytes : List ℕ) → HostsWork v s w host
    → pair_in v w.records (requested s.message) bytes ≡ true → ShowsPair v host s.message bytes
pair_found v s w host bytes b h =
    let e : Entry = requested s.message in
    let c = collides v w.records e bytes h in
    let some : 0 < trees_of v.device = some_trees v.device in
    let below : e.tree < trees_of v.device = omega (arith, b.posted.tree) in
    let fetch : e.fetch ≡ true = first_of e.fetch _ _ c.0 in
    record { payload = c.0; records = w.records e.tree; kept = kept_now v s w host b fetch e.tree below; pair = c.1 }

module _ (v : Scheme) (s : State) (w : World) (fit : IsFit v.device) (alive : s.failure ≡ None) (host after : Host) (b : IsBusy v s w host) where
  apart : (bytes : List ℕ) → ¬ ShowsPair v host s.message bytes → pair_in v w.records (requested s.message) bytes ≡ false
  apart bytes none = by (pair_in v w.records (requested s.message) bytes) refl
    where
      by : (k : Bool) → pair_in v w.records (requested s.message) bytes ≡ k → k ≡ false
      by true e = absurd (none (pair_found v s w host bytes b.work e))
      by false e = refl

  -- an answer lets the core go on only if the honest host keeps what it says
  lied : (answer : HostAnswer) → Met v s w host answer after → answer ≢ Refused 8 → (o : Outcome)
      → Goes v s w after (on_answer v s w Waiting o) ⊎ ((e : Reason) × (o ≡ Fails e))
  lied answer (inl good) room Good =
      inl (subst (λ (q : List Submission). Goes v s w after (goes_on v s w q)) (sym b.queue)
      (goes_good v s w after b.oldest b.rest fit alive b.queue b.work.posted good.keeps))
  lied answer (inr full) room Good = absurd (room full.refused)
  lied answer m room NoRoom = inl (goes_stalled v s w after alive (subst (HostsBy v s w after) (sym b.queue) (met_hosts v s w host after answer b.work m)))
  lied answer m room (Fails e) = inr (e, refl)

pub lying_hosts_fail : LyingHostsFail
lying_hosts_fail v s t w array bytes x host after device alive waits serving hosts steps lie =
    let fit : IsFit v.device = fit_device v.device device in
    let b : IsBusy v s w host = busy_by v s w host s.queue refl alive waits hosts in
    let o : Outcome = outcome_of v w.records (requested s.message) bytes in
    let off : shows_in v s w (Answer bytes) ≡ false =
    ap (λ (k : Bool). is_waiting (status_in s) && k) (apart v s w fit alive host after b bytes lie.apart)
    ∙ elim (is_waiting (status_in s)) as (λ k. (k && false) ≡ false) [ true ↦ refl | false ↦ refl ] in
    let event : HostedEvent = record { before = s; world = w; array = array; event = Answer bytes; shown = x; after = t; host = after } in
    elim (lied v s w fit alive host after b lie.answer (met v s w host after lie.answer b.work lie.heard) lie.room o) [
      | inl goes ↦
          inl (served_on v event device serving off
          (subst (λ (now : Status). Goes v s w after (on_answer v s w now o)) (sym waits) goes) steps)
      | inr why ↦
          let mv : Moves v s w (Answer bytes) x t = steps w (agreeing_fits v s w fit serving.orderly serving.agrees serving.holds) off in
          let failing : MovesTo v s w (fails s w why.0) x t =
          subst (λ (k : Outcome). MovesTo v s w (on_answer v s w Waiting k) x t) why.1
          (subst (λ (now : Status). MovesTo v s w (on_answer v s w now o) x t) waits mv) in
          inr (record { reason = why.0; failure = ap (λ (u : State). u.failure) failing.state; replies = failing.replies })
    ]
