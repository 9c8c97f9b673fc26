use Rattle.std.proofs.Common.{◌≡◌, ◌∷◌, [], Err, ap, refl, rules, subst}
use Rattle.oram_wire.specs.declared.host_messages.HostAnswer.{HostAnswer}
use Rattle.oram_wire.specs.declared.host_messages.HostAnswer.TheVariants.{Done, Payload, Refused}
use Rattle.oram_host.specs.Refusals.{code_of}
use Rattle.oram_host.specs.declared.refusals.HostRefusal.{HostRefusal}
use Rattle.oram_store.specs.Crashes.{Serves}
use Rattle.oram_store.specs.AnswerBytes.{StandsBehind, StandsFor}
use Rattle.oram_store.specs.declared.answers.Served.{Served}
use Rattle.oram_store.proofs.Responses.{code_is, no_room_is, payload_is, records_behind, responds_done, responds_records}
use Rattle.oram_store.proofs.store.FileStore.answer_message.Goals.{in-Ok-Done+in_ok-extend_from_slice-in-Ok-Done, in-Err+in_ok-extend_from_slice-in-Err}
use Rattle.oram_store.proofs.store.FileStore.answer_message.Goals as goal

pub returns-in-Ok-Records-clause-ok : goal.returns-in-Ok-Records-clause-ok
returns-in-Ok-Records-clause-ok g c =
    let k = c.in-Ok-Records in
    let came = k.ensures.served in
    let behind = records_behind (128 ∷ []) came.0 _ (subst (StandsBehind (128 ∷ []) came.0) k.field-0-is came.1) in (
      Payload behind.0,
      behind.2.some,
      behind.1,
      λ message numbers is. let t = k.ensures.responds message numbers is in (
        responds_records _ _ (128 ∷ []) message _ behind.0 (subst (StandsBehind (128 ∷ []) message) k.field-0-is t.0) t.1 t.2,
        λ at_once granted. t.3 at_once,
        λ granted. k.ensures.running,
        λ full. cc,
        λ honest s. let r = k.ensures.serves message numbers is honest s in
            let same : r.0 ≡ Payload behind.0 = payload_is 128 k.answer behind.0 r.0 (subst (λ (x : Served). StandsFor (128 ∷ []) x r.0) k.field-0-is r.1) behind.1 in
            subst (λ (a : HostAnswer). Serves g.F.FilePair.model message a c.args.self.now c.serve_body.new.self) same r.2,
      ),
    )

pub returns-clause-ok : goal.returns-clause-ok
returns-clause-ok g c =
    elim c.match-serve_body.branch [
      | in-Ok-Done+in_ok-extend_from_slice-in-Ok-Done w ↦ (
        Done,
        tt,
        search rules,
        λ message numbers is. let t = w.in-Ok-Done.ensures.responds message numbers is in (
          responds_done _ _ (128 ∷ []) message (subst (StandsBehind (128 ∷ []) message) w.in-Ok-Done.field-0-is t.0) t.1 t.2,
          λ at_once granted. t.3 at_once,
          λ granted. w.in-Ok-Done.ensures.running,
          λ full. cc,
          λ honest s. let r = w.in-Ok-Done.ensures.serves message numbers is honest s in
              let same : r.0 ≡ Done = subst (λ (x : Served). StandsFor (128 ∷ []) x r.0) w.in-Ok-Done.field-0-is r.1 in
              subst (λ (a : HostAnswer). Serves g.F.FilePair.model message a c.args.self.now c.serve_body.new.self) same r.2,
        ),
      )
      | in-Err+in_ok-extend_from_slice-in-Err w ↦ (
        Refused (code_of w.in-Err.why),
        code_is w.in-Err.why,
        search rules,
        λ message numbers is.
            let t = w.in-Err.ensures.responds message numbers is in (
              (w.in-Err.why, refl, t.0, t.1),
              λ at_once granted. absurd granted,
              λ granted. absurd granted,
              λ full. let eight : code_of w.in-Err.why ≡ 8 = cc in
                  w.in-Err.ensures.failure message numbers is (ap (λ (why : HostRefusal). Err why) (no_room_is w.in-Err.why eight)),
              λ honest s. w.in-Err.ensures.serves message numbers is honest s,
            ),
      )
    ]
