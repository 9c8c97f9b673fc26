use Rattle.std.proofs.Common.{◌≡◌, Err, ap, refl, rules}
use Rattle.oram_wire.specs.declared.host_messages.HostAnswer.TheVariants.{Done, Refused}
use Rattle.oram_host.specs.Refusals.{code_of}
use Rattle.oram_host.specs.declared.refusals.HostRefusal.{HostRefusal}
use Rattle.oram_store.proofs.Responses.{code_is, no_room_is}
use Rattle.oram_store.proofs.store.FileStore.answer_store_levels.Goals.{in-Ok+in_ok-extend_from_slice-in-Ok, in-Err+in_ok-extend_from_slice-in-Err}
use Rattle.oram_store.proofs.store.FileStore.answer_store_levels.Goals as goal

pub returns-clause-ok : goal.returns-clause-ok
returns-clause-ok g c = elim c.match-store_levels.branch [
  | in-Ok+in_ok-extend_from_slice-in-Ok w ↦ (
    Done,
    tt,
    search rules,
    record {
      responds = w.in-Ok.ensures.allowed;
      trees = c.store_levels.ensures.trees;
      untouched = c.store_levels.ensures.untouched;
      committed = λ granted. w.in-Ok.ensures.none_pending;
      goes_on = λ granted. w.in-Ok.ensures.running;
      full = λ full. cc;
      serves = λ honest s. w.in-Ok.ensures.serves honest s;
    },
  )
  | in-Err+in_ok-extend_from_slice-in-Err w ↦ (
    Refused (code_of w.in-Err.why),
    code_is w.in-Err.why,
    search rules,
    record {
      responds = (w.in-Err.why, refl, w.in-Err.ensures.refused);
      trees = c.store_levels.ensures.trees;
      untouched = c.store_levels.ensures.untouched;
      committed = λ granted. absurd granted;
      goes_on = λ granted. absurd granted;
      full = λ full. let eight : code_of w.in-Err.why ≡ 8 = cc in w.in-Err.ensures.failure (ap (λ (why : HostRefusal). Err why) (no_room_is w.in-Err.why eight));
      serves = λ honest s. w.in-Err.ensures.serves honest s;
    },
  )
]
