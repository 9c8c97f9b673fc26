use Rattle.std.proofs.Common.{◌≡◌, ℕ, List, Err, drop, sym, ap, ◌∙◌, refl, rules}
use Rattle.oram_wire.specs.declared.host_messages.HostAnswer.TheVariants.{Payload, Refused}
use Rattle.oram_host.specs.Refusals.{code_of}
use Rattle.oram_host.specs.declared.refusals.HostRefusal.{HostRefusal}
use Rattle.oram_store.proofs.Responses.{code_is, no_room_is}
use Rattle.oram_store.proofs.store.FileStore.answer_records.Goals as goal

pub returns-in-Ok-clause-ok : goal.returns-in-Ok-clause-ok
returns-in-Ok-clause-ok g c =
    let k = c.in-Ok.ensures in
    let behind = k.ok in (
      Payload behind.0,
      behind.2.some,
      behind.1,
      record {
        responds = k.allowed;
        trees = k.trees;
        untouched = k.untouched;
        committed = λ granted. k.none_pending;
        goes_on = λ granted. k.running;
        full = λ full. cc;
        serves = λ honest s. record { commits = k.commits s; rows = λ running. ap (λ (l : List ℕ). drop 1 l) (sym behind.1 ∙ k.rows honest s) };
      },
    )

pub returns-clause-ok : goal.returns-clause-ok
returns-clause-ok g c =
    let k = c.in-Err.ensures in (
      Refused (code_of c.in-Err.why),
      code_is c.in-Err.why,
      search rules,
      record {
        responds = (c.in-Err.why, refl, k.refused);
        trees = k.trees;
        untouched = k.untouched;
        committed = λ granted. absurd granted;
        goes_on = λ granted. absurd granted;
        full = λ full. let eight : code_of c.in-Err.why ≡ 8 = cc in k.failure (ap (λ (why : HostRefusal). Err why) (no_room_is c.in-Err.why eight));
        serves = λ honest s. record { commits = k.commits s; rows = λ running. tt };
      },
    )
