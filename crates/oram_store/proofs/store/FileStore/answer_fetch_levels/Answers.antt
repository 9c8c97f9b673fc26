use Rattle.std.proofs.Common.{◌≡◌, ℕ, List, Err, drop, sym, ap, ◌∙◌, refl, rules, subst}
use Rattle.oram_wire.specs.declared.host_messages.HostAnswer.TheVariants.{Payload, Refused}
use Rattle.oram_host.specs.Refusals.{code_of}
use Rattle.oram_host.specs.declared.refusals.HostRefusal.{HostRefusal}
use Rattle.oram_levels.specs.Messages.{FetchLevels}
use Rattle.oram_store.specs.KeptRecords.{records_of}
use Rattle.oram_store.specs.LevelsAnswers.{GivesLevels}
use Rattle.oram_store.proofs.MessagesServed.{levels_committed, levels_refused}
use Rattle.oram_store.proofs.Responses.{code_is, no_room_is}
use Rattle.oram_store.proofs.store.FileStore.answer_fetch_levels.Goals as goal

pub returns-in-Ok-clause-ok : goal.returns-in-Ok-clause-ok
returns-in-Ok-clause-ok g c =
    let k = c.in-Ok.ensures in
    let behind = k.ok in
    let message = FetchLevels c.args.tree c.args.first c.args.last c.args.leaf in (
      Payload behind.0,
      behind.2.some,
      behind.1,
      record {
        responds = k.allowed;
        trees = k.trees;
        untouched = k.untouched;
        committed = λ granted. k.none_pending;
        goes_on = λ granted. k.running;
        full = λ full. cc;
        serves = λ honest s.
            let gives = k.levels honest s in
            let same : gives.0 ≡ behind.0 = ap (λ (l : List ℕ). drop 1 l) (sym gives.1 ∙ behind.1) in
            levels_committed g.F.FilePair.model message (Payload behind.0) c.args.self.now c.fetch_levels.new.self
            (λ two kept. (gives.2, gives.3, subst (λ (p : List ℕ). GivesLevels (records_of g.F.FilePair.model c.args.self.now) c.args.tree gives.2 c.args.leaf c.args.first c.args.last p) same gives.4, kept)) (k.commits s);
      },
    )

pub returns-clause-ok : goal.returns-clause-ok
returns-clause-ok g c =
    let k = c.in-Err.ensures in
    let message = FetchLevels c.args.tree c.args.first c.args.last c.args.leaf in (
      Refused (code_of c.in-Err.why),
      code_is c.in-Err.why,
      search rules,
      record {
        responds = (c.in-Err.why, refl, k.refused);
        trees = k.trees;
        untouched = k.untouched;
        committed = λ granted. absurd granted;
        goes_on = λ granted. absurd granted;
        full = λ full. let eight : code_of c.in-Err.why ≡ 8 = cc in k.failure (ap (λ (why : HostRefusal). Err why) (no_room_is c.in-Err.why eight));
        serves = λ honest s. levels_committed g.F.FilePair.model message (Refused (code_of c.in-Err.why)) c.args.self.now c.fetch_levels.new.self
            (λ two kept. levels_refused c.args.self.now.trees (records_of g.F.FilePair.model c.args.self.now) two message (code_of c.in-Err.why) kept) (k.commits s);
      },
    )
