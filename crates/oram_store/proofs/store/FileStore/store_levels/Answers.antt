use Rattle.std.proofs.Common.{◌∷◌, [], Result, sym, subst, arith}
use Rattle.std.specs.Prelude.{All, MatchResult}
use Rattle.std.proofs.lemmas.List.Elements.{All-push}
use Rattle.std.proofs.lemmas.Result.{err_from_is_err_and}
use Rattle.oram_host.specs.Refusals.{code_of}
use Rattle.oram_host.specs.declared.refusals.HostRefusal.{HostRefusal}
use Rattle.oram_levels.specs.Messages.{StoreLevels}
use Rattle.oram_store.specs.Groups.{IsOfTrees, ServesGroup, message_of}
use Rattle.oram_store.specs.KeptRecords.{records_of}
use Rattle.oram_store.specs.LevelsAnswers.{ServesLevels}
use Rattle.oram_store.specs.Messages.{Message}
use Rattle.oram_store.specs.declared.groups.Change.TheVariants as change
use Rattle.oram_wire.specs.declared.host_messages.HostAnswer.TheVariants as answer
use Rattle.oram_store.proofs.CommittedPuts.{commits_puts_none}
use Rattle.oram_store.proofs.MessagesServed.{levels_committed, levels_refused}
use Rattle.oram_store.proofs.Together.{levels_of_one, match_leads}
use Rattle.oram_store.proofs.store.FileStore.store_levels.Goals as goal

pub returns-in_err-store-clause-serves : goal.returns-in_err-store-clause-serves
returns-in_err-store-clause-serves g c honest s =
    let p = err_from_is_err_and c.from_residual.result c.from_residual.ensures.1 in
    let message = StoreLevels c.args.number c.args.first c.args.leaf c.args.records.now in
    subst (λ (r : Result Unit HostRefusal). MatchResult r (λ _. ServesLevels g.F.FilePair.model message answer.Done c.args.self.now c.args.self.now)
    (λ why. ServesLevels g.F.FilePair.model message (answer.Refused (code_of why)) c.args.self.now c.args.self.now)) (sym p.1)
    (levels_committed g.F.FilePair.model message (answer.Refused (code_of p.0)) c.args.self.now c.args.self.now
    (λ two kept. levels_refused c.args.self.now.trees (records_of g.F.FilePair.model c.args.self.now) two message (code_of p.0) kept)
    (commits_puts_none g.F.FilePair.model c.args.self.now s (g.met.F.FilePair.only_now c.args.self.now.file.files)))

pub returns-clause-serves : goal.returns-clause-serves
returns-clause-serves g c honest s =
    let message = StoreLevels c.args.number c.args.first c.args.leaf c.args.records.now in
    let store = c.in_ok-store.store in
    let old = c.args.self.now in
    let new = c.change_together.new.self in
    let of : All (IsOfTrees old.trees) (change.StoreLevels store ∷ []) = All-push (IsOfTrees old.trees) [] (change.StoreLevels store) (λ k d h. absurd (omega arith)) c.in_ok-store.ensures.fits.1 in
    match_leads c.change_together.result
    (λ _. ServesGroup g.F.FilePair.model (message_of (change.StoreLevels store) ∷ []) answer.Done old new) (λ _. ServesLevels g.F.FilePair.model message answer.Done old new)
    (λ why. ServesGroup g.F.FilePair.model (message_of (change.StoreLevels store) ∷ []) (answer.Refused (code_of why)) old new) (λ why. ServesLevels g.F.FilePair.model message (answer.Refused (code_of why)) old new)
    (c.change_together.ensures.serves of honest s)
    (λ x served. levels_of_one g.F.FilePair.model c.args.number c.args.first c.args.leaf c.args.records.now answer.Done old new
    (subst (λ (m : Message). ServesGroup g.F.FilePair.model (m ∷ []) answer.Done old new) c.in_ok-store.ensures.message served))
    (λ why served. levels_of_one g.F.FilePair.model c.args.number c.args.first c.args.leaf c.args.records.now (answer.Refused (code_of why)) old new
    (subst (λ (m : Message). ServesGroup g.F.FilePair.model (m ∷ []) (answer.Refused (code_of why)) old new) c.in_ok-store.ensures.message served))
