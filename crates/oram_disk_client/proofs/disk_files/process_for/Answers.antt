use Rattle.std.proofs.Common.{◌≡◌, ℕ, List, ap, inl, inr, length, refl, string_bytes, subst, sym, ◌∙◌}
use Rattle.std.proofs.lemmas.Result.{err_from_is_err_and}
use Rattle.oram_disk_client.specs.Faults.{IsAbout, IsNoProcessFor}
use Rattle.oram_disk_client.proofs.FormattedWith.{agreed_at, changed_at, levels_at, no_levels_at}
use Rattle.oram_disk_client.proofs.SameBytes.{each_at, no_process_at, noted_at}
use Rattle.oram_disk_host.specs.declared.kinds.FaultKind.TheVariants.{DamagedState}
use Rattle.oram_rounds.specs.Batches.{texts}
use Rattle.oram_disk_client.proofs.disk_files.process_for.Goals as goal

pub returns-in_err-process-clause-fault : goal.returns-in_err-process-clause-fault
returns-in_err-process-clause-fault g c =
    let p = err_from_is_err_and c.from_residual.result c.from_residual.ensures.1 in
    let fault = c.in_err-process.field-0.0 in
    let told = subst (λ (name : List ℕ). IsNoProcessFor c.deref.result.now c.deref-2.result.now name fault) c.as_str-state.ensures.value c.in_err-process.ensures.fault in
    rw (p.1, p.2) (inl (no_process_at {name = string_bytes c.args.settings.now.state} {fault = fault} c.deref.ensures.value c.deref-2.ensures.value told))

pub returns-in_err-process-clause-unfit : goal.returns-in_err-process-clause-unfit
returns-in_err-process-clause-unfit g c = λ d stores core file behind.
    let p = err_from_is_err_and c.from_residual.result c.from_residual.ensures.1 in
    rw (p.1, p.2) (inl (each_at (λ d stores core note. c.in_err-process.field-0.0 ≡ _) c.deref.ensures.value c.deref-2.ensures.value c.in_err-process.ensures.only d stores core file behind))

pub returns-in_err-levels-clause-fault : goal.returns-in_err-levels-clause-fault
returns-in_err-levels-clause-fault g c =
    let p = err_from_is_err_and c.from_residual-in_err-levels.result c.from_residual-in_err-levels.ensures.1 in
    let process = c.in_ok-process.process in
    let fault = c.in_err-levels.field-0.0 in
    let overhead : (g.S.Sealer.cipher process.core.sealer).overhead ≡ (g.S.Sealer.cipher c.args.sealer).overhead = ap (λ s. (g.S.Sealer.cipher s).overhead) c.in_ok-process.ensures.sealer in
    let none = no_levels_at {d = process.core.device} refl overhead (c.len.ensures ∙ c.args.kept.now.process.records.ok.0) c.in_err-levels.ensures.err.0 in
    let about = subst (λ (name : List ℕ). IsAbout DamagedState name fault) c.as_str-state.ensures.value c.in_err-levels.ensures.err.1 in
    rw (p.1, p.2) (inr (process, noted_at c.deref.ensures.value c.deref-2.ensures.value c.in_ok-process.ensures.ok, inl (none, about)))

pub returns-in_err-levels-clause-unfit : goal.returns-in_err-levels-clause-unfit
returns-in_err-levels-clause-unfit g c = λ d stores core file behind.
    let p = err_from_is_err_and c.from_residual-in_err-levels.result c.from_residual-in_err-levels.ensures.1 in
    let process = c.in_ok-process.process in
    let fault = c.in_err-levels.field-0.0 in
    let same = each_at (λ d stores core note. (texts process.stores.items ≡ stores) × (process.core.device ≡ d) × (process.core.state ≡ core) × (process.note.items ≡ note))
    c.deref.ensures.value c.deref-2.ensures.value c.in_ok-process.ensures.same d stores core file behind in
    let overhead : (g.S.Sealer.cipher process.core.sealer).overhead ≡ (g.S.Sealer.cipher c.args.sealer).overhead = ap (λ s. (g.S.Sealer.cipher s).overhead) c.in_ok-process.ensures.sealer in
    let none = no_levels_at same.1 overhead (c.len.ensures ∙ c.args.kept.now.process.records.ok.0) c.in_err-levels.ensures.err.0 in
    let about = subst (λ (name : List ℕ). IsAbout DamagedState name fault) c.as_str-state.ensures.value c.in_err-levels.ensures.err.1 in
    rw (p.1, p.2) (inr (inl (none, about)))

pub returns-in_err-check_settings-clause-fault : goal.returns-in_err-check_settings-clause-fault
returns-in_err-check_settings-clause-fault g c =
    let p = err_from_is_err_and c.from_residual-in_err-check_settings.result c.from_residual-in_err-check_settings.ensures.1 in
    let process = c.in_ok-process.process in
    let levels = c.in_ok-levels.levels in
    let overhead : (g.S.Sealer.cipher process.core.sealer).overhead ≡ (g.S.Sealer.cipher c.args.sealer).overhead = ap (λ s. (g.S.Sealer.cipher s).overhead) c.in_ok-process.ensures.sealer in
    let has = levels_at levels {d = process.core.device} refl overhead (c.len.ensures ∙ c.args.kept.now.process.records.ok.0) c.in_ok-levels.ensures.ok in
    let changed = changed_at c.args.settings.now c.args.name.now levels _ c.device.ensures.value c.sealing_of-sealing.ensures c.in_err-check_settings.ensures.changed in
    rw (p.1, p.2) (inr (process, noted_at c.deref.ensures.value c.deref-2.ensures.value c.in_ok-process.ensures.ok, inr (levels, has, changed)))

pub returns-in_err-check_settings-clause-unfit : goal.returns-in_err-check_settings-clause-unfit
returns-in_err-check_settings-clause-unfit g c = λ d stores core file behind.
    let p = err_from_is_err_and c.from_residual-in_err-check_settings.result c.from_residual-in_err-check_settings.ensures.1 in
    let process = c.in_ok-process.process in
    let levels = c.in_ok-levels.levels in
    let same = each_at (λ d stores core note. (texts process.stores.items ≡ stores) × (process.core.device ≡ d) × (process.core.state ≡ core) × (process.note.items ≡ note))
    c.deref.ensures.value c.deref-2.ensures.value c.in_ok-process.ensures.same d stores core file behind in
    let overhead : (g.S.Sealer.cipher process.core.sealer).overhead ≡ (g.S.Sealer.cipher c.args.sealer).overhead = ap (λ s. (g.S.Sealer.cipher s).overhead) c.in_ok-process.ensures.sealer in
    let has = levels_at levels same.1 overhead (c.len.ensures ∙ c.args.kept.now.process.records.ok.0) c.in_ok-levels.ensures.ok in
    let changed = changed_at c.args.settings.now c.args.name.now levels _ (c.device.ensures.value ∙ same.1) c.sealing_of-sealing.ensures c.in_err-check_settings.ensures.changed in
    rw (p.1, p.2) (inr (inr (levels, has, changed)))

pub returns-clause-ok : goal.returns-clause-ok
returns-clause-ok g c = noted_at c.deref.ensures.value c.deref-2.ensures.value c.in_ok-process.ensures.ok

pub returns-clause-same : goal.returns-clause-same
returns-clause-same g c =
    let process = c.in_ok-process.process in
    each_at (λ d stores core note. (texts process.stores.items ≡ stores) × (process.core.device ≡ d) × (process.core.state ≡ core) × (process.note.items ≡ note)) c.deref.ensures.value c.deref-2.ensures.value c.in_ok-process.ensures.same
