use Rattle.std.proofs.Common.{◌≡◌, ◌∙◌, ℕ, List, ap, inl, inr, refl, subst, sym}
use Rattle.std.proofs.lemmas.Result.{err_from_is_err_and}
use Rattle.oram_disk_client.specs.Faults.{IsAbout}
use Rattle.oram_disk_client.proofs.FormattedWith.{no_levels_at}
use Rattle.oram_disk_client.proofs.PathBodies.{stores_are_taken}
use Rattle.oram_disk_host.specs.declared.kinds.FaultKind.TheVariants.{DamagedState, NotADisk}
use Rattle.oram_geometry.specs.Sizes.{record_len_of}
use Rattle.oram_geometry.specs.declared.Sizes.{Sizes}
use Rattle.oram_near.specs.NearCalls.{ArePathBodies}
use Rattle.oram_rounds.specs.Batches.{texts}
use Rattle.oram_rounds.specs.PathMessages.{ArePathStores}
use Rattle.oram_session.specs.declared.link.LinkFault.TheVariants.{OutOfMemory}
use Rattle.std.specs.Global.{Vec}
use Rattle.oram_disk_client.proofs.host_asked.reached.Goals as goal

pub returns-in_err-ask_host-clause-err : goal.returns-in_err-ask_host-clause-err
returns-in_err-ask_host-clause-err g c =
    let p = err_from_is_err_and c.from_residual.result c.from_residual.ensures.1 in
    let ends = c.in_err-ask_host.ensures in
    rw (p.1, p.2) (inr (inl (ends.0, c.ask_host.new.link, ends.1, ends.2)))

pub returns-in_err-levels-clause-err : goal.returns-in_err-levels-clause-err
returns-in_err-levels-clause-err g c =
    let p = err_from_is_err_and c.from_residual-in_err-levels.result c.from_residual-in_err-levels.ensures.1 in
    let fault = c.in_err-levels.field-0.0 in
    let overhead : (g.S.Sealer.cipher c.args.kept.core.sealer).overhead ≡ (g.S.Sealer.cipher c.args.sealer).overhead = ap (λ s. (g.S.Sealer.cipher s).overhead) c.requires in
    let none = no_levels_at {d = c.args.kept.core.device} refl overhead (c.len.ensures ∙ c.args.records.ok.0) c.in_err-levels.ensures.err.0 in
    let about = subst (λ (name : List ℕ). IsAbout DamagedState name fault) c.as_str-state.ensures.value c.in_err-levels.ensures.err.1 in
    rw (p.1, p.2) (inr (inr (inl (none, about))))

pub returns-in-Err-clause-err : goal.returns-in-Err-clause-err
returns-in-Err-clause-err g c =
    let device = c.args.kept.core.device in
    let len = record_len_of device (g.S.Sealer.cipher c.args.sealer).overhead in
    let stores = texts c.args.kept.stores.items in
    elim c.in-Err.ensures.err [
      | inl memory ↦ inl (c.unlinked.ensures.memory memory)
      | inr closed ↦ (
          let other : c.in-Err.fault ≡ OutOfMemory → ⊥ = λ memory. cc closed.0 in
          let none : ArePathStores device len stores → ⊥ = λ are.
          closed.1 (subst (λ (bodies : List (Vec ℕ)). ArePathBodies device len (texts bodies)) (sym c.deref.ensures.value) (stores_are_taken device len stores are)) in
          let about = subst (λ (name : List ℕ). IsAbout NotADisk name c.unlinked.result) c.as_str-state.ensures.value (c.unlinked.ensures.others other) in
          inr (inr (inr (none, about))))
    ]

pub returns-clause-err : goal.returns-clause-err
returns-clause-err g c =
    let device = c.args.kept.core.device in
    let len = record_len_of device (g.S.Sealer.cipher c.args.sealer).overhead in
    let stores = texts c.args.kept.stores.items in
    let same_device = c.copy-device.ensures ∙ c.device.ensures.value in
    let same_len : c.record_len.result ≡ len = c.record_len.ensures.value ∙ ap (λ s. record_len_of device (g.S.Sealer.cipher s).overhead) c.requires in
    let none : ArePathStores device len stores → ⊥ = λ are.
    c.in-None.ensures (subst (λ (d : Sizes). ArePathStores d c.record_len.result stores) (sym same_device) (subst (λ (n : ℕ). ArePathStores device n stores) (sym same_len) are)) in
    let about = subst (λ (name : List ℕ). IsAbout NotADisk name c.named.result) c.as_str-state.ensures.value c.named.ensures in
    inr (inr (inr (none, about)))
