use Rattle.std.proofs.Common.{◌≡◌, List, [], ◌∷◌, ◌++◌, map, false, refl, sym, subst, inl, inr}
use Rattle.oram_semantics.specs.Scheme.{Scheme}
use Rattle.oram_core.specs.Core.{scheme_of}
use Rattle.oram_session.proofs.CoreSteps.{same_scheme}
use Rattle.oram_nbd.specs.Beside.{GoesOn, HasArrays}
use Rattle.oram_nbd.specs.Calls.{SavesPart}
use Rattle.oram_rounds.specs.Process.{Act, process}
use Rattle.oram_rounds.specs.ProcessSteps.{ProcessStep}
use Rattle.oram_rounds.specs.ProcessSteps.ProcessStep.{Acts}
use Rattle.oram_rounds.specs.Process.Act.{Keeps}
use Rattle.oram_rounds.proofs.Noted.{noted_does}
use Rattle.oram_nbd.specs.declared.faults.DiskFault.TheVariants.{Stopped}
use Rattle.oram_volume.specs.CarriedOut.{Had, Stops, TakesSteps}
use Rattle.oram_volume.specs.HeldArrays.{HostHears, HoldsArray, KeepsArray, running}
use Rattle.oram_volume.specs.Parts.{VolumeParts}
use Rattle.oram_volume.proofs.HeldArrays.{acts_go_on, acts_stop, acts_taken}
use Rattle.oram_volume.proofs.KeptFirst.{broken_resumption_sends}
use Rattle.oram_volume.proofs.KeptWork.{resumed_acts, resumption_keeps, same_process}
use Rattle.oram_volume.proofs.volume.Volume.resume.Goals as goal
use Rattle.oram_volume.proofs.volume.Volume.resume.Goals.{in-Ok, in-Err}

pub returns-clause-goes : goal.returns-clause-goes
returns-clause-goes g c =
    let old : VolumeParts g.row.S.Denot g.row.B.Denot g.row.K.Denot g.row.T.Denot = record { core = c.self.inside.core; link = c.self.inside.link; keeper = c.self.inside.keeper; tape = c.self.inside.tape } in
    let batches = g.B.BatchLink.batches in
    let back = g.K.Keeper.reads_back in
    let words = g.T.Tape.words old.tape in
    let v = scheme_of g.S.Sealer.cipher old.core in
    let p = process old.core.state old.link old.keeper in
    let q = process c.resume.new.core.state c.resume.new.link c.resume.new.keeper in
    subst (λ (o : VolumeParts g.row.S.Denot g.row.B.Denot g.row.K.Denot g.row.T.Denot). GoesOn (Had batches back) HostHears (HasArrays HoldsArray (KeepsArray back)) (running g.S.Sealer.cipher g.T.Tape.words o)
    (λ _ from to. (to.held ≡ from.held) × SavesPart (λ array part. part ≡ array) from to) (record { scheme = scheme_of g.S.Sealer.cipher c.resume.new.core; words = words; process = q })) c.self.view_is
    (subst (λ (u : Scheme). GoesOn (Had batches back) HostHears (HasArrays HoldsArray (KeepsArray back)) (running g.S.Sealer.cipher g.T.Tape.words old)
    (λ _ from to. (to.held ≡ from.held) × SavesPart (λ array part. part ≡ array) from to) (record { scheme = u; words = words; process = q }))
    (sym (same_scheme g.S.Sealer.cipher old.core c.resume.new.core c.resume.ensures.kept))
    (elim c.match-resume.branch [
      | in-Ok w ↦
          let k = w.in-Ok.ensures.ok in
          let r = resumed_acts batches back v k.0 p q (λ idle. let s = w.in-Ok.ensures.none idle in same_process s.1 s.2 s.3) k.3 (noted_does batches g.B.BatchLink.notes g.B.BatchLink.learns back v k.0 p q k.2) in
          acts_go_on batches back g.met.B.BatchLink.are_batches v words r.0 p q r.1 r.2 r.3
      | in-Err w ↦
          let k = w.in-Err.ensures.err in
          let does = noted_does batches g.B.BatchLink.notes g.B.BatchLink.learns back v k.0 p q k.1 in
          acts_go_on batches back g.met.B.BatchLink.are_batches v words k.0 p q does (broken_resumption_sends k.0 k.2) (resumption_keeps batches back v k.0 p q (λ works. k.2) does)
    ]))

pub returns-clause-takes_none : goal.returns-clause-takes_none
returns-clause-takes_none g c =
    let old : VolumeParts g.row.S.Denot g.row.B.Denot g.row.K.Denot g.row.T.Denot = record { core = c.self.inside.core; link = c.self.inside.link; keeper = c.self.inside.keeper; tape = c.self.inside.tape } in
    let batches = g.B.BatchLink.batches in
    let back = g.K.Keeper.reads_back in
    let words = g.T.Tape.words old.tape in
    let v = scheme_of g.S.Sealer.cipher old.core in
    let p = process old.core.state old.link old.keeper in
    let q = process c.resume.new.core.state c.resume.new.link c.resume.new.keeper in
    let are = g.met.B.BatchLink.are_batches in
    subst (λ (o : VolumeParts g.row.S.Denot g.row.B.Denot g.row.K.Denot g.row.T.Denot). (acts : List Act) × TakesSteps batches back (running g.S.Sealer.cipher g.T.Tape.words o) (map {B = ProcessStep} Acts acts) (record { scheme = scheme_of g.S.Sealer.cipher c.resume.new.core; words = words; process = q })) c.self.view_is
    (subst (λ (u : Scheme). (acts : List Act) × TakesSteps batches back (running g.S.Sealer.cipher g.T.Tape.words old) (map {B = ProcessStep} Acts acts) (record { scheme = u; words = words; process = q }))
    (sym (same_scheme g.S.Sealer.cipher old.core c.resume.new.core c.resume.ensures.kept))
    (elim c.match-resume.branch [
      | in-Ok w ↦ let k = w.in-Ok.ensures.ok in (k.0, acts_taken batches back are v words k.0 p q (noted_does batches g.B.BatchLink.notes g.B.BatchLink.learns back v k.0 p q k.2))
      | in-Err w ↦ let k = w.in-Err.ensures.err in (k.0, acts_taken batches back are v words k.0 p q (noted_does batches g.B.BatchLink.notes g.B.BatchLink.learns back v k.0 p q k.1))
    ]))

pub returns-clause-stopped : goal.returns-clause-stopped
returns-clause-stopped g c =
    let old : VolumeParts g.row.S.Denot g.row.B.Denot g.row.K.Denot g.row.T.Denot = record { core = c.self.inside.core; link = c.self.inside.link; keeper = c.self.inside.keeper; tape = c.self.inside.tape } in
    let batches = g.B.BatchLink.batches in
    let back = g.K.Keeper.reads_back in
    let words = g.T.Tape.words old.tape in
    let v = scheme_of g.S.Sealer.cipher old.core in
    let p = process old.core.state old.link old.keeper in
    let q = process c.resume.new.core.state c.resume.new.link c.resume.new.keeper in
    let are = g.met.B.BatchLink.are_batches in
    λ e. subst (λ (o : VolumeParts g.row.S.Denot g.row.B.Denot g.row.K.Denot g.row.T.Denot). Stops batches back (running g.S.Sealer.cipher g.T.Tape.words o) (record { scheme = scheme_of g.S.Sealer.cipher c.resume.new.core; words = words; process = q })) c.self.view_is
    (subst (λ (u : Scheme). Stops batches back (running g.S.Sealer.cipher g.T.Tape.words old) (record { scheme = u; words = words; process = q }))
    (sym (same_scheme g.S.Sealer.cipher old.core c.resume.new.core c.resume.ensures.kept))
    (elim c.match-resume.branch [
      | in-Ok w ↦ absurd (let no = w.result-is in cc)
      | in-Err w ↦
          let is : w.disk_fault.result ≡ Stopped = (let same = w.result-is in cc) in
          elim (w.disk_fault.ensures.stopped is) [
            | inl stalled ↦ let k = w.in-Err.ensures.err in acts_stop batches back are v words k.0 p q (noted_does batches g.B.BatchLink.notes g.B.BatchLink.learns back v k.0 p q k.1) (inl (w.in-Err.ensures.stalled cc))
            | inr not_kept ↦ let k = w.in-Err.ensures.not_kept cc in acts_stop batches back are v words (k.0 ++ Keeps false ∷ []) p q (noted_does batches g.B.BatchLink.notes g.B.BatchLink.learns back v (k.0 ++ Keeps false ∷ []) p q k.1) (inr (k.0, refl))
          ]
    ]))
