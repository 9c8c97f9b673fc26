use Rattle.std.proofs.Common.{◌≡◌, [], ◌∷◌, inl, lit<, length, refl, ◌∙◌, arith, length-append}
use Rattle.oram_redo.specs.Content.{Content, put}
use Rattle.oram_redo.specs.declared.file_pair.FileKind.TheVariants.{Log, Records}
use Rattle.oram_pair.specs.Fronts.{front_bytes}
use Rattle.oram_layout.specs.Header.{letters}
use Rattle.oram_redo.proofs.Bytes.{has_same, put_outside}
use Rattle.oram_redo.proofs.Consistent.{gate_written}
use Rattle.oram_redo.proofs.Logs.{log_none}
use Rattle.oram_layout.specs.Fronts.{log_letters}
use Rattle.oram_redo.proofs.Outcomes.{on_ok_none}
use Rattle.oram_store.specs.RecordFile.{bounds}
use Rattle.oram_store.proofs.Recovery.{first_file, front_stands}
use Rattle.oram_store.proofs.creation.create.Goals as goal

pub returns-clause-records : goal.returns-clause-records
returns-clause-records g c =
    let identity = c.args.identity.now in
    first_file 256 identity (front_bytes letters identity) (g.F.FilePair.model.seen c.begin_files.new.files Records) refl refl c.in_ok-begin_files.ensures.new.whole c.in_ok-begin_files.ensures.new.records

pub returns-clause-front : goal.returns-clause-front
returns-clause-front g c = front_stands (front_bytes letters c.args.identity.now) (g.F.FilePair.model.seen c.begin_files.new.files Records) c.in_ok-begin_files.ensures.new.records

pub returns-clause-log_front : goal.returns-clause-log_front
returns-clause-log_front g c =
    let front = front_bytes log_letters c.args.identity.now in
    let mid : Content = put front 0 (λ i. 0) in
    let long : length front ≡ 32 = omega (arith, length-append log_letters c.args.identity.now.0, c.in_ok-begin_files.ensures.new.whole) in
    has_same front 0 mid (g.F.FilePair.model.seen c.begin_files.new.files Log)
    (λ i low high. c.in_ok-begin_files.ensures.new.log i ∙ put_outside (15 ∷ []) 4096 mid i (inl (omega (arith, high, long)))) (front_stands front mid (λ i. refl))

pub returns-clause-gate : goal.returns-clause-gate
returns-clause-gate g c = c.in_ok-begin_files.ensures.new.log 4096 ∙ gate_written 15 4096 (put (front_bytes log_letters c.args.identity.now) 0 (λ i. 0))

pub returns-clause-log : goal.returns-clause-log
returns-clause-log g c =
    let log = g.F.FilePair.model.seen c.begin_files.new.files Log in
    let gate : log 4096 ≡ 15 = c.in_ok-begin_files.ensures.new.log 4096 ∙ gate_written 15 4096 (put (front_bytes log_letters c.args.identity.now) 0 (λ i. 0)) in
    log_none bounds log (lit< tt) (λ is. absurd (omega (arith, is, gate)))

pub returns-in_err-begin_files-clause-records : goal.returns-in_err-begin_files-clause-records
returns-in_err-begin_files-clause-records g c = on_ok_none c.from_residual.result _ c.from_residual.ensures.0

pub returns-in_err-begin_files-clause-log : goal.returns-in_err-begin_files-clause-log
returns-in_err-begin_files-clause-log g c = on_ok_none c.from_residual.result _ c.from_residual.ensures.0

pub returns-in_err-begin_files-clause-gate : goal.returns-in_err-begin_files-clause-gate
returns-in_err-begin_files-clause-gate g c = on_ok_none c.from_residual.result _ c.from_residual.ensures.0

pub returns-in_err-begin_files-clause-front : goal.returns-in_err-begin_files-clause-front
returns-in_err-begin_files-clause-front g c = on_ok_none c.from_residual.result _ c.from_residual.ensures.0

pub returns-in_err-begin_files-clause-log_front : goal.returns-in_err-begin_files-clause-log_front
returns-in_err-begin_files-clause-log_front g c = on_ok_none c.from_residual.result _ c.from_residual.ensures.0

pub returns-in_err-begin_files-clause-sure : goal.returns-in_err-begin_files-clause-sure
returns-in_err-begin_files-clause-sure g c = on_ok_none c.from_residual.result _ c.from_residual.ensures.0
