use Rattle.std.proofs.Common.{◌≡◌, ℕ, List, get_or, sym, ◌∙◌, ap}
use Rattle.oram_redo.specs.declared.file_pair.FileKind.TheVariants.{Log}
use Rattle.oram_redo.proofs.LawProofs.{no_odd_gate, odd_gate}
use Rattle.oram_redo.proofs.recovery.sound_end.Goals as goal

here : (g : _) (c : goal.After-drop-gate-2 g) (honest : g.F.FilePair.model.is_honest c.read.new.files) → g.F.FilePair.model.seen c.args.files.now Log c.in_ok-end.end ≡ c.index.result.now
here g c honest =
    let read = c.in_ok-gate.ensures.bytes honest in
    let same = c.end_of_log.ensures.nothing_written.seen_same Log c.in_ok-end.end in
    let got = c.index.ensures in
    sym same ∙ sym (ap (λ (l : List ℕ). get_or l 0 c.index.result.now) read) ∙ sym got

there : (g : _) (c : goal.After-drop-gate g) (honest : g.F.FilePair.model.is_honest c.read.new.files) → g.F.FilePair.model.seen c.args.files.now Log c.in_ok-end.end ≡ c.index.result.now
there g c honest =
    let read = c.in_ok-gate.ensures.bytes honest in
    let same = c.end_of_log.ensures.nothing_written.seen_same Log c.in_ok-end.end in
    let got = c.index.ensures in
    sym same ∙ sym (ap (λ (l : List ℕ). get_or l 0 c.index.result.now) read) ∙ sym got

pub returns-clause-shut : goal.returns-clause-shut
returns-clause-shut g c honest odd =
    let log = g.F.FilePair.model.seen c.args.files.now Log in
    let found = c.in_ok-end.ensures.end (c.read.ensures.after.honest honest) in
    let gate : log c.in_ok-end.end ≡ 15 = here g c honest ∙ c.if-index-ne-SHUT.false in
    no_odd_gate c.args.bounds found.0 log c.in_ok-end.end found.1 found.2 gate odd

pub returns-then-index-ne-SHUT-clause-damaged : goal.returns-then-index-ne-SHUT-clause-damaged
returns-then-index-ne-SHUT-clause-damaged g c honest is patches log =
    let file = g.F.FilePair.model.seen c.args.files.now Log in
    let found = c.in_ok-end.ensures.end (c.read.ensures.after.honest honest) in
    let read = c.in_ok-gate.ensures.bytes honest in
    odd_gate c.args.bounds found.0 file c.in_ok-end.end found.1 found.2 (λ zero. c.if-index-ne-SHUT.true (sym (there g c honest) ∙ zero))
