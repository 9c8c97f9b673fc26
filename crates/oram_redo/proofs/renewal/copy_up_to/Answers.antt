use Rattle.std.proofs.Common.{◌≡◌, ◌≤◌, ◌+◌, ℕ, List, ◌++◌, length, take, drop, refl, sym, ◌∙◌, ap, subst, arith}
use Rattle.std.proofs.lemmas.List.{length-take}
use Rattle.oram_redo.specs.Content.{Content}
use Rattle.oram_redo.specs.NamedLog.{HasRead, IsUnnamed, AreDone, calls_on, copied}
use Rattle.oram_redo.specs.Note.{Call}
use Rattle.oram_redo.specs.Renewal.{AgreesBelow}
use Rattle.oram_redo.proofs.Renewals.{ended_same, more_above, more_below, more_reads, only_read_unnamed, only_read_done, only_read_blank, was_written, written_again, written_is}
use Rattle.oram_redo.proofs.renewal.copy_up_to.Goals as goal

pub loop-at-init : goal.loop-at-init
loop-at-init c =
    let only = c.requires.only_read in
    let calls = calls_on c.args.named.now in
    (omega arith, only_read_unnamed calls only, only_read_done calls only, (λ log read. read), (λ log read i low. absurd (omega (arith, low))), λ i low. only_read_blank calls i only)

pub returns-in_err-len-clause-reads : goal.returns-in_err-len-clause-reads
returns-in_err-len-clause-reads c log read = c.loop-at.invariant.3 log (subst (λ (l : List Call). HasRead log l) c.in_err-len.ensures.err read).2

pub returns-then-len-eq0-clause-reads : goal.returns-then-len-eq0-clause-reads
returns-then-len-eq0-clause-reads c log read = c.loop-at.invariant.3 log (subst (λ (l : List Call). HasRead log l) c.in_ok-len.ensures.noted read).2

pub returns-then-len-eq0-clause-same : goal.returns-then-len-eq0-clause-same
returns-then-len-eq0-clause-same c log read i low =
    let now = c.loop-at in
    let mid = calls_on now.named in
    let told = subst (λ (l : List Call). HasRead log l) c.in_ok-len.ensures.noted read in
    ap (λ (l : List Call). copied l i) c.in_ok-len.ensures.noted
    ∙ ended_same mid now.at c.in_ok-len.len c.read_at.new.bytes log c.if-len-eq0.true told (now.invariant.4 log told.2) now.invariant.5 i

pub returns-in_err-put-clause-reads : goal.returns-in_err-put-clause-reads
returns-in_err-put-clause-reads c log read =
    let wrote = subst (λ (l : List Call). HasRead log l) c.in_err-put.ensures.err read in
    c.loop-at.invariant.3 log (subst (λ (l : List Call). HasRead log l) c.in_ok-len.ensures.noted wrote.2).2

pub returns-in-0-clause-reads : goal.returns-in-0-clause-reads
returns-in-0-clause-reads c log read =
    let wrote = subst (λ (l : List Call). HasRead log l) c.in_ok-put.ensures.noted read in
    c.loop-at.invariant.3 log (subst (λ (l : List Call). HasRead log l) c.in_ok-len.ensures.noted wrote.2).2

pub loop-at-preserved : goal.loop-at-preserved
loop-at-preserved c =
    let now = c.loop-at in
    let mid = calls_on now.named in
    let n = c.in_ok-put.put in
    let len = c.in_ok-len.len in
    let piece = c.read_at.new.bytes in
    let given = take len piece in
    let beside = drop c.min-size.result now.piece in
    let fits : n ≤ len = omega (arith, c.in_ok-put.ensures.count, length-take len (piece ++ beside)) in
    let less : n ≤ length given = omega (arith, fits, length-take len piece, c.in_ok-len.ensures.count) in
    let is : calls_on c.write_at.new.self ≡ was_written mid now.at n given less =
    written_is mid now.at n given less (calls_on c.read_at.new.self) (calls_on c.write_at.new.self) (take len (piece ++ beside))
    (written_again piece beside len c.in_ok-len.ensures.count) c.in_ok-len.ensures.noted c.in_ok-put.ensures.noted in
    subst (λ (l : List Call). (now.at + n ≤ c.args.end) × IsUnnamed l × AreDone l × ((log : Content) → HasRead log l → HasRead log (calls_on c.args.named.now))
    × ((log : Content) → HasRead log l → AgreesBelow (now.at + n) log (copied l)) × ((i : ℕ) → now.at + n ≤ i → copied l i ≡ 0)) (sym is) (
      omega (arith, fits, c.in_ok-len.ensures.count, c.read_at.auto.bytes, c.min-size.ensures, c.loop-at-test.true, length-take c.min-size.result now.piece),
      ((λ renames. absurd (omega (arith, renames))), ((λ renames. absurd (omega (arith, renames))), now.invariant.1)),
      (refl, (refl, now.invariant.2)),
      (λ log read. now.invariant.3 log (more_reads mid now.at n given less log read)),
      (λ log read. more_below mid now.at n given less log read (now.invariant.4 log (more_reads mid now.at n given less log read))),
      more_above mid now.at n given less now.invariant.5,
    )

pub returns-clause-same : goal.returns-clause-same
returns-clause-same c log read i low = c.loop-at.invariant.4 log read i (omega (arith, low, c.loop-at-test.false))
