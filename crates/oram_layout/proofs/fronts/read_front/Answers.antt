use Rattle.std.proofs.Common.{refl, sym}
use Rattle.oram_layout.specs.Fronts.{sqlite_letters}
use Rattle.oram_pair.proofs.FrontBytes.{starts_so}
use Rattle.oram_layout.proofs.FrontBytes.{newer_not_older, ours_not_newer, ours_not_older}
use Rattle.oram_layout.proofs.fronts.read_front.Goals as goal

pub returns-then-starts_with-clause-sqlite : goal.returns-then-starts_with-clause-sqlite
returns-then-starts_with-clause-sqlite c = (λ is. sym ((starts_so sqlite_letters c.args.bytes.now c.starts_with.result c.starts_with.ensures.value).0 c.if-starts_with.true), λ is. refl)

pub returns-in-Some-clause-newer : goal.returns-in-Some-clause-newer
returns-in-Some-clause-newer c = (λ is. absurd cc, λ newer. absurd (ours_not_newer c.in-Some.identity c.args.bytes.now c.in-Some.ensures.found newer))

pub returns-in-Some-clause-older : goal.returns-in-Some-clause-older
returns-in-Some-clause-older c = (λ is. absurd cc, λ older. absurd (ours_not_older c.in-Some.identity c.args.bytes.now c.in-Some.ensures.found older))

pub returns-then-is_newer-clause-older : goal.returns-then-is_newer-clause-older
returns-then-is_newer-clause-older c = (λ is. absurd cc, λ older. absurd (newer_not_older c.args.bytes.now (c.is_newer.ensures.0 c.if-is_newer.true) older))
