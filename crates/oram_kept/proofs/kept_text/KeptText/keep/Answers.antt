use Rattle.std.proofs.Common.{inl}
use Rattle.oram_kept.specs.Pages.{parts_of}
use Rattle.oram_kept.proofs.Held.{kept_found, nothing_done}
use Rattle.oram_kept.proofs.kept_text.KeptText.keep.Goals as goal

pub returns-then-self-clause-any_moment : goal.returns-then-self-clause-any_moment
returns-then-self-clause-any_moment g c p keeps =
    nothing_done g.F.FilePair.model p (parts_of c.args.text.now) c.args.self.now keeps
    (λ d left. g.met.F.FilePair.only_now c.args.self.now.files d left)

pub returns-then-self-clause-either : goal.returns-then-self-clause-either
returns-then-self-clause-either g c p keeps d left =
    inl (kept_found g.F.FilePair.model p c.args.self.now keeps d left)
