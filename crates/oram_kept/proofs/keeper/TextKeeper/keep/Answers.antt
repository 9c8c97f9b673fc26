use Rattle.std.proofs.Common.{◌∷◌, List, refl, sym, ap, ◌∙◌, subst}
use Rattle.std.proofs.lemmas.Bool.{false≢true}
use Rattle.oram_kept.specs.Keeper.{FindsOneOf, KeeperValue, Knows}
use Rattle.oram_kept.specs.Kept.{KeptValue}
use Rattle.oram_kept.specs.Pages.{parts_of}
use Rattle.oram_kept.specs.Text.{Parts}
use Rattle.oram_kept.proofs.Known.{known_meanwhile, knows_more, knows_next}
use Rattle.oram_redo.specs.FilePair.{LeavesOnly}
use Rattle.oram_kept.proofs.keeper.TextKeeper.keep.Goals as goal

pub returns-in-Ok-clause-knows : goal.returns-in-Ok-clause-knows
returns-in-Ok-clause-knows g c knows =
    let model = g.F.FilePair.model in
    let p : Parts = parts_of c.args.text.now in
    let old : KeeperValue g.row.F.Denot = record { kept = c.self.inside.kept; texts = c.self.inside.history.texts } in
    let known : Knows model old = subst (λ (k : KeeperValue g.row.F.Denot). Knows model k) (sym c.self.view_is) knows in
    knows_next model p old _ known (c.note_text.ensures ∙ ap (λ (ps : List Parts). p ∷ ps) c.forget.ensures) c.in-Ok.ensures.ok (λ stopped. false≢true (c.in-Ok.ensures.stays stopped).0) old.kept.has_stopped refl

pub returns-in-Err-clause-knows : goal.returns-in-Err-clause-knows
returns-in-Err-clause-knows g c knows =
    let model = g.F.FilePair.model in
    let p : Parts = parts_of c.args.text.now in
    let old : KeeperValue g.row.F.Denot = record { kept = c.self.inside.kept; texts = c.self.inside.history.texts } in
    let known : Knows model old = subst (λ (k : KeeperValue g.row.F.Denot). Knows model k) (sym c.self.view_is) knows in
    knows_more model p old _ known c.note_text-in-Err.ensures c.in-Err.ensures.stops c.in-Err.ensures.either (λ stopped. (c.in-Err.ensures.stays stopped).1) old.kept.has_stopped refl

pub returns-in-Ok-clause-any_moment : goal.returns-in-Ok-clause-any_moment
returns-in-Ok-clause-any_moment g c knows =
    let model = g.F.FilePair.model in
    let p : Parts = parts_of c.args.text.now in
    let old : KeeperValue g.row.F.Denot = record { kept = c.self.inside.kept; texts = c.self.inside.history.texts } in
    let known : Knows model old = subst (λ (k : KeeperValue g.row.F.Denot). Knows model k) (sym c.self.view_is) knows in
    subst (λ (k : KeeperValue g.row.F.Denot). LeavesOnly model k.kept.files c.keep.new.self.files (FindsOneOf (p ∷ k.texts))) c.self.view_is
    (known_meanwhile model p old c.keep.new.self.files known (λ d left. g.met.F.FilePair.only_now old.kept.files d left) c.in-Ok.ensures.any_moment
    (λ stopped. absurd (false≢true (c.in-Ok.ensures.stays stopped).0)) old.kept.has_stopped refl)

pub returns-in-Err-clause-any_moment : goal.returns-in-Err-clause-any_moment
returns-in-Err-clause-any_moment g c knows =
    let model = g.F.FilePair.model in
    let p : Parts = parts_of c.args.text.now in
    let old : KeeperValue g.row.F.Denot = record { kept = c.self.inside.kept; texts = c.self.inside.history.texts } in
    let known : Knows model old = subst (λ (k : KeeperValue g.row.F.Denot). Knows model k) (sym c.self.view_is) knows in
    subst (λ (k : KeeperValue g.row.F.Denot). LeavesOnly model k.kept.files c.keep.new.self.files (FindsOneOf (p ∷ k.texts))) c.self.view_is
    (known_meanwhile model p old c.keep.new.self.files known (λ d left. g.met.F.FilePair.only_now old.kept.files d left) c.in-Err.ensures.any_moment
    (λ stopped. ap (λ (k : KeptValue g.row.F.Denot). k.files) (c.in-Err.ensures.stays stopped).1) old.kept.has_stopped refl)
