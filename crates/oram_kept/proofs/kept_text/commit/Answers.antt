use Rattle.std.proofs.Common.{◌≡◌, inl, inr, ⊎_elim, [], ap, ◌∙◌}
use Rattle.oram_redo.specs.Batch.{patches_of}
use Rattle.oram_redo.specs.Content.{Content}
use Rattle.oram_redo.specs.Log.{put_all}
use Rattle.oram_redo.specs.FilePair.{Contents}
use Rattle.oram_redo.specs.Redo.{bounds_of}
use Rattle.oram_redo.specs.declared.file_pair.FileKind.TheVariants.{Records}
use Rattle.oram_redo.proofs.Consistent.{consistent_same}
use Rattle.oram_redo.proofs.Moments.{leads_to, same_content, then_leaves}
use Rattle.oram_kept.specs.Kept.{StandsEither}
use Rattle.oram_kept.proofs.Held.{nothing_later, stands_along}
use Rattle.oram_kept.proofs.kept_text.commit.Goals as goal

pub returns-in_err-begin-clause-any_moment : goal.returns-in_err-begin-clause-any_moment
returns-in_err-begin-clause-any_moment g c consistent =
    let model = g.F.FilePair.model in
    let old = c.args.files.now in
    let mid = c.shorten.new.files in
    let before : Content = model.seen old Records in
    let Either : Contents → Type 0 = StandsEither (bounds_of c.args.redo.now) before (put_all (patches_of c.args.batch.now) before) in
    nothing_later model Either old mid c.begin.new.files (leads_to model old mid _ Either (c.in_ok-shorten.ensures.any_moment consistent) (λ d stands. inl stands))
    c.begin.ensures.nothing_written (g.met.F.FilePair.counts_now mid)

pub returns-clause-any_moment : goal.returns-clause-any_moment
returns-clause-any_moment g c consistent =
    let model = g.F.FilePair.model in
    let old = c.args.files.now in
    let late = c.begin.new.files in
    let before : Content = model.seen old Records in
    let batch = patches_of c.args.batch.now in
    let b = bounds_of c.args.redo.now in
    let bounded = c.in_ok-shorten.ensures.bounds in
    let nothing = c.begin.ensures.nothing_written in
    let same : model.seen late Records ≡ before = same_content (model.seen late Records) before (λ i. nothing.seen_same Records i ∙ c.in_ok-shorten.ensures.records i) in
    let sure = consistent_same _ [] _ _ (c.in_ok-shorten.ensures.consistent consistent) (model.seen late) (model.may_leave late) nothing.seen_same nothing.leaves in
    let mid = c.shorten.new.files in
    let Either : Contents → Type 0 = StandsEither b before (put_all batch before) in
    then_leaves model old late c.commit.new.files Either _
    (nothing_later model Either old mid late (leads_to model old mid _ Either (c.in_ok-shorten.ensures.any_moment consistent) (λ d stands. inl stands)) nothing (g.met.F.FilePair.counts_now mid))
    (c.commit.ensures.any_moment [] sure)
    (λ d left. ⊎_elim
    (λ stands. inl (stands_along _ b _ before d bounded same stands))
    (λ stands. inr (stands_along _ b _ (put_all batch before) d bounded (ap (put_all batch) same) stands))
    left.stands)
