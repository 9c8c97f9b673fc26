use Rattle.std.proofs.Common.{◌≡◌, take}
use Rattle.oram_kept.specs.Pages.{patches_of as pages_of}
use Rattle.oram_redo.specs.Batch.{patches_of}
use Rattle.oram_kept.proofs.kept_text.Change.batch_of.Given as goal

abbrev pub invariant-loop-page : goal.invariant-loop-page
invariant-loop-page l = patches_of l.batch.items ≡ pages_of (take l.page-index l.fn.self.pages.items)
