use Rattle.std.proofs.Common.{◌≡◌, ◌++◌, take}
use Rattle.oram_kept.specs.Pages.{bytes_of, patches_at, patches_of}
use Rattle.oram_kept.proofs.pages.PagedPart.add_pages.Given as goal

abbrev pub invariant-loop-index : goal.invariant-loop-index
invariant-loop-index l = patches_of l.pages.items ≡ patches_of l.fn.pages.items ++ patches_at l.start (bytes_of l.self) (take l.index-index l.indexes)
