-- New files, and those that were filled.
use Rattle.std.proofs.Common.{◌≡◌, ℕ, List, [], ◌∷◌, ◌∙◌, ap}
use Rattle.oram_redo.specs.Content.{Content, Agrees, put}
use Rattle.oram_redo.specs.FilePair.{Contents, Same}
use Rattle.oram_redo.specs.declared.file_pair.FileKind.{FileKind}
use Rattle.oram_redo.specs.declared.file_pair.FileKind.TheVariants.{Records, Log}

-- contents that agree everywhere are one
pub content_one : (c d : Content) → Agrees c d → c ≡ d
content_one c d same = λ i k. same k i

pub contents_one : (c d : Contents) → Same c d → c ≡ d
contents_one c d same = λ i file k. same file k i

-- bytes that are put into an empty content
pub put_in_zeros : (bytes : List ℕ) (at : ℕ) (empty filled : Content) → Agrees empty (λ i. 0) → Agrees filled (put bytes at empty) → Agrees filled (put bytes at (λ i. 0))
put_in_zeros bytes at empty filled zeros there i = there i ∙ ap (λ (c : Content). put bytes at c i) (content_one empty (λ k. 0) zeros)
