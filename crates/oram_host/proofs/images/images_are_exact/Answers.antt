use Rattle.oram_host.proofs.ExactImages.{exact_image}
use Rattle.oram_host.proofs.images.images_are_exact.Goals as goal

pub returns : goal.returns
returns c = λ text host all. exact_image text host all
