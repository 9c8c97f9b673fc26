-- The program's faults for the faults of an image.
use Rattle.std.specs.Prelude.{◌≡◌, ℕ, List, Some}
use Rattle.oram_host.specs.ImageReader.{fault_number}
use Rattle.oram_host.specs.declared.images.ImageFault.{ImageFault}
use Rattle.oram_host.specs.declared.images.ImageFault.TheVariants as image
use Rattle.oramd.specs.Faults.{IsFileFault}
use Rattle.oramd.specs.declared.faults.Fault.{Fault}
use Rattle.oramd.specs.declared.faults.Fault.TheVariants.{Image, OutOfMemory}

-- the program's fault for a fault of the image in the file `name`: the number of the fault, if it
-- has one
abbrev pub IsImageFault : List ℕ → ImageFault → Fault → Type 0
IsImageFault name image.Io fault = IsFileFault name fault
IsImageFault name image.OutOfMemory fault = fault ≡ OutOfMemory
IsImageFault name why fault = (number : ℕ) × (fault_number why ≡ Some number) × (fault ≡ Image number)
