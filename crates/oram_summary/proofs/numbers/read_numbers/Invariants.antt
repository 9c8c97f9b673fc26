use Rattle.std.proofs.Common.{◌≡◌, ℕ, ◌+◌, ◌*◌, List, ◌++◌, ◌<◌, ◌^◌, take, length, get_or}
use Rattle.std.specs.Int.{w64, to_be_bytes}
use Rattle.std.specs.List.{flat_map}
use Rattle.oram_summary.proofs.numbers.read_numbers.Given as goal

-- the first i numbers are read
pub record IsRead (text rest numbers : List ℕ) (i : ℕ) : Type 0 where
  pub count : length numbers ≡ 14
  pub fit : (k : ℕ) → get_or numbers k 0 < 2 ^ 64
  pub front : text ≡ flat_map (to_be_bytes w64) (take i numbers) ++ rest
  pub long : length rest + 8 * i ≡ length text

abbrev pub invariant-loop-i : goal.invariant-loop-i
invariant-loop-i l = IsRead l.text l.rest l.numbers l.i
