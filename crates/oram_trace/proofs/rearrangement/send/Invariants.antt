use Rattle.std.proofs.Common.{◌≡◌, ◌≢◌, ℕ, ◌<◌, length, get_or}
use Rattle.oram_trace.proofs.rearrangement.send.Given as goal

-- the elements so far are written to their places, and every other place is unchanged
abbrev pub invariant-loop-place : goal.invariant-loop-place
invariant-loop-place l = record {
  long : length l.order ≡ length l.fn.order;
  sent : (k : ℕ) → k < length l.yielded → get_or l.order (get_or l.from k 0) 0 ≡ get_or l.to k 0;
  others : (p : ℕ) → ((k : ℕ) → k < length l.yielded → get_or l.from k 0 ≢ p) → get_or l.order p 0 ≡ get_or l.fn.order p 0;
}
