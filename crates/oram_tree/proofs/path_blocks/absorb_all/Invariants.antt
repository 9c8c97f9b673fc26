use Rattle.std.proofs.Common.{◌≢◌, ◌⊎◌, ◌↔◌, Contains}
use Rattle.oram_bucket.specs.Cell.{Cell, IsRising}
use Rattle.oram_tree.proofs.path_blocks.absorb_all.Given as goal

abbrev pub invariant-loop-block : goal.invariant-loop-block
invariant-loop-block l = record {
  rising : IsRising l.near;
  apart : (c d : Cell) → Contains l.yielded c → Contains l.initial.near d → c.address ≢ d.address;
  apart_own : (c d : Cell) → Contains l.yielded c → Contains l.stash d → c.address ≢ d.address;
  all : (c : Cell) → Contains l.near c ↔ (Contains l.initial.near c ⊎ Contains l.yielded c);
}
