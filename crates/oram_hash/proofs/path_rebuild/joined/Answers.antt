use Rattle.std.proofs.Common.{◌≡◌, ◌≤◌, ◌<◌, ◌+◌, ◌++◌, ◌∷◌, [], ◌∙◌, ap, sym, arith, ℕ, List, map, length, length-take-le, take, slice_index_or, Vec, Global, vec_len}
use Rattle.std.proofs.lemmas.List.{take_all, take_more, get_or-map, length-map}
use Rattle.std.proofs.lemmas.List.Elements.{All-map, All-weaker}
use Rattle.oram_hash.specs.Path.{Path, digests_at}
use Rattle.oram_hash.specs.Rebuild.{joined_from}
use Rattle.oram_hash.proofs.Joins.{joined_more}
use Rattle.oram_hash.proofs.path_rebuild.joined.Goals as goal

-- one more level
more : (p : Path) (parts : List (List ℕ)) (level : ℕ) (records part : List ℕ) → level < length parts → part ≡ slice_index_or parts level part → records ≡ joined_from p 0 (take level parts)
    → records ++ part ++ digests_at p level ≡ joined_from p 0 (take (level + 1) parts)
more p parts level records part h is so_far =
    let count : level ≡ 0 + length (take level parts) = omega (arith, length-take-le level parts) in
    ap (λ (bs : List ℕ). bs ++ part ++ digests_at p level) so_far
    ∙ ap (λ (l : ℕ). joined_from p 0 (take level parts) ++ part ++ digests_at p l) count
    ∙ sym (joined_more p 0 (take level parts) part)
    ∙ ap (λ (x : List ℕ). joined_from p 0 (take level parts ++ x ∷ [])) is
    ∙ ap (joined_from p 0) (sym (take_more parts level part h))

pub loop-level-preserved : goal.loop-level-preserved
loop-level-preserved c =
    let parts = map (λ (part : Vec ℕ Global). part.items) c.args.sealed.now in
    let depth : c.path.inside.depth ≡ c.args.path.now.depth = ap (λ (p : Path). p.depth) c.path.view_is in
    let short : c.loop-level.level < length c.args.sealed.now = omega arith in
    let within : c.loop-level.level < length parts = omega (arith, length-map c.args.sealed.now (λ (part : Vec ℕ Global). part.items)) in
    let part = c.index-sealed-level.result in
    let is : part.items ≡ slice_index_or parts c.loop-level.level part.items =
    ap (λ (x : Vec ℕ Global). x.items) c.index-sealed-level.is ∙ sym (get_or-map (λ (x : Vec ℕ Global). x.items) c.args.sealed.now c.loop-level.level part part.items short) in
    c.in_ok-append_digests.ensures.ok
    ∙ ap (λ (bs : List ℕ). bs ++ digests_at c.args.path.now c.loop-level.level) (c.in_ok-extend_from_slice.ensures.items ∙ ap (λ (bs : List ℕ). c.loop-level.records.items ++ bs) c.deref.ensures.value)
    ∙ more c.args.path.now parts c.loop-level.level c.loop-level.records.items part.items within is c.loop-level.invariant

pub returns : goal.returns
returns c =
    let parts = map (λ (part : Vec ℕ Global). part.items) c.args.sealed.now in
    let depth : c.path.inside.depth ≡ c.args.path.now.depth = ap (λ (p : Path). p.depth) c.path.view_is in
    let count = length-map c.args.sealed.now (λ (part : Vec ℕ Global). part.items) in
    let end : length parts ≤ c.loop-level.level = omega (arith, count) in
    record {
      levels = count ∙ c.requires.levels;
      lengths = All-map (λ (part : List ℕ). length part + 64 ≡ c.args.path.now.record_len) (λ (part : Vec ℕ Global). part.items) c.args.sealed.now
          (All-weaker (λ (part : Vec ℕ Global). vec_len part + 64 ≡ c.args.path.now.record_len) (λ (part : Vec ℕ Global). length part.items + 64 ≡ c.args.path.now.record_len)
          (λ part e. ap (λ (n : ℕ). n + 64) (sym part.ok.0) ∙ e) c.args.sealed.now c.requires.lengths);
      joined = c.loop-level.invariant ∙ ap (joined_from c.args.path.now 0) (take_all c.loop-level.level parts end);
    }
