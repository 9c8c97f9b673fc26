use Rattle.std.proofs.Common.{◌≡◌, ◌+◌, ◌-◌, ◌<◌, ◌≤◌, ◌++◌, ℕ, List, [], max, Result, Ok, Err, OnErr, ap, ◌∙◌, subst, arith, inl, inr, length}
use Rattle.std.proofs.lemmas.Bool.{cases_lt}
use Rattle.std.proofs.lemmas.Result.{on_ok_weaker, on_err_weaker}
use Rattle.oram_geometry.specs.declared.Sizes.{Sizes}
use Rattle.oram_geometry.specs.Sizes.{depth_of, record_len_of}
use Rattle.oram_bucket.specs.Bucket.{spelling}
use Rattle.oram_bucket.specs.Cipher.{Cipher}
use Rattle.oram_semantics.specs.Nonces.{formatted_below}
use Rattle.oram_empty.specs.EmptyRecords.{begins_at, empty_record, joined}
use Rattle.oram_empty.specs.SubtreePaths.{subtree_path}
use Rattle.oram_empty.specs.KeptDigests.{Digests, upper_record}
use Rattle.oram_empty.proofs.Joined.{none_appended, one_more_appended, extended_by, below_is, whole_path, whole_len}
use Rattle.oram_empty.proofs.digests.EmptyDigests.append_records.Given as given
use Rattle.oram_empty.proofs.digests.EmptyDigests.append_records.Goals as goal

pub loop-level-init : goal.loop-level-init
loop-level-init g c = record {
  appended = c.reserve.ensures.items ∙ none_appended (upper_record (g.S.Sealer.cipher c.args.sealer.now) c.args.self.now c.args.tree c.args.leaf) c.args.first c.args.path.now.items;
  lengths = λ k low high. absurd (omega arith);
}

pub loop-level-preserved : goal.loop-level-preserved
loop-level-preserved g c =
    let f = upper_record (g.S.Sealer.cipher c.args.sealer.now) c.args.self.now c.args.tree c.args.leaf in
    record {
      appended = one_more_appended f c.args.first c.loop-level.level c.args.path.now.items c.loop-level.path.items c.append_upper.new.path.items (omega arith) c.loop-level.invariant.appended c.in_ok-append_upper.ensures.ok;
      lengths = λ k low high. elim (cases_lt k c.loop-level.level) [
        | inl below ↦ c.loop-level.invariant.lengths k low below
        | inr not_below ↦
            let here : c.loop-level.level ≡ k = omega arith in
            let L : ℕ → Type 0 = λ l. length (f l) ≡ record_len_of c.args.self.now.device (g.S.Sealer.cipher c.args.sealer.now).overhead in
            subst L here c.in_ok-append_upper.ensures.len
      ];
    }

-- a fact that holds whatever the answer is
whatever : {T E P : Type 0} (r : Result T E) → P → OnErr r P
whatever (Ok x) p = tt
whatever (Err e) p = p

pub returns-in_err-append_upper-clause-err : goal.returns-in_err-append_upper-clause-err
returns-in_err-append_upper-clause-err g c =
    whatever c.from_residual-in_err-append_upper.result (extended_by c.args.path.now.items c.loop-level.path.items c.append_upper.new.path.items _ c.loop-level.invariant.appended c.in_err-append_upper.ensures.err)

pub returns-in_err-scratch-clause-err : goal.returns-in_err-scratch-clause-err
returns-in_err-scratch-clause-err g c =
    whatever c.from_residual-in_err-scratch.result (joined (upper_record (g.S.Sealer.cipher c.args.sealer.now) c.args.self.now c.args.tree c.args.leaf) c.args.first (c.loop-level.level - c.args.first), c.loop-level.invariant.appended)

-- what is known once all upper records were appended
record Ends (cipher : Cipher) (s : Digests) (tree leaf first level : ℕ) (old mid path : List ℕ) : Type 0 where
  above : first ≤ level
  within : level ≤ depth_of s.device tree
  low : first < level → level + 3 ≤ depth_of s.device tree
  high : depth_of s.device tree ≤ level + 3
  mid_is : mid ≡ old ++ joined (upper_record cipher s tree leaf) first (level - first)
  path_is : path ≡ joined (empty_record cipher s.device tree leaf) level (depth_of s.device tree + 1 - level)

ends : (cipher : Cipher) (s : Digests) (two three : Sizes) (tree leaf first level low dep nonce : ℕ) (plain read old mid : List ℕ) → two ≡ s.device → three ≡ s.device → dep ≡ depth_of two tree → low ≡ max first (dep - 3) → first ≤ depth_of s.device tree
    → first ≤ level → (first ≤ low → level ≤ low) → low ≤ level → read ≡ plain → plain ≡ spelling s.device [] → nonce ≡ begins_at (formatted_below three tree) (depth_of three tree) leaf low
    → mid ≡ old ++ joined (upper_record cipher s tree leaf) first (level - first)
    → Ends cipher s tree leaf first low old mid (subtree_path (λ n. cipher.sealing n read) (dep - low) nonce leaf)
ends cipher s two three tree leaf first level low dep nonce plain read old mid two_is three_is dep_is low_is first_in above upto end read_is plain_is nonce_is mid_is =
    let depth_is : dep ≡ depth_of s.device tree = dep_is ∙ ap (λ (t : Sizes). depth_of t tree) two_is in
    let same : level ≡ low = omega arith in
    record {
      above = omega arith;
      within = omega arith;
      low = λ h. omega arith;
      high = omega arith;
      mid_is = mid_is ∙ ap (λ (l : ℕ). old ++ joined (upper_record cipher s tree leaf) first (l - first)) same;
      path_is = below_is cipher s tree leaf low dep nonce read (omega arith) depth_is (read_is ∙ plain_is) (nonce_is ∙ ap (λ (t : Sizes). begins_at (formatted_below t tree) (depth_of t tree) leaf low) three_is);
    }

module _ (g : given.Over) (c : goal.After-drop-plain-2 g) where
  ended : Ends (g.S.Sealer.cipher c.args.sealer.now) c.args.self.now c.args.tree c.args.leaf c.args.first c.max-low.result c.args.path.now.items c.loop-level.path.items
      (subtree_path (λ n. (g.S.Sealer.cipher c.args.sealer.now).sealing n c.deref-2.result.now) (c.depth-depth.result - c.max-low.result) c.begins_at-nonce.result c.args.leaf)
  ended =
      let low_is : c.max-low.result ≡ max c.args.first (c.depth-depth.result - 3) = c.max-low.ensures ∙ ap (max c.args.first) c.saturating_sub.ensures in
      ends (g.S.Sealer.cipher c.args.sealer.now) c.args.self.now c.device-2.result.now c.device-4.result.now c.args.tree c.args.leaf c.args.first c.loop-level.level c.max-low.result c.depth-depth.result c.begins_at-nonce.result
      c.in_ok-plain.plain.items c.deref-2.result.now c.args.path.now.items c.loop-level.path.items
      c.device-2.ensures c.device-4.ensures c.depth-depth.ensures.count low_is c.requires.first c.loop-level.auto.level c.loop-level.auto.level-end c.loop-level-test.false
      c.deref-2.ensures.value (c.in_ok-plain.ensures.spelled ∙ ap (λ (t : Sizes). spelling t []) c.device.ensures) c.begins_at-nonce.ensures.value c.loop-level.invariant.appended

pub returns-clause-made : goal.returns-clause-made
returns-clause-made g c =
    let e = ended g c in
    on_ok_weaker c.append_subtree_path.result
    (λ new_is. whole_path (g.S.Sealer.cipher c.args.sealer.now) c.args.self.now c.args.tree c.args.leaf c.args.first c.max-low.result c.args.path.now.items c.loop-level.path.items c.append_subtree_path.new.path.items _
    e.above e.within e.low e.high e.mid_is e.path_is new_is) c.append_subtree_path.ensures.ok

pub returns-clause-len : goal.returns-clause-len
returns-clause-len g c =
    let e = ended g c in
    let same : c.loop-level.level ≡ c.max-low.result = omega (arith, c.loop-level.auto.level-end e.above, c.loop-level-test.false) in
    on_ok_weaker c.append_subtree_path.result
    (λ new_is. whole_len (g.S.Sealer.cipher c.args.sealer.now) c.args.self.now c.args.tree c.args.leaf c.args.first c.max-low.result c.args.path.now.items c.loop-level.path.items c.append_subtree_path.new.path.items _
    (g.met.S.Sealer.lawful c.args.sealer.now) e.above e.within e.mid_is (λ k low high. c.loop-level.invariant.lengths k low (omega arith)) e.path_is new_is) c.append_subtree_path.ensures.ok

pub returns-clause-err : goal.returns-clause-err
returns-clause-err g c =
    on_err_weaker c.append_subtree_path.result (λ more. extended_by c.args.path.now.items c.loop-level.path.items c.append_subtree_path.new.path.items _ c.loop-level.invariant.appended more) c.append_subtree_path.ensures.err
