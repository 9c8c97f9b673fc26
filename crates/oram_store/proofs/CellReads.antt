-- A cell that is read with its mark onto the last byte of what was read before.
use Rattle.std.proofs.Common.{◌≡◌, ℕ, suc, ◌+◌, ◌-◌, ◌<◌, List, [], ◌∷◌, ◌++◌, length, take, drop, get_or, Some, refl, sym, ap, ◌∙◌, subst, arith, append_assoc}
use Rattle.std.proofs.Math.ListN.{set}
use Rattle.std.proofs.Math.Seq.{get_or-append_seam, set-append_seam, take-suc}
use Rattle.std.proofs.lemmas.List.{length-take-le, take_all}
use Rattle.oram_layout.specs.Limits.{nodes_of}
use Rattle.oram_layout.specs.Records.{record_in}
use Rattle.oram_layout.specs.Trees.{cell_at, sizes_of}
use Rattle.oram_layout.specs.declared.trees.Tree.{Tree}
use Rattle.oram_layout.proofs.Contents.{record_marked}
use Rattle.oram_redo.specs.Content.{Content, bytes_at}
use Rattle.oram_redo.specs.FilePair.{ReadOnto}
use Rattle.oram_store.specs.Batches.{RecordOnto}

-- a list and its last byte
last_is : (xs : List ℕ) (d : ℕ) → 0 < length xs → take (length xs - 1) xs ++ get_or xs (length xs - 1) d ∷ [] ≡ xs
last_is xs d some =
    let all : suc (length xs - 1) ≡ length xs = omega (arith, some) in
    sym (take-suc xs (length xs - 1) d (omega (arith, some))) ∙ ap (λ (n : ℕ). take n xs) all ∙ take_all (length xs) xs (omega arith)

module _ (is_there is_known : Type 0) (tree : Tree) (node : ℕ) (c : Content) (within : node < nodes_of (sizes_of tree.shape)) where
  marked : (mark : ℕ) (bytes : List ℕ) → (is_there → mark ≡ 1) → (is_known → mark ∷ bytes ≡ bytes_at (tree.shape.record_len + 1) (cell_at tree node) c) → is_there × is_known → record_in (Some tree) node c ≡ Some bytes
  marked mark bytes one read both =
      let more : tree.shape.record_len + 1 ≡ suc tree.shape.record_len = omega arith in
      let is : mark ∷ bytes ≡ bytes_at (suc tree.shape.record_len) (cell_at tree node) c = read both.1 ∙ ap (λ (n : ℕ). bytes_at n (cell_at tree node) c) more in
      let there : c (cell_at tree node) ≡ 1 = sym (ap (λ (l : List ℕ). get_or l 0 0) is) ∙ one both.0 in
      record_marked (Some tree ∷ []) c 0 node tree (record { is_there = refl; within = within }) there ∙ ap (λ (l : List ℕ). Some (drop 1 l)) (sym is)

  onto : (old cut read : List ℕ) (last place : ℕ) → cut ++ last ∷ [] ≡ old → length read ≡ tree.shape.record_len + 1 → (is_known → read ≡ bytes_at (tree.shape.record_len + 1) place c) → place ≡ cell_at tree node
      → (is_there → get_or (cut ++ read) (length cut) 0 ≡ 1) → RecordOnto (is_there × is_known) tree node c old (set (cut ++ read) (length cut) last)
  onto old cut [] last place whole long read there one = absurd (omega (arith, long))
  onto old cut (mark ∷ bytes) last place whole long read there one = record {
    more = bytes;
    long = omega (arith, long);
    grown = set-append_seam cut mark bytes last ∙ sym (append_assoc cut (last ∷ []) bytes) ∙ ap (λ (l : List ℕ). l ++ bytes) whole;
    is = marked mark bytes (λ marks. sym (get_or-append_seam cut mark bytes 0) ∙ one marks) (λ known. read known ∙ ap (λ (at : ℕ). bytes_at (tree.shape.record_len + 1) at c) there);
  }

  -- the last byte of `old` made way for the mark, and was put back
  pub cell_onto : (old cut mid : List ℕ) (start last mark place : ℕ) → 0 < length old → start ≡ length old - 1 → last ≡ get_or old start last → cut ≡ take start old
      → ReadOnto (tree.shape.record_len + 1) place c is_known cut mid → place ≡ cell_at tree node → mark ≡ get_or mid start mark → (is_there → mark ≡ 1)
      → RecordOnto (is_there × is_known) tree node c old (set mid start last)
  cell_onto old cut mid start last mark place some start_is last_is_there cut_is onto_cut there mark_is one =
      let long : length cut ≡ start = ap length cut_is ∙ length-take-le start old (omega (arith, start_is, some)) in
      let whole : cut ++ last ∷ [] ≡ old =
      ap (λ (l : List ℕ). l ++ last ∷ []) cut_is ∙ ap (λ (x : ℕ). take start old ++ x ∷ []) last_is_there ∙ ap (λ (n : ℕ). take n old ++ get_or old n last ∷ []) start_is ∙ last_is old last some in
      let at_mark : is_there → get_or (cut ++ onto_cut.read) (length cut) mark ≡ 1 =
      λ marks. ap (λ (l : List ℕ). get_or l (length cut) mark) (sym onto_cut.grown) ∙ ap (λ (n : ℕ). get_or mid n mark) long ∙ sym mark_is ∙ one marks in
      subst (λ (l : List ℕ). RecordOnto (is_there × is_known) tree node c old (set l start last)) (sym onto_cut.grown)
      (subst (λ (n : ℕ). RecordOnto (is_there × is_known) tree node c old (set (cut ++ onto_cut.read) n last)) long
      (onto old cut onto_cut.read last place whole onto_cut.long onto_cut.is there (λ marks. marked_at cut onto_cut.read mark onto_cut.long (at_mark marks))))
    where
      marked_at : (cut read : List ℕ) (mark : ℕ) → length read ≡ tree.shape.record_len + 1 → get_or (cut ++ read) (length cut) mark ≡ 1 → get_or (cut ++ read) (length cut) 0 ≡ 1
      marked_at cut [] mark long is = absurd (omega (arith, long))
      marked_at cut (x ∷ xs) mark long is = get_or-append_seam cut x xs 0 ∙ sym (get_or-append_seam cut x xs mark) ∙ is
