-- Images of what a tree holds.
use Rattle.std.proofs.Common.{◌≡◌, inl, inr, ℕ, ◌<◌, List, Option, Some, None, IsSome, ap, sym, ◌∙◌, subst, refl, true, Contains}
use Rattle.oram_geometry.specs.declared.Sizes.{Sizes}
use Rattle.oram_geometry.specs.Sizes.{depth_of}
use Rattle.oram_hash.specs.Record.{sealed_part}
use Rattle.oram_bucket.specs.Cell.{Cell}
use Rattle.oram_bucket.specs.SealedBlocks.{Reads}
use Rattle.oram_bucket.proofs.UniqueEncoding.{reads_once}
use Rattle.oram_tree.specs.Access.{content_or_zeros}
use Rattle.oram_tree.specs.Content.{Entry, Map, entry_of, node_count}
use Rattle.oram_tree.specs.State.{IsStoredWith, State}
use Rattle.oram_scan.specs.Blocks.{AreRead, FoundBlocksAreTheContents, IsFound, WholeTreesGiveTheContent}

-- the tree holds each block that was found
held_as_found : (opening : List ℕ → Option (List ℕ)) (overhead : ℕ) (d : Sizes) (t : State) (records : ℕ → List ℕ) (content : Map)
    (WasRead : ℕ → Type 0) (found : ℕ → List Cell) → IsStoredWith opening overhead d t records content
    → ((n : ℕ) → WasRead n → n < node_count (depth_of d t.number)) → AreRead (Reads opening d t.number) records WasRead found
    → (c : Cell) → IsFound WasRead found t.stash c → content c.address ≡ Some (entry_of c)
held_as_found opening overhead d t records content WasRead found stored within read c (inl (n, was, has)) =
    stored.holds.from_tree n c (within n was) (found n, read n was, has)
held_as_found opening overhead d t records content WasRead found stored within read c (inr has) = stored.holds.from_stash c has

pub found_are_the_contents : FoundBlocksAreTheContents
found_are_the_contents opening overhead d t records content was_read found image stored within read is c here =
    is.written c here
    ∙ sym (ap (content_or_zeros d.block_bytes) (held_as_found opening overhead d t records content (λ n. was_read n ≡ true) found stored within read c here))

pub whole_give_the_content : WholeTreesGiveTheContent
whole_give_the_content opening overhead d t records content found image of stored read is a = go (content a) refl
  where
    WasRead : ℕ → Type 0
    WasRead n = n < node_count (depth_of d t.number)

    holds : (c : Cell) → IsFound WasRead found t.stash c → content c.address ≡ Some (entry_of c)
    holds c here = held_as_found opening overhead d t records content WasRead found stored (λ n below. below) read c here

    same_entry : (c : Cell) (e : Entry) → IsFound WasRead found t.stash c → c.address ≡ a → content a ≡ Some e → image a ≡ e.content
    same_entry c e here at some =
        let whole : Some (entry_of c) ≡ Some e = sym (holds c here) ∙ ap content at ∙ some in
        let entry : entry_of c ≡ e = cc in
        ap image (sym at) ∙ is.written c here ∙ ap (λ (x : Entry). x.content) entry

    go : (o : Option Entry) → content a ≡ o → image a ≡ content_or_zeros d.block_bytes (content a)
    go None none = is.zeros a (λ c here at. absurd (let some : None ≡ Some (entry_of c) = sym none ∙ sym (ap content at) ∙ holds c here in cc)) ∙ sym (ap (content_or_zeros d.block_bytes) none)
    go (Some e) some =
        elim (stored.holds.held a (subst IsSome (sym some) refl)) [
          | inl (c, at, has) ↦ same_entry c e (inr has) at some ∙ sym (ap (content_or_zeros d.block_bytes) some)
          | inr (c, n, at, below, (cells, reads, has)) ↦
              let same : cells ≡ found n = reads_once opening d t.number (sealed_part (records n)) cells (found n) of reads (read n below) in
              same_entry c e (inl (n, below, subst (λ (xs : List Cell). Contains xs c) same has)) at some ∙ sym (ap (content_or_zeros d.block_bytes) some)
        ]
