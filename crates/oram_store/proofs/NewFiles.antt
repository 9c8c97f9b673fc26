-- The files of a store stand for a bucket file: of a new one, and of one that has got its first tree since.
use Rattle.std.proofs.Common.{◌≡◌, ℕ, zero, suc, ◌+◌, ◌++◌, List, [], ◌∷◌, None, Some, length, lit<, refl, sym, ◌∙◌, ap, subst, arith, length-append, append_assoc}
use Rattle.std.proofs.Math.Seq.{get_or-append_seam}
use Rattle.std.proofs.lemmas.Bool.Decides.{nat_tests}
use Rattle.std.proofs.lemmas.List.{get_or_at, length-replicate}
use Rattle.std.specs.Prelude.{◌≢◌, All, Option, replicate}
use Rattle.oram_redo.specs.Content.{Has, put}
use Rattle.oram_redo.specs.Log.{Fits, Patch, entries, entry, put_all}
use Rattle.oram_redo.specs.Memory.{byte_of}
use Rattle.oram_redo.proofs.Logs.{length-entry, log_none}
use Rattle.oram_layout.specs.BucketFile.{IsBucketFile}
use Rattle.oram_layout.specs.Changes.{tree_patch}
use Rattle.oram_pair.specs.Fronts.{front_bytes}
use Rattle.oram_layout.specs.Fronts.{log_letters}
use Rattle.oram_layout.specs.Header.{letters}
use Rattle.oram_layout.specs.Trees.{AddsTree, next_of, tree_at}
use Rattle.oram_pair.specs.declared.fronts.Identity.{Identity}
use Rattle.oram_layout.specs.declared.trees.Tree.{Tree}
use Rattle.oram_layout.proofs.Added.{tree_added}
use Rattle.oram_layout.proofs.LogRoom.{patches_fit}
use Rattle.oram_layout.proofs.TreeEntries.{length-entry_bytes}
use Rattle.oram_store.specs.NewFiles.{NewFilesStand, StandForTrees, files_with}
use Rattle.oram_store.specs.RecordFile.{bounds}
use Rattle.oram_store.proofs.Recovery.{first_file}

-- the bytes of a file, put into an empty one
put_at : (bytes : List ℕ) (at i : ℕ) → put bytes at (λ k. 0) (at + i) ≡ byte_of bytes i
put_at [] at i = refl
put_at (b ∷ bytes) at zero =
    let here : at + zero ≡ at = omega arith in
    grind (arith, nat_tests)
put_at (b ∷ bytes) at (suc i) =
    let rest = put_at bytes (suc at) i in
    let moved : at + suc i ≡ suc at + i = omega arith in
    grind (arith, nat_tests)

is_put : (bytes : List ℕ) (i : ℕ) → byte_of bytes i ≡ put bytes 0 (λ k. 0) i
is_put bytes i =
    let same : 0 + i ≡ i = omega arith in
    sym (put_at bytes 0 i) ∙ ap (put bytes 0 (λ k. 0)) same

-- the bytes in the middle of a file
has_mid : (front mid behind : List ℕ) → Has mid (length front) (byte_of (front ++ (mid ++ behind)))
has_mid front [] behind = refl
has_mid front (x ∷ mid) behind =
    let moved : (front ++ x ∷ []) ++ (mid ++ behind) ≡ front ++ (x ∷ (mid ++ behind)) = append_assoc front (x ∷ []) (mid ++ behind) in
    let next : length (front ++ x ∷ []) ≡ suc (length front) = omega (arith, length-append front (x ∷ [])) in
    let here : byte_of (front ++ (x ∷ (mid ++ behind))) (length front) ≡ x = get_or-append_seam front x (mid ++ behind) 0 in
    let rest : Has mid (suc (length front)) (byte_of (front ++ (x ∷ (mid ++ behind)))) =
    subst (λ (k : ℕ). Has mid k (byte_of (front ++ (x ∷ (mid ++ behind))))) next (subst (λ (l : List ℕ). Has mid (length (front ++ x ∷ [])) (byte_of l)) moved (has_mid (front ++ x ∷ []) mid behind)) in
    (λ i. here i ∷ rest i)

next_none : (n : ℕ) → next_of (replicate n None) ≡ 8192
next_none zero = refl
next_none (suc n) = next_none n

only : {X : Type 0} (P : X → Type 0) (x : X) → P x → All P (x ∷ [])
only P x holds zero d low = holds
only P x holds (suc k) d low = absurd (omega (arith, low))

module _ (identity : Identity) (whole : length identity.0 ≡ 16) where
  abbrev log_front : List ℕ
  log_front = front_bytes log_letters identity ++ replicate 4064 0

  front_length : length log_front ≡ 4096
  front_length =
      let letters_length : length (front_bytes log_letters identity) ≡ 32 = omega (arith, whole, length-append log_letters identity.0) in
      omega (arith, letters_length, length-append (front_bytes log_letters identity) (replicate 4064 0), length-replicate {A = ℕ} 4064 0)

  -- the gate behind the entries
  gate_there : (patches : List Patch) → byte_of (files_with identity patches).log (4096 + length (entries patches)) ≡ 15
  gate_there patches =
      ap (λ (l : List ℕ). byte_of l (4096 + length (entries patches))) (sym (append_assoc log_front (entries patches) (15 ∷ [])))
      ∙ get_or_at (log_front ++ entries patches) 15 [] 0 (4096 + length (entries patches)) (omega (arith, front_length, length-append log_front (entries patches)))

  entries_there : (patches : List Patch) → Has (entries patches) 4096 (byte_of (files_with identity patches).log)
  entries_there patches = subst (λ (k : ℕ). Has (entries patches) k (byte_of (files_with identity patches).log)) front_length (has_mid log_front (entries patches) (15 ∷ []))

  empty_file : IsBucketFile (replicate 256 None) (byte_of (front_bytes letters identity))
  empty_file = first_file 256 identity (front_bytes letters identity) (byte_of (front_bytes letters identity)) refl refl whole (is_put (front_bytes letters identity))

  no_trees : StandForTrees identity [] (replicate 256 None)
  no_trees = record {
    stand = record {
      patches = [];
      log = log_none bounds (byte_of (files_with identity []).log) (lit< tt) (λ is. omega (arith, is, gate_there []));
      gives = λ i spared. refl;
    };
    is_file = empty_file;
  }

  adds : (tree : Tree) → AddsTree (replicate 256 None) 0 tree (Some tree ∷ replicate 255 None)
  adds tree = record {
    within = lit< tt;
    all = ap suc (length-replicate {A = Option Tree} 255 None);
    free = refl;
    there = refl;
    others = others;
  }
    where
      others : (n : ℕ) → n ≢ 0 → tree_at (Some tree ∷ replicate 255 None) n ≡ tree_at (replicate 256 None) n
      others zero differ = absurd (differ refl)
      others (suc n) differ = refl

  one_tree : (tree : Tree) → tree.base ≡ 8192 → StandForTrees identity (tree_patch 0 tree ∷ []) (Some tree ∷ replicate 255 None)
  one_tree tree base =
      let p : Patch = tree_patch 0 tree in
      let size : length (entries (p ∷ [])) ≡ 37 = omega (arith, length-append (entry p) [], length-entry p, length-entry_bytes (Some tree)) in
      record {
        stand = record {
          patches = p ∷ [];
          log = record {
            stands = entries_there (p ∷ []);
            shut = λ is. omega (arith, is, gate_there (p ∷ []));
            within = omega (arith, size);
            each = only (Fits bounds) p ((patches_fit bounds refl).of_tree 0 tree (lit< tt));
          };
          gives = λ i spared. refl;
        };
        is_file =
            (tree_added (replicate 256 None) (Some tree ∷ replicate 255 None) (byte_of (front_bytes letters identity)) (put_all (p ∷ []) (byte_of (front_bytes letters identity))) 0 tree
            empty_file (adds tree) (base ∙ sym (next_none 256)) (λ i. refl)).is_file;
      }

pub new_files_stand : (identity : Identity) (whole : length identity.0 ≡ 16) → NewFilesStand identity whole
new_files_stand identity whole = record { none = no_trees identity whole; one = one_tree identity whole }
