-- The files of a store, as they are on the disk: of a new one, and of one that has got its first tree since.
use Rattle.std.specs.Prelude.{◌≡◌, ◌++◌, List, [], ◌∷◌, None, Some, length, replicate}
use Rattle.oram_redo.specs.Log.{Patch, StandsFor, entries, put_all}
use Rattle.oram_redo.specs.Memory.{byte_of}
use Rattle.oram_redo.specs.Opened.{Opened, contents_in}
use Rattle.oram_layout.specs.BucketFile.{IsBucketFile}
use Rattle.oram_layout.specs.Changes.{tree_patch}
use Rattle.oram_pair.specs.Fronts.{front_bytes}
use Rattle.oram_layout.specs.Fronts.{log_letters}
use Rattle.oram_layout.specs.Header.{letters}
use Rattle.oram_layout.specs.Trees.{Trees}
use Rattle.oram_pair.specs.declared.fronts.Identity.{Identity}
use Rattle.oram_layout.specs.declared.trees.TheConstants.{CELLS_AT}
use Rattle.oram_layout.specs.declared.trees.Tree.{Tree}
use Rattle.oram_store.specs.RecordFile.{bounds}

-- Each has its front. From the place 4096 on, the log has the entries of some patches and a shut gate.
abbrev pub files_with : Identity → List Patch → Opened
files_with identity patches = record {
  records = front_bytes letters identity;
  log = (front_bytes log_letters identity ++ replicate 4064 0) ++ (entries patches ++ 15 ∷ []);
  unsynced = [];
}

-- The two files stand for the content that the patches give, and that is the content of a bucket file with these trees. So they meet
-- the premises of `open_pair`.
pub record StandForTrees (identity : Identity) (patches : List Patch) (trees : Trees) : Type 0 where
  pub stand : StandsFor bounds [] (put_all patches (byte_of (front_bytes letters identity))) (contents_in (files_with identity patches))
  pub is_file : IsBucketFile trees (put_all patches (byte_of (front_bytes letters identity)))

-- New files have no trees. Once the log has the entry of a first tree, they have that one.
pub record NewFilesStand (identity : Identity) (whole : length identity.0 ≡ 16) : Type 0 where
  pub none : StandForTrees identity [] (replicate 256 None)
  pub one : (tree : Tree) → tree.base ≡ CELLS_AT → StandForTrees identity (tree_patch 0 tree ∷ []) (Some tree ∷ replicate 255 None)
