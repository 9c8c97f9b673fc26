-- A record that is written where there was none, and a tree that is added.
use Rattle.std.proofs.Common.{◌≡◌, ◌≢◌, ◌⊎◌, inl, inr, ℕ, zero, suc, ◌+◌, ◌<◌, ◌≤◌, false, List, [], ◌∷◌, ◌++◌, length, refl, sym, ◌∙◌, ap, subst, arith}
use Rattle.std.specs.Prelude.{All, Contains}
use Rattle.std.proofs.lemmas.Bool.{cases_order}
use Rattle.oram_layout.specs.Changes.{IsCell, IsOffRecords, marks, unmarked_patch}
use Rattle.oram_layout.specs.Laws.{HasNode}
use Rattle.oram_layout.specs.Records.{Records as RecordsOf, records_in}
use Rattle.oram_layout.specs.Trees.{Trees, cell_at}
use Rattle.oram_layout.specs.declared.trees.Tree.{Tree}
use Rattle.oram_layout.proofs.Changes.{loose_kept, mark_puts, marks_kept, unmarked_off}
use Rattle.oram_redo.specs.FilePair.{FileModel}
use Rattle.oram_redo.specs.Content.{Agrees, Content, put}
use Rattle.oram_redo.specs.Log.{AgreesBut, Patch, Spares, put_all}
use Rattle.oram_redo.specs.declared.file_pair.FileKind.TheVariants.{Records}
use Rattle.oram_redo.proofs.Heal.{put_all_heals, put_all_spares}
use Rattle.oram_store.specs.Crashes.{IsCarriedOut, MayBeFound, MayHold, Serves, ServesWhole}
use Rattle.oram_store.specs.KeptRecords.{Holds, IsSound, IsSoundFile, LeavesRecords, StoreValue, content_of, records_of, sure_records}
use Rattle.oram_store.specs.RecordFile.{IsSteady, OnlyIf, Passes}
use Rattle.oram_wire.specs.declared.host_messages.HostAnswer.{HostAnswer}
use Rattle.oram_wire.specs.declared.host_messages.HostAnswer.TheVariants as answer
use Rattle.oram_wire.specs.declared.host_messages.HostRequest.TheVariants as request
use Rattle.oram_store.proofs.Crashes.{found_leads}
use Rattle.oram_store.proofs.Sound.{loose_leaves}

-- a place that isn't one of these cells has no mark
pub marks_miss : (cells : List ℕ) (cell : ℕ) → (Contains cells cell → ⊥) → Spares (marks cells) cell
marks_miss [] cell fresh = tt
marks_miss (c ∷ cells) cell fresh = (beside (cases_order cell c), marks_miss cells cell (λ has. fresh (suc has.0, omega (arith, has.1), has.2)))
  where
    beside : (cell ≡ c) ⊎ ((cell < c) ⊎ (c < cell)) → (cell < c) ⊎ (c + 1 ≤ cell)
    beside (inl same) = absurd (fresh (zero, omega arith, sym same))
    beside (inr (inl below)) = inl below
    beside (inr (inr above)) = inr (omega arith)

all_last : {A : Type 0} (Q : A → Type 0) (xs : List A) (x : A) → All Q xs → Q x → All Q (xs ++ x ∷ [])
all_last Q [] x all last zero d h = last
all_last Q [] x all last (suc k) d h = absurd (omega arith)
all_last Q (y ∷ ys) x all last zero d h = all zero d (omega arith)
all_last Q (y ∷ ys) x all last (suc k) d h = all_last Q ys x (λ j e l. all (suc j) e (omega arith)) last k d (omega arith)

module _ {F : Type 0} (model : FileModel F)
    (number node : ℕ) (bytes : List ℕ) (tree : Tree) (old new : StoreValue F) (s : IsSound model old) (has : HasNode old.trees number tree node) (long : length bytes ≡ tree.shape.record_len)
    (fresh : Contains old.pending (cell_at tree node) → ⊥) (unset : model.seen old.file.files Records (cell_at tree node) ≢ 1)
    (passes : (loose : List Patch) → IsSteady model old.file loose
    → Passes model (unmarked_patch tree node bytes ∷ loose) (λ r. AgreesBut (unmarked_patch tree node bytes ∷ loose) r (model.seen old.file.files Records)) old.file new.file)
    (elsewhere : AgreesBut (unmarked_patch tree node bytes ∷ []) (model.seen new.file.files Records) (model.seen old.file.files Records)) (same : new.trees ≡ old.trees) where
  leaves : LeavesRecords model old.trees old.file new.file
  leaves = loose_leaves model old.trees old.file new.file (unmarked_patch tree node bytes) s.file
      (unmarked_off old.trees (model.seen old.file.files Records) number tree node bytes has unset (omega (arith, long))) passes elsewhere

  whole : (given : HostAnswer) → ServesWhole model (request.Put number node bytes) given old new
  whole given = found_leads model old.file.files new.file.files (Holds old.trees (sure_records model old))
      (λ c. MayHold old.trees (sure_records model old) (records_of model old) c ⊎ OnlyIf (MayBeFound given new.file.has_stopped) (IsCarriedOut old.trees (records_of model old) (request.Put number node bytes) c))
      leaves.moments (λ c holds. inl (inl holds))

  still_sound : All (IsCell old.trees) new.pending → new.file.has_stopped ≡ false → IsSound model new
  still_sound cells running = record {
    file = subst (λ (t : Trees). IsSoundFile model t new.file) (sym same) (leaves.sound running);
    cells = subst (λ (t : Trees). All (IsCell t) new.pending) (sym same) cells;
  }

  pub serves_added : Agrees (model.seen new.file.files Records) (put bytes (suc (cell_at tree node)) (model.seen old.file.files Records)) → new.pending ≡ old.pending ++ cell_at tree node ∷ []
      → Serves model (request.Put number node bytes) answer.Done old new
  serves_added written pushed =
      let puts = mark_puts old.trees old.pending (model.seen old.file.files Records) (model.seen new.file.files Records) number tree node bytes s.file.file s.cells has long written in
      let is : records_in old.trees (put_all (marks (old.pending ++ cell_at tree node ∷ [])) (model.seen new.file.files Records)) ≡ records_of model new =
      ap (λ (l : List ℕ). λ t n. records_in old.trees (put_all (marks l) (model.seen new.file.files Records)) t n) (sym pushed) ∙ ap (λ (ts : Trees). λ t n. records_in ts (content_of model new) t n) (sym same) in
      record {
        sound = still_sound (subst (λ (l : List ℕ). All (IsCell old.trees) l) (sym pushed) (all_last (IsCell old.trees) old.pending (cell_at tree node) s.cells
            (record { number = number; tree = tree; node = node; is_there = has.is_there; within = has.within; place = refl })));
        records = λ running. (ap (λ (r : RecordsOf). r number node) (sym is) ∙ puts.there, λ other n differ. ap (λ (r : RecordsOf). r other n) (sym is) ∙ puts.others other n differ);
        any_moment = whole answer.Done;
      }

  pub serves_not_added : new.pending ≡ old.pending → Serves model (request.Put number node bytes) (answer.Refused 8) old new
  serves_not_added kept =
      let before : Content = put_all (marks old.pending) (model.seen old.file.files Records) in
      let after : Content = put_all (marks old.pending) (model.seen new.file.files Records) in
      let free : before (cell_at tree node) ≢ 1 = λ one. unset (sym (put_all_spares (marks old.pending) (model.seen old.file.files Records) (cell_at tree node) (marks_miss old.pending (cell_at tree node) fresh)) ∙ one) in
      let off = unmarked_off old.trees before number tree node bytes has free (omega (arith, long)) in
      let same_records = loose_kept old.trees (unmarked_patch tree node bytes ∷ []) before after (marks_kept old.trees old.pending (model.seen old.file.files Records) s.file.file s.cells) (one (IsOffRecords old.trees before) (unmarked_patch tree node bytes) off)
      (λ i spared. put_all_heals (marks old.pending) (model.seen old.file.files Records) (model.seen new.file.files Records) i (λ any. sym (elsewhere i spared))) in
      let is : records_in old.trees after ≡ records_of model new =
      ap (λ (l : List ℕ). λ t n. records_in old.trees (put_all (marks l) (model.seen new.file.files Records)) t n) (sym kept) ∙ ap (λ (ts : Trees). λ t n. records_in ts (content_of model new) t n) (sym same) in
      record {
        sound = still_sound (subst (λ (l : List ℕ). All (IsCell old.trees) l) (sym kept) s.cells);
        records = λ running t n. ap (λ (r : RecordsOf). r t n) (sym is) ∙ same_records.kept t n;
        any_moment = whole (answer.Refused 8);
      }
    where
      one : (Q : Patch → Type 0) (p : Patch) → Q p → All Q (p ∷ [])
      one Q p q zero d h = q
      one Q p q (suc k) d h = absurd (omega arith)
