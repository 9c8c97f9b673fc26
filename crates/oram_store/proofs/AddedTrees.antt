-- Adding a tree.
use Rattle.std.proofs.Common.{◌≡◌, ◌≢◌, ◌⊎◌, inl, inr, ⊎_elim, ℕ, ◌<◌, Bool, true, false, List, [], ◌∷◌, length, Some, None, refl, sym, ◌∙◌, ap, subst, Result, Ok, Err, arith, length-set, get_or-set_same, get_or-set_other}
use Rattle.std.specs.Prelude.{All, OnErr, ◌==◌, if◌then◌else◌, slice_set}
use Rattle.std.proofs.lemmas.Bool.{cond-false, cond-true}
use Rattle.std.proofs.lemmas.Bool.Decides.{nat_tests}
use Rattle.oram_layout.specs.BucketFile.{IsBucketFile}
use Rattle.oram_layout.specs.Changes.{IsCell, IsOffRecords, marks, tree_patch}
use Rattle.oram_layout.specs.Limits.{TreeShape}
use Rattle.oram_layout.specs.Records.{AreKept, Records as RecordsOf, records_in}
use Rattle.oram_layout.specs.Trees.{AddsTree, Trees, next_of, shape_at, shape_of, sizes_of, tree_at}
use Rattle.oram_layout.specs.declared.trees.Tree.{Tree}
use Rattle.oram_layout.proofs.Added.{tree_added}
use Rattle.oram_layout.proofs.Contents.{content_is}
use Rattle.oram_redo.specs.FilePair.{FileModel}
use Rattle.oram_redo.specs.Content.{Agrees, Content}
use Rattle.oram_redo.specs.Log.{AgreesBut, put_all}
use Rattle.oram_redo.specs.declared.file_pair.FileKind.TheVariants.{Records}
use Rattle.oram_store.specs.Crashes.{IsCarriedOut, MayBeFound, MayHold, Serves, ServesWhole}
use Rattle.oram_store.specs.KeptRecords.{Holds, IsSound, IsSoundFile, StoreValue, records_of, sure_records}
use Rattle.oram_store.specs.Refusals.{ChangesTrees}
use Rattle.oram_store.specs.RecordFile.{Commits, OnlyIf}
use Rattle.oram_store.specs.declared.faults.StoreFault.{StoreFault}
use Rattle.oram_wire.specs.declared.host_messages.HostAnswer.{HostAnswer}
use Rattle.oram_wire.specs.declared.host_messages.HostAnswer.TheVariants as answer
use Rattle.oram_wire.specs.declared.host_messages.HostRequest.TheVariants as request
use Rattle.oram_store.proofs.Crashes.{found_leads}
use Rattle.oram_store.proofs.Sound.{holds_but}

pub adds_there : (trees : Trees) (number : ℕ) (tree : Tree) → number < 256 → length trees ≡ 256 → tree_at trees number ≡ None → AddsTree trees number tree (slice_set trees number (Some tree))
adds_there trees number tree low all free =
    let within : number < length trees = omega arith in
    record {
      within = low;
      all = length-set trees number (Some tree) ∙ all;
      free = free;
      there = get_or-set_same trees number (Some tree) None within;
      others = λ n ne. get_or-set_other trees number n (Some tree) None ne;
    }

pub leads_there : (old new : Trees) (number depth record_len : ℕ) (tree : Tree) → AddsTree old number tree new → sizes_of tree.shape ≡ record { depth = depth; record_len = record_len } → ChangesTrees old (request.Shape number depth record_len) new
leads_there old new number depth record_len tree adds sizes other = go (other == number) refl
  where
    go : (b : Bool) → (other == number) ≡ b → shape_at new other ≡ (if other == number then Some (record { depth = depth; record_len = record_len }) else shape_at old other)
    go true e =
        let is : other ≡ number = grind (arith, nat_tests, e) in
        ap (shape_at new) is ∙ ap shape_of adds.there ∙ ap (λ (t : TreeShape). Some t) sizes ∙ sym (cond-true (other == number) (Some (record { depth = depth; record_len = record_len })) (shape_at old other) e)
    go false e =
        let differs : other ≢ number = grind (arith, nat_tests, e) in
        ap shape_of (adds.others other differs) ∙ sym (cond-false (other == number) (Some (record { depth = depth; record_len = record_len })) (shape_at old other) e)

module _ {F : Type 0} (model : FileModel F)
    (number depth record_len : ℕ) (tree : Tree) (more : Trees) (mid new : StoreValue F) (s : IsSound model mid) (none : mid.pending ≡ []) (still : new.pending ≡ [])
    (adds : AddsTree mid.trees number tree more) (leads : ChangesTrees mid.trees (request.Shape number depth record_len) more) (base : tree.base ≡ next_of mid.trees) where
  before : sure_records model mid ≡ records_of model mid
  before = ap (λ (l : List ℕ). λ t n. records_in mid.trees (put_all (marks l) (model.seen mid.file.files Records)) t n) (sym none)

  after : records_in new.trees (model.seen new.file.files Records) ≡ records_of model new
  after = ap (λ (l : List ℕ). λ t n. records_in new.trees (put_all (marks l) (model.seen new.file.files Records)) t n) (sym still)

  made : (c : Content) → Agrees c (put_all (tree_patch number tree ∷ []) (model.seen mid.file.files Records)) → Holds more (records_of model mid) c
  made c agrees =
      let added = tree_added mid.trees more (model.seen mid.file.files Records) c number tree s.file.file adds base agrees in
      record { file = added.is_file; kept = subst (λ (r : RecordsOf). AreKept r (records_in more c)) before added.kept }

  whole : (r : Result Unit StoreFault) (given : HostAnswer) → (OnErr r (new.file.has_stopped ≡ true) → MayBeFound given new.file.has_stopped)
      → Commits model (tree_patch number tree ∷ []) r mid.file new.file → ServesWhole model (request.Shape number depth record_len) given mid new
  whole r given allows commits = found_leads model mid.file.files new.file.files
      (λ c. AgreesBut s.file.loose c (model.seen mid.file.files Records) ⊎ OnlyIf (OnErr r (new.file.has_stopped ≡ true)) (Agrees c (put_all (tree_patch number tree ∷ []) (model.seen mid.file.files Records))))
      (λ c. MayHold mid.trees (sure_records model mid) (records_of model mid) c ⊎ OnlyIf (MayBeFound given new.file.has_stopped) (IsCarriedOut mid.trees (records_of model mid) (request.Shape number depth record_len) c))
      (commits.moments s.file.loose s.file.steady)
      (λ c either. ⊎_elim (λ but. inl (inl (holds_but mid.trees s.file.loose (model.seen mid.file.files Records) c s.file.file s.file.off but)))
      (λ found. inr (record { allowed = allows found.allowed; holds = (more, leads, made c found.holds) })) either)

  no_cells : All (IsCell new.trees) new.pending
  no_cells = subst (λ (l : List ℕ). All (IsCell new.trees) l) (sym still) (λ k d h. absurd (omega arith))

  pub serves_shape : (x : Unit {0}) → Commits model (tree_patch number tree ∷ []) (Ok x) mid.file new.file → new.trees ≡ more
      → Serves model (request.Shape number depth record_len) answer.Done mid new
  serves_shape x commits is =
      let held = made (model.seen new.file.files Records) commits.done in
      record {
        sound = λ running. record {
          file = record {
            loose = [];
            steady = commits.sure s.file.loose s.file.steady running;
            off = λ k d h. absurd (omega arith);
            file = subst (λ (t : Trees). IsBucketFile t (model.seen new.file.files Records)) (sym is) held.file;
          };
          cells = no_cells;
        };
        records = λ running. subst (λ (r : RecordsOf). AreKept (records_of model mid) r) after (subst (λ (t : Trees). AreKept (records_of model mid) (records_in t (model.seen new.file.files Records))) (sym is) held.kept);
        any_moment = whole (Ok x) answer.Done (λ done. tt) commits;
      }

  pub serves_no_shape : (e : StoreFault) → Commits model (tree_patch number tree ∷ []) (Err e) mid.file new.file → new.trees ≡ mid.trees
      → Serves model (request.Shape number depth record_len) (answer.Refused 8) mid new
  serves_no_shape e commits is = record {
    sound = λ running.
        let same : model.seen new.file.files Records ≡ model.seen mid.file.files Records = content_is (model.seen mid.file.files Records) (model.seen new.file.files Records) (commits.undone running) in
        record {
          file = subst (λ (t : Trees). IsSoundFile model t new.file) (sym is) (record {
            loose = s.file.loose;
            steady = commits.steady s.file.loose s.file.steady running;
            off = subst (λ (c : Content). All (IsOffRecords mid.trees c) s.file.loose) (sym same) s.file.off;
            file = subst (λ (c : Content). IsBucketFile mid.trees c) (sym same) s.file.file;
          });
          cells = no_cells;
        };
    records = λ running t n.
        let same : model.seen new.file.files Records ≡ model.seen mid.file.files Records = content_is (model.seen mid.file.files Records) (model.seen new.file.files Records) (commits.undone running) in
        ap (λ (r : RecordsOf). r t n) (sym after) ∙ ap (λ (ts : Trees). records_in ts (model.seen new.file.files Records) t n) is
        ∙ ap (λ (c : Content). records_in mid.trees c t n) same ∙ ap (λ (r : RecordsOf). r t n) before;
    any_moment = whole (Err e) (answer.Refused 8) (λ stopped. stopped) commits;
  }
