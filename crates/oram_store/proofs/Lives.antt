-- What a store's first requests leave, and what a crash finds of it.
use Rattle.std.proofs.Common.{◌≡◌, ℕ, List, [], Option, None, Some, refl, sym, ◌∙◌, ap, subst, Bool, eq-eqb}
use Rattle.std.specs.Prelude.{replicate, if◌then◌else◌, ◌==◌}
use Rattle.oram_redo.specs.Content.{Content}
use Rattle.oram_redo.specs.FilePair.{Contents, FileModel}
use Rattle.oram_redo.specs.Log.{AgreesBut, IsLog, StandsFor, put_all}
use Rattle.oram_redo.specs.declared.file_pair.FileKind.TheVariants.{Log, Records}
use Rattle.oram_layout.specs.Limits.{TreeShape}
use Rattle.oram_layout.specs.Records.{AreKept, Records as RecordsOf, record_in, records_in}
use Rattle.oram_layout.specs.Trees.{Trees, shape_at, tree_at}
use Rattle.oram_layout.specs.declared.trees.Tree.{Tree}
use Rattle.oram_layout.proofs.Added.{has_no_tree}
use Rattle.oram_store.specs.Answers.{Answers}
use Rattle.oram_wire.specs.declared.host_messages.HostAnswer.TheVariants as answer
use Rattle.oram_wire.specs.declared.host_messages.HostRequest.TheVariants as request
use Rattle.oram_layout.specs.Changes.{marks}
use Rattle.oram_store.specs.KeptRecords.{Holds, IsSound, StoreValue, Stores, records_of, sure_records}
use Rattle.oram_store.specs.Laws.{HoldsPath, no_records}
use Rattle.oram_store.specs.RecordFile.{Finds, bounds}
use Rattle.oram_store.proofs.Crashes.{found_more, found_now}
use Rattle.oram_store.proofs.Sound.{holds_but}

module _ {F : Type 0} (model : FileModel F) where
  pub found_sure : (s : StoreValue F) → IsSound model s → (c : Contents) → model.may_leave s.file.files c
      → Finds (model.seen s.file.files) (Holds s.trees (sure_records model s)) c
  found_sure s sound c now =
      found_more (model.seen s.file.files) c (λ r. AgreesBut sound.file.loose r (model.seen s.file.files Records)) (Holds s.trees (sure_records model s))
      (λ r but. holds_but s.trees sound.file.loose (model.seen s.file.files Records) r sound.file.file sound.file.off but)
      (found_now model s.file sound.file.loose c sound.file.steady now)

-- files whose log is empty stand for their records
pub stands_alone : (files : Contents) → IsLog bounds [] (files Log) → StandsFor bounds [] (files Records) files
stands_alone files log = record { patches = []; log = log; gives = λ i spared. refl }

pub none_at_first : (n : ℕ) (c : Content) → n ≡ 256 → AreKept no_records (records_in (replicate n None) c)
none_at_first n c all tree node =
    let none : tree_at (replicate n None) tree ≡ None = (has_no_tree n (replicate n None) all refl).none tree in
    ap (λ (t : Option Tree). record_in t node c) none

-- the same path in records that are the same
pub stores_then : (tree : ℕ) (s : TreeShape) (leaf : ℕ) (bytes : List ℕ) (one two three four : RecordsOf) → AreKept one two → Stores tree s leaf bytes two three → AreKept three four → Stores tree s leaf bytes one four
stores_then tree s leaf bytes one two three four same stores kept = (
  record { whole = stores.0.whole; each = λ level h. kept tree _ ∙ stores.0.each level h },
  λ other node differ. kept other node ∙ stores.1 other node differ ∙ same other node,
)

pub shape_given : (a b : Option TreeShape) (tree : ℕ) → (if tree == tree then a else b) ≡ a
shape_given a b tree = ap (λ (test : Bool). if test then a else b) (eq-eqb tree tree refl)

one_shape : (a b : TreeShape) → Some a ≡ Some b → a ≡ b
one_shape a b e = cc

module _ {F : Type 0} (model : FileModel F) where
  -- if no record waits, the records that the answers are about are sure
  pub sure_is : (s : StoreValue F) → s.pending ≡ [] → AreKept (records_of model s) (sure_records model s)
  sure_is s none tree node = sym (ap (λ (cells : List ℕ). records_in s.trees (put_all (marks cells) (model.seen s.file.files Records)) tree node) none)

  -- a path that was stored over no records
  pub path_found : (shaped stored : StoreValue F) (tree : ℕ) (shape : TreeShape) (leaf : ℕ) (bytes : List ℕ) → AreKept no_records (records_of model shaped)
      → shape_at shaped.trees tree ≡ Some shape → stored.trees ≡ shaped.trees
      → Answers shaped.trees (records_of model shaped) (request.Store tree leaf bytes) answer.Done (records_of model stored)
      → stored.pending ≡ [] → IsSound model stored → (c : Contents) → model.may_leave stored.file.files c
      → Finds (model.seen stored.file.files) (HoldsPath stored.trees tree shape leaf bytes) c
  path_found shaped stored tree shape leaf bytes empty there same stores none sound c now =
      found_more (model.seen stored.file.files) c (Holds stored.trees (sure_records model stored)) (HoldsPath stored.trees tree shape leaf bytes)
      (λ r holds. record {
        file = holds.file;
        shape = ap (λ (trees : Trees). shape_at trees tree) same ∙ there;
        records = subst (λ (s : TreeShape). Stores tree s leaf bytes no_records (records_in stored.trees r)) (one_shape stores.0 shape (sym stores.1 ∙ there))
            (stores_then tree stores.0 leaf bytes no_records (records_of model shaped) (records_of model stored) (records_in stored.trees r) empty stores.2
            (λ number node. holds.kept number node ∙ sure_is stored none number node));
      })
      (found_sure model stored sound c now)
