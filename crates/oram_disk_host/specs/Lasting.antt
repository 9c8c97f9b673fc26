-- What is found of a connection if a crash cuts it off, and the host's files are opened again.
use Rattle.std.specs.Prelude.{◌≡◌, List, false, ◌++◌, map, ℕ}
use Rattle.std.specs.List.{FoldsTo}
use Rattle.oram_redo.specs.FilePair.{Contents, FileModel}
use Rattle.oram_host.specs.Answered.{Answering}
use Rattle.oram_store.specs.GroupRuns as store
use Rattle.oram_store.specs.KeptRecords.{IsSound, StoreValue}
use Rattle.oram_store.specs.Reopened.{IsFoundAgain, IsOpenedOver}
use Rattle.oram_disk_host.specs.Hosts.{HostedValue}
use Rattle.oram_disk_host.specs.Serving.{Group, HasServed, IsServed}

-- the groups of a connection, as a store has them
abbrev pub store_groups : List Group → List store.Group
store_groups groups = map (λ g. record { bodies = g.bodies; given = g.answer }) groups

module _ {F : Type 0} (model : FileModel F) where
  -- A connection began at `p`, and has come to `q`. `at` is the host once it had answered the first groups. If its file hadn't stopped then,
  -- a crash that came at any moment from then on has left files which, opened again, have what these groups and some of the others make.
  pub record IsLasting (p q : Answering (HostedValue F)) (first others : List Group) : Type 0 where
    pub at : HostedValue F
    pub answered : FoldsTo (IsServed model) p.state first at
    pub found : at.store.file.has_stopped ≡ false → (c : Contents) (again : StoreValue F) → model.left_since q.state.store.file.files (model.moment at.store.file.files) c
        → IsOpenedOver model c again → IsFoundAgain model (store_groups first) (store_groups others) p.state.store again

  -- The frames of some requests were read, and a sound store has carried them out in these groups. Then each border of two groups is lasting.
  abbrev pub AnswersLast : Type 0
  AnswersLast = (p q : Answering (HostedValue F)) (groups : List Group) (rest : List ℕ) → HasServed model p q groups rest → store.AreRequests (store_groups groups)
      → model.is_honest q.state.store.file.files → IsSound model p.state.store → (first others : List Group) → first ++ others ≡ groups → IsLasting p q first others
