-- Nothing is lost while a store is opened.
use Rattle.std.proofs.Common.{◌⊎◌, inl, inr, List, sym, subst}
use Rattle.oram_redo.specs.Content.{Content}
use Rattle.oram_redo.specs.FilePair.{Contents, FileModel}
use Rattle.oram_redo.specs.Log.{Patch, StandsAlike, StandsFor}
use Rattle.oram_redo.specs.Memory.{byte_of}
use Rattle.oram_redo.specs.NamedLog.{HasRead}
use Rattle.oram_redo.specs.Note.{Call}
use Rattle.oram_redo.specs.Opened.{Opened}
use Rattle.oram_redo.specs.Opening.{AreDurable}
use Rattle.oram_redo.proofs.Moments.{leads_to}
use Rattle.oram_redo.proofs.Openings.{recoveries_lose_nothing, renewals_lose_nothing}
use Rattle.oram_store.specs.OpenOutcomes.{OpensAlike}
use Rattle.oram_store.specs.Openings.{AreOpened, IsOver, LosesNothing}
use Rattle.oram_store.specs.RecordFile.{bounds}

opened_durable : (loose : List Patch) (records : Content) (held opened : Opened) (calls : List Call) → AreDurable bounds loose records held → HasRead (byte_of held.log) calls
    → AreOpened held calls opened → AreDurable bounds loose records opened
opened_durable loose records held opened calls durable read (inl same) = subst (AreDurable bounds loose records) (sym same) durable
opened_durable loose records held opened calls durable read (inr new) =
    subst (AreDurable bounds loose records) (sym new.3) ((renewals_lose_nothing bounds loose records held calls durable read).after new.1 new.0 new.2)

module _ {F : Type 0} (model : FileModel F) (first last : F) where
  pub loses_nothing : OpensAlike model first last → LosesNothing model first last
  loses_nothing alike loose records held opened calls durable read never are over =
      let now : AreDurable bounds loose records opened = opened_durable loose records held opened calls durable read are in
      record {
        renewal = (renewals_lose_nothing bounds loose records held calls durable read).any_moment never;
        recovery = leads_to model first last (λ c. model.may_leave first c ⊎ StandsAlike bounds (model.seen first) c) (StandsFor bounds loose records) alike (λ c either. stands now over c either);
      }
    where
      stands : AreDurable bounds loose records opened → IsOver model opened first → (c : Contents) → model.may_leave first c ⊎ StandsAlike bounds (model.seen first) c → StandsFor bounds loose records c
      stands now over c (inl left) = recoveries_lose_nothing bounds loose records opened c now (inl (over.leaves c left))
      stands now over c (inr alike) = recoveries_lose_nothing bounds loose records opened c now (inr (subst (λ (seen : Contents). StandsAlike bounds seen c) over.seen alike))
