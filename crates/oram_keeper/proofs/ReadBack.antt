-- What may be read back of the texts that are noted.
use Rattle.std.proofs.Common.{◌≡◌, ◌⊎◌, inl, inr, ⊎_elim, ℕ, List, [], ◌∷◌, sym, ◌∙◌, subst}
use Rattle.std.specs.Prelude.{Result, Ok, Err, OnOk, OnErr}
use Rattle.oram_kept.specs.Keeper.{FindsOneOf, Knows}
use Rattle.oram_kept.specs.Kept.{Finds, bounds}
use Rattle.oram_kept.specs.Text.{Parts}
use Rattle.oram_kept.proofs.Opened.{found_is_held}
use Rattle.oram_kept.proofs.One.{texts_are_one}
use Rattle.oram_redo.specs.FilePair.{Contents, FileModel}
use Rattle.oram_rounds.specs.Files.{IsFile}
use Rattle.oram_rounds.proofs.Safety.{begun_is_safe}
use Rattle.oram_keeper.specs.Laws.{FindsNoted, FoundPairBegins}
use Rattle.oram_keeper.specs.Process.{IsAmong, IsTextOf, MayReadBack, PairKeeperState}
use Rattle.oram_keeper.proofs.Texts.{one_behind}

-- a process whose text is the only one
pub only_one : (title : List ℕ) (process other : List ℕ) (p : Parts) (ps : List Parts) → ps ≡ p ∷ [] → IsTextOf title process p → IsAmong title other ps → other ≡ process
only_one title process other p ps is text among =
    ⊎_elim (λ here. one_behind title other process (sym here ∙ text)) (λ none. absurd none) (subst (λ (l : List Parts). IsAmong title other l) is among)

pub there : (title : List ℕ) (process : List ℕ) (p : Parts) (rest ps : List Parts) → ps ≡ p ∷ rest → IsTextOf title process p → IsAmong title process ps
there title process p rest ps is text = subst (λ (l : List Parts). IsAmong title process l) (sym is) (inl text)

-- a process that is read back after a keeping has failed
pub either : (title : List ℕ) (process other : List ℕ) (p : Parts) (rest ps : List Parts) → ps ≡ p ∷ rest → IsTextOf title process p → IsAmong title other ps → (other ≡ process) ⊎ IsAmong title other rest
either title process other p rest ps is text among =
    ⊎_elim (λ here. inl (one_behind title other process (sym here ∙ text))) (λ before. inr before) (subst (λ (l : List Parts). IsAmong title other l) is among)

pub when_ok : {T E P Q : Type 0} (result : Result T E) → OnOk result P → (P → Q) → OnOk result Q
when_ok (Ok x) p next = next p
when_ok (Err e) p next = tt

pub when_err : {T E P Q : Type 0} (result : Result T E) → OnErr result P → (P → Q) → OnErr result Q
when_err (Ok x) p next = tt
when_err (Err e) p next = next p

-- files have at most one text
pub one_found : (p q : Parts) (c : Contents) → Finds bounds p c → Finds bounds q c → p ≡ q
one_found p q c first second = texts_are_one p q second.records (found_is_held p second.records c second.stands first) second.holds

-- the text that is found is one of those that are noted
among_noted : (title : List ℕ) (ps : List Parts) (c : Contents) → FindsOneOf ps c → (p : Parts) × Finds bounds p c × ((process : List ℕ) → IsTextOf title process p → IsAmong title process ps)
among_noted title [] c found = absurd found
among_noted title (p ∷ ps) c (inl here) = (p, here, λ process text. inl text)
among_noted title (p ∷ ps) c (inr later) = let rest = among_noted title ps c later in (rest.0, rest.1, λ process text. inr (rest.2 process text))

pub finds_noted : {F : Type 0} (model : FileModel F) (k : PairKeeperState F) → Knows model k.keeper → (c : Contents) → model.may_leave k.keeper.kept.files c → FindsNoted k c
finds_noted model k knows c left =
    let one = among_noted k.title k.keeper.texts c (knows.found c left) in
    record { text = one.0; found = one.1; noted = one.2; only = λ other found. one_found other one.0 c found one.1 }

pub pair_begins : (B F : Type 0) → FoundPairBegins B F
pair_begins B F k text bytes is text_is v stores core inner file =
    let only : (other : List ℕ) → MayReadBack k other → other ≡ bytes = λ other may. only_one k.title bytes other text k.keeper.texts is text_is may in (
      there k.title bytes text [] k.keeper.texts is text_is,
      (λ other may. subst (λ (b : List ℕ). IsFile v b stores core) (sym (only other may)) file),
      (λ may_lie host before array kept stores_are core_is. begun_is_safe B MayReadBack may_lie v inner stores core k bytes host before array kept stores_are core_is only),
    )
