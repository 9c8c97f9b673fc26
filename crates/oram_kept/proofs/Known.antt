-- Which texts may be found while one is kept after the other.
use Rattle.std.proofs.Common.{◌≡◌, inl, inr, ⊎_elim, List, [], ◌∷◌, Bool, true, false, sym, ◌∙◌, subst}
use Rattle.std.proofs.lemmas.Bool.{false≢true}
use Rattle.oram_kept.specs.Keeper.{FindsOneOf, KeeperValue, Knows}
use Rattle.oram_kept.specs.Kept.{FindsEither, Keeps, bounds}
use Rattle.oram_kept.specs.Text.{Parts}
use Rattle.oram_kept.proofs.Held.{kept_found}
use Rattle.oram_redo.specs.FilePair.{Contents, FileModel, LeavesOnly}
use Rattle.oram_redo.proofs.Moments.{leads_to, started}

module _ {F : Type 0} (model : FileModel F) where
  -- one text is kept
  pub knows_one : (p : Parts) (k : KeeperValue F) → k.texts ≡ p ∷ [] → Keeps model p k.kept → Knows model k
  knows_one p k is keeps = record {
    found = λ c left. subst (λ (ps : List Parts). FindsOneOf ps c) (sym is) (inl (kept_found model p k.kept keeps c left));
    one = λ goes_on. (p, is, keeps);
  }

  -- A text could not be kept. If nothing was done, what was found before is found.
  pub knows_more : (p : Parts) (old new : KeeperValue F) → Knows model old → new.texts ≡ p ∷ old.texts → new.kept.has_stopped ≡ true
      → ((q : Parts) → Keeps model q old.kept → (c : Contents) → model.may_leave new.kept.files c → FindsEither bounds q p c)
      → (old.kept.has_stopped ≡ true → new.kept ≡ old.kept) → (b : Bool) → old.kept.has_stopped ≡ b → Knows model new
  knows_more p old new knows is stopped either stays true was = record {
    found = λ c left.
        subst (λ (ps : List Parts). FindsOneOf ps c) (sym is)
        (inr (knows.found c (subst (λ (k : _). model.may_leave k.files c) (stays was) left)));
    one = λ goes_on. absurd (false≢true (sym goes_on ∙ stopped));
  }
  knows_more p old new knows is stopped either stays false was = record {
    found = λ c left.
        let one = knows.one was in
        subst (λ (ps : List Parts). FindsOneOf ps c) (sym is)
        (⊎_elim (λ before. inr (subst (λ (ps : List Parts). FindsOneOf ps c) (sym one.1) (inl before))) (λ now. inl now) (either one.0 one.2 c left));
    one = λ goes_on. absurd (false≢true (sym goes_on ∙ stopped));
  }

  -- a text was kept in place of the one before
  pub knows_next : (p : Parts) (old new : KeeperValue F) → Knows model old → new.texts ≡ p ∷ [] → ((q : Parts) → Keeps model q old.kept → Keeps model p new.kept)
      → (old.kept.has_stopped ≡ true → ⊥) → (b : Bool) → old.kept.has_stopped ≡ b → Knows model new
  knows_next p old new knows is next went_on true was = absurd (went_on was)
  knows_next p old new knows is next went_on false was = let one = knows.one was in knows_one p new is (next one.0 one.2)

  -- whenever a crash comes while a text is kept
  pub known_meanwhile : (p : Parts) (old : KeeperValue F) (files : F) → Knows model old
      → ((c : Contents) → model.left_since old.kept.files (model.moment old.kept.files) c → model.may_leave old.kept.files c)
      → ((q : Parts) → Keeps model q old.kept → LeavesOnly model old.kept.files files (FindsEither bounds q p)) → (old.kept.has_stopped ≡ true → files ≡ old.kept.files)
      → (b : Bool) → old.kept.has_stopped ≡ b → LeavesOnly model old.kept.files files (FindsOneOf (p ∷ old.texts))
  known_meanwhile p old files knows only_now meanwhile stays true was =
      subst (λ (f : F). LeavesOnly model old.kept.files f (FindsOneOf (p ∷ old.texts))) (sym (stays was))
      (started model old.kept.files (FindsOneOf (p ∷ old.texts)) (λ c left. inr (knows.found c (only_now c left))))
  known_meanwhile p old files knows only_now meanwhile stays false was =
      let one = knows.one was in
      leads_to model old.kept.files files (FindsEither bounds one.0 p) (FindsOneOf (p ∷ old.texts)) (meanwhile one.0 one.2)
      (λ c either. ⊎_elim (λ before. inr (subst (λ (ps : List Parts). FindsOneOf ps c) (sym one.1) (inl before))) (λ now. inl now) either)
