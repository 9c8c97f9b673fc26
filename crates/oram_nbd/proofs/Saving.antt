-- What is kept of calls of a device, one after another.
use Rattle.std.proofs.Common.{◌≡◌, ◌⊎◌, Some, Result, Ok, Err, refl, sym, ap, ◌∙◌, subst, inl, inr}
use Rattle.oram_nbd.specs.Beside.{Arrays}
use Rattle.oram_nbd.specs.Calls.{Saves, SavesAll, SavesPart}
use Rattle.oram_nbd.specs.declared.faults.DiskFault.{DiskFault}

module _ {A : Type 0} where
  -- nothing was touched
  pub all_at_rest : {touched : Type 0} {old : Arrays A} → (touched → ⊥) → SavesAll touched old old
  all_at_rest none = record { either = inr (none, refl) }

  pub part_at_rest : {begun : A → A → Type 0} {old : Arrays A} → SavesPart begun old old
  part_at_rest = record { either = inl refl }

  -- less is said to be touched
  pub all_weaker : {touched touched' : Type 0} {old new : Arrays A} → SavesAll touched old new → (touched' → touched) → SavesAll touched' old new
  all_weaker k less = elim k.either [ inl saved ↦ record { either = inl saved } | inr rest ↦ record { either = inr ((λ t. rest.0 (less t)), rest.1) } ]

  -- where something was touched, all is kept, whatever came before
  pub all_sure : {touched touched' : Type 0} {mid old new : Arrays A} → SavesAll touched mid new → touched → SavesAll touched' old new
  all_sure k some = elim k.either [ inl saved ↦ record { either = inl saved } | inr rest ↦ absurd (rest.0 some) ]

  pub all_joined : {one two both : Type 0} {old mid new : Arrays A} → SavesAll one old mid → SavesAll two mid new → (both → one ⊎ two) → SavesAll both old new
  all_joined first second which = elim second.either [
    | inl saved ↦ record { either = inl saved }
    | inr rest ↦ elim first.either [
      | inl saved ↦ record { either = inl (subst (λ (h : Arrays A). h.saved ≡ Some h.held) (sym rest.1) saved) }
      | inr before ↦ record { either = inr ((λ t. elim (which t) [ inl one ↦ before.0 one | inr two ↦ rest.0 two ]), rest.1 ∙ before.1) }
    ]
  ]

  -- a call has done all of its part, and nothing more was done
  pub part_after_all : {touched : Type 0} {begun : A → A → Type 0} {old mid : Arrays A} → SavesAll touched old mid → begun old.held mid.held → SavesPart begun old mid
  part_after_all {mid = mid} k is = elim k.either [
    | inl saved ↦ record { either = inr (mid.held, is, saved) }
    | inr rest ↦ record { either = inl (ap (λ (h : Arrays A). h.saved) rest.1) }
  ]

  pub part_weaker : {begun begun' : A → A → Type 0} {old new : Arrays A} → SavesPart begun old new → ((part : A) → begun old.held part → begun' old.held part) → SavesPart begun' old new
  part_weaker k more = elim k.either [
    | inl same ↦ record { either = inl same }
    | inr part ↦ record { either = inr (part.0, more part.0 part.1, part.2) }
  ]

  -- some of this was done, and then some of that
  pub part_joined : {one two both : A → A → Type 0} {old mid new : Arrays A} → SavesPart one old mid → SavesPart two mid new → ((part : A) → one old.held part → both old.held part)
      → ((part : A) → two mid.held part → both old.held part) → SavesPart both old new
  part_joined first second more more' = elim second.either [
    | inl same ↦ elim first.either [
      | inl before ↦ record { either = inl (same ∙ before) }
      | inr part ↦ record { either = inr (part.0, more part.0 part.1, same ∙ part.2) }
    ]
    | inr part ↦ record { either = inr (part.0, more' part.0 part.1, part.2) }
  ]

  -- a call has done all of its part, and then another one has failed
  pub part_behind : {touched : Type 0} {two both : A → A → Type 0} {old mid new : Arrays A} → SavesAll touched old mid → both old.held mid.held → SavesPart two mid new
      → ((part : A) → two mid.held part → both old.held part) → SavesPart both old new
  part_behind {both = both} {old = old} {mid = mid} all is k more =
      let first : SavesPart both old mid = part_after_all all is in part_joined first k (λ part begun. begun) more

  -- Calls have touched what they were to touch, and then another one was made, which touches something if it succeeds.
  pub saves_behind : {T first touched : Type 0} (touched' : Type 0) (two both : A → A → Type 0) {old mid : Arrays A} (new : Arrays A) (r : Result T DiskFault) → SavesAll first old mid → both old.held mid.held
      → Saves r touched two mid new → touched → ((part : A) → two mid.held part → both old.held part) → Saves r touched' both old new
  saves_behind touched' two both new (Ok x) all is k some more = all_sure k some
  saves_behind touched' two both new (Err e) all is k some more = part_behind all is k more
