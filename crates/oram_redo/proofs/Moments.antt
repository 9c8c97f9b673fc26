-- How a run of calls on a pair goes on.
use Rattle.std.proofs.Common.{◌≡◌, refl, ◌∙◌, inl, inr, ⊎_elim, ℕ, ◌≤◌, arith}
use Rattle.oram_redo.specs.Content.{Content, Agrees}
use Rattle.oram_redo.specs.FilePair.{Contents, Elapses, FileModel, LeavesOnly, Same, TimeGoesOn, WritesNothing}

module _ {D : Type 0} (model : FileModel D) where
  -- before the first call
  pub started : (old : D) (P : Contents → Type 0) → ((c : Contents) → model.left_since old (model.moment old) c → P c) → LeavesOnly model old old P
  started old P here = record { later = omega arith; each = here; before = λ t c le left. inl left }

  -- one more call
  pub goes_on : (old mid new : D) (P leave : Contents → Type 0) → LeavesOnly model old mid P
      → Elapses (model.moment mid) (model.moment new) (model.left_since mid) (model.left_since new) leave → ((c : Contents) → leave c → P c) → LeavesOnly model old new P
  goes_on old mid new P leave so_far time here = record {
    later = omega (arith, so_far.later, time.later);
    each = λ c left. ⊎_elim (so_far.each c) (here c) (time.nothing_else (model.moment old) c so_far.later left);
    before = λ t c le left. ⊎_elim (so_far.before t c le) (λ now. inr (here c now)) (time.nothing_else t c (omega (arith, le, so_far.later)) left);
  }

  -- one more run
  pub then_leaves : (old mid new : D) (P Q : Contents → Type 0) → LeavesOnly model old mid P → LeavesOnly model mid new Q
      → ((c : Contents) → Q c → P c) → LeavesOnly model old new P
  then_leaves old mid new P Q so_far more leads = record {
    later = omega (arith, so_far.later, more.later);
    each = λ c left. ⊎_elim (so_far.each c) (leads c) (more.before (model.moment old) c so_far.later left);
    before = λ t c le left. ⊎_elim (so_far.before t c le) (λ now. inr (leads c now)) (more.before t c (omega (arith, le, so_far.later)) left);
  }

  -- one call
  pub one_call : (old new : D) (P leave : Contents → Type 0) → ((c : Contents) → model.left_since old (model.moment old) c → P c)
      → Elapses (model.moment old) (model.moment new) (model.left_since old) (model.left_since new) leave → ((c : Contents) → leave c → P c) → LeavesOnly model old new P
  one_call old new P leave at_start time here = record {
    later = time.later;
    each = λ c left. ⊎_elim (at_start c) (here c) (time.nothing_else (model.moment old) c (omega arith) left);
    before = λ t c le left. ⊎_elim (λ was. inl was) (λ now. inr (here c now)) (time.nothing_else t c le left);
  }

  pub leads_to : (old new : D) (P Q : Contents → Type 0) → LeavesOnly model old new P → ((c : Contents) → P c → Q c) → LeavesOnly model old new Q
  leads_to old new P Q leaves leads = record {
    later = leaves.later;
    each = λ c left. leads c (leaves.each c left);
    before = λ t c le left. ⊎_elim (λ was. inl was) (λ now. inr (leads c now)) (leaves.before t c le left);
  }

-- contents that agree are one
pub same_content : (c d : Content) → Agrees c d → c ≡ d
same_content c d agrees = λ i k. agrees k i

module _ {D : Type 0} (model : FileModel D) where
  pub nothing_yet_written : (old : D) → ((c : Contents) → model.left_since old (model.moment old) c → model.may_leave old c) → WritesNothing model old old
  nothing_yet_written old only_now = record { seen_same = λ file i. refl; leaves = λ c now. now; moments = started model old (model.may_leave old) only_now }

  -- one call that writes nothing
  pub one_nothing : (old new : D) → ((c : Contents) → model.left_since old (model.moment old) c → model.may_leave old c) → Same (model.seen new) (model.seen old) → ((c : Contents) → model.may_leave new c → model.may_leave old c)
      → TimeGoesOn model old new → WritesNothing model old new
  one_nothing old new only_now same leaves time = record { seen_same = same; leaves = leaves; moments = one_call model old new (model.may_leave old) (model.may_leave new) only_now time leaves }

  pub nothing_more_written : (old mid new : D) → WritesNothing model old mid → WritesNothing model mid new → WritesNothing model old new
  nothing_more_written old mid new first second = record {
    seen_same = λ file i. second.seen_same file i ∙ first.seen_same file i;
    leaves = λ c now. first.leaves c (second.leaves c now);
    moments = then_leaves model old mid new (model.may_leave old) (model.may_leave mid) first.moments second.moments first.leaves;
  }

  -- what holds of all that a crash may leave holds of what is read, because a crash may leave
  -- everything that was written
  pub holds_now : (old new : D) (P : Contents → Type 0) → LeavesOnly model old new P
      → ((t : ℕ) (c : Contents) → t ≤ model.moment new → model.may_leave new c → model.left_since new t c) → model.may_leave new (model.seen new) → P (model.seen new)
  holds_now old new P leaves counts_now whole = leaves.each (model.seen new) (counts_now (model.moment old) (model.seen new) leaves.later whole)
