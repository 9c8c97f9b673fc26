use Rattle.std.proofs.Common.{◌≡◌, ◌<◌, ◌≤◌, ℕ, arith, false, true, length, sym, ap, ◌∙◌, subst, vec_len}
use Rattle.std.specs.Global.{Vec}
use Rattle.oram_wire.specs.HostMessages.{done_answer}
use Rattle.oram_link_laws.specs.Repair.{IsAmong}
use Rattle.oram_rounds.specs.Batches.{texts}
use Rattle.oram_rounds.specs.Rounds.{AreDone}
use Rattle.oram_rounds.proofs.Texts.{all_next, all_whole, among_at, at_same}
use Rattle.oram_rounds.proofs.answers.first_refusal.Goals as goal

pub returns-then-not-is_done : goal.returns-then-not-is_done
returns-then-not-is_done c =
    let all = c.loop-i.answers.items in
    let was = ap (λ (v : Vec (Vec ℕ)). vec_len v) c.loop-i.invariant.same in
    let low : c.loop-i.i < length all = omega (arith, c.loop-i-test.true, c.len-i-end.ensures, was) in
    let among = among_at all c.loop-i.i c.swap_remove.result low c.swap_remove.ensures.value in
    let same = at_same all c.loop-i.i c.index.result.now c.swap_remove.result low c.index.ensures c.swap_remove.ensures.value in (
      subst (λ (v : Vec (Vec ℕ)). IsAmong c.swap_remove.result.items (texts v.items)) c.loop-i.invariant.same among,
      λ e. let is = c.is_done.ensures.1 (c.deref.ensures.value ∙ ap (λ (v : Vec ℕ). v.items) same ∙ e) in
          absurd (let no : false ≡ true = sym c.if-not-is_done.true ∙ is in cc),
    )

pub loop-i-preserved : goal.loop-i-preserved
loop-i-preserved c =
    let all = c.loop-i.answers.items in
    let was = ap (λ (v : Vec (Vec ℕ)). vec_len v) c.loop-i.invariant.same in
    let low : c.loop-i.i < length all = omega (arith, c.loop-i-test.true, c.len-i-end.ensures, was) in
    record {
      same = c.loop-i.invariant.same;
      done = all_next (λ answer. answer ≡ done_answer) all c.loop-i.i c.index.result.now low c.index.ensures c.loop-i.invariant.done (sym c.deref.ensures.value ∙ c.is_done.ensures.0 c.if-not-is_done.false);
    }

pub returns : goal.returns
returns c =
    let was = ap (λ (v : Vec (Vec ℕ)). vec_len v) c.loop-i.invariant.same in
    let all : length c.loop-i.answers.items ≤ c.loop-i.i = omega (arith, c.loop-i-test.false, c.len-i-end.ensures, was) in
    subst (λ (v : Vec (Vec ℕ)). AreDone (texts v.items)) c.loop-i.invariant.same (all_whole (λ answer. answer ≡ done_answer) c.loop-i.answers.items c.loop-i.i all c.loop-i.invariant.done)
