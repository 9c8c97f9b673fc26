use Rattle.std.proofs.Common.{◌≡◌, ◌++◌, ◌==◌, ℕ, List, arith, true, false, vec_len, length, take, drop, Ok, sym, ap, ◌∙◌, subst}
use Rattle.std.specs.Global.{Vec}
use Rattle.std.specs.List.{AllByRecursion}
use Rattle.std.proofs.lemmas.List.{with_items_is}
use Rattle.oram_link_laws.specs.Runs.{Exchange}
use Rattle.oram_rounds.specs.Batches.{BatchOutcome, answered, batch_outcome_of, texts}
use Rattle.oram_rounds.specs.Overlay.{AreOverlaid}
use Rattle.oram_rounds.specs.PathMessages.{IsPathFetch}
use Rattle.oram_rounds.specs.Rounds.{AreDone, Round}
use Rattle.oram_rounds.proofs.SentBodies.{goes_answered, goes_lost, goes_refused}
use Rattle.oram_rounds.proofs.Texts.{some_texts}
use Rattle.oram_rounds.proofs.Turned.{behind, count, count_texts, split}
use Rattle.oram_rounds.proofs.round_link.RoundLink.go_ahead.Goals as goal

pub lay_kept-requires : goal.lay_kept-requires
lay_kept-requires g c =
    let i = c.self.inside in
    let batches = g.B.BatchLink.batches in
    let sent = c.call_all.ensures in
    let fetches = c.args.fetches.items in
    let k = i.kept in
    let batch = subst (λ (o : BatchOutcome). batches i.inner (texts fetches ++ texts (take k i.stores.items)) o sent.0 c.call_all.new.self) (ap batch_outcome_of c.in-Ok.is)
    (subst (λ (all : List (Vec ℕ)). batches i.inner (texts all ++ texts (take k i.stores.items)) (batch_outcome_of c.call_all.result) sent.0 c.call_all.new.self) c.deref-2.ensures.value
    (subst (λ (all : List (Vec ℕ)). batches i.inner (texts c.deref-2.result.now ++ texts (take k all)) (batch_outcome_of c.call_all.result) sent.0 c.call_all.new.self) c.deref-3.ensures.value sent.1)) in
    let answers = c.in-Ok.answers.items in
    let n = c.len-count.result in
    let are = g.met.B.BatchLink.are_batches i.inner c.call_all.new.self (texts fetches ++ texts (take k i.stores.items)) (Ok (texts answers)) sent.0 batch in
    let long : n ≡ length fetches = omega (arith, c.len-count.ensures) in
    let given = sym c.deref-then-are_done.ensures.value in
    record {
      paths = subst (λ (all : List (Vec ℕ)). AllByRecursion (IsPathFetch i.device) (texts all)) (c.deref.ensures.value ∙ given) (c.are_path_fetches.ensures.0 c.if-not-are_path_fetches.false);
      count = ap length (c.deref_mut.ensures.value ∙ c.truncate.ensures.items) ∙ count fetches (take k i.stores.items) answers n long are.0 ∙ ap length given;
    }

pub returns-then-are_done : goal.returns-then-are_done
returns-then-are_done g c =
    let i = c.self.inside in
    let batches = g.B.BatchLink.batches in
    let sent = c.call_all.ensures in
    let fetches = c.args.fetches.items in
    let k = i.kept in
    let some = some_texts fetches (λ none.
    let len : vec_len c.args.fetches ≡ 0 = sym c.deref.ensures.len ∙ ap length c.deref.ensures.value ∙ ap length none in
    let yes : c.is_empty.result ≡ true = c.is_empty.ensures ∙ ap (λ (n : ℕ). n == 0) len in
    let both : true ≡ false = sym yes ∙ c.if-is_empty.false in cc) in
    let paths = subst (λ (all : List (Vec ℕ)). AllByRecursion (IsPathFetch i.device) (texts all)) c.deref.ensures.value (c.are_path_fetches.ensures.0 c.if-not-are_path_fetches.false) in
    let batch = subst (λ (o : BatchOutcome). batches i.inner (texts fetches ++ texts (take k i.stores.items)) o sent.0 c.call_all.new.self) (ap batch_outcome_of c.in-Ok.is)
    (subst (λ (all : List (Vec ℕ)). batches i.inner (texts all ++ texts (take k i.stores.items)) (batch_outcome_of c.call_all.result) sent.0 c.call_all.new.self) c.deref-2.ensures.value
    (subst (λ (all : List (Vec ℕ)). batches i.inner (texts c.deref-2.result.now ++ texts (take k all)) (batch_outcome_of c.call_all.result) sent.0 c.call_all.new.self) c.deref-3.ensures.value sent.1)) in
    let answers = c.in-Ok.answers.items in
    let n = c.len-count.result in
    let are = g.met.B.BatchLink.are_batches i.inner c.call_all.new.self (texts fetches ++ texts (take k i.stores.items)) (Ok (texts answers)) sent.0 batch in
    let long : n ≡ length fetches = omega (arith, c.len-count.ensures) in
    let acks = behind c.deref-4.result.now n ∙ ap (drop n) c.deref-4.ensures.value in
    let done = subst (λ (all : List (Vec ℕ)). AreDone (texts all)) acks (c.are_done.ensures.0 c.if-are_done.true) in
    let laid = texts c.lay_kept.new.answers in
    let over = subst (λ (all : List (Vec ℕ)). AreOverlaid i.device i.record_len (texts (take k i.stores.items)) (texts all) (texts (take n answers)) laid) c.deref-then-are_done.ensures.value
    (subst (λ (all : List (Vec ℕ)). AreOverlaid i.device i.record_len (texts (take k i.stores.items)) (texts c.deref-then-are_done.result.now) (texts all) laid)
    (c.deref_mut.ensures.value ∙ c.truncate.ensures.items) c.lay_kept.ensures) in
    let is_ahead : c.of.result ≡ answered (texts fetches) laid =
    c.of.ensures ∙ ap (λ (xs : List (Vec ℕ)). answered (texts fetches) (texts xs)) (with_items_is c.truncate.new.self c.lay_kept.new.answers (c.lay_kept.auto.answers ∙ c.deref_mut.ensures.len)) in
    let now : Round _ = c.forget_kept.new.self in (
      sent.0,
      goes_answered batches _ _ c.self.view_is (texts fetches) c.call_all.new.self sent.0 (texts answers) (texts (take n answers)) (texts (drop n answers)) some paths batch
          (split fetches (take k i.stores.items) answers n long are.0) (count_texts fetches (take k i.stores.items) answers n long are.0) laid over _
          (ap (λ (r : Round _). let q : Round _ = record r { ahead = c.of.result } in q) c.self-then-are_done.view_is
          ∙ ap (λ (a : List Exchange). let q : Round _ = record now { ahead = a } in q) is_ahead
          ∙ ap (λ (r : Round _). let q : Round _ = record r { ahead = answered (texts fetches) laid } in q) c.forget_kept.ensures) done,
    )

pub returns-else-are_done : goal.returns-else-are_done
returns-else-are_done g c =
    let i = c.self.inside in
    let batches = g.B.BatchLink.batches in
    let sent = c.call_all.ensures in
    let fetches = c.args.fetches.items in
    let k = i.kept in
    let some = some_texts fetches (λ none.
    let len : vec_len c.args.fetches ≡ 0 = sym c.deref.ensures.len ∙ ap length c.deref.ensures.value ∙ ap length none in
    let yes : c.is_empty.result ≡ true = c.is_empty.ensures ∙ ap (λ (n : ℕ). n == 0) len in
    let both : true ≡ false = sym yes ∙ c.if-is_empty.false in cc) in
    let paths = subst (λ (all : List (Vec ℕ)). AllByRecursion (IsPathFetch i.device) (texts all)) c.deref.ensures.value (c.are_path_fetches.ensures.0 c.if-not-are_path_fetches.false) in
    let batch = subst (λ (o : BatchOutcome). batches i.inner (texts fetches ++ texts (take k i.stores.items)) o sent.0 c.call_all.new.self) (ap batch_outcome_of c.in-Ok.is)
    (subst (λ (all : List (Vec ℕ)). batches i.inner (texts all ++ texts (take k i.stores.items)) (batch_outcome_of c.call_all.result) sent.0 c.call_all.new.self) c.deref-2.ensures.value
    (subst (λ (all : List (Vec ℕ)). batches i.inner (texts c.deref-2.result.now ++ texts (take k all)) (batch_outcome_of c.call_all.result) sent.0 c.call_all.new.self) c.deref-3.ensures.value sent.1)) in
    let answers = c.in-Ok.answers.items in
    let n = c.len-count.result in
    let are = g.met.B.BatchLink.are_batches i.inner c.call_all.new.self (texts fetches ++ texts (take k i.stores.items)) (Ok (texts answers)) sent.0 batch in
    let long : n ≡ length fetches = omega (arith, c.len-count.ensures) in
    let acks = behind c.deref-4.result.now n ∙ ap (drop n) c.deref-4.ensures.value in
    let refused : ¬ AreDone (texts (drop n answers)) = λ all.
    let yes = c.are_done.ensures.1 (subst (λ (xs : List (Vec ℕ)). AreDone (texts xs)) (sym acks) all) in
    absurd (let no : false ≡ true = sym c.if-are_done.false ∙ yes in cc) in (
      sent.0,
      goes_refused batches _ _ c.self.view_is (texts fetches) c.call_all.new.self sent.0 (texts answers) (texts (take n answers)) (texts (drop n answers)) some paths batch
          (split fetches (take k i.stores.items) answers n long are.0) (count_texts fetches (take k i.stores.items) answers n long are.0) c.none.result c.none.ensures refused,
    )

pub returns-in_default : goal.returns-in_default
returns-in_default g c =
    let i = c.self.inside in
    let batches = g.B.BatchLink.batches in
    let sent = c.call_all.ensures in
    let fetches = c.args.fetches.items in
    let k = i.kept in
    let some = some_texts fetches (λ none.
    let len : vec_len c.args.fetches ≡ 0 = sym c.deref.ensures.len ∙ ap length c.deref.ensures.value ∙ ap length none in
    let yes : c.is_empty.result ≡ true = c.is_empty.ensures ∙ ap (λ (n : ℕ). n == 0) len in
    let both : true ≡ false = sym yes ∙ c.if-is_empty.false in cc) in
    let paths = subst (λ (all : List (Vec ℕ)). AllByRecursion (IsPathFetch i.device) (texts all)) c.deref.ensures.value (c.are_path_fetches.ensures.0 c.if-not-are_path_fetches.false) in
    let batch = subst (λ (o : BatchOutcome). batches i.inner (texts fetches ++ texts (take k i.stores.items)) o sent.0 c.call_all.new.self) (ap batch_outcome_of c.in_default.is)
    (subst (λ (all : List (Vec ℕ)). batches i.inner (texts all ++ texts (take k i.stores.items)) (batch_outcome_of c.call_all.result) sent.0 c.call_all.new.self) c.deref-2.ensures.value
    (subst (λ (all : List (Vec ℕ)). batches i.inner (texts c.deref-2.result.now ++ texts (take k all)) (batch_outcome_of c.call_all.result) sent.0 c.call_all.new.self) c.deref-3.ensures.value sent.1)) in
    (sent.0, goes_lost batches g.met.B.BatchLink.are_batches _ _ c.self.view_is (texts fetches) c.call_all.new.self sent.0 c.in_default.field-0 some paths batch c.none.result c.none.ensures)
