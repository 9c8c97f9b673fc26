use Rattle.std.proofs.Common.{inl, inr, ◌⊎◌, ◌∷◌, map, ◌≡◌, ◌+◌, ◌/◌, ◌^◌, ◌<◌, ◌≤◌, ◌++◌, [], All, List, ℕ, length, refl, sym, ap, ◌∙◌, subst, append_assoc, append-nil, arith, rules}
use Rattle.std.proofs.lemmas.Bool.Decides.{nat_tests}
use Rattle.std.proofs.lemmas.Grind.{common_steps}
use Rattle.std.proofs.lemmas.List.{length-map, map-append, nil_from_length}
use Rattle.std.proofs.lemmas.Result.{err_from_is_err_and}
use Rattle.std.specs.List.{flat_map}
use Rattle.oram_geometry.specs.declared.Sizes.{Sizes}
use Rattle.oram_nbd.specs.Operations.{IsWhole, len_of, place_of}
use Rattle.oram_nbd.proofs.Beside.{at_rest as calls_none, joined_calls, weaker}
use Rattle.oram_nbd.proofs.Saving.{all_at_rest, all_joined, all_weaker, part_after_all, part_at_rest, part_behind}
use Rattle.oram_semantics.specs.declared.events.Command.{Command}
use Rattle.oram_semantics.specs.declared.events.Reply.{Reply}
use Rattle.oram_session.proofs.CoreSteps.{same_trans}
use Rattle.oram_core.specs.declared.machine.TheConstants.{MOST_WAITING}
use Rattle.oram_semantics.specs.Events.{address_of}
use Rattle.oram_link_laws.proofs.Exchanged.{folds_join}
use Rattle.oram_volume.specs.HeldArrays.{running}
use Rattle.oram_volume.proofs.Rounded.{cut_all, cut_next, cut_none}
use Rattle.oram_volume.specs.CarriedOut.{AsksRound, IsAfterFirst, after_commands, bodies_from}
use Rattle.oram_volume.specs.DiskCalls.{data_of}
use Rattle.oram_volume.specs.RangeCommands.{FitsDevice, all_commands, rest_of}
use Rattle.oram_volume.proofs.DiskCalls.{stops_after}
use Rattle.oram_volume.proofs.LaidOperations.{after_append, bodies_on_device, on_device, all_bound, all_fit, all_numbers, behind_first, data_append, middle_all, of_bodies}
use Rattle.oram_volume.proofs.RangeCommands.{rest_all}
use Rattle.oram_volume.proofs.volume.Volume.carry_out_rounds.Goals as goal

pub loop-round_number-init : goal.loop-round_number-init
loop-round_number-init g c = record {
  kept = (refl, refl);
  still = λ h. h;
  done = [];
  split = sym (rest_all c.args.self.now.core.device.block_bytes c.args.operations.now);
  rounds = [];
  cut = cut_none MOST_WAITING _ _ (ap (λ (cs : List Command). map address_of cs) (rest_all c.args.self.now.core.device.block_bytes c.args.operations.now));
  asked = refl;
  so_far = calls_none (λ may_lie world old h. (c.in_ok-found.ensures.items, refl, all_at_rest (λ some. some refl)));
}

pub returns-in_err-found-clause-goes : goal.returns-in_err-found-clause-goes
returns-in_err-found-clause-goes g c =
    let p = err_from_is_err_and c.from_residual.result c.from_residual.ensures.1 in
    let d = c.args.self.now.core.device in
    rw p.1 (calls_none (λ may_lie world old h. (([], all_commands d.block_bytes c.args.operations.now, refl, refl), λ e. cc, part_at_rest)))

pub returns-clause-goes : goal.returns-clause-goes
returns-clause-goes g c =
    let d = c.args.self.now.core.device in
    let ops = c.args.operations.now in
    let inv = c.loop-round_number.invariant in
    weaker inv.so_far (λ may_lie world old new h step.
    let first : IsAfterFirst d (all_commands d.block_bytes ops) old.held new.held =
    (inv.done, rest_of d.block_bytes ops c.loop-round_number.cursor.operation c.loop-round_number.cursor.block, inv.split, step.1) in
    (first, λ e. cc, part_after_all step.2 first))

pub returns-in_err-commands-clause-goes : goal.returns-in_err-commands-clause-goes
returns-in_err-commands-clause-goes g c =
    let p = err_from_is_err_and c.from_residual-in_err-commands.result c.from_residual-in_err-commands.ensures.1 in
    let d = c.args.self.now.core.device in
    let ops = c.args.operations.now in
    let inv = c.loop-round_number.invariant in
    rw p.1 (weaker inv.so_far (λ may_lie world old new h step.
    let first : IsAfterFirst d (all_commands d.block_bytes ops) old.held new.held =
    (inv.done, rest_of d.block_bytes ops c.loop-round_number.cursor.operation c.loop-round_number.cursor.block, inv.split, step.1) in
    (first, λ e. cc, part_after_all step.2 first)))

pub returns-then-not-goes_on-clause-goes : goal.returns-then-not-goes_on-clause-goes
returns-then-not-goes_on-clause-goes g c =
    let d = c.args.self.now.core.device in
    let ops = c.args.operations.now in
    let inv = c.loop-round_number.invariant in
    weaker inv.so_far (λ may_lie world old new h step.
    let first : IsAfterFirst d (all_commands d.block_bytes ops) old.held new.held =
    (inv.done, rest_of d.block_bytes ops c.loop-round_number.cursor.operation c.loop-round_number.cursor.block, inv.split, step.1) in
    (first, λ e. cc, part_after_all step.2 first))

pub returns-in_err-replies-clause-still : goal.returns-in_err-replies-clause-still
returns-in_err-replies-clause-still g c = λ failed. c.in_err-replies.ensures.still (c.loop-round_number.invariant.still failed)

pub next_round-requires-clause-whole : goal.next_round-requires-clause-whole
next_round-requires-clause-whole g c =
    let same : c.block_bytes-block.result ≡ c.args.self.now.core.device.block_bytes = search rules in
    subst (λ (n : ℕ). All (IsWhole n) c.args.operations.now) (sym same) c.requires.whole

pub next_round-requires-clause-bound : goal.next_round-requires-clause-bound
next_round-requires-clause-bound g c =
    let d = c.args.self.now.core.device in
    let some : 0 < d.block_bytes = omega (arith, c.blocks_in_all-blocks.ensures.block.0) in
    let few : d.blocks ≤ 2 ^ 26 = omega (arith, c.blocks_in_all-blocks.ensures.bound, c.blocks_in_all-blocks.ensures.value) in
    all_bound d.block_bytes d.blocks some few c.blocks_in_all-blocks.ensures.size c.args.operations.now c.requires.within

pub next_round-requires-clause-numbers : goal.next_round-requires-clause-numbers
next_round-requires-clause-numbers g c =
    let d = c.args.self.now.core.device in
    let same : c.block_bytes-block.result ≡ d.block_bytes = search rules in
    let some : 0 < d.block_bytes = omega (arith, c.blocks_in_all-blocks.ensures.block.0) in
    let few : d.blocks ≤ 2 ^ 26 = omega (arith, c.blocks_in_all-blocks.ensures.bound, c.blocks_in_all-blocks.ensures.value) in
    subst (λ (n : ℕ). All (λ op. place_of op / n + len_of op / n < 2 ^ 32) c.args.operations.now) (sym same)
    (all_numbers d.block_bytes d.blocks some few c.blocks_in_all-blocks.ensures.size c.args.operations.now c.requires.whole c.requires.within)

pub carry_out_all-requires : goal.carry_out_all-requires
carry_out_all-requires g c =
    let d = c.args.self.now.core.device in
    let b = d.block_bytes in
    let ops = c.args.operations.now in
    let inv = c.loop-round_number.invariant in
    let some : 0 < b = omega (arith, c.blocks_in_all-blocks.ensures.block.0) in
    let same : c.block_bytes-block.result ≡ b = search rules in
    let rest = rest_of b ops c.next_round.new.cursor.operation c.next_round.new.cursor.block in
    let commands = c.in_ok-commands.commands.items in
    let next : rest_of b ops c.loop-round_number.cursor.operation c.loop-round_number.cursor.block ≡ commands ++ rest =
    subst (λ (n : ℕ). rest_of n ops c.loop-round_number.cursor.operation c.loop-round_number.cursor.block ≡ commands ++ rest_of n ops c.next_round.new.cursor.operation c.next_round.new.cursor.block) same
    c.in_ok-commands.ensures.next in
    let split : all_commands b ops ≡ inv.done ++ (commands ++ rest) = inv.split ∙ ap (λ (l : List Command). inv.done ++ l) next in
    subst (λ (e : Sizes). All (FitsDevice e) commands) (sym inv.kept.0)
    (middle_all (FitsDevice d) inv.done commands rest (subst (All (FitsDevice d)) split (all_fit d some ops c.requires.whole c.requires.within)))

pub returns-then-is_empty-clause-goes : goal.returns-then-is_empty-clause-goes
returns-then-is_empty-clause-goes g c =
    let d = c.args.self.now.core.device in
    let b = d.block_bytes in
    let ops = c.args.operations.now in
    let inv = c.loop-round_number.invariant in
    let same : c.block_bytes-block.result ≡ b = search rules in
    let rest = rest_of b ops c.next_round.new.cursor.operation c.next_round.new.cursor.block in
    let commands = c.in_ok-commands.commands.items in
    let next : rest_of b ops c.loop-round_number.cursor.operation c.loop-round_number.cursor.block ≡ commands ++ rest =
    subst (λ (n : ℕ). rest_of n ops c.loop-round_number.cursor.operation c.loop-round_number.cursor.block ≡ commands ++ rest_of n ops c.next_round.new.cursor.operation c.next_round.new.cursor.block) same
    c.in_ok-commands.ensures.next in
    let split : all_commands b ops ≡ inv.done ++ (commands ++ rest) = inv.split ∙ ap (λ (l : List Command). inv.done ++ l) next in
    let zero : length commands ≡ 0 = first_of (grind (arith, nat_tests, c.is_empty.ensures), grind (arith, nat_tests, common_steps), search (rules, nat_tests)) in
    let none : commands ≡ [] = nil_from_length commands zero in
    let end : rest ≡ [] = subst (λ (n : ℕ). rest_of n ops c.next_round.new.cursor.operation c.next_round.new.cursor.block ≡ []) same (c.in_ok-commands.ensures.end none) in
    let all : inv.done ≡ all_commands b ops =
    sym (split ∙ ap (λ (l : List Command). inv.done ++ (l ++ rest)) none ∙ ap (λ (l : List Command). inv.done ++ l) end ∙ append-nil inv.done) in
    weaker inv.so_far (λ may_lie world old new h step. (
      (step.0 ∙ ap (λ (cs : List Command). flat_map data_of (bodies_from d cs old.held)) all, step.1 ∙ ap (λ (cs : List Command). after_commands d cs old.held) all),
      λ e. cc,
      all_weaker step.2 (λ more none'. more (sym all ∙ none')),
    ))

pub returns-in_err-replies-clause-goes : goal.returns-in_err-replies-clause-goes
returns-in_err-replies-clause-goes g c =
    let p = err_from_is_err_and c.from_residual-in_err-replies.result c.from_residual-in_err-replies.ensures.1 in
    let d = c.args.self.now.core.device in
    let b = d.block_bytes in
    let ops = c.args.operations.now in
    let inv = c.loop-round_number.invariant in
    let same : c.block_bytes-block.result ≡ b = search rules in
    let rest = rest_of b ops c.next_round.new.cursor.operation c.next_round.new.cursor.block in
    let commands = c.in_ok-commands.commands.items in
    let next : rest_of b ops c.loop-round_number.cursor.operation c.loop-round_number.cursor.block ≡ commands ++ rest =
    subst (λ (n : ℕ). rest_of n ops c.loop-round_number.cursor.operation c.loop-round_number.cursor.block ≡ commands ++ rest_of n ops c.next_round.new.cursor.operation c.next_round.new.cursor.block) same
    c.in_ok-commands.ensures.next in
    let split : all_commands b ops ≡ inv.done ++ (commands ++ rest) = inv.split ∙ ap (λ (l : List Command). inv.done ++ l) next in
    rw p.1 (joined_calls inv.so_far c.in_err-replies.ensures.goes (λ may_lie world old mid new h first second.
    let front = λ (x : ℕ → List ℕ) (is : IsAfterFirst c.loop-round_number.self.core.device commands mid.held x). behind_first d _ inv.kept.0 (all_commands b ops) inv.done commands rest split old.held mid.held x first.1 is in
    (front new.held second.0, λ e. second.1 cc, part_behind first.2 (inv.done, commands ++ rest, split, first.1) second.2 front)))

pub returns-in_err-append_data-clause-goes : goal.returns-in_err-append_data-clause-goes
returns-in_err-append_data-clause-goes g c =
    let p = err_from_is_err_and c.from_residual-in_err-append_data.result c.from_residual-in_err-append_data.ensures.1 in
    let d = c.args.self.now.core.device in
    let b = d.block_bytes in
    let ops = c.args.operations.now in
    let inv = c.loop-round_number.invariant in
    let same : c.block_bytes-block.result ≡ b = search rules in
    let rest = rest_of b ops c.next_round.new.cursor.operation c.next_round.new.cursor.block in
    let commands = c.in_ok-commands.commands.items in
    let next : rest_of b ops c.loop-round_number.cursor.operation c.loop-round_number.cursor.block ≡ commands ++ rest =
    subst (λ (n : ℕ). rest_of n ops c.loop-round_number.cursor.operation c.loop-round_number.cursor.block ≡ commands ++ rest_of n ops c.next_round.new.cursor.operation c.next_round.new.cursor.block) same
    c.in_ok-commands.ensures.next in
    let split : all_commands b ops ≡ inv.done ++ (commands ++ rest) = inv.split ∙ ap (λ (l : List Command). inv.done ++ l) next in
    rw p.1 (joined_calls inv.so_far c.in_ok-replies.ensures.goes (λ may_lie world old mid new h first second.
    let begun : IsAfterFirst d (all_commands b ops) old.held new.held = (
      inv.done ++ commands,
      rest,
      split ∙ sym (append_assoc inv.done commands rest),
      second.0.1 ∙ on_device d _ inv.kept.0 commands mid.held ∙ ap (after_commands d commands) first.1 ∙ sym (after_append d inv.done commands old.held),
    ) in
    (begun, λ e. cc, part_after_all (all_joined {both = ⊥} first.2 second.2 (λ none. absurd none)) begun)))

pub loop-round_number-preserved : goal.loop-round_number-preserved
loop-round_number-preserved g c =
    let d = c.args.self.now.core.device in
    let b = d.block_bytes in
    let ops = c.args.operations.now in
    let inv = c.loop-round_number.invariant in
    let same : c.block_bytes-block.result ≡ b = search rules in
    let rest = rest_of b ops c.next_round.new.cursor.operation c.next_round.new.cursor.block in
    let commands = c.in_ok-commands.commands.items in
    let next : rest_of b ops c.loop-round_number.cursor.operation c.loop-round_number.cursor.block ≡ commands ++ rest =
    subst (λ (n : ℕ). rest_of n ops c.loop-round_number.cursor.operation c.loop-round_number.cursor.block ≡ commands ++ rest_of n ops c.next_round.new.cursor.operation c.next_round.new.cursor.block) same
    c.in_ok-commands.ensures.next in
    let split : all_commands b ops ≡ inv.done ++ (commands ++ rest) = inv.split ∙ ap (λ (l : List Command). inv.done ++ l) next in
    let full : (length commands ≡ MOST_WAITING) ⊎ (rest ≡ []) = subst (λ (n : ℕ). (length commands ≡ MOST_WAITING) ⊎ (rest_of n ops c.next_round.new.cursor.operation c.next_round.new.cursor.block ≡ [])) same c.in_ok-commands.ensures.full in
    let replies = c.in_ok-replies.replies.items in
    let some : 0 < length commands = first_of (grind (arith, nat_tests, c.is_empty.ensures), grind (arith, nat_tests, common_steps), search (rules, nat_tests)) in
    let added : c.append_data.new.out.items ≡ c.loop-round_number.found.items ++ flat_map (λ (r : Reply). data_of r.body) replies =
    c.in_ok-append_data.ensures ∙ ap (λ (l : List Reply). c.loop-round_number.found.items ++ flat_map (λ (r : Reply). data_of r.body) l) c.deref.ensures.value in
    record {
      kept = same_trans c.args.self.now.core c.loop-round_number.self.core c.carry_out_all.new.self.core inv.kept c.in_ok-replies.ensures.kept;
      still = λ h. c.in_ok-replies.ensures.still (inv.still h);
      done = inv.done ++ commands;
      split = split ∙ sym (append_assoc inv.done commands rest);
      rounds = inv.rounds ++ map address_of commands ∷ [];
      cut = cut_next MOST_WAITING _ inv.rounds _ (map address_of commands) (map address_of rest) inv.cut (ap (λ (cs : List Command). map address_of cs) next ∙ map-append address_of commands rest)
          (omega (arith, some, length-map commands address_of)) (omega (arith, c.in_ok-commands.ensures.most, length-map commands address_of))
          (elim full [ inl all ↦ inl (length-map commands address_of ∙ all) | inr none ↦ inr (ap (λ (cs : List Command). map address_of cs) none) ]);
      asked = folds_join {A = List ℕ} (AsksRound g.B.BatchLink.batches g.K.Keeper.reads_back) _ _ _ inv.rounds (map address_of commands ∷ []) inv.asked (running g.S.Sealer.cipher g.T.Tape.words c.carry_out_all.new.self, c.in_ok-replies.ensures.asks, refl);
      so_far = joined_calls inv.so_far c.in_ok-replies.ensures.goes (λ may_lie world old mid new h first second. (
        added ∙ ap (λ (l : List ℕ). l ++ flat_map (λ (r : Reply). data_of r.body) replies) first.0
            ∙ ap (λ (l : List ℕ). flat_map data_of (bodies_from d inv.done old.held) ++ l)
            (of_bodies replies ∙ ap (λ bs. flat_map data_of bs) (second.0.0 ∙ bodies_on_device d _ inv.kept.0 commands mid.held ∙ ap (bodies_from d commands) first.1))
            ∙ sym (data_append d inv.done commands old.held),
        second.0.1 ∙ on_device d _ inv.kept.0 commands mid.held ∙ ap (after_commands d commands) first.1 ∙ sym (after_append d inv.done commands old.held),
        all_joined first.2 second.2 (λ more. inr (λ none. omega (arith, some, ap length none))),
      ));
    }

pub returns-in_err-replies-clause-stopped : goal.returns-in_err-replies-clause-stopped
returns-in_err-replies-clause-stopped g c =
    let p = err_from_is_err_and c.from_residual-in_err-replies.result c.from_residual-in_err-replies.ensures.1 in
    rw p.1 (λ e. stops_after g.S.Sealer.cipher g.T.Tape.words g.B.BatchLink.batches g.K.Keeper.reads_back c.args.self.now c.loop-round_number.self c.carry_out_all.new.self c.loop-round_number.invariant.so_far
    (c.in_err-replies.ensures.stopped cc))

pub returns-then-is_empty-clause-asks : goal.returns-then-is_empty-clause-asks
returns-then-is_empty-clause-asks g c =
    let d = c.args.self.now.core.device in
    let b = d.block_bytes in
    let ops = c.args.operations.now in
    let inv = c.loop-round_number.invariant in
    let same : c.block_bytes-block.result ≡ b = search rules in
    let rest = rest_of b ops c.next_round.new.cursor.operation c.next_round.new.cursor.block in
    let commands = c.in_ok-commands.commands.items in
    let next : rest_of b ops c.loop-round_number.cursor.operation c.loop-round_number.cursor.block ≡ commands ++ rest =
    subst (λ (n : ℕ). rest_of n ops c.loop-round_number.cursor.operation c.loop-round_number.cursor.block ≡ commands ++ rest_of n ops c.next_round.new.cursor.operation c.next_round.new.cursor.block) same
    c.in_ok-commands.ensures.next in
    let zero : length commands ≡ 0 = first_of (grind (arith, nat_tests, c.is_empty.ensures), grind (arith, nat_tests, common_steps), search (rules, nat_tests)) in
    let none : commands ≡ [] = nil_from_length commands zero in
    let end : rest ≡ [] = subst (λ (n : ℕ). rest_of n ops c.next_round.new.cursor.operation c.next_round.new.cursor.block ≡ []) same (c.in_ok-commands.ensures.end none) in
    let all : rest_of b ops c.loop-round_number.cursor.operation c.loop-round_number.cursor.block ≡ [] = next ∙ ap (λ (l : List Command). l ++ rest) none ∙ end in
    record {
      rounds = inv.rounds;
      cut = cut_all MOST_WAITING _ inv.rounds _ inv.cut (ap (λ (cs : List Command). map address_of cs) all);
      each = inv.asked;
    }
