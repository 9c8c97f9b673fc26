use Rattle.oram_redo.specs.declared.file_pair.FileKind.TheVariants.{Records}
use Rattle.oram_redo.specs.declared.faults.RedoError.TheVariants.{Damaged, Failed, LogFull, NoRoom}
use Rattle.oram_redo.proofs.Outcomes.{after_none, after_then, failed_last, if_err_passed, if_of_passed, no_error, not_refused, on_ok_none, passed_not_damaged, passed_not_full, passed_not_room, spelled_not_damaged, spelled_not_failed, spelled_not_room, written_not_damaged, written_not_full}
use Rattle.oram_redo.specs.Content.{Content}
use Rattle.std.proofs.Common.{rules, ◌+◌, ◌<◌, ◌^◌, length, sym, ◌∙◌, ap, arith, inl, refl}
use Rattle.oram_redo.specs.Batch.{patches_of}
use Rattle.oram_redo.specs.FilePair.{Contents}
use Rattle.oram_redo.specs.Log.{AllOrNothing, Keeps, entries, put_all}
use Rattle.oram_redo.specs.Redo.{bounds_of}
use Rattle.oram_redo.proofs.Batches.{patches_first}
use Rattle.oram_redo.proofs.Moments.{started, leads_to, then_leaves, same_content}
use Rattle.oram_redo.proofs.Consistent.{keeps_now}
use Rattle.oram_redo.proofs.Commit.{nothing_yet, tail_written, keeps_behind, consistent_behind, alike_behind, gate_torn, places_torn, consistent_after}
use Rattle.oram_redo.proofs.redo.Redo.commit.Goals as goal

pub returns-then-is_empty-clause-any_moment : goal.returns-then-is_empty-clause-any_moment
returns-then-is_empty-clause-any_moment g c loose s =
    let P : Contents → Type 0 = AllOrNothing (bounds_of c.args.self.now) loose (g.F.FilePair.model.seen c.args.files.now) (patches_of c.args.batch.now) in
    started g.F.FilePair.model c.args.files.now P
    (λ f left. nothing_yet _ loose _ _ f (keeps_now c.args.self.now loose _ _ s f (g.met.F.FilePair.only_now c.args.files.now f left)))

pub returns-in_err-body-clause-any_moment : goal.returns-in_err-body-clause-any_moment
returns-in_err-body-clause-any_moment g c loose s =
    let P : Contents → Type 0 = AllOrNothing (bounds_of c.args.self.now) loose (g.F.FilePair.model.seen c.args.files.now) (patches_of c.args.batch.now) in
    started g.F.FilePair.model c.args.files.now P
    (λ f left. nothing_yet _ loose _ _ f (keeps_now c.args.self.now loose _ _ s f (g.met.F.FilePair.only_now c.args.files.now f left)))

pub returns-in_err-body-clause-refused : goal.returns-in_err-body-clause-refused
returns-in_err-body-clause-refused g c refused loose s =
    let P : Contents → Type 0 = Keeps (bounds_of c.args.self.now) loose (g.F.FilePair.model.seen c.args.files.now) in
    (s, started g.F.FilePair.model c.args.files.now P (λ f left. keeps_now c.args.self.now loose _ _ s f (g.met.F.FilePair.only_now c.args.files.now f left)))

pub overflow_add-self : goal.overflow_add-self
overflow_add-self g c =
    let first = patches_first c.args.batch.now (sym c.is_empty.ensures ∙ c.if-is_empty.false) in
    let some : 0 < length (entries (patches_of c.args.batch.now)) = omega (arith, ap length first.1) in
    let fits : c.args.self.now.end + 1 < 2 ^ 64 = omega (arith, some, c.in_ok-body.ensures.end, c.in_ok-body.ensures.in_range) in
    search rules

pub returns-in_err-write_synced-clause-any_moment : goal.returns-in_err-write_synced-clause-any_moment
returns-in_err-write_synced-clause-any_moment g c loose s =
    let P : Contents → Type 0 = AllOrNothing (bounds_of c.args.self.now) loose (g.F.FilePair.model.seen c.args.files.now) (patches_of c.args.batch.now) in
    leads_to g.F.FilePair.model c.args.files.now c.write_synced.new.files _ P c.write_synced.ensures.moments
    (λ f torn. nothing_yet _ loose _ _ f (keeps_behind c.args.self.now loose _ _ s _ _ (omega arith) f torn))

pub returns-in_err-write_synced-clause-refused : goal.returns-in_err-write_synced-clause-refused
returns-in_err-write_synced-clause-refused g c refused loose s =
    let P : Contents → Type 0 = Keeps (bounds_of c.args.self.now) loose (g.F.FilePair.model.seen c.args.files.now) in (
      consistent_behind c.args.self.now loose _ _ s _ _ (omega arith) _ _ c.write_synced.ensures.torn c.write_synced.ensures.crash,
      leads_to g.F.FilePair.model c.args.files.now c.write_synced.new.files _ P c.write_synced.ensures.moments
          (λ f torn. keeps_behind c.args.self.now loose _ _ s _ _ (omega arith) f torn),
    )

pub returns-in_err-set_gate-clause-any_moment : goal.returns-in_err-set_gate-clause-any_moment
returns-in_err-set_gate-clause-any_moment g c loose s =
    let P : Contents → Type 0 = AllOrNothing (bounds_of c.args.self.now) loose (g.F.FilePair.model.seen c.args.files.now) (patches_of c.args.batch.now) in
    let behind : c.args.self.now.end < c.args.self.now.end + 1 = omega arith in
    let staged = consistent_behind c.args.self.now loose _ _ s _ _ behind _ _ c.write_synced.ensures.torn c.write_synced.ensures.crash in
    let first = patches_first c.args.batch.now (sym c.is_empty.ensures ∙ c.if-is_empty.false) in
    let whole = tail_written _ first.0 c.deref.result.now _ _ _ first.1 (c.deref.ensures.value ∙ c.in_ok-body.ensures.body) c.in_ok-write_synced.ensures.written in
    let room : c.args.self.now.end + length (entries (patches_of c.args.batch.now)) < c.args.self.now.bounds.log_end = omega (arith, c.in_ok-body.ensures.end, c.in_ok-body.ensures.within) in
    let at_first = leads_to g.F.FilePair.model c.args.files.now c.write_synced.new.files _ P c.write_synced.ensures.moments
    (λ f torn. nothing_yet _ loose _ _ f (keeps_behind c.args.self.now loose _ _ s _ _ behind f torn)) in
    let at_gate = then_leaves g.F.FilePair.model c.args.files.now c.write_synced.new.files c.set_gate.new.files P _ at_first c.set_gate.ensures.moments
    (λ f torn. alike_behind c.args.self.now loose _ _ s _ _ behind _ _ f c.write_synced.ensures.torn
    (gate_torn c.args.self.now loose _ _ staged c.in_ok-write_synced.ensures.sure (patches_of c.args.batch.now) first.0 first.1 whole room c.requires f torn)) in
    at_gate

pub returns-in_err-put_in_place-clause-any_moment : goal.returns-in_err-put_in_place-clause-any_moment
returns-in_err-put_in_place-clause-any_moment g c loose s =
    let P : Contents → Type 0 = AllOrNothing (bounds_of c.args.self.now) loose (g.F.FilePair.model.seen c.args.files.now) (patches_of c.args.batch.now) in
    let behind : c.args.self.now.end < c.args.self.now.end + 1 = omega arith in
    let staged = consistent_behind c.args.self.now loose _ _ s _ _ behind _ _ c.write_synced.ensures.torn c.write_synced.ensures.crash in
    let first = patches_first c.args.batch.now (sym c.is_empty.ensures ∙ c.if-is_empty.false) in
    let whole = tail_written _ first.0 c.deref.result.now _ _ _ first.1 (c.deref.ensures.value ∙ c.in_ok-body.ensures.body) c.in_ok-write_synced.ensures.written in
    let room : c.args.self.now.end + length (entries (patches_of c.args.batch.now)) < c.args.self.now.bounds.log_end = omega (arith, c.in_ok-body.ensures.end, c.in_ok-body.ensures.within) in
    let at_first = leads_to g.F.FilePair.model c.args.files.now c.write_synced.new.files _ P c.write_synced.ensures.moments
    (λ f torn. nothing_yet _ loose _ _ f (keeps_behind c.args.self.now loose _ _ s _ _ behind f torn)) in
    let at_gate = then_leaves g.F.FilePair.model c.args.files.now c.write_synced.new.files c.set_gate.new.files P _ at_first c.set_gate.ensures.moments
    (λ f torn. alike_behind c.args.self.now loose _ _ s _ _ behind _ _ f c.write_synced.ensures.torn
    (gate_torn c.args.self.now loose _ _ staged c.in_ok-write_synced.ensures.sure (patches_of c.args.batch.now) first.0 first.1 whole room c.requires f torn)) in
    then_leaves g.F.FilePair.model c.args.files.now c.set_gate.new.files c.put_in_place.new.files P _ at_gate c.put_in_place.ensures.moments
    (λ f smeared. alike_behind c.args.self.now loose _ _ s _ _ behind _ _ f c.write_synced.ensures.torn
    (places_torn c.args.self.now loose _ _ staged c.in_ok-write_synced.ensures.sure (patches_of c.args.batch.now) first.0 first.1 whole room c.requires
    _ _ c.in_ok-set_gate.ensures.written c.in_ok-set_gate.ensures.sure c.set_gate.ensures.crash f smeared))

pub returns-clause-acknowledged : goal.returns-clause-acknowledged
returns-clause-acknowledged g c loose s =
    let behind : c.args.self.now.end < c.args.self.now.end + 1 = omega arith in
    let staged = consistent_behind c.args.self.now loose _ _ s _ _ behind _ _ c.write_synced.ensures.torn c.write_synced.ensures.crash in
    let first = patches_first c.args.batch.now (sym c.is_empty.ensures ∙ c.if-is_empty.false) in
    let whole = tail_written _ first.0 c.deref.result.now _ _ _ first.1 (c.deref.ensures.value ∙ c.in_ok-body.ensures.body) c.in_ok-write_synced.ensures.written in
    let room : c.args.self.now.end + length (entries (patches_of c.args.batch.now)) < c.args.self.now.bounds.log_end = omega (arith, c.in_ok-body.ensures.end, c.in_ok-body.ensures.within) in
    consistent_after c.args.self.now loose _ _ staged c.in_ok-write_synced.ensures.sure (patches_of c.args.batch.now) first.0 first.1 whole room c.requires
    _ _ c.in_ok-set_gate.ensures.written c.in_ok-set_gate.ensures.sure c.set_gate.ensures.crash
    _ _ _ c.in_ok-body.ensures.end c.in_ok-put_in_place.ensures.records c.put_in_place.ensures.log c.put_in_place.ensures.crash

pub returns-clause-any_moment : goal.returns-clause-any_moment
returns-clause-any_moment g c loose s =
    let P : Contents → Type 0 = AllOrNothing (bounds_of c.args.self.now) loose (g.F.FilePair.model.seen c.args.files.now) (patches_of c.args.batch.now) in
    let behind : c.args.self.now.end < c.args.self.now.end + 1 = omega arith in
    let staged = consistent_behind c.args.self.now loose _ _ s _ _ behind _ _ c.write_synced.ensures.torn c.write_synced.ensures.crash in
    let first = patches_first c.args.batch.now (sym c.is_empty.ensures ∙ c.if-is_empty.false) in
    let whole = tail_written _ first.0 c.deref.result.now _ _ _ first.1 (c.deref.ensures.value ∙ c.in_ok-body.ensures.body) c.in_ok-write_synced.ensures.written in
    let room : c.args.self.now.end + length (entries (patches_of c.args.batch.now)) < c.args.self.now.bounds.log_end = omega (arith, c.in_ok-body.ensures.end, c.in_ok-body.ensures.within) in
    let at_first = leads_to g.F.FilePair.model c.args.files.now c.write_synced.new.files _ P c.write_synced.ensures.moments
    (λ f torn. nothing_yet _ loose _ _ f (keeps_behind c.args.self.now loose _ _ s _ _ behind f torn)) in
    let at_gate = then_leaves g.F.FilePair.model c.args.files.now c.write_synced.new.files c.set_gate.new.files P _ at_first c.set_gate.ensures.moments
    (λ f torn. alike_behind c.args.self.now loose _ _ s _ _ behind _ _ f c.write_synced.ensures.torn
    (gate_torn c.args.self.now loose _ _ staged c.in_ok-write_synced.ensures.sure (patches_of c.args.batch.now) first.0 first.1 whole room c.requires f torn)) in
    then_leaves g.F.FilePair.model c.args.files.now c.set_gate.new.files c.put_in_place.new.files P _ at_gate c.put_in_place.ensures.moments
    (λ f smeared. alike_behind c.args.self.now loose _ _ s _ _ behind _ _ f c.write_synced.ensures.torn
    (places_torn c.args.self.now loose _ _ staged c.in_ok-write_synced.ensures.sure (patches_of c.args.batch.now) first.0 first.1 whole room c.requires
    _ _ c.in_ok-set_gate.ensures.written c.in_ok-set_gate.ensures.sure c.set_gate.ensures.crash f smeared))

pub returns-then-is_empty-clause-acknowledged : goal.returns-then-is_empty-clause-acknowledged
returns-then-is_empty-clause-acknowledged g c loose s = s

pub returns-then-is_empty-clause-refused : goal.returns-then-is_empty-clause-refused
returns-then-is_empty-clause-refused g c refused loose s = absurd refused

pub returns-then-is_empty-clause-refused_records : goal.returns-then-is_empty-clause-refused_records
returns-then-is_empty-clause-refused_records g c refused i = refl

pub returns-then-is_empty-clause-bounds : goal.returns-then-is_empty-clause-bounds
returns-then-is_empty-clause-bounds g c = refl

pub returns-then-is_empty-clause-full : goal.returns-then-is_empty-clause-full
returns-then-is_empty-clause-full g c is = no_error tt LogFull _ is

pub returns-then-is_empty-clause-no_room : goal.returns-then-is_empty-clause-no_room
returns-then-is_empty-clause-no_room g c is = no_error tt NoRoom _ is

pub returns-then-is_empty-clause-after : goal.returns-then-is_empty-clause-after
returns-then-is_empty-clause-after g c = after_none g.F.FilePair.model c.args.files.now

pub returns-then-is_empty-clause-failed : goal.returns-then-is_empty-clause-failed
returns-then-is_empty-clause-failed g c is = no_error tt Failed _ is

pub returns-then-is_empty-clause-damaged : goal.returns-then-is_empty-clause-damaged
returns-then-is_empty-clause-damaged g c is = no_error tt Damaged ⊥ is

pub returns-in_err-body-clause-acknowledged : goal.returns-in_err-body-clause-acknowledged
returns-in_err-body-clause-acknowledged g c = on_ok_none c.from_residual.result _ c.from_residual.ensures.0

pub returns-in_err-body-clause-records : goal.returns-in_err-body-clause-records
returns-in_err-body-clause-records g c = on_ok_none c.from_residual.result _ c.from_residual.ensures.0

pub returns-in_err-body-clause-refused_records : goal.returns-in_err-body-clause-refused_records
returns-in_err-body-clause-refused_records g c refused i = refl

pub returns-in_err-body-clause-bounds : goal.returns-in_err-body-clause-bounds
returns-in_err-body-clause-bounds g c = refl

pub returns-in_err-body-clause-full : goal.returns-in_err-body-clause-full
returns-in_err-body-clause-full g c is = if_of_passed c.from_residual.result c.in_err-body.field-0.0 LogFull _ c.from_residual.ensures.1 c.in_err-body.ensures.full is

pub returns-in_err-body-clause-no_room : goal.returns-in_err-body-clause-no_room
returns-in_err-body-clause-no_room g c is = spelled_not_room c.from_residual.result _ (if_err_passed c.from_residual.result c.in_err-body.field-0.0 _ c.from_residual.ensures.1 c.in_err-body.ensures.errors) is

pub returns-in_err-body-clause-after : goal.returns-in_err-body-clause-after
returns-in_err-body-clause-after g c = after_none g.F.FilePair.model c.args.files.now

pub returns-in_err-body-clause-failed : goal.returns-in_err-body-clause-failed
returns-in_err-body-clause-failed g c is = spelled_not_failed c.from_residual.result _ (if_err_passed c.from_residual.result c.in_err-body.field-0.0 _ c.from_residual.ensures.1 c.in_err-body.ensures.errors) is

pub returns-in_err-body-clause-damaged : goal.returns-in_err-body-clause-damaged
returns-in_err-body-clause-damaged g c is = spelled_not_damaged c.from_residual.result ⊥ (if_err_passed c.from_residual.result c.in_err-body.field-0.0 _ c.from_residual.ensures.1 c.in_err-body.ensures.errors) is

pub returns-in_err-write_synced-clause-acknowledged : goal.returns-in_err-write_synced-clause-acknowledged
returns-in_err-write_synced-clause-acknowledged g c = on_ok_none c.from_residual-in_err-write_synced.result _ c.from_residual-in_err-write_synced.ensures.0

pub returns-in_err-write_synced-clause-records : goal.returns-in_err-write_synced-clause-records
returns-in_err-write_synced-clause-records g c = on_ok_none c.from_residual-in_err-write_synced.result _ c.from_residual-in_err-write_synced.ensures.0

pub returns-in_err-write_synced-clause-refused_records : goal.returns-in_err-write_synced-clause-refused_records
returns-in_err-write_synced-clause-refused_records g c refused i = c.write_synced.ensures.torn.other i

pub returns-in_err-write_synced-clause-bounds : goal.returns-in_err-write_synced-clause-bounds
returns-in_err-write_synced-clause-bounds g c = refl

pub returns-in_err-write_synced-clause-full : goal.returns-in_err-write_synced-clause-full
returns-in_err-write_synced-clause-full g c is = written_not_full c.from_residual-in_err-write_synced.result _ (if_err_passed c.from_residual-in_err-write_synced.result c.in_err-write_synced.field-0.0 _ c.from_residual-in_err-write_synced.ensures.1 c.in_err-write_synced.ensures.errors) is

pub returns-in_err-write_synced-clause-no_room : goal.returns-in_err-write_synced-clause-no_room
returns-in_err-write_synced-clause-no_room g c is = if_of_passed c.from_residual-in_err-write_synced.result c.in_err-write_synced.field-0.0 NoRoom _ c.from_residual-in_err-write_synced.ensures.1 c.in_err-write_synced.ensures.cause.no_room is

pub returns-in_err-write_synced-clause-after : goal.returns-in_err-write_synced-clause-after
returns-in_err-write_synced-clause-after g c = c.write_synced.ensures.after

pub returns-in_err-write_synced-clause-failed : goal.returns-in_err-write_synced-clause-failed
returns-in_err-write_synced-clause-failed g c is = if_of_passed c.from_residual-in_err-write_synced.result c.in_err-write_synced.field-0.0 Failed _ c.from_residual-in_err-write_synced.ensures.1 (λ of. inl (c.in_err-write_synced.ensures.cause.failed of)) is

pub returns-in_err-write_synced-clause-damaged : goal.returns-in_err-write_synced-clause-damaged
returns-in_err-write_synced-clause-damaged g c is = written_not_damaged c.from_residual-in_err-write_synced.result ⊥ (if_err_passed c.from_residual-in_err-write_synced.result c.in_err-write_synced.field-0.0 _ c.from_residual-in_err-write_synced.ensures.1 c.in_err-write_synced.ensures.errors) is

pub returns-in_err-set_gate-clause-acknowledged : goal.returns-in_err-set_gate-clause-acknowledged
returns-in_err-set_gate-clause-acknowledged g c = on_ok_none c.from_residual-in_err-set_gate.result _ c.from_residual-in_err-set_gate.ensures.0

pub returns-in_err-set_gate-clause-records : goal.returns-in_err-set_gate-clause-records
returns-in_err-set_gate-clause-records g c = on_ok_none c.from_residual-in_err-set_gate.result _ c.from_residual-in_err-set_gate.ensures.0

pub returns-in_err-set_gate-clause-refused : goal.returns-in_err-set_gate-clause-refused
returns-in_err-set_gate-clause-refused g c refused loose s = not_refused c.in_err-set_gate.field-0.0 _ c.in_err-set_gate.ensures.failed.0 c.from_residual-in_err-set_gate.result c.from_residual-in_err-set_gate.ensures.1 refused

pub returns-in_err-set_gate-clause-refused_records : goal.returns-in_err-set_gate-clause-refused_records
returns-in_err-set_gate-clause-refused_records g c refused i = not_refused c.in_err-set_gate.field-0.0 _ c.in_err-set_gate.ensures.failed.0 c.from_residual-in_err-set_gate.result c.from_residual-in_err-set_gate.ensures.1 refused

pub returns-in_err-set_gate-clause-bounds : goal.returns-in_err-set_gate-clause-bounds
returns-in_err-set_gate-clause-bounds g c = refl

pub returns-in_err-set_gate-clause-full : goal.returns-in_err-set_gate-clause-full
returns-in_err-set_gate-clause-full g c is = passed_not_full c.in_err-set_gate.field-0.0 _ c.in_err-set_gate.ensures.failed.0 c.from_residual-in_err-set_gate.result c.from_residual-in_err-set_gate.ensures.1 is

pub returns-in_err-set_gate-clause-no_room : goal.returns-in_err-set_gate-clause-no_room
returns-in_err-set_gate-clause-no_room g c is = passed_not_room c.in_err-set_gate.field-0.0 _ c.in_err-set_gate.ensures.failed.0 c.from_residual-in_err-set_gate.result c.from_residual-in_err-set_gate.ensures.1 is

pub returns-in_err-set_gate-clause-after : goal.returns-in_err-set_gate-clause-after
returns-in_err-set_gate-clause-after g c = after_then g.F.FilePair.model c.args.files.now c.write_synced.new.files c.set_gate.new.files c.write_synced.ensures.after c.set_gate.ensures.after

pub returns-in_err-set_gate-clause-failed : goal.returns-in_err-set_gate-clause-failed
returns-in_err-set_gate-clause-failed g c is = failed_last g.F.FilePair.model c.args.files.now c.write_synced.new.files c.set_gate.new.files c.write_synced.ensures.after c.in_err-set_gate.ensures.failed.1

pub returns-in_err-set_gate-clause-damaged : goal.returns-in_err-set_gate-clause-damaged
returns-in_err-set_gate-clause-damaged g c is = passed_not_damaged c.in_err-set_gate.field-0.0 ⊥ c.in_err-set_gate.ensures.failed.0 c.from_residual-in_err-set_gate.result c.from_residual-in_err-set_gate.ensures.1 is

pub returns-in_err-put_in_place-clause-acknowledged : goal.returns-in_err-put_in_place-clause-acknowledged
returns-in_err-put_in_place-clause-acknowledged g c = on_ok_none c.from_residual-in_err-put_in_place.result _ c.from_residual-in_err-put_in_place.ensures.0

pub returns-in_err-put_in_place-clause-records : goal.returns-in_err-put_in_place-clause-records
returns-in_err-put_in_place-clause-records g c = on_ok_none c.from_residual-in_err-put_in_place.result _ c.from_residual-in_err-put_in_place.ensures.0

pub returns-in_err-put_in_place-clause-refused : goal.returns-in_err-put_in_place-clause-refused
returns-in_err-put_in_place-clause-refused g c refused loose s = not_refused c.in_err-put_in_place.field-0.0 _ c.in_err-put_in_place.ensures.failed.0 c.from_residual-in_err-put_in_place.result c.from_residual-in_err-put_in_place.ensures.1 refused

pub returns-in_err-put_in_place-clause-refused_records : goal.returns-in_err-put_in_place-clause-refused_records
returns-in_err-put_in_place-clause-refused_records g c refused i = not_refused c.in_err-put_in_place.field-0.0 _ c.in_err-put_in_place.ensures.failed.0 c.from_residual-in_err-put_in_place.result c.from_residual-in_err-put_in_place.ensures.1 refused

pub returns-in_err-put_in_place-clause-bounds : goal.returns-in_err-put_in_place-clause-bounds
returns-in_err-put_in_place-clause-bounds g c = refl

pub returns-in_err-put_in_place-clause-full : goal.returns-in_err-put_in_place-clause-full
returns-in_err-put_in_place-clause-full g c is = passed_not_full c.in_err-put_in_place.field-0.0 _ c.in_err-put_in_place.ensures.failed.0 c.from_residual-in_err-put_in_place.result c.from_residual-in_err-put_in_place.ensures.1 is

pub returns-in_err-put_in_place-clause-no_room : goal.returns-in_err-put_in_place-clause-no_room
returns-in_err-put_in_place-clause-no_room g c is = passed_not_room c.in_err-put_in_place.field-0.0 _ c.in_err-put_in_place.ensures.failed.0 c.from_residual-in_err-put_in_place.result c.from_residual-in_err-put_in_place.ensures.1 is

pub returns-in_err-put_in_place-clause-after : goal.returns-in_err-put_in_place-clause-after
returns-in_err-put_in_place-clause-after g c = after_then g.F.FilePair.model c.args.files.now c.set_gate.new.files c.put_in_place.new.files (after_then g.F.FilePair.model c.args.files.now c.write_synced.new.files c.set_gate.new.files c.write_synced.ensures.after c.set_gate.ensures.after) c.put_in_place.ensures.after

pub returns-in_err-put_in_place-clause-failed : goal.returns-in_err-put_in_place-clause-failed
returns-in_err-put_in_place-clause-failed g c is = failed_last g.F.FilePair.model c.args.files.now c.set_gate.new.files c.put_in_place.new.files (after_then g.F.FilePair.model c.args.files.now c.write_synced.new.files c.set_gate.new.files c.write_synced.ensures.after c.set_gate.ensures.after) c.in_err-put_in_place.ensures.failed.1

pub returns-in_err-put_in_place-clause-damaged : goal.returns-in_err-put_in_place-clause-damaged
returns-in_err-put_in_place-clause-damaged g c is = passed_not_damaged c.in_err-put_in_place.field-0.0 ⊥ c.in_err-put_in_place.ensures.failed.0 c.from_residual-in_err-put_in_place.result c.from_residual-in_err-put_in_place.ensures.1 is

pub returns-clause-records : goal.returns-clause-records
returns-clause-records g c i =
    let same = same_content (g.F.FilePair.model.seen c.set_gate.new.files Records) (g.F.FilePair.model.seen c.args.files.now Records) (λ k. c.set_gate.ensures.torn.other k ∙ c.write_synced.ensures.torn.other k) in
    c.in_ok-put_in_place.ensures.records i ∙ ap (λ (x : Content). put_all (patches_of c.args.batch.now) x i) same

pub returns-clause-refused : goal.returns-clause-refused
returns-clause-refused g c refused loose s = absurd refused

pub returns-clause-refused_records : goal.returns-clause-refused_records
returns-clause-refused_records g c refused i = absurd refused

pub returns-clause-bounds : goal.returns-clause-bounds
returns-clause-bounds g c = refl

pub returns-clause-full : goal.returns-clause-full
returns-clause-full g c is = no_error tt LogFull _ is

pub returns-clause-no_room : goal.returns-clause-no_room
returns-clause-no_room g c is = no_error tt NoRoom _ is

pub returns-clause-after : goal.returns-clause-after
returns-clause-after g c = after_then g.F.FilePair.model c.args.files.now c.set_gate.new.files c.put_in_place.new.files (after_then g.F.FilePair.model c.args.files.now c.write_synced.new.files c.set_gate.new.files c.write_synced.ensures.after c.set_gate.ensures.after) c.put_in_place.ensures.after

pub returns-clause-failed : goal.returns-clause-failed
returns-clause-failed g c is = no_error tt Failed _ is

pub returns-clause-damaged : goal.returns-clause-damaged
returns-clause-damaged g c is = no_error tt Damaged ⊥ is
