use Rattle.std.proofs.Common.{◌≡◌, ℕ, length, arith, ap, drop, sym, ◌∙◌, ◌++◌, ◌*◌, length-append}
use Rattle.oram_state.specs.AroundTable.{after_table, before_len, before_table}
use Rattle.oram_state.specs.StateBytes.{table_text}
use Rattle.oram_state.proofs.FieldsInThree.{fields_around, first_of, last_of, length-before, length-table}
use Rattle.oram_state.proofs.around_table.split_around_table.Goals as goal

pub split_at-requires : goal.split_at-requires
split_at-requires g c =
    let overhead = (g.S.Sealer.cipher c.args.core.now.sealer).overhead in
    let d = c.args.core.now.device in
    let s = c.args.core.now.state in
    let is = fields_around c.args.fields.now overhead d s c.requires in
    let long : c.before_len.result ≡ length (before_table overhead d s) = c.before_len.ensures ∙ ap before_len c.failure.ensures ∙ sym (length-before overhead d s) in
    omega (arith, long, ap length is, length-append (before_table overhead d s) (table_text s.table ++ after_table d s))

pub split_at-requires-2 : goal.split_at-requires-2
split_at-requires-2 g c =
    let overhead = (g.S.Sealer.cipher c.args.core.now.sealer).overhead in
    let d = c.args.core.now.device in
    let s = c.args.core.now.state in
    let is = fields_around c.args.fields.now overhead d s c.requires in
    let long : c.before_len.result ≡ length (before_table overhead d s) = c.before_len.ensures ∙ ap before_len c.failure.ensures ∙ sym (length-before overhead d s) in
    let entries : length c.table.result.now ≡ length s.table = ap length c.table.ensures in
    omega (arith, long, entries, length-table s.table, c.split_at.ensures.back_len, ap length is, length-append (before_table overhead d s) (table_text s.table ++ after_table d s), length-append (table_text s.table) (after_table d s))

pub returns-clause-before : goal.returns-clause-before
returns-clause-before g c =
    let overhead = (g.S.Sealer.cipher c.args.core.now.sealer).overhead in
    let d = c.args.core.now.device in
    let s = c.args.core.now.state in
    let is = fields_around c.args.fields.now overhead d s c.requires in
    let long : length (before_table overhead d s) ≡ c.before_len.result = length-before overhead d s ∙ sym (c.before_len.ensures ∙ ap before_len c.failure.ensures) in
    c.split_at.ensures.front ∙ first_of c.args.fields.now (before_table overhead d s) (table_text s.table) (after_table d s) c.before_len.result is long

pub returns-clause-after : goal.returns-clause-after
returns-clause-after g c =
    let overhead = (g.S.Sealer.cipher c.args.core.now.sealer).overhead in
    let d = c.args.core.now.device in
    let s = c.args.core.now.state in
    let is = fields_around c.args.fields.now overhead d s c.requires in
    let long : length (before_table overhead d s) ≡ c.before_len.result = length-before overhead d s ∙ sym (c.before_len.ensures ∙ ap before_len c.failure.ensures) in
    let entries : length (table_text s.table) ≡ 4 * length c.table.result.now = length-table s.table ∙ ap (λ (n : ℕ). 4 * n) (sym (ap length c.table.ensures)) in
    c.split_at-2.ensures.back ∙ ap (drop (4 * length c.table.result.now)) c.split_at.ensures.back
    ∙ last_of c.args.fields.now (before_table overhead d s) (table_text s.table) (after_table d s) c.before_len.result (4 * length c.table.result.now) is long entries
