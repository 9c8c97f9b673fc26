use Rattle.std.proofs.Common.{◌≡◌, List, ℕ, Bool, sym, ◌∙◌, subst, string_bytes}
use Rattle.std.specs.Prelude.{MatchBool}
use Rattle.oram_disk_client.specs.Faults.{IsAbout}
use Rattle.oram_disk_client.specs.Reading.{IsReadFault}
use Rattle.oram_disk_host.specs.declared.kinds.FaultKind.TheVariants as kind
use Rattle.oram_disk_client.proofs.reading_ends.store_fault.Goals as goal

pub returns-then-are_foreign : goal.returns-then-are_foreign
returns-then-are_foreign c =
    let settings = c.args.settings.now in
    let F : Bool → Type 0 = λ b. MatchBool b (IsAbout kind.NotADisk (string_bytes settings.state) c.named.result) (IsReadFault c.args.fault c.args.trouble settings c.named.result) in
    subst F (sym (sym c.are_foreign.ensures ∙ c.if-are_foreign.true)) (subst (λ (name : List ℕ). IsAbout kind.NotADisk name c.named.result) c.as_str.ensures.value c.named.ensures)
