-- A process that begins with the device of one block as it was formatted.
use Rattle.std.proofs.Common.{refl, inl}
use Rattle.oram_link_laws.specs.Examples.{new_core, new_host, new_server, one_block}
use Rattle.oram_link_laws.proofs.Device.{session_example}
use Rattle.oram_session.specs.Links.{ToServer}
use Rattle.oram_rounds.specs.Examples.{NewProcessExample, is_new_file, new_process, zero_array}
use Rattle.oram_rounds.proofs.Start.{held_goes_on, held_is_safe}

pub new_process_example : NewProcessExample
new_process_example =
    let held = session_example.1 in
    let on = held_goes_on one_block new_core new_host zero_array held in (
      λ l m bodies o exchanges h. h.1,
      session_example.0,
      held,
      λ may_lie. held_is_safe ToServer is_new_file may_lie one_block new_server new_core tt new_host zero_array held (λ bytes back. back),
      λ may_lie. (new_host, on.0, on.1, inl refl),
      (new_process, (λ bytes back. back, refl, refl, inl refl), refl),
      λ may_lie. refl,
    )
