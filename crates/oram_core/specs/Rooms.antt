-- Room for everything that a step shows.
use Rattle.std.specs.Prelude.{◌≡◌, ℕ, ◌<◌, ◌≤◌, [], vec_len, vec_capacity}
use Rattle.oram_core.specs.declared.messages.Room.{Room}

-- there is room for a message of this length, for a list of one message, and for this many replies
pub record IsRoom (message_len waiting : ℕ) (r : Room) : Type 0 where
  pub sent : r.sent.items ≡ []
  pub sent_none : vec_len r.sent ≡ 0
  pub sent_room : message_len ≤ vec_capacity r.sent
  pub sends : r.sends.items ≡ []
  pub sends_none : vec_len r.sends ≡ 0
  pub sends_room : 0 < vec_capacity r.sends
  pub failed : r.failed.items ≡ []
  pub failed_none : vec_len r.failed ≡ 0
  pub failed_room : waiting ≤ vec_capacity r.failed
