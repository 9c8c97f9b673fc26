-- A device and the world beside it, which is a host for a disk over a network. Neither is a function of the other: the calls
-- of the device have events, and the world goes from one state to the next through them.
use Rattle.std.specs.Prelude.{◌≡◌, Bool, IfSome, List, Option}
use Rattle.std.specs.List.{FoldsTo, flat_map}

-- `had` gives the events that a call may have. `hears` gives the next state of the world after an event. `holds` says what is
-- true of the device in a world, such as which array it holds.
module _ {D W E A : Type 0} (had : D → List E → D → Type 0) (hears : Bool → W → E → W → Type 0) (holds : Bool → D → W → A → Type 0) where
  -- the world goes through the events of all calls
  abbrev pub GoesThrough : Bool → W → List (List E) → W → Type 0
  GoesThrough may_lie world calls later = FoldsTo {P = W} {A = E} (hears may_lie) world (flat_map (λ events. events) calls) later

  -- The device was called any number of times, and its calls had some events. In each world that goes through these events,
  -- `step` leads from what was true of the device before to what is true of it now.
  pub record GoesOn (old : D) (step : Bool → A → A → Type 0) (new : D) : Type 0 where
    pub calls : List (List E)
    pub made : FoldsTo {P = D} {A = List E} had old calls new
    pub leads : (may_lie : Bool) (world later : W) → GoesThrough may_lie world calls later → (array : A) → holds may_lie old world array
        → (next : A) × step may_lie array next × holds may_lie new later next

-- The arrays of a device beside a world: the one that it holds, and perhaps one that is saved. If one is saved, the next
-- process would hold it or the one that is held now. If none is saved, nothing is known of the next process.
pub record Arrays (A : Type 0) : Type 0 where
  pub held : A
  pub saved : Option A

-- The device has these arrays. `holds` gives those that it may hold in a world. `kept` relates two arrays there: the device
-- holds the second one, and the next process would hold the first or the second.
abbrev pub HasArrays : {D W A : Type 0} → (Bool → D → W → A → Type 0) → (Bool → D → W → A → A → Type 0) → Bool → D → W → Arrays A → Type 0
HasArrays holds kept may_lie d w h = holds may_lie d w h.held × IfSome h.saved (λ array. kept may_lie d w array h.held)

-- a call has met what stops the device, and has left it in this state
abbrev pub IsStopped : {D : Type 0} → (D → D → Type 0) → D → Type 0
IsStopped {D} stops later = (before : D) × stops before later

-- A device may be built on another one. A call of it has the events of its calls of the inner device, in order.
abbrev pub HadWithin : {D E : Type 0} → (D → List E → D → Type 0) → D → List E → D → Type 0
HadWithin {D} {E} had old events new = (calls : List (List E)) × (flat_map (λ events. events) calls ≡ events) × FoldsTo {P = D} {A = List E} had old calls new
