-- What a performer that hands on inert calls shows.
use Rattle.std.specs.Prelude.{◌≡◌, Bool, true, false, List, filter}
use Rattle.anstyle_parse.specs.Stream.Call.{Call}
use Rattle.ansi_strip.specs.declared.inert.Inert.{Inert}
use Rattle.ansi_strip.specs.Inert.{is_inert}

-- the performer that it hands on to
abbrev pub performer_in : {P : Type 0} → Inert P → P
performer_in inert = inert.performer

-- a call is handed on, or nothing changes
abbrev pub HandsOnWhere : {P : Type 0} → Bool → (means : P → Call → P → Type 0) → P → Call → P → Type 0
HandsOnWhere true means old call new = means old call new
HandsOnWhere false means old call new = new ≡ old

-- one that is inert is handed on
abbrev pub HandsOn : {P : Type 0} → (means : P → Call → P → Type 0) → Inert P → Call → Inert P → Type 0
HandsOn means old call new = HandsOnWhere (is_inert call) means (performer_in old) call (performer_in new)

-- of a list of calls it receives those that are inert
abbrev pub ReceivesInert : {P : Type 0} → (receives : P → List Call → P → Type 0) → Inert P → List Call → Inert P → Type 0
ReceivesInert receives old calls new = receives (performer_in old) (filter is_inert calls) (performer_in new)
