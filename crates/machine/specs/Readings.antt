-- What a reading tells.
use Rattle.std.specs.Prelude.{◌≡◌, ℕ, Ok, Err, Result}
use Rattle.faults.specs.declared.machine_fault.MachineFault.{MachineFault}
use Rattle.rules.specs.Calls.{CountsTold, Step}
use Rattle.machine.specs.Refusals.{Refuses}
use Rattle.machine.specs.declared.tally.Tally.{Tally}

-- its value, under f as the rules have it, or the fault of its number
module _ {A B : Type 0} (f : A → B) (value : B) (which : ℕ → MachineFault) where
  abbrev pub Reads : Result A MachineFault → Step → Type 0
  Reads (Ok a) d = (d.number ≡ 0) × (f a ≡ value)
  Reads (Err e) d = Refuses d which e

-- the counts of a processor as the rules have them
abbrev pub tally_told : Tally → CountsTold
tally_told t = record { fetched = t.fetched; resident = t.resident; replaced = t.replaced; invalidated = t.invalidated }
