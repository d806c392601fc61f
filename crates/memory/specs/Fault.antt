-- What a fault of a memory tells.
use Rattle.std.specs.Prelude.{ℕ, List, ◌++◌, codes, decimal}
use Rattle.base.specs.declared.layer.Layer.{Layer}
use Rattle.base.specs.declared.layer.Layer.TheVariants.{Memory}
use Rattle.memory.specs.declared.fault.MemoryFault.{MemoryFault}
use Rattle.memory.specs.declared.fault.MemoryFault.TheVariants.{Outside}

-- the number of a fault
abbrev pub fault_number : MemoryFault → ℕ
fault_number (Outside _) = 12

-- the layer that it comes from
abbrev pub fault_layer : MemoryFault → Layer
fault_layer (Outside _) = Memory

-- where it came about: the number of the block asked for
abbrev pub fault_place : MemoryFault → ℕ
fault_place (Outside b) = b.0

-- its text, by its place
abbrev pub text_at : ℕ → List ℕ
text_at place = codes "block " ++ (decimal place ++ codes " is outside the memory")

abbrev pub fault_text : MemoryFault → List ℕ
fault_text f = text_at (fault_place f)
