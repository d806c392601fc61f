-- What a memory answers, and what it holds after.
use Rattle.std.specs.Prelude.{◌≡◌, ℕ, List, Ok, Err, Result, ◌==◌, if◌then◌else◌, nat_lt}
use Rattle.base.specs.declared.block.PhysicalBlock.{PhysicalBlock}
use Rattle.memory.specs.declared.fault.MemoryFault.{MemoryFault}
use Rattle.memory.specs.declared.fault.MemoryFault.TheVariants.{Outside}

-- the words of each block
abbrev pub Blocks : Type 0
Blocks = ℕ → List ℕ

-- block b replaced
abbrev pub put : Blocks → ℕ → List ℕ → Blocks
put f b ws k = if k == b then ws else f k

-- the number of a block below n, and a fault for any other
abbrev pub below : ℕ → PhysicalBlock → Result ℕ MemoryFault
below n b = if nat_lt b.0 n then Ok b.0 else Err (Outside b)

-- a read: the words of a block below n, and a fault for any other
abbrev pub reading : ℕ → Blocks → PhysicalBlock → Result (List ℕ) MemoryFault
reading n f b = if nat_lt b.0 n then Ok (f b.0) else Err (Outside b)

-- a write: it is done for a block below n, and refused for any other
abbrev pub writing : ℕ → PhysicalBlock → Result (Unit {0}) MemoryFault
writing n b = if nat_lt b.0 n then Ok tt else Err (Outside b)

-- a fault is about the block that was asked for
abbrev pub Own : {X : Type 0} → PhysicalBlock → Result X MemoryFault → Type 0
Own b (Ok _) = Unit {0}
Own b (Err e) = e ≡ Outside b

-- the blocks after a write: the one block replaced, and none where it is refused
abbrev pub written : ℕ → Blocks → PhysicalBlock → List ℕ → Blocks
written n f b ws = if nat_lt b.0 n then put f b.0 ws else f
