-- Message words, to the bit.
use Rattle.std.specs.Prelude.{ℕ, ◌+◌, ◌*◌, ◌%◌, ◌^◌}
use Rattle.tables.specs.declared.message.MessageKind.{MessageKind}
use Rattle.tables.specs.declared.message.MessageKind.TheVariants.{ReadMiss, Invalidation, ReadModifyWrite, WriteBack, DeviceRead, DeviceWrite}
use Rattle.tables.specs.declared.message.Sender.{Sender}
use Rattle.tables.specs.declared.message.Sender.TheVariants.{Cpu, Device}
use Rattle.tables.specs.declared.message.Supplier.{Supplier}
use Rattle.tables.specs.declared.message.Supplier.TheVariants.{Holder, Memory, NoData}
use Rattle.tables.specs.declared.message.Message.{Message}

abbrev pub kind_number : MessageKind → ℕ
kind_number ReadMiss = 1
kind_number Invalidation = 2
kind_number ReadModifyWrite = 3
kind_number WriteBack = 4
kind_number DeviceRead = 5
kind_number DeviceWrite = 6

-- the processor as sender, or 8 for the device
abbrev pub sender_number : Sender → ℕ
sender_number (Cpu p) = p.0
sender_number Device = 8

-- the processor as supplier, 8 for the memory, or 15 for no data
abbrev pub supplier_number : Supplier → ℕ
supplier_number (Holder p) = p.0
supplier_number Memory = 8
supplier_number NoData = 15

-- kind in bits 31 to 28, sender in 27 to 24, supplier in 23 to 20, zeros in 19 to 16, block in 15 to 0
abbrev pub message_word : Message → ℕ
message_word m = kind_number m.kind * 2 ^ 28 + sender_number m.sender % 16 * 2 ^ 24 + supplier_number m.supplier % 16 * 2 ^ 20 + m.block.0
