-- A sound processor names no place outside its tables.
use Rattle.std.proofs.Common.{ℕ, Option}
use Rattle.tables.specs.declared.types.Processor.{Processor}
use Rattle.rules.specs.Cache.{line_at}
use Rattle.rules.specs.Bus.{Blocks}
use Rattle.rules.specs.Sound.{ProcOk}
use Rattle.rules.proofs.Ops.{present_range, filled_range, rplace_present}
use Rattle.caches.specs.Ranged.{Ranged}

pub ok_ranged : (T : ℕ → Option ℕ) (f : Blocks) (p : Processor) → ProcOk T f p → Ranged p
ok_ranged T f p O =
    record {
      lines = λ s w fl. present_range T f p O (line_at p s w).rplace.set (line_at p s w).rplace.way (rplace_present T f p O s w fl);
      children = λ a b q d e. filled_range T f p O q.set q.way (O.sound.children a b q d e).full;
    }
