-- The end of a reference, over the processors' records.
use Rattle.std.proofs.Common.{◌≡◌, ℕ, List, set, Some, None, Option, ap, ◌∙◌}
use lib.Seq.{set-get_or}
use Rattle.tables.specs.declared.types.Processor.{Processor}
use Rattle.processors.specs.Finish.{answered, finished}
use Rattle.rules.specs.Bus.{no_processor, proc_at}
use Rattle.rules.specs.Cache.{stored}

-- a write stores its word at processor i, a read changes nothing
abbrev pub finished_at : Option ℕ → List Processor → ℕ → ℕ → ℕ → ℕ → List Processor
finished_at None ps i s w k = ps
finished_at (Some x) ps i s w k = set ps i (stored (proc_at ps i) s w k x)

-- the word answered
abbrev pub answered_at : Option ℕ → List Processor → ℕ → ℕ → ℕ → ℕ → ℕ
answered_at v ps i s w k = answered v (proc_at ps i) s w k

-- the one processor put back into its place
pub finish_at : (v : Option ℕ) (ps : List Processor) (i s w k : ℕ) (p : Processor) → p ≡ finished v (proc_at ps i) s w k → set ps i p ≡ finished_at v ps i s w k
finish_at None ps i s w k p e = ap (λ (q : Processor). set ps i q) e ∙ set-get_or ps i no_processor
finish_at (Some x) ps i s w k p e = ap (λ (q : Processor). set ps i q) e
