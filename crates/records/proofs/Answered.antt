-- What is told of the words of a trace is heard as the trace.
use Rattle.std.proofs.Common.{◌≡◌, ℕ, ◌≤◌, List, length, Result, ap, ◌∙◌, arith}
use Rattle.records.proofs.Telling.{heard, heard_told}
use Rattle.records.specs.Bytes.{words_of}
use Rattle.records.specs.Traces.{loose_after, told, trace_bytes, trace_from, trace_of}
use Rattle.records.specs.declared.fault.FormatFault.{FormatFault}
use Rattle.records.specs.declared.record.Record.{Record}
use Rattle.std.proofs.lemmas.Bool.Decides.{nat_tests}

-- a trace that is not too long is the trace of its words
pub trace_words : (bs ws : List ℕ) → length bs ≤ trace_bytes → ws ≡ words_of bs → trace_from (length ws) 0 (loose_after bs) ws ≡ trace_of bs
trace_words bs ws h e = rw e (grind (arith, nat_tests))

pub heard_words : (bs ws : List ℕ) (xs : List (Result (ℕ × Record) FormatFault)) → length bs ≤ trace_bytes → ws ≡ words_of bs
    → xs ≡ told 0 (trace_from (length ws) 0 (loose_after bs) ws) → heard xs ≡ trace_of bs
heard_words bs ws xs h e t = ap heard t ∙ heard_told 0 (trace_from (length ws) 0 (loose_after bs) ws) ∙ trace_words bs ws h e
