use Rattle.std.proofs.Common.{◌≡◌, length, refl, ap, ◌∙◌, arith}
use Rattle.records.proofs.Answered.{heard_words}
use Rattle.records.proofs.Whole.{words_length}
use Rattle.records.proofs.trace.read_trace.Goals as goal
use Rattle.records.specs.Bytes.{words_of}
use Rattle.records.specs.Told.{told_by}

-- words of a trace that is not too long are not too many
pub returns-in_err-next-items-clause-value : goal.returns-in_err-next-items-clause-value
returns-in_err-next-items-clause-value c =
    let w : c.deref.result.now ≡ words_of c.args.bytes.now = c.deref.ensures.value ∙ c.in_ok-words.ensures in
    absurd (omega (arith, ap length w, words_length c.args.bytes.now, c.in_err-next-items.ensures.1))

pub loop-next-init : goal.loop-next-init
loop-next-init c =
    let h = heard_words c.args.bytes.now c.deref.result.now (told_by c.into_iter-next-iterator.result) c.if-bytes-gt-TRACE_BYTES.false (c.deref.ensures.value ∙ c.in_ok-words.ensures)
    (ap told_by c.into_iter-next-iterator.ensures.into_iter_gives ∙ c.in_ok-next-items.ensures.0) in
    rw (c.new-records.ensures.items, h) refl
