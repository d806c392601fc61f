-- The calls one after another: the first that is refused ends them; where none is, the laws give the word.
use Rattle.std.proofs.Common.{ℕ, sym, refl, ap, ◌∙◌}
use Rattle.rules.specs.Run.{entering}
use Rattle.machine.specs.Answers.{access_answer}
use Rattle.client.specs.Back.{calls}
use Rattle.client.proofs.Calls.{begin, lawful, next, none_left, refused, there}
use Rattle.client.proofs.Words.{read_word}
use Rattle.client.proofs.back.write_and_read_back.Goals as goal

pub returns-in_err-enter : goal.returns-in_err-enter
returns-in_err-enter g c = λ u h p.
    let all = calls c.args.processor.0 c.args.at c.args.other.0 c.args.value in
    let first = ap (λ (n : ℕ). entering c.args.at.process.0 n c.args.at.frame.0) c.page_at.ensures in
    refused _ (begin all p) (c.in_err-enter.ensures u _) first c.from_residual.ensures

pub returns-in_err-switch : goal.returns-in_err-switch
returns-in_err-switch g c = λ u h p.
    let all = calls c.args.processor.0 c.args.at c.args.other.0 c.args.value in
    let first = ap (λ (n : ℕ). entering c.args.at.process.0 n c.args.at.frame.0) c.page_at.ensures in
    let one = next (begin all p) (c.in_ok-enter.ensures u _) first in
    refused _ one (c.in_err-switch.ensures u _) refl c.from_residual-in_err-switch.ensures

pub returns-in_err-write : goal.returns-in_err-write
returns-in_err-write g c = λ u h p.
    let all = calls c.args.processor.0 c.args.at c.args.other.0 c.args.value in
    let first = ap (λ (n : ℕ). entering c.args.at.process.0 n c.args.at.frame.0) c.page_at.ensures in
    let one = next (begin all p) (c.in_ok-enter.ensures u _) first in
    let two = next one (c.in_ok-switch.ensures u _) refl in
    refused _ two (c.in_err-write.ensures u _) refl c.from_residual-in_err-write.ensures

pub returns-in_err-switch-2 : goal.returns-in_err-switch-2
returns-in_err-switch-2 g c = λ u h p.
    let all = calls c.args.processor.0 c.args.at c.args.other.0 c.args.value in
    let first = ap (λ (n : ℕ). entering c.args.at.process.0 n c.args.at.frame.0) c.page_at.ensures in
    let one = next (begin all p) (c.in_ok-enter.ensures u _) first in
    let two = next one (c.in_ok-switch.ensures u _) refl in
    let three = next two (c.in_ok-write.ensures u _) refl in
    refused _ three (c.in_err-switch-2.ensures u _) refl c.from_residual-in_err-switch-2.ensures

pub returns-in_err-switch-3 : goal.returns-in_err-switch-3
returns-in_err-switch-3 g c = λ u h p.
    let all = calls c.args.processor.0 c.args.at c.args.other.0 c.args.value in
    let first = ap (λ (n : ℕ). entering c.args.at.process.0 n c.args.at.frame.0) c.page_at.ensures in
    let one = next (begin all p) (c.in_ok-enter.ensures u _) first in
    let two = next one (c.in_ok-switch.ensures u _) refl in
    let three = next two (c.in_ok-write.ensures u _) refl in
    let four = next three (c.in_ok-switch-2.ensures u _) refl in
    refused _ four (c.in_err-switch-3.ensures u _) refl c.from_residual-in_err-switch-3.ensures

pub returns-in_err-enter-2 : goal.returns-in_err-enter-2
returns-in_err-enter-2 g c = λ u h p.
    let all = calls c.args.processor.0 c.args.at c.args.other.0 c.args.value in
    let first = ap (λ (n : ℕ). entering c.args.at.process.0 n c.args.at.frame.0) c.page_at.ensures in
    let second = ap (λ (n : ℕ). entering c.args.at.process.0 n c.args.at.frame.0) c.page_at-2.ensures in
    let one = next (begin all p) (c.in_ok-enter.ensures u _) first in
    let two = next one (c.in_ok-switch.ensures u _) refl in
    let three = next two (c.in_ok-write.ensures u _) refl in
    let four = next three (c.in_ok-switch-2.ensures u _) refl in
    let five = next four (c.in_ok-switch-3.ensures u _) refl in
    refused _ five (c.in_err-enter-2.ensures u _) second c.from_residual-in_err-enter-2.ensures

pub returns-in_err-access : goal.returns-in_err-access
returns-in_err-access g c = λ u h p.
    let all = calls c.args.processor.0 c.args.at c.args.other.0 c.args.value in
    let first = ap (λ (n : ℕ). entering c.args.at.process.0 n c.args.at.frame.0) c.page_at.ensures in
    let second = ap (λ (n : ℕ). entering c.args.at.process.0 n c.args.at.frame.0) c.page_at-2.ensures in
    let one = next (begin all p) (c.in_ok-enter.ensures u _) first in
    let two = next one (c.in_ok-switch.ensures u _) refl in
    let three = next two (c.in_ok-write.ensures u _) refl in
    let four = next three (c.in_ok-switch-2.ensures u _) refl in
    let five = next four (c.in_ok-switch-3.ensures u _) refl in
    let six = next five (c.in_ok-enter-2.ensures u _) second in
    refused _ six (c.in_err-access.ensures u _) refl c.from_residual-in_err-access.ensures

pub returns : goal.returns
returns g c = λ u h p.
    let all = calls c.args.processor.0 c.args.at c.args.other.0 c.args.value in
    let first = ap (λ (n : ℕ). entering c.args.at.process.0 n c.args.at.frame.0) c.page_at.ensures in
    let second = ap (λ (n : ℕ). entering c.args.at.process.0 n c.args.at.frame.0) c.page_at-2.ensures in
    let one = next (begin all p) (c.in_ok-enter.ensures u _) first in
    let two = next one (c.in_ok-switch.ensures u _) refl in
    let three = next two (c.in_ok-write.ensures u _) refl in
    let four = next three (c.in_ok-switch-2.ensures u _) refl in
    let five = next four (c.in_ok-switch-3.ensures u _) refl in
    let six = next five (c.in_ok-enter-2.ensures u _) second in
    let seven = next six (c.in_ok-access.ensures u _) refl in
    let laws = lawful six (c.in_ok-access.ensures u _) refl in
    let wrote = access_answer c.in_ok-write.field-0 in
    let read = access_answer c.in_ok-access.access in
    record { accepted = seven.number ∙ none_left _ _; reached = sym (seven.reached ∙ there _ _); wrote = wrote; read = read; past = seven.past; answered = refl; same = read_word u h c.args.processor.0 c.args.at c.args.other.0 c.args.value wrote read laws.reads }
