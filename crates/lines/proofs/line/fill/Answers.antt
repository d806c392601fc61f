use Rattle.std.proofs.Common.{◌≡◌, ℕ, ◌-◌, ◌*◌, ◌/◌, ◌%◌, ◌^◌, length, get_or, set, sym, ap, ◌∙◌, arith}
use Rattle.std.proofs.lemmas.List.{ext_get_or}
use Rattle.std.proofs.lemmas.List.Edits.{fill_by_more}
use Rattle.std.proofs.lemmas.Nat.{and_mask}
use Rattle.lines.specs.Hex.{digit_of, hex_field}
use Rattle.lines.proofs.Fields.{digit_at, end_at, length-hex_field, shifted}
use Rattle.lines.proofs.line.fill.Goals as goal
use Rattle.lines.proofs.line.fill.Goals.{then-at-last, else-at-last}

abbrev shown : (c : goal.Joined-at-last) → ℕ → ℕ
shown c k = get_or (hex_field (length c.args.field.now - 1) c.args.n c.args.end) k 0

next : (c : goal.Joined-at-last) → c.if-at-last.byte ≡ shown c c.loop-at.at
next c =
    let last = length c.args.field.now - 1 in
    let left = last - 1 - c.loop-at.at in
    elim c.if-at-last.branch [
      | then-at-last w ↦ w.byte-is ∙ w.digit.ensures ∙ ap digit_of (and_mask (c.args.n / 2 ^ (4 * left)) 4)
          ∙ ap (λ p. digit_of (c.args.n / p % 16)) (shifted left) ∙ sym (digit_at last c.args.n c.args.end c.loop-at.at w.if-at-last.true)
      | else-at-last w ↦ w.byte-is ∙ sym (end_at last c.args.n c.args.end) ∙ ap (shown c) (omega (arith, w.if-at-last.false))
    ]

pub loop-at-preserved : goal.loop-at-preserved
loop-at-preserved c = λ k h.
    ap (λ b. get_or (set c.loop-at.field c.loop-at.at b) k 0) (next c)
    ∙ fill_by_more (shown c) c.loop-at.field c.loop-at.at 0 (omega arith) c.loop-at.invariant k h

pub returns : goal.returns
returns c =
    let last = length c.args.field.now - 1 in
    ext_get_or 0 c.loop-at.field (hex_field last c.args.n c.args.end) (omega (arith, length-hex_field last c.args.n c.args.end)) (λ i h. c.loop-at.invariant i (omega arith))
