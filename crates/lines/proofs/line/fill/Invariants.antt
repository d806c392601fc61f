use Rattle.std.proofs.Common.{◌≡◌, ℕ, ◌<◌, get_or}
use Rattle.lines.specs.Hex.{hex_field}
use Rattle.lines.proofs.line.fill.Given as goal

abbrev pub invariant-loop-at : goal.invariant-loop-at
invariant-loop-at l = (k : ℕ) → k < l.at → get_or l.field k 0 ≡ get_or (hex_field l.last l.n l.end) k 0
