-- The exhibited run: its answers by computation, its past call by call.
use Rattle.std.proofs.Common.{List, [], ◌∷◌, refl}
use Rattle.rules.specs.Sizes.{v_sets, v_ways, r_sets, r_ways, page_blocks}
use Rattle.rules.specs.Calls.{Board}
use Rattle.rules.specs.Run.{Call, perform}
use Rattle.rules.specs.History.{History, event}
use Rattle.rules.specs.Laws.{Past, begun, called}
use Rattle.rules.specs.Listing.{fresh, lru_rules, no_frames, zero_blocks}
use Rattle.rules.specs.Exhibit.{Exhibited, board_after, exhibit, fresh_setup, history_after}
use Rattle.replacement.specs.Choices.{oldest_lawful}

runs_on : (cs : List Call) (b : Board) (h : History) → Past lru_rules fresh_setup h b → Past lru_rules fresh_setup (history_after cs b h) (board_after cs b)
runs_on [] b h p = p
runs_on (c ∷ cs) b h p = runs_on cs (perform lru_rules c b).after (event c (perform lru_rules c b) ∷ h) (called c p)

pub exhibited : Exhibited
unfolding v_sets v_ways r_sets r_ways page_blocks
exhibited = record {
  lawful = record { chosen = oldest_lawful };
  past = runs_on exhibit fresh [] (begun 4 0 zero_blocks 512 no_frames (λ b. refl));
  saw = refl;
}
