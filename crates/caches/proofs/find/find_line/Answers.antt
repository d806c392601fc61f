use Rattle.std.proofs.Common.{◌%◌, sym, arith}
use Rattle.rules.specs.Sizes.{v_sets, v_ways}
use Rattle.rules.specs.Cache.{hits, line_at}
use Rattle.caches.proofs.First.{first_more}
use Rattle.caches.proofs.Search.{line_found, line_missed}
use Rattle.caches.proofs.find.find_line.Goals as goal

pub loop-way-preserved : goal.loop-way-preserved
unfolding v_sets
loop-way-preserved c =
    first_more c.loop-way.way (λ k. hits c.args.block.0 (line_at c.args.p.now (c.from-set.result % v_sets) k)) c.loop-way.invariant (sym c.if-is_hit.ensures)

pub returns-then-is_hit : goal.returns-then-is_hit
unfolding v_sets v_ways
returns-then-is_hit c =
    record {
      way = line_found c.args.p.now c.args.block.0 c.from-set.result c.loop-way.way c.from-set.ensures c.loop-way-test.true c.loop-way.invariant c.if-is_hit.ensures;
      within = c.loop-way-test.true;
    }

pub returns : goal.returns
unfolding v_sets v_ways
returns c =
    record {
      way = line_missed c.args.p.now c.args.block.0 c.from-set.result c.loop-way.way c.from-set.ensures (omega arith) c.loop-way.invariant;
      within = tt;
    }
