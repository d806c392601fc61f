use Rattle.std.proofs.Common.{◌%◌, sym, arith}
use Rattle.rules.specs.Sizes.{r_sets, r_ways}
use Rattle.rules.specs.Cache.{holds, entry_at}
use Rattle.caches.proofs.First.{first_more}
use Rattle.caches.proofs.Search.{entry_found, entry_missed}
use Rattle.caches.proofs.find.find_entry.Goals as goal

pub loop-way-preserved : goal.loop-way-preserved
unfolding r_sets
loop-way-preserved c =
    first_more c.loop-way.way (λ k. holds c.args.block.0 (entry_at c.args.p.now (c.from-set.result % r_sets) k)) c.loop-way.invariant (sym c.if-is_holder.ensures)

pub returns-then-is_holder : goal.returns-then-is_holder
unfolding r_sets r_ways
returns-then-is_holder c =
    record {
      way = entry_found c.args.p.now c.args.block.0 c.from-set.result c.loop-way.way c.from-set.ensures c.loop-way-test.true c.loop-way.invariant c.if-is_holder.ensures;
      within = c.loop-way-test.true;
    }

pub returns : goal.returns
unfolding r_sets r_ways
returns c =
    record {
      way = entry_missed c.args.p.now c.args.block.0 c.from-set.result c.loop-way.way c.from-set.ensures (omega arith) c.loop-way.invariant;
      within = tt;
    }
