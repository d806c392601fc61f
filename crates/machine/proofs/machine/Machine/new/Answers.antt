use Rattle.std.proofs.Common.{refl}
use Rattle.machine.proofs.Beginning.{fresh_board, fresh_past}
use Rattle.machine.proofs.machine.Machine.new.Goals as goal

pub returns : goal.returns
returns g c = record {
  board = fresh_board g.M.Map g.S.Memory g.V.Rule g.R.Rule c.args.map c.args.memory c.args.v_rule c.args.r_rule c.args.processors c.args.number c.count_blocks.result c.new_processors-records.result c.setup_fault-setup.result
      c.setup_fault-setup.ensures c.new_processors-records.ensures c.count_blocks.ensures;
  parts = (refl, refl, refl, refl);
  past = fresh_past g.M.Map g.S.Memory g.V.Rule g.R.Rule c.args.map c.args.memory c.args.v_rule c.args.r_rule c.args.processors c.args.number c.count_blocks.result c.new_processors-records.result c.setup_fault-setup.result
      c.setup_fault-setup.ensures c.new_processors-records.ensures c.count_blocks.ensures g.met.S.Memory.four;
}
