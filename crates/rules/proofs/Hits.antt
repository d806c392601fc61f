-- A reference that finds its block in its own processor.
use Rattle.std.proofs.Common.{◌≡◌, ℕ, ◌%◌, ◌<◌, true, false, List, [], length, get_or, set, Some, Option, sym, refl, ap, ◌∙◌, subst, arith}
use borrow.Author.Tests.{clash}
use Rattle.rules.specs.Sizes.{v_sets, r_sets, page_blocks}
use Rattle.tables.specs.declared.types.LineState.{LineState}
use Rattle.tables.specs.declared.types.LineState.TheVariants.{Empty, Valid, Swapped}
use Rattle.tables.specs.declared.types.EntryState.TheVariants.{Private}
use Rattle.tables.specs.declared.types.Child.{Child}
use Rattle.tables.specs.declared.types.Child.TheVariants.{NoChild, At}
use Rattle.tables.specs.declared.types.Place.{Place}
use Rattle.tables.specs.declared.types.VLine.{VLine}
use Rattle.tables.specs.declared.types.Processor.{Processor}
use Rattle.rules.specs.Rule.{Lawful}
use Rattle.rules.specs.Cache.{line_at, entry_at, is_valid, is_empty, v_find, r_find, v_used}
use Rattle.rules.specs.Bus.{Blocks, proc_at}
use Rattle.rules.specs.Calls.{Board, Rules, Ref, Reached, Attached, cpu_at, put_cpu, upgrade_by, needs_upgrade, is_write, v_hit, r_hit, attach, physical}
use Rattle.rules.specs.Invariant.{Present}
use Rattle.rules.specs.Sound.{ProcOk, InvOf, translate}
use Rattle.rules.proofs.Ops.{rplace_present}
use Rattle.rules.proofs.Whole.{inv_same, same_refl, put_same, Runs, runs_set}
use Rattle.rules.proofs.Seek.{v_found, r_found}
use Rattle.rules.proofs.Attach.{ok_tables, AttachOk, attach_fill, attach_at}
use Rattle.rules.proofs.Upgrade.{upgrade_ok}

pub valid_filled : (c : LineState) → is_valid c ≡ true → is_empty c ≡ false
valid_filled Empty e = absurd (clash e)
valid_filled Valid e = refl
valid_filled Swapped e = refl

-- what a reference has come to
pub record ReachOk (f : Blocks) (st : Board) (r : Ref) (a : Reached) : Type 0 where
  pub inv : InvOf a.at f
  pub cpus : a.at.cpus ≡ st.cpus
  pub table : a.at.table ≡ st.table
  pub runs : Runs st.procs a.at.procs
  pub valid : is_valid (line_at (cpu_at a.at r.cpu) a.set a.way).state ≡ true
  pub tag : (line_at (cpu_at a.at r.cpu) a.set a.way).tag.0 ≡ r.vb
  pub own : is_write r.value ≡ true → (entry_at (cpu_at a.at r.cpu) (line_at (cpu_at a.at r.cpu) a.set a.way).rplace.set (line_at (cpu_at a.at r.cpu) a.set a.way).rplace.way).state ≡ Private

pub v_hit_ok : (f : Blocks) (rs : Rules) (st : Board) (r : Ref) (w : ℕ) → InvOf st f → r.cpu < st.cpus → v_find (cpu_at st r.cpu) r.vb ≡ Some w → ReachOk f st r (v_hit rs st r w)
v_hit_ok f rs st r w I lt fd =
    let i = r.cpu in
    let s = r.vb % v_sets in
    let p = cpu_at st i in
    let l = line_at p s w in
    let h = l.rplace.set in
    let k = l.rplace.way in
    let hit = v_found p r.vb w fd in
    let T = translate st.table p.process.0 in
    let pr = rplace_present T f p (I.each i lt) s w (valid_filled l.state hit.0) in
    let st₁ = upgrade_by (needs_upgrade r.value (entry_at p h k)) st i h k in
    let c = upgrade_ok f st i h k r.value I lt pr in
    let p₁ = cpu_at st₁ i in
    let p₂ = v_used rs.for_v p₁ s w in
    let lt₁ : i < st₁.cpus = rw c.cpus lt in
    let long : i < length st₁.procs = omega (arith, c.inv.few) in
    let e : proc_at (set st₁.procs i p₂) i ≡ p₂ = put_same st₁.procs i p₂ long in
    let el : line_at (proc_at (set st₁.procs i p₂) i) s w ≡ l = ap (λ (z : Processor). line_at z s w) e ∙ ap (λ (z : List (List VLine)). get_or (get_or z s []) w Rattle.rules.specs.Cache.past_line) c.lines in
    record {
      inv = inv_same st₁.cpus st₁.table f st₁.mem st₁.procs i p₂ lt₁ c.inv (ok_tables (translate st₁.table p₁.process.0) f p₁ p₂ refl refl refl (c.inv.each i lt₁)) (same_refl p₁);
      cpus = c.cpus;
      table = c.table;
      runs = λ j. runs_set st₁.procs i p₂ long refl j ∙ c.runs j;
      valid = ap (λ (z : VLine). is_valid z.state) el ∙ hit.0;
      tag = ap (λ (z : VLine). z.tag.0) el ∙ hit.1;
      own = λ wr. subst (λ (z : VLine). (entry_at (proc_at (set st₁.procs i p₂) i) z.rplace.set z.rplace.way).state ≡ Private) (sym el) (ap (λ (z : Processor). (entry_at z h k).state) e ∙ c.own wr);
    }

module _ (f : Blocks) (rs : Rules) (law : Lawful rs.for_v) (st : Board) (r : Ref) (b k : ℕ) (I : InvOf st f) (lt : r.cpu < st.cpus) (fd : r_find (cpu_at st r.cpu) b ≡ Some k)
    (tr : translate st.table (cpu_at st r.cpu).process.0 r.vb ≡ Some b) (fits : r.vb % v_sets % page_blocks ≡ b % r_sets % page_blocks) where
  abbrev upgraded : Board
  upgraded = upgrade_by (needs_upgrade r.value (entry_at (cpu_at st r.cpu) (b % r_sets) k)) st r.cpu (b % r_sets) k

  abbrev mine : Processor
  mine = cpu_at upgraded r.cpu

  abbrev reached : Attached → Reached
  reached a = record { at = put_cpu upgraded r.cpu a.cpu; set = r.vb % v_sets; way = a.way; level = a.level; sent = Rattle.rules.specs.Calls.upgrade_sent (needs_upgrade r.value (entry_at (cpu_at st r.cpu) (b % r_sets) k)) st r.cpu (b % r_sets) k }

  done : (a : Attached) → ((T : ℕ → Option ℕ) → ProcOk T f mine → Present (entry_at mine (b % r_sets) k) → T r.vb ≡ Some (entry_at mine (b % r_sets) k).block.0 → (entry_at mine (b % r_sets) k).child ≡ (entry_at (cpu_at st r.cpu) (b % r_sets) k).child
      → AttachOk T f mine r.vb (b % r_sets) k a) → ReachOk f st r (reached a)
  done a la =
      let i = r.cpu in
      let h = b % r_sets in
      let x = r_found (cpu_at st i) b k fd in
      let c = upgrade_ok f st i h k r.value I lt x.0 in
      let lt₁ : i < upgraded.cpus = rw c.cpus lt in
      let long : i < length upgraded.procs = omega (arith, c.inv.few) in
      let T = translate upgraded.table mine.process.0 in
      let tr₁ : T r.vb ≡ Some (entry_at mine h k).block.0 = ap {B = Option ℕ} (λ (t : ℕ → ℕ → Option ℕ). translate t mine.process.0 r.vb) c.table ∙ ap {B = Option ℕ} (λ q. translate st.table q r.vb) (c.runs i) ∙ tr ∙ ap {B = Option ℕ} Some (sym (c.block ∙ x.1)) in
      let d = la T (c.inv.each i lt₁) c.here tr₁ c.child in
      let p₂ = a.cpu in
      let e : proc_at (set upgraded.procs i p₂) i ≡ p₂ = put_same upgraded.procs i p₂ long in
      record {
        inv = inv_same upgraded.cpus upgraded.table f upgraded.mem upgraded.procs i p₂ lt₁ c.inv (subst (λ (z : ℕ). ProcOk (translate upgraded.table z) f p₂) (sym d.process) d.ok) d.same;
        cpus = c.cpus;
        table = c.table;
        runs = λ j. runs_set upgraded.procs i p₂ long d.process j ∙ c.runs j;
        valid = ap (λ (z : Processor). is_valid (line_at z (r.vb % v_sets) a.way).state) e ∙ d.line.valid;
        tag = ap (λ (z : Processor). (line_at z (r.vb % v_sets) a.way).tag.0) e ∙ d.line.tag;
        own = λ wr. subst (λ (z : Processor). (entry_at z (line_at z (r.vb % v_sets) a.way).rplace.set (line_at z (r.vb % v_sets) a.way).rplace.way).state ≡ Private) (sym e)
            (subst (λ (z : Place). (entry_at p₂ z.set z.way).state ≡ Private) (sym d.line.rplace) ((d.same h k).state ∙ c.own wr));
      }

  pub r_hit_ok : ReachOk f st r (r_hit rs st r b k)
  r_hit_ok = go (entry_at (cpu_at st r.cpu) (b % r_sets) k).child refl
    where
      go : (c : Child) → (entry_at (cpu_at st r.cpu) (b % r_sets) k).child ≡ c → ReachOk f st r (reached (attach c rs.for_v rs.for_r mine r.vb b k))
      go NoChild e = done (attach NoChild rs.for_v rs.for_r mine r.vb b k) (λ T O pr tr ch. attach_fill T f rs.for_v rs.for_r law mine O r.vb (b % r_sets) k pr tr fits b refl (ch ∙ e))
      go (At q d) e = done (attach (At q d) rs.for_v rs.for_r mine r.vb b k) (λ T O pr tr ch. attach_at T f rs.for_v rs.for_r law mine O r.vb (b % r_sets) k pr tr fits b q d refl (ch ∙ e))
