-- A run of a trace's records, one by one.
use Rattle.std.proofs.Common.{◌≡◌, ℕ, zero, suc, ◌+◌, ◌<◌, ◌≤◌, Bool, true, false, List, [], ◌∷◌, ◌++◌, length, Some, None, Ok, Err, Option, Result, sym, refl, ap, ◌∙◌, append_assoc, arith}
use Rattle.std.proofs.lemmas.List.{append-nil}
use Rattle.base.specs.Sizes.{block_words}
use Rattle.memory.specs.declared.memory.Memory as memories
use Rattle.paging.specs.declared.map.Map as maps
use Rattle.replacement.specs.declared.rule.Rule as replacements
use Rattle.records.specs.declared.fault.FormatFault.{FormatFault}
use Rattle.records.specs.declared.record.Record.{Record}
use Rattle.records.specs.declared.record.Record.TheVariants.{Read, Write, Switch, Enter, Erase, DeviceRead, DeviceWrite}
use Rattle.records.specs.Records.{decoded}
use Rattle.records.specs.Traces.{Trace, carried, told, trace_from}
use Rattle.lines.specs.declared.line.Line.{Line}
use Rattle.lines.specs.Lines.{line_bytes}
use Rattle.faults.specs.MachineFaults.{fault_number, machine_numbered}
use Rattle.faults.specs.TraceFaults.{trace_number}
use Rattle.faults.specs.declared.trace_fault.TraceFault.{TraceFault}
use Rattle.rules.specs.Calls.{Answer, Board, Ref, Rules, Step, device_number, device_read_by, device_write_by, make_ref, nothing, ref_number, refer, remap_by, remap_number, switch_by, switch_number, take, take_bus, take_number}
use Rattle.rules.specs.History.{History, Setup}
use Rattle.rules.specs.Listing.{word_at, fault_line, line_of, lines_from, listing_bytes, played, transfer_by, transferred}
use Rattle.machine.specs.State.{HasPast, board, rules_of}
use Rattle.machine.specs.declared.machine.Machine.{Machine}
use Rattle.listing.specs.Played.{Lists, Plays, line_for, record_events, record_fault}
use Rattle.listing.specs.Listed.{Going, items_listed}

-- a refused record answers nothing
refer_nothing : (n k : ℕ) (rs : Rules) (st : Board) (r : Ref) → n ≡ suc k → (refer n rs st r).answer ≡ nothing
refer_nothing zero k rs st r e = absurd (omega arith)
refer_nothing (suc n) k rs st r e = refl

refer_number : (n : ℕ) (rs : Rules) (st : Board) (r : Ref) → (refer n rs st r).number ≡ n
refer_number zero rs st r = go r.value
  where
    go : (v : Option ℕ) → (Rattle.rules.specs.Calls.completed v r (Rattle.rules.specs.Calls.reach rs st r)).number ≡ 0
    go None = refl
    go (Some x) = refl
refer_number (suc n) rs st r = refl

switch_nothing : (n i q : ℕ) (st : Board) → (switch_by n st i q).answer ≡ nothing
switch_nothing zero i q st = refl
switch_nothing (suc n) i q st = refl

remap_nothing : (n q g : ℕ) (f : Option ℕ) (st : Board) → (remap_by n st q g f).answer ≡ nothing
remap_nothing zero q g f st = refl
remap_nothing (suc n) q g f st = refl

take_nothing : (n : ℕ) (st : Board) → (take_bus n st).answer ≡ nothing
take_nothing zero st = refl
take_nothing (suc n) st = refl

device_read_nothing : (n k b : ℕ) (st : Board) → (device_read_by n st b).number ≡ suc k → (device_read_by n st b).answer ≡ nothing
device_read_nothing zero k b st e = absurd (omega arith)
device_read_nothing (suc n) k b st e = refl

device_write_nothing : (n k b : ℕ) (ws : List ℕ) (st : Board) → (device_write_by n st b ws).number ≡ suc k → (device_write_by n st b ws).answer ≡ nothing
device_write_nothing zero k b ws st e = absurd (omega arith)
device_write_nothing (suc n) k b ws st e = refl

moved_nothing : (f : Board → Step) (k : ℕ) (st : Board) → ((b : Board) → (f b).number ≡ suc k → (f b).answer ≡ nothing) → (transferred f st).number ≡ suc k → (transferred f st).answer ≡ nothing
moved_nothing f k st h e = go (take st).number e
  where
    go : (n : ℕ) → (transfer_by n f (take st)).number ≡ suc k → (transfer_by n f (take st)).answer ≡ nothing
    go zero q = h (take st).after q
    go (suc n) q = take_nothing (take_number st) st

pub played_nothing : (rs : Rules) (r : Record) (st : Board) (k : ℕ) → (played rs r st).number ≡ suc k → (played rs r st).answer ≡ nothing
played_nothing rs (Read i a) st k e = let r = make_ref i.0 a None in let n = ref_number st i.0 a r in refer_nothing n k rs st r (sym (refer_number n rs st r) ∙ e)
played_nothing rs (Write i a x) st k e = let r = make_ref i.0 a (Some x) in let n = ref_number st i.0 a r in refer_nothing n k rs st r (sym (refer_number n rs st r) ∙ e)
played_nothing rs (Switch i q) st k e = switch_nothing (switch_number st i.0 q.0) i.0 q.0 st
played_nothing rs (Enter q g f) st k e = remap_nothing (remap_number st q.0 g.0 f.0) q.0 g.0 (Some f.0) st
played_nothing rs (Erase q g) st k e = remap_nothing (remap_number st q.0 g.0 0) q.0 g.0 None st
played_nothing rs (DeviceRead b) st k e = moved_nothing _ k st (λ s. device_read_nothing (device_number s s.number b.0 block_words) k b.0 s) e
played_nothing rs (DeviceWrite b ws) st k e = moved_nothing _ k st (λ s. device_write_nothing (device_number s s.number b.0 (length ws)) k b.0 ws s) e

-- so the line of a run record is the rules', refused or not: no fault has the number 0
positive : (n : ℕ) → 0 < n → (k : ℕ) × (n ≡ suc k)
positive zero h = absurd (omega arith)
positive (suc k) h = (k, refl)

pub line_is : (rs : Rules) (r : Record) (st : Board) (n : ℕ) (q : Result Line TraceFault) → Lists n r q (played rs r st) → line_for n q ≡ line_of n (played rs r st)
line_is rs r st n (Ok l) h = h.1
line_is rs r st n (Err e) h =
    let d = played rs r st in
    let p = positive (fault_number (record_fault r d.number)) (machine_numbered (record_fault r d.number)).0 in
    let z : d.number ≡ suc p.0 = sym h.1 ∙ ap trace_number h.0 ∙ p.1 in
    let a : d.answer ≡ nothing = played_nothing rs r st p.0 z in
    λ j. record { «record» = n; status = h.1 j; level = (sym a j).level; word = (sym a j).word; messages = word_at (sym a j).sent 0 ∷ word_at (sym a j).sent 1 ∷ [] }

-- what an iterator over records tells of a trace is listed as the trace
told_listed : (rs : Rules) (n : ℕ) (st : Board) (records : List Record) (f : Option FormatFault) → items_listed rs st (told n (record { records = records; fault = f })) ≡ listing_bytes (lines_from rs n st records f)
told_listed rs n st [] None = refl
told_listed rs n st [] (Some e) = refl
told_listed rs n st (r ∷ more) f = ap (λ (z : List ℕ). line_bytes (line_of n (played rs r st)) ++ z) (told_listed rs (n + 1) (played rs r st).after more f)

pub trace_listed : (rs : Rules) (st : Board) (t : Trace) → items_listed rs st (told 0 t) ≡ listing_bytes (lines_from rs 0 st t.records t.fault)
trace_listed rs st t = told_listed rs 0 st t.records t.fault

-- there are no more items than words, and one
more_told : (k n : ℕ) (loose : Bool) (d : Result (Record × List ℕ) FormatFault) → ((rest : List ℕ) → length (told (n + 1) (trace_from k (n + 1) loose rest)) ≤ k + 1)
    → length (told n (carried d (λ rest. trace_from k (n + 1) loose rest))) ≤ k + 2
more_told k n loose (Ok p) h = let l = h p.1 in omega arith
more_told k n loose (Err e) h = omega arith

told_few : (k n : ℕ) (loose : Bool) (ws : List ℕ) → length (told n (trace_from k n loose ws)) ≤ k + 1
told_few zero n true ws = omega arith
told_few zero n false ws = omega arith
told_few (suc k) n true [] = omega arith
told_few (suc k) n false [] = omega arith
told_few (suc k) n loose (w ∷ ws) = let l = more_told k n loose (decoded n (w ∷ ws)) (told_few k (n + 1) loose) in omega arith

pub items_few : (loose : Bool) (ws : List ℕ) → length (told 0 (trace_from (length ws) 0 loose ws)) ≤ length ws + 1
items_few loose ws = told_few (length ws) 0 loose ws

abbrev pub Items : Type 0
Items = List (Result (ℕ × Record) FormatFault)

module _ {M S V R : Type 0} (m : maps.Ghosts M) (s : memories.Ghosts S) (v : replacements.Ghosts V) (u : replacements.Ghosts R) (x₀ : Machine M S V R) (c : Setup) (out₀ : List ℕ) (items : Items) where
  -- one record more
  pub goes_on : (x y : Machine M S V R) (out out' : List ℕ) (n : ℕ) (r : Record) (left : Items) (line : Line) (q : Result Line TraceFault) → Plays m s v u r x y (Lists n r q) → line ≡ line_for n q → out' ≡ out ++ line_bytes line
      → Going m s v u x₀ x c out₀ items out (Ok (n, r) ∷ left) → Going m s v u x₀ y c out₀ items out' left
  goes_on x y out out' n r left line q P el eo G =
      let D = P c G.history G.past in
      let st = board m s v u x in
      let rs = rules_of m s v u x₀ in
      let d = played rs r st in
      let same : played (rules_of m s v u x) r st ≡ d = ap (λ (z : Rules). played z r st) G.rules in
      let is : line ≡ line_of n d = el ∙ line_is (rules_of m s v u x) r st n q D.told ∙ ap (line_of n) same in
      let after : board m s v u y ≡ d.after = D.after ∙ ap (λ (z : Step). z.after) same in
      record {
        history = record_events (rules_of m s v u x) r st ++ G.history;
        past = D.past;
        rules = D.rules ∙ G.rules;
        listed = (λ j. (eo ∙ ap (λ (z : Line). out ++ line_bytes z) is) j ++ items_listed rs (after j) left) ∙ append_assoc out (line_bytes (line_of n d)) (items_listed rs d.after left) ∙ G.listed;
      }

  -- a fault is told
  pub stops_at : (x : Machine M S V R) (out out' : List ℕ) (f : FormatFault) (left : Items) (line : Line) → line ≡ fault_line f → out' ≡ out ++ line_bytes line
      → Going m s v u x₀ x c out₀ items out (Err f ∷ left) → Going m s v u x₀ x c out₀ items out' left
  stops_at x out out' f left line el eo G =
      let rs = rules_of m s v u x₀ in
      record {
        history = G.history;
        past = G.past;
        rules = G.rules;
        listed = (λ j. (eo ∙ ap (λ (z : Line). out ++ line_bytes z) el) j ++ items_listed rs (board m s v u x) left) ∙ append_assoc out (line_bytes (fault_line f)) (items_listed rs (board m s v u x) left) ∙ G.listed;
      }

  -- nothing is left
  pub ends : (x : Machine M S V R) (out : List ℕ) → Going m s v u x₀ x c out₀ items out [] → out ≡ out₀ ++ items_listed (rules_of m s v u x₀) (board m s v u x₀) items
  ends x out G = sym (append-nil out) ∙ G.listed
