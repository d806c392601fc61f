-- What a listing says of its trace, by records and lines alone.
use Rattle.std.specs.Prelude.{◌≡◌, ℕ, zero, suc, ◌%◌, List, [], ◌∷◌, Some}
use Rattle.base.specs.Sizes.{block_words}
use Rattle.lines.specs.declared.line.Line.{Line}
use Rattle.records.specs.declared.record.Record.{Record}
use Rattle.records.specs.declared.record.Record.TheVariants.{Read, Write, Switch, Enter, Erase, DeviceRead, DeviceWrite}
use Rattle.records.specs.Traces.{Trace}
use Rattle.rules.specs.Calls.{Answer}
use Rattle.rules.specs.History.{Event, Read as HadRead, Wrote, Switched, Entered, Erased, DeviceHadRead, DeviceWrote, Nothing, History, Latest, Setup, first_word, physical_block, word_in}
use Rattle.rules.specs.Listing.{lines_of}
use Rattle.rules.specs.Exhibit.{fresh_setup}

-- the answer that a line shows
abbrev pub shown : Line → Answer
shown l = record { level = l.level; word = l.word; block = []; sent = [] }

-- what an accepted record did, as its line shows it
abbrev pub done : Record → Line → Event
done (Read i a) l = HadRead i.0 a (shown l)
done (Write i a x) l = Wrote i.0 a x (shown l)
done (Switch i q) l = Switched i.0 q.0
done (Enter q g f) l = Entered q.0 g.0 f.0
done (Erase q g) l = Erased q.0 g.0
done (DeviceRead b) l = DeviceHadRead b.0 (shown l)
done (DeviceWrite b ws) l = DeviceWrote b.0 ws (shown l)

-- a status that is not 0: nothing
abbrev pub done_by : ℕ → Event → Event
done_by zero e = e
done_by (suc n) e = Nothing

abbrev pub did : Record → Line → Event
did r l = done_by l.status (done r l)

-- Of a record and its line, after the history h of the records and lines before it: an accepted read shows the word of
-- the latest accepted write to its physical word, failing one the word at the set-up s; an accepted device read shows
-- that of its block's first word; an accepted write has a physical word.
abbrev pub Prints : Setup → History → Record → Line → Type 0
Prints s h (Read i a) l = l.status ≡ 0 → (b : ℕ) × (physical_block s h i.0 a ≡ Some b) × Latest s h (word_in b (a % block_words)) l.word
Prints s h (Write i a x) l = l.status ≡ 0 → (b : ℕ) × (physical_block s h i.0 a ≡ Some b)
Prints s h (Switch i q) l = Unit {0}
Prints s h (Enter q g f) l = Unit {0}
Prints s h (Erase q g) l = Unit {0}
Prints s h (DeviceRead b) l = l.status ≡ 0 → Latest s h (word_in b.0 0) l.word
Prints s h (DeviceWrite b ws) l = Unit {0}

-- of all records, each with its line
abbrev pub PrintsLatest : Setup → History → List Record → List Line → Type 0
PrintsLatest s h [] ls = Unit {0}
PrintsLatest s h (r ∷ rs) [] = ⊥
PrintsLatest s h (r ∷ rs) (l ∷ ls) = Prints s h r l × PrintsLatest s (did r l ∷ h) rs ls

-- of every trace's listing; the words at set-up are 0
pub record ListingsPrintLatestWrites : Type 0 where
  pub zeros : (n : ℕ) → first_word fresh_setup n ≡ 0
  pub latest : (t : Trace) → PrintsLatest fresh_setup [] t.records (lines_of t)
