-- The numbers of refusals, and how refusals are written.
use Rattle.std.specs.Prelude.{ℕ, if◌then◌else◌, List, ◌++◌, codes, decimal, ◌==◌}
use Rattle.faults.specs.declared.fault.Cause.{Cause}
use Rattle.faults.specs.declared.fault.Cause.TheVariants.{Field, Taken, Grammar, Limit, NoLiteral, Missing, Named, Full, LongReading, ShortHits, ShortBuffer}
use Rattle.faults.specs.declared.fault.Fault.{Fault}

-- each cause has one number
abbrev pub number : Cause → ℕ
number Field = 1
number Taken = 2
number Grammar = 3
number Limit = 4
number NoLiteral = 5
number Missing = 6
number Named = 7
number Full = 8
number LongReading = 9
number ShortHits = 10
number ShortBuffer = 11

-- and one text
abbrev pub cause_text : Cause → List ℕ
cause_text Field = codes "a field is cut off or not allowed, or bytes follow the last field"
cause_text Taken = codes "the id stands already"
cause_text Grammar = codes "the text is not in the grammar"
cause_text Limit = codes "a gap, a range, the number of fragments or a fragment's span is beyond its limit"
cause_text NoLiteral = codes "a fragment has no literal outside groups and ranges"
cause_text Missing = codes "what is named does not stand"
cause_text Named = codes "the entry is still named by a format"
cause_text Full = codes "there is no room for more"
cause_text LongReading = codes "the reading has too many elements"
cause_text ShortHits = codes "the list of hits is shorter than the report"
cause_text ShortBuffer = codes "the buffer is shorter than what is written"

-- a refusal as a sentence
abbrev pub fault_text : Fault → List ℕ
fault_text f =
    if f.sequence == 0 then codes "refused at " ++ (decimal f.place ++ (codes ": " ++ cause_text f.cause))
    else codes "sequence " ++ (decimal f.sequence ++ (codes " is refused at place " ++ (decimal f.place ++ (codes ": " ++ cause_text f.cause))))

-- a refusal outside a sequence
abbrev pub outside : Cause → ℕ → Fault
outside cause place = record { cause = cause; sequence = 0; place = place }

-- a refusal as the programs write it: the word, the cause's number, the sequence's and the place, a space before each
abbrev pub fault_line : Fault → List ℕ
fault_line f = codes "refused " ++ (decimal (number f.cause) ++ (codes " " ++ (decimal f.sequence ++ (codes " " ++ decimal f.place))))
