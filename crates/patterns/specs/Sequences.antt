-- Sequences: what their texts are refused for, what they hit, and the numbers of their fragments.
use Rattle.std.specs.Prelude.{ℕ, zero, suc, Bool, List, length, Some, None, Ok, Err, Option, Result}
use Rattle.std.specs.List.{slice_get}
use Rattle.std.specs.Option.{option_map}
use Rattle.faults.specs.declared.fault.Cause.{Cause}
use Rattle.faults.specs.declared.fault.Cause.TheVariants.{Grammar}
use Rattle.faults.specs.declared.fault.Fault.{Fault}
use Rattle.kinds.specs.Alphabet.{Alphabet}
use Rattle.patterns.specs.Fragments.{Fragment, fragments, oriented, bodies, anchor, lead, shift}
use Rattle.patterns.specs.Grammar.{Placed}
use Rattle.patterns.specs.Limits.{refusal}
use Rattle.patterns.specs.Patterns.{hits, least_offset, Placement}
use Rattle.patterns.specs.Reader.{items_of}
use Rattle.patterns.specs.declared.reference.Reference.{Reference}
use Rattle.patterns.specs.declared.reference.Reference.TheVariants.{Anywhere}

-- A sequence: where it is looked for, and the items of its text.
pub record Said : Type 0 where
  pub reference : Reference
  pub items : List Placed

-- the items of a text, or the cause and the place of its refusal
abbrev pub outcome : {E : Type 0} → Alphabet E → List ℕ → Result (List Placed) (Cause × ℕ)
outcome a t =
    elim (items_of a t) [
      | Err n ↦ Err (Grammar, n)
      | Ok qs ↦ elim (refusal qs) [ Some c ↦ Err c | None ↦ Ok qs ]
    ]

-- the sequence that a text is compiled to, or the refusal of the text, with the sequence's number
abbrev pub compiled : {E : Type 0} → Alphabet E → ℕ → Reference → List ℕ → Result Said Fault
compiled a number r t =
    elim (outcome a t) [
      | Ok qs ↦ Ok (record { reference = r; items = qs })
      | Err c ↦ Err (record { cause = c.0; sequence = number; place = c.1 })
    ]

-- whether a sequence hits codes: the decision of the rule
abbrev pub hits_in : Said → List ℕ → Bool
hits_in s xs = hits s.reference (bodies s.items) xs

-- a placement of a sequence among codes
abbrev pub PlacementIn : Said → List ℕ → Type 0
PlacementIn s xs = Placement s.reference (bodies s.items) xs

-- the fragments of a sequence, numbered in the order of its search
abbrev pub parts_said : Said → List Fragment
parts_said s = fragments (least_offset s.reference) (oriented s.reference s.items)

-- how many fragments the sequence has that a text is compiled to, wherever it is looked for; or the refusal of the text
abbrev pub counted : {E : Type 0} → Alphabet E → ℕ → List ℕ → Result ℕ Fault
counted a number t =
    elim (compiled a number Anywhere t) [ Ok s ↦ Ok (length (parts_said s)) | Err f ↦ Err f ]

-- break, lead, anchor length and the shift of an index
abbrev pub numbers : Reference → ℕ → Fragment → ℕ × ℕ × ℕ × ℕ
numbers r index f =
    let x = anchor r (bodies f.body) in
    (f.break, lead x, length x.codes, shift x.codes index)

-- those of a fragment by its number, from 1 on, or none where there is no such fragment
abbrev pub shown : Said → ℕ → ℕ → Option (ℕ × ℕ × ℕ × ℕ)
shown s zero index = None
shown s (suc k) index = option_map (numbers s.reference index) (slice_get (parts_said s) k)
