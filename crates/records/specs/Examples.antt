-- Worked examples: what texts of bytes hit and miss, where texts are refused, spans at the limit, and formats that outrank others.
use Rattle.std.specs.Prelude.{◌≡◌, ℕ, Bool, true, false, List, [], ◌∷◌, map, Some, Ok, Err, codes, Result}
use Rattle.std.specs.FinMap as map
use Rattle.faults.specs.declared.fault.Cause.{Cause}
use Rattle.faults.specs.declared.fault.Cause.TheVariants.{Grammar, Limit, NoLiteral}
use Rattle.kinds.specs.Bytes.{byte_alphabet}
use Rattle.patterns.specs.Fragments.{bodies}
use Rattle.patterns.specs.Patterns.{hits, literal, gap}
use Rattle.patterns.specs.Sequences.{outcome}
use Rattle.patterns.specs.declared.reference.Reference.{Reference}
use Rattle.patterns.specs.declared.reference.Reference.TheVariants.{Front, Back, Anywhere}
use Rattle.records.specs.Book.{Book}
use Rattle.records.specs.Entries.{Entry, signature, format, body_of}
use Rattle.records.specs.Report.{report}
use Rattle.records.specs.declared.report.Hit.{Hit}

-- whether a text of bytes, within its offsets, hits a reading; or the cause and the place of its refusal
abbrev pub answer : Reference → List ℕ → List ℕ → Result Bool (Cause × ℕ)
answer r text xs = elim (outcome byte_alphabet text) [ Ok qs ↦ Ok (hits r (bodies qs) xs) | Err c ↦ Err c ]

-- a signature of one text, anywhere
abbrev pub signature_of_text : ℕ → List ℕ → Entry
signature_of_text id text =
    signature (record { id = id; specific = true; sequences = record { reference = Anywhere; text = text } ∷ [] })

-- a format that names the signature of its id, and outranks some formats
abbrev pub format_over : ℕ → List ℕ → Entry
format_over id outranked =
    format (record { id = id; name = []; signatures = id ∷ []; outranked = outranked; labels = [] })

-- the bodies of three signatures, of 41, 43 and 45
abbrev pub three_signatures : List (ℕ × List ℕ)
three_signatures =
    (1, body_of (signature_of_text 1 (codes "41"))) ∷ (3, body_of (signature_of_text 3 (codes "43"))) ∷ (5, body_of (signature_of_text 5 (codes "45"))) ∷ []

-- the bodies of three formats, of which 5 outranks 3, and 3 outranks 1
abbrev pub three_formats : List (ℕ × List ℕ)
three_formats =
    (1, body_of (format_over 1 [])) ∷ (3, body_of (format_over 3 (1 ∷ []))) ∷ (5, body_of (format_over 5 (3 ∷ []))) ∷ []

abbrev pub three_ranks : Book
three_ranks = record { signatures = map.from_sorted three_signatures; formats = map.from_sorted three_formats }

-- the ids of the report on a reading
abbrev pub reported : List ℕ → List ℕ
reported xs = map (λ (h : Hit). h.id) (report byte_alphabet three_ranks xs []).hits

-- The theorem: the examples, all together.
pub record Examples : Type 0 where
  -- the longer run of a group must not be kept where only the shorter leads on
  pub shorter_run : answer Anywhere (codes "41(41424242|42)*4242") (0x41 ∷ 0x41 ∷ 0x42 ∷ 0x42 ∷ 0x42 ∷ []) ≡ Ok true
  -- the first fit of 42 must not be kept where only the second leads on
  pub second_fit : answer (Front 0 0) (codes "41{0-3}42{0-1}43") (0x41 ∷ 0x42 ∷ 0 ∷ 0x42 ∷ 0x43 ∷ []) ≡ Ok true
  pub no_fit : answer (Front 0 0) (codes "41{0-3}42{0-1}43") (0x41 ∷ 0x42 ∷ 0 ∷ 0 ∷ 0x43 ∷ []) ≡ Ok false
  -- offsets from the front
  pub two_before : answer (Front 1 2) (codes "4142") (0 ∷ 0 ∷ 0x41 ∷ 0x42 ∷ []) ≡ Ok true
  pub three_before : answer (Front 1 2) (codes "4142") (0 ∷ 0 ∷ 0 ∷ 0x41 ∷ 0x42 ∷ []) ≡ Ok false
  -- and from the back
  pub none_behind : answer (Back 0 0) (codes "4142") (0x41 ∷ 0x42 ∷ []) ≡ Ok true
  pub one_behind : answer (Back 0 0) (codes "4142") (0x41 ∷ 0x42 ∷ 0 ∷ []) ≡ Ok false
  -- ranges compare runs, not element by element
  pub run_between : answer Anywhere (codes "43[4180:4210]") (0x43 ∷ 0x42 ∷ 0x05 ∷ []) ≡ Ok true
  pub run_before : answer Anywhere (codes "43[4180:4210]") (0x43 ∷ 0x41 ∷ 0x7F ∷ []) ≡ Ok false
  -- neighbouring gaps add up
  pub two_between : answer Anywhere (codes "41*{2}42") (0x41 ∷ 0 ∷ 0 ∷ 0x42 ∷ []) ≡ Ok true
  pub none_between : answer Anywhere (codes "41*{2}42") (0x41 ∷ 0x42 ∷ []) ≡ Ok false
  -- texts that are refused
  pub ends_with_a_gap : outcome byte_alphabet (codes "41*") ≡ Err (Grammar, 3)
  pub half_a_literal : outcome byte_alphabet (codes "4{") ≡ Err (Grammar, 1)
  pub gap_from_more_to_less : outcome byte_alphabet (codes "41{5-4}42") ≡ Err (Limit, 2)
  pub no_literal : outcome byte_alphabet (codes "??") ≡ Err (NoLiteral, 0)
  -- a span of 1,024 is within the limit, one of 1,025 beyond it
  pub span_at_the_limit : outcome byte_alphabet (codes "41{1022}42")
      ≡ Ok (record { place = 0; item = literal 0x41 } ∷ record { place = 2; item = gap 1022 (Some 1022) } ∷ record { place = 8; item = literal 0x42 } ∷ [])
  pub span_beyond_the_limit : outcome byte_alphabet (codes "41{1023}42") ≡ Err (Limit, 0)
  -- if all three formats hit, the highest is reported; if the middle one does not, the other two are
  pub all_three_hit : reported (0x41 ∷ 0x43 ∷ 0x45 ∷ []) ≡ 5 ∷ []
  pub two_hit : reported (0x41 ∷ 0x45 ∷ []) ≡ 1 ∷ 5 ∷ []
