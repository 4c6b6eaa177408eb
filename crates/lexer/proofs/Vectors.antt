-- The tokens of texts of bytes, by computation.
use Rattle.std.proofs.Common.{◌≡◌, false, Some, None, Ok, Err, codes, refl}
use Rattle.kinds.specs.Bytes.{byte_alphabet}
use Rattle.patterns.specs.Grammar.{start, after_thing, after_gap}
use Rattle.patterns.specs.Reader.{some_below}
use Rattle.lexer.specs.Tokens.{literals, any, group, range, other, gap, lexed}

two_literals : lexed byte_alphabet (codes "4142??") start 0 ≡ Ok (Some (literals (record { place = 0; text = codes "4142" })))
unfolding some_below
two_literals = refl

any_element : lexed byte_alphabet (codes "4142??") after_thing 4 ≡ Ok (Some any)
unfolding some_below
any_element = refl

two_runs : lexed byte_alphabet (codes "(41|4243)") start 0 ≡ Ok (Some (group (record { place = 1; text = codes "41|4243" })))
unfolding some_below
two_runs = refl

a_range : lexed byte_alphabet (codes "[!41:42]") start 0 ≡ Ok (Some (range false (record { place = 2; text = codes "41" }) (record { place = 5; text = codes "42" })))
unfolding some_below
a_range = refl

what_is_left_out : lexed byte_alphabet (codes "[!4142]") start 0 ≡ Ok (Some (other (record { place = 2; text = codes "4142" })))
unfolding some_below
what_is_left_out = refl

a_gap : lexed byte_alphabet (codes "41{2-5}42") after_thing 2 ≡ Ok (Some (gap (record { place = 2; text = codes "{2-5}" }) 2 (Some 5)))
unfolding some_below
a_gap = refl

a_gap_first : lexed byte_alphabet (codes "*41") start 0 ≡ Err 0
unfolding some_below
a_gap_first = refl

half_a_pair : lexed byte_alphabet (codes "4{") start 0 ≡ Err 1
unfolding some_below
half_a_pair = refl

one_run : lexed byte_alphabet (codes "(41)") start 0 ≡ Err 3
unfolding some_below
one_run = refl

the_end : lexed byte_alphabet (codes "41") after_thing 2 ≡ Ok None
unfolding some_below
the_end = refl

no_end : lexed byte_alphabet (codes "41*") after_gap 3 ≡ Err 3
unfolding some_below
no_end = refl
