-- The worked examples, by computation.
use Rattle.std.proofs.Common.{◌≡◌, ℕ, List, [], ◌∷◌, map, filter, ap, ◌∙◌, refl}
use Rattle.patterns.specs.Reader.{some_below}
use Rattle.std.specs.List.{filter_map}
use Rattle.kinds.specs.Bytes.{byte_alphabet}
use Rattle.records.specs.Book.{signature_in, format_in, signatures_of, formats_of}
use Rattle.records.specs.Entries.{Signature, Format}
use Rattle.records.specs.Examples.{Examples, three_ranks, three_signatures, three_formats, reported}
use Rattle.records.specs.Reading.{bytes_at, byte_at, word_at, text_at, reference_at, sequence_at, sequences_at, signature_at, ids_from, ids_at, labels_from, labels_at, format_at, signature_of, format_of}
use Rattle.records.specs.Report.{report_by, signature_hits}
use Rattle.records.specs.declared.report.Hit.{Hit}
use Rattle.records.proofs.Books.{values_made}

-- the report of a book, by the lists that stand in it
reported_by : (xs : List ℕ) (ss : List Signature) (fs : List Format) → signatures_of three_ranks ≡ ss → formats_of three_ranks ≡ fs
    → reported xs ≡ map (λ (h : Hit). h.id) (report_by (filter (signature_hits byte_alphabet three_ranks xs) ss) fs []).hits
reported_by xs ss fs p q =
    ap (λ (x : List Signature). map (λ (h : Hit). h.id) (report_by (filter (signature_hits byte_alphabet three_ranks xs) x) (formats_of three_ranks) []).hits) p
    ∙ ap (λ (y : List Format). map (λ (h : Hit). h.id) (report_by (filter (signature_hits byte_alphabet three_ranks xs) ss) y []).hits) q

pub examples : Examples
unfolding some_below bytes_at byte_at word_at text_at reference_at sequence_at sequences_at signature_at ids_from ids_at labels_from labels_at format_at signature_of format_of
examples =
    record {
      shorter_run = refl;
      second_fit = refl;
      no_fit = refl;
      two_before = refl;
      three_before = refl;
      none_behind = refl;
      one_behind = refl;
      run_between = refl;
      run_before = refl;
      two_between = refl;
      none_between = refl;
      ends_with_a_gap = refl;
      half_a_literal = refl;
      gap_from_more_to_less = refl;
      no_literal = refl;
      span_at_the_limit = refl;
      span_beyond_the_limit = refl;
      all_three_hit = reported_by (0x41 ∷ 0x43 ∷ 0x45 ∷ []) _ _ (ap (filter_map signature_in) (values_made three_signatures tt)) (ap (filter_map format_in) (values_made three_formats tt));
      two_hit = reported_by (0x41 ∷ 0x45 ∷ []) _ _ (ap (filter_map signature_in) (values_made three_signatures tt)) (ap (filter_map format_in) (values_made three_formats tt));
    }
