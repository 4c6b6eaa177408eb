-- The reader reads every text of the grammar, as the items that the text says.
use Rattle.std.proofs.Common.{◌≡◌, ℕ, suc, ◌+◌, ◌-◌, ◌*◌, ◌<◌, ◌≤◌, Bool, true, false, ltb, List, [], ◌∷◌, ◌++◌, length, Some, None, Ok, codes, Option, sym, refl, ap, ◌∙◌, subst, inl, inr, append_assoc, append-nil, arith, length-append}
use Rattle.std.proofs.lemmas.Bool.{lt-ltb}
use Rattle.kinds.specs.Alphabet.{Alphabet, Lawful}
use Rattle.patterns.specs.Grammar.{Placed, Position, start, gap_allowed, allowed, behind, Ordered, Digits, followed_by, Number, Gap, Literal, Literals, Run, Alternatives, Range, Says, SaysAll}
use Rattle.patterns.specs.Patterns.{Item, literal, any, group, range, other, gap}
use Rattle.patterns.specs.Reader.{State, between, alternatives, bracket, low, high, digits, Numeral, least, most, in_front, follow, ReadsExactly}
use Rattle.patterns.specs.declared.direction.Direction.TheVariants.{FirstOn}
use Rattle.patterns.proofs.Texts.{pair_leads}
use Rattle.patterns.proofs.Steps
use Rattle.patterns.proofs.Steps.{Takes, takes_pair}
use Rattle.patterns.proofs.Follows.{Reads, ends, more, follow_reads}
use Rattle.patterns.proofs.Sound.{sound}

module _ {E : Type 0} (a : Alphabet E) (law : Lawful a) where
  -- a pair that leads from one state to another
  pub pair_read : (s s' : State) (f c : ℕ) (x : E) (t : List ℕ) (i : Item) → takes_pair s ≡ true → a.named f c ≡ Some x → Takes s (a.code x) s'
      → Reads a s' t i → Reads a s (f ∷ c ∷ t) i
  pair_read s s' f c x t i y named takes r = more (Steps.first s f y (pair_leads a law f c x named)) (more (Steps.second s s' f c x named takes) r)

  -- a literal that leads from one state to another
  literal_read : (s s' : State) (c : ℕ) (said t : List ℕ) (i : Item) → takes_pair s ≡ true → Takes s c s' → Literal a c said → Reads a s' t i → Reads a s (said ++ t) i
  literal_read s s' c said t i y takes (f, d, x, named, same, e) r =
      rw e (pair_read s s' f d x t i y named (subst (λ z. Takes s z s') same takes) r)

  -- literals, in a state that gathers a run
  literals_read : (gather : List ℕ → State) → ((run : List ℕ) → takes_pair (gather run) ≡ true) → ((run : List ℕ) (c : ℕ) → Takes (gather run) c (gather (run ++ c ∷ [])))
      → (cs run said t : List ℕ) (i : Item) → Literals a cs said → Reads a (gather (run ++ cs)) t i → Reads a (gather run) (said ++ t) i
  literals_read gather y takes [] run said t i e r = rw e (rw append-nil at r)
  literals_read gather y takes (c ∷ cs) run said t i (front, rest, cut, one, says) r =
      let gathered = subst (λ l. Reads a (gather l) t i) (sym (append_assoc run (c ∷ []) cs)) r in
      let later = literals_read gather y takes cs (run ++ c ∷ []) rest t i says gathered in
      rw (cut, append_assoc) (literal_read (gather run) (gather (run ++ c ∷ [])) c front (rest ++ t) i (y run) (takes run c) one later)

  -- literals of a run in a group, and in the two places of a range
  group_literals : (runs : List (List ℕ)) (cs said t : List ℕ) (i : Item) → Literals a cs said → Reads a (alternatives runs cs) t i → Reads a (alternatives runs []) (said ++ t) i
  group_literals runs cs = literals_read (alternatives runs) (λ run. refl) (Steps.in_group runs) cs []

  low_literals : (inside : Bool) (cs run said t : List ℕ) (i : Item) → Literals a cs said → Reads a (low inside (run ++ cs)) t i → Reads a (low inside run) (said ++ t) i
  low_literals inside = literals_read (low inside) (λ run. refl) (Steps.in_low inside)

  high_literals : (inside : Bool) (lower cs said t : List ℕ) (i : Item) → Literals a cs said → Reads a (high inside lower cs) t i → Reads a (high inside lower []) (said ++ t) i
  high_literals inside lower cs = literals_read (high inside lower) (λ run. refl) (Steps.in_high inside lower) cs []

  -- the runs of a group, behind those that were read
  alternatives_read : (read runs : List (List ℕ)) (inner : List ℕ) → Alternatives a runs inner → 2 ≤ length (read ++ runs)
      → Reads a (alternatives read []) (inner ++ codes ")") (group (read ++ runs))
  alternatives_read read [] inner h two = absurd h
  alternatives_read read (run ∷ []) inner (long, says) two =
      let before : 0 < length read = omega (arith, length-append read (run ∷ [])) in
      group_literals read run inner (codes ")") (group (read ++ run ∷ [])) says (ends (Steps.close_group read run (lt-ltb 0 (length run) long) (lt-ltb 0 (length read) before)))
  alternatives_read read (run ∷ next ∷ runs) inner (front, rest, cut, (long, says), h) two =
      let apart : (read ++ run ∷ []) ++ next ∷ runs ≡ read ++ run ∷ next ∷ runs = append_assoc read (run ∷ []) (next ∷ runs) in
      let two' : 2 ≤ length ((read ++ run ∷ []) ++ next ∷ runs) = rw apart two in
      let later = rw apart at (alternatives_read (read ++ run ∷ []) (next ∷ runs) rest h two') in
      let whole : inner ++ codes ")" ≡ front ++ (codes "|" ++ (rest ++ codes ")")) = ap (λ l. l ++ codes ")") cut ∙ append_assoc front (codes "|" ++ rest) (codes ")") in
      rw whole (group_literals read run front (codes "|" ++ (rest ++ codes ")")) (group (read ++ run ∷ next ∷ runs)) says (more (Steps.bar read run (lt-ltb 0 (length run) long)) later))

  -- a range from its colon on
  colon_read : (inside : Bool) (lower upper said : List ℕ) → 0 < length lower → Run a upper said → Reads a (low inside lower) (codes ":" ++ (said ++ codes "]")) (range FirstOn inside lower upper)
  colon_read inside lower upper said long (long', says) =
      more (Steps.colon inside lower (lt-ltb 0 (length lower) long))
      (high_literals inside lower upper said (codes "]") (range FirstOn inside lower upper) says (ends (Steps.close_high inside lower upper (lt-ltb 0 (length upper) long'))))

  -- the first run of a range, behind its bracket
  bracket_read : (run said t : List ℕ) (i : Item) → Run a run said → Reads a (low true run) t i → Reads a bracket (said ++ t) i
  bracket_read [] said t i (long, says) r = absurd (omega arith)
  bracket_read (c ∷ cs) said t i (long, (front, rest, cut, one, says)) r =
      rw (cut, append_assoc) (literal_read bracket (low true (c ∷ [])) c front (rest ++ t) i refl (Steps.in_bracket c) one (low_literals true cs (c ∷ []) rest t i says r))

  -- a range in brackets
  range_read : (p : Position) (inside : Bool) (lower upper t : List ℕ) → Range a inside lower upper t → Reads a (between p) t (range FirstOn inside lower upper)
  range_read p true lower upper t (inner, e, (front, rest, cut, h, h')) =
      let whole : t ≡ codes "[" ++ (front ++ (codes ":" ++ (rest ++ codes "]"))) = e ∙ ap (λ l. 91 ∷ l) (ap (λ l. l ++ codes "]") cut ∙ append_assoc front (codes ":" ++ rest) (codes "]")) in
      rw whole (more (Steps.open_bracket p) (bracket_read lower front (codes ":" ++ (rest ++ codes "]")) (range FirstOn true lower upper) h (colon_read true lower upper rest h.0 h')))
  range_read p false lower upper t (inner, e, (front, rest, cut, h, h')) =
      let whole : t ≡ codes "[!" ++ (front ++ (codes ":" ++ (rest ++ codes "]"))) = e ∙ ap (λ l. 91 ∷ 33 ∷ l) (ap (λ l. l ++ codes "]") cut ∙ append_assoc front (codes ":" ++ rest) (codes "]")) in
      rw whole (more (Steps.open_bracket p) (more Steps.exclude
      (low_literals false lower [] front (codes ":" ++ (rest ++ codes "]")) (range FirstOn false lower upper) h.1 (colon_read false lower upper rest h.0 h'))))

  -- what one run leaves out
  other_read : (p : Position) (run inner : List ℕ) → Run a run inner → Reads a (between p) (codes "[!" ++ (inner ++ codes "]")) (other run)
  other_read p run inner (long, says) =
      more (Steps.open_bracket p) (more Steps.exclude (low_literals false run [] inner (codes "]") (other run) says (ends (Steps.close_low run (lt-ltb 0 (length run) long)))))

  -- the digits of a number, with k of them read
  digits_read : (n : Numeral) (ds : List ℕ) (k v m : ℕ) (t : List ℕ) (i : Item) → Digits ds → k + length ds ≡ m → m ≤ 4
      → Reads a (digits n m (followed_by v ds)) t i → Reads a (digits n k v) (ds ++ t) i
  digits_read n [] k v m t i are e short r = let same : m ≡ k = omega arith in rw same at r
  digits_read n (d ∷ ds) k v m t i are e short r =
      more (Steps.digit n k v d are.0 (lt-ltb k 4 (omega arith))) (digits_read n ds (suc k) (10 * v + (d - 48)) m t i are.1 (omega arith) short r)

  -- a whole number, and what follows it however many digits it has
  number_read : (n : Numeral) (v : ℕ) (ds t : List ℕ) (i : Item) → Number v ds → ((k : ℕ) → ltb 0 k ≡ true → Reads a (digits n k v) t i) → Reads a (digits n 0 0) (ds ++ t) i
  number_read n v ds t i (long, short, are, same) r =
      digits_read n ds 0 0 (length ds) t i are (omega arith) short (rw same at (r (length ds) (lt-ltb 0 (length ds) long)))

  -- a gap in any of its forms
  gap_read : (p : Position) (lower : ℕ) (upper : Option ℕ) (t : List ℕ) → gap_allowed p ≡ true → Gap lower upper t → Reads a (between p) t (gap lower upper)
  gap_read p lower None t g (inl (same, e)) = rw (same, e) (ends (Steps.star p g))
  gap_read p lower None t g (inr (m, e, number)) =
      rw e (more (Steps.open_brace p g) (number_read least lower m (codes "-*}") (gap lower None) number (λ k l.
      more (Steps.dash k lower l) (more (Steps.unbounded lower 0) (ends (Steps.close_endless lower))))))
  gap_read p lower (Some upper) t g (inl (n, e, number, same)) =
      rw (same, e) (more (Steps.open_brace p g) (number_read least lower n (codes "}") (gap lower (Some lower)) number (λ k l. ends (Steps.close_gap least k lower l))))
  gap_read p lower (Some upper) t g (inr (m, n, e, number, number')) =
      rw e (more (Steps.open_brace p g) (number_read least lower m (codes "-" ++ (n ++ codes "}")) (gap lower (Some upper)) number (λ k l.
      more (Steps.dash k lower l) (number_read (most lower) upper n (codes "}") (gap lower (Some upper)) number' (λ k l. ends (Steps.close_gap (most lower) k upper l))))))

  -- what says an item is read as that item
  item_read : (p : Position) (i : Item) (t : List ℕ) → allowed p i ≡ true → Says a i t → Reads a (between p) t i
  item_read p (literal c) t ok (f, d, x, named, same, e) =
      rw (same, e) (more (Steps.first (between p) f refl (pair_leads a law f d x named)) (ends (Steps.pair p f d x named)))
  item_read p any t ok e = rw e (more (Steps.ask p) (ends Steps.asked_twice))
  item_read p (group runs) t ok (inner, e, two, h) = rw e (more (Steps.open_group p) (alternatives_read [] runs inner h two))
  item_read p (range d inside lower upper) t ok (same, h) = rw same (range_read p inside lower upper t h)
  item_read p (other run) t ok (inner, e, h) = rw e (other_read p run inner h)
  item_read p (gap lower upper) t ok h = gap_read p lower upper t ok h

  -- the reader reads items that are in order and that a text says
  follow_whole : (qs : List Placed) (p : Position) (place : ℕ) (t : List ℕ) → Ordered p qs → SaysAll a place qs t → follow a (between p) place place t ≡ Ok qs
  follow_whole [] p place t o e = rw (e, o) refl
  follow_whole (q ∷ qs) p place t (ok, o) (front, rest, cut, at, says, later) =
      ap (follow a (between p) place place) cut
      ∙ follow_reads a law (item_read p q.item front ok says) place place rest
      ∙ ap (in_front a (record { place = place; item = q.item })) (follow_whole qs (behind q.item) (place + length front) rest o later)
      ∙ ap (λ n. Ok (record { place = n; item = q.item } ∷ qs)) (sym at)

  -- The reader reads exactly the texts of the grammar, each in one way.
  pub reads_exactly : ReadsExactly a
  reads_exactly t qs = (sound a t qs, λ h. follow_whole qs start 0 t h.0 h.1)
