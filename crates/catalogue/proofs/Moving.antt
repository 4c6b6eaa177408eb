-- Sequences that are moved into a table, one after the other.
use Rattle.std.proofs.Common.{◌≡◌, ◌+◌, List, [], ◌∷◌, ◌++◌, map, length, Some, None, Option, refl, sym, ap, ◌∙◌, subst, append_assoc, arith}
use Rattle.std.specs.List.{flat_map, AllByRecursion}
use Rattle.std.proofs.lemmas.List.{length-append}
use Rattle.patterns.specs.Sequences.{Said, parts_said}
use Rattle.engine.specs.Tables.{Slotted, StandsIn, free_slots}
use Rattle.engine.specs.declared.fragment.Fragment.{Fragment}
use Rattle.engine.proofs.Tables.{stands_on}
use Rattle.catalogue.specs.Entering.{fragment_count, MovedIf, MovedAll}
use Rattle.catalogue.specs.Standing.{slots_in, said_in, StandsInIf}

-- one more is moved
pub moved_push : (ss : List (Option Said)) (before between after : List (Option Fragment)) (vs : List (Option Slotted)) (s : Option Said) (v : Option Slotted)
    → MovedAll ss before between vs → MovedIf s between after v → MovedAll (ss ++ s ∷ []) before after (vs ++ v ∷ [])
moved_push [] before between after [] s v m h = (after, subst (λ t. MovedIf s t after v) m h, refl)
moved_push [] before between after (w ∷ vs) s v m h = absurd m
moved_push (r ∷ ss) before between after [] s v m h = absurd m
moved_push (r ∷ ss) before between after (w ∷ vs) s v m h = (m.0, m.1, moved_push ss m.0 between after vs s v m.2 h)

-- the slots that one takes and those that stay free were the free ones
taken_free : (s : Option Said) (before after : List (Option Fragment)) (v : Option Slotted) → MovedIf s before after v
    → slots_in v ++ free_slots after ≡ free_slots before
taken_free None before after None m = ap (λ t. free_slots t) m
taken_free None before after (Some v) m = absurd m
taken_free (Some s) before after None m = absurd m
taken_free (Some s) before after (Some v) m = m.free

-- one has as many slots as fragments
slots_counted : (s : Option Said) (before after : List (Option Fragment)) (v : Option Slotted) → MovedIf s before after v → length (slots_in v) ≡ fragment_count s
slots_counted None before after None m = refl
slots_counted None before after (Some v) m = absurd m
slots_counted (Some s) before after None m = absurd m
slots_counted (Some s) before after (Some v) m = m.stands.counted ∙ ap (λ x. length (parts_said x)) m.same

-- one takes as many free slots as it has fragments
pub moved_free : (s : Option Said) (before after : List (Option Fragment)) (v : Option Slotted) → MovedIf s before after v
    → fragment_count s + length (free_slots after) ≡ length (free_slots before)
moved_free s before after v m =
    let long = ap length (taken_free s before after v m) in
    omega (arith, length-append (slots_in v) (free_slots after), slots_counted s before after v m)

-- the slots that all take and those that stay free were the free ones
pub all_free : (ss : List (Option Said)) (before after : List (Option Fragment)) (vs : List (Option Slotted)) → MovedAll ss before after vs
    → flat_map slots_in vs ++ free_slots after ≡ free_slots before
all_free [] before after [] m = ap (λ t. free_slots t) m
all_free [] before after (v ∷ vs) m = absurd m
all_free (s ∷ ss) before after [] m = absurd m
all_free (s ∷ ss) before after (v ∷ vs) m =
    append_assoc (slots_in v) (flat_map slots_in vs) (free_slots after)
    ∙ ap (λ l. slots_in v ++ l) (all_free ss m.0 after vs m.2)
    ∙ taken_free s before m.0 v m.1

-- a sequence that stands goes on to stand once one is moved in
kept_by_one : (s : Option Said) (before after : List (Option Fragment)) (v w : Option Slotted) → MovedIf s before after v
    → StandsInIf before w → StandsInIf after w
kept_by_one s before after v None m h = tt
kept_by_one None before after None (Some w) m h = subst (λ t. StandsIn t w) (sym m) h
kept_by_one None before after (Some v) (Some w) m h = absurd m
kept_by_one (Some s) before after None (Some w) m h = absurd m
kept_by_one (Some s) before after (Some v) (Some w) m h = (stands_on.moved_in s before after w v h m).0

-- and once all are
pub kept_by_all : (ss : List (Option Said)) (before after : List (Option Fragment)) (vs : List (Option Slotted)) → MovedAll ss before after vs
    → (w : Option Slotted) → StandsInIf before w → StandsInIf after w
kept_by_all [] before after [] m w h = subst (λ t. StandsInIf t w) (sym m) h
kept_by_all [] before after (v ∷ vs) m w h = absurd m
kept_by_all (s ∷ ss) before after [] m w h = absurd m
kept_by_all (s ∷ ss) before after (v ∷ vs) m w h = kept_by_all ss m.0 after vs m.2 w (kept_by_one s before m.0 v w m.1 h)

-- one that is moved in stands
one_stands : (s : Option Said) (before after : List (Option Fragment)) (v : Option Slotted) → MovedIf s before after v → StandsInIf after v
one_stands s before after None m = tt
one_stands None before after (Some v) m = absurd m
one_stands (Some s) before after (Some v) m = m.stands

-- all that are moved in stand
pub all_stand : (ss : List (Option Said)) (before after : List (Option Fragment)) (vs : List (Option Slotted)) → MovedAll ss before after vs
    → AllByRecursion (StandsInIf after) vs
all_stand [] before after [] m = tt
all_stand [] before after (v ∷ vs) m = absurd m
all_stand (s ∷ ss) before after [] m = absurd m
all_stand (s ∷ ss) before after (v ∷ vs) m = (kept_by_all ss m.0 after vs m.2 v (one_stands s before m.0 v m.1), all_stand ss m.0 after vs m.2)

-- one says what it said
one_said : (s : Option Said) (before after : List (Option Fragment)) (v : Option Slotted) → MovedIf s before after v → said_in v ≡ s
one_said None before after None m = refl
one_said None before after (Some v) m = absurd m
one_said (Some s) before after None m = absurd m
one_said (Some s) before after (Some v) m = ap Some m.same

-- all say what they said
pub all_said : (ss : List (Option Said)) (before after : List (Option Fragment)) (vs : List (Option Slotted)) → MovedAll ss before after vs
    → map said_in vs ≡ ss
all_said [] before after [] m = refl
all_said [] before after (v ∷ vs) m = absurd m
all_said (s ∷ ss) before after [] m = absurd m
all_said (s ∷ ss) before after (v ∷ vs) m = let head = one_said s before m.0 v m.1 in let rest = all_said ss m.0 after vs m.2 in cc
