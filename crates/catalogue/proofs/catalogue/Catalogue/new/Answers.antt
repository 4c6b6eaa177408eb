use Rattle.catalogue.proofs.Composing.{book_nil, nothing_holds}
use Rattle.catalogue.proofs.catalogue.Catalogue.new.Goals as goal

-- nothing stands, and there is room
pub invariant_of-result : goal.invariant_of-result
invariant_of-result g c = (rw (c.in_ok-with_capacity.ensures.items, c.in_ok-with_capacity-2.ensures.items, c.in_ok-new.ensures) (nothing_holds g.K.Kind.alphabet), c.in_ok-with_capacity.ensures.capacity, c.in_ok-with_capacity-2.ensures.capacity)

-- so the book is empty
pub returns : goal.returns
returns g c = rw (c.in_ok-with_capacity.ensures.items, c.in_ok-with_capacity-2.ensures.items) book_nil
