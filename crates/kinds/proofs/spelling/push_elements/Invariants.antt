-- What the pairs so far and those that are left give is what the whole text gives; the list has one element more for each pair.
use Rattle.std.proofs.Common.{◌≡◌, ◌≤◌, ◌+◌, ◌*◌, length, take, vec_len}
use Rattle.std.specs.Vec.{vec_capacity}
use Rattle.kinds.specs.Spelling.{after, spelled, spelled_from}
use Rattle.kinds.proofs.spelling.push_elements.Given as goal

abbrev pub invariant-loop-number : goal.invariant-loop-number
invariant-loop-number g l =
    let a = g.K.Kind.alphabet in
    let left = l.number-iterator.iter in
    let place = 2 * l.number-iterator.count in
    record {
      by_two : left.size ≡ 2;
      in_text : place + length left.rest.now ≡ length l.text;
      read : after l.fn.list.items (spelled a l.text) ≡ after l.list.items (spelled_from a place left.rest.now);
      kept : take (vec_len l.fn.list) l.list.items ≡ l.fn.list.items;
      counted : 2 * vec_len l.list ≡ 2 * vec_len l.fn.list + place;
      grown : vec_capacity l.fn.list ≤ vec_capacity l.list;
    }
