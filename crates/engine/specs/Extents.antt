-- How many elements an item takes, as a pattern gives it.
use Rattle.patterns.specs.Fragments.{least, span}
use Rattle.patterns.specs.Patterns.{Item}
use Rattle.engine.specs.declared.pattern.Extent.{Extent}

-- the least number of elements that an item takes, and how many it spans
abbrev pub extent : Item → Extent
extent i = record { least = least i; span = span i }
