-- What a place says on paper.
use Rattle.text.specs.Part.{Span}
use Rattle.text.specs.declared.part.Place.{Place}

abbrev pub place_says : Place → Span
place_says p = record { start = p.start; end = p.end }
