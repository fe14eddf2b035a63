-- The plain data that slices of the code stand for.
use Rattle.mk_depline.specs.Lines.{Sides}
use Rattle.mk_depline.specs.declared.line.Sides.{Sides as CodeSides}

abbrev pub sides_seen : CodeSides → Sides
sides_seen sides =
    record { targets = sides.targets.now; remake = sides.remake; sources = sides.sources.now }
