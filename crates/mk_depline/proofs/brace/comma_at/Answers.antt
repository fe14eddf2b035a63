use Rattle.std.proofs.Common.{length, drop, refl, sym, ap, arith}
use Rattle.mk_depline.specs.Braces.{place_of}
use Rattle.mk_depline.proofs.NumberLemmas.{length-numbers, number-drop, numbered, place-inside}
use Rattle.mk_depline.proofs.brace.comma_at.Goals as goal

pub bounds-commas-word : goal.bounds-commas-word
bounds-commas-word c =
    omega (
      arith,
      length-numbers 44 c.args.word.now,
      ap length c.requires.places.commas,
      ap length c.as_slice-commas.ensures.value,
    )

pub offset_bounds-commas-word : goal.offset_bounds-commas-word
offset_bounds-commas-word c =
    omega (
      arith,
      length-numbers 44 c.args.word.now,
      ap length c.requires.places.commas,
      ap length c.as_slice-commas.ensures.value,
    )

pub returns-clause-value : goal.returns-clause-value
returns-clause-value c =
    rw (
      c.place_numbered.ensures,
      c.as_slice-commas.ensures.value,
      c.requires.places.commas,
      number-drop 44 c.args.word.now c.args.at c.requires.within,
      numbered (place_of 44 (drop c.args.at c.args.word.now)),
    ) refl

pub returns-clause-within : goal.returns-clause-within
returns-clause-within c =
    place-inside 44 (drop c.args.at c.args.word.now) c.place_numbered.result
    (sym (returns-clause-value c))
