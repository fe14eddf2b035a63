use Rattle.std.proofs.Common.{length, drop, refl, sym, ap, arith}
use Rattle.mk_depline.specs.Braces.{place_of}
use Rattle.mk_depline.proofs.NumberLemmas.{length-numbers, number-drop, numbered, place-inside}
use Rattle.mk_depline.proofs.brace.close_at.Goals as goal

pub bounds-closes-word : goal.bounds-closes-word
bounds-closes-word c =
    omega (
      arith,
      length-numbers 125 c.args.word.now,
      ap length c.requires.places.closes,
      ap length c.as_slice-closes.ensures.value,
    )

pub offset_bounds-closes-word : goal.offset_bounds-closes-word
offset_bounds-closes-word c =
    omega (
      arith,
      length-numbers 125 c.args.word.now,
      ap length c.requires.places.closes,
      ap length c.as_slice-closes.ensures.value,
    )

pub returns-clause-value : goal.returns-clause-value
returns-clause-value c =
    rw (
      c.place_numbered.ensures,
      c.as_slice-closes.ensures.value,
      c.requires.places.closes,
      number-drop 125 c.args.word.now c.args.at c.requires.within,
      numbered (place_of 125 (drop c.args.at c.args.word.now)),
    ) refl

pub returns-clause-within : goal.returns-clause-within
returns-clause-within c =
    place-inside 125 (drop c.args.at c.args.word.now) c.place_numbered.result
    (sym (returns-clause-value c))
