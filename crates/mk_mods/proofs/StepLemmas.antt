-- The steps of the code are the table of the modifiers.
use Rattle.std.specs.Prelude.{◌≡◌, refl}
use Rattle.mk_mods.specs.Modifiers.{state_behind}
use Rattle.mk_mods.specs.State.{State}
use Rattle.mk_mods.specs.Steps.{state_by_steps}
use Rattle.mk_mods.specs.declared.modifier.Mod.{Mod}
use Rattle.mk_mods.specs.declared.modifier.Mod.TheVariants.{Keep, Without, Subst, Suffix, Head, Tail, Root, Extension, Sort, SortBack, Unique, Lower, Upper, Quote, QuoteDollar, Separator, OneWord, ManyWords, Select, Range}

pub steps_are_rows : (modifier : Mod) (state : State)
    → state_by_steps modifier state ≡ state_behind modifier state
steps_are_rows (Keep pattern) state = refl
steps_are_rows (Without pattern) state = refl
steps_are_rows (Subst from to at_start at_end all once whole) state = refl
steps_are_rows (Suffix from to) state = refl
steps_are_rows Head state = refl
steps_are_rows Tail state = refl
steps_are_rows Root state = refl
steps_are_rows Extension state = refl
steps_are_rows Sort state = refl
steps_are_rows SortBack state = refl
steps_are_rows Unique state = refl
steps_are_rows Lower state = refl
steps_are_rows Upper state = refl
steps_are_rows Quote state = refl
steps_are_rows QuoteDollar state = refl
steps_are_rows (Separator byte) state = refl
steps_are_rows OneWord state = refl
steps_are_rows ManyWords state = refl
steps_are_rows (Select text) state = refl
steps_are_rows (Range text) state = refl
