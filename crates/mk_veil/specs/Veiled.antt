-- What a veil tells: the files below it without the hidden paths, and the looks at it.
use Rattle.std.specs.Prelude.{ℕ, Bool, true, false, not, ◌||◌, List, [], ◌∷◌, ◌++◌, map, filter}
use Rattle.std.specs.Prelude.{flat_map}
use Rattle.std.specs.Prelude.{Option, Some, None, if◌then◌else◌}
use Rattle.mk_bytes.specs.Texts.{is_among}
use Rattle.mk_world.specs.History.{Effect, effects, state_of}
use Rattle.mk_world.specs.declared.history.Child.{Child}
use Rattle.mk_world.specs.declared.history.File.{File}
use Rattle.mk_world.specs.declared.history.Happening.{Happening}
use Rattle.mk_world.specs.declared.history.Happening.TheVariants.{Edit, Look}
use Rattle.mk_world.specs.declared.history.History.{History}

abbrev pub Paths : Type 0
Paths = List (List ℕ)

-- files that are not hidden
abbrev pub bare : Paths → List File → List File
bare hidden files = filter (λ file. not (is_among hidden file.path)) files

-- changes of paths that are not hidden
abbrev pub visible : Paths → List Effect → List Effect
visible hidden all = filter (λ effect. not (is_among hidden effect.path)) all

-- a change, as it is seen from outside
abbrev pub edit_of : Effect → Happening
edit_of effect = Edit effect.path effect.bytes effect.time

-- what is seen of an event below: the changes of paths that are not hidden, by somebody else
abbrev pub seen : Paths → Happening → List Happening
seen hidden event = map edit_of (visible hidden (effects event))

-- The history of a veil behind looks at these paths.
abbrev pub veiled : Paths → Paths → History → History
veiled hidden looked history = record {
  base = bare hidden history.base;
  events = flat_map (seen hidden) history.events ++ map Look looked;
}

abbrev pub are_none : List Child → Bool
are_none [] = true
are_none (child ∷ children) = false

-- What a veil tells by what is told below it: nothing where it is silent, or where a child runs
-- below.
abbrev pub told_by : Paths → Paths → Bool → Option History → Option History
told_by hidden looked silent None = None
told_by hidden looked silent (Some history) =
    if silent || not (are_none (state_of history).children) then None
    else Some (veiled hidden looked history)
