-- What a request comes to, by what its looks found, and which operations are recorded of it.
use Rattle.std.specs.Prelude.{ℕ, Bool, true, false, not, ◌&&◌, ◌||◌, List, [], ◌∷◌, ◌++◌, codes}
use Rattle.std.specs.Prelude.{if◌then◌else◌}
use Rattle.std.specs.List.{list_all, list_any}
use Rattle.mk_bytes.specs.Bytes.{newline}
use Rattle.mk_world.specs.declared.step.Op.{Op}
use Rattle.mk_world.specs.declared.step.Op.TheVariants as op
use Rattle.fmrun.specs.Words.{picked}
use Rattle.fmrun.specs.declared.request.Act.{Act}
use Rattle.fmrun.specs.declared.request.Act.TheVariants as act
use Rattle.fmrun.specs.declared.deed.Sight.{Sight}
use Rattle.fmrun.specs.declared.deed.Sight.TheVariants.{Found, Missing, Refused}
use Rattle.fmrun.specs.declared.deed.Change.{Change}
use Rattle.fmrun.specs.declared.deed.Change.TheVariants as change
use Rattle.fmrun.specs.declared.deed.Deed.{Deed}

abbrev pub is_found : Sight → Bool
is_found Found = true
is_found Missing = false
is_found Refused = false

abbrev pub is_refused : Sight → Bool
is_refused Found = false
is_refused Missing = false
is_refused Refused = true

-- Nothing happens but that it ends with this status.
abbrev pub ends : ℕ → Deed
ends status = record { change = change.Nothing; output = []; status = status }

abbrev pub changes : Change → Deed
changes what = record { change = what; output = []; status = 0 }

abbrev pub writes : List ℕ → List ℕ → Deed
writes path text = changes (change.Write path text)

abbrev pub prints : List ℕ → Deed
prints text = record { change = change.Nothing; output = text; status = 0 }

-- whether a missing file ends it with status 1: not that of `probe`, nor a variable
abbrev pub needs_all : Act → Bool
needs_all (act.Write target text) = true
needs_all (act.Join target) = true
needs_all (act.Pick target place) = true
needs_all (act.Probe target) = false
needs_all (act.Env target name) = false
needs_all (act.Move from to) = true
needs_all (act.Delete path) = true
needs_all act.Show = true
needs_all (act.Say text) = true
needs_all (act.Meet own) = true
needs_all (act.End status) = true

-- whether it ends behind its looks
abbrev pub is_stopped : Act → List Sight → Bool
is_stopped what sights =
    list_any is_refused sights || (needs_all what && not (list_all is_found sights))

-- what `probe` writes
abbrev pub yes_or_no : Bool → List ℕ
yes_or_no true = codes "yes\n"
yes_or_no false = codes "no\n"

-- what is done where nothing stops it, with these contents
abbrev pub done : Act → List Sight → List ℕ → Deed
done (act.Write target own) sights text = writes target own
done (act.Join target) sights text = writes target text
done (act.Pick target place) sights text = writes target (picked place text)
done (act.Probe target) sights text = writes target (yes_or_no (list_all is_found sights))
done (act.Env target name) sights text = writes target (text ++ newline ∷ [])
done (act.Move from to) sights text = changes (change.Move from to text)
done (act.Delete path) sights text = changes (change.Delete path)
done act.Show sights text = prints text
done (act.Say own) sights text = prints own
done (act.Meet own) sights text = ends 0
done (act.End status) sights text = ends status

-- What a request comes to.
abbrev pub deed_of : Act → List Sight → List ℕ → Deed
deed_of what sights text =
    if is_stopped what sights then ends 1 else done what sights text

abbrev pub is_end : List Sight → Bool
is_end [] = true
is_end (sight ∷ sights) = false

-- Looks go on in order while files are found, up to the last path or the first that is not.
abbrev pub are_looks : List (List ℕ) → List Sight → Bool
are_looks [] sights = is_end sights
are_looks (path ∷ paths) [] = false
are_looks (path ∷ paths) (sight ∷ sights) =
    if is_found sight then are_looks paths sights else is_end sights

-- A look at a file that stands is a read, also where it is refused, and one at a missing file a
-- miss.
abbrev pub look_op : List ℕ → Sight → Op
look_op path Found = op.Read path
look_op path Missing = op.Miss path
look_op path Refused = op.Read path

-- the looks that happened, each at its path
abbrev pub looked : List (List ℕ) → List Sight → List Op
looked [] sights = []
looked (path ∷ paths) [] = []
looked (path ∷ paths) (sight ∷ sights) = look_op path sight ∷ looked paths sights

abbrev pub changed : Change → List Op
changed change.Nothing = []
changed (change.Write path text) = op.Write path ∷ []
changed (change.Delete path) = op.Delete path ∷ []
changed (change.Move from to text) = op.Move from to ∷ []

-- The operations that are recorded, in order.
abbrev pub ops_of : List (List ℕ) → List Sight → Change → List Op
ops_of paths sights what = looked paths sights ++ changed what
