-- The value of a tree: the values of its parts, joined.
use Rattle.std.specs.Prelude.{ℕ, Bool, List, [], ◌∷◌, if◌then◌else◌}
use Rattle.mk_bytes.specs.Bytes.{dollar}
use Rattle.mk_ast.specs.Spell.{spell_part}
use Rattle.mk_ast.specs.Tree.{Tree, Part, end, part, plain, escaped, double, lone, short, ref}
use Rattle.mk_values.specs.Evaluators.{Progress, Counted, Finder, ◌>>=◌, gives, tried}
use Rattle.mk_values.specs.Limits.{appended}
use Rattle.mk_values.specs.Names.{Context}
use Rattle.mk_values.specs.Texts.{parsed}
use Rattle.mk_values.specs.declared.chain.Found.{Found}

-- What a reference gives. One that is undefined in the end is empty, and with the flag of `:=` it
-- stays as it is written.
abbrev pub shown : Bool → Part → Found → List ℕ
shown keep p found = if found.defined then found.value else (if keep then spell_part p else [])

abbrev pub reference_value : Finder → Context → Progress → Part → Counted (List ℕ)
reference_value find c p reference =
    find c p reference >>= λ found. gives (shown c.keep reference found.0) found.1

-- `$$`, which the flag of `:=` leaves as it is
abbrev pub double_value : Bool → List ℕ
double_value keep = if keep then dollar ∷ dollar ∷ [] else dollar ∷ []

abbrev pub part_value : Finder → Context → Progress → Part → Counted (List ℕ)
part_value find c p (plain bytes) = gives bytes p
part_value find c p (escaped byte) = gives (byte ∷ []) p
part_value find c p double = gives (double_value c.keep) p
part_value find c p lone = gives (dollar ∷ []) p
part_value find c p (short byte) = reference_value find c p (short byte)
part_value find c p (ref round name mods) = reference_value find c p (ref round name mods)

-- a part's value behind the text so far
abbrev pub part_appended : Finder → Context → Progress → List ℕ → Part → Counted (List ℕ)
part_appended find c p text one =
    part_value find c p one >>= λ v. tried (appended text v.0) v.1

abbrev pub reference_appended : Finder → Context → Progress → List ℕ → Part → Counted (List ℕ)
reference_appended find c p text one =
    reference_value find c p one >>= λ v. tried (appended text v.0) v.1

-- the values of the parts in order, behind the text so far
unfoldable pub joined : Finder → Context → Progress → List ℕ → Tree → Counted (List ℕ)
joined find c p text end = gives text p
joined find c p text (part one tree) =
    part_appended find c p text one >>= λ more. joined find c more.1 more.0 tree

-- The value of a tree.
abbrev pub tree_value : Finder → Context → Progress → Tree → Counted (List ℕ)
tree_value find c p tree = joined find c p [] tree

-- The value of a text, which is read as a whole before any of it is evaluated.
abbrev pub text_value : Finder → Context → Progress → List ℕ → Counted (List ℕ)
text_value find c p text = tried (parsed text) p >>= λ tree. tree_value find c tree.1 tree.0
