-- Which names stand for the sources that are newer.
use Rattle.std.proofs.Common.{◌≡◌, ℕ, ◌==◌, ◌||◌, ◌&&◌, Bool, true, false, List, [], ◌∷◌, Option, Some, None}
use Rattle.std.proofs.Common.{Ok, if◌then◌else◌, refl, sym, ap, ◌∙◌, codes}
use Rattle.std.proofs.lemmas.Bool.{or_parts}
use Rattle.std.specs.Str.{bytes_eq}
use Rattle.std.specs.Option.{option_map}
use Rattle.mk_bytes.specs.Agrees.{◌>>=◌}
use Rattle.mk_values.specs.Locals.{is_either, local_named, local_value, of_part, part_form}
use Rattle.mk_values.specs.Locals.{part_value, raw_named}
use Rattle.mk_looks.specs.Looks.{AgreeOn, NewerDoNotCount, is_newer_name, looks_for_newer, with_newer}
use Rattle.mk_values.specs.Names.{context, known, raw_in}
use Rattle.mk_values.specs.Evaluators.{progress}
use Rattle.mk_values.specs.Value.{names}
use Rattle.mk_values.specs.declared.local.Local.{Local}
use Rattle.mk_values.specs.declared.local.Local.TheVariants.{Target, All, Implied, Prefix, Oodate}
use Rattle.mk_values.specs.declared.local.Locals.{Locals}
use Rattle.mk_looks.proofs.LookLemmas.{trees_are_by_names}
use Rattle.mk_mods.specs.declared.modifier.Mod.{Mod}
use Rattle.mk_mods.specs.declared.modifier.Mod.TheVariants.{Head, Tail}
use Rattle.mk_scopes.specs.Scopes.{Variables}
use Rattle.mk_scopes.specs.Tables.{or_else}

-- the last of five names is the one where no other is
is_last : (a b c d e : Bool)
    → (if a then Some Target
    else (if b then Some All
    else (if c then Some Implied
    else (if d then Some Prefix
    else (if e then Some Oodate else None))))) ≡ Some Oodate
    → e ≡ true
is_last true b c d e is = absurd cc
is_last false true c d e is = absurd cc
is_last false false true d e is = absurd cc
is_last false false false true e is = absurd cc
is_last false false false false true is = refl
is_last false false false false false is = absurd cc

named_oodate : (name : List ℕ) → local_named name ≡ Some Oodate
    → is_either name (codes ".OODATE") (codes "?") ≡ true
named_oodate name is =
    is_last (is_either name (codes ".TARGET") (codes "@")) (is_either name (codes ".ALLSRC") (codes ">"))
    (is_either name (codes ".IMPSRC") (codes "<")) (is_either name (codes ".PREFIX") (codes "*"))
    (is_either name (codes ".OODATE") (codes "?")) is

-- a short form with `D` or `F` behind it is of another name where the whole is no such name
form_of : (q d f : Bool) (named : Option Local) (form : Local × Mod)
    → (named ≡ Some Oodate → q ≡ true) → (q && d) ≡ false → (q && f) ≡ false
    → of_part named (if d then Some Head else (if f then Some Tail else None)) ≡ Some form
    → form.0 ≡ Oodate → ⊥
form_of q d f None form told no_head no_tail is oodate = absurd cc
form_of q true f (Some local) form told no_head no_tail is oodate =
    let same : Some local ≡ Some Oodate = cc in
    let never : (true && true) ≡ false = rw (told same) at no_head in absurd cc
form_of q false true (Some local) form told no_head no_tail is oodate =
    let same : Some local ≡ Some Oodate = cc in
    let never : (true && true) ≡ false = rw (told same) at no_tail in absurd cc
form_of q false false (Some local) form told no_head no_tail is oodate = absurd cc

none_of : (d : Bool) → (d && true) ≡ false → d ≡ false
none_of true none = none
none_of false none = refl

one_byte : (a b d : Bool) → (b && (d && true)) ≡ false
    → (((a && false) || (b && true)) && d) ≡ false
one_byte true true d none = none_of d none
one_byte true false d none = refl
one_byte false true d none = none_of d none
one_byte false false d none = refl

of_parts : (byte next : ℕ) (form : Local × Mod)
    → is_newer_name (byte ∷ next ∷ []) ≡ false → part_form (byte ∷ next ∷ []) ≡ Some form
    → form.0 ≡ Oodate → ⊥
of_parts byte next form none is oodate =
    let name = byte ∷ next ∷ [] in
    let both = or_parts (is_either name (codes ".OODATE") (codes "?"))
    (is_either name (codes "?D") (codes "?F")) none in
    let parts = or_parts (bytes_eq name (codes "?D")) (bytes_eq name (codes "?F")) both.1 in
    form_of (is_either (byte ∷ []) (codes ".OODATE") (codes "?")) (next == 68) (next == 70)
    (local_named (byte ∷ [])) form (named_oodate (byte ∷ []))
    (one_byte (byte == 46) (byte == 63) (next == 68) parts.0)
    (one_byte (byte == 46) (byte == 63) (next == 70) parts.1) is oodate

form_is_other : (name : List ℕ) (form : Local × Mod)
    → is_newer_name name ≡ false → part_form name ≡ Some form → form.0 ≡ Oodate → ⊥
form_is_other [] form none is oodate = absurd cc
form_is_other (byte ∷ []) form none is oodate = absurd cc
form_is_other (byte ∷ next ∷ []) form none is oodate = of_parts byte next form none is oodate
form_is_other (byte ∷ next ∷ third ∷ name) form none is oodate = absurd cc

name_is_other : (name : List ℕ) → is_newer_name name ≡ false → local_named name ≡ Some Oodate → ⊥
name_is_other name none is =
    let both = or_parts (is_either name (codes ".OODATE") (codes "?"))
    (is_either name (codes "?D") (codes "?F")) none in
    let same : true ≡ false = sym (named_oodate name is) ∙ both.0 in absurd cc

-- the other local names stand for what they stood for
same_value : (newer : List (List ℕ)) (l : Locals) (local : Local) → (local ≡ Oodate → ⊥)
    → local_value (with_newer newer l) local ≡ local_value l local
same_value newer l Target other = refl
same_value newer l All other = refl
same_value newer l Implied other = refl
same_value newer l Prefix other = refl
same_value newer l Oodate other = absurd (other refl)

same_local : (newer : List (List ℕ)) (l : Locals) (named : Option Local)
    → (named ≡ Some Oodate → ⊥)
    → option_map (local_value (with_newer newer l)) named ≡ option_map (local_value l) named
same_local newer l None other = refl
same_local newer l (Some local) other =
    ap (λ (value : List ℕ). Some value)
    (same_value newer l local (λ is. other (ap (λ (one : Local). Some one) is)))

same_named : (newer : List (List ℕ)) (l : Locals) (name : List ℕ) (form : Option (Local × Mod))
    → (local_named name ≡ Some Oodate → ⊥)
    → ((one : Local × Mod) → form ≡ Some one → one.0 ≡ Oodate → ⊥)
    → raw_named (with_newer newer l) name form ≡ raw_named l name form
same_named newer l name None other other_form =
    ap (λ (raw : Option (List ℕ)). Ok raw) (same_local newer l (local_named name) other)
same_named newer l name (Some form) other other_form =
    ap (λ value. part_value form.1 value >>= λ text. Ok (Some text))
    (same_value newer l form.0 (λ is. other_form form refl is))

same_raw : (newer : List (List ℕ)) (l : Locals) (variables : Variables) (name : List ℕ)
    → is_newer_name name ≡ false
    → raw_in variables l name ≡ raw_in variables (with_newer newer l) name
same_raw newer l variables name none =
    ap (λ raw. (if l.some then raw else Ok None) >>= λ one. Ok (or_else one (known variables name)))
    (sym (same_named newer l name (part_form name) (name_is_other name none)
    (λ form is. form_is_other name form none is)))

agree : (newer : List (List ℕ)) (l : Locals) (variables : Variables) (names : List (List ℕ))
    → looks_for_newer names ≡ false
    → AgreeOn (raw_in variables l) (raw_in variables (with_newer newer l)) names
agree newer l variables [] none = tt
agree newer l variables (name ∷ names) none =
    let parts = or_parts (is_newer_name name) (looks_for_newer names) none in
    (same_raw newer l variables name parts.0, agree newer l variables names parts.1)

pub newer_do_not_count : NewerDoNotCount
newer_do_not_count variables locals newer lists answers keep asked tree none =
    trees_are_by_names (context variables locals lists answers keep)
    (raw_in variables (with_newer newer locals)) (progress 0 asked) tree
    (agree newer locals variables (names variables locals lists answers keep asked tree) none)
