-- A text without any `$` is its own value.
use Rattle.std.proofs.Common.{◌≡◌, ◌⊎◌, inl, inr, ℕ, Bool, true, false, ◌==◌, ◌&&◌, List, [], ◌∷◌}
use Rattle.std.proofs.Common.{◌++◌, ◌+◌, ◌<◌, ◌≤◌, length, nat_lt, None, Result, Ok, Err, Some, refl}
use Rattle.std.proofs.Common.{sym, ap, ◌∙◌, arith}
use Rattle.std.proofs.lemmas.Bool.Decides.{nat_tests}
use Rattle.std.proofs.lemmas.Bool.{or_parts}
use Rattle.std.proofs.lemmas.List.{append-nil}
use Rattle.mk_bytes.specs.Agrees.{AgreesErr}
use Rattle.mk_bytes.specs.Bytes.{dollar, backslash}
use Rattle.mk_bytes.specs.Texts.{is_among}
use Rattle.mk_ast.specs.Tree.{Mods, end, part, plain}
use Rattle.mk_ast.specs.Places.{is_escape}
use Rattle.mk_ast.specs.References.{tree_of_text}
use Rattle.mk_ast.specs.Spell.{spell}
use Rattle.mk_ast.specs.Text.{plain_run, text_at}
use Rattle.mk_ast.specs.WellFormed.{after_all, FitsTree, IsWellFormed}
use Rattle.mk_ast.specs.declared.place.Place.TheVariants.{Whole}
use Rattle.mk_ast.proofs.ReadAgain.{tree_of_text-spell}
use Rattle.mk_values.specs.Evaluators.{Counted, Finder, Progress, ◌>>=◌, either, gives, looking}
use Rattle.mk_values.specs.Evaluators.{noting, tried}
use Rattle.mk_values.specs.Facts.{IsOutside}
use Rattle.mk_cond.specs.Cond.{Side}
use Rattle.mk_values.specs.Conditions.{side_value}
use Rattle.mk_values.specs.Limits.{appended, max_text}
use Rattle.mk_values.specs.Chains.{defined_as, undefined}
use Rattle.mk_values.specs.Plain.{found_of, plain_found}
use Rattle.mk_values.specs.Names.{Context, in_name, raw_of, while_open}
use Rattle.mk_values.specs.Parts.{text_value, tree_value, joined}
use Rattle.mk_values.specs.Texts.{has_dollar, with_fault, parsed}
use Rattle.mk_values.specs.Value.{opened_value, reference, variable}
use Rattle.mk_values.specs.declared.fault.ExpandFault.{ExpandFault}
use Rattle.mk_values.specs.declared.fault.ExpandFault.TheVariants.{NoMemory, Recursive, TooLong}

and-false : (b : Bool) → (b && false) ≡ false
and-false true = refl
and-false false = refl

is_escape-whole : (byte : ℕ) (bytes : List ℕ) → is_escape Whole byte bytes ≡ false
is_escape-whole byte [] = refl
is_escape-whole byte (next ∷ bytes) = and-false (byte == backslash)

plain_run-whole : (text : List ℕ) → has_dollar text ≡ false
    → plain_run Whole (text ++ []) ≡ (text, after_all Whole text, [])
plain_run-whole [] none = refl
plain_run-whole (byte ∷ bytes) none =
    let parts = or_parts (byte == dollar) (has_dollar bytes) none in
    rw (parts.0, is_escape-whole byte (bytes ++ []), plain_run-whole bytes parts.1) refl

parsed-plain : (byte : ℕ) (bytes : List ℕ) → has_dollar (byte ∷ bytes) ≡ false
    → parsed (byte ∷ bytes) ≡ Ok (part (plain (byte ∷ bytes)) end)
unfolding FitsTree spell
parsed-plain byte bytes none =
    let text = byte ∷ bytes in
    let formed : IsWellFormed (part (plain text) end) =
    ((omega arith, plain_run-whole text none), refl) in
    let read : tree_of_text (text ++ []) ≡ Ok (part (plain text) end) =
    tree_of_text-spell (part (plain text) end) formed in
    ap with_fault (ap tree_of_text (sym (append-nil text)) ∙ read)

joined-rest : (find : Finder) (c : Context) (p : Progress) (found : Result (List ℕ) ExpandFault)
    → (tried found p >>= λ more. joined find c more.1 more.0 end) ≡ tried found p
unfolding joined
joined-rest find c p (Ok text) = refl
joined-rest find c p (Err fault) = refl

joined-plain : (find : Finder) (c : Context) (p : Progress) (text : List ℕ)
    → joined find c p [] (part (plain text) end) ≡ tried (appended [] text) p
unfolding joined
joined-plain find c p text = joined-rest find c p (appended [] text)

pub text_value-plain : (find : Finder) (c : Context) (p : Progress) (text : List ℕ)
    → has_dollar text ≡ false
    → text_value find c p text ≡ tried (appended [] text) p
unfolding joined text_at
text_value-plain find c p [] none = refl
text_value-plain find c p (byte ∷ bytes) none =
    rw (parsed-plain byte bytes none) (joined-plain find c p (byte ∷ bytes))

pub tree_value-plain : (find : Finder) (c : Context) (p : Progress) (bytes : List ℕ)
    → length bytes ≤ max_text
    → tree_value find c p (part (plain bytes) end) ≡ gives bytes p
tree_value-plain find c p bytes short =
    let fits : nat_lt max_text (length {A = ℕ} [] + length bytes) ≡ false =
    grind (arith, nat_tests, short) in
    joined-plain find c p bytes ∙ rw fits refl

-- a reference whose plain name is too long
pub reference-long : (find : Finder) (c : Context) (p : Progress) (name : List ℕ) (mods : Mods)
    → max_text < length name
    → (reference find c p (part (plain name) end) mods).answer ≡ Err (TooLong, p)
reference-long find c p name mods long =
    let over : nat_lt max_text (length {A = ℕ} [] + length name) ≡ true =
    grind (arith, nat_tests, long) in
    rw (joined-plain find (in_name c) p name, over) refl

both_same : {A : Type 0} (b : Bool) (one : Counted A) → either b one one ≡ one
both_same true one = refl
both_same false one = refl

-- a plain text as a side
pub side_value-plain : (find : Finder) (c : Context) (p : Progress) (side : Side) (bytes : List ℕ)
    → side.text ≡ part (plain bytes) end → length bytes ≤ max_text
    → side_value find c p side ≡ gives bytes p
side_value-plain find c p side bytes is short =
    rw (is, tree_value-plain find c p bytes short) (both_same side.quoted (gives bytes p))

plain_found-counted : (p : Progress) (value : Result (List ℕ) ExpandFault)
    → (tried value p >>= λ v. gives (defined_as v.0) v.1) ≡ tried (found_of value) p
plain_found-counted p (Ok value) = refl
plain_found-counted p (Err fault) = refl

-- a raw value without any `$`
pub opened_value-plain : (find : Finder) (c : Context) (p : Progress) (name raw : List ℕ)
    → has_dollar raw ≡ false
    → opened_value find c p name raw ≡ tried (plain_found raw) p
opened_value-plain find c p name raw none =
    ap (λ text. text >>= λ v. gives (defined_as v.0) v.1)
    (text_value-plain find (while_open c name) p raw none)
    ∙ plain_found-counted p (appended [] raw)

-- a variable whose raw value has no `$`
pub variable-plain : (find : Finder) (c : Context) (p : Progress) (name raw : List ℕ)
    → is_among c.open_names name ≡ false → raw_of c name ≡ Ok (Some raw)
    → has_dollar raw ≡ false
    → variable find c p name ≡ looking name (tried (plain_found raw) (noting name p))
variable-plain find c p name raw among is none =
    rw (among, is) (ap (looking name) (opened_value-plain find c (noting name p) name raw none))

pub variable-open : (find : Finder) (c : Context) (p : Progress) (name : List ℕ)
    → is_among c.open_names name ≡ true
    → (variable find c p name).answer ≡ Err (Recursive name, noting name p)
variable-open find c p name among = rw among refl

pub variable-raw : (find : Finder) (c : Context) (p : Progress) (name raw : List ℕ)
    → is_among c.open_names name ≡ false → raw_of c name ≡ Ok (Some raw)
    → (variable find c p name).answer ≡ (opened_value find c (noting name p) name raw).answer
variable-raw find c p name raw among is = rw (among, is) refl

pub variable-none : (find : Finder) (c : Context) (p : Progress) (name : List ℕ)
    → is_among c.open_names name ≡ false → raw_of c name ≡ Ok None
    → (variable find c p name).answer ≡ Ok (undefined, noting name p)
variable-none find c p name among is = rw (among, is) refl

pub variable-fault : (find : Finder) (c : Context) (p : Progress) (name : List ℕ)
    (fault : ExpandFault)
    → is_among c.open_names name ≡ false → AgreesErr NoMemory fault (raw_of c name)
    → IsOutside fault ⊎ ((variable find c p name).answer ≡ Err (fault, noting name p))
variable-fault find c p name fault among (inl want) = inl (inl want)
variable-fault find c p name fault among (inr is) = inr (rw (among, is) refl)
