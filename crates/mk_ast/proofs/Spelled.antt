-- What is read is spelled so: what this says, and how it goes through the steps of a reading.
use Rattle.std.proofs.Common.{◌≡◌, ℕ, ◌+◌, ◌-◌, ◌≤◌, ◌<◌, ◌==◌, if◌then◌else◌, Bool, true, false}
use Rattle.std.proofs.Common.{List, []}
use Rattle.std.proofs.Common.{◌∷◌, ◌++◌, length, Ok, Err, refl}
use Rattle.std.proofs.lemmas.Bool.{and_parts, cond_both}
use Rattle.mk_bytes.specs.Agrees.{◌>>=◌}
use Rattle.mk_bytes.specs.Bytes.{dollar}
use Rattle.mk_ast.specs.Tree.{Tree, Part, Mods, Mod}
use Rattle.mk_ast.specs.Spell.{opener, closer, spell, spell_part, spell_mods, spell_mod}
use Rattle.mk_ast.specs.Places.{ends_modifier, ends, after}
use Rattle.mk_ast.specs.Text.{Read, Refs}
use Rattle.mk_ast.specs.Rows.{is_end, is_empty}
use Rattle.mk_ast.specs.WellFormed.{after_part, is_lone, FitsTree, FitsPart, FitsMods, FitsMod}
use Rattle.mk_ast.specs.declared.place.Place.{Place}
use Rattle.mk_ast.specs.declared.place.Place.TheVariants.{Name}

-- P of what is read and of what follows it
abbrev pub OnRead : {A : Type 0} → (A → List ℕ → Type 0) → Read A → Type 0
OnRead P (Ok x) = P x.0 x.1
OnRead P (Err fault) = Unit {0}

pub OnRead-bind : {A B : Type 0} (P : A → List ℕ → Type 0) (Q : B → List ℕ → Type 0)
    (first : Read A)
    (next : A × List ℕ → Read B) → OnRead P first
    → ((x : A) (rest : List ℕ) → P x rest → OnRead Q (next (x, rest))) → OnRead Q (first >>= next)
OnRead-bind P Q (Ok x) next holds goes = goes x.0 x.1 holds
OnRead-bind P Q (Err fault) next holds goes = tt

pub OnRead-map : {A B : Type 0} (P : A → List ℕ → Type 0) (Q : B → List ℕ → Type 0) (first : Read A)
    (f : A → B) → OnRead P first
    → ((x : A) (rest : List ℕ) → P x rest → Q (f x) rest)
    → OnRead Q (first >>= λ x. Ok (f x.0, x.1))
OnRead-map P Q (Ok x) f holds goes = goes x.0 x.1 holds
OnRead-map P Q (Err fault) f holds goes = tt

-- whether a byte ends texts at this place, those nested in a name aside
abbrev pub may_end : Place → ℕ → Bool
may_end (Name round nested) byte = ends_modifier round byte
may_end place byte = ends place byte

-- whether nothing is left, or a byte that ends texts at this place
abbrev pub is_ended : Place → List ℕ → Bool
is_ended place [] = true
is_ended place (byte ∷ bytes) = may_end place byte

pub ends-may_end : (place : Place) (byte : ℕ) → ends place byte ≡ true → may_end place byte ≡ true
ends-may_end (Name round nested) byte is = (and_parts _ (ends_modifier round byte) is).1
ends-may_end place byte is = is

may_end-after : (place : Place) (byte other : ℕ) → may_end (after place byte) other
    ≡ may_end place other
may_end-after (Name round nested) byte other =
    let P : Place → Type 0 = λ p. may_end p other ≡ ends_modifier round other in
    let inner = if byte == closer round then Name round (nested - 1) else Name round nested in
    cond_both (byte == opener round) (Name round (nested + 1)) inner P
    (λ _. refl)
    (λ _. cond_both (byte == closer round) (Name round (nested - 1)) (Name round nested) P
    (λ _. refl) (λ _. refl))
may_end-after place byte other = refl

pub is_ended-after : (place : Place) (byte : ℕ) (rest : List ℕ) → is_ended (after place byte) rest
    ≡ is_ended place rest
is_ended-after place byte [] = refl
is_ended-after place byte (other ∷ rest) = may_end-after place byte other

-- a text at a place where only ends of modifiers end it leaves such an end, or nothing
pub is_ended-is_empty : (place : Place) (round : Bool)
    → ((byte : ℕ) → may_end place byte ≡ true → ends_modifier round byte ≡ true)
    → (rest : List ℕ) → is_ended place rest ≡ true → is_empty round rest ≡ true
is_ended-is_empty place round ends [] is = refl
is_ended-is_empty place round ends (byte ∷ rest) is = ends byte is

pub is_end-is_empty : (round : Bool) (rest : List ℕ) → is_end round rest ≡ true
    → is_empty round rest ≡ true
is_end-is_empty round [] is = refl
is_end-is_empty round (byte ∷ rest) is = is

-- a part is what was read before the rest, which is shorter
abbrev pub PartOf : List ℕ → Part → List ℕ → Type 0
PartOf bytes p rest = (bytes ≡ spell_part p ++ rest) × (length rest < length bytes)

-- a text, and what follows it is where it may end and where the tree fits
abbrev pub TextOf : ℕ → Place → List ℕ → Tree → List ℕ → Type 0
TextOf depth place bytes text rest =
    (bytes ≡ spell text ++ rest) × (length rest ≤ length bytes) × (is_ended place rest ≡ true)
    × FitsTree depth place text rest

abbrev pub ModOf : ℕ → Bool → List ℕ → Mod → List ℕ → Type 0
ModOf depth round bytes m rest =
    (bytes ≡ spell_mod m ++ rest) × (length rest ≤ length bytes) × (is_empty round rest ≡ true)
    × FitsMod depth round m rest

abbrev pub ModsOf : ℕ → Bool → List ℕ → Mods → List ℕ → Type 0
ModsOf depth round bytes mods rest =
    (bytes ≡ spell_mods mods ++ closer round ∷ rest) × (length rest ≤ length bytes)
    × FitsMods depth round mods (closer round ∷ rest)

-- a part behind a `$`, which fits where no text ends
abbrev pub DollarOf : ℕ → Place → List ℕ → Part → List ℕ → Type 0
DollarOf depth place bytes p rest =
    PartOf (dollar ∷ bytes) p rest × FitsPart depth place p rest
    × (after_part place p ≡ after place dollar)

-- a reader of references gives what it read behind the opener
abbrev pub RefsSpell : ℕ → Refs → Type 0
RefsSpell depth refs =
    (place : Place) (round : Bool) (bytes : List ℕ) → ends place dollar ≡ false
    → is_lone place (opener round ∷ bytes) ≡ false
    → OnRead (DollarOf depth place (opener round ∷ bytes)) (refs round bytes)
