-- The texts inside modifiers, read and spelled.
use Rattle.std.proofs.Common.{◌≡◌, ℕ, ◌≤◌, Bool, true, List, [], ◌∷◌, ◌++◌, length, take, drop}
use Rattle.std.proofs.Common.{codes, Ok, refl, sym, ap, ◌∙◌, arith, append_assoc, length-append}
use Rattle.std.proofs.lemmas.Bool.{cond_both}
use Rattle.std.proofs.lemmas.List.Quantifiers.{position-Some}
use Rattle.std.proofs.lemmas.List.{take-append-drop}
use Rattle.std.proofs.lemmas.Grind.{common_steps}
use Rattle.std.proofs.Common.{Option, Some, None, position, unwrap_or, subst}
use Rattle.mk_ast.specs.Tree.{Tree, Mod, keep, without, range_to, if_undefined, if_defined}
use Rattle.mk_ast.specs.Spell.{spell, spell_mod}
use Rattle.mk_ast.specs.Places.{ends_modifier}
use Rattle.mk_ast.specs.Text.{Refs, text_in}
use Rattle.mk_ast.specs.Rows.{is_end, is_empty, row_of}
use Rattle.mk_ast.specs.WellFormed.{FitsTree, FitsMod}
use Rattle.mk_ast.specs.declared.row.Row.{Row}
use Rattle.mk_ast.specs.declared.row.Row.TheVariants as row
use Rattle.mk_ast.specs.Modifiers.{made, argument_at, past_delim, closed_at, flags_len, flags_at}
use Rattle.mk_ast.specs.Modifiers.{is_no_flag}
use Rattle.mk_ast.specs.declared.place.Place.{Place}
use Rattle.mk_ast.specs.declared.place.Place.TheVariants as place
use Rattle.mk_ast.specs.declared.row.Argument.{Argument}
use Rattle.mk_ast.specs.declared.row.Argument.TheVariants as argument
use Rattle.mk_ast.proofs.Spelled.{OnRead, OnRead-bind, OnRead-map, may_end, is_ended-is_empty}
use Rattle.mk_ast.proofs.Spelled.{is_end-is_empty, TextOf, ModOf, RefsSpell}
use Rattle.mk_ast.proofs.SpelledRows.{Begins, argument_text}
use Rattle.mk_ast.proofs.SpelledTexts.{text_in-spelled}

-- the rest of a text is no longer than the text
pub rest-shorter : (bytes start rest : List ℕ) → bytes ≡ start ++ rest → length rest ≤ length bytes
rest-shorter bytes start rest is = omega (arith, ap length is, length-append start rest)

-- a modifier that is a start and then what is read behind it
pub behind-start : (depth : ℕ) (round : Bool) (start bytes : List ℕ) (m : Mod)
    (inside rest : List ℕ)
    → Begins start bytes
    → drop (length start) bytes ≡ inside ++ rest → spell_mod m ≡ start ++ inside
    → is_empty round rest ≡ true → (bytes ≡ spell_mod m ++ rest → FitsMod depth round m rest)
    → ModOf depth round bytes m rest
behind-start depth round start bytes m inside rest begins is spelled ends fits =
    let all : bytes ≡ spell_mod m ++ rest = begins ∙ ap (λ s. start ++ s) is
    ∙ sym (append_assoc start inside rest) ∙ ap (λ s. s ++ rest) (sym spelled) in
    (all, rest-shorter bytes (spell_mod m) rest all, ends, fits all)

-- the row that the spelling begins, where it is what was read
pub row-same : (round : Bool) (bytes again : List ℕ) (r : Row) → row_of round bytes ≡ r → bytes
    ≡ again
    → row_of round again ≡ r
row-same round bytes again r is same = ap (λ s. row_of round s) (sym same) ∙ is

made-spelled : (depth : ℕ) (refs : Refs) → RefsSpell depth refs
    → (place : Place) (round : Bool) (r : Row)
    → ((byte : ℕ) → may_end place byte ≡ true → ends_modifier round byte ≡ true)
    → (mod_of : Tree → Mod) (start bytes : List ℕ)
    → ((t : Tree) → spell_mod (mod_of t) ≡ start ++ spell t)
    → ((t : Tree) (rest : List ℕ) → row_of round (spell_mod (mod_of t) ++ rest) ≡ r
    → FitsTree depth place t rest → FitsMod depth round (mod_of t) rest)
    → Begins start bytes → row_of round bytes ≡ r
    → OnRead (ModOf depth round bytes)
    (made mod_of (text_in refs place (drop (length start) bytes)))
made-spelled depth refs good place round r ends mod_of start bytes spelled fits begins begun =
    let inside = drop (length start) bytes in
    OnRead-map (TextOf depth place inside) (ModOf depth round bytes)
    (text_in refs place inside) mod_of
    (text_in-spelled depth refs good place inside)
    (λ t rest h. behind-start depth round start bytes (mod_of t) (spell t) rest begins h.0
    (spelled t)
    (is_ended-is_empty place round ends rest h.2)
    (λ all. fits t rest (row-same round bytes (spell_mod (mod_of t) ++ rest) r begun all) h.3))

pub argument_at-spelled : (depth : ℕ) (refs : Refs) → RefsSpell depth refs
    → (round : Bool) (argument : Argument) (bytes : List ℕ)
    → Begins (argument_text argument) bytes → row_of round bytes ≡ row.Argument argument
    → OnRead (ModOf depth round bytes) (argument_at refs round argument bytes)
unfolding spell_mod FitsTree
argument_at-spelled depth refs good round argument.Keep bytes =
    made-spelled depth refs good (place.Pattern round) round (row.Argument argument.Keep)
    (λ byte is. is) keep (codes "M") bytes (λ t. refl) (λ t rest is h. (is, h))
argument_at-spelled depth refs good round argument.Without bytes =
    made-spelled depth refs good (place.Pattern round) round (row.Argument argument.Without)
    (λ byte is. is) without (codes "N") bytes (λ t. refl) (λ t rest is h. (is, h))
argument_at-spelled depth refs good round argument.RangeTo bytes =
    made-spelled depth refs good (place.Count round) round (row.Argument argument.RangeTo)
    (λ byte is. is) range_to (codes "range=") bytes (λ t. refl) (λ t rest is h. (is, h))
argument_at-spelled depth refs good round argument.IfUndefined bytes =
    made-spelled depth refs good (place.Value round) round (row.Argument argument.IfUndefined)
    (λ byte is. is) if_undefined (codes "U") bytes (λ t. refl) (λ t rest is h. (is, h))
argument_at-spelled depth refs good round argument.IfDefined bytes =
    made-spelled depth refs good (place.Value round) round (row.Argument argument.IfDefined)
    (λ byte is. is) if_defined (codes "D") bytes (λ t. refl) (λ t rest is h. (is, h))

-- a text with the delimiter that ends it
abbrev pub ClosedOf : ℕ → Place → ℕ → List ℕ → Tree → List ℕ → Type 0
ClosedOf depth place delim bytes t rest =
    (bytes ≡ spell t ++ delim ∷ rest) × FitsTree depth place t (delim ∷ rest)

past_delim-spelled : (depth : ℕ) (place : Place) (start delim : ℕ)
    → ((byte : ℕ) → may_end place byte ≡ true → byte ≡ delim)
    → (bytes : List ℕ) (t : Tree) (rest : List ℕ) → TextOf depth place bytes t rest
    → OnRead (ClosedOf depth place delim bytes) (past_delim start (t, rest))
past_delim-spelled depth place start delim ends bytes t [] holds = tt
past_delim-spelled depth place start delim ends bytes t (byte ∷ rest) holds =
    let same = ends byte holds.2 in (
      holds.0 ∙ ap (λ d. spell t ++ d ∷ rest) same,
      subst
          (λ d. FitsTree depth place t (d ∷ rest)) same holds.3,
    )

pub closed_at-spelled : (depth : ℕ) (refs : Refs) → RefsSpell depth refs
    → (place : Place) (start delim : ℕ)
    → ((byte : ℕ) → may_end place byte ≡ true → byte ≡ delim)
    → (bytes : List ℕ)
    → OnRead (ClosedOf depth place delim bytes) (closed_at refs start place bytes)
closed_at-spelled depth refs good place start delim ends bytes =
    OnRead-bind (TextOf depth place bytes) (ClosedOf depth place delim bytes)
    (text_in refs place bytes)
    (λ t. past_delim start t) (text_in-spelled depth refs good place bytes)
    (past_delim-spelled depth place start delim ends bytes)

-- the length of a beginning that is no longer than the whole
pub length-beginning : (len : ℕ) (bytes : List ℕ) → len ≤ length bytes → length (take len bytes)
    ≡ len
length-beginning len bytes within = grind (arith, common_steps)

flags-within : (bytes : List ℕ) (found : Option ℕ) → position is_no_flag bytes ≡ found
    → unwrap_or found (length bytes) ≤ length bytes
flags-within bytes None is = omega arith
flags-within bytes (Some len) is = let at = position-Some is_no_flag bytes len 0 is in
    omega (arith, at.0)

-- flags, all that stand there, and behind them a modifier ends
abbrev pub FlagsOf : Bool → List ℕ → List ℕ → List ℕ → Type 0
FlagsOf round bytes flags rest =
    (bytes ≡ flags ++ rest) × (is_empty round rest ≡ true) × (flags_len bytes ≡ length flags)

pub flags_at-spelled : (start : ℕ) (round : Bool) (bytes : List ℕ)
    → OnRead (FlagsOf round bytes) (flags_at start round bytes)
flags_at-spelled start round bytes =
    let len = flags_len bytes in
    let rest = drop len bytes in
    cond_both (is_end round rest) (Ok (take len bytes, rest)) _ (OnRead (FlagsOf round bytes))
    (λ is. (
      sym (take-append-drop len bytes),
      is_end-is_empty round rest is,
      sym
          (length-beginning len bytes (flags-within bytes (position is_no_flag bytes) refl)),
    ))
    (λ _. tt)
