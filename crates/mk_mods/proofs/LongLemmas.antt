-- Words that are too long for a printed text.
use Rattle.std.proofs.Common.{◌≡◌, ℕ, ◌+◌, ◌<◌, ◌≤◌, Bool, true, false, List, [], ◌∷◌, length, length-append, Option, Some, None, option_map, unwrap_or, Err, refl, ap, ◌∙◌, arith}
use Rattle.std.proofs.lemmas.Bool.Decides.{nat_tests}
use Rattle.mk_pieces.specs.Limits.{max_text, total, AreTooLong}
use Rattle.mk_mods.specs.Limits.{fits, limited}
use Rattle.mk_mods.specs.Steps.{items_behind}
use Rattle.mk_mods.specs.State.{State, joined, behind, filled, with_words, with_items}
use Rattle.mk_pieces.specs.declared.fault.ModFault.TheVariants.{TooLong}
use Rattle.mk_mods.specs.declared.modifier.Mod.{Mod}
use Rattle.mk_mods.specs.declared.val.Separator.{Separator}

-- empty texts add no bytes
total-filled : (texts : List (List ℕ)) → total (filled texts) ≡ total texts
total-filled [] = refl
total-filled ([] ∷ texts) = total-filled texts ∙ omega arith
total-filled ((byte ∷ bytes) ∷ texts) = ap (λ n. length (byte ∷ bytes) + n) (total-filled texts)

total-behind : (separator : Separator) (left : List ℕ) (texts : List (List ℕ))
    → total texts ≤ length (behind separator left texts)
total-behind separator left [] = omega arith
total-behind separator left (text ∷ texts) =
    let rest = total-behind separator text texts in
    rw (length-append, length-append) (omega (arith, rest))

-- what stands between texts adds to them
total-joined : (separator : Separator) (texts : List (List ℕ))
    → total texts ≤ length (joined separator texts)
total-joined separator [] = omega arith
total-joined separator (text ∷ texts) =
    let rest = total-behind separator text texts in rw length-append (omega (arith, rest))

-- a state of items that are too long does not fit
too_long : (state : State) → max_text < total state.items → limited (Some state) ≡ Err TooLong
too_long state long =
    let more = total-joined state.separator state.items in
    let no : fits state ≡ false = grind (arith, nat_tests, long, more) in
    rw no refl

pub items_long : (modifier : Mod) (state : State) → AreTooLong (items_behind modifier state)
    → limited (Some (with_items state (items_behind modifier state))) ≡ Err TooLong
items_long modifier state long = too_long (with_items state (items_behind modifier state)) long

with_words-long : (state : State) (words : List (List ℕ)) (one_word : Bool)
    → state.one_word ≡ one_word → max_text < total words
    → max_text < total (with_words state words).items
with_words-long state words true is long = rw is long
with_words-long state words false is long = rw (is, total-filled words) long

pub worked_long : (state : State) (found : Option (List (List ℕ)))
    → AreTooLong (unwrap_or found []) → limited (option_map (with_words state) found) ≡ Err TooLong
worked_long state None long = absurd (omega (arith, long))
worked_long state (Some words) long =
    too_long (with_words state words) (with_words-long state words state.one_word refl long)
