-- What a loop over the parts of a text, or over modifiers, has read so far, one turn after another.
use Rattle.std.proofs.Common.{◌≡◌, ◌≢◌, ℕ, suc, zero, ◌-◌, ◌≤◌, ◌<◌, Bool, true, false, List, []}
use Rattle.std.proofs.Common.{◌∷◌, length, slice_index, Ok, Err, refl, sym, ap, arith, drop}
use Rattle.std.proofs.lemmas.Bool.Decides.{nat_tests}
use Rattle.mk_bytes.specs.Agrees.{◌>>=◌}
use Rattle.mk_bytes.specs.Bytes.{colon, equals_sign}
use Rattle.mk_ast.specs.Tree.{Tree, Part, Mods, Mod, end, part, ref, no_mods, mod_then, tree_append}
use Rattle.mk_ast.specs.Tree.{subst, suffix, mods_append}
use Rattle.mk_ast.specs.Places.{ends_modifier, is_over}
use Rattle.mk_ast.specs.Text.{Read, Refs, part_at, text_at, text_in}
use Rattle.mk_ast.specs.Modifiers.{made, argument_at, argument_place, argument_len, argument_mod}
use Rattle.mk_ast.specs.Modifiers.{closed_at, flags_at, subst_at, new_at, modifier_at}
use Rattle.mk_ast.specs.References.{mods_at, named_at, dollar_before, ref_at}
use Rattle.mk_ast.specs.declared.fault.AstFault.TheVariants.{Unclosed}
use Rattle.mk_ast.specs.declared.place.Place.{Place}
use Rattle.mk_ast.specs.declared.place.Place.TheVariants.{From, To, New}
use Rattle.mk_ast.specs.declared.row.Argument.{Argument}
use Rattle.mk_ast.specs.declared.row.Argument.TheVariants as argument

-- the parts so far, and what is read next
abbrev pub after_parts : Tree → Read Tree → Read Tree
after_parts tree rest = rest >>= λ t. Ok (tree_append tree t.0, t.1)

abbrev pub after_mods : Mods → Read Mods → Read Mods
after_mods mods rest = rest >>= λ m. Ok (mods_append mods m.0, m.1)

pub after_parts-end : (rest : Read Tree) → rest ≡ after_parts end rest
after_parts-end (Ok t) = refl
after_parts-end (Err fault) = refl

pub after_mods-none : (rest : Read Mods) → rest ≡ after_mods no_mods rest
after_mods-none (Ok m) = refl
after_mods-none (Err fault) = refl

tree_append-assoc : (t u v : Tree)
    → tree_append (tree_append t u) v ≡ tree_append t (tree_append u v)
tree_append-assoc end u v = refl
tree_append-assoc (part p t) u v = ap (part p) (tree_append-assoc t u v)

mods_append-assoc : (t u v : Mods)
    → mods_append (mods_append t u) v ≡ mods_append t (mods_append u v)
mods_append-assoc no_mods u v = refl
mods_append-assoc (mod_then m t) u v = ap (mod_then m) (mods_append-assoc t u v)

pub tree_append-end : (tree : Tree) → tree_append tree end ≡ tree
tree_append-end end = refl
tree_append-end (part p tree) = ap (part p) (tree_append-end tree)

pub mods_append-none : (mods : Mods) → mods_append mods no_mods ≡ mods
mods_append-none no_mods = refl
mods_append-none (mod_then m mods) = ap (mod_then m) (mods_append-none mods)

pub after_parts-more : (tree : Tree) (p : Part) (rest : Read Tree)
    → after_parts tree (rest >>= λ t. Ok (part p t.0, t.1))
    ≡ after_parts (tree_append tree (part p end)) rest
after_parts-more tree p (Ok t) =
    ap (λ u. Ok (u, t.1)) (sym (tree_append-assoc tree (part p end) t.0))
after_parts-more tree p (Err fault) = refl

pub after_mods-more : (mods : Mods) (m : Mod) (rest : Read Mods)
    → after_mods mods (rest >>= λ t. Ok (mod_then m t.0, t.1))
    ≡ after_mods (mods_append mods (mod_then m no_mods)) rest
after_mods-more mods m (Ok t) =
    ap (λ u. Ok (u, t.1)) (sym (mods_append-assoc mods (mod_then m no_mods) t.0))
after_mods-more mods m (Err fault) = refl

pub text_at-over : (refs : Refs) (place : Place) (turns : ℕ) (text : List ℕ) → length text ≤ turns
    → is_over place text ≡ true → text_at refs place turns text ≡ Ok (end, text)
unfolding text_at
text_at-over refs place zero text fits over = refl
text_at-over refs place (suc turns) [] fits over = refl
text_at-over refs place (suc turns) (byte ∷ bytes) fits over = rw over refl

pub text_at-more : (refs : Refs) (place : Place) (turns : ℕ) (text : List ℕ) → length text ≤ turns
    → is_over place text ≡ false
    → text_at refs place turns text
    ≡ (part_at refs place (slice_index text 0) (drop 1 text)
    >>= λ p. text_at refs p.1 (turns - 1) p.2
    >>= λ t. Ok (part p.0 t.0, t.1))
unfolding text_at
text_at-more refs place turns [] fits more = cc
text_at-more refs place zero (byte ∷ bytes) fits more = absurd (omega arith)
text_at-more refs place (suc turns) (byte ∷ bytes) fits more =
    let left : suc turns - 1 ≡ turns = omega arith in rw (left, more) refl

pub mods_at-unclosed : (refs : Refs) (total opened : ℕ) (round : Bool) (turns : ℕ) (text : List ℕ)
    → length text ≡ 0 → mods_at refs total opened round turns text ≡ Err (Unclosed opened)
unfolding mods_at
mods_at-unclosed refs total opened round zero text none = refl
mods_at-unclosed refs total opened round (suc turns) [] none = refl
mods_at-unclosed refs total opened round (suc turns) (byte ∷ bytes) none = absurd (omega arith)

pub mods_at-closed : (refs : Refs) (total opened : ℕ) (round : Bool) (turns : ℕ) (text : List ℕ)
    → 0 < length text → length text ≤ turns → slice_index text 0 ≢ colon
    → mods_at refs total opened round turns text ≡ Ok (no_mods, drop 1 text)
unfolding mods_at
mods_at-closed refs total opened round turns [] some fits closed = absurd (omega arith)
mods_at-closed refs total opened round zero (byte ∷ bytes) some fits closed = absurd (omega arith)
mods_at-closed refs total opened round (suc turns) (byte ∷ bytes) some fits closed =
    grind (arith, nat_tests)

pub mods_at-more : (refs : Refs) (total opened : ℕ) (round : Bool) (turns : ℕ) (text : List ℕ)
    → 0 < length text → length text ≤ turns → slice_index text 0 ≡ colon
    → mods_at refs total opened round turns text
    ≡ (modifier_at refs total opened round (drop 1 text)
    >>= λ m. mods_at refs total opened round (turns - 1) m.1
    >>= λ mods. Ok (mod_then m.0 mods.0, mods.1))
unfolding mods_at
mods_at-more refs total opened round turns [] some fits more = absurd (omega arith)
mods_at-more refs total opened round zero (byte ∷ bytes) some fits more = absurd (omega arith)
mods_at-more refs total opened round (suc turns) (byte ∷ bytes) some fits more =
    grind (arith, nat_tests)

pub ref_at-more : (total depth : ℕ) (round : Bool) (text : List ℕ) → depth ≢ 0
    → ref_at total depth round text
    ≡ (named_at (ref_at total (depth - 1)) total (dollar_before total text) round text
    >>= λ n. Ok (ref round n.0.0 n.0.1, n.1))
unfolding ref_at
ref_at-more total zero round text more = absurd (omega arith)
ref_at-more total (suc depth) round text more =
    let left : suc depth - 1 ≡ depth = omega arith in rw left refl

pub argument_at-made : (refs : Refs) (round : Bool) (one : Argument) (text : List ℕ)
    → argument_at refs round one text
    ≡ made (argument_mod one) (text_in refs (argument_place round one) (drop (argument_len one) text))
argument_at-made refs round argument.Keep text = refl
argument_at-made refs round argument.Without text = refl
argument_at-made refs round argument.RangeTo text = refl
argument_at-made refs round argument.IfUndefined text = refl
argument_at-made refs round argument.IfDefined text = refl

pub subst_at-more : (refs : Refs) (start : ℕ) (round : Bool) (text : List ℕ) → 0 < length text
    → ends_modifier round (slice_index text 0) ≡ false
    → subst_at refs start round text
    ≡ (closed_at refs start (From (slice_index text 0) true) (drop 1 text)
    >>= λ from. closed_at refs start (To (slice_index text 0)) from.1
    >>= λ to. flags_at start round to.1
    >>= λ flags. Ok (subst (slice_index text 0) from.0 to.0 flags.0, flags.1))
subst_at-more refs start round [] some goes = absurd (omega arith)
subst_at-more refs start round (delim ∷ bytes) some goes = rw goes refl

pub new_at-more : (refs : Refs) (start opened : ℕ) (round : Bool) (old : Tree) (text : List ℕ)
    → 0 < length text → slice_index text 0 ≡ equals_sign
    → new_at refs start opened round old text
    ≡ made (suffix old) (text_in refs (New round) (drop 1 text))
new_at-more refs start opened round old [] some equals = absurd (omega arith)
new_at-more refs start opened round old (byte ∷ bytes) some equals = rw equals refl
