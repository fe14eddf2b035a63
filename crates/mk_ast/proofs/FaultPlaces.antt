-- Where faults stand. A reader is given an end of a text; it leaves an end of that text, and its
-- fault stands in it.
use Rattle.std.proofs.Common.{◌≡◌, ◌⊎◌, inl, inr, ℕ, zero, suc, ◌+◌, ◌-◌, ◌==◌, ◌||◌, Bool, true, false, List, [], ◌∷◌}
use Rattle.std.proofs.Common.{length, take, drop, slice_get, Option, Some, None, Result, Ok, Err, refl, subst, arith}
use Rattle.std.proofs.lemmas.Bool.{cond_both, eqb-true}
use Rattle.mk_bytes.specs.Agrees.{◌>>=◌}
use Rattle.mk_bytes.specs.Bytes.{dollar, colon, equals_sign, round_open, curly_open}
use Rattle.mk_ast.specs.FaultPlaces.{IsBehindColon, StandsIn}
use Rattle.mk_ast.specs.Tree.{Tree, Part, Mods, Mod, end, part, ref, mod_then, keep, without, subst as subst_mod, select}
use Rattle.mk_ast.specs.Tree.{range_to, if_undefined, if_defined, choose, each, suffix}
use Rattle.mk_ast.specs.Spell.{opener}
use Rattle.mk_ast.specs.Places.{ends, is_escape, is_anchor, after, ends_modifier}
use Rattle.mk_ast.specs.Text.{Read, Refs, Run, is_lone_before, is_plain, plain_run, dollar_at, escaped_at}
use Rattle.mk_ast.specs.Text.{at_place, part_at, text_at, text_in}
use Rattle.mk_ast.specs.Rows.{is_end, row_of}
use Rattle.mk_ast.specs.Separators.{separator_len, name_len}
use Rattle.mk_ast.specs.Modifiers.{made, argument_at, past_delim, closed_at, ended, flags_len, flags_at}
use Rattle.mk_ast.specs.Modifiers.{subst_at, separator_of, select_at, choose_at, each_of, new_at}
use Rattle.mk_ast.specs.Modifiers.{suffix_at, row_at, modifier_at}
use Rattle.mk_ast.specs.References.{mods_at, mods_in, named_at, dollar_before, ref_at, max_open, tree_of_text}
use Rattle.mk_ast.specs.References.{form_at, end_of_form, piece_at, bare_reference_at}
use Rattle.mk_ast.specs.declared.fault.AstFault.{AstFault}
use Rattle.mk_ast.specs.declared.fault.AstFault.TheVariants.{Unclosed, UnknownModifier, BadModifier}
use Rattle.mk_ast.specs.declared.fault.AstFault.TheVariants.{TooDeep}
use Rattle.mk_ast.specs.declared.place.Piece.{Piece}
use Rattle.mk_ast.specs.declared.place.Place.{Place}
use Rattle.mk_ast.specs.declared.place.Place.TheVariants as place
use Rattle.mk_ast.specs.declared.row.Argument.{Argument}
use Rattle.mk_ast.specs.declared.row.Argument.TheVariants as argument
use Rattle.mk_ast.specs.declared.row.Row.{Row}
use Rattle.mk_ast.specs.declared.row.Row.TheVariants as row
use Rattle.mk_ast.proofs.Ends.{IsEnd, IsEnd-whole, IsEnd-drop, IsEnd-tail, IsEnd-at, IsEnd-longer}

module _ (text : List ℕ) (Stands : AstFault → Type 0)
    (stands : (fault : AstFault) → StandsIn text fault → Stands fault) where
  -- what is left ends the text, and a fault stands in it
  abbrev pub Placed : {A : Type 0} → Read A → Type 0
  Placed (Ok x) = IsEnd text x.1
  Placed (Err fault) = Stands fault

  both-placed : {A B : Type 0} (first : Read A) (next : A × List ℕ → Read B) → Placed first
      → ((x : A) (rest : List ℕ) → IsEnd text rest → Placed (next (x, rest)))
      → Placed (first >>= next)
  both-placed (Ok x) next holds goes = goes x.0 x.1 holds
  both-placed (Err fault) next holds goes = holds

  mapped : {A B : Type 0} (first : Read A) (f : A → B) → Placed first
      → Placed (first >>= λ x. Ok (f x.0, x.1))
  mapped (Ok x) f holds = holds
  mapped (Err fault) f holds = holds

  -- a reader of references, behind their openers
  abbrev pub RefsPlaced : Refs → Type 0
  RefsPlaced refs =
      (round : Bool) (bytes : List ℕ) → IsEnd text (dollar ∷ opener round ∷ bytes)
      → Placed (refs round bytes)

  pub dollar_at-placed : (refs : Refs) → RefsPlaced refs → (place : Place) (bytes : List ℕ)
      → IsEnd text (dollar ∷ bytes) → Placed (dollar_at refs place bytes)
  dollar_at-placed refs good place [] is = IsEnd-tail text dollar [] is
  dollar_at-placed refs good place (byte ∷ bytes) is =
      let here = IsEnd-tail text dollar (byte ∷ bytes) is in
      let behind = IsEnd-tail text byte bytes here in
      let P : Read Part → Type 0 = λ r. Placed r in
      let Q : ℕ → Type 0 = λ d. IsEnd text (dollar ∷ d ∷ bytes) in
      cond_both (is_anchor place byte || is_lone_before byte) _ _ P (λ _. here)
      (λ _. cond_both (byte == dollar) _ _ P (λ _. behind)
      (λ _. cond_both (byte == curly_open) _ _ P
      (λ same. good false bytes (subst Q (eqb-true byte curly_open same) is))
      (λ _. cond_both (byte == round_open) _ _ P
      (λ same. good true bytes (subst Q (eqb-true byte round_open same) is))
      (λ _. behind))))

  -- the same of a part with its place
  abbrev PartPlaced : Result (Part × Place × List ℕ) AstFault → Type 0
  PartPlaced (Ok p) = IsEnd text p.2
  PartPlaced (Err fault) = Stands fault

  plain_run-ends : (place : Place) (bytes : List ℕ) → IsEnd text bytes
      → IsEnd text (plain_run place bytes).2
  plain_run-ends place [] is = is
  plain_run-ends place (byte ∷ bytes) is =
      cond_both (is_plain place byte bytes) _ _ (λ (run : Run). IsEnd text run.2)
      (λ _. plain_run-ends (after place byte) bytes (IsEnd-tail text byte bytes is))
      (λ _. is)

  escaped-ends : (bytes : List ℕ) → IsEnd text bytes → IsEnd text (escaped_at bytes).1
  escaped-ends [] is = is
  escaped-ends (byte ∷ bytes) is = IsEnd-tail text byte bytes is

  at-placed : (place : Place) (r : Read Part) → Placed r
      → PartPlaced (r >>= λ p. Ok (at_place place p))
  at-placed place (Ok p) holds = holds
  at-placed place (Err fault) holds = holds

  part_at-placed : (refs : Refs) → RefsPlaced refs → (place : Place) (byte : ℕ) (bytes : List ℕ)
      → IsEnd text (byte ∷ bytes) → PartPlaced (part_at refs place byte bytes)
  part_at-placed refs good place byte bytes is =
      let behind = IsEnd-tail text byte bytes is in
      cond_both (byte == dollar) _ _ PartPlaced
      (λ same. at-placed (after place byte) (dollar_at refs place bytes)
      (dollar_at-placed refs good place bytes
      (subst (λ d. IsEnd text (d ∷ bytes)) (eqb-true byte dollar same) is)))
      (λ _. cond_both (is_escape place byte bytes) _ _ PartPlaced
      (λ _. escaped-ends bytes behind)
      (λ _. plain_run-ends (after place byte) bytes behind))

  part-more : (r : Result (Part × Place × List ℕ) AstFault)
      (next : Part × Place × List ℕ → Read Tree) → PartPlaced r
      → ((p : Part × Place × List ℕ) → IsEnd text p.2 → Placed (next p))
      → Placed (r >>= λ p. next p >>= λ t. Ok (part p.0 t.0, t.1))
  part-more (Ok p) next holds goes = mapped (next p) (part p.0) (goes p holds)
  part-more (Err fault) next holds goes = holds

  text_at-placed : (refs : Refs) → RefsPlaced refs → (place : Place) (turns : ℕ) (bytes : List ℕ)
      → IsEnd text bytes → Placed (text_at refs place turns bytes)
  unfolding text_at
  text_at-placed refs good place zero bytes is = is
  text_at-placed refs good place (suc turns) [] is = is
  text_at-placed refs good place (suc turns) (byte ∷ bytes) is =
      let P : Read Tree → Type 0 = λ r. Placed r in
      cond_both (ends place byte) _ _ P (λ _. is)
      (λ _. part-more (part_at refs place byte bytes) (λ p. text_at refs p.1 turns p.2)
      (part_at-placed refs good place byte bytes is)
      (λ p here. text_at-placed refs good p.1 turns p.2 here))

  pub text_in-placed : (refs : Refs) → RefsPlaced refs → (place : Place) (bytes : List ℕ)
      → IsEnd text bytes → Placed (text_in refs place bytes)
  text_in-placed refs good place bytes is = text_at-placed refs good place (length bytes) bytes is

  -- Modifiers

  made-placed : (refs : Refs) → RefsPlaced refs → (mod_of : Tree → Mod) (place : Place) (n : ℕ)
      (bytes : List ℕ) → IsEnd text bytes → Placed (made mod_of (text_in refs place (drop n bytes)))
  made-placed refs good mod_of place n bytes is =
      mapped (text_in refs place (drop n bytes)) mod_of
      (text_in-placed refs good place (drop n bytes) (IsEnd-drop text bytes n is))

  argument_at-placed : (refs : Refs) → RefsPlaced refs → (round : Bool) (argument : Argument)
      (bytes : List ℕ) → IsEnd text bytes → Placed (argument_at refs round argument bytes)
  argument_at-placed refs good round argument.Keep bytes is =
      made-placed refs good keep (place.Pattern round) 1 bytes is
  argument_at-placed refs good round argument.Without bytes is =
      made-placed refs good without (place.Pattern round) 1 bytes is
  argument_at-placed refs good round argument.RangeTo bytes is =
      made-placed refs good range_to (place.Count round) 6 bytes is
  argument_at-placed refs good round argument.IfUndefined bytes is =
      made-placed refs good if_undefined (place.Value round) 1 bytes is
  argument_at-placed refs good round argument.IfDefined bytes is =
      made-placed refs good if_defined (place.Value round) 1 bytes is

  past_delim-placed : (start : ℕ) → IsBehindColon text start → (t : Tree) (rest : List ℕ)
      → IsEnd text rest → Placed (past_delim start (t, rest))
  past_delim-placed start begun t [] is = stands (BadModifier start) begun
  past_delim-placed start begun t (byte ∷ rest) is = IsEnd-tail text byte rest is

  closed_at-placed : (refs : Refs) → RefsPlaced refs → (start : ℕ) → IsBehindColon text start
      → (place : Place) (bytes : List ℕ) → IsEnd text bytes
      → Placed (closed_at refs start place bytes)
  closed_at-placed refs good start begun place bytes is =
      both-placed (text_in refs place bytes) (λ t. past_delim start t)
      (text_in-placed refs good place bytes is) (past_delim-placed start begun)

  ended-placed : (start : ℕ) → IsBehindColon text start → (round : Bool) (m : Mod)
      (bytes : List ℕ) → IsEnd text bytes → Placed (ended start round m bytes)
  ended-placed start begun round m bytes is =
      let P : Read Mod → Type 0 = λ r. Placed r in
      cond_both (is_end round bytes) _ _ P (λ _. is) (λ _. stands (BadModifier start) begun)

  flags_at-placed : (start : ℕ) → IsBehindColon text start → (round : Bool) (bytes : List ℕ)
      → IsEnd text bytes → Placed (flags_at start round bytes)
  flags_at-placed start begun round bytes is =
      let P : Read (List ℕ) → Type 0 = λ r. Placed r in
      cond_both (is_end round (drop (flags_len bytes) bytes)) _ _ P
      (λ _. IsEnd-drop text bytes (flags_len bytes) is) (λ _. stands (BadModifier start) begun)

  subst_at-placed : (refs : Refs) → RefsPlaced refs → (start : ℕ) → IsBehindColon text start
      → (round : Bool) (bytes : List ℕ) → IsEnd text bytes → Placed (subst_at refs start round bytes)
  subst_at-placed refs good start begun round [] is = stands (BadModifier start) begun
  subst_at-placed refs good start begun round (delim ∷ bytes) is =
      let P : Read Mod → Type 0 = λ r. Placed r in
      cond_both (ends_modifier round delim) _ _ P (λ _. stands (BadModifier start) begun)
      (λ _. both-placed (closed_at refs start (place.From delim true) bytes) _
      (closed_at-placed refs good start begun (place.From delim true) bytes
      (IsEnd-tail text delim bytes is))
      (λ from left here. both-placed (closed_at refs start (place.To delim) left) _
      (closed_at-placed refs good start begun (place.To delim) left here)
      (λ to more there. mapped (flags_at start round more) (subst_mod delim from to)
      (flags_at-placed start begun round more there))))

  separator_of-placed : (start : ℕ) → IsBehindColon text start → (bytes : List ℕ)
      (found : Option ℕ) → IsEnd text bytes → Placed (separator_of start bytes found)
  separator_of-placed start begun bytes None is = stands (BadModifier start) begun
  separator_of-placed start begun bytes (Some len) is = IsEnd-drop text bytes len is

  select_at-placed : (refs : Refs) → RefsPlaced refs → (start : ℕ) → IsBehindColon text start
      → (round : Bool) (bytes : List ℕ) → IsEnd text bytes
      → Placed (select_at refs start round bytes)
  select_at-placed refs good start begun round bytes is =
      both-placed (closed_at refs start place.Select bytes) _
      (closed_at-placed refs good start begun place.Select bytes is)
      (λ t rest here. ended-placed start begun round (select t) rest here)

  choose_at-placed : (refs : Refs) → RefsPlaced refs → (start : ℕ) → IsBehindColon text start
      → (round : Bool) (bytes : List ℕ) → IsEnd text bytes
      → Placed (choose_at refs start round bytes)
  choose_at-placed refs good start begun round bytes is =
      both-placed (closed_at refs start (place.IfTrue round) bytes) _
      (closed_at-placed refs good start begun (place.IfTrue round) bytes is)
      (λ first left here. both-placed (text_in refs (place.IfFalse round) left) _
      (text_in-placed refs good (place.IfFalse round) left here)
      (λ second rest there. ended-placed start begun round (choose first second) rest there))

  each_of-placed : (refs : Refs) → RefsPlaced refs → (start : ℕ) → IsBehindColon text start
      → (round : Bool) (bytes : List ℕ) (found : Option ℕ) → IsEnd text bytes
      → Placed (each_of refs start round bytes found)
  each_of-placed refs good start begun round bytes None is = stands (BadModifier start) begun
  each_of-placed refs good start begun round bytes (Some len) is =
      both-placed (closed_at refs start place.Body (drop (len + 1) bytes)) _
      (closed_at-placed refs good start begun place.Body (drop (len + 1) bytes)
      (IsEnd-drop text bytes (len + 1) is))
      (λ body rest here. ended-placed start begun round (each (take len bytes) body) rest here)

  new_at-placed : (refs : Refs) → RefsPlaced refs → (start : ℕ) → IsBehindColon text start
      → (opened : ℕ) → Stands (Unclosed opened) → (round : Bool) (old : Tree) (bytes : List ℕ)
      → IsEnd text bytes → Placed (new_at refs start opened round old bytes)
  new_at-placed refs good start begun opened told round old [] is = told
  new_at-placed refs good start begun opened told round old (byte ∷ bytes) is =
      let P : Read Mod → Type 0 = λ r. Placed r in
      cond_both (byte == equals_sign) _ _ P
      (λ _. mapped (text_in refs (place.New round) bytes) (suffix old)
      (text_in-placed refs good (place.New round) bytes (IsEnd-tail text byte bytes is)))
      (λ _. stands (UnknownModifier start) begun)

  suffix_at-placed : (refs : Refs) → RefsPlaced refs → (start : ℕ) → IsBehindColon text start
      → (opened : ℕ) → Stands (Unclosed opened) → (round : Bool) (bytes : List ℕ)
      → IsEnd text bytes → Placed (suffix_at refs start opened round bytes)
  suffix_at-placed refs good start begun opened told round bytes is =
      both-placed (text_in refs (place.Old round) bytes) _
      (text_in-placed refs good (place.Old round) bytes is)
      (λ old rest here. new_at-placed refs good start begun opened told round old rest here)

  row_at-placed : (refs : Refs) → RefsPlaced refs → (start : ℕ) → IsBehindColon text start
      → (opened : ℕ) → Stands (Unclosed opened) → (round : Bool) (r : Row) (bytes : List ℕ)
      → IsEnd text bytes → Placed (row_at refs start opened round r bytes)
  row_at-placed refs good start begun opened told round row.LeftOut bytes is =
      stands (UnknownModifier start) begun
  row_at-placed refs good start begun opened told round row.Empty bytes is = is
  row_at-placed refs good start begun opened told round (row.Word word) bytes is =
      IsEnd-drop text bytes _ is
  row_at-placed refs good start begun opened told round (row.Argument argument) bytes is =
      argument_at-placed refs good round argument bytes is
  row_at-placed refs good start begun opened told round row.Subst bytes is =
      subst_at-placed refs good start begun round (drop 1 bytes) (IsEnd-drop text bytes 1 is)
  row_at-placed refs good start begun opened told round row.Separator bytes is =
      separator_of-placed start begun (drop 2 bytes) (separator_len round (drop 2 bytes))
      (IsEnd-drop text bytes 2 is)
  row_at-placed refs good start begun opened told round row.Select bytes is =
      select_at-placed refs good start begun round (drop 1 bytes) (IsEnd-drop text bytes 1 is)
  row_at-placed refs good start begun opened told round row.Choose bytes is =
      choose_at-placed refs good start begun round (drop 1 bytes) (IsEnd-drop text bytes 1 is)
  row_at-placed refs good start begun opened told round row.Each bytes is =
      each_of-placed refs good start begun round (drop 1 bytes) (name_len (drop 1 bytes))
      (IsEnd-drop text bytes 1 is)
  row_at-placed refs good start begun opened told round row.Suffix bytes is =
      suffix_at-placed refs good start begun opened told round bytes is

  -- a modifier begins behind its `:`
  modifier-begun : (bytes : List ℕ) → IsEnd text (colon ∷ bytes)
      → IsBehindColon text (length text - length bytes)
  modifier-begun bytes is = (
    length text - (length bytes + 1),
    omega (arith, IsEnd-longer text (colon ∷ bytes) is),
    IsEnd-at text colon bytes _ is refl,
  )

  modifier_at-placed : (refs : Refs) → RefsPlaced refs → (opened : ℕ) → Stands (Unclosed opened)
      → (round : Bool) (bytes : List ℕ) → IsEnd text (colon ∷ bytes)
      → Placed (modifier_at refs (length text) opened round bytes)
  modifier_at-placed refs good opened told round bytes is =
      row_at-placed refs good (length text - length bytes) (modifier-begun bytes is) opened told round
      (row_of round bytes) bytes (IsEnd-tail text colon bytes is)

  -- References

  mods_at-placed : (refs : Refs) → RefsPlaced refs → (opened : ℕ) → Stands (Unclosed opened)
      → (round : Bool) (turns : ℕ) (bytes : List ℕ) → IsEnd text bytes
      → Placed (mods_at refs (length text) opened round turns bytes)
  unfolding mods_at
  mods_at-placed refs good opened told round zero bytes is = told
  mods_at-placed refs good opened told round (suc turns) [] is = told
  mods_at-placed refs good opened told round (suc turns) (byte ∷ bytes) is =
      let P : Read Mods → Type 0 = λ r. Placed r in
      cond_both (byte == colon) _ _ P
      (λ same. both-placed (modifier_at refs (length text) opened round bytes) _
      (modifier_at-placed refs good opened told round bytes
      (subst (λ d. IsEnd text (d ∷ bytes)) (eqb-true byte colon same) is))
      (λ m rest here. mapped (mods_at refs (length text) opened round turns rest) (mod_then m)
      (mods_at-placed refs good opened told round turns rest here)))
      (λ _. IsEnd-tail text byte bytes is)

  pub named_at-placed : (refs : Refs) → RefsPlaced refs → (opened : ℕ) → Stands (Unclosed opened)
      → (round : Bool) (bytes : List ℕ) → IsEnd text bytes
      → Placed (named_at refs (length text) opened round bytes)
  named_at-placed refs good opened told round bytes is =
      both-placed (text_in refs (place.Name round 0) bytes) _
      (text_in-placed refs good (place.Name round 0) bytes is)
      (λ name rest here. mapped (mods_in refs (length text) opened round rest) (λ mods. (name, mods))
      (mods_at-placed refs good opened told round (length rest) rest here))

  dollar-stands : (round : Bool) (bytes : List ℕ) → IsEnd text (dollar ∷ opener round ∷ bytes)
      → slice_get text (dollar_before (length text) bytes) ≡ Some dollar
  dollar-stands round bytes is = IsEnd-at text dollar (opener round ∷ bytes) _ is (omega arith)

  pub ref_at-placed : (depth : ℕ) → RefsPlaced (ref_at (length text) depth)
  unfolding ref_at
  ref_at-placed zero round bytes is =
      stands (TooDeep (dollar_before (length text) bytes)) (dollar-stands round bytes is)
  ref_at-placed (suc depth) round bytes is =
      let opened = dollar_before (length text) bytes in
      let inside = IsEnd-tail text (opener round) bytes
      (IsEnd-tail text dollar (opener round ∷ bytes) is) in
      mapped (named_at (ref_at (length text) depth) (length text) opened round bytes)
      (λ n. ref round n.0 n.1)
      (named_at-placed (ref_at (length text) depth) (ref_at-placed depth) opened
      (stands (Unclosed opened) (dollar-stands round bytes is)) round bytes inside)

-- Whole texts, and their parts

pub same : (text : List ℕ) (fault : AstFault) → StandsIn text fault → StandsIn text fault
same text fault is = is

left_out : {A B : Type 0} (text : List ℕ) (r : Read A) (f : A × List ℕ → B) (fault : AstFault)
    → Placed text (StandsIn text) (same text) r → (r >>= λ x. Ok (f x)) ≡ Err fault
    → StandsIn text fault
left_out text (Ok x) f fault holds is = absurd cc
left_out text (Err other) f fault holds is =
    let one : other ≡ fault = cc in subst (StandsIn text) one holds

-- a fault of a text stands in it
pub tree_of_text-placed : (text : List ℕ) (fault : AstFault) → tree_of_text text ≡ Err fault
    → StandsIn text fault
tree_of_text-placed text fault is =
    let refs = ref_at (length text) max_open in
    left_out text (text_in refs place.Whole text) (λ t. t.0) fault
    (text_in-placed text (StandsIn text) (same text) refs
    (ref_at-placed text (StandsIn text) (same text) max_open) place.Whole text (IsEnd-whole text)) is

-- so does a fault of one form in it
pub end_of_form-placed : (text : List ℕ) (at : ℕ) (fault : AstFault)
    → IsEnd text (dollar ∷ drop (at + 1) text) → end_of_form text at ≡ Err fault
    → StandsIn text fault
end_of_form-placed text at fault begins is =
    let refs = ref_at (length text) max_open in
    left_out text (form_at (length text) (drop (at + 1) text)) (λ p. length text - length p.1) fault
    (dollar_at-placed text (StandsIn text) (same text) refs
    (ref_at-placed text (StandsIn text) (same text) max_open) place.Whole (drop (at + 1) text)
    begins) is

-- what a piece of a condition leaves ends the condition, and its fault stands in it
pub piece_at-placed : (text : List ℕ) (piece : Piece) (bytes : List ℕ) → IsEnd text bytes
    → Placed text (StandsIn text) (same text) (piece_at (length text) piece bytes)
piece_at-placed text piece bytes is =
    text_in-placed text (StandsIn text) (same text) (ref_at (length text) max_open)
    (ref_at-placed text (StandsIn text) (same text) max_open) (place.Piece piece) bytes is

-- a fault of a reference that has no `$`
abbrev pub StandsInBare : List ℕ → AstFault → Type 0
StandsInBare text fault = StandsIn text fault ⊎ (fault ≡ Unclosed (length text))

pub in_bare : (text : List ℕ) (fault : AstFault) → StandsIn text fault → StandsInBare text fault
in_bare text fault is = inl is

pub bare_reference_at-placed : (text bytes : List ℕ) → IsEnd text bytes
    → Placed text (StandsInBare text) (in_bare text) (bare_reference_at (length text) bytes)
bare_reference_at-placed text bytes is =
    let refs = ref_at (length text) (max_open - 1) in
    mapped text (StandsInBare text) (in_bare text)
    (named_at refs (length text) (length text) true bytes) (λ n. part (ref true n.0 n.1) end)
    (named_at-placed text (StandsInBare text) (in_bare text) refs
    (ref_at-placed text (StandsInBare text) (in_bare text) (max_open - 1)) (length text) (inr refl)
    true bytes is)
