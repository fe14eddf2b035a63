-- The parts of texts, and the rows of modifiers, read from what a tree spells.
use Rattle.std.proofs.Common.{◌≡◌, ℕ, suc, ◌+◌, ◌-◌, ◌<◌, ◌≤◌, ◌==◌, ◌||◌, Bool, true, false, List}
use Rattle.std.proofs.Common.{[], ◌∷◌, ◌++◌, length, drop, slice_index, Some, Ok, refl, sym, ap}
use Rattle.std.proofs.Common.{◌∙◌, arith, length-append}
use Rattle.std.proofs.Math.Seq.{drop-append_seam, take-append_seam}
use Rattle.std.proofs.lemmas.Bool.{or_parts, not-true}
use Rattle.std.proofs.lemmas.List.{drop-drop}
use Rattle.mk_bytes.specs.Bytes.{dollar, round_open, curly_open, colon, equals_sign, at_sign}
use Rattle.mk_bytes.specs.Bytes.{square_close}
use Rattle.mk_ast.specs.Tree.{Tree, Part, Mods, Mod, part, plain, lone, short, ref, no_mods}
use Rattle.mk_ast.specs.Tree.{mod_then, subst, separator, select, choose, each, suffix}
use Rattle.mk_ast.specs.Spell.{opener, closer, spell, spell_part, spell_mods, spell_mod}
use Rattle.mk_ast.specs.Places.{ends_modifier, ends, is_over, is_escape, after}
use Rattle.mk_ast.specs.Text.{Read, Refs, is_plain, plain_run, dollar_at, plain_part, part_at}
use Rattle.mk_ast.specs.Text.{text_at, text_in}
use Rattle.mk_ast.specs.Rows.{is_end, word_text, word_mod, row_of}
use Rattle.mk_ast.specs.Separators.{separator_len, name_len}
use Rattle.mk_ast.specs.Modifiers.{closed_at, flags_len, flags_at, subst_at, separator_of}
use Rattle.mk_ast.specs.Modifiers.{select_at, choose_at, each_of, suffix_at, row_at, modifier_at}
use Rattle.mk_ast.specs.References.{mods_in, dollar_before, ref_at}
use Rattle.mk_ast.specs.WellFormed.{after_all, after_part, is_lone, is_taken, FitsWord}
use Rattle.mk_ast.specs.declared.place.Place.{Place}
use Rattle.mk_ast.specs.declared.place.Place.TheVariants as places
use Rattle.mk_ast.specs.declared.row.Row.{Row}
use Rattle.mk_ast.specs.declared.row.Row.TheVariants as row
use Rattle.mk_ast.proofs.SpelledRows.{word_mod-text}
use Rattle.mk_ast.proofs.Turns.{text_at-more}

-- a part is read from its bytes, which are some
abbrev pub ReadsPart : Refs → Place → Part → List ℕ → Type 0
ReadsPart refs place p more =
    let text = spell_part p ++ more in
    (is_over place text ≡ false) × (length more < length text)
    × (part_at refs place (slice_index text 0) (drop 1 text) ≡ Ok (p, after_part place p, more))

-- plain bytes, where they are all that stand there
plain-first : (place : Place) (byte : ℕ) (bytes more : List ℕ) (next : Place)
    → plain_run place (byte ∷ (bytes ++ more)) ≡ (byte ∷ bytes, next, more)
    → is_plain place byte (bytes ++ more) ≡ true
plain-first place byte bytes more next is = first (is_plain place byte (bytes ++ more)) refl
  where
    first : (t : Bool) → is_plain place byte (bytes ++ more) ≡ t
        → is_plain place byte (bytes ++ more) ≡ true
    first true same = same
    first false same = let none : [] ≡ byte ∷ bytes = rw same at (ap (λ run. run.0) is) in cc

pub plain-reads : (refs : Refs) (place : Place) (bytes more : List ℕ) → 0 < length bytes
    → plain_run place (bytes ++ more) ≡ (bytes, after_all place bytes, more)
    → ReadsPart refs place (plain bytes) more
unfolding spell
plain-reads refs place [] more some is = absurd (omega arith)
plain-reads refs place (byte ∷ bytes) more some is =
    let rest = bytes ++ more in
    let first = plain-first place byte bytes more (after_all (after place byte) bytes) is in
    let neither = not-true (ends place byte || byte == dollar || is_escape place byte rest) first in
    let apart = or_parts (ends place byte || byte == dollar) (is_escape place byte rest) neither in
    let parts = or_parts (ends place byte) (byte == dollar) apart.0 in
    let run = rw first at is in (
      parts.0,
      omega (arith, length-append bytes more),
      rw (parts.1, apart.1) (ap (λ r. Ok (plain_part r)) run),
    )

-- a `$` that is no end begins what is read behind it
pub dollar-reads : (refs : Refs) (place : Place) (p : Part) (bytes more : List ℕ)
    → ends place dollar ≡ false
    → dollar_at refs place bytes ≡ Ok (p, more)
    → part_at refs place dollar bytes ≡ Ok (p, after place dollar, more)
dollar-reads refs place p bytes more apart is = rw is refl

pub lone-reads : (refs : Refs) (place : Place) (more : List ℕ) → is_lone place more ≡ true
    → dollar_at refs place more ≡ Ok (lone, more)
lone-reads refs place [] is = refl
lone-reads refs place (byte ∷ more) is = rw is refl

pub short-reads : (refs : Refs) (place : Place) (byte : ℕ) (more : List ℕ)
    → is_lone place (byte ∷ more) ≡ false → is_taken byte ≡ false
    → dollar_at refs place (byte ∷ more) ≡ Ok (short byte, more)
short-reads refs place byte more other free =
    let apart = or_parts (byte == dollar || byte == curly_open) (byte == round_open) free in
    let parts = or_parts (byte == dollar) (byte == curly_open) apart.0 in
    rw (other, parts.0, parts.1, apart.1) refl

pub opener-reads : (refs : Refs) (place : Place) (round : Bool) (more : List ℕ)
    → is_lone place (opener round ∷ more) ≡ false
    → dollar_at refs place (opener round ∷ more) ≡ refs round more
opener-reads refs place true more other = rw other refl
opener-reads refs place false more other = rw other refl

-- the modifiers of a reference begin with an end
pub mods-end : (round : Bool) (mods : Mods) (more : List ℕ)
    → is_end round (spell_mods mods ++ closer round ∷ more) ≡ true
unfolding spell_mods
mods-end true no_mods more = refl
mods-end false no_mods more = refl
mods-end round (mod_then m mods) more = refl

pub row-reads : (refs : Refs) (total opened : ℕ) (round : Bool) (bytes : List ℕ) (r : Row)
    (is : Read Mod) → row_of round bytes ≡ r
    → row_at refs (total - length bytes) opened round r bytes ≡ is
    → modifier_at refs total opened round bytes ≡ is
row-reads refs total opened round bytes r is begins reads =
    ap (λ q. row_at refs (total - length bytes) opened round q bytes) begins ∙ reads

pub word-reads : (refs : Refs) (total opened : ℕ) (round : Bool) (m : Mod) (more : List ℕ)
    → FitsWord round m more
    → modifier_at refs total opened round (spell_mod m ++ more) ≡ Ok (m, more)
word-reads refs total opened round m more fits =
    let word = fits.0 in
    let bytes = spell_mod m ++ more in
    let text : spell_mod m ≡ word_text word = ap spell_mod fits.1 ∙ word_mod-text word in
    let rest : drop (length (word_text word)) bytes ≡ more =
    rw text (drop-append_seam (word_text word) more) in
    row-reads refs total opened round bytes (row.Word word) (Ok (m, more)) fits.2
    (ap (λ s. Ok (word_mod word, s)) rest ∙ ap (λ n. Ok (n, more)) (sym fits.1))

closed-reads : (refs : Refs) (start : ℕ) (place : Place) (bytes : List ℕ) (t : Tree) (delim : ℕ)
    (more : List ℕ)
    → text_in refs place bytes ≡ Ok (t, delim ∷ more) → closed_at refs start place bytes
    ≡ Ok (t, more)
closed-reads refs start place bytes t delim more is = rw is refl

flags-reads : (start : ℕ) (round : Bool) (flags more : List ℕ) → flags_len (flags ++ more)
    ≡ length flags → is_end round more ≡ true
    → flags_at start round (flags ++ more) ≡ Ok (flags, more)
flags-reads start round flags more is ends =
    rw (is, drop-append_seam flags more, ends, take-append_seam flags more) refl

pub subst-reads : (refs : Refs) (start : ℕ) (round : Bool) (delim : ℕ) (from to : Tree)
    (flags a b more : List ℕ)
    → ends_modifier round delim ≡ false
    → text_in refs (places.From delim true) a ≡ Ok (from, delim ∷ b)
    → text_in refs (places.To delim) b ≡ Ok (to, delim ∷ (flags ++ more))
    → flags_len (flags ++ more) ≡ length flags → is_end round more ≡ true
    → subst_at refs start round (delim ∷ a) ≡ Ok (subst delim from to flags, more)
subst-reads refs start round delim from to flags a b more apart first second len ends =
    rw (
      apart,
      closed-reads refs start (places.From delim true) a from delim b first,
      closed-reads refs start (places.To delim) b to delim (flags ++ more) second,
      flags-reads start round flags more len ends,
    ) refl

pub separator-reads : (start : ℕ) (round : Bool) (written more : List ℕ)
    → separator_len round (written ++ more) ≡ Some (length written)
    → separator_of start (written ++ more) (separator_len round (written ++ more))
    ≡ Ok (separator written, more)
separator-reads start round written more is =
    ap (separator_of start (written ++ more)) is
    ∙ rw (take-append_seam written more, drop-append_seam written more) refl

pub select-reads : (refs : Refs) (start : ℕ) (round : Bool) (t : Tree) (a more : List ℕ)
    → text_in refs places.Select a ≡ Ok (t, square_close ∷ more) → is_end round more ≡ true
    → select_at refs start round a ≡ Ok (select t, more)
select-reads refs start round t a more is ends =
    rw (closed-reads refs start places.Select a t square_close more is, ends) refl

pub choose-reads : (refs : Refs) (start : ℕ) (round : Bool) (first second : Tree)
    (a b more : List ℕ)
    → text_in refs (places.IfTrue round) a ≡ Ok (first, colon ∷ b)
    → text_in refs (places.IfFalse round) b ≡ Ok (second, more) → is_end round more ≡ true
    → choose_at refs start round a ≡ Ok (choose first second, more)
choose-reads refs start round first second a b more one two ends =
    rw (closed-reads refs start (places.IfTrue round) a first colon b one, two, ends) refl

pub each-reads : (refs : Refs) (start : ℕ) (round : Bool) (name : List ℕ) (body : Tree)
    (a more : List ℕ)
    → name_len (name ++ at_sign ∷ a) ≡ Some (length name)
    → text_in refs places.Body a ≡ Ok (body, at_sign ∷ more) → is_end round more ≡ true
    → each_of refs start round (name ++ at_sign ∷ a) (name_len (name ++ at_sign ∷ a))
    ≡ Ok (each name body, more)
each-reads refs start round name body a more len is ends =
    let text = name ++ at_sign ∷ a in
    let behind : drop (length name + 1) text ≡ a = sym (drop-drop 1 (length name) text)
    ∙ ap (drop 1) (drop-append_seam name (at_sign ∷ a)) in
    ap (each_of refs start round text) len
    ∙ rw (
      behind,
      closed-reads refs start places.Body a body at_sign more is,
      ends,
      take-append_seam
          name (at_sign ∷ a),
    ) refl

pub suffix-reads : (refs : Refs) (start opened : ℕ) (round : Bool) (old new : Tree)
    (a b more : List ℕ)
    → text_in refs (places.Old round) a ≡ Ok (old, equals_sign ∷ b)
    → text_in refs (places.New round) b ≡ Ok (new, more)
    → suffix_at refs start opened round a ≡ Ok (suffix old new, more)
suffix-reads refs start opened round old new a b more first second = rw (first, second) refl

-- a part, and then the text behind it
pub text-reads : (refs : Refs) (place : Place) (turns : ℕ) (p : Part) (tree : Tree)
    (bytes more : List ℕ)
    → length (spell_part p ++ bytes) ≤ turns → ReadsPart refs place p bytes
    → text_at refs (after_part place p) (turns - 1) bytes ≡ Ok (tree, more)
    → text_at refs place turns (spell_part p ++ bytes) ≡ Ok (part p tree, more)
text-reads refs place turns p tree bytes more fits first rest =
    text_at-more refs place turns (spell_part p ++ bytes) fits first.0 ∙ rw (first.2, rest) refl

-- a reference, from its name and its modifiers
pub ref-reads : (total depth : ℕ) (round : Bool) (name : Tree) (mods : Mods)
    (bytes behind more : List ℕ)
    → text_in (ref_at total depth) (places.Name round 0) bytes ≡ Ok (name, behind)
    → mods_in (ref_at total depth) total (dollar_before total bytes) round behind ≡ Ok (mods, more)
    → ref_at total (suc depth) round bytes ≡ Ok (ref round name mods, more)
unfolding ref_at
ref-reads total depth round name mods bytes behind more first second = rw (first, second) refl
