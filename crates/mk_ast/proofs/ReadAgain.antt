-- What a well-formed tree spells is read as that tree.
use Rattle.std.proofs.Common.{◌≡◌, sym, ap, ◌∙◌, ℕ, zero, suc, ◌-◌, ◌<◌, ◌≤◌, Bool, true, false}
use Rattle.std.proofs.Common.{List, [], ◌∷◌, ◌++◌, length, drop, Ok, refl, ap, ◌∙◌, arith}
use Rattle.std.proofs.Common.{append_assoc, length-append}
use Rattle.std.proofs.lemmas.List.{append-nil}
use Rattle.mk_bytes.specs.Bytes.{dollar, colon, equals_sign, at_sign, square_close}
use Rattle.mk_ast.specs.Tree.{Tree, Part, Mods, Mod, end, part, plain, escaped, double, lone, short}
use Rattle.mk_ast.specs.Tree.{ref, no_mods, mod_then, keep, without, subst, separator, select}
use Rattle.mk_ast.specs.Tree.{range_to, if_undefined, if_defined, choose, each, suffix, empty}
use Rattle.mk_ast.specs.Spell.{opener, closer, spell, spell_part, spell_mods, spell_mod}
use Rattle.mk_ast.specs.Places.{ends}
use Rattle.mk_ast.specs.Text.{text_at, text_in}
use Rattle.mk_ast.specs.Rows.{is_end}
use Rattle.mk_ast.specs.Separators.{name_len}
use Rattle.mk_ast.specs.Modifiers.{subst_at, select_at, choose_at, each_of, suffix_at, modifier_at}
use Rattle.mk_ast.specs.References.{mods_at, dollar_before, ref_at, max_open, tree_of_text}
use Rattle.mk_ast.specs.WellFormed.{after_part, FitsTree, FitsPart, FitsMods, FitsMod, IsWellFormed}
use Rattle.mk_ast.specs.declared.place.Place.{Place}
use Rattle.mk_ast.specs.declared.place.Place.TheVariants as places
use Rattle.mk_ast.specs.declared.row.Row.TheVariants as row
use Rattle.mk_ast.proofs.Turns.{text_at-over}
use Rattle.mk_ast.proofs.ReadParts.{ReadsPart, plain-reads, dollar-reads, lone-reads, short-reads}
use Rattle.mk_ast.proofs.ReadParts.{opener-reads, mods-end, row-reads, word-reads, subst-reads}
use Rattle.mk_ast.proofs.ReadParts.{separator-reads, select-reads, choose-reads, each-reads}
use Rattle.mk_ast.proofs.ReadParts.{suffix-reads, text-reads, ref-reads}

mutual
  unfolding FitsTree spell mods_at

  pub tree-reads : (total depth : ℕ) (place : Place) (tree : Tree) (more : List ℕ) (turns : ℕ)
      → FitsTree depth place tree more
      → length (spell tree ++ more) ≤ turns
      → text_at (ref_at total depth) place turns (spell tree ++ more) ≡ Ok (tree, more)
  tree-reads total depth place end more turns fits within =
      text_at-over (ref_at total depth) place turns more within fits
  tree-reads total depth place (part p tree) more turns fits within =
      let refs = ref_at total depth in
      let bytes = spell tree ++ more in
      let same : (spell_part p ++ spell tree) ++ more ≡ spell_part p ++ bytes =
      append_assoc (spell_part p) (spell tree) more in
      let first = part-reads total depth place p bytes fits.0 in
      let all : length (spell_part p ++ bytes) ≤ turns = rw same at within in
      rw same (text-reads refs place turns p tree bytes more all first
      (tree-reads total depth (after_part place p) tree more (turns - 1) fits.1
      (omega (arith, all, first.1))))

  part-reads : (total depth : ℕ) (place : Place) (p : Part) (more : List ℕ)
      → FitsPart depth place p more
      → ReadsPart (ref_at total depth) place p more
  part-reads total depth place (plain bytes) more fits =
      plain-reads (ref_at total depth) place bytes more fits.0 fits.1
  part-reads total depth place (escaped byte) more fits = (fits.0, omega arith, rw fits.1 refl)
  part-reads total depth place double more fits = (
    fits.0,
    omega arith,
    dollar-reads (ref_at total depth) place double
        (dollar ∷ more) more fits.0 (rw fits.1 refl),
  )
  part-reads total depth place lone more fits = (
    fits.0,
    omega arith,
    dollar-reads (ref_at total depth) place lone more more fits.0
        (lone-reads (ref_at total depth) place more fits.1),
  )
  part-reads total depth place (short byte) more fits = (
    fits.0,
    omega arith,
    dollar-reads (ref_at total depth) place (short byte)
        (byte ∷ more) more fits.0 (short-reads (ref_at total depth) place byte more fits.1 fits.2),
  )
  part-reads total zero place (ref round name mods) more fits = absurd fits.2
  part-reads total (suc depth) place (ref round name mods) more fits =
      let refs = ref_at total (suc depth) in
      let bytes = spell name ++ (spell_mods mods ++ closer round ∷ more) in
      let same : (spell name ++ (spell_mods mods ++ closer round ∷ [])) ++ more ≡ bytes =
      simp append_assoc in
      let shorter : length more < length (dollar ∷ opener round ∷ bytes) =
      simp length-append (omega arith) in
      let behind = spell_mods mods ++ closer round ∷ more in
      let first = tree-reads total depth (places.Name round 0) name behind (length bytes) fits.2.0
      (omega arith) in
      let second =
      mods-read total depth (dollar_before total bytes) round mods more (length behind) fits.2.1
      (omega arith) in
      let inside = ref-reads total depth round name mods bytes behind more first second in
      let reads = dollar-reads refs place (ref round name mods) (opener round ∷ bytes) more fits.0
      (opener-reads refs place round bytes fits.1 ∙ inside) in
      rw same (fits.0, shorter, reads)

  pub mods-read : (total depth opened : ℕ) (round : Bool) (mods : Mods) (more : List ℕ) (turns : ℕ)
      → FitsMods depth round mods (closer round ∷ more)
      → length (spell_mods mods ++ closer round ∷ more) ≤ turns
      → mods_at (ref_at total depth) total opened round turns
      (spell_mods mods ++ closer round ∷ more) ≡ Ok (mods, more)
  mods-read total depth opened round no_mods more zero fits within = absurd (omega arith)
  mods-read total depth opened true no_mods more (suc turns) fits within = refl
  mods-read total depth opened false no_mods more (suc turns) fits within = refl
  mods-read total depth opened round (mod_then m mods) more zero fits within = absurd (omega arith)
  mods-read total depth opened round (mod_then m mods) more (suc turns) fits within =
      let refs = ref_at total depth in
      let behind = spell_mods mods ++ closer round ∷ more in
      let same : (spell_mod m ++ spell_mods mods) ++ closer round ∷ more ≡ spell_mod m ++ behind =
      append_assoc (spell_mod m) (spell_mods mods) (closer round ∷ more) in
      let left : length behind ≤ turns =
      omega (arith, within, ap length same, length-append (spell_mod m) behind) in
      let first : modifier_at refs total opened round (spell_mod m ++ behind) ≡ Ok (m, behind) =
      mod-reads total depth opened round m behind (mods-end round mods more) fits.0 in
      let second = mods-read total depth opened round mods more turns fits.1 left in
      rw (same, first, second) refl

  mod-reads : (total depth opened : ℕ) (round : Bool) (m : Mod) (more : List ℕ) → is_end round more
      ≡ true → FitsMod depth round m more
      → modifier_at (ref_at total depth) total opened round (spell_mod m ++ more) ≡ Ok (m, more)
  mod-reads total depth opened round (keep text) more ends fits =
      let is = tree-reads total depth (places.Pattern round) text more
      (length (spell text ++ more)) fits.1 (omega arith) in
      row-reads (ref_at total depth) total opened round (spell_mod (keep text) ++ more) _ _ fits.0
      (rw is refl)
  mod-reads total depth opened round (without text) more ends fits =
      let is = tree-reads total depth (places.Pattern round) text more
      (length (spell text ++ more)) fits.1 (omega arith) in
      row-reads (ref_at total depth) total opened round
      (spell_mod (without text) ++ more) _ _ fits.0 (rw is refl)
  mod-reads total depth opened round (subst delim from to flags) more ends fits =
      let refs = ref_at total depth in
      let c = flags ++ more in
      let b = spell to ++ delim ∷ c in
      let a = spell from ++ delim ∷ b in
      let text = spell_mod (subst delim from to flags) ++ more in
      let same : text ≡ 83 ∷ delim ∷ a = simp append_assoc in
      let first = tree-reads total depth (places.From delim true) from (delim ∷ b)
      (length (spell from ++ (delim ∷ b))) fits.2 (omega arith) in
      let second =
      tree-reads total depth (places.To delim) to (delim ∷ c)
      (length (spell to ++ (delim ∷ c))) fits.3 (omega arith) in
      row-reads refs total opened round text row.Subst _ fits.0
      (ap (λ s. subst_at refs (total - length text) round (drop 1 s)) same
      ∙ subst-reads refs
      (total - length text) round delim from to flags a b more fits.1 first second fits.4 ends)
  mod-reads total depth opened round (separator written) more ends fits =
      let text = spell_mod (separator written) ++ more in
      row-reads (ref_at total depth) total opened round text row.Separator _ fits.0
      (separator-reads (total - length text) round written more fits.1)
  mod-reads total depth opened round (select text) more ends fits =
      let refs = ref_at total depth in
      let a = spell text ++ square_close ∷ more in
      let all = spell_mod (select text) ++ more in
      let same : all ≡ 91 ∷ a = simp append_assoc in
      let first = tree-reads total depth places.Select text (square_close ∷ more)
      (length (spell text ++ (square_close ∷ more))) fits.1 (omega arith) in
      row-reads refs total opened round all row.Select _ fits.0
      (ap (λ s. select_at refs (total - length all) round (drop 1 s)) same
      ∙ select-reads refs (total - length all) round text a more first ends)
  mod-reads total depth opened round (range_to text) more ends fits =
      let is = tree-reads total depth (places.Count round) text more
      (length (spell text ++ more)) fits.1 (omega arith) in
      row-reads (ref_at total depth) total opened round
      (spell_mod (range_to text) ++ more) _ _ fits.0 (rw is refl)
  mod-reads total depth opened round (if_undefined text) more ends fits =
      let is = tree-reads total depth (places.Value round) text more
      (length (spell text ++ more)) fits.1 (omega arith) in
      row-reads (ref_at total depth) total opened round
      (spell_mod (if_undefined text) ++ more) _ _ fits.0 (rw is refl)
  mod-reads total depth opened round (if_defined text) more ends fits =
      let is = tree-reads total depth (places.Value round) text more
      (length (spell text ++ more)) fits.1 (omega arith) in
      row-reads (ref_at total depth) total opened round
      (spell_mod (if_defined text) ++ more) _ _ fits.0 (rw is refl)
  mod-reads total depth opened round (choose yes_text no_text) more ends fits =
      let refs = ref_at total depth in
      let b = spell no_text ++ more in
      let a = spell yes_text ++ colon ∷ b in
      let text = spell_mod (choose yes_text no_text) ++ more in
      let same : text ≡ 63 ∷ a = simp append_assoc in
      let first = tree-reads total depth (places.IfTrue round) yes_text (colon ∷ b)
      (length (spell yes_text ++ (colon ∷ b))) fits.1 (omega arith) in
      let second =
      tree-reads total depth (places.IfFalse round) no_text more
      (length (spell no_text ++ more)) fits.2 (omega arith) in
      row-reads refs total opened round text row.Choose _ fits.0
      (ap (λ s. choose_at refs (total - length text) round (drop 1 s)) same
      ∙ choose-reads refs (total - length text) round yes_text no_text a b more first second ends)
  mod-reads total depth opened round (each name body) more ends fits =
      let refs = ref_at total depth in
      let a = spell body ++ at_sign ∷ more in
      let text = spell_mod (each name body) ++ more in
      let same : text ≡ 64 ∷ (name ++ at_sign ∷ a) = simp append_assoc in
      let first = tree-reads total depth places.Body body (at_sign ∷ more)
      (length (spell body ++ (at_sign ∷ more))) fits.2 (omega arith) in
      row-reads refs total opened round text row.Each _ fits.0
      (ap (λ s. each_of refs (total - length text) round (drop 1 s) (name_len (drop 1 s))) same
      ∙ each-reads refs (total - length text) round name body a more fits.1 first ends)
  mod-reads total depth opened round (suffix old new) more ends fits =
      let refs = ref_at total depth in
      let b = spell new ++ more in
      let a = spell old ++ equals_sign ∷ b in
      let text = spell_mod (suffix old new) ++ more in
      let same : text ≡ a = simp append_assoc in
      let first = tree-reads total depth (places.Old round) old (equals_sign ∷ b)
      (length (spell old ++ (equals_sign ∷ b))) fits.1 (omega arith) in
      let second =
      tree-reads total depth (places.New round) new more (length (spell new ++ more)) fits.2
      (omega arith) in
      row-reads refs total opened round text row.Suffix _ fits.0
      (ap (λ s. suffix_at refs (total - length text) opened round s) same
      ∙ suffix-reads refs (total - length text) opened round old new a b more first second)
  mod-reads total depth opened round empty more ends fits =
      row-reads (ref_at total depth) total opened round more row.Empty _ fits refl
  mod-reads total depth opened round word more ends fits =
      word-reads (ref_at total depth) total opened round word more fits

-- What a well-formed tree spells is read as that tree.
pub tree_of_text-spell : (tree : Tree) → IsWellFormed tree → tree_of_text (spell tree) ≡ Ok tree
tree_of_text-spell tree fits =
    let text = spell tree in
    let all = tree-reads (length text) max_open places.Whole tree [] (length text) fits
    (omega (arith, ap length (append-nil text))) in
    let is : text_in (ref_at (length text) max_open) places.Whole text ≡ Ok (tree, []) =
    rw (append-nil text) at all in
    rw is refl

-- Two well-formed trees with one spelling are one tree.
pub spell-injective : (t u : Tree) → IsWellFormed t → IsWellFormed u → spell t ≡ spell u → t ≡ u
spell-injective t u t_fits u_fits same =
    let one : tree_of_text (spell u) ≡ Ok t = ap tree_of_text (sym same)
    ∙ tree_of_text-spell t t_fits in
    let two = tree_of_text-spell u u_fits in
    cc
