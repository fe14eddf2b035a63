-- References, and with them whole texts, read and spelled.
use Rattle.std.proofs.Common.{◌≡◌, ℕ, suc, zero, ◌≤◌, ◌==◌, ◌||◌, Bool, true, false, List, [], ◌∷◌}
use Rattle.std.proofs.Common.{◌++◌, length, Ok, Err, sym, ap, ◌∙◌, arith, append_assoc}
use Rattle.std.proofs.Common.{refl, subst}
use Rattle.std.proofs.lemmas.Bool.{cond_both, eqb-true}
use Rattle.std.proofs.lemmas.List.{append-nil}
use Rattle.mk_bytes.specs.Agrees.{◌>>=◌}
use Rattle.mk_bytes.specs.Bytes.{dollar, colon}
use Rattle.mk_ast.specs.Tree.{Tree, Mods, ref, mod_then}
use Rattle.mk_ast.specs.Spell.{opener, closer, spell, spell_mods, spell_mod}
use Rattle.mk_ast.specs.Text.{Read, Refs, text_in}
use Rattle.mk_ast.specs.Rows.{is_empty}
use Rattle.mk_ast.specs.Modifiers.{modifier_at}
use Rattle.mk_ast.specs.References.{mods_at, mods_in, named_at, dollar_before, ref_at, max_open}
use Rattle.mk_ast.specs.References.{tree_of_text}
use Rattle.mk_ast.specs.Places.{ends}
use Rattle.mk_ast.specs.WellFormed.{FitsTree, FitsMod, FitsMods, IsWellFormed}
use Rattle.mk_ast.specs.declared.place.Place.TheVariants.{Whole, Name}
use Rattle.mk_ast.proofs.Spelled.{OnRead, OnRead-bind, OnRead-map, is_ended-is_empty}
use Rattle.mk_ast.proofs.Spelled.{DollarOf, TextOf, ModOf, ModsOf, RefsSpell}
use Rattle.mk_ast.proofs.SpelledModifiers.{modifier_at-spelled}
use Rattle.mk_ast.proofs.SpelledTexts.{text_in-spelled}

-- the byte where modifiers end, if it is no `:`
end-closer : (round : Bool) (byte : ℕ) (bytes : List ℕ) → is_empty round (byte ∷ bytes) ≡ true
    → (byte == colon) ≡ false
    → byte ≡ closer round
end-closer round byte bytes is other =
    eqb-true byte (closer round) (sym (ap (λ x. x || byte == closer round) other) ∙ is)

mods_at-spelled : (depth : ℕ) (refs : Refs) → RefsSpell depth refs
    → (total opened : ℕ) (round : Bool) (turns : ℕ) (bytes : List ℕ) → length bytes ≤ turns
    → is_empty round bytes ≡ true
    → OnRead (ModsOf depth round bytes) (mods_at refs total opened round turns bytes)
unfolding mods_at spell FitsTree
mods_at-spelled depth refs good total opened round zero bytes fits ends = tt
mods_at-spelled depth refs good total opened round (suc turns) [] fits ends = tt
mods_at-spelled depth refs good total opened round (suc turns) (byte ∷ bytes) fits ends =
    cond_both (byte == colon) _ _ (OnRead (ModsOf depth round (byte ∷ bytes)))
    (λ is. OnRead-bind (ModOf depth round bytes) (ModsOf depth round (byte ∷ bytes))
    (modifier_at refs total opened round bytes) _
    (modifier_at-spelled depth refs good total opened round bytes)
    (λ m more h. OnRead-map (ModsOf depth round more) (ModsOf depth round (byte ∷ bytes))
    (mods_at refs total opened round turns more) (mod_then m)
    (mods_at-spelled depth refs good total opened round turns more (omega (arith, h.1)) h.2)
    (λ mods rest g. (
      ap (λ d. d ∷ bytes) (eqb-true byte colon is)
          ∙ ap (λ s. colon ∷ s)
          (h.0 ∙ ap (λ s. spell_mod m ++ s) g.0
          ∙ sym (append_assoc (spell_mod m) (spell_mods mods) (closer round ∷ rest))),
      omega (arith, h.1, g.1),
      (subst (λ s. FitsMod depth round m s) g.0 h.3, g.2),
    ))))
    (λ other. (ap (λ d. d ∷ bytes) (end-closer round byte bytes ends other), omega arith, tt))

-- a name with its modifiers, and the closer
abbrev pub NamedOf : ℕ → Bool → List ℕ → Tree × Mods → List ℕ → Type 0
NamedOf depth round bytes named rest =
    (bytes ≡ spell named.0 ++ (spell_mods named.1 ++ closer round ∷ rest))
    × (length rest ≤ length bytes)
    × FitsTree depth (Name round 0) named.0 (spell_mods named.1 ++ closer round ∷ rest)
    × FitsMods depth round named.1 (closer round ∷ rest)

pub named_at-spelled : (depth : ℕ) (refs : Refs) → RefsSpell depth refs
    → (total opened : ℕ) (round : Bool) (bytes : List ℕ)
    → OnRead (NamedOf depth round bytes) (named_at refs total opened round bytes)
named_at-spelled depth refs good total opened round bytes =
    OnRead-bind (TextOf depth (Name round 0) bytes) (NamedOf depth round bytes)
    (text_in refs (Name round 0) bytes) _ (text_in-spelled depth refs good (Name round 0) bytes)
    (λ name more h. OnRead-map (ModsOf depth round more) (NamedOf depth round bytes)
    (mods_in refs total opened round more) (λ mods. (name, mods))
    (mods_at-spelled depth refs good total opened round (length more) more (omega arith)
    (is_ended-is_empty (Name round 0) round (λ byte is. is) more h.2))
    (λ mods rest g. (
      h.0 ∙ ap (λ s. spell name ++ s) g.0,
      omega (arith, h.1, g.1),
      subst (λ s. FitsTree depth (Name round 0) name s) g.0 h.3,
      g.2,
    )))

pub ref_at-spelled : (total depth : ℕ) → RefsSpell depth (ref_at total depth)
unfolding ref_at spell FitsTree
ref_at-spelled total zero place round bytes goes other = tt
ref_at-spelled total (suc depth) place round bytes goes other =
    OnRead-map (NamedOf depth round bytes) (DollarOf (suc depth) place (opener round ∷ bytes))
    (named_at (ref_at total depth) total (dollar_before total bytes) round bytes)
    (λ n. ref round n.0 n.1)
    (named_at-spelled depth (ref_at total depth) (ref_at-spelled total depth) total
    (dollar_before total bytes) round bytes)
    (λ n rest h. (
      (ap (λ s. dollar ∷ opener round ∷ s) (h.0 ∙ simp append_assoc), omega (arith, h.1)),
      (goes, other, (h.2, h.3)),
      refl,
    ))

-- a text that is read to its end is the spelling of its tree, which is well formed
abbrev TreeOf : List ℕ → Tree → Type 0
TreeOf text tree = (spell tree ≡ text) × IsWellFormed tree

TreeOf-read : (text : List ℕ) (tree : Tree) (r : Read Tree) → OnRead (TextOf max_open Whole text) r
    → (r >>= λ t. Ok t.0) ≡ Ok tree → TreeOf text tree
TreeOf-read text tree (Err fault) holds is = cc
TreeOf-read text tree (Ok (t, [])) holds is =
    let same : t ≡ tree = cc in
    (ap spell (sym same) ∙ sym (holds.0 ∙ append-nil (spell t)), subst IsWellFormed same holds.3)
TreeOf-read text tree (Ok (t, byte ∷ rest)) holds is = cc

tree_of_text-TreeOf : (text : List ℕ) (tree : Tree) → tree_of_text text ≡ Ok tree → TreeOf text tree
tree_of_text-TreeOf text tree is =
    let refs = ref_at (length text) max_open in
    TreeOf-read text tree (text_in refs Whole text)
    (text_in-spelled max_open refs (ref_at-spelled (length text) max_open) Whole text) is

-- What is read is spelled so.
pub tree_of_text-spelled : (text : List ℕ) (tree : Tree) → tree_of_text text ≡ Ok tree
    → spell tree ≡ text
tree_of_text-spelled text tree is = (tree_of_text-TreeOf text tree is).0

-- What is read is well formed.
pub tree_of_text-well_formed : (text : List ℕ) (tree : Tree) → tree_of_text text ≡ Ok tree
    → IsWellFormed tree
tree_of_text-well_formed text tree is = (tree_of_text-TreeOf text tree is).1
