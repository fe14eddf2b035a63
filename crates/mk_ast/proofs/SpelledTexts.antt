-- The parts of a text, read and spelled.
use Rattle.std.proofs.Common.{◌≡◌, ℕ, suc, zero, ◌≤◌, ◌<◌, ◌==◌, ◌||◌, true, false, List, [], ◌∷◌}
use Rattle.std.proofs.Common.{◌++◌, length, Result, Ok, Err, refl, sym, ap, ◌∙◌, subst, arith}
use Rattle.std.proofs.Common.{append_assoc}
use Rattle.std.proofs.lemmas.Bool.{cond_both, eqb-true, and_parts, or_from, not_from_false}
use Rattle.mk_bytes.specs.Agrees.{◌>>=◌}
use Rattle.mk_bytes.specs.Bytes.{dollar, round_open, curly_open, backslash}
use Rattle.mk_ast.specs.Tree.{Tree, Part, part}
use Rattle.mk_ast.specs.Spell.{spell, spell_part}
use Rattle.mk_ast.specs.Places.{ends, is_escape, is_anchor, escapes, after}
use Rattle.mk_ast.specs.Text.{Refs, Run, is_lone_before, is_plain, plain_run, with_first, dollar_at}
use Rattle.mk_ast.specs.Text.{escaped_at, at_place, plain_part, part_at, text_at, text_in}
use Rattle.mk_ast.specs.declared.fault.AstFault.{AstFault}
use Rattle.mk_ast.specs.declared.place.Place.{Place}
use Rattle.mk_ast.proofs.Spelled.{OnRead, OnRead-map, is_ended, is_ended-after, ends-may_end}
use Rattle.mk_ast.specs.WellFormed.{after_all, after_part, is_lone, FitsTree, FitsPart}
use Rattle.mk_ast.proofs.Spelled.{PartOf, TextOf, DollarOf, RefsSpell}

-- what a `$` begins is spelled so
pub dollar_at-spelled : (depth : ℕ) (refs : Refs) → RefsSpell depth refs
    → (place : Place) (bytes : List ℕ)
    → ends place dollar ≡ false → OnRead (DollarOf depth place bytes) (dollar_at refs place bytes)
unfolding spell FitsTree
dollar_at-spelled depth refs good place [] goes = ((refl, omega arith), (goes, refl), refl)
dollar_at-spelled depth refs good place (byte ∷ bytes) goes =
    let P = OnRead (DollarOf depth place (byte ∷ bytes)) in
    let Q : ℕ → Type 0 = λ d. is_lone place (d ∷ bytes) ≡ false in
    cond_both (is_anchor place byte || is_lone_before byte) _ _ P
    (λ is. ((refl, omega arith), (goes, is), refl))
    (λ other. cond_both (byte == dollar) _ _ P
    (λ is. (
      (ap (λ d. dollar ∷ d ∷ bytes) (eqb-true byte dollar is), omega arith),
      (goes, subst Q (eqb-true byte dollar is) other),
      refl,
    ))
    (λ no_dollar. cond_both (byte == curly_open) _ _ P
    (λ is. subst (λ d. OnRead (DollarOf depth place (d ∷ bytes)) (refs false bytes))
    (sym (eqb-true byte curly_open is))
    (good place false bytes goes (subst Q (eqb-true byte curly_open is) other)))
    (λ no_curly. cond_both (byte == round_open) _ _ P
    (λ is. subst (λ d. OnRead (DollarOf depth place (d ∷ bytes)) (refs true bytes))
    (sym (eqb-true byte round_open is))
    (good place true bytes goes (subst Q (eqb-true byte round_open is) other)))
    (λ no_round. (
      (refl, omega arith),
      (
        goes,
        other,
        or_from (byte == dollar || byte == curly_open) (byte == round_open)
            (or_from (byte == dollar) (byte == curly_open) no_dollar no_curly) no_round,
      ),
      refl,
    )))))

-- a run is the bytes before the rest, and texts end behind it as before it
abbrev RunOf : Place → List ℕ → Run → Type 0
RunOf place bytes run =
    (bytes ≡ run.0 ++ run.2) × (length run.2 ≤ length bytes)
    × ((rest : List ℕ) → is_ended run.1 rest ≡ is_ended place rest)
    × (run.1 ≡ after_all place run.0)

with_first-run : (place : Place) (byte : ℕ) (bytes : List ℕ) (run : Run)
    → RunOf (after place byte) bytes run → RunOf place (byte ∷ bytes) (with_first byte run)
with_first-run place byte bytes run holds = (
  ap (λ s. byte ∷ s) holds.0,
  omega (arith, holds.1),
  λ rest. holds.2 rest ∙ is_ended-after place byte rest,
  holds.3,
)

plain_run-is : (place : Place) (bytes : List ℕ) → RunOf place bytes (plain_run place bytes)
plain_run-is place [] = (refl, omega arith, λ rest. refl, refl)
plain_run-is place (byte ∷ bytes) =
    cond_both (is_plain place byte bytes) _ _ (RunOf place (byte ∷ bytes))
    (λ _. with_first-run place byte bytes (plain_run (after place byte) bytes)
    (plain_run-is (after place byte) bytes))
    (λ _. (refl, omega arith, λ rest. refl, refl))

-- a part that fits, with the place behind it, where texts end as before it
abbrev PlacedOf : ℕ → Place → List ℕ → Result (Part × Place × List ℕ) AstFault → Type 0
PlacedOf depth place bytes (Ok p) =
    PartOf bytes p.0 p.2 × ((rest : List ℕ) → is_ended p.1 rest ≡ is_ended place rest)
    × FitsPart depth place p.0 p.2 × (p.1 ≡ after_part place p.0)
PlacedOf depth place bytes (Err fault) = Unit {0}

dollar-placed : (depth : ℕ) (place : Place) (bytes : List ℕ) (r : Result (Part × List ℕ) AstFault)
    → OnRead (DollarOf depth place bytes) r
    → PlacedOf depth place (dollar ∷ bytes) (r >>= λ p. Ok (at_place (after place dollar) p))
dollar-placed depth place bytes (Ok p) holds =
    (holds.0, is_ended-after place dollar, holds.1, sym holds.2)
dollar-placed depth place bytes (Err fault) holds = tt

escape-placed : (depth : ℕ) (place : Place) (byte : ℕ) (bytes : List ℕ) → ends place byte ≡ false
    → is_escape place byte bytes ≡ true
    → PlacedOf depth place (byte ∷ bytes) (Ok (at_place (after place byte) (escaped_at bytes)))
unfolding spell FitsTree
escape-placed depth place byte [] goes is = cc
escape-placed depth place byte (next ∷ bytes) goes is =
    let slash : byte ≡ backslash =
    eqb-true byte backslash (and_parts (byte == backslash) (escapes place next) is).0 in (
      (ap (λ d. d ∷ next ∷ bytes) slash, omega arith),
      is_ended-after place byte,
      (
        subst (λ d. ends place d ≡ false) slash goes,
        subst
            (λ d. is_escape place d (next ∷ bytes) ≡ true) slash is,
      ),
      ap (λ d. after place d) slash,
    )

plain-placed : (depth : ℕ) (place : Place) (byte : ℕ) (bytes : List ℕ) → is_plain place byte bytes
    ≡ true
    → PlacedOf depth place (byte ∷ bytes)
    (Ok (plain_part (with_first byte (plain_run (after place byte) bytes))))
unfolding spell FitsTree
plain-placed depth place byte bytes is =
    let inner = plain_run-is (after place byte) bytes in
    let run = with_first byte (plain_run (after place byte) bytes) in
    let all = with_first-run place byte bytes (plain_run (after place byte) bytes) inner in
    let whole : plain_run place (byte ∷ bytes) ≡ run = rw is refl in (
      (all.0, omega (arith, inner.1)),
      all.2,
      (omega arith, ap (plain_run place) (sym all.0) ∙ whole ∙ ap (λ q. (run.0, q, run.2)) all.3),
      all.3,
    )

part_at-spelled : (depth : ℕ) (refs : Refs) → RefsSpell depth refs
    → (place : Place) (byte : ℕ) (bytes : List ℕ)
    → ends place byte ≡ false → PlacedOf depth place (byte ∷ bytes) (part_at refs place byte bytes)
part_at-spelled depth refs good place byte bytes goes =
    let P = PlacedOf depth place (byte ∷ bytes) in
    cond_both (byte == dollar) _ _ P
    (λ is. let same = eqb-true byte dollar is in
    subst (λ d. PlacedOf depth place (d ∷ bytes)
    (dollar_at refs place bytes >>= λ p. Ok (at_place (after place d) p))) (sym same)
    (dollar-placed depth place bytes (dollar_at refs place bytes)
    (dollar_at-spelled depth refs good place bytes
    (subst (λ d. ends place d ≡ false) same goes))))
    (λ no_dollar. cond_both (is_escape place byte bytes) _ _ P
    (escape-placed depth place byte bytes goes)
    (λ no_escape. plain-placed depth place byte bytes
    (not_from_false (ends place byte || byte == dollar || is_escape place byte bytes)
    (or_from (ends place byte || byte == dollar) (is_escape place byte bytes)
    (or_from (ends place byte) (byte == dollar) goes no_dollar) no_escape))))

-- a part, and the text that is read after it
turn-spelled : (depth : ℕ) (place : Place) (bytes : List ℕ)
    (r : Result (Part × Place × List ℕ) AstFault)
    (next : Part × Place × List ℕ → Result (Tree × List ℕ) AstFault) → PlacedOf depth place bytes r
    → ((p : Part × Place × List ℕ) → length p.2 < length bytes
    → OnRead (TextOf depth p.1 p.2) (next p))
    → OnRead (TextOf depth place bytes) (r >>= λ p. next p >>= λ t. Ok (part p.0 t.0, t.1))
unfolding spell FitsTree
turn-spelled depth place bytes (Err fault) next holds goes = tt
turn-spelled depth place bytes (Ok p) next holds goes =
    OnRead-map (TextOf depth p.1 p.2) (TextOf depth place bytes) (next p) (part p.0)
    (goes p holds.0.1)
    (λ text rest h. (
      holds.0.0 ∙ ap (λ s. spell_part p.0 ++ s) h.0
          ∙ sym (append_assoc (spell_part p.0) (spell text) rest),
      omega (arith, holds.0.1, h.1),
      sym (holds.1 rest) ∙ h.2,
      (
        subst (λ s. FitsPart depth place p.0 s) h.0 holds.2,
        subst
            (λ q. FitsTree depth q text rest) holds.3 h.3,
      ),
    ))

pub text_at-spelled : (depth : ℕ) (refs : Refs) → RefsSpell depth refs
    → (place : Place) (turns : ℕ) (bytes : List ℕ)
    → length bytes ≤ turns → OnRead (TextOf depth place bytes) (text_at refs place turns bytes)
unfolding text_at spell FitsTree
text_at-spelled depth refs good place zero [] fits = (refl, omega arith, refl, refl)
text_at-spelled depth refs good place zero (byte ∷ bytes) fits = absurd (omega arith)
text_at-spelled depth refs good place (suc turns) [] fits = (refl, omega arith, refl, refl)
text_at-spelled depth refs good place (suc turns) (byte ∷ bytes) fits =
    cond_both (ends place byte) _ _ (OnRead (TextOf depth place (byte ∷ bytes)))
    (λ is. (refl, omega arith, ends-may_end place byte is, is))
    (λ goes. turn-spelled depth place (byte ∷ bytes) (part_at refs place byte bytes)
    (λ p. text_at refs p.1 turns p.2) (part_at-spelled depth refs good place byte bytes goes)
    (λ p shorter. text_at-spelled depth refs good p.1 turns p.2 (omega (arith, shorter))))

pub text_in-spelled : (depth : ℕ) (refs : Refs) → RefsSpell depth refs
    → (place : Place) (bytes : List ℕ)
    → OnRead (TextOf depth place bytes) (text_in refs place bytes)
text_in-spelled depth refs good place bytes =
    text_at-spelled depth refs good place (length bytes) bytes (omega arith)
