-- What a line is for the blocks of its file rests on what stands before its first `$`, and names of loops
-- stand behind it.
use Rattle.std.proofs.Common.{◌≡◌, ℕ, ◌+◌, ◌==◌, Bool, true, false, List, [], ◌∷◌, ◌++◌, take, drop}
use Rattle.std.proofs.Common.{Option, Some, None, if◌then◌else◌, refl, sym, ap, ◌∙◌, one-add, arith}
use Rattle.std.specs.List.{list_all, prefix_len, starts_with}
use Rattle.std.specs.Prelude.{nat_eq, ◌&&◌}
use Rattle.std.proofs.lemmas.Bool.{true≢false}
use Rattle.std.proofs.lemmas.Bool.Decides.{nat_tests}
use Rattle.mk_blocks.specs.declared.kind.LineKind.{LineKind}
use Rattle.mk_bytes.specs.Bytes.{dollar, dot, is_blank, tab}
use Rattle.mk_bytes.specs.Words.{is_white}
use Rattle.mk_directive.specs.Directives.{begins_with_name_byte, behind_dot, is_word_byte, named}
use Rattle.mk_directive.specs.Directives.{with_argument, word_len}
use Rattle.mk_directive.specs.Words.{without_blanks}
use Rattle.mk_directive.specs.declared.directive.Directive.{Directive}
use Rattle.mk_for.specs.Substitution as loop
use Rattle.mk_for.specs.Substitution.{is_dollar, piece, reference, replaced, replaced_behind}
use Rattle.mk_for.specs.declared.form.Form.{Form}
use Rattle.mk_for.specs.declared.form.Form.TheVariants.{Curly, Round, Short}
use Rattle.mk_makefile.specs.Kinds.{begins_comment, by_command, by_directive, is_space}
use Rattle.mk_makefile.specs.Kinds.{line_kind, plain_kind, without_spaces}
use Rattle.mk_makefile.specs.LoopNames.{TurnsKeepKinds}

-- two texts that are the same up to a first `$`, which stands in both or in none
abbrev Alike : List ℕ → List ℕ → Type 0
Alike [] [] = Unit {0}
Alike [] (byte ∷ second) = ⊥
Alike (byte ∷ first) [] = ⊥
Alike (one ∷ first) (byte ∷ second) = (one ≡ byte) × ((byte == dollar) ≡ false → Alike first second)

-- a byte of a sort that `$` is not of
no_dollar : (test : ℕ → Bool) (byte : ℕ) → test dollar ≡ false → test byte ≡ true
    → (byte == dollar) ≡ false
no_dollar test byte none passes =
    elim (byte == dollar) as (λ v. (byte == dollar) ≡ v → v ≡ false) [
      | true ↦ λ is. let same : byte ≡ dollar = grind (arith, is, nat_tests) in
          absurd (true≢false (sym passes ∙ ap test same ∙ none))
      | false ↦ λ is. refl
    ] refl

dropped-alike : (test : ℕ → Bool) → test dollar ≡ false → (first second : List ℕ)
    → Alike first second
    → Alike (drop (prefix_len test first) first) (drop (prefix_len test second) second)
dropped-alike test none [] [] alike = tt
dropped-alike test none [] (byte ∷ second) alike = absurd alike
dropped-alike test none (byte ∷ first) [] alike = absurd alike
dropped-alike test none (one ∷ first) (byte ∷ second) alike =
    rw alike.0
    (elim (test byte) as (λ v. test byte ≡ v
    → Alike (drop (if v then 1 + prefix_len test first else 0) (byte ∷ first))
    (drop (if v then 1 + prefix_len test second else 0) (byte ∷ second))) [
      | true ↦ λ passes. rw (one-add (prefix_len test first), one-add (prefix_len test second))
          (dropped-alike test none first second (alike.1 (no_dollar test byte none passes)))
      | false ↦ λ fails. (refl, alike.1)
    ] refl)

taken-same : (test : ℕ → Bool) → test dollar ≡ false → (first second : List ℕ)
    → Alike first second
    → take (prefix_len test first) first ≡ take (prefix_len test second) second
taken-same test none [] [] alike = refl
taken-same test none [] (byte ∷ second) alike = absurd alike
taken-same test none (byte ∷ first) [] alike = absurd alike
taken-same test none (one ∷ first) (byte ∷ second) alike =
    rw alike.0
    (elim (test byte) as (λ v. test byte ≡ v
    → take (if v then 1 + prefix_len test first else 0) (byte ∷ first)
    ≡ take (if v then 1 + prefix_len test second else 0) (byte ∷ second)) [
      | true ↦ λ passes. rw (one-add (prefix_len test first), one-add (prefix_len test second)) (ap (λ (text : List ℕ). byte ∷ text)
          (taken-same test none first second (alike.1 (no_dollar test byte none passes))))
      | false ↦ λ fails. refl
    ] refl)

all-same : (test : ℕ → Bool) → test dollar ≡ false → (first second : List ℕ)
    → Alike first second → list_all test first ≡ list_all test second
all-same test none [] [] alike = refl
all-same test none [] (byte ∷ second) alike = absurd alike
all-same test none (byte ∷ first) [] alike = absurd alike
all-same test none (one ∷ first) (byte ∷ second) alike =
    rw alike.0
    (elim (test byte) as (λ v. test byte ≡ v
    → (v && list_all test first) ≡ (v && list_all test second)) [
      | true ↦ λ passes. all-same test none first second (alike.1 (no_dollar test byte none passes))
      | false ↦ λ fails. refl
    ] refl)

comment-same : (first second : List ℕ) → Alike first second
    → begins_comment first ≡ begins_comment second
comment-same [] [] alike = refl
comment-same [] (byte ∷ second) alike = absurd alike
comment-same (byte ∷ first) [] alike = absurd alike
comment-same (one ∷ first) (byte ∷ second) alike = rw alike.0 refl

name-same : (first second : List ℕ) → Alike first second
    → begins_with_name_byte first ≡ begins_with_name_byte second
name-same [] [] alike = refl
name-same [] (byte ∷ second) alike = absurd alike
name-same (byte ∷ first) [] alike = absurd alike
name-same (one ∷ first) (byte ∷ second) alike = rw alike.0 refl

-- what a line is by its directive's word, and whether something follows by which it is none
abbrev kind_by : Bool → Option Directive → List ℕ → List ℕ → LineKind
kind_by closed found line argument =
    by_directive line (if closed then None else with_argument found argument)

kind_by-same : (closed : Bool) (found : Option Directive) (first second one other : List ℕ)
    → begins_comment (without_blanks first) ≡ begins_comment (without_blanks second)
    → kind_by closed found first one ≡ kind_by closed found second other
kind_by-same true found first second one other comment = rw comment refl
kind_by-same false None first second one other comment = rw comment refl
kind_by-same false (Some directive) first second one other comment = refl

dotted-same : (first second one other : List ℕ) → Alike one other
    → begins_comment (without_blanks first) ≡ begins_comment (without_blanks second)
    → by_directive first (behind_dot one) ≡ by_directive second (behind_dot other)
dotted-same first second one other alike comment =
    let behind = dropped-alike is_word_byte refl one other alike in
    rw (
      name-same (drop (word_len one) one) (drop (word_len other) other) behind,
      taken-same is_word_byte refl one other alike,
    )
    (kind_by-same (begins_with_name_byte (drop (word_len other) other))
    (named (take (word_len other) other)) first second
    (without_blanks (drop (word_len one) one)) (without_blanks (drop (word_len other) other)) comment)

plain-same : (first second : List ℕ) → Alike first second → plain_kind first ≡ plain_kind second
plain-same [] [] alike = refl
plain-same [] (byte ∷ second) alike = absurd alike
plain-same (byte ∷ first) [] alike = absurd alike
plain-same (one ∷ first) (byte ∷ second) alike =
    let comment = comment-same (without_blanks (byte ∷ first)) (without_blanks (byte ∷ second))
    (dropped-alike is_blank refl (byte ∷ first) (byte ∷ second) (refl, alike.1)) in
    rw alike.0
    (elim (byte == dot) as (λ v. (byte == dot) ≡ v
    → by_directive (byte ∷ first) (if v then behind_dot (without_blanks first) else None)
    ≡ by_directive (byte ∷ second) (if v then behind_dot (without_blanks second) else None)) [
      | true ↦ λ is. dotted-same (byte ∷ first) (byte ∷ second) (without_blanks first)
          (without_blanks second)
          (dropped-alike is_blank refl first second
          (alike.1 (no_dollar (λ one. one == dot) byte refl is)))
          comment
      | false ↦ λ is. rw comment refl
    ] refl)

kinds-same : (first second : List ℕ) → Alike first second → line_kind first ≡ line_kind second
kinds-same [] [] alike = refl
kinds-same [] (byte ∷ second) alike = absurd alike
kinds-same (byte ∷ first) [] alike = absurd alike
kinds-same (one ∷ first) (byte ∷ second) alike =
    let spaces = dropped-alike is_space refl (byte ∷ first) (byte ∷ second) (refl, alike.1) in
    rw alike.0
    (elim (byte == tab) as (λ v. (byte == tab) ≡ v
    → by_command (byte ∷ first) (if v then Some first else None)
    ≡ by_command (byte ∷ second) (if v then Some second else None)) [
      | true ↦ λ is.
          rw (all-same is_white refl first second
          (alike.1 (no_dollar (λ one. one == tab) byte refl is))) refl
      | false ↦ λ is. plain-same (without_spaces (byte ∷ first)) (without_spaces (byte ∷ second))
          spaces
    ] refl)

-- what is written behind a `$` begins with one
abbrev BeginsWithDollar : (text : List ℕ) → Type 0
BeginsWithDollar text = (rest : List ℕ) × (text ≡ dollar ∷ rest)

written-dollar : (form : Form) (word : List ℕ) → BeginsWithDollar (loop.written form word)
written-dollar Curly word = (_, refl)
written-dollar Round word = (_, refl)
written-dollar Short word = (_, refl)

reference-dollar : (names words : List (List ℕ)) (found : Option (Form × ℕ))
    → BeginsWithDollar (loop.reference_piece names words found).1
reference-dollar names words None = ([], refl)
reference-dollar names words (Some found) = written-dollar found.0 (loop.text_at words found.1)

piece-dollar : (names words : List (List ℕ)) (text : List ℕ)
    → BeginsWithDollar (piece names words text).1
piece-dollar names words text =
    elim (starts_with nat_eq text (dollar ∷ [])) as (λ v.
    BeginsWithDollar (if v then (1, dollar ∷ dollar ∷ [])
    else loop.reference_piece names words (reference names text)).1)
    [ true ↦ (dollar ∷ [], refl) | false ↦ reference-dollar names words (reference names text) ]

replaced-alike : (names words : List (List ℕ)) (text : List ℕ) → Alike (replaced names words text) text
unfolding replaced_behind
replaced-alike names words [] = tt
replaced-alike names words (byte ∷ text) =
    elim (byte == dollar) as (λ v. (byte == dollar) ≡ v
    → Alike (if v
    then (piece names words text).1 ++ replaced_behind names words (piece names words text).0 text
    else byte ∷ replaced_behind names words 0 text) (byte ∷ text)) [
      | true ↦ λ is.
          let same : byte ≡ dollar = grind (arith, is, nat_tests) in
          let begun = piece-dollar names words text in
          rw begun.1 (sym same, λ other. absurd (true≢false (sym is ∙ other)))
      | false ↦ λ is. (refl, λ other. replaced-alike names words text)
    ] refl

pub turns_keep_kinds : TurnsKeepKinds
turns_keep_kinds names words text =
    kinds-same (replaced names words text) text (replaced-alike names words text)
