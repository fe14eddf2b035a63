-- Names with wildcards, by what their calls give.
use Rattle.std.proofs.Common.{◌≡◌, ℕ, Bool, true, false, ◌||◌, List, [], ◌∷◌, ◌++◌, Option, Some, None, is_some}
use Rattle.std.proofs.Common.{refl, ap, ◌∙◌, sym, append_assoc}
use Rattle.std.proofs.lemmas.List.{append-nil}
use Rattle.std.specs.List.{list_any}
use Rattle.mk_blocks.specs.Outcomes.{refused, ◌>>=◌}
use Rattle.mk_depline.specs.declared.line.DepLine.{DepLine}
use Rattle.mk_makefile.specs.Moments.{Moment, given}
use Rattle.mk_makefile.specs.Questions.{Answers}
use Rattle.mk_makefile.specs.Wildcards.{all_paths, by_rule, line_listed, names_listed, with_matches, with_paths, with_targets}
use Rattle.mk_makefile.specs.declared.fault.What.TheVariants.{NoTargets}
use Rattle.mk_wild.specs.Names.{is_pattern}

pub with-pattern : (answers : Answers) (paths : List (List ℕ)) (name : List ℕ) (s : Moment)
    → is_pattern name ≡ true → with_paths answers paths name s ≡ with_matches answers paths name s
with-pattern answers paths name s is = rw is refl

pub with-plain : (answers : Answers) (paths : List (List ℕ)) (name : List ℕ) (s : Moment)
    → is_pattern name ≡ false → with_paths answers paths name s ≡ given (paths ++ name ∷ []) s
with-plain answers paths name s is = rw is refl

or-none : (one other : Bool) → (one || other) ≡ false → (one ≡ false) × (other ≡ false)
or-none true other none = absurd cc
or-none false other none = (refl, none)

-- names without a pattern stand for themselves
pub all-plain : (answers : Answers) (paths names : List (List ℕ)) (s : Moment)
    → list_any is_pattern names ≡ false → all_paths answers paths names s ≡ given (paths ++ names) s
all-plain answers paths [] s none = ap (λ (l : List (List ℕ)). given l s) (sym (append-nil paths))
all-plain answers paths (name ∷ names) s none =
    let both = or-none (is_pattern name) (list_any is_pattern names) none in
    ap (λ found. found >>= λ next. all_paths answers next.0 names next.1)
    (with-plain answers paths name s both.0)
    ∙ all-plain answers (paths ++ name ∷ []) names s both.1
    ∙ ap (λ (l : List (List ℕ)). given l s) (append_assoc paths (name ∷ []) names)

-- targets are left, or none

pub targets-none : (line : DepLine) (names : List (List ℕ)) (s : Moment) → names ≡ []
    → with_targets line names s ≡ refused NoTargets
targets-none line names s none = rw none refl

pub targets-left : (line : DepLine) (names : List (List ℕ)) (s : Moment) → (names ≡ [] → ⊥)
    → with_targets line names s ≡ given (record line { targets = names }) s
targets-left line [] s some = absurd (some refl)
targets-left line (name ∷ names) s some = refl

-- a rule, or another line

by_rule-some : (answers : Answers) (rule : Option (List ℕ × List ℕ)) (line : DepLine) (s : Moment)
    → is_some rule ≡ true → by_rule answers rule line s ≡ given line s
by_rule-some answers None line s is = absurd cc
by_rule-some answers (Some rule) line s is = refl

by_rule-none : (answers : Answers) (rule : Option (List ℕ × List ℕ)) (line : DepLine) (s : Moment)
    → is_some rule ≡ false → by_rule answers rule line s ≡ names_listed answers line s
by_rule-none answers None line s is = refl
by_rule-none answers (Some rule) line s is = absurd cc

pub listed-rule : (answers : Answers) (line : DepLine) (s : Moment)
    → is_some line.rule ≡ true → line_listed answers line s ≡ given line s
listed-rule answers line s is = by_rule-some answers line.rule line s is

pub listed-other : (answers : Answers) (line : DepLine) (s : Moment)
    → is_some line.rule ≡ false → line_listed answers line s ≡ names_listed answers line s
listed-other answers line s is = by_rule-none answers line.rule line s is
