-- Macros by their numbers, and what a target takes of them.
use Rattle.std.proofs.Common.{◌≡◌, ℕ, zero, suc, ◌+◌, ◌<◌, Bool, true, false, List, [], ◌∷◌}
use Rattle.std.proofs.Common.{◌++◌, length, get_or, drop, Option, Some, None, IsSome}
use Rattle.std.proofs.Common.{refl, sym, ap, ◌∙◌, arith, append_assoc, drop-cons, add-one}
use Rattle.std.proofs.lemmas.Bool.{cond_both}
use Rattle.std.proofs.lemmas.List.{append-nil}
use Rattle.mk_graph.specs.Macros.{macro_of, macros_of, macro_at, commands_by}
use Rattle.mk_graph.specs.Marks.{is_macro}
use Rattle.mk_graph.specs.Macros.{all_commands, marks_by, all_marks}
use Rattle.mk_graph.specs.Marks.{taken_marks}
use Rattle.mk_graph.specs.Parts.{AreMacros, behind_part, behind_of, behind}
use Rattle.mk_graph.specs.Parts.{before_part, before_of, before}
use Rattle.mk_graph.specs.declared.attr.Marks.{Marks}
use Rattle.mk_graph.specs.declared.links.Links.{Links}

-- a node as a macro
pub macro_at-is : (all : List Links) (n : ℕ) (links : Links) → n < length all
    → links ≡ get_or all n links → macro_at (macros_of all) n ≡ macro_of links
macro_at-is [] n links within at = absurd (omega arith)
macro_at-is (one ∷ all) zero links within at = ap macro_of (sym at)
macro_at-is (one ∷ all) (suc n) links within at = macro_at-is all n links (omega arith) at

macro_within : (all : List Links) (n : ℕ) → IsSome (macro_at (macros_of all) n)
    → n < length all
macro_within [] n some = absurd cc
macro_within (one ∷ all) zero some = omega arith
macro_within (one ∷ all) (suc n) some =
    let within = macro_within all n some in omega (arith, within)

some_macro : (links : Links) (found : Option Links) → found ≡ macro_of links → IsSome found
    → found ≡ Some links
some_macro links found is some =
    cond_both (is_macro links.marks) (Some links) None (λ o. found ≡ o → found ≡ Some links)
    (λ macro same. same)
    (λ none same. absurd cc)
    is

macro_is : (all : List Links) (n : ℕ) (links : Links) → IsSome (macro_at (macros_of all) n)
    → links ≡ get_or all n links → macro_at (macros_of all) n ≡ Some links
macro_is all n links some at =
    some_macro links (macro_at (macros_of all) n)
    (macro_at-is all n links (macro_within all n some) at) some

-- each of several
AreMacros-at : (macros : List (Option Links)) (taken : List ℕ) (k : ℕ) → k < length taken
    → AreMacros macros taken → IsSome (macro_at macros (get_or taken k 0))
AreMacros-at macros [] k within all = absurd (omega arith)
AreMacros-at macros (n ∷ more) zero within all = all.0
AreMacros-at macros (n ∷ more) (suc k) within all =
    AreMacros-at macros more k (omega arith) all.1

pub AreMacros-append : (macros : List (Option Links)) (taken : List ℕ) (n : ℕ)
    → AreMacros macros taken → IsSome (macro_at macros n) → AreMacros macros (taken ++ n ∷ [])
AreMacros-append macros [] n all some = (some, tt)
AreMacros-append macros (one ∷ more) n all some =
    (all.0, AreMacros-append macros more n all.1 some)

AreMacros-parts : (macros : List (Option Links)) (taken : List ℕ) (n : ℕ)
    → AreMacros macros (taken ++ n ∷ []) → AreMacros macros taken × IsSome (macro_at macros n)
AreMacros-parts macros [] n all = (tt, all.0)
AreMacros-parts macros (one ∷ more) n all =
    let parts = AreMacros-parts macros more n all.1 in ((all.0, parts.0), parts.1)

-- the commands behind the target's own, macro by macro
behind-next : (macros : List (Option Links)) (taken : List ℕ) (k : ℕ) → k < length taken
    → behind macros (drop k taken)
    ≡ behind_of (macro_at macros (get_or taken k 0)) ++ behind macros (drop (k + 1) taken)
behind-next macros taken k within = rw (drop-cons taken k 0 within, add-one) refl

-- and those before them, from the last macro on
before-append : (macros : List (Option Links)) (taken : List ℕ) (n : ℕ)
    → before macros (taken ++ n ∷ []) ≡ before_of (macro_at macros n) ++ before macros taken
before-append macros [] n = sym (append-nil (before_of (macro_at macros n)))
before-append macros (one ∷ more) n =
    rw (before-append macros more n)
    (append_assoc (before_of (macro_at macros n)) (before macros more)
    (before_of (macro_at macros one)))

commands-placed : (first own last : List (List ℕ)) (macro : Option Links)
    → (first ++ commands_by macro own) ++ last
    ≡ ((first ++ before_of macro) ++ own) ++ (behind_of macro ++ last)
commands-placed first own last None = rw (append-nil first) refl
commands-placed first own last (Some links) = by_mark links.marks.macro_behind refl
  where
    by_mark : (mark : Bool) → links.marks.macro_behind ≡ mark
        → (first ++ commands_by (Some links) own) ++ last
        ≡ ((first ++ before_of (Some links)) ++ own) ++ (behind_of (Some links) ++ last)
    by_mark true is = rw is (simp (append_assoc, append-nil))
    by_mark false is = rw is (simp append_assoc)

-- all commands of a target
all_commands-is : (macros : List (Option Links)) (own : List (List ℕ)) (taken : List ℕ)
    → all_commands macros own taken ≡ (before macros taken ++ own) ++ behind macros taken
all_commands-is macros own [] = sym (append-nil own)
all_commands-is macros own (n ∷ more) =
    all_commands-is macros (commands_by (macro_at macros n) own) more
    ∙ commands-placed (before macros more) own (behind macros more) (macro_at macros n)

all_marks-next : (macros : List (Option Links)) (own : Marks) (taken : List ℕ) (k : ℕ)
    → k < length taken
    → all_marks macros own (drop k taken)
    ≡ all_marks macros (marks_by (macro_at macros (get_or taken k 0)) own) (drop (k + 1) taken)
all_marks-next macros own taken k within = rw (drop-cons taken k 0 within, add-one) refl

-- one macro more, of those that were taken
pub all_marks-step : (all : List Links) (taken : List ℕ) (k : ℕ) (links : Links)
    (own new whole : Marks) → k < length taken → AreMacros (macros_of all) taken
    → links ≡ get_or all (get_or taken k 0) links → new ≡ taken_marks own links.marks
    → all_marks (macros_of all) own (drop k taken) ≡ whole
    → all_marks (macros_of all) new (drop (k + 1) taken) ≡ whole
all_marks-step all taken k links own new whole within macros at is same =
    let some = AreMacros-at (macros_of all) taken k within macros in
    let macro = macro_is all (get_or taken k 0) links some at in
    let next = all_marks-next (macros_of all) own taken k within in
    let here = rw macro at next in
    rw is (sym here ∙ same)

pub behind-step : (all : List Links) (taken : List ℕ) (k : ℕ) (links : Links)
    (commands new whole : List (List ℕ)) → k < length taken → AreMacros (macros_of all) taken
    → links ≡ get_or all (get_or taken k 0) links → new ≡ commands ++ behind_part links
    → commands ++ behind (macros_of all) (drop k taken) ≡ whole
    → new ++ behind (macros_of all) (drop (k + 1) taken) ≡ whole
behind-step all taken k links commands new whole within macros at is same =
    let some = AreMacros-at (macros_of all) taken k within macros in
    let macro = macro_is all (get_or taken k 0) links some at in
    let next = behind-next (macros_of all) taken k within in
    let here = rw macro at next in
    let more = behind (macros_of all) (drop (k + 1) taken) in
    rw is (append_assoc commands (behind_part links) more
    ∙ ap (λ part. commands ++ part) (sym here) ∙ same)

pub before-step : (all : List Links) (rest earlier : List ℕ) (n : ℕ) (links : Links)
    (commands new whole : List (List ℕ)) → rest ≡ earlier ++ n ∷ []
    → AreMacros (macros_of all) rest → links ≡ get_or all n links
    → new ≡ commands ++ before_part links → commands ++ before (macros_of all) rest ≡ whole
    → AreMacros (macros_of all) earlier × (new ++ before (macros_of all) earlier ≡ whole)
before-step all rest earlier n links commands new whole parts macros at is same =
    let both = AreMacros-parts (macros_of all) earlier n (rw parts at macros) in
    let macro = macro_is all n links both.1 at in
    let here = rw macro at (before-append (macros_of all) earlier n) in
    let more = before (macros_of all) earlier in (
      both.0,
      rw is (append_assoc commands (before_part links) more
          ∙ ap (λ part. commands ++ part) (sym here) ∙ rw parts at same),
    )

pub last_within : (all : List Links) (rest earlier : List ℕ) (n : ℕ) → rest ≡ earlier ++ n ∷ []
    → AreMacros (macros_of all) rest → n < length all
last_within all rest earlier n parts macros =
    macro_within all n (AreMacros-parts (macros_of all) earlier n (rw parts at macros)).1

pub taken_within : (all : List Links) (taken : List ℕ) (k : ℕ) → k < length taken
    → AreMacros (macros_of all) taken → get_or taken k 0 < length all
taken_within all taken k within macros =
    macro_within all (get_or taken k 0) (AreMacros-at (macros_of all) taken k within macros)

-- the commands before, the target's own, and those behind
pub all_commands-joined : (macros : List (Option Links)) (own : List (List ℕ)) (taken : List ℕ)
    (start first second third texts : List (List ℕ)) (some others : List ℕ) → start ≡ []
    → first ≡ start ++ before macros some → second ≡ first ++ texts
    → third ≡ second ++ behind macros others → some ≡ taken → texts ≡ own → others ≡ taken
    → third ≡ all_commands macros own taken
all_commands-joined macros own taken start first second third texts some others none first_is
    second_is third_is some_are texts_are others_are =
    rw (third_is, second_is, first_is, none, some_are, texts_are, others_are)
    (sym (all_commands-is macros own taken))
