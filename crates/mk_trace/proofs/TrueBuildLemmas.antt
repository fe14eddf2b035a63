-- Builds whose meta files tell what happened, at every moment.
use Rattle.std.proofs.Common.{◌≡◌, ◌∙◌, ◌⊎◌, List, [], ◌∷◌, ◌++◌, Option, Some, None, Bool}
use Rattle.std.proofs.Common.{inl, inr, refl, sym, ap, subst}
use Rattle.std.proofs.lemmas.List.{append-nil}
use Rattle.mk_world.proofs.CallLemmas.{MayAll-parts}
use Rattle.mk_world.specs.History.{MayAll as MayHappen, state_of}
use Rattle.mk_world.specs.Talks.{Meaning}
use Rattle.mk_world.specs.Told.{Told}
use Rattle.mk_world.specs.declared.history.History.{History}
use Rattle.mk_decision.specs.Decisions.{Work}
use Rattle.mk_trace.proofs.ItemLemmas.{happened_all-append}
use Rattle.mk_trace.proofs.TrueLemmas.{fits-first, makes-first, meta_files_true}
use Rattle.mk_trace.specs.Builds.{Build, IsBuild, Makes, Moment, first_build}
use Rattle.mk_trace.specs.Calls.{AreLeaveItems, AreStepItems, GivesUpLast, NoneLeft}
use Rattle.mk_trace.specs.Items.{Item, looks, keeps, refuses, starts, passes, waits, steps, ends, changes, leaves, FitsAll, Happened, happened_all}
use Rattle.mk_trace.specs.Runs as run
use Rattle.mk_trace.specs.TrueBuilds.{StaysTrue, behind}

-- beginnings of lists

-- Of two ways to part a list, one has the shorter first part.
pub record Longer {A : Type 0} (first second more behind : List A) : Type 0 where
  pub between : List A
  pub is : first ≡ second ++ between
  pub then_is : behind ≡ between ++ more

pub parts : {A : Type 0} (first more second behind : List A) → first ++ more ≡ second ++ behind
    → Longer first second more behind ⊎ Longer second first behind more
parts [] more second behind same = inr (record { between = second; is = refl; then_is = same })
parts (one ∷ first) more [] behind same =
    inl (record { between = one ∷ first; is = refl; then_is = sym same })
parts (one ∷ first) more (other ∷ second) behind same =
    let heads : one ≡ other = cc in
    let tails : first ++ more ≡ second ++ behind = cc in
    longer heads (parts first more second behind tails)
  where
    longer : one ≡ other → Longer first second more behind ⊎ Longer second first behind more
        → Longer (one ∷ first) (other ∷ second) more behind ⊎ Longer (other ∷ second) (one ∷ first) behind more
    longer heads (inl is) =
        inl (record { between = is.between; is = rw (heads, is.is) refl; then_is = is.then_is })
    longer heads (inr is) =
        inr (record { between = is.between; is = rw (heads, is.is) refl; then_is = is.then_is })

none-first : (items more : List Item) → NoneLeft (items ++ more) → NoneLeft items
none-first [] more none = tt
none-first (looks n seen ∷ items) more none = none-first items more none
none-first (keeps n ∷ items) more none = none-first items more none
none-first (refuses n number what ∷ items) more none = none-first items more none
none-first (starts n number ticket owner cmd ∷ items) more none = none-first items more none
none-first (passes n number ∷ items) more none = none-first items more none
none-first (waits ∷ items) more none = none-first items more none
none-first (steps ticket owner deed time ∷ items) more none = none-first items more none
none-first (ends n number owner one ∷ items) more none = none-first items more none
none-first (changes n change ∷ items) more none = none-first items more none
none-first (leaves ticket owner ∷ items) more none = absurd none

leaves-first : (items more : List Item) → AreLeaveItems (items ++ more) → AreLeaveItems items
leaves-first [] more are = tt
leaves-first (item ∷ items) more are = (are.0, leaves-first items more are.1)

steps-first : (items more : List Item) → AreStepItems (items ++ more) → AreStepItems items
steps-first [] more are = tt
steps-first (item ∷ items) more are = (are.0, steps-first items more are.1)

-- In the beginning of a build, too, children are given up last.
gives-first : (so_far later : List Item) → GivesUpLast (so_far ++ later) → GivesUpLast so_far
gives-first so_far later last = by (parts so_far later last.front (last.left ++ last.late) last.are)
  where
    in_late : (more : List Item) → so_far ≡ last.front ++ more
        → Longer more last.left later last.late ⊎ Longer last.left more last.late later
        → GivesUpLast so_far
    in_late more is (inl late) = record {
      front = last.front;
      left = last.left;
      late = late.between;
      are = is ∙ ap (λ l. last.front ++ l) late.is;
      none = last.none;
      left_are = last.left_are;
      late_are = steps-first late.between later (subst AreStepItems late.then_is last.late_are);
    }
    in_late more is (inr left) = record {
      front = last.front;
      left = more;
      late = [];
      are = is ∙ ap (λ l. last.front ++ l) (sym (append-nil more));
      none = last.none;
      left_are = leaves-first more left.between (subst AreLeaveItems left.is last.left_are);
      late_are = tt;
    }

    by : Longer so_far last.front later (last.left ++ last.late)
        ⊎ Longer last.front so_far (last.left ++ last.late) later → GivesUpLast so_far
    by (inl behind_front) =
        in_late behind_front.between behind_front.is
        (parts behind_front.between later last.left last.late (sym behind_front.then_is))
    by (inr in_front) = record {
      front = so_far;
      left = [];
      late = [];
      are = sym (append-nil so_far);
      none = none-first so_far in_front.between (subst NoneLeft in_front.is last.none);
      left_are = tt;
      late_are = tt;
    }

-- The beginning of a build happened, too.
happened-first : (meaning : Meaning) (so_far later : List Item) (old new : History)
    → Happened meaning (so_far ++ later) old new → Happened meaning so_far old (behind old so_far)
happened-first meaning so_far later old new happens = record {
  base = refl;
  events = refl;
  lawful =
      (MayAll-parts meaning (state_of old) (happened_all so_far) (happened_all later)
      (subst (MayHappen meaning (state_of old)) (happened_all-append so_far later) happens.lawful)).0;
  fits = fits-first meaning (state_of old) so_far later happens.fits;
}

stays-true : (meaning : Meaning) (work : Work) (tasks : run.Tasks) (items : List Item) (old new : History)
    → Makes work tasks (first_build work) items → GivesUpLast items → Happened meaning items old new
    → StaysTrue meaning work tasks items old
stays-true meaning work tasks items old new makes last happens =
    λ lawful idle truth so_far later are apart.
    meta_files_true meaning work tasks so_far old (behind old so_far) lawful idle truth
    (makes-first work tasks (first_build work) so_far later
    (subst (Makes work tasks (first_build work)) are makes))
    (happened-first meaning so_far later old new (subst (λ l. Happened meaning l old new) are happens))
    (gives-first so_far later (subst GivesUpLast are last)) apart

told-true : (meaning : Meaning) (work : Work) (tasks : run.Tasks) (items : List Item)
    (before after : Option History) → Makes work tasks (first_build work) items → GivesUpLast items
    → Told before after (Happened meaning items)
    → Told before after (λ old new. StaysTrue meaning work tasks items old)
told-true meaning work tasks items before None makes last told = tt
told-true meaning work tasks items None (Some new) makes last told = absurd told
told-true meaning work tasks items (Some old) (Some new) makes last told =
    stays-true meaning work tasks items old new makes last told

-- the meta files of every build
pub build-true : {meaning : Meaning} {work : Work} {cut : Bool} {first last : Moment}
    {Stands : Build → Type 0} (build : IsBuild meaning work cut first last Stands)
    → Told first.history last.history (λ old new. StaysTrue meaning work build.tasks build.items old)
build-true {meaning} {work} {cut} {first} {last} {Stands} build =
    told-true meaning work build.tasks build.items first.history last.history build.makes build.gives_up
    build.told
