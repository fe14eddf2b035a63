-- Jobs that edits do not reach do what they did.
use Rattle.std.proofs.Common.{◌≡◌, ◌≢◌, ◌⊎◌, inl, inr, ℕ, ◌||◌, Bool, true, false, List, [], ◌∷◌, Option, Some, None, refl, sym, ◌∙◌, ap, subst, if◌then◌else◌}
use Rattle.std.proofs.lemmas.Bool.{false≢true}
use Rattle.mk_clean.proofs.CleanLemmas.{after_none, after_over, agree_on, unchanged}
use Rattle.mk_clean.proofs.JobLemmas.{job_agree}
use Rattle.mk_clean.specs.Clean.{Changes, CleanJob, DependsOn, IsAmong, IsWell, LeavesIt, Plan, after_by, clean_build, cleared, deeds_of, doings_on, is_changed, jobs_by, lines_in}
use Rattle.mk_clean.specs.Declared.{AreWellMade, IsDeclared, IsMadeBefore, IsOwn, IsPrivate, IsSource, LeavesFile}
use Rattle.mk_declared.specs.Present.{at}
use Rattle.mk_world.specs.Deeds.{Store, after_deeds}
use Rattle.mk_world.specs.Outer.{nothing_over, outer, over_deeds}
use Rattle.mk_world.specs.Talks.{Meaning}
use Rattle.mk_world.specs.declared.step.Deed.{Deed}
use Rattle.mk_edited.specs.Edited.{AreDeclaredBehind, AreEditedAt, DoesTheSame, Edited, EditedBuildsAreDeclared, LooksAt, ReachNoOther, Reached, ReachedAreDeclared}

-- the same steps leave the same where the same stood
after-same : (deeds : List Deed) (one other : Store) (path : List ℕ) → other path ≡ one path
    → after_deeds other deeds path ≡ after_deeds one deeds path
after-same deeds one other path is = by (over_deeds nothing_over deeds path) refl
  where
    by : (over : Option (Option (List ℕ))) → over_deeds nothing_over deeds path ≡ over
        → after_deeds other deeds path ≡ after_deeds one deeds path
    by None none = after_none other deeds path none ∙ (is ∙ sym (after_none one deeds path none))
    by (Some bytes) some = after_over other deeds path bytes some ∙ sym (after_over one deeds path bytes some)

-- two jobs of one node that do the same differ in the files before them alone
same-at : (one other : CleanJob) → other.node ≡ one.node → other.doings ≡ one.doings → at other.before one ≡ other
same-at one other node doings =
    ap (λ n. record { node = n; before = other.before; doings = one.doings }) (sym node)
    ∙ ap (λ d. record { node = other.node; before = other.before; doings = d }) (sym doings)

-- These jobs are of the same nodes, place by place, and do the same where they are not reached.
abbrev Alike : Reached → List CleanJob → List CleanJob → Type 0
Alike reached [] [] = Unit {0}
Alike reached [] (other ∷ others) = ⊥
Alike reached (one ∷ ones) [] = ⊥
Alike reached (one ∷ ones) (other ∷ others) =
    (other.node ≡ one.node) × (reached one.node ≡ false → other.doings ≡ one.doings) × Alike reached ones others

-- the one of two jobs of a node
record Partner (reached : Reached) (ones : List CleanJob) (other : CleanJob) : Type 0 where
  one : CleanJob
  among : IsAmong one ones
  node : other.node ≡ one.node
  doings : reached one.node ≡ false → other.doings ≡ one.doings

later-partner : {reached : Reached} {ones : List CleanJob} {other : CleanJob} (first : CleanJob)
    → Partner reached ones other → Partner reached (first ∷ ones) other
later-partner first it = record { one = it.one; among = inr it.among; node = it.node; doings = it.doings }

partner : (reached : Reached) (ones others : List CleanJob) → Alike reached ones others
    → (other : CleanJob) → IsAmong other others → Partner reached ones other
partner reached [] [] alike other among = absurd among
partner reached [] (first ∷ others) alike other among = absurd alike
partner reached (one ∷ ones) [] alike other among = absurd among
partner reached (one ∷ ones) (first ∷ others) alike other (inl is) =
    subst (Partner reached (one ∷ ones)) (sym is)
    (record { one = one; among = inl refl; node = alike.0; doings = alike.1 })
partner reached (one ∷ ones) (first ∷ others) alike other (inr among) =
    later-partner one (partner reached ones others alike.2 other among)

-- and the other one
record Counterpart (reached : Reached) (one : CleanJob) (others : List CleanJob) : Type 0 where
  other : CleanJob
  among : IsAmong other others
  node : other.node ≡ one.node
  doings : reached one.node ≡ false → other.doings ≡ one.doings

later-counterpart : {reached : Reached} {one : CleanJob} {others : List CleanJob} (first : CleanJob)
    → Counterpart reached one others → Counterpart reached one (first ∷ others)
later-counterpart first it = record { other = it.other; among = inr it.among; node = it.node; doings = it.doings }

counterpart : (reached : Reached) (ones others : List CleanJob) → Alike reached ones others
    → (one : CleanJob) → IsAmong one ones → Counterpart reached one others
counterpart reached [] others alike one among = absurd among
counterpart reached (first ∷ ones) [] alike one among = absurd alike
counterpart reached (first ∷ ones) (other ∷ others) alike one (inl is) =
    subst (λ it. Counterpart reached it (other ∷ others)) (sym is)
    (record { other = other; among = inl refl; node = alike.0; doings = alike.1 })
counterpart reached (first ∷ ones) (other ∷ others) alike one (inr among) =
    later-counterpart other (counterpart reached ones others alike.2 one among)

module _ (meaning : Meaning) (plan : Plan) (files new : Store) (edited : Edited) (reached : Reached)
    (are : AreEditedAt plan edited files new) (declared : IsDeclared plan (clean_build meaning plan files))
    (well_made : AreWellMade plan (clean_build meaning plan files))
    (reach : ReachNoOther plan (clean_build meaning plan files) edited reached)
    (left : ReachedAreDeclared plan reached (clean_build meaning plan files) (clean_build meaning plan new))
  where
    abbrev those : List CleanJob
    those = clean_build meaning plan files

    abbrev these : List CleanJob
    these = clean_build meaning plan new

    -- a path that stands at the beginning as it did, and that no job changes which is reached
    record IsKept (path : List ℕ) : Type 0 where
      stands : cleared plan new path ≡ cleared plan files path
      those_leave : (one : CleanJob) → IsAmong one those → reached one.node ≡ true → LeavesIt one path
      these_leave : (one : CleanJob) → IsAmong one these → reached one.node ≡ true → LeavesIt one path

    source-stands : (path : List ℕ) → edited path ≡ false → IsSource plan those path
        → cleared plan new path ≡ cleared plan files path
    source-stands path unedited source =
        ap (λ b. if b || plan.is_meta path then None else new path) source.no_made
        ∙ (ap (λ b. if b then None else new path) source.no_meta
        ∙ (are path unedited source.no_made source.no_meta
        ∙ sym (ap (λ b. if b || plan.is_meta path then None else files path) source.no_made
        ∙ ap (λ b. if b then None else files path) source.no_meta)))

    made-stands : (path : List ℕ) → plan.is_made path ≡ true → cleared plan new path ≡ cleared plan files path
    made-stands path made =
        ap (λ b. if b || plan.is_meta path then None else new path) made
        ∙ sym (ap (λ b. if b || plan.is_meta path then None else files path) made)

    -- a reached job changes no made file of a node that is not reached
    those-leave : (maker : CleanJob) → IsAmong maker those → reached maker.node ≡ false
        → (one : CleanJob) → IsAmong one those → reached one.node ≡ true → LeavesIt one (plan.node maker.node).name
    those-leave maker maker_among unreached one among is = by (is_changed (deeds_of one) (plan.node maker.node).name) refl
      where
        never : IsOwn plan one (plan.node maker.node).name ⊎ IsPrivate plan those one (plan.node maker.node).name → ⊥
        never (inl own) = false≢true
            (sym unreached ∙ (ap reached (sym (well_made.names one maker among maker_among own.name)) ∙ is))
        never (inr own) = false≢true (sym own.no_node ∙ well_made.is_node maker maker_among)

        by : (b : Bool) → is_changed (deeds_of one) (plan.node maker.node).name ≡ b
            → LeavesIt one (plan.node maker.node).name
        by true changes = absurd (never (declared.changes one among (plan.node maker.node).name changes))
        by false leaves = leaves

    -- what a job looks at that is not reached is kept
    kept : (one : CleanJob) → IsAmong one those → reached one.node ≡ false → (path : List ℕ) → LooksAt one path
        → IsKept path
    kept one among unreached path looks = by (declared.reads one among path looks)
      where
        leave : (other : CleanJob) → IsAmong other these → reached other.node ≡ true → LeavesIt other path
        leave other other_among is = left.unseen other other_among is one among unreached path looks

        by : IsSource plan those path ⊎ IsMadeBefore plan those one path → IsKept path
        by (inl source) = record {
          stands = source-stands path (reach.unedited one among unreached path looks) source;
          those_leave = λ other other_among is. source.alone other other_among;
          these_leave = leave;
        }
        by (inr made) =
            let maker_unreached = reach.unreached one made.maker among made.among unreached made.made
            (subst (LooksAt one) (sym made.name) looks) in
            record {
              stands = made-stands path
                  (subst (λ p. plan.is_made p ≡ true) made.name (well_made.is_made made.maker made.among made.made));
              those_leave = λ other other_among is.
                  subst (LeavesIt other) made.name
                  (those-leave made.maker made.among maker_unreached other other_among is);
              these_leave = leave;
            }

    -- the jobs of these nodes, one behind the other, on files that are the same at kept paths
    walk : (todo : List ℕ) (one other : Store)
        → ((it : CleanJob) → IsAmong it (jobs_by meaning plan.command (lines_in plan) todo one) → IsAmong it those)
        → ((it : CleanJob) → IsAmong it (jobs_by meaning plan.command (lines_in plan) todo other) → IsAmong it these)
        → ((path : List ℕ) → IsKept path → other path ≡ one path)
        → Alike reached (jobs_by meaning plan.command (lines_in plan) todo one)
        (jobs_by meaning plan.command (lines_in plan) todo other)
    walk [] one other among_those among_these same = tt
    walk (node ∷ todo) one other among_those among_these same = (
      refl,
      doings,
      walk todo (after_by meaning plan.command (lines_in plan) node one)
          (after_by meaning plan.command (lines_in plan) node other)
          (λ it among. among_those it (inr among)) (λ it among. among_these it (inr among))
          (next (reached node) refl),
    )
      where
        first : CleanJob
        first = record { node = node; before = one; doings = doings_on meaning plan node one }

        second : CleanJob
        second = record { node = node; before = other; doings = doings_on meaning plan node other }

        first-among : IsAmong first those
        first-among = among_those first (inl refl)

        second-among : IsAmong second these
        second-among = among_these second (inl refl)

        doings : reached node ≡ false → doings_on meaning plan node other ≡ doings_on meaning plan node one
        doings unreached =
            job_agree meaning plan.command (plan.node node).lines one other
            (agree_on one other (outer nothing_over (deeds_of first))
            (λ path looks. sym (same path (kept first first-among unreached path looks))))

        next : (b : Bool) → reached node ≡ b → (path : List ℕ) → IsKept path
            → after_deeds other (deeds_of second) path ≡ after_deeds one (deeds_of first) path
        next true is path keeps =
            unchanged other (deeds_of second) path (keeps.these_leave second second-among is)
            ∙ (same path keeps ∙ sym (unchanged one (deeds_of first) path (keeps.those_leave first first-among is)))
        next false is path keeps =
            ap (λ all. after_deeds other (deeds_of (record { node = node; before = other; doings = all })) path)
            (doings is)
            ∙ after-same (deeds_of first) one other path (same path keeps)

    alike : Alike reached those these
    alike = walk plan.order (cleared plan files) (cleared plan new) (λ it among. among) (λ it among. among)
        (λ path keeps. keeps.stands)

    partner-of : (other : CleanJob) → IsAmong other these → Partner reached those other
    partner-of = partner reached those these alike

    -- a job that is not reached is its partner, on other files
    is-partner : (other : CleanJob) (its : Partner reached those other) → reached other.node ≡ false
        → at other.before its.one ≡ other
    is-partner other its unreached =
        same-at its.one other its.node (its.doings (ap reached (sym its.node) ∙ unreached))

    unreached-partner : (other : CleanJob) (its : Partner reached those other) → reached other.node ≡ false
        → reached its.one.node ≡ false
    unreached-partner other its unreached = ap reached (sym its.node) ∙ unreached

    -- what holds of no change of a job holds of its partner's
    partner-leaves : (other : CleanJob) (its : Partner reached those other) → reached other.node ≡ false
        → (path : List ℕ) → LeavesIt its.one path → LeavesIt other path
    partner-leaves other its unreached path leaves =
        subst (λ it. LeavesIt it path) (is-partner other its unreached) leaves

    -- a source of those is one of these, where a job looks at it that is not reached
    source-of : (one : CleanJob) → IsAmong one those → reached one.node ≡ false → (path : List ℕ) → LooksAt one path
        → IsSource plan those path → IsSource plan these path
    source-of one among unreached path looks source = record {
      alone = λ other other_among. by other other_among (reached other.node) refl;
      no_made = source.no_made;
      no_meta = source.no_meta;
    }
      where
        by : (other : CleanJob) → IsAmong other these → (b : Bool) → reached other.node ≡ b → LeavesIt other path
        by other other_among true is = left.unseen other other_among is one among unreached path looks
        by other other_among false is =
            let its = partner-of other other_among in
            partner-leaves other its is path (source.alone its.one its.among)

    before-of : (one other : CleanJob) → other.node ≡ one.node → (path : List ℕ) → IsMadeBefore plan those one path
        → IsMadeBefore plan these other path
    before-of one other node path made =
        let maker = counterpart reached those these alike made.maker made.among in record {
          maker = maker.other;
          among = maker.among;
          made = subst (λ n. (plan.node n).made ≡ true) (sym maker.node) made.made;
          name = subst (λ n. (plan.node n).name ≡ path) (sym maker.node) made.name;
          depends = subst (λ n. DependsOn plan n maker.other.node) (sym node)
              (subst (λ n. DependsOn plan one.node n) (sym maker.node) made.depends);
        }

    private-of : (one other : CleanJob) (among : IsAmong one those) → IsAmong other these → other.node ≡ one.node
        → (path : List ℕ) → Changes other path → IsPrivate plan those one path → IsPrivate plan these other path
    private-of one other among other_among node path changes own = record {
      no_node = own.no_node;
      alone = λ third third_among apart. by third third_among apart (reached third.node) refl;
    }
      where
        by : (third : CleanJob) → IsAmong third these → third.node ≢ other.node → (b : Bool)
            → reached third.node ≡ b → LeavesIt third path
        by third third_among apart false is =
            let its = partner-of third third_among in
            partner-leaves third its is path
            (own.alone its.one its.among (λ same. apart (its.node ∙ (same ∙ sym node))))
        by third third_among apart true is = leaves (is_changed (deeds_of third) path) refl
          where
            never : IsOwn plan third path ⊎ IsPrivate plan these third path → ⊥
            never (inl its_own) =
                let its = partner-of third third_among in
                false≢true (sym own.no_node
                ∙ subst (λ p. plan.is_node p ≡ true) its_own.name
                (subst (λ n. plan.is_node (plan.node n).name ≡ true) (sym its.node)
                (well_made.is_node its.one its.among)))
            never (inr its_own) =
                false≢true (sym (its_own.alone other other_among (λ same. apart (sym same))) ∙ changes)

            leaves : (b : Bool) → is_changed (deeds_of third) path ≡ b → LeavesIt third path
            leaves true its_changes = absurd (never (left.changes third third_among is path its_changes))
            leaves false none = none

    reads : (other : CleanJob) → IsAmong other these → (path : List ℕ) → LooksAt other path
        → IsSource plan these path ⊎ IsMadeBefore plan these other path
    reads other among path looks = by (reached other.node) refl
      where
        by : (b : Bool) → reached other.node ≡ b → IsSource plan these path ⊎ IsMadeBefore plan these other path
        by true is = left.reads other among is path looks
        by false is = found (declared.reads its.one its.among path its_looks)
          where
            its : Partner reached those other
            its = partner-of other among

            its_looks : LooksAt its.one path
            its_looks = subst (λ it. LooksAt it path) (sym (is-partner other its is)) looks

            found : IsSource plan those path ⊎ IsMadeBefore plan those its.one path
                → IsSource plan these path ⊎ IsMadeBefore plan these other path
            found (inl source) =
                inl (source-of its.one its.among (unreached-partner other its is) path its_looks source)
            found (inr made) = inr (before-of its.one other its.node path made)

    changes : (other : CleanJob) → IsAmong other these → (path : List ℕ) → Changes other path
        → IsOwn plan other path ⊎ IsPrivate plan these other path
    changes other among path changed = by (reached other.node) refl
      where
        by : (b : Bool) → reached other.node ≡ b → IsOwn plan other path ⊎ IsPrivate plan these other path
        by true is = left.changes other among is path changed
        by false is =
            found (declared.changes its.one its.among path
            (subst (λ it. Changes it path) (sym (is-partner other its is)) changed))
          where
            its : Partner reached those other
            its = partner-of other among

            found : IsOwn plan its.one path ⊎ IsPrivate plan those its.one path
                → IsOwn plan other path ⊎ IsPrivate plan these other path
            found (inl own) = inl (record {
              made = subst (λ n. (plan.node n).made ≡ true) (sym its.node) own.made;
              name = subst (λ n. (plan.node n).name ≡ path) (sym its.node) own.name;
            })
            found (inr own) = inr (private-of its.one other its.among among its.node path changed own)

    leaves : (other : CleanJob) → IsAmong other these → IsWell plan other → (plan.node other.node).made ≡ true
        → LeavesFile plan other
    leaves other among well made = by (reached other.node) refl
      where
        by : (b : Bool) → reached other.node ≡ b → LeavesFile plan other
        by true is = left.leaves other among is well made
        by false is =
            let its = partner-of other among in
            let same = is-partner other its is in
            let file = declared.leaves its.one its.among (subst (IsWell plan) (sym same) well)
            (subst (λ n. (plan.node n).made ≡ true) its.node made) in
            subst (LeavesFile plan) same (record { bytes = file.bytes; is = file.is })

    no-meta : (other : CleanJob) → IsAmong other these → (path : List ℕ) → plan.is_meta path ≡ true
        → LeavesIt other path
    no-meta other among path meta = by (reached other.node) refl
      where
        by : (b : Bool) → reached other.node ≡ b → LeavesIt other path
        by true is = left.no_meta other among is path meta
        by false is =
            let its = partner-of other among in
            partner-leaves other its is path (declared.no_meta its.one its.among path meta)

    are-declared : AreDeclaredBehind plan reached those these
    are-declared = record {
      same = λ one among unreached.
          let it = counterpart reached those these alike one among in
          record { other = it.other; among = it.among; node = it.node; doings = it.doings unreached };
      declared = record { reads = reads; changes = changes; leaves = leaves; no_meta = no-meta };
    }

pub edited_builds_are_declared : EditedBuildsAreDeclared
edited_builds_are_declared meaning plan files new edited reached are declared well_made reach left =
    are-declared meaning plan files new edited reached are declared well_made reach left
