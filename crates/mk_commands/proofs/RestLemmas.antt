-- What a child does from here to its end, one step after the other.
use Rattle.std.proofs.Common.{◌≡◌, ℕ, ◌+◌, ◌<◌, List, [], ◌∷◌, ◌++◌, length, take, get_or, refl, sym, ◌∙◌, ap, subst}
use Rattle.std.proofs.Common.{append_assoc, lt_of_not-le}
use Rattle.std.proofs.lemmas.List.{append-nil, take_more}
use Rattle.mk_world.specs.Deeds.{Store, Meets, after_deed, after_deeds}
use Rattle.mk_world.specs.Talks.{NextOf, Talks, IsOver, answer, deed_on, place}
use Rattle.mk_world.specs.declared.command.Cmd.{Cmd}
use Rattle.mk_world.specs.declared.step.Answer.{Answer}
use Rattle.mk_world.specs.declared.step.Deed.{Deed}
use Rattle.mk_world.specs.declared.step.Next.TheVariants.{More}
use Rattle.mk_world.specs.declared.step.Request.{Request}
use Rattle.mk_world.proofs.TalkLemmas.{deed_on-right}
use Rattle.mk_commands.specs.Language.{language_next, most_answers}
use Rattle.mk_commands.specs.LineEnds.{language_ends}

pub after_deeds-append : (store : Store) (deeds more : List Deed)
    → after_deeds store (deeds ++ more) ≡ after_deeds (after_deeds store deeds) more
after_deeds-append store [] more = refl
after_deeds-append store (deed ∷ deeds) more = after_deeds-append (after_deed store deed) deeds more

-- whatever a command does after these answers, on the files after these steps, completes the steps
pub record Completes (next : NextOf) (cmd : Cmd) (seen : List Answer) (store : Store)
    (answers : List Answer) (deeds : List Deed) : Type 0 where
  pub completes : (more : List Deed) (status : ℕ) (output : List ℕ)
      → Talks next cmd answers more status output → Meets (after_deeds store deeds) more
      → Talks next cmd seen (deeds ++ more) status output × Meets store (deeds ++ more)

pub Completes-none : (next : NextOf) (cmd : Cmd) (seen : List Answer) (store : Store)
    → Completes next cmd seen store seen []
Completes-none next cmd seen store =
    record { completes = λ more status output talks meets. (talks, meets) }

-- one step more
pub Completes-more : (next : NextOf) (cmd : Cmd) (seen : List Answer) (store : Store)
    (answers : List Answer) (deeds : List Deed) (request : Request)
    → Completes next cmd seen store answers deeds → next cmd answers ≡ More request
    → Completes next cmd seen store
    (answers ++ answer (deed_on request (after_deeds store deeds)) ∷ [])
    (deeds ++ deed_on request (after_deeds store deeds) ∷ [])
Completes-more next cmd seen store answers deeds request so_far asked =
    let now = after_deeds store deeds in
    let deed = deed_on request now in record {
      completes = λ more status output talks meets.
          let rest = so_far.completes (deed ∷ more) status output
          (request, now (place request), asked, refl, talks) (
            deed_on-right now request,
            subst (λ s. Meets s more) (after_deeds-append store deeds (deed ∷ [])) meets,
          ) in (
            subst (λ ds. Talks next cmd seen ds status output)
                (sym (append_assoc deeds (deed ∷ []) more)) rest.0,
            subst (λ ds. Meets store ds) (sym (append_assoc deeds (deed ∷ []) more)) rest.1,
          );
    }

-- at the end
pub Completes-all : (next : NextOf) (cmd : Cmd) (seen : List Answer) (store : Store)
    (answers : List Answer) (deeds : List Deed) (status : ℕ) (output : List ℕ)
    → Completes next cmd seen store answers deeds → Talks next cmd answers [] status output
    → Talks next cmd seen deeds status output × Meets store deeds
Completes-all next cmd seen store answers deeds status output so_far over =
    let all = so_far.completes [] status output over tt in (
      subst (λ ds. Talks next cmd seen ds status output) (append-nil deeds) all.0,
      subst (λ ds. Meets store ds) (append-nil deeds) all.1,
    )

-- a line that asks for more has answers for fewer than its words
pub asked_short : (cmd : Cmd) (answers : List Answer) (request : Request)
    → language_next cmd answers ≡ More request → length answers < most_answers cmd
asked_short cmd answers request asked =
    lt_of_not-le (λ past. subst IsOver asked (language_ends cmd answers past))

-- the steps after one more
pub stands-more : (store : Store) (deeds : List Deed) (i : ℕ) (deed : Deed) → i < length deeds
    → deed ≡ get_or deeds i deed
    → after_deeds store (take (i + 1) deeds) ≡ after_deed (after_deeds store (take i deeds)) deed
stands-more store deeds i deed within is =
    ap (after_deeds store) (take_more deeds i deed within)
    ∙ after_deeds-append store (take i deeds) (get_or deeds i deed ∷ [])
    ∙ ap (after_deed (after_deeds store (take i deeds))) (sym is)
