-- Questions about lines.
use Rattle.std.proofs.Common.{◌≡◌, ◌⊎◌, ℕ, inl, inr, List, [], Result, Ok, Err, refl, sym, ap}
use Rattle.std.proofs.Common.{subst}
use Rattle.mk_bytes.specs.Agrees.{AgreesErr}
use Rattle.mk_for.specs.declared.substitution.TurnFault.{TurnFault}
use Rattle.mk_for.specs.declared.substitution.TurnFault.TheVariants as in_turn
use Rattle.mk_lines.specs.declared.line.LogLine.{LogLine}
use Rattle.mk_turns.specs.Turns.{Turn, in_turns}
use Rattle.mk_blocks.specs.Languages.{LineMeaning, Question}
use Rattle.mk_blocks.specs.Meaning.{asked, in_turns_of, with_state}
use Rattle.mk_blocks.specs.FileFaults.{in_place, turn_located}
use Rattle.mk_blocks.specs.Runs.{Reads, Run, run_at}
use Rattle.mk_blocks.specs.Acts.{Act}
use Rattle.mk_blocks.specs.Outcomes.{Outcome, silent, done, ◌>>=◌}
use Rattle.mk_blocks.specs.Ties.{Answers, Does, Goes, Placed, Refuses, Ties, failure_in, sorted}
use Rattle.mk_blocks.specs.declared.fault.FileFault.{FileFault}
use Rattle.mk_blocks.specs.declared.fault.FileFault.TheVariants as file
use Rattle.mk_blocks.specs.declared.fault.Wrong.TheVariants as wrong
use Rattle.mk_blocks.specs.declared.fault.LanguageFault.{LanguageFault}
use Rattle.mk_blocks.specs.declared.fault.LanguageFault.TheVariants.{Wrong, Failed, NoMemory}
use Rattle.mk_blocks.proofs.TieLemmas.{Does-refuse, Does-want, Goes-bind, Refuses-bind}

module _ {X W F : Type 0} (ties : Ties X W F) (name : List ℕ) (number : ℕ) where
  Goes-in_place : {B : Type 0} {x y : X} {o p : Outcome B W}
      → Goes ties x y o p → Goes ties x y (in_place {F = F} name number o) (in_place name number p)
  Goes-in_place goes = record {
    acts = goes.acts;
    did = goes.did;
    is = ap (in_place name number) goes.is;
  }

  -- all acts that are done before a fault are those of its line
  did_whole : {B : Type 0} {x y : X} {what : W} {o : Outcome B W}
      → Goes ties x y o (silent (Err what)) → ties.did_part x y o.acts
  did_whole {x = x} {y = y} goes =
      subst (λ (acts : List Act). ties.did_part x y acts)
      (sym (ap (λ p. p.acts) goes.is)) (ties.part_of_more [] (ties.part_of_whole goes.did))

  placed_fault : {B : Type 0} (x y : X) (fault : LanguageFault W F) (found : FileFault W F)
      (o : Outcome B W)
      → Refuses ties x y fault o → Placed name number fault found
      → Refuses ties x y (sorted found) (in_place {F = F} name number o)
  placed_fault x y (Wrong what) found o goes (inl want) =
      subst (λ (f : FileFault W F). Refuses ties x y (sorted f) (in_place {F = F} name number o))
      (sym want) (did_whole goes)
  placed_fault x y (Wrong what) found o goes (inr is) =
      subst (λ (f : FileFault W F). Refuses ties x y (sorted f) (in_place {F = F} name number o))
      (sym is) (Goes-in_place goes)
  placed_fault x y (Failed failure) found o part is =
      subst (λ (f : FileFault W F). Refuses ties x y (sorted f) (in_place {F = F} name number o))
      (sym is) part
  placed_fault x y NoMemory found o part is =
      subst (λ (f : FileFault W F). Refuses ties x y (sorted f) (in_place {F = F} name number o))
      (sym is) part

  placed_failure : (x y : X) (fault : LanguageFault W F) (found : FileFault W F)
      → ties.leads (failure_in fault) x y → Placed name number fault found
      → ties.leads (failure_in (sorted found)) x y
  placed_failure x y (Wrong what) found leads (inl want) =
      subst (λ (f : FileFault W F). ties.leads (failure_in (sorted f)) x y) (sym want) leads
  placed_failure x y (Wrong what) found leads (inr is) =
      subst (λ (f : FileFault W F). ties.leads (failure_in (sorted f)) x y) (sym is) leads
  placed_failure x y (Failed failure) found leads is =
      subst (λ (f : FileFault W F). ties.leads (failure_in (sorted f)) x y) (sym is) leads
  placed_failure x y NoMemory found leads is =
      subst (λ (f : FileFault W F). ties.leads (failure_in (sorted f)) x y) (sym is) leads

-- a language is asked about a text that is no fault
asked-text : {S W F A : Type 0} (question : Question A S W) (name : List ℕ) (turns : List Turn)
    (l : LogLine) (r : Run S) (text : List ℕ)
    → in_turns_of {W = W} {F = F} name turns l ≡ Ok text
    → asked {F = F} question name turns l r
    ≡ (in_place name l.first (question name l.first text r.state) >>= λ g. done (with_state r g))
asked-text question name turns l r text is = rw is refl

-- and it is not asked where there is a fault
asked-fault : {S W F A : Type 0} (question : Question A S W) (name : List ℕ) (turns : List Turn)
    (l : LogLine) (r : Run S) (fault : FileFault W F)
    → in_turns_of {W = W} {F = F} name turns l ≡ Err fault
    → asked {F = F} question name turns l r ≡ silent (Err fault)
asked-fault question name turns l r fault is = rw is refl

-- the only fault of a line in its turns is the definition's own, or want of memory
turn-sorted : {W F : Type 0} (name : List ℕ) (number : ℕ) (turned : Result (List ℕ) TurnFault)
    (fault : FileFault W F) → turn_located name number turned ≡ Err fault
    → (sorted fault ≡ Wrong fault) ⊎ (sorted fault ≡ NoMemory)
turn-sorted name number (Ok text) fault is = absurd cc
turn-sorted name number (Err in_turn.TooLong) fault is =
    let same : file.Bad name number wrong.TooLong ≡ fault = cc in inl (rw (← same) refl)
turn-sorted name number (Err in_turn.NoMemory) fault is =
    let same : file.NoMemory ≡ fault = cc in inr (rw (← same) refl)

module _ {X W F A B : Type 0} (ties : Ties X W F) {x y : X}
    (question : LineMeaning ties.State W → Question B ties.State W) (view : A → B) (name : List ℕ)
    (turns : List Turn) (l : LogLine) (count number : ℕ) (text : List ℕ)
  where
    -- the answer of a language to a question about a line in these turns
    pub asked-ok : (given : A)
        → number ≡ l.first → in_turns_of {W = W} {F = F} name turns l ≡ Ok text
        → Answers ties x y question view name number text (Ok given)
        → Does ties sorted x y
        (λ answers given. done (view given, run_at (ties.state y) count)) (Ok given)
        (λ answers. asked {F = F} (question (ties.meaning answers)) name turns l
        (run_at (ties.state x) count))
    asked-ok given first same answer = record {
      leads = answer.leads;
      gives = λ answers agrees.
          let r = run_at (ties.state x) count in
          let goes : Goes ties x y
          (question (ties.meaning answers) name l.first text (ties.state x))
          (silent (Ok (view given, ties.state y))) =
          rw (← first) (answer.gives answers agrees) in
          subst (λ o. Goes ties x y o (done (view given, run_at (ties.state y) count)))
          (sym (asked-text (question (ties.meaning answers)) name turns l r text same))
          (Goes-bind ties (λ g. done (with_state r g)) (Goes-in_place ties name l.first goes));
    }

    -- or its fault
    pub asked-err : (fault : LanguageFault W F) (found : FileFault W F)
        {C : Type 0} {rest : ties.Answers → C → Reads W F (B × Run ties.State)}
        → number ≡ l.first → in_turns_of {W = W} {F = F} name turns l ≡ Ok text
        → Answers ties x y question view name number text (Err fault)
        → Placed name number fault found
        → Does ties sorted x y rest (Err found)
        (λ answers. asked (question (ties.meaning answers)) name turns l
        (run_at (ties.state x) count))
    asked-err fault found first same answer placed = record {
      leads = placed_failure ties name number x y fault found answer.leads placed;
      gives = λ answers agrees.
          let r = run_at (ties.state x) count in
          let refuses : Refuses ties x y fault
          (question (ties.meaning answers) name l.first text (ties.state x)) =
          rw (← first) (answer.gives answers agrees) in
          let at : Placed name l.first fault found = rw (← first) placed in
          subst (λ o. Refuses ties x y (sorted found) o)
          (sym (asked-text (question (ties.meaning answers)) name turns l r text same))
          (Refuses-bind ties x y (sorted found)
          (in_place name l.first (question (ties.meaning answers) name l.first text (ties.state x)))
          (λ g. done (with_state r g))
          (placed_fault ties name l.first x y fault found _ refuses at));
    }

-- the fault of a line in its turns, behind which nothing was asked
pub asked-long : {X W F B C : Type 0} (ties : Ties X W F) (x : X)
    (question : LineMeaning ties.State W → Question B ties.State W) (name : List ℕ)
    (turns : List Turn) (l : LogLine) (count : ℕ) (found : FileFault W F)
    {rest : ties.Answers → C → Reads W F (B × Run ties.State)}
    → AgreesErr file.NoMemory found (in_turns_of {W = W} {F = F} name turns l)
    → Does ties sorted x x rest (Err found)
    (λ answers. asked (question (ties.meaning answers)) name turns l (run_at (ties.state x) count))
asked-long ties x question name turns l count found (inl want) =
    rw want (Does-want ties sorted x file.NoMemory _ refl)
asked-long {W = W} {F = F} ties x question name turns l count found {rest = rest} (inr is) =
    by (turn-sorted name l.first (in_turns turns l.text) found is)
  where
    by : (sorted found ≡ Wrong found) ⊎ (sorted found ≡ NoMemory)
        → Does ties sorted x x rest (Err found)
        (λ answers. asked (question (ties.meaning answers)) name turns l
        (run_at (ties.state x) count))
    by (inl own) = Does-refuse ties sorted x found found _ own
        (λ answers. asked-fault (question (ties.meaning answers)) name turns l
        (run_at (ties.state x) count) found is)
    by (inr want) = Does-want ties sorted x found _ want
