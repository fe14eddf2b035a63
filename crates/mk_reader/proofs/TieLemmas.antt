-- Calls that are tied to a meaning, one after the other.
use Rattle.std.proofs.Common.{◌≡◌, List, [], ◌++◌, Option, Result, Ok, Err}
use Rattle.std.proofs.Common.{refl, sym, ap, subst, ◌∙◌}
use Rattle.mk_blocks.specs.Acts.{Act}
use Rattle.mk_blocks.specs.Outcomes.{Outcome, behind, followed, silent, ◌>>=◌}
use Rattle.mk_blocks.specs.Ties.{Does, Gives, Goes, Refuses, Ties, failure_in}
use Rattle.mk_blocks.specs.declared.fault.LanguageFault.{LanguageFault}
use Rattle.mk_blocks.specs.declared.fault.LanguageFault.TheVariants.{Wrong, Failed, NoMemory}
use Rattle.mk_blocks.proofs.OutcomeLemmas.{added, behind-behind, followed-acts}
use Rattle.mk_makefile.specs.ReadFaults.{outcome_as}

-- Outcomes

-- acts before a first step are acts before both
bind-behind : {A B E : Type 0} (acts shown : List Act) (answer : Result A E)
    (next : A → Outcome B E)
    → followed (acts ++ shown) answer next ≡ behind acts (followed shown answer next)
bind-behind acts shown (Ok given) next = sym (behind-behind acts shown (next given))
bind-behind acts shown (Err fault) next = refl

-- Faults in other words

abbrev pub verdict_as : {E G F : Type 0} → (E → G) → LanguageFault E F → LanguageFault G F
verdict_as view (Wrong fault) = Wrong (view fault)
verdict_as view (Failed failure) = Failed failure
verdict_as view NoMemory = NoMemory

failure_as : {E G F : Type 0} (view : E → G) (verdict : LanguageFault E F)
    → failure_in (verdict_as view verdict) ≡ failure_in verdict
failure_as view (Wrong fault) = refl
failure_as view (Failed failure) = refl
failure_as view NoMemory = refl

-- Calls

module _ {X W F : Type 0} (ties : Ties X W F) where
  Goes-then : {A E : Type 0} {x y z : X} {first second third : Outcome A E}
      → Goes ties x y first second → Goes ties y z second third → Goes ties x z first third
  Goes-then {third = third} goes then_goes = record {
    acts = goes.acts ++ then_goes.acts;
    did = ties.did_both goes.did then_goes.did;
    is = goes.is ∙ ap (behind goes.acts) then_goes.is
        ∙ behind-behind goes.acts then_goes.acts third;
  }

  pub Goes-bind : {A B E : Type 0} {x y : X} {first second : Outcome A E} (next : A → Outcome B E)
      → Goes ties x y first second → Goes ties x y (first >>= next) (second >>= next)
  Goes-bind {second = second} next goes = record {
    acts = goes.acts;
    did = goes.did;
    is = ap (λ o. o >>= next) goes.is
        ∙ bind-behind goes.acts second.acts second.answer next;
  }

  pub Goes-as : {A E : Type 0} (x y : X) {one other rest then_rest : Outcome A E}
      → one ≡ other → rest ≡ then_rest → Goes ties x y other rest → Goes ties x y one then_rest
  Goes-as x y same then_same goes = record {
    acts = goes.acts;
    did = goes.did;
    is = same ∙ goes.is ∙ ap (behind goes.acts) then_same;
  }

  part_then : {A E : Type 0} {x y z : X} {first second : Outcome A E}
      → Goes ties x y first second → ties.did_part y z second.acts
      → ties.did_part x z first.acts
  part_then {x = x} {z = z} goes part =
      subst (λ (acts : List Act). ties.did_part x z acts)
      (sym (ap (λ o. o.acts) goes.is)) (ties.part_behind goes.did part)

  part_bind : {A B E : Type 0} {x y : X} (o : Outcome A E) (next : A → Outcome B E)
      → ties.did_part x y o.acts → ties.did_part x y (o >>= next).acts
  part_bind {x = x} {y = y} o next part =
      subst (λ (acts : List Act). ties.did_part x y acts)
      (sym (followed-acts o.acts o.answer next))
      (ties.part_of_more (added o.answer next) part)

  Refuses-then : {A E : Type 0} (x y z : X) {first second : Outcome A E}
      (fault : LanguageFault E F)
      → Goes ties x y first second → Refuses ties y z fault second → Refuses ties x z fault first
  Refuses-then x y z (Wrong fault) goes refuses = Goes-then goes refuses
  Refuses-then x y z (Failed failure) goes part = part_then goes part
  Refuses-then x y z NoMemory goes part = part_then goes part

  Refuses-bind : {A B E : Type 0} (x y : X) (fault : LanguageFault E F) (o : Outcome A E)
      (next : A → Outcome B E)
      → Refuses ties x y fault o → Refuses ties x y fault (o >>= next)
  Refuses-bind x y (Wrong fault) o next goes = Goes-bind next goes
  Refuses-bind x y (Failed failure) o next part = part_bind o next part
  Refuses-bind x y NoMemory o next part = part_bind o next part

  Gives-then : {A B D E : Type 0} (sorted : D → LanguageFault E F) (x y z : X)
      (rest : A → Outcome B E) (answer : Result A D) {one other : Outcome B E}
      → Goes ties x y one other → Gives ties sorted y z rest answer other
      → Gives ties sorted x z rest answer one
  Gives-then sorted x y z rest (Ok given) goes gives = Goes-then goes gives
  Gives-then sorted x y z rest (Err fault) goes gives = Refuses-then x y z (sorted fault) goes gives

  -- a call behind which something is left, which another call does
  pub left-then : {A B G D E : Type 0} (sorted : D → LanguageFault E F) {x y z : X} {given : G}
      {answer : Result A D} {left : ties.Answers → G → Outcome B E}
      {other : ties.Answers → A → Outcome B E} {whole : ties.Answers → Outcome B E}
      → Does ties sorted x y left (Ok given) whole
      → Does ties sorted y z other answer (λ answers. left answers given)
      → Does ties sorted x z other answer whole
  left-then sorted {x = x} {y = y} {z = z} {answer = answer} {other = other} does then_does = record {
    leads = ties.leads_on does.leads then_does.leads;
    gives = λ answers agrees.
        Gives-then sorted x y z (other answers) answer
        (does.gives answers (ties.agreed answers then_does.leads agrees))
        (then_does.gives answers agrees);
  }

  module _ {A B G H D E : Type 0} (sorted : D → LanguageFault E F)
      {first : ties.Answers → Outcome G E} (next : ties.Answers → G → Outcome B E)
    where
      -- the fault of a first step is that of both
      pub first-refused : {x y : X} {fault : D} {rest : ties.Answers → H → Outcome G E}
          {other : ties.Answers → A → Outcome B E}
          → Does ties sorted x y rest (Err fault) first
          → Does ties sorted x y other (Err fault) (λ answers. first answers >>= next answers)
      first-refused {x = x} {y = y} {fault = fault} does = record {
        leads = does.leads;
        gives = λ answers agrees.
            Refuses-bind x y (sorted fault) (first answers) (next answers)
            (does.gives answers agrees);
      }

      -- a first step that went well, and another one
      pub first-then : {x y z : X} {given : H} {answer : Result A D}
          {rest : ties.Answers → H → Outcome G E} {other : ties.Answers → A → Outcome B E}
          → Does ties sorted x y rest (Ok given) first
          → Does ties sorted y z other answer (λ answers. rest answers given >>= next answers)
          → Does ties sorted x z other answer (λ answers. first answers >>= next answers)
      first-then {x = x} {y = y} {z = z} {answer = answer} {other = other} does then_does = record {
        leads = ties.leads_on does.leads then_does.leads;
        gives = λ answers agrees.
            Gives-then sorted x y z (other answers) answer
            (Goes-bind (next answers)
            (does.gives answers (ties.agreed answers then_does.leads agrees)))
            (then_does.gives answers agrees);
      }

  -- Nothing is asked

  module _ {A B D E : Type 0} (sorted : D → LanguageFault E F) (x : X)
      {rest : ties.Answers → A → Outcome B E} (whole : ties.Answers → Outcome B E)
    where
      pub still-given : (given : A)
          → ((answers : ties.Answers) → whole answers ≡ rest answers given)
          → Does ties sorted x x rest (Ok given) whole
      still-given given same = record {
        leads = ties.leads_nowhere x;
        gives = λ answers agrees. record {
          acts = [];
          did = ties.did_nothing x;
          is = same answers;
        };
      }

      pub still-wrong : (fault : D) (own : E) → sorted fault ≡ Wrong own
          → ((answers : ties.Answers) → whole answers ≡ silent (Err own))
          → Does ties sorted x x rest (Err fault) whole
      still-wrong fault own sort same = record {
        leads = subst (λ (f : Option F). ties.leads f x x) (sym (ap failure_in sort))
            (ties.leads_nowhere x);
        gives = λ answers agrees.
            subst (λ (v : LanguageFault E F). Refuses ties x x v (whole answers)) (sym sort)
            (record { acts = []; did = ties.did_nothing x; is = same answers });
      }

      pub still-want : (fault : D) → sorted fault ≡ NoMemory
          → Does ties sorted x x rest (Err fault) whole
      still-want fault sort = record {
        leads = subst (λ (f : Option F). ties.leads f x x) (sym (ap failure_in sort))
            (ties.leads_nowhere x);
        gives = λ answers agrees.
            subst (λ (v : LanguageFault E F). Refuses ties x x v (whole answers)) (sym sort)
            (ties.part_of_more (whole answers).acts
            (ties.part_of_whole (ties.did_nothing x)));
      }

  Goes-seen : {A E G : Type 0} (view : E → G) (x y : X) {one other : Outcome A E}
      → Goes ties x y one other → Goes ties x y (outcome_as view one) (outcome_as view other)
  Goes-seen view x y goes = record {
    acts = goes.acts;
    did = goes.did;
    is = ap (outcome_as view) goes.is;
  }

  Refuses-seen : {A E G : Type 0} (view : E → G) (x y : X) (verdict : LanguageFault E F)
      (o : Outcome A E)
      → Refuses ties x y verdict o → Refuses ties x y (verdict_as view verdict) (outcome_as view o)
  Refuses-seen view x y (Wrong fault) o goes = Goes-seen view x y goes
  Refuses-seen view x y (Failed failure) o part = part
  Refuses-seen view x y NoMemory o part = part

  module _ {A B C D E G H : Type 0} (view : E → G) (sorted : D → LanguageFault E F)
      (then_sorted : H → LanguageFault G F) {x y : X} {whole : ties.Answers → Outcome B E}
      {rest : ties.Answers → A → Outcome B E}
    where
      pub seen-given : {given : A} (found : C) {other : ties.Answers → C → Outcome B G}
          → ((answers : ties.Answers) → outcome_as view (rest answers given) ≡ other answers found)
          → Does ties sorted x y rest (Ok given) whole
          → Does ties then_sorted x y other (Ok found) (λ answers. outcome_as view (whole answers))
      seen-given found {other = other} same does = record {
        leads = does.leads;
        gives = λ answers agrees.
            subst (λ o. Goes ties x y (outcome_as view (whole answers)) o) (same answers)
            (Goes-seen view x y (does.gives answers agrees));
      }

      pub seen-refused : {fault : D} (found : H) {other : ties.Answers → C → Outcome B G}
          → then_sorted found ≡ verdict_as view (sorted fault)
          → Does ties sorted x y rest (Err fault) whole
          → Does ties then_sorted x y other (Err found) (λ answers. outcome_as view (whole answers))
      seen-refused {fault = fault} found same does = record {
        leads = subst (λ (f : Option F). ties.leads f x y)
            (sym (ap failure_in same ∙ failure_as view (sorted fault))) does.leads;
        gives = λ answers agrees.
            subst (λ (v : LanguageFault G F).
            Refuses ties x y v (outcome_as view (whole answers))) (sym same)
            (Refuses-seen view x y (sorted fault) (whole answers) (does.gives answers agrees));
      }

  -- the same definition in other words
  pub does-as : {A B D E : Type 0} (sorted : D → LanguageFault E F) (x y : X) (answer : Result A D)
      {rest : ties.Answers → A → Outcome B E} (other : ties.Answers → Outcome B E)
      {whole : ties.Answers → Outcome B E}
      → ((answers : ties.Answers) → whole answers ≡ other answers)
      → Does ties sorted x y rest answer other → Does ties sorted x y rest answer whole
  does-as {B = B} {E = E} sorted x y answer {rest} other same does = record {
    leads = does.leads;
    gives = λ answers agrees.
        subst (λ (o : Outcome B E). Gives ties sorted x y (rest answers) answer o)
        (sym (same answers)) (does.gives answers agrees);
  }
