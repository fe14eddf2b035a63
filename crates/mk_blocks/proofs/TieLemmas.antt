-- Calls of a language, one after the other.
use Rattle.std.proofs.Common.{◌≡◌, List, [], ◌++◌, Option, None, Result, Ok, Err, refl, sym, ap}
use Rattle.std.proofs.Common.{subst, ◌∙◌}
use Rattle.mk_blocks.specs.Acts.{Act}
use Rattle.mk_blocks.specs.Outcomes.{Outcome, behind, silent, ◌>>=◌}
use Rattle.mk_blocks.proofs.OutcomeLemmas.{added, behind-behind, bind-behind, followed-acts}
use Rattle.mk_blocks.specs.Ties.{Does, Gives, Goes, Refuses, Ties, failure_in}
use Rattle.mk_blocks.specs.declared.fault.LanguageFault.{LanguageFault}
use Rattle.mk_blocks.specs.declared.fault.LanguageFault.TheVariants.{Wrong, Failed, NoMemory}

module _ {X W F : Type 0} (ties : Ties X W F) where
  pub Goes-here : {A E : Type 0} (x : X) (whole rest : Outcome A E)
      → whole ≡ rest → Goes ties x x whole rest
  Goes-here x whole rest is = record {
    acts = [];
    did = ties.did_nothing x;
    is = is;
  }

  pub Goes-then : {A E : Type 0} {x y z : X} {first second third : Outcome A E}
      → Goes ties x y first second → Goes ties y z second third → Goes ties x z first third
  Goes-then {third = third} goes then_goes = record {
    acts = goes.acts ++ then_goes.acts;
    did = ties.did_both goes.did then_goes.did;
    is = goes.is ∙ ap (behind goes.acts) then_goes.is
        ∙ behind-behind goes.acts then_goes.acts third;
  }

  pub Goes-bind : {A B E : Type 0} {x y : X} {first second : Outcome A E} (next : A → Outcome B E)
      → Goes ties x y first second → Goes ties x y (first >>= next) (second >>= next)
  Goes-bind {second = second} next goes = record {
    acts = goes.acts;
    did = goes.did;
    is = ap (λ o. o >>= next) goes.is ∙ bind-behind goes.acts second next;
  }

  part_then : {A E : Type 0} {x y z : X} {first second : Outcome A E}
      → Goes ties x y first second → ties.did_part y z second.acts
      → ties.did_part x z first.acts
  part_then {x = x} {z = z} goes part =
      subst (λ (acts : List Act). ties.did_part x z acts)
      (sym (ap (λ o. o.acts) goes.is)) (ties.part_behind goes.did part)

  part_bind : {A B E : Type 0} {x y : X} (o : Outcome A E) (next : A → Outcome B E)
      → ties.did_part x y o.acts → ties.did_part x y (o >>= next).acts
  part_bind {x = x} {y = y} o next part =
      subst (λ (acts : List Act). ties.did_part x y acts)
      (sym (followed-acts o.acts o.answer next))
      (ties.part_of_more (added o.answer next) part)

  pub Refuses-then : {A E : Type 0} (x y z : X) {first second : Outcome A E}
      (fault : LanguageFault E F)
      → Goes ties x y first second → Refuses ties y z fault second → Refuses ties x z fault first
  Refuses-then x y z (Wrong fault) goes refuses = Goes-then goes refuses
  Refuses-then x y z (Failed failure) goes part = part_then goes part
  Refuses-then x y z NoMemory goes part = part_then goes part

  pub Refuses-bind : {A B E : Type 0} (x y : X) (fault : LanguageFault E F) (o : Outcome A E)
      (next : A → Outcome B E)
      → Refuses ties x y fault o → Refuses ties x y fault (o >>= next)
  Refuses-bind x y (Wrong fault) o next goes = Goes-bind next goes
  Refuses-bind x y (Failed failure) o next part = part_bind o next part
  Refuses-bind x y NoMemory o next part = part_bind o next part

  -- a part of any acts was done where none was
  pub Refuses-nothing : {A E : Type 0} (x : X) (o : Outcome A E) → ties.did_part x x o.acts
  Refuses-nothing x o = ties.part_of_more o.acts (ties.part_of_whole (ties.did_nothing x))

  refused_here : {B E : Type 0} (x : X) (verdict : LanguageFault E F) (fault : E) (o : Outcome B E)
      → verdict ≡ Wrong fault → o ≡ silent (Err fault) → Refuses ties x x verdict o
  refused_here {E = E} x verdict fault o sort is =
      subst (λ (v : LanguageFault E F). Refuses ties x x v o) (sym sort) (Goes-here x o (silent
      (Err fault)) is)

  wanted_here : {B E : Type 0} (x : X) (verdict : LanguageFault E F) (o : Outcome B E)
      → verdict ≡ NoMemory → Refuses ties x x verdict o
  wanted_here {E = E} x verdict o sort =
      subst (λ (v : LanguageFault E F). Refuses ties x x v o) (sym sort) (Refuses-nothing x o)

  no_failure : {E : Type 0} (x : X) (verdict other : LanguageFault E F)
      → verdict ≡ other → failure_in other ≡ None → ties.leads (failure_in verdict) x x
  no_failure x verdict other sort none =
      subst (λ (f : Option F). ties.leads f x x) (sym (ap failure_in sort ∙ none))
      (ties.leads_nowhere x)

  module _ {A B D E : Type 0} (sorted : D → LanguageFault E F) where
    Gives-then : (x y z : X) (rest : A → Outcome B E) (answer : Result A D)
        {first second : Outcome B E}
        → Goes ties x y first second → Gives ties sorted y z rest answer second
        → Gives ties sorted x z rest answer first
    Gives-then x y z rest (Ok given) goes gives = Goes-then goes gives
    Gives-then x y z rest (Err fault) goes gives = Refuses-then x y z (sorted fault) goes gives

    -- what a call does behind another one that went well
    pub Does-then : {G : Type 0} {x y z : X} {given : G} {answer : Result A D}
        {step : ties.Answers → G → Outcome B E} {rest : ties.Answers → A → Outcome B E}
        {defined : ties.Answers → Outcome B E}
        → Does ties sorted x y step (Ok given) defined
        → Does ties sorted y z rest answer (λ answers. step answers given)
        → Does ties sorted x z rest answer defined
    Does-then {x = x} {y = y} {z = z} {answer = answer} {rest = rest} does then_does = record {
      leads = ties.leads_on does.leads then_does.leads;
      gives = λ answers agrees.
          Gives-then x y z (rest answers) answer
          (does.gives answers (ties.agreed answers then_does.leads agrees))
          (then_does.gives answers agrees);
    }

    -- the same definition in other words
    pub Does-is : {x y : X} {answer : Result A D} {rest : ties.Answers → A → Outcome B E}
        (defined : ties.Answers → Outcome B E) {other : ties.Answers → Outcome B E}
        → ((answers : ties.Answers) → defined answers ≡ other answers)
        → Does ties sorted x y rest answer other → Does ties sorted x y rest answer defined
    Does-is {x = x} {y = y} {answer = answer} {rest = rest} defined same does = record {
      leads = does.leads;
      gives = λ answers agrees.
          subst (λ (o : Outcome B E). Gives ties sorted x y (rest answers) answer o)
          (sym (same answers)) (does.gives answers agrees);
    }

    -- nothing is asked of the language
    pub Does-here : (x : X) (given : A) {rest : ties.Answers → A → Outcome B E}
        (defined : ties.Answers → Outcome B E)
        → ((answers : ties.Answers) → defined answers ≡ rest answers given)
        → Does ties sorted x x rest (Ok given) defined
    Does-here x given {rest = rest} defined same = record {
      leads = ties.leads_nowhere x;
      gives = λ answers agrees. Goes-here x (defined answers) (rest answers given) (same answers);
    }

    -- and a fault of the definition stands
    pub Does-refuse : (x : X) (fault : D) (own : E) {rest : ties.Answers → A → Outcome B E}
        (defined : ties.Answers → Outcome B E)
        → sorted fault ≡ Wrong own
        → ((answers : ties.Answers) → defined answers ≡ silent (Err own))
        → Does ties sorted x x rest (Err fault) defined
    Does-refuse x fault own defined sort is = record {
      leads = no_failure x (sorted fault) (Wrong own) sort refl;
      gives = λ answers agrees. refused_here x (sorted fault) own (defined answers) sort
          (is answers);
    }

    -- or memory ran out
    pub Does-want : (x : X) (fault : D) {rest : ties.Answers → A → Outcome B E}
        (defined : ties.Answers → Outcome B E)
        → sorted fault ≡ NoMemory → Does ties sorted x x rest (Err fault) defined
    Does-want x fault defined sort = record {
      leads = no_failure x (sorted fault) NoMemory sort refl;
      gives = λ answers agrees. wanted_here x (sorted fault) (defined answers) sort;
    }

    -- a call behind which more is to be done
    Gives-bind : {C : Type 0} (x y : X) (rest : A → Outcome B E) (answer : Result A D)
        (o : Outcome B E) (next : B → Outcome C E)
        → Gives ties sorted x y rest answer o
        → Gives ties sorted x y (λ a. rest a >>= next) answer (o >>= next)
    Gives-bind x y rest (Ok given) o next goes = Goes-bind next goes
    Gives-bind x y rest (Err fault) o next refuses = Refuses-bind x y (sorted fault) o next refuses

    pub Does-bind : {C : Type 0} {x y : X} {answer : Result A D}
        {rest : ties.Answers → A → Outcome B E} {defined : ties.Answers → Outcome B E}
        (next : ties.Answers → B → Outcome C E)
        → Does ties sorted x y rest answer defined
        → Does ties sorted x y (λ answers a. rest answers a >>= next answers) answer
        (λ answers. defined answers >>= next answers)
    Does-bind {x = x} {y = y} {answer = answer} {rest = rest} {defined = defined} next does = record {
      leads = does.leads;
      gives = λ answers agrees.
          Gives-bind x y (rest answers) answer (defined answers) (next answers)
          (does.gives answers agrees);
    }

  -- a fault is the same whatever was to be given
  pub Does-err : {A C B D E : Type 0} (sorted : D → LanguageFault E F) {x y : X} {fault : D}
      {rest : ties.Answers → A → Outcome B E} {other : ties.Answers → C → Outcome B E}
      {defined : ties.Answers → Outcome B E}
      → Does ties sorted x y rest (Err fault) defined → Does ties sorted x y other
      (Err fault) defined
  Does-err sorted does = record { leads = does.leads; gives = does.gives }

  -- what was given in other words
  pub Does-ok : {A C B D E : Type 0} (sorted : D → LanguageFault E F) {x y : X} {given : A}
      (seen : C)
      {rest : ties.Answers → A → Outcome B E} {other : ties.Answers → C → Outcome B E}
      {defined : ties.Answers → Outcome B E}
      → ((answers : ties.Answers) → rest answers given ≡ other answers seen)
      → Does ties sorted x y rest (Ok given) defined → Does ties sorted x y other (Ok seen) defined
  Does-ok sorted {x = x} {y = y} seen {defined = defined} same does = record {
    leads = does.leads;
    gives = λ answers agrees.
        subst (λ o. Goes ties x y (defined answers) o) (same answers) (does.gives answers agrees);
  }

  module _ {A B G H D E : Type 0} (sorted : D → LanguageFault E F) {x y : X}
      {first : ties.Answers → Outcome G E} {defined : ties.Answers → Outcome B E}
      (next : ties.Answers → G → Outcome B E)
      (same : (answers : ties.Answers) → defined answers ≡ (first answers >>= next answers))
    where
      -- the fault of a first step is that of all
      pub first-err : {fault : D} {rest : ties.Answers → H → Outcome G E}
          {other : ties.Answers → A → Outcome B E}
          → Does ties sorted x y rest (Err fault) first → Does ties sorted x y other
          (Err fault) defined
      first-err does = Does-is sorted defined same (Does-err sorted (Does-bind sorted next does))

      -- a first step, and what is left behind it
      pub first-ok : {given : H} (seen : A) {rest : ties.Answers → H → Outcome G E}
          {other : ties.Answers → A → Outcome B E}
          → ((answers : ties.Answers) → (rest answers given >>= next answers) ≡ other answers seen)
          → Does ties sorted x y rest (Ok given) first → Does ties sorted x y other
          (Ok seen) defined
      first-ok seen left does = Does-ok sorted seen left (Does-is sorted defined same
          (Does-bind sorted next does))

      -- a first step, and another one
      pub first-then : {z : X} {given : H} {answer : Result A D} {rest : ties.Answers → H
          → Outcome G E}
          {other : ties.Answers → A → Outcome B E}
          → Does ties sorted x y rest (Ok given) first
          → Does ties sorted y z other answer (λ answers. rest answers given >>= next answers)
          → Does ties sorted x z other answer defined
      first-then does then_does =
          Does-is sorted defined same (Does-then sorted (Does-bind sorted next does) then_does)
