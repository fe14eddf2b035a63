-- Questions of `exists` one after the other: the laws of whoever answers them.
use Rattle.std.specs.Prelude.{List, [], ◌++◌, map, Option}
use Rattle.std.proofs.Common.{sym, ap, ◌∙◌, subst, append_assoc}
use Rattle.std.proofs.lemmas.List.{append-nil, map-append}
use Rattle.std.specs.Option.{option_map}
use Rattle.mk_values.specs.declared.facts.Asked.{Asked}
use Rattle.mk_dirs.proofs.LookLemmas.{dates-none, dates-then}
use Rattle.mk_world.specs.Looks.{LooksAll, answered, dated}
use Rattle.mk_world.specs.Talks.{Meaning}
use Rattle.mk_world.specs.Told.{Told}
use Rattle.mk_world.specs.declared.history.History.{History}
use Rattle.mk_world.proofs.LookLemmas.{answered-append, looks-none, looks-then}
use Rattle.mk_plan.specs.Asking.{Asking, AskingBeside, as_asked}

-- no question

pub asking_none : (told : Option History) (asked : List Asked) → Asking told told asked asked
asking_none told asked =
    record { looked = []; added = sym (append-nil asked); told = dates-none told }

-- one question after the other

pub asking_then : (a b c : Option History) (old mid new : List Asked)
    → Asking a b old mid → Asking b c mid new → Asking a c old new
asking_then a b c old mid new first second = record {
  looked = first.looked ++ second.looked;
  added = second.added ∙ (ap (λ l. l ++ map as_asked second.looked) first.added
      ∙ (append_assoc old (map as_asked first.looked) (map as_asked second.looked)
      ∙ ap (λ l. old ++ l) (sym (map-append as_asked first.looked second.looked))));
  told = dates-then a b c first.looked second.looked first.told second.told;
}

-- the same while children may run

pub beside_none : (meaning : Meaning) (told : Option History) (asked : List Asked)
    → AskingBeside meaning told told asked asked
beside_none meaning told asked =
    record { questions = []; added = sym (append-nil asked); told = looks-none meaning told }

pub beside_then : (meaning : Meaning) (a b c : Option History) (old mid new : List Asked)
    → AskingBeside meaning a b old mid → AskingBeside meaning b c mid new
    → AskingBeside meaning a c old new
beside_then meaning a b c old mid new first second =
    let one = answered first.questions in
    let more = answered second.questions in
    record {
      questions = first.questions ++ second.questions;
      added = second.added ∙ (ap (λ l. l ++ map as_asked more) first.added
          ∙ (append_assoc old (map as_asked one) (map as_asked more)
          ∙ (ap (λ l. old ++ l) (sym (map-append as_asked one more))
          ∙ ap (λ l. old ++ map as_asked l)
          (sym (answered-append first.questions second.questions)))));
      told = subst (λ looks. Told a c (LooksAll meaning looks))
          (sym (map-append (option_map dated) first.questions second.questions))
          (looks-then meaning a b c (map (option_map dated) first.questions)
          (map (option_map dated) second.questions) first.told second.told);
    }
