-- What calls leave of the world, by the questions that they ask.
use Rattle.std.specs.Prelude.{◌≡◌, List, [], ◌∷◌, ◌++◌, Option, Some, None}
use Rattle.std.proofs.Common.{refl, sym, ap, subst, ◌∙◌, append_assoc}
use Rattle.std.proofs.lemmas.List.{append-nil, map-append}
use Rattle.mk_world.specs.Talks.{Meaning}
use Rattle.mk_world.specs.Told.{Told}
use Rattle.mk_world.specs.declared.history.History.{History}
use Rattle.mk_makefile.specs.Notes.{question_of, questions_in}
use Rattle.mk_makefile.specs.Questions.{Question, AreAsked, AreTimes, bytes_of, cut, names_of}
use Rattle.mk_makefile.specs.Questions.{output_of, time_of}
use Rattle.mk_makefile.specs.declared.note.Note.{Note}

-- The questions that were noted in addition are those of `exists` alone. They were asked, and
-- nothing else happened, where no child runs.
pub record Led (meaning : Meaning) (idle : Type 0) (before after : Option History)
    (old new : List Note) : Type 0
  where
    pub more : List Note
    pub added : new ≡ old ++ more
    pub times : AreTimes (questions_in more)
    pub told : idle → Told before after (AreAsked meaning (questions_in more))

-- no question

pub told-none : (meaning : Meaning) (told : Option History) → Told told told (AreAsked meaning [])
told-none meaning None = tt
told-none meaning (Some history) = refl

pub led_nowhere : (meaning : Meaning) (idle : Type 0) (told : Option History) (notes : List Note)
    → Led meaning idle told told notes notes
led_nowhere meaning idle told notes = record {
  more = [];
  added = sym (append-nil notes);
  times = tt;
  told = λ is. told-none meaning told;
}

-- one question after the other

AreTimes-both : (first second : List Question) → AreTimes first → AreTimes second
    → AreTimes (first ++ second)
AreTimes-both [] second times more = more
AreTimes-both (time_of path when ∷ first) second times more = AreTimes-both first second times more
AreTimes-both (bytes_of path found ∷ first) second times more = absurd times
AreTimes-both (names_of dir names ∷ first) second times more = absurd times
AreTimes-both (output_of cmd ended ∷ first) second times more = absurd times
AreTimes-both (cut cmd ∷ first) second times more = absurd times

pub AreAsked-both : (meaning : Meaning) (a b c : History) (first second : List Question)
    → AreAsked meaning first a b → AreAsked meaning second b c
    → AreAsked meaning (first ++ second) a c
AreAsked-both meaning a b c [] second same more = subst (λ h. AreAsked meaning second h c) same more
AreAsked-both meaning a b c (one ∷ first) second asked more =
    (asked.0, asked.1, AreAsked-both meaning asked.0 b c first second asked.2 more)

pub told_both : (meaning : Meaning) (a b c : Option History) (first second : List Question)
    → Told a b (AreAsked meaning first) → Told b c (AreAsked meaning second)
    → Told a c (AreAsked meaning (first ++ second))
told_both meaning a b None first second asked more = tt
told_both meaning a None (Some z) first second asked more = absurd more
told_both meaning None (Some y) (Some z) first second asked more = absurd asked
told_both meaning (Some x) (Some y) (Some z) first second asked more =
    AreAsked-both meaning x y z first second asked more

pub led_on : (meaning : Meaning) (idle then_idle : Type 0) (a b c : Option History)
    (old mid new : List Note)
    → Led meaning idle a b old mid → (idle → then_idle) → Led meaning then_idle b c mid new
    → Led meaning idle a c old new
led_on meaning idle then_idle a b c old mid new first keeps second = record {
  more = first.more ++ second.more;
  added = second.added ∙ ap (λ l. l ++ second.more) first.added
      ∙ append_assoc old first.more second.more;
  times =
      subst AreTimes (sym (map-append question_of first.more second.more))
      (AreTimes-both (questions_in first.more) (questions_in second.more) first.times second.times);
  told = λ is.
      subst (λ q. Told a c (AreAsked meaning q))
      (sym (map-append question_of first.more second.more))
      (told_both meaning a b c (questions_in first.more) (questions_in second.more)
      (first.told is) (second.told (keeps is)));
}
