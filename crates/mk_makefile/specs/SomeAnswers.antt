-- For all questions there are answers that were given to them: what is said under all answers that
-- agree with the questions so far is never said of none.
use Rattle.std.specs.Prelude.{ℕ, Bool, false, List, [], Option, Some, None, slice_get}
use Rattle.std.proofs.Common.{refl}
use Rattle.mk_values.specs.declared.facts.Asked.{Asked}
use Rattle.mk_makefile.specs.Questions.{Answered, Answers, Listing, Question, Reading, Running}
use Rattle.mk_makefile.specs.Questions.{listings_in, readings_in, runnings_in, times_in}

abbrev told : Option Asked → Bool
told None = false
told (Some one) = one.answer

abbrev content : Option Reading → Option (List ℕ)
content None = None
content (Some one) = one.found

abbrev listing : Option Listing → Option (List (List ℕ))
listing None = None
listing (Some one) = one.names

abbrev output : Option Running → List ℕ
output None = []
output (Some one) = one.ended.output

-- Each question is answered by its place, as it was.
abbrev pub answers_to : List Question → Answers
answers_to questions = record {
  exists = λ place path. told (slice_get (times_in questions) place);
  contents = λ place path. content (slice_get (readings_in questions) place);
  listings = λ place dir. listing (slice_get (listings_in questions) place);
  outputs = λ place cmd. output (slice_get (runnings_in questions) place);
}

pub are_answered : (questions : List Question) → Answered (answers_to questions) questions
are_answered questions = record {
  exists = λ place one is. rw is refl;
  contents = λ place one is. rw is refl;
  listings = λ place one is. rw is refl;
  outputs = λ place one is. rw is refl;
}
