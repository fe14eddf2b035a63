-- Answers as the world gave them, and behind its questions those of the files; and answers by their places.
use Rattle.std.proofs.Common.{◌≡◌, ◌∙◌, ℕ, zero, suc, ◌+◌, Bool, List, [], ◌∷◌, Some, is_some, slice_get, if◌then◌else◌}
use Rattle.std.proofs.Common.{refl, sym, ap, arith}
use Rattle.std.proofs.lemmas.Slice.Eq.{bytes_eq-Decides}
use Rattle.std.specs.Str.{bytes_eq}
use Rattle.mk_answers.specs.Readings.{Counts}
use Rattle.mk_makefile.specs.Questions.{Answered, Answers, Listing, Question, Reading, Running}
use Rattle.mk_makefile.specs.Questions.{listings_in, readings_in, runnings_in, times_in}
use Rattle.mk_reader.specs.OnMaps.{Listings}
use Rattle.mk_values.specs.declared.facts.Asked.{Asked}
use Rattle.mk_world.specs.Deeds.{Store}
use Rattle.mk_world.specs.Talks.{Meaning, does}
use Rattle.mk_world.specs.declared.command.Cmd.{Cmd}

-- what is given by the item at a place, or this
abbrev at_place : {A B : Type 0} → (A → B) → B → List A → ℕ → B
at_place give other [] place = other
at_place give other (one ∷ more) zero = give one
at_place give other (one ∷ more) (suc place) = at_place give other more place

place-is : {A B : Type 0} (give : A → B) (other : B) (items : List A) (place : ℕ) (one : A)
    → slice_get items place ≡ Some one → at_place give other items place ≡ give one
place-is give other [] place one is = absurd cc
place-is give other (first ∷ more) zero one is = let same : first ≡ one = cc in ap give same
place-is give other (first ∷ more) (suc place) one is = place-is give other more place one is

-- whether a file is there: by the question, where it was asked of this path
abbrev pub there_by : Store → List ℕ → Asked → Bool
there_by store path one = if bytes_eq one.path path then one.answer else is_some (store path)

abbrev pub answers_behind : Meaning → Store → Listings → List Question → Answers
answers_behind meaning store listings questions = record {
  exists = λ place path. at_place (there_by store path) (is_some (store path)) (times_in questions) place;
  contents = λ place path. at_place (λ one. one.found) (store path) (readings_in questions) place;
  listings = λ place dir. at_place (λ one. one.names) (listings dir) (listings_in questions) place;
  outputs = λ place cmd.
      at_place (λ one. one.ended.output) (does meaning cmd store).output (runnings_in questions) place;
}

pub there-same : (store : Store) (one : Asked) → there_by store one.path one ≡ one.answer
there-same store one = rw ((bytes_eq-Decides one.path one.path).1 refl) refl

pub are-answered : (meaning : Meaning) (store : Store) (listings : Listings) (questions : List Question)
    → Answered (answers_behind meaning store listings questions) questions
are-answered meaning store listings questions = record {
  exists = λ place one is.
      sym (place-is (there_by store one.path) (is_some (store one.path)) (times_in questions) place one is
      ∙ there-same store one);
  contents = λ place one is.
      sym (place-is (λ (one : Reading). one.found) (store one.path) (readings_in questions) place one is);
  listings = λ place one is.
      sym (place-is (λ (one : Listing). one.names) (listings one.dir) (listings_in questions) place one is);
  outputs = λ place one is.
      sym (place-is (λ (one : Running). one.ended.output) (does meaning one.cmd store).output (runnings_in questions)
      place one is);
}

-- Other answers are those behind so many questions.
pub record IsBehind (answers other : Answers) (so_far : Counts) : Type 0 where
  pub exists : (place : ℕ) (path : List ℕ) → answers.exists (so_far.dated + place) path ≡ other.exists place path
  pub contents : (place : ℕ) (path : List ℕ) → answers.contents (so_far.read + place) path ≡ other.contents place path
  pub listings : (place : ℕ) (dir : List ℕ) → answers.listings (so_far.listed + place) dir ≡ other.listings place dir
  pub outputs : (place : ℕ) (cmd : Cmd) → answers.outputs (so_far.ran + place) cmd ≡ other.outputs place cmd

-- Answers are the same, whatever is asked.
pub record AreSame (one other : Answers) : Type 0 where
  pub exists : (place : ℕ) (path : List ℕ) → one.exists place path ≡ other.exists place path
  pub contents : (place : ℕ) (path : List ℕ) → one.contents place path ≡ other.contents place path
  pub listings : (place : ℕ) (dir : List ℕ) → one.listings place dir ≡ other.listings place dir
  pub outputs : (place : ℕ) (cmd : Cmd) → one.outputs place cmd ≡ other.outputs place cmd

pub none-before : (n : ℕ) → 0 + n ≡ n
none-before n = omega arith

pub first-place : (n : ℕ) → n ≡ n + 0
first-place n = omega arith

pub next-place : (n place : ℕ) → n + 1 + place ≡ n + suc place
next-place n place = omega arith
