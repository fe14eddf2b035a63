-- A reading in the world is that of the files at its beginning, where the commands of that one change none.
use Rattle.std.proofs.Common.{◌≡◌, ◌∙◌, ℕ, zero, suc, ◌+◌, Bool, true, false, not, List, [], ◌∷◌, ◌++◌, Option, Some, None, Result, Ok, Err, is_some}
use Rattle.std.proofs.Common.{inl, inr, refl, sym, ap, subst}
use Rattle.std.proofs.lemmas.Slice.Eq.{bytes_eq-Decides}
use Rattle.std.specs.List.{AllByRecursion}
use Rattle.std.specs.Option.{option_map}
use Rattle.std.specs.Str.{bytes_eq}
use Rattle.mk_answers.proofs.GivenLemmas.{AreSame, IsBehind, answers_behind, are-answered, first-place, next-place, none-before, there-same, there_by}
use Rattle.mk_answers.proofs.ReadingLemmas.{readings_part_at_questions}
use Rattle.mk_answers.specs.OnFiles.{ChangesNone, WorldsAreReadAsFiles}
use Rattle.mk_answers.specs.Readings.{AnswerAlike, Counts, behind_act, behind_acts, none_so_far}
use Rattle.mk_blocks.specs.Acts.{Act, wrote, looked, dated, listed, ran}
use Rattle.mk_graph.specs.declared.Made.{Made}
use Rattle.mk_makefile.specs.Acts.{DidPart, DidPart-whole, acts_of, asked_in, dates}
use Rattle.mk_makefile.specs.Questions.{Answers, AreAsked, Question}
use Rattle.mk_makefile.specs.Questions.{bytes_of, cut, names_of, output_of, time_of}
use Rattle.mk_makefile.specs.ReadFaults.{Reads}
use Rattle.mk_makefile.specs.Reading.{reading}
use Rattle.mk_makefile.specs.declared.fault.Outside.{Outside}
use Rattle.mk_makefile.specs.declared.fault.ReadFault.TheVariants.{Bad, Limit, NoFile, NoMemory, Sink, World}
use Rattle.mk_makefile.specs.declared.fault.ReadFault.{ReadFault}
use Rattle.mk_meta.specs.TrueHistory.{changed_paths}
use Rattle.mk_reader.specs.OnMaps.{Listings, answers_on, reading_on}
use Rattle.mk_reader.specs.Results.{Gave, failure_in}
use Rattle.mk_reader.specs.Ties.{IsCutLast, IsWhole, cut_last-none}
use Rattle.mk_values.specs.declared.facts.Asked.{Asked}
use Rattle.mk_world.proofs.CallLemmas.{after_all-append}
use Rattle.mk_world.proofs.ListingLemmas.{one-listing}
use Rattle.mk_world.specs.Calls.{when_of}
use Rattle.mk_world.specs.Deeds.{Store, after_deeds}
use Rattle.mk_world.specs.History.{Filed, after_all, contents, files_of, first_state, state_of}
use Rattle.mk_world.specs.Listings.{Lists}
use Rattle.mk_world.specs.Looks.{DatesOnce, is_missing}
use Rattle.mk_world.specs.Runs.{RanAtMost, Same}
use Rattle.mk_world.specs.Talks.{Meaning, after_doing, does}
use Rattle.mk_world.specs.declared.command.Cmd.{Cmd}
use Rattle.mk_world.specs.declared.history.Happening.TheVariants.{Look}
use Rattle.mk_world.specs.declared.history.History.{History}
use Rattle.mk_world.specs.declared.step.Deed.{Deed}
use Rattle.mk_world.specs.declared.step.Deed.TheVariants as deed
use Rattle.mk_world.specs.declared.time.When.{When}

-- what changes no path changes nothing
pub unchanged : (store : Store) (deeds : List Deed) → changed_paths deeds ≡ [] → after_deeds store deeds ≡ store
unchanged store [] none = refl
unchanged store (deed.Read path bytes ∷ deeds) none = unchanged store deeds none
unchanged store (deed.Miss path ∷ deeds) none = unchanged store deeds none
unchanged store (deed.Write path bytes ∷ deeds) none = absurd cc
unchanged store (deed.Delete path ∷ deeds) none = absurd cc
unchanged store (deed.Move from to bytes ∷ deeds) none = absurd cc

-- a look changes no file
pub looked-files : (old new : History) (path : List ℕ) → new.base ≡ old.base
    → new.events ≡ old.events ++ Look path ∷ [] → files_of new ≡ files_of old
looked-files old new path base events =
    ap (λ base. contents (after_all (first_state base) new.events).files) base
    ∙ ap (λ events. contents (after_all (first_state old.base) events).files) events
    ∙ ap (λ s. contents s.files) (after_all-append (first_state old.base) old.events (Look path ∷ []))

there-of : (file : Option Filed)
    → not (is_missing (when_of file)) ≡ is_some (option_map (λ one. one.bytes) file)
there-of None = refl
there-of (Some file) = refl

-- acts that are questions, among others
all-asked : (P : Act → Type 0) (acts : List Act) → AllByRecursion P acts → AllByRecursion P (asked_in acts)
all-asked P [] are = tt
all-asked P (wrote message ∷ acts) are = all-asked P acts are.1
all-asked P (looked path ∷ acts) are = (are.0, all-asked P acts are.1)
all-asked P (dated path ∷ acts) are = (are.0, all-asked P acts are.1)
all-asked P (listed dir ∷ acts) are = (are.0, all-asked P acts are.1)
all-asked P (ran cmd ∷ acts) are = (are.0, all-asked P acts are.1)

all-first : (P : Act → Type 0) (acts more : List Act) → AllByRecursion P (acts ++ more) → AllByRecursion P acts
all-first P [] more are = tt
all-first P (act ∷ acts) more are = (are.0, all-first P acts more are.1)

dates-change : (meaning : Meaning) (store : Store) (listings : Listings) (acts : List Act) (looks : List Asked)
    → AllByRecursion (ChangesNone meaning store listings) acts
    → AllByRecursion (ChangesNone meaning store listings) (acts ++ dates looks)
dates-change meaning store listings [] [] are = tt
dates-change meaning store listings [] (one ∷ looks) are = (tt, dates-change meaning store listings [] looks tt)
dates-change meaning store listings (act ∷ acts) looks are =
    (are.0, dates-change meaning store listings acts looks are.1)

pub same-files : (old new : History) → Same old new → files_of new ≡ files_of old
same-files old new same =
    ap (λ base. contents (after_all (first_state base) new.events).files) same.base
    ∙ ap (λ events. contents (after_all (first_state old.base) events).files) same.events

behind-first : (first : Question) (more : List Question) → IsCutLast (first ∷ more) → IsCutLast more
behind-first first [] last = tt
behind-first first (next ∷ more) last = last.1

none-behind : (cmd : Cmd) (more : List Question) → IsCutLast (cut cmd ∷ more) → more ≡ []
none-behind cmd [] last = refl
none-behind cmd (next ∷ more) last = let never = last.0 in absurd cc

module _ (meaning : Meaning) (store : Store) (listings : Listings) (answers : Answers) (last : History) where
  abbrev Changes : Act → Type 0
  Changes = ChangesNone meaning store listings

  abbrev IsAlike : Counts → Act → Type 0
  IsAlike = AnswerAlike (answers_on meaning store listings) answers

  -- the questions that the world answers from a moment on, at which the files are these
  record Asks (so_far : Counts) (questions : List Question) (now : History) : Type 0 where
    files : files_of now ≡ store
    asked : AreAsked meaning questions now last
    cut_last : IsCutLast questions
    behind : IsBehind answers (answers_behind meaning store listings questions) so_far

  -- one act was answered as by the files, and the others are asked behind it
  record Stepped (so_far : Counts) (act : Act) (acts : List Act) : Type 0 where
    alike : IsAlike so_far act
    more : List Question
    now : History
    asks : Asks (behind_act so_far act) more now
    acts_are : acts_of more ≡ acts

  cut-files : (cmd : Cmd) (now next : History) → files_of now ≡ store → Changes (ran cmd)
      → RanAtMost meaning cmd now next → files_of next ≡ store
  cut-files cmd now next files none (inl same) = same-files now next same ∙ files
  cut-files cmd now next files none (inr it) =
      it.files ∙ (ap (after_doing meaning cmd) files ∙ unchanged store (does meaning cmd store).deeds none)

  -- a time that was told is that of the files
  time-there : (path : List ℕ) (when : When) (now next : History) → files_of now ≡ store
      → DatesOnce (record { path = path; when = when }) now next → not (is_missing when) ≡ is_some (store path)
  time-there path when now next files dates =
      ap (λ when. not (is_missing when)) dates.told
      ∙ (there-of ((state_of now).files path) ∙ ap (λ (files : Store). is_some (files path)) files)

  past-output : (more : List Question) → more ≡ [] → (place : ℕ) (cmd : Cmd)
      → (answers_behind meaning store listings more).outputs place cmd ≡ (does meaning cmd store).output
  past-output more none place cmd =
      ap (λ (l : List Question). (answers_behind meaning store listings l).outputs place cmd) none

  stepped : (so_far : Counts) (questions : List Question) (now : History) (act : Act) (acts : List Act)
      → Asks so_far questions now → acts_of questions ≡ act ∷ acts → Changes act → Stepped so_far act acts
  stepped so_far [] now act acts asks is none = absurd cc
  stepped so_far (bytes_of path found ∷ more) now act acts asks is none =
      let same : looked path ≡ act = cc in
      let rest : acts_of more ≡ acts = cc in
      subst (λ it. Stepped so_far it acts) same (record {
        alike = ap (λ n. answers.contents n path) (first-place so_far.read)
            ∙ (asks.behind.contents 0 path
            ∙ (asks.asked.1.answered ∙ ap (λ (files : Store). files path) asks.files));
        more = more;
        now = asks.asked.0;
        asks = record {
          files = looked-files now asks.asked.0 path asks.asked.1.base asks.asked.1.event ∙ asks.files;
          asked = asks.asked.2;
          cut_last = behind-first (bytes_of path found) more asks.cut_last;
          behind = record {
            exists = asks.behind.exists;
            contents = λ place path.
                ap (λ n. answers.contents n path) (next-place so_far.read place)
                ∙ asks.behind.contents (suc place) path;
            listings = asks.behind.listings;
            outputs = asks.behind.outputs;
          };
        };
        acts_are = rest;
      })
  stepped so_far (time_of path when ∷ more) now act acts asks is none =
      let same : dated path ≡ act = cc in
      let rest : acts_of more ≡ acts = cc in
      subst (λ it. Stepped so_far it acts) same (record {
        alike = ap (λ n. answers.exists n path) (first-place so_far.dated)
            ∙ (asks.behind.exists 0 path
            ∙ (there-same store (record { path = path; answer = not (is_missing when) })
            ∙ time-there path when now asks.asked.0 asks.files asks.asked.1));
        more = more;
        now = asks.asked.0;
        asks = record {
          files = looked-files now asks.asked.0 path asks.asked.1.base asks.asked.1.event ∙ asks.files;
          asked = asks.asked.2;
          cut_last = behind-first (time_of path when) more asks.cut_last;
          behind = record {
            exists = λ place path.
                ap (λ n. answers.exists n path) (next-place so_far.dated place)
                ∙ asks.behind.exists (suc place) path;
            contents = asks.behind.contents;
            listings = asks.behind.listings;
            outputs = asks.behind.outputs;
          };
        };
        acts_are = rest;
      })
  stepped so_far (names_of dir names ∷ more) now act acts asks is none =
      let same : listed dir ≡ act = cc in
      let rest : acts_of more ≡ acts = cc in
      subst (λ it. Stepped so_far it acts) same (record {
        alike = ap (λ n. answers.listings n dir) (first-place so_far.listed)
            ∙ (asks.behind.listings 0 dir
            ∙ one-listing store dir (listings dir) names (subst Changes (sym same) none)
            (subst (λ (files : Store). Lists files dir names) asks.files asks.asked.1.listed));
        more = more;
        now = asks.asked.0;
        asks = record {
          files = looked-files now asks.asked.0 dir asks.asked.1.base asks.asked.1.event ∙ asks.files;
          asked = asks.asked.2;
          cut_last = behind-first (names_of dir names) more asks.cut_last;
          behind = record {
            exists = asks.behind.exists;
            contents = asks.behind.contents;
            listings = λ place dir.
                ap (λ n. answers.listings n dir) (next-place so_far.listed place)
                ∙ asks.behind.listings (suc place) dir;
            outputs = asks.behind.outputs;
          };
        };
        acts_are = rest;
      })
  stepped so_far (output_of cmd ended ∷ more) now act acts asks is none =
      let same : ran cmd ≡ act = cc in
      let rest : acts_of more ≡ acts = cc in
      subst (λ it. Stepped so_far it acts) same (record {
        alike = ap (λ n. answers.outputs n cmd) (first-place so_far.ran)
            ∙ (asks.behind.outputs 0 cmd
            ∙ (asks.asked.1.answered.output
            ∙ ap (λ (files : Store). (does meaning cmd files).output) asks.files));
        more = more;
        now = asks.asked.0;
        asks = record {
          files = cut-files cmd now asks.asked.0 asks.files (subst Changes (sym same) none) (inr asks.asked.1.ran);
          asked = asks.asked.2;
          cut_last = behind-first (output_of cmd ended) more asks.cut_last;
          behind = record {
            exists = asks.behind.exists;
            contents = asks.behind.contents;
            listings = asks.behind.listings;
            outputs = λ place cmd.
                ap (λ n. answers.outputs n cmd) (next-place so_far.ran place)
                ∙ asks.behind.outputs (suc place) cmd;
          };
        };
        acts_are = rest;
      })
  stepped so_far (cut cmd ∷ more) now act acts asks is none =
      let same : ran cmd ≡ act = cc in
      let rest : acts_of more ≡ acts = cc in
      let past = none-behind cmd more asks.cut_last in
      subst (λ it. Stepped so_far it acts) same (record {
        alike = ap (λ n. answers.outputs n cmd) (first-place so_far.ran)
            ∙ (asks.behind.outputs 0 cmd ∙ past-output more past 0 cmd);
        more = more;
        now = asks.asked.0;
        asks = record {
          files = cut-files cmd now asks.asked.0 asks.files (subst Changes (sym same) none) asks.asked.1;
          asked = asks.asked.2;
          cut_last = behind-first (cut cmd) more asks.cut_last;
          behind = record {
            exists = asks.behind.exists;
            contents = asks.behind.contents;
            listings = asks.behind.listings;
            outputs = λ place cmd.
                ap (λ n. answers.outputs n cmd) (next-place so_far.ran place)
                ∙ (asks.behind.outputs (suc place) cmd
                ∙ (past-output more past (suc place) cmd ∙ sym (past-output more past place cmd)));
          };
        };
        acts_are = rest;
      })

  -- Behind the last act there are times alone, which are those of the files.

  abbrev on_files : Answers
  on_files = answers_on meaning store listings

  by-files : (path : List ℕ) (told : Bool) (asked : List ℕ) → told ≡ is_some (store asked)
      → there_by store path (record { path = asked; answer = told }) ≡ is_some (store path)
  by-files path told asked is = by (bytes_eq asked path) refl
    where
      by : (same : Bool) → bytes_eq asked path ≡ same
          → there_by store path (record { path = asked; answer = told }) ≡ is_some (store path)
      by true same =
          rw same (is ∙ ap (λ (path : List ℕ). is_some (store path)) ((bytes_eq-Decides asked path).0 same))
      by false same = rw same refl

  times-are : (questions : List Question) (now : History) (looks : List Asked) → files_of now ≡ store
      → AreAsked meaning questions now last → acts_of questions ≡ dates looks
      → AreSame (answers_behind meaning store listings questions) on_files
  times-are [] now looks files asked is = record {
    exists = λ place path. refl;
    contents = λ place path. refl;
    listings = λ place dir. refl;
    outputs = λ place cmd. refl;
  }
  times-are (time_of path when ∷ more) now [] files asked is = absurd cc
  times-are (time_of path when ∷ more) now (look ∷ looks) files asked is =
      let rest : acts_of more ≡ dates looks = cc in
      let its = times-are more asked.0 looks
      (looked-files now asked.0 path asked.1.base asked.1.event ∙ files) asked.2 rest in record {
        exists = each its.exists;
        contents = its.contents;
        listings = its.listings;
        outputs = its.outputs;
      }
    where
      each : ((place : ℕ) (other : List ℕ)
          → (answers_behind meaning store listings more).exists place other ≡ is_some (store other))
          → (place : ℕ) (other : List ℕ)
          → (answers_behind meaning store listings (time_of path when ∷ more)).exists place other
          ≡ is_some (store other)
      each later zero other =
          by-files other (not (is_missing when)) path (time-there path when now asked.0 files asked.1)
      each later (suc place) other = later place other
  times-are (bytes_of path found ∷ more) now [] files asked is = absurd cc
  times-are (names_of dir names ∷ more) now [] files asked is = absurd cc
  times-are (output_of cmd ended ∷ more) now [] files asked is = absurd cc
  times-are (cut cmd ∷ more) now [] files asked is = absurd cc
  times-are (bytes_of path found ∷ more) now (look ∷ looks) files asked is = absurd cc
  times-are (names_of dir names ∷ more) now (look ∷ looks) files asked is = absurd cc
  times-are (output_of cmd ended ∷ more) now (look ∷ looks) files asked is = absurd cc
  times-are (cut cmd ∷ more) now (look ∷ looks) files asked is = absurd cc

  -- all answers from here on are those of the files
  behind-one : (so_far : Counts) (act : Act) → IsBehind answers on_files so_far
      → IsBehind answers on_files (behind_act so_far act)
  behind-one so_far (wrote message) is = is
  behind-one so_far (looked path) is = record {
    exists = is.exists;
    contents = λ place path.
        ap (λ n. answers.contents n path) (next-place so_far.read place) ∙ is.contents (suc place) path;
    listings = is.listings;
    outputs = is.outputs;
  }
  behind-one so_far (dated path) is = record {
    exists = λ place path.
        ap (λ n. answers.exists n path) (next-place so_far.dated place) ∙ is.exists (suc place) path;
    contents = is.contents;
    listings = is.listings;
    outputs = is.outputs;
  }
  behind-one so_far (listed dir) is = record {
    exists = is.exists;
    contents = is.contents;
    listings = λ place dir.
        ap (λ n. answers.listings n dir) (next-place so_far.listed place) ∙ is.listings (suc place) dir;
    outputs = is.outputs;
  }
  behind-one so_far (ran cmd) is = record {
    exists = is.exists;
    contents = is.contents;
    listings = is.listings;
    outputs = λ place cmd.
        ap (λ n. answers.outputs n cmd) (next-place so_far.ran place) ∙ is.outputs (suc place) cmd;
  }

  all-behind : (so_far : Counts) (common : List Act) (act : Act) → IsBehind answers on_files so_far
      → IsAlike (behind_acts so_far common) act
  all-behind so_far [] (wrote message) is = tt
  all-behind so_far [] (looked path) is =
      ap (λ n. answers.contents n path) (first-place so_far.read) ∙ is.contents 0 path
  all-behind so_far [] (dated path) is =
      ap (λ n. answers.exists n path) (first-place so_far.dated) ∙ is.exists 0 path
  all-behind so_far [] (listed dir) is =
      ap (λ n. answers.listings n dir) (first-place so_far.listed) ∙ is.listings 0 dir
  all-behind so_far [] (ran cmd) is = ap (λ n. answers.outputs n cmd) (first-place so_far.ran) ∙ is.outputs 0 cmd
  all-behind so_far (one ∷ common) act is = all-behind (behind_act so_far one) common act (behind-one so_far one is)

  times-behind : (so_far : Counts) (questions : List Question) (now : History) (looks : List Asked)
      → Asks so_far questions now → acts_of questions ≡ dates looks → IsBehind answers on_files so_far
  times-behind so_far questions now looks asks is =
      let its = times-are questions now looks asks.files asks.asked is in record {
        exists = λ place path. asks.behind.exists place path ∙ its.exists place path;
        contents = λ place path. asks.behind.contents place path ∙ its.contents place path;
        listings = λ place dir. asks.behind.listings place dir ∙ its.listings place dir;
        outputs = λ place cmd. asks.behind.outputs place cmd ∙ its.outputs place cmd;
      }

  -- one act that was done is answered the same
  one-alike : (so_far : Counts) (questions : List Question) (now : History) (act : Act) (part : List Act)
      (looks : List Asked) → Asks so_far questions now → acts_of questions ≡ asked_in (act ∷ part) ++ dates looks
      → Changes act → IsAlike so_far act
  one-alike so_far questions now (wrote message) part looks asks is none = tt
  one-alike so_far questions now (looked path) part looks asks is none =
      (stepped so_far questions now (looked path) (asked_in part ++ dates looks) asks is none).alike
  one-alike so_far questions now (dated path) part looks asks is none =
      (stepped so_far questions now (dated path) (asked_in part ++ dates looks) asks is none).alike
  one-alike so_far questions now (listed dir) part looks asks is none =
      (stepped so_far questions now (listed dir) (asked_in part ++ dates looks) asks is none).alike
  one-alike so_far questions now (ran cmd) part looks asks is none =
      (stepped so_far questions now (ran cmd) (asked_in part ++ dates looks) asks is none).alike

  -- Wherever the reading of the files and that of the world come to one act behind the same ones, it is answered the
  -- same: one that was done by the world, and one behind these by the files.
  alike : (so_far : Counts) (questions : List Question) (now : History) (part rest_part common : List Act) (act : Act)
      (rest other_rest : List Act) (looks : List Asked) → Asks so_far questions now
      → acts_of questions ≡ asked_in part ++ dates looks → part ++ rest_part ≡ common ++ act ∷ other_rest
      → AllByRecursion Changes (common ++ act ∷ rest) → IsAlike (behind_acts so_far common) act
  alike so_far questions now [] rest_part common act rest other_rest looks asks is same none =
      all-behind so_far common act (times-behind so_far questions now looks asks is)
  alike so_far questions now (one ∷ part) rest_part [] act rest other_rest looks asks is same none =
      let first : one ≡ act = cc in
      subst (IsAlike so_far) first
      (one-alike so_far questions now one part looks asks is (subst Changes (sym first) none.0))
  alike so_far questions now (wrote message ∷ part) rest_part (first ∷ common) act rest other_rest looks asks is same none =
      let its : wrote message ≡ first = cc in
      let later : part ++ rest_part ≡ common ++ act ∷ other_rest = cc in
      subst (λ it. IsAlike (behind_acts (behind_act so_far it) common) act) its
      (alike so_far questions now part rest_part common act rest other_rest looks asks is later none.1)
  alike so_far questions now (looked path ∷ part) rest_part (first ∷ common) act rest other_rest looks asks is same none =
      let its : looked path ≡ first = cc in
      let later : part ++ rest_part ≡ common ++ act ∷ other_rest = cc in
      let next = stepped so_far questions now (looked path) (asked_in part ++ dates looks) asks is
      (subst Changes (sym its) none.0) in
      subst (λ it. IsAlike (behind_acts (behind_act so_far it) common) act) its
      (alike (behind_act so_far (looked path)) next.more next.now part rest_part common act rest other_rest looks next.asks
      next.acts_are later none.1)
  alike so_far questions now (dated path ∷ part) rest_part (first ∷ common) act rest other_rest looks asks is same none =
      let its : dated path ≡ first = cc in
      let later : part ++ rest_part ≡ common ++ act ∷ other_rest = cc in
      let next = stepped so_far questions now (dated path) (asked_in part ++ dates looks) asks is
      (subst Changes (sym its) none.0) in
      subst (λ it. IsAlike (behind_acts (behind_act so_far it) common) act) its
      (alike (behind_act so_far (dated path)) next.more next.now part rest_part common act rest other_rest looks next.asks
      next.acts_are later none.1)
  alike so_far questions now (listed dir ∷ part) rest_part (first ∷ common) act rest other_rest looks asks is same none =
      let its : listed dir ≡ first = cc in
      let later : part ++ rest_part ≡ common ++ act ∷ other_rest = cc in
      let next = stepped so_far questions now (listed dir) (asked_in part ++ dates looks) asks is
      (subst Changes (sym its) none.0) in
      subst (λ it. IsAlike (behind_acts (behind_act so_far it) common) act) its
      (alike (behind_act so_far (listed dir)) next.more next.now part rest_part common act rest other_rest looks next.asks
      next.acts_are later none.1)
  alike so_far questions now (ran cmd ∷ part) rest_part (first ∷ common) act rest other_rest looks asks is same none =
      let its : ran cmd ≡ first = cc in
      let later : part ++ rest_part ≡ common ++ act ∷ other_rest = cc in
      let next = stepped so_far questions now (ran cmd) (asked_in part ++ dates looks) asks is
      (subst Changes (sym its) none.0) in
      subst (λ it. IsAlike (behind_acts (behind_act so_far it) common) act) its
      (alike (behind_act so_far (ran cmd)) next.more next.now part rest_part common act rest other_rest looks next.asks
      next.acts_are later none.1)

-- whatever a reading gave, a first part of its acts was done
gave-part : (held held_after : Option (List ℕ)) (asked : List Act) (answer : Result Made ReadFault)
    (defined : Reads Made) → Gave held held_after asked answer defined → DidPart held held_after [] asked defined.acts
gave-part held held_after asked (Ok made) defined gave = DidPart-whole held held_after [] asked defined.acts gave.1
gave-part held held_after asked (Err World) defined gave = gave
gave-part held held_after asked (Err Sink) defined gave = gave
gave-part held held_after asked (Err NoMemory) defined gave = gave
gave-part held held_after asked (Err (NoFile file)) defined gave =
    DidPart-whole held held_after [] asked defined.acts gave.1
gave-part held held_after asked (Err (Bad file line what)) defined gave =
    DidPart-whole held held_after [] asked defined.acts gave.1
gave-part held held_after asked (Err (Limit kind most)) defined gave =
    DidPart-whole held held_after [] asked defined.acts gave.1

whole-last : (failure : Option Outside) (questions : List Question) → IsWhole failure questions
    → IsCutLast questions
whole-last None questions whole = cut_last-none questions whole
whole-last (Some failure) questions whole = whole

pub worlds_are_read_as_files : WorldsAreReadAsFiles
worlds_are_read_as_files meaning old new held held_after answer env order listings none read = (
  subst (Gave held held_after (acts_of read.questions) answer) same gave,
  subst (AllByRecursion (ChangesNone meaning files listings)) (sym did.asks)
      (dates-change meaning files listings (asked_in did.part) did.looks
      (all-asked (ChangesNone meaning files listings) did.part
      (all-first (ChangesNone meaning files listings) did.part did.rest
      (subst (AllByRecursion (ChangesNone meaning files listings))
      (sym (ap (λ (it : Reads Made). it.acts) same) ∙ did.whole) none)))),
)
  where
    files : Store
    files = files_of old

    answers : Answers
    answers = answers_behind meaning files listings read.questions

    gave : Gave held held_after (acts_of read.questions) answer (reading answers env order)
    gave = read.gave answers (are-answered meaning files listings read.questions)

    did : DidPart held held_after [] (acts_of read.questions) (reading answers env order).acts
    did = gave-part held held_after (acts_of read.questions) answer (reading answers env order) gave

    same : reading answers env order ≡ reading_on meaning files listings env order
    same = readings_part_at_questions (answers_on meaning files listings) answers env order
        (λ common act rest other_rest is other_is.
        alike meaning files listings answers new none_so_far read.questions old did.part did.rest common act rest
        other_rest did.looks
        (record {
          files = refl;
          asked = read.asked;
          cut_last = whole-last (failure_in answer) read.questions read.whole;
          behind = record {
            exists = λ place path. ap (λ n. answers.exists n path) (none-before place);
            contents = λ place path. ap (λ n. answers.contents n path) (none-before place);
            listings = λ place dir. ap (λ n. answers.listings n dir) (none-before place);
            outputs = λ place cmd. ap (λ n. answers.outputs n cmd) (none-before place);
          };
        })
        did.asks (sym did.whole ∙ other_is)
        (subst (AllByRecursion (ChangesNone meaning files listings)) is none))
