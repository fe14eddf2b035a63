-- What the children of a job do, line by line, as its meta file tells it.
use Rattle.std.proofs.Common.{◌≡◌, ◌∙◌, ◌⊎◌, ℕ, zero, suc, ◌+◌, ◌-◌, ◌≤◌, List, [], ◌∷◌, ◌++◌, length, map, drop, slice_get, Option, Some, None, true, false}
use Rattle.std.proofs.Common.{refl, sym, ap, subst, arith, append_assoc}
use Rattle.std.proofs.lemmas.List.{append-nil, map-append}
use Rattle.std.specs.List.{AllZip}
use Rattle.mk_filemon.specs.declared.record.Rec.{Rec}
use Rattle.mk_meta.specs.Jobs.{is_empty, numbered, records_from, working}
use Rattle.mk_meta.specs.TrueHistory.{JobEvent, begun, did, ended, one_by_one}
use Rattle.mk_world.specs.Records.{Tell}
use Rattle.mk_world.specs.Talks.{Doing, NextOf, Talks, answer, deed_at}
use Rattle.mk_world.specs.declared.command.Cmd.{Cmd}
use Rattle.mk_world.specs.declared.command.TaskLine.{TaskLine}
use Rattle.mk_world.specs.declared.history.Child.{Child}
use Rattle.mk_world.specs.declared.step.Deed.{Deed}
use Rattle.mk_world.specs.declared.step.Next.TheVariants.{More, Over}
use Rattle.mk_world.specs.declared.step.Op.{Op}
use Rattle.mk_world.specs.declared.step.Request.{Request}

-- the child of a line ran to its end, and its status was 0 or does not count
pub record Went (next : NextOf) (command : TaskLine → Cmd) (line : TaskLine) (doing : Doing) : Type 0 where
  pub talks : Talks next (command line) [] doing.deeds doing.status doing.output
  pub well : (doing.status ≡ 0) ⊎ (line.ignore ≡ true)

-- what each of some children recorded tells of its steps
abbrev pub EachTells : List (List Op) → List Doing → Type 0
EachTells = AllZip (λ (ops : List Op) (doing : Doing). Tell ops doing.deeds)

-- These are the events and the records of the children of these lines, of which the first has this number.
pub record Ran (next : NextOf) (command : TaskLine → Cmd) (number : ℕ) (lines : List TaskLine)
    (events : List JobEvent) (records : List Rec) : Type 0 where
  pub doings : List Doing
  pub events_are : events ≡ one_by_one (map command (working lines)) doings
  pub well : AllZip (Went next command) (working lines) doings
  pub children : List (List Op)
  pub tell : EachTells children doings
  pub records_are : records ≡ records_from number lines children

drop-suc : (lines : List TaskLine) (place : ℕ) (line : TaskLine) → slice_get lines place ≡ Some line
    → drop place lines ≡ line ∷ drop (suc place) lines
drop-suc [] place line is = cc
drop-suc (one ∷ lines) zero line is = cc
drop-suc (one ∷ lines) (suc place) line is = drop-suc lines place line is

drop-next : (lines : List TaskLine) (place : ℕ) (line : TaskLine) → slice_get lines place ≡ Some line
    → drop place lines ≡ line ∷ drop (place + 1) lines
drop-next lines place line is =
    let next : suc place ≡ place + 1 = omega arith in
    subst (λ k. drop place lines ≡ line ∷ drop k lines) next (drop-suc lines place line is)

pub drop-whole : (lines : List TaskLine) (place : ℕ) → length lines ≤ place → drop place lines ≡ []
drop-whole [] zero least = refl
drop-whole [] (suc place) least = refl
drop-whole (one ∷ lines) zero least = absurd (omega (arith, least))
drop-whole (one ∷ lines) (suc place) least = drop-whole lines place (omega (arith, least))

module _ (next : NextOf) (command : TaskLine → Cmd) where
  ran-none : (number : ℕ) → Ran next command number [] [] []
  ran-none number = record {
    doings = [];
    events_are = refl;
    well = tt;
    children = [];
    tell = tt;
    records_are = refl;
  }

  none-recorded : (number : ℕ) (lines : List TaskLine) → records_from number lines [] ≡ []
  none-recorded number [] = refl
  none-recorded number (line ∷ lines) = refl

  ran-empty : (number : ℕ) (line : TaskLine) (lines : List TaskLine) (events : List JobEvent)
      (records : List Rec) → is_empty line.text ≡ true → Ran next command (number + 1) lines events records
      → Ran next command number (line ∷ lines) events records
  ran-empty number line lines events records empty ran = record {
    doings = ran.doings;
    events_are = rw empty ran.events_are;
    well = rw empty ran.well;
    children = ran.children;
    tell = ran.tell;
    records_are = passed ran.children ran.records_are;
  }
    where
      passed : (children : List (List Op)) → records ≡ records_from (number + 1) lines children
          → records ≡ records_from number (line ∷ lines) children
      passed [] is = is ∙ none-recorded (number + 1) lines
      passed (ops ∷ children) is = rw empty is

  ran-line : (number : ℕ) (line : TaskLine) (lines : List TaskLine) (deeds : List Deed) (ops : List Op)
      (status : ℕ) (output : List ℕ) (events : List JobEvent) (records : List Rec)
      → is_empty line.text ≡ false → Tell ops deeds
      → Talks next (command line) [] deeds status output → (status ≡ 0) ⊎ (line.ignore ≡ true)
      → Ran next command (number + 1) lines events records
      → Ran next command number (line ∷ lines) (begun (command line) ∷ (map did deeds ++ ended ∷ events))
      (numbered number ops ++ records)
  ran-line number line lines deeds ops status output events records filled tell talks well ran = record {
    doings = record { deeds = deeds; status = status; output = output } ∷ ran.doings;
    events_are = rw filled
        (ap (λ (l : List JobEvent). begun (command line) ∷ (map did deeds ++ ended ∷ l)) ran.events_are);
    well = rw filled (record { talks = talks; well = well }, ran.well);
    children = ops ∷ ran.children;
    tell = (tell, ran.tell);
    records_are = rw filled (ap (λ l. numbered number ops ++ l) ran.records_are);
  }

  -- Of the lines so many have ended, with these events and records: whatever the others do stands behind
  -- them.
  abbrev pub Behind : List TaskLine → ℕ → List JobEvent → List Rec → Type 0
  Behind lines number events records =
      (more : List JobEvent) (others : List Rec)
      → Ran next command (number + 1) (drop number lines) more others
      → Ran next command 1 lines (events ++ more) (records ++ others)

  -- The child of a line runs: where it ends well, whatever the lines behind do stands behind it.
  pub record Within (lines : List TaskLine) (number : ℕ) (child : Child) (events : List JobEvent)
      (records : List Rec) : Type 0 where
    pub line : TaskLine
    pub line_is : slice_get lines (number - 1) ≡ Some line
    pub ending : (deeds : List Deed) (ops : List Op) (status : ℕ) (output : List ℕ)
        (more : List JobEvent) (others : List Rec) → Tell ops (child.deeds ++ deeds)
        → Talks next child.cmd (map answer child.deeds) deeds status output
        → (status ≡ 0) ⊎ (line.ignore ≡ true)
        → Ran next command (number + 1) (drop number lines) more others
        → Ran next command 1 lines (events ++ (map did deeds ++ ended ∷ more))
        (records ++ (numbered number ops ++ others))

  pub behind-none : (lines : List TaskLine) → Behind lines 0 [] []
  behind-none lines more others ran = ran

  pub behind-empty : (lines : List TaskLine) (place : ℕ) (line : TaskLine) (events : List JobEvent)
      (records : List Rec) → slice_get lines place ≡ Some line → is_empty line.text ≡ true
      → Behind lines place events records → Behind lines (place + 1) events records
  behind-empty lines place line events records is empty behind more others ran =
      behind more others
      (subst (λ l. Ran next command (place + 1) l more others) (sym (drop-next lines place line is))
      (ran-empty (place + 1) line (drop (place + 1) lines) more others empty ran))

  -- there is no line more
  pub behind-past : (lines : List TaskLine) (place : ℕ) (events : List JobEvent) (records : List Rec)
      → slice_get lines place ≡ None → Behind lines place events records
      → Behind lines (place + 1) events records
  behind-past lines place events records none behind more others ran =
      let least = past lines place none in
      let over = drop-whole lines place least in
      let over_then = drop-whole lines (place + 1) (omega (arith, least)) in
      behind more others (subst (λ l. Ran next command (place + 1) l more others) (sym over)
      (at_any (subst (λ l. Ran next command (place + 1 + 1) l more others) over_then ran)))
    where
      past : (l : List TaskLine) (k : ℕ) → slice_get l k ≡ None → length l ≤ k
      past [] k is = omega arith
      past (one ∷ l) zero is = absurd cc
      past (one ∷ l) (suc k) is = let less = past l k is in omega (arith, less)

      at_any : Ran next command (place + 1 + 1) [] more others → Ran next command (place + 1) [] more others
      at_any given = record {
        doings = given.doings;
        events_are = given.events_are;
        well = given.well;
        children = given.children;
        tell = given.tell;
        records_are = given.records_are;
      }

  pub within-begun : (lines : List TaskLine) (place : ℕ) (line : TaskLine) (ticket owner : ℕ)
      (events : List JobEvent) (records : List Rec) → slice_get lines place ≡ Some line
      → is_empty line.text ≡ false → Behind lines place events records
      → Within lines (place + 1)
      (record { ticket = ticket; owner = owner; cmd = command line; deeds = [] })
      (events ++ begun (command line) ∷ []) records
  within-begun lines place line ticket owner events records is filled behind = record {
    line = line;
    line_is =
        let same : place ≡ place + 1 - 1 = omega arith in
        subst (λ k. slice_get lines k ≡ Some line) same is;
    ending = λ deeds ops status output more others tell talks well ran.
        let here = ran-line (place + 1) line (drop (place + 1) lines) deeds ops status output more others
        filled tell talks well ran in
        subst (λ e. Ran next command 1 lines e (records ++ (numbered (place + 1) ops ++ others)))
        (sym (append_assoc events (begun (command line) ∷ []) (map did deeds ++ ended ∷ more)))
        (behind (begun (command line) ∷ (map did deeds ++ ended ∷ more))
        (numbered (place + 1) ops ++ others)
        (subst (λ l. Ran next command (place + 1) l
        (begun (command line) ∷ (map did deeds ++ ended ∷ more))
        (numbered (place + 1) ops ++ others)) (sym (drop-next lines place line is)) here));
  }

  pub within-stepped : (lines : List TaskLine) (number : ℕ) (child : Child) (deed : Deed)
      (request : Request) (stands : Option (List ℕ)) (events : List JobEvent) (records : List Rec)
      → next child.cmd (map answer child.deeds) ≡ More request → deed ≡ deed_at request stands
      → Within lines number child events records
      → Within lines number (record child { deeds = child.deeds ++ deed ∷ [] })
      (events ++ did deed ∷ []) records
  within-stepped lines number child deed request stands events records asked done within = record {
    line = within.line;
    line_is = within.line_is;
    ending = λ deeds ops status output more others tell talks well ran.
        let all = within.ending (deed ∷ deeds) ops status output more others
        (subst (Tell ops) (append_assoc child.deeds (deed ∷ []) deeds) tell) (
          request,
          stands,
          asked,
          done,
          subst (λ seen. Talks next child.cmd seen deeds status output)
              (map-append answer child.deeds (deed ∷ [])) talks,
        ) well ran in
        subst (λ e. Ran next command 1 lines e (records ++ (numbered number ops ++ others)))
        (sym (append_assoc events (did deed ∷ []) (map did deeds ++ ended ∷ more))) all;
  }

  pub behind-ended : (lines : List TaskLine) (number : ℕ) (child : Child) (ops : List Op) (status : ℕ)
      (output : List ℕ) (events : List JobEvent) (records : List Rec) → Tell ops child.deeds
      → next child.cmd (map answer child.deeds) ≡ Over status output
      → (within : Within lines number child events records)
      → (status ≡ 0) ⊎ (within.line.ignore ≡ true)
      → Behind lines number (events ++ ended ∷ []) (records ++ numbered number ops)
  behind-ended lines number child ops status output events records tell over within well more others ran =
      let all = within.ending [] ops status output more others
      (subst (Tell ops) (sym (append-nil child.deeds)) tell) over well ran in
      subst (λ e. Ran next command 1 lines e ((records ++ numbered number ops) ++ others))
      (sym (append_assoc events (ended ∷ []) more))
      (subst (λ r. Ran next command 1 lines (events ++ ended ∷ more) r)
      (sym (append_assoc records (numbered number ops) others)) all)

  pub ran-whole : (lines : List TaskLine) (number : ℕ) (events : List JobEvent) (records : List Rec)
      → length lines ≤ number → Behind lines number events records
      → Ran next command 1 lines events records
  ran-whole lines number events records least behind =
      let all = behind [] [] (subst (λ l. Ran next command (number + 1) l [] [])
      (sym (drop-whole lines number least)) (ran-none (number + 1))) in
      subst (λ e. Ran next command 1 lines e records) (append-nil events)
      (subst (λ r. Ran next command 1 lines (events ++ []) r) (append-nil records) all)
