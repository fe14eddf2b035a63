-- Where reading stands behind questions.
use Rattle.std.proofs.Common.{◌≡◌, ℕ, ◌+◌, List, [], ◌∷◌, ◌++◌, drop, length, Option, Some, slice_get, refl, sym, ap, ◌∙◌, arith}
use Rattle.std.proofs.lemmas.Grind.{common_steps}
use Rattle.std.proofs.lemmas.List.{append-nil, map-append}
use Rattle.mk_blocks.specs.Acts.{Act, listed, looked, ran}
use Rattle.mk_cli.specs.declared.order.Order.{Order}
use Rattle.mk_world.specs.declared.command.Cmd.{Cmd}
use Rattle.mk_world.specs.declared.step.Ended.{Ended}
use Rattle.mk_makefile.specs.Acts.{dates}
use Rattle.mk_makefile.specs.Moments.{Moment, moment_of}
use Rattle.mk_makefile.specs.Notes.{asked_by, question_of, questions_in}
use Rattle.mk_makefile.specs.Questions.{Answered, Answers, AreTimes, Listing, Reading, Running, bytes_of, listings_in, names_of, output_of, readings_in, runnings_in}
use Rattle.mk_makefile.specs.Questions.{times_in}
use Rattle.mk_makefile.specs.Questions.{listings_in-append, readings_in-append, runnings_in-append, times_in-append}
use Rattle.mk_makefile.specs.Values.{asking, contents, newly_dated, printed_by}
use Rattle.mk_makefile.specs.Wildcards.{names_in}
use Rattle.mk_makefile.specs.declared.note.Note.{Note}
use Rattle.mk_makefile.specs.declared.state.State.{State}
use Rattle.mk_makefile.proofs.QuestionLemmas.{listings_in-none, readings_in-none, runnings_in-none}

readings-more : (notes more : List Note)
    → readings_in (questions_in (notes ++ more))
    ≡ readings_in (questions_in notes) ++ readings_in (questions_in more)
readings-more notes more =
    ap readings_in (map-append question_of notes more)
    ∙ readings_in-append (questions_in notes) (questions_in more)

listings-more : (notes more : List Note)
    → listings_in (questions_in (notes ++ more))
    ≡ listings_in (questions_in notes) ++ listings_in (questions_in more)
listings-more notes more =
    ap listings_in (map-append question_of notes more)
    ∙ listings_in-append (questions_in notes) (questions_in more)

runnings-more : (notes more : List Note)
    → runnings_in (questions_in (notes ++ more))
    ≡ runnings_in (questions_in notes) ++ runnings_in (questions_in more)
runnings-more notes more =
    ap runnings_in (map-append question_of notes more)
    ∙ runnings_in-append (questions_in notes) (questions_in more)

times-more : (notes more : List Note)
    → asked_by (notes ++ more) ≡ asked_by notes ++ asked_by more
times-more notes more =
    ap times_in (map-append question_of notes more)
    ∙ times_in-append (questions_in notes) (questions_in more)

length-last : {A : Type 0} (before : List A) (one : A)
    → length (before ++ one ∷ []) ≡ length before + 1
length-last before one = grind (arith, common_steps)

-- questions of `exists` were noted
pub moment-asked : (s t : State) (a b : Order) (more : List Note)
    → t.made ≡ s.made → t.in_group ≡ s.in_group → b ≡ a
    → t.notes.items ≡ s.notes.items ++ more
    → AreTimes (questions_in more)
    → record (moment_of s a) { asked = asked_by t.notes.items } ≡ moment_of t b
moment-asked s t a b more made in_group order added none =
    let read : readings_in (questions_in t.notes.items) ≡ readings_in (questions_in s.notes.items) =
    ap (λ l. readings_in (questions_in l)) added ∙ readings-more s.notes.items more
    ∙ ap (λ l. readings_in (questions_in s.notes.items) ++ l) (readings_in-none (questions_in more) none)
    ∙ append-nil _ in
    let ran : runnings_in (questions_in t.notes.items) ≡ runnings_in (questions_in s.notes.items) =
    ap (λ l. runnings_in (questions_in l)) added ∙ runnings-more s.notes.items more
    ∙ ap (λ l. runnings_in (questions_in s.notes.items) ++ l) (runnings_in-none (questions_in more) none)
    ∙ append-nil _ in
    let listed : listings_in (questions_in t.notes.items) ≡ listings_in (questions_in s.notes.items) =
    ap (λ l. listings_in (questions_in l)) added ∙ listings-more s.notes.items more
    ∙ ap (λ l. listings_in (questions_in s.notes.items) ++ l) (listings_in-none (questions_in more) none)
    ∙ append-nil _ in
    rw (made, in_group, order, read, ran, listed) refl

drop-front : {A : Type 0} (front more : List A) → drop (length front) (front ++ more) ≡ more
drop-front [] more = refl
drop-front (x ∷ front) more = drop-front front more

-- their times are those that are newly asked for
pub newly_dated-more : (s t : State) (a : Order) (more : List Note)
    → t.notes.items ≡ s.notes.items ++ more
    → newly_dated (moment_of s a) (asked_by t.notes.items) ≡ dates (asked_by more)
newly_dated-more s t a more added =
    ap (λ l. dates (drop (length (asked_by s.notes.items)) l))
    (ap asked_by added ∙ times-more s.notes.items more)
    ∙ ap dates (drop-front (asked_by s.notes.items) (asked_by more))

slice_get-last : {A : Type 0} (before : List A) (one : A)
    → slice_get (before ++ one ∷ []) (length before) ≡ Some one
slice_get-last [] one = refl
slice_get-last (x ∷ before) one = slice_get-last before one

-- a file was read
pub moment-read : (s t : State) (a b : Order) (note : Note) (one : Reading)
    → t.made ≡ s.made → t.in_group ≡ s.in_group → b ≡ a
    → t.notes.items ≡ s.notes.items ++ note ∷ []
    → times_in (questions_in (note ∷ [])) ≡ []
    → readings_in (questions_in (note ∷ [])) ≡ one ∷ []
    → listings_in (questions_in (note ∷ [])) ≡ []
    → runnings_in (questions_in (note ∷ [])) ≡ []
    → record (moment_of s a) { read = (moment_of s a).read + 1 } ≡ moment_of t b
moment-read s t a b note one made in_group order added no_time reading no_listing no_running =
    let asked : asked_by t.notes.items ≡ asked_by s.notes.items =
    ap asked_by added ∙ times-more s.notes.items (note ∷ [])
    ∙ ap (λ l. asked_by s.notes.items ++ l) no_time ∙ append-nil _ in
    let read : length (readings_in (questions_in t.notes.items))
    ≡ length (readings_in (questions_in s.notes.items)) + 1 =
    ap (λ l. length (readings_in (questions_in l))) added
    ∙ ap length (readings-more s.notes.items (note ∷ []))
    ∙ ap (λ l. length (readings_in (questions_in s.notes.items) ++ l)) reading
    ∙ length-last (readings_in (questions_in s.notes.items)) one in
    let listed : listings_in (questions_in t.notes.items) ≡ listings_in (questions_in s.notes.items) =
    ap (λ l. listings_in (questions_in l)) added ∙ listings-more s.notes.items (note ∷ [])
    ∙ ap (λ l. listings_in (questions_in s.notes.items) ++ l) no_listing
    ∙ append-nil _ in
    let ran : runnings_in (questions_in t.notes.items) ≡ runnings_in (questions_in s.notes.items) =
    ap (λ l. runnings_in (questions_in l)) added ∙ runnings-more s.notes.items (note ∷ [])
    ∙ ap (λ l. runnings_in (questions_in s.notes.items) ++ l) no_running ∙ append-nil _ in
    rw (made, in_group, order, asked, read, listed, ran) refl

-- the last file that was read is the one at this place
pub last-reading : (s t : State) (note : Note) (one : Reading)
    → t.notes.items ≡ s.notes.items ++ note ∷ []
    → readings_in (questions_in (note ∷ [])) ≡ one ∷ []
    → slice_get (readings_in (questions_in t.notes.items))
    (length (readings_in (questions_in s.notes.items))) ≡ Some one
last-reading s t note one added reading =
    ap (λ l. slice_get (readings_in (questions_in l))
    (length (readings_in (questions_in s.notes.items)))) added
    ∙ ap (λ l. slice_get l (length (readings_in (questions_in s.notes.items))))
    (readings-more s.notes.items (note ∷ [])
    ∙ ap (λ l. readings_in (questions_in s.notes.items) ++ l) reading)
    ∙ slice_get-last (readings_in (questions_in s.notes.items)) one

-- a directory was listed
pub moment-listed : (s t : State) (a b : Order) (note : Note) (one : Listing)
    → t.made ≡ s.made → t.in_group ≡ s.in_group → b ≡ a
    → t.notes.items ≡ s.notes.items ++ note ∷ []
    → times_in (questions_in (note ∷ [])) ≡ []
    → readings_in (questions_in (note ∷ [])) ≡ []
    → listings_in (questions_in (note ∷ [])) ≡ one ∷ []
    → runnings_in (questions_in (note ∷ [])) ≡ []
    → record (moment_of s a) { listed = (moment_of s a).listed + 1 } ≡ moment_of t b
moment-listed s t a b note one made in_group order added no_time no_reading listing no_running =
    let asked : asked_by t.notes.items ≡ asked_by s.notes.items =
    ap asked_by added ∙ times-more s.notes.items (note ∷ [])
    ∙ ap (λ l. asked_by s.notes.items ++ l) no_time ∙ append-nil _ in
    let read : readings_in (questions_in t.notes.items) ≡ readings_in (questions_in s.notes.items) =
    ap (λ l. readings_in (questions_in l)) added ∙ readings-more s.notes.items (note ∷ [])
    ∙ ap (λ l. readings_in (questions_in s.notes.items) ++ l) no_reading ∙ append-nil _ in
    let listed : length (listings_in (questions_in t.notes.items))
    ≡ length (listings_in (questions_in s.notes.items)) + 1 =
    ap (λ l. length (listings_in (questions_in l))) added
    ∙ ap length (listings-more s.notes.items (note ∷ []))
    ∙ ap (λ l. length (listings_in (questions_in s.notes.items) ++ l)) listing
    ∙ length-last (listings_in (questions_in s.notes.items)) one in
    let ran : runnings_in (questions_in t.notes.items) ≡ runnings_in (questions_in s.notes.items) =
    ap (λ l. runnings_in (questions_in l)) added ∙ runnings-more s.notes.items (note ∷ [])
    ∙ ap (λ l. runnings_in (questions_in s.notes.items) ++ l) no_running ∙ append-nil _ in
    rw (made, in_group, order, asked, read, listed, ran) refl

-- the last directory that was listed is the one at this place
pub last-listing : (s t : State) (note : Note) (one : Listing)
    → t.notes.items ≡ s.notes.items ++ note ∷ []
    → listings_in (questions_in (note ∷ [])) ≡ one ∷ []
    → slice_get (listings_in (questions_in t.notes.items))
    (length (listings_in (questions_in s.notes.items))) ≡ Some one
last-listing s t note one added listing =
    ap (λ l. slice_get (listings_in (questions_in l))
    (length (listings_in (questions_in s.notes.items)))) added
    ∙ ap (λ l. slice_get l (length (listings_in (questions_in s.notes.items))))
    (listings-more s.notes.items (note ∷ [])
    ∙ ap (λ l. listings_in (questions_in s.notes.items) ++ l) listing)
    ∙ slice_get-last (listings_in (questions_in s.notes.items)) one

-- a command was run
pub moment-ran : (s t : State) (a b : Order) (note : Note) (one : Running)
    → t.made ≡ s.made → t.in_group ≡ s.in_group → b ≡ a
    → t.notes.items ≡ s.notes.items ++ note ∷ []
    → times_in (questions_in (note ∷ [])) ≡ []
    → readings_in (questions_in (note ∷ [])) ≡ []
    → listings_in (questions_in (note ∷ [])) ≡ []
    → runnings_in (questions_in (note ∷ [])) ≡ one ∷ []
    → record (moment_of s a) { ran = (moment_of s a).ran + 1 } ≡ moment_of t b
moment-ran s t a b note one made in_group order added no_time no_reading no_listing running =
    let asked : asked_by t.notes.items ≡ asked_by s.notes.items =
    ap asked_by added ∙ times-more s.notes.items (note ∷ [])
    ∙ ap (λ l. asked_by s.notes.items ++ l) no_time ∙ append-nil _ in
    let read : readings_in (questions_in t.notes.items) ≡ readings_in (questions_in s.notes.items) =
    ap (λ l. readings_in (questions_in l)) added ∙ readings-more s.notes.items (note ∷ [])
    ∙ ap (λ l. readings_in (questions_in s.notes.items) ++ l) no_reading ∙ append-nil _ in
    let listed : listings_in (questions_in t.notes.items) ≡ listings_in (questions_in s.notes.items) =
    ap (λ l. listings_in (questions_in l)) added ∙ listings-more s.notes.items (note ∷ [])
    ∙ ap (λ l. listings_in (questions_in s.notes.items) ++ l) no_listing
    ∙ append-nil _ in
    let ran : length (runnings_in (questions_in t.notes.items))
    ≡ length (runnings_in (questions_in s.notes.items)) + 1 =
    ap (λ l. length (runnings_in (questions_in l))) added
    ∙ ap length (runnings-more s.notes.items (note ∷ []))
    ∙ ap (λ l. length (runnings_in (questions_in s.notes.items) ++ l)) running
    ∙ length-last (runnings_in (questions_in s.notes.items)) one in
    rw (made, in_group, order, asked, read, listed, ran) refl

pub last-running : (s t : State) (note : Note) (one : Running)
    → t.notes.items ≡ s.notes.items ++ note ∷ []
    → runnings_in (questions_in (note ∷ [])) ≡ one ∷ []
    → slice_get (runnings_in (questions_in t.notes.items))
    (length (runnings_in (questions_in s.notes.items))) ≡ Some one
last-running s t note one added running =
    ap (λ l. slice_get (runnings_in (questions_in l))
    (length (runnings_in (questions_in s.notes.items)))) added
    ∙ ap (λ l. slice_get l (length (runnings_in (questions_in s.notes.items))))
    (runnings-more s.notes.items (note ∷ [])
    ∙ ap (λ l. runnings_in (questions_in s.notes.items) ++ l) running)
    ∙ slice_get-last (runnings_in (questions_in s.notes.items)) one

-- What is noted of a file is what the answers say.
pub contents-noted : (answers : Answers) (s t : State) (a b : Order) (note : Note)
    (path : List ℕ) (found : Option (List ℕ))
    → t.made ≡ s.made → t.in_group ≡ s.in_group → b ≡ a
    → t.notes.items ≡ s.notes.items ++ note ∷ []
    → question_of note ≡ bytes_of path found
    → Answered answers (questions_in t.notes.items)
    → contents answers path (moment_of s a) ≡ asking (looked path) found (moment_of t b)
contents-noted answers s t a b note path found made in_group order added is by =
    let one : Reading = record { path = path; found = found } in
    let reading : readings_in (questions_in (note ∷ [])) ≡ one ∷ [] = rw is refl in
    let answer = by.contents (length (readings_in (questions_in s.notes.items))) one
    (last-reading s t note one added reading) in
    ap (λ (f : Option (List ℕ)). asking (looked path) f
    (record (moment_of s a) { read = (moment_of s a).read + 1 })) (sym answer)
    ∙ ap (λ (m : Moment). asking (looked path) found m)
    (moment-read s t a b note one made in_group order added (rw is refl) reading (rw is refl)
    (rw is refl))

-- And so of a directory.
pub names-noted : (answers : Answers) (s t : State) (a b : Order) (note : Note)
    (dir : List ℕ) (names : Option (List (List ℕ)))
    → t.made ≡ s.made → t.in_group ≡ s.in_group → b ≡ a
    → t.notes.items ≡ s.notes.items ++ note ∷ []
    → question_of note ≡ names_of dir names
    → Answered answers (questions_in t.notes.items)
    → names_in answers dir (moment_of s a) ≡ asking (listed dir) names (moment_of t b)
names-noted answers s t a b note dir names made in_group order added is by =
    let one : Listing = record { dir = dir; names = names } in
    let listing : listings_in (questions_in (note ∷ [])) ≡ one ∷ [] = rw is refl in
    let answer = by.listings (length (listings_in (questions_in s.notes.items))) one
    (last-listing s t note one added listing) in
    ap (λ (f : Option (List (List ℕ))). asking (listed dir) f
    (record (moment_of s a) { listed = (moment_of s a).listed + 1 })) (sym answer)
    ∙ ap (λ (m : Moment). asking (listed dir) names m)
    (moment-listed s t a b note one made in_group order added (rw is refl) (rw is refl) listing
    (rw is refl))

-- And so of a command.
pub output-noted : (answers : Answers) (s t : State) (a b : Order) (note : Note)
    (cmd : Cmd) (ended : Ended)
    → t.made ≡ s.made → t.in_group ≡ s.in_group → b ≡ a
    → t.notes.items ≡ s.notes.items ++ note ∷ []
    → question_of note ≡ output_of cmd ended
    → Answered answers (questions_in t.notes.items)
    → printed_by answers cmd (moment_of s a) ≡ asking (ran cmd) ended.output (moment_of t b)
output-noted answers s t a b note cmd ended made in_group order added is by =
    let one : Running = record { cmd = cmd; ended = ended } in
    let running : runnings_in (questions_in (note ∷ [])) ≡ one ∷ [] = rw is refl in
    let answer = by.outputs (length (runnings_in (questions_in s.notes.items))) one
    (last-running s t note one added running) in
    let act : Act = ran cmd in
    ap (λ (f : List ℕ). asking act f (record (moment_of s a) { ran = (moment_of s a).ran + 1 }))
    (sym answer)
    ∙ ap (λ (m : Moment). asking act ended.output m)
    (moment-ran s t a b note one made in_group order added (rw is refl) (rw is refl) (rw is refl)
    running)
