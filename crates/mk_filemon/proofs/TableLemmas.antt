-- The table of traces against the records that left them.
use Rattle.std.proofs.Common.{◌≡◌, ℕ, Bool, true, false, not, cond, List, [], ◌∷◌, ◌++◌, map}
use Rattle.std.proofs.Common.{filter, if◌then◌else◌, Option, Some, refl, sym, ◌∙◌, ap, ap₂}
use Rattle.std.proofs.Common.{append_assoc}
use Rattle.std.specs.Borrow.{Bor}
use Rattle.indexmap.specs.IndexMap.{insert_entry}
use Rattle.std.proofs.lemmas.List.{append-nil, map-append}
use Rattle.std.specs.Map.{lookup}
use Rattle.std.specs.Option.{unwrap_or}
use Rattle.std.specs.Str.{bytes_eq}
use Rattle.mk_filemon.specs.Entries.{Traced, traced_of, no_trace, after, trace_in, noted, all_noted}
use Rattle.mk_filemon.specs.Entries.{counts, tells, paths_that}
use Rattle.mk_filemon.specs.Outer.{Touched}
use Rattle.mk_filemon.specs.Outer.{counted, is_ignored, once, named}
use Rattle.mk_filemon.specs.declared.trace.Asked.{Asked}
use Rattle.mk_filemon.specs.declared.trace.Touch.{Touch}
use Rattle.mk_filemon.specs.declared.trace.Trace.{Trace}
use Rattle.mk_filemon.proofs.EscapeLemmas.{cases}
use Rattle.mk_filemon.proofs.PathLemmas.{IsOnce, among, among-once, bytes_eq-same, once-IsOnce}
use Rattle.mk_filemon.proofs.PathLemmas.{once-push, same_bytes}
use Rattle.mk_filemon.proofs.StepLemmas.{filter-both}
use Rattle.mk_filemon.proofs.TraceLemmas.{trace_of, trace_of-fresh, trace_of-push}

abbrev Entries : Type 0
Entries = List (Bor (List ℕ) × Trace)

unwrap_or-cond : (here : Bool) (trace : Trace) (rest : Option Trace)
    → unwrap_or (cond here (Some trace) rest) no_trace
    ≡ cond here trace (unwrap_or rest no_trace)
unwrap_or-cond true trace rest = refl
unwrap_or-cond false trace rest = refl

-- a look-up gives the trace of a path
trace_in-lookup : (path : List ℕ) (entries : Entries)
    → unwrap_or (lookup (λ key. bytes_eq path key.now) entries) no_trace
    ≡ trace_in (traced_of entries) path
trace_in-lookup path [] = refl
trace_in-lookup path (e ∷ es) =
    unwrap_or-cond (bytes_eq path e.0.now) e.1 (lookup (λ key. bytes_eq path key.now) es)
    ∙ ap (λ t. cond (bytes_eq path e.0.now) e.1 t) (trace_in-lookup path es)

-- an insert of the trace after one more record notes it
insert_entry-noted : (key : Bor (List ℕ)) (touch : Touch) (entries : Entries)
    → traced_of (insert_entry (λ a b. bytes_eq a.now b.now) entries key
    (after (trace_in (traced_of entries) key.now) touch))
    ≡ noted (traced_of entries) key.now touch
insert_entry-noted key touch [] = refl
insert_entry-noted key touch (e ∷ es) =
    cases (bytes_eq key.now e.0.now)
    (λ is. rw is refl)
    (λ apart. rw apart (ap (λ r. (e.0.now, e.1) ∷ r) (insert_entry-noted key touch es)))

-- an insert notes one more record where the trace is that of a look-up after the record
pub insert_entry-lookup : (new : Entries) (key : Bor (List ℕ)) (touch : Touch) (entries : Entries)
    (before : Trace) → before
    ≡ unwrap_or (lookup (λ other. bytes_eq key.now other.now) entries) no_trace
    → new ≡ insert_entry (λ a b. bytes_eq a.now b.now) entries key (after before touch)
    → traced_of new ≡ noted (traced_of entries) key.now touch
insert_entry-lookup new key touch entries before was is =
    ap traced_of (is ∙ ap (λ trace. insert_entry (λ a b. bytes_eq a.now b.now) entries key
    (after trace touch)) (was ∙ trace_in-lookup key.now entries))
    ∙ insert_entry-noted key touch entries

abbrev with_traces : (List ℕ → Trace) → List (List ℕ) → List Traced
with_traces traces paths = map (λ path. (path, traces path)) paths

-- the table that records leave
abbrev pub entries_of : List Touched → List Traced
entries_of all = with_traces (trace_of all) (named all)

noted-new : (traces : List ℕ → Trace) (paths : List (List ℕ)) (path : List ℕ) (touch : Touch)
    → among paths path ≡ false
    → noted (with_traces traces paths) path touch
    ≡ with_traces traces paths ++ (path, after no_trace touch) ∷ []
noted-new traces [] path touch none = refl
noted-new traces (p ∷ ps) path touch none =
    cases (bytes_eq path p)
    (λ is. let here : true ≡ false = rw is at none in absurd cc)
    (λ apart. let rest : among ps path ≡ false = rw apart at none in
    rw apart (ap (λ table. (p, traces p) ∷ table) (noted-new traces ps path touch rest)))

-- the traces of other paths stay
map-same : (old new : List ℕ → Trace) (paths : List (List ℕ)) (path : List ℕ)
    → ((one : List ℕ) → bytes_eq path one ≡ false → new one ≡ old one)
    → among paths path ≡ false
    → with_traces new paths ≡ with_traces old paths
map-same old new [] path stays none = refl
map-same old new (p ∷ ps) path stays none =
    cases (bytes_eq path p)
    (λ is. let here : true ≡ false = rw is at none in absurd cc)
    (λ apart. let rest : among ps path ≡ false = rw apart at none in
    ap₂ (λ (trace : Trace) (table : List Traced). (p, trace) ∷ table) (stays p apart)
    (map-same old new ps path stays rest))

noted-old : (old new : List ℕ → Trace) (paths : List (List ℕ)) (path : List ℕ) (touch : Touch)
    → ((one : List ℕ) → bytes_eq path one ≡ false → new one ≡ old one)
    → new path ≡ after (old path) touch → IsOnce paths → among paths path ≡ true
    → noted (with_traces old paths) path touch ≡ with_traces new paths
noted-old old new [] path touch stays here each there = absurd cc
noted-old old new (p ∷ ps) path touch stays here each there =
    cases (bytes_eq path p)
    (λ is. let same : path ≡ p = same_bytes path p is in
    let none : among ps path ≡ false = rw same each.0 in
    let now : new p ≡ after (old p) touch = rw (← same) here in
    rw (is, now) (ap (λ table. (p, after (old p) touch) ∷ table)
    (sym (map-same old new ps path stays none))))
    (λ apart. let rest : among ps path ≡ true = rw apart at there in
    rw apart (ap₂ (λ (trace : Trace) (table : List Traced). (p, trace) ∷ table)
    (sym (stays p apart))
    (noted-old old new ps path touch stays here each.1 rest)))

noted-entries : (all : List Touched) (last : Touched)
    → noted (entries_of all) last.0 last.1 ≡ entries_of (all ++ last ∷ [])
noted-entries all last =
    let paths = map (λ (touched : Touched). touched.0) all in
    let stays : (one : List ℕ) → bytes_eq last.0 one ≡ false
    → trace_of (all ++ last ∷ []) one ≡ trace_of all one =
    λ one apart. trace_of-push all last one ∙ rw apart refl in
    let here : trace_of (all ++ last ∷ []) last.0 ≡ after (trace_of all last.0) last.1 =
    trace_of-push all last last.0 ∙ rw (bytes_eq-same last.0) refl in
    let more : named (all ++ last ∷ [])
    ≡ (if among paths last.0 then once paths else once paths ++ last.0 ∷ []) =
    ap once (map-append (λ (touched : Touched). touched.0) all (last ∷ []))
    ∙ once-push paths last.0 in
    let again : among (once paths) last.0 ≡ among paths last.0 = among-once paths last.0 in
    cases (among paths last.0)
    (λ there. rw (more, there) (noted-old (trace_of all) (trace_of (all ++ last ∷ [])) (once paths)
    last.0 last.1 stays here (once-IsOnce paths) (again ∙ there)))
    (λ none. let fresh = trace_of-fresh all last.0 none in
    let first : trace_of (all ++ last ∷ []) last.0 ≡ after no_trace last.1 =
    here ∙ ap (λ trace. after trace last.1) fresh in
    rw (more, none, map-append)
    (noted-new (trace_of all) (once paths) last.0 last.1 (again ∙ none)
    ∙ ap₂ (λ (table : List Traced) (trace : Trace). table ++ (last.0, trace) ∷ [])
    (sym (map-same (trace_of all) (trace_of (all ++ last ∷ [])) (once paths) last.0 stays
    (again ∙ none))) (sym first)))

noted-behind : (front all : List Touched)
    → all_noted (entries_of front) all ≡ entries_of (front ++ all)
noted-behind front [] = ap entries_of (sym (append-nil front))
noted-behind front (t ∷ ts) =
    ap (λ table. all_noted table ts) (noted-entries front t) ∙ noted-behind (front ++ t ∷ []) ts
    ∙ ap entries_of (append_assoc front (t ∷ []) ts)

pub all_noted-entries : (all : List Touched) → all_noted [] all ≡ entries_of all
all_noted-entries all = noted-behind [] all

pub all_noted-append : (table : List Traced) (first second : List Touched)
    → all_noted table (first ++ second) ≡ all_noted (all_noted table first) second
all_noted-append table [] second = refl
all_noted-append table (t ∷ ts) second = all_noted-append (noted table t.0 t.1) ts second

paths_that-map : (ignored : List (List ℕ)) (asked : Asked) (traces : List ℕ → Trace)
    (paths : List (List ℕ))
    → paths_that ignored asked (with_traces traces paths)
    ≡ filter (λ path. counts ignored asked (path, traces path)) paths
paths_that-map ignored asked traces [] = refl
paths_that-map ignored asked traces (p ∷ ps) =
    cases (counts ignored asked (p, traces p))
    (λ is. rw is (ap (λ rest. p ∷ rest) (paths_that-map ignored asked traces ps)))
    (λ apart. rw apart (paths_that-map ignored asked traces ps))

-- The paths that the table tells are those that the records tell, without ignored ones.
pub paths_that-counted : (ignored : List (List ℕ)) (asked : Asked) (all : List Touched)
    (table : List Traced) → table ≡ all_noted [] all
    → paths_that ignored asked table
    ≡ counted ignored (filter (λ path. tells asked (trace_of all path)) (named all))
paths_that-counted ignored asked all table is =
    ap (paths_that ignored asked) (is ∙ all_noted-entries all)
    ∙ paths_that-map ignored asked (trace_of all) (named all)
    ∙ sym (filter-both (λ path. not (is_ignored ignored path))
    (λ path. tells asked (trace_of all path))
    (λ path. counts ignored asked (path, trace_of all path)) (named all) (λ path. refl))

counted-none : (paths : List (List ℕ)) → counted [] paths ≡ paths
counted-none [] = refl
counted-none (p ∷ ps) = ap (λ rest. p ∷ rest) (counted-none ps)

-- Where no path is ignored, they are all of them.
pub paths_that-noted : (asked : Asked) (all : List Touched) (table : List Traced)
    → table ≡ all_noted [] all
    → paths_that [] asked table ≡ filter (λ path. tells asked (trace_of all path)) (named all)
paths_that-noted asked all table is =
    paths_that-counted [] asked all table is
    ∙ counted-none (filter (λ path. tells asked (trace_of all path)) (named all))
