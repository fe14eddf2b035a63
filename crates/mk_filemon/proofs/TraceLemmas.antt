-- What records tell of one path, one record after the other.
use Rattle.std.proofs.Common.{◌≡◌, ℕ, Bool, true, false, not, ◌||◌, List, [], ◌∷◌, ◌++◌, map}
use Rattle.std.proofs.Common.{if◌then◌else◌, refl, ◌∙◌}
use Rattle.std.specs.Str.{bytes_eq}
use Rattle.mk_filemon.specs.Entries.{no_trace, after}
use Rattle.mk_filemon.specs.Outer.{Touched, found_by, missed_by, written_by, is_found, is_missed}
use Rattle.mk_filemon.specs.Outer.{is_written}
use Rattle.mk_filemon.specs.declared.trace.Touch.{Touch}
use Rattle.mk_filemon.specs.declared.trace.Touch.TheVariants.{Found, Missed, Written, Gone}
use Rattle.mk_filemon.specs.declared.trace.Trace.{Trace}
use Rattle.mk_filemon.proofs.EscapeLemmas.{cases}
use Rattle.mk_filemon.proofs.PathLemmas.{among, bytes_eq-sym}

-- what some records tell of a path
abbrev changed_by : Touch → Bool → Bool
changed_by Found later = later
changed_by Missed later = later
changed_by Written later = true
changed_by Gone later = true

abbrev is_changed : List Touched → List ℕ → Bool
is_changed [] path = false
is_changed (touched ∷ more) path =
    if bytes_eq touched.0 path then changed_by touched.1 (is_changed more path)
    else is_changed more path

abbrev pub trace_of : List Touched → List ℕ → Trace
trace_of all path = record {
  found = is_found all path;
  missed = is_missed all path;
  changed = is_changed all path;
  written = is_written false all path;
}

abbrev found_after : Touch → Bool → Bool → Bool
found_after Found is changed = is || not changed
found_after Missed is changed = is
found_after Written is changed = is
found_after Gone is changed = is

abbrev missed_after : Touch → Bool → Bool → Bool
missed_after Found is changed = is
missed_after Missed is changed = is || not changed
missed_after Written is changed = is
missed_after Gone is changed = is

-- the first record and the last one, of one path or of others
found_both : (here : Bool) (first : Touch) (there : Bool) (last : Touch) (is changed : Bool)
    → (if here then found_by first (if there then found_after last is changed else is)
    else (if there then found_after last is changed else is))
    ≡ (if there then found_after last (if here then found_by first is else is)
    (if here then changed_by first changed else changed)
    else (if here then found_by first is else is))
found_both false first there last is changed = refl
found_both true first false last is changed = refl
found_both true Found true Found is changed = refl
found_both true Found true Missed is changed = refl
found_both true Found true Written is changed = refl
found_both true Found true Gone is changed = refl
found_both true Missed true Found is changed = refl
found_both true Missed true Missed is changed = refl
found_both true Missed true Written is changed = refl
found_both true Missed true Gone is changed = refl
found_both true Written true Found is changed = refl
found_both true Written true Missed is changed = refl
found_both true Written true Written is changed = refl
found_both true Written true Gone is changed = refl
found_both true Gone true Found is changed = refl
found_both true Gone true Missed is changed = refl
found_both true Gone true Written is changed = refl
found_both true Gone true Gone is changed = refl

missed_both : (here : Bool) (first : Touch) (there : Bool) (last : Touch) (is changed : Bool)
    → (if here then missed_by first (if there then missed_after last is changed else is)
    else (if there then missed_after last is changed else is))
    ≡ (if there then missed_after last (if here then missed_by first is else is)
    (if here then changed_by first changed else changed)
    else (if here then missed_by first is else is))
missed_both false first there last is changed = refl
missed_both true first false last is changed = refl
missed_both true Found true Found is changed = refl
missed_both true Found true Missed is changed = refl
missed_both true Found true Written is changed = refl
missed_both true Found true Gone is changed = refl
missed_both true Missed true Found is changed = refl
missed_both true Missed true Missed is changed = refl
missed_both true Missed true Written is changed = refl
missed_both true Missed true Gone is changed = refl
missed_both true Written true Found is changed = refl
missed_both true Written true Missed is changed = refl
missed_both true Written true Written is changed = refl
missed_both true Written true Gone is changed = refl
missed_both true Gone true Found is changed = refl
missed_both true Gone true Missed is changed = refl
missed_both true Gone true Written is changed = refl
missed_both true Gone true Gone is changed = refl

is_found-push : (all : List Touched) (last : Touched) (path : List ℕ)
    → is_found (all ++ last ∷ []) path
    ≡ (if bytes_eq last.0 path then found_after last.1 (is_found all path) (is_changed all path)
    else is_found all path)
is_found-push [] (place, Found) path = refl
is_found-push [] (place, Missed) path = refl
is_found-push [] (place, Written) path = refl
is_found-push [] (place, Gone) path = refl
is_found-push (t ∷ ts) last path =
    rw (is_found-push ts last path)
    (found_both (bytes_eq t.0 path) t.1 (bytes_eq last.0 path) last.1 (is_found ts path)
    (is_changed ts path))

is_missed-push : (all : List Touched) (last : Touched) (path : List ℕ)
    → is_missed (all ++ last ∷ []) path
    ≡ (if bytes_eq last.0 path then missed_after last.1 (is_missed all path) (is_changed all path)
    else is_missed all path)
is_missed-push [] (place, Found) path = refl
is_missed-push [] (place, Missed) path = refl
is_missed-push [] (place, Written) path = refl
is_missed-push [] (place, Gone) path = refl
is_missed-push (t ∷ ts) last path =
    rw (is_missed-push ts last path)
    (missed_both (bytes_eq t.0 path) t.1 (bytes_eq last.0 path) last.1 (is_missed ts path)
    (is_changed ts path))

is_changed-push : (all : List Touched) (last : Touched) (path : List ℕ)
    → is_changed (all ++ last ∷ []) path
    ≡ (if bytes_eq last.0 path then changed_by last.1 (is_changed all path)
    else is_changed all path)
is_changed-push [] last path = refl
is_changed-push (t ∷ ts) last path =
    rw (is_changed-push ts last path)
    (changed_both (bytes_eq t.0 path) t.1 (bytes_eq last.0 path) last.1 (is_changed ts path))
  where
    changed_both : (here : Bool) (first : Touch) (there : Bool) (last' : Touch) (changed : Bool)
        → (if here then changed_by first (if there then changed_by last' changed else changed)
        else (if there then changed_by last' changed else changed))
        ≡ (if there then changed_by last' (if here then changed_by first changed else changed)
        else (if here then changed_by first changed else changed))
    changed_both false first there last' changed = refl
    changed_both true first false last' changed = refl
    changed_both true Found true last' changed = refl
    changed_both true Missed true last' changed = refl
    changed_both true first true Found changed = refl
    changed_both true first true Missed changed = refl
    changed_both true Written true Written changed = refl
    changed_both true Written true Gone changed = refl
    changed_both true Gone true Written changed = refl
    changed_both true Gone true Gone changed = refl

is_written-push : (before : Bool) (all : List Touched) (last : Touched) (path : List ℕ)
    → is_written before (all ++ last ∷ []) path
    ≡ (if bytes_eq last.0 path then written_by last.1 (is_written before all path)
    else is_written before all path)
is_written-push before [] last path = refl
is_written-push before (t ∷ ts) last path =
    is_written-push (if bytes_eq t.0 path then written_by t.1 before else before) ts last path

after-fields : (here : Bool) (touch : Touch) (trace : Trace)
    → (record {
      found = if here then found_after touch trace.found trace.changed else trace.found;
      missed = if here then missed_after touch trace.missed trace.changed else trace.missed;
      changed = if here then changed_by touch trace.changed else trace.changed;
      written = if here then written_by touch trace.written else trace.written;
    }) ≡ (if here then after trace touch else trace)
after-fields true Found trace = refl
after-fields true Missed trace = refl
after-fields true Written trace = refl
after-fields true Gone trace = refl
after-fields false touch trace = refl

-- the trace of a path after one more record
pub trace_of-push : (all : List Touched) (last : Touched) (path : List ℕ)
    → trace_of (all ++ last ∷ []) path
    ≡ (if bytes_eq last.0 path then after (trace_of all path) last.1 else trace_of all path)
trace_of-push all last path =
    (λ i. record {
      found = is_found-push all last path i;
      missed = is_missed-push all last path i;
      changed = is_changed-push all last path i;
      written = is_written-push false all last path i;
    }) ∙ after-fields (bytes_eq last.0 path) last.1 (trace_of all path)

-- a path that no record names has no trace
pub trace_of-fresh : (all : List Touched) (path : List ℕ)
    → among (map (λ touched. touched.0) all) path ≡ false → trace_of all path ≡ no_trace
trace_of-fresh [] path none = refl
trace_of-fresh (t ∷ ts) path none =
    cases (bytes_eq path t.0)
    (λ is. let here : true ≡ false = rw is at none in absurd cc)
    (λ apart. let turned : bytes_eq t.0 path ≡ false = bytes_eq-sym t.0 path ∙ apart in
    let rest : among (map (λ touched. touched.0) ts) path ≡ false = rw apart at none in
    rw turned (trace_of-fresh ts path rest))
