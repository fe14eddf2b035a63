-- Looks at the paths that records name, one after the other.
use Rattle.std.proofs.Common.{◌≡◌, ◌∙◌, ℕ, List, [], ◌∷◌, ◌++◌, map, Option, refl, sym, ap, subst, append_assoc}
use Rattle.std.proofs.lemmas.List.{append-nil, map-append}
use Rattle.mk_filemon.specs.declared.outer.JobPaths.{JobPaths}
use Rattle.mk_filemon.specs.declared.record.Rec.{Rec}
use Rattle.mk_oodate.specs.Lists.{left_paths, missed_paths, read_paths}
use Rattle.mk_world.specs.Calls.{Adds, OwnTime}
use Rattle.mk_world.specs.Looks.{Dated, dated}
use Rattle.mk_world.specs.Talks.{Meaning}
use Rattle.mk_world.specs.declared.history.History.{History}
use Rattle.mk_world.specs.declared.time.When.{When}
use Rattle.mk_decision.specs.Dates.{AreDated, record_times}
use Rattle.mk_decision.specs.Looks.{LooksAt}
use Rattle.mk_decision.specs.Metas.{AreOf, PathTimes, path_looks, paths_in}
use Rattle.mk_decision.specs.declared.paths.RecordTimes.{RecordTimes}
use Rattle.mk_decision.proofs.LookLemmas.{looks-none, looks-then, looks-timed}

-- before any look
pub dated-none : (meaning : Meaning) (told : Option History) (all : List (List ℕ)) (whens : List When)
    → whens ≡ [] → AreDated meaning told told all all whens
dated-none meaning told all whens none =
    record { dates = []; are = refl; times = none; looked = looks-none meaning told }

-- one look more
pub dated-more : (meaning : Meaning) (start a b : Option History) (all rest : List (List ℕ))
    (path : List ℕ) (when : When) (whens now : List When)
    → Adds meaning a b (OwnTime path when) → now ≡ whens ++ when ∷ []
    → AreDated meaning start a all (path ∷ rest) whens → AreDated meaning start b all rest now
dated-more meaning start a b all rest path when whens now adds is so_far =
    let one : Dated = record { path = path; when = when } in
    let dates = so_far.dates in
    record {
      dates = dates ++ one ∷ [];
      are = so_far.are ∙ (sym (append_assoc (paths_in dates) (path ∷ []) rest)
          ∙ ap (λ l. l ++ rest) (sym (map-append (λ (d : Dated). d.path) dates (one ∷ []))));
      times = is ∙ (ap (λ l. l ++ when ∷ []) so_far.times
          ∙ sym (map-append (λ (d : Dated). d.when) dates (one ∷ [])));
      looked = subst (LooksAt meaning start b) (sym (map-append dated dates (one ∷ [])))
          (looks-then meaning start a b (map dated dates) (dated one ∷ []) so_far.looked
          (looks-timed meaning a b path when adds));
    }

-- the looks at all paths of three kinds, one kind after the other
pub looks-paths : (meaning : Meaning) (a b c d : Option History) (paths : PathTimes)
    → LooksAt meaning a b (map dated paths.reads) → LooksAt meaning b c (map dated paths.misses)
    → LooksAt meaning c d (map dated paths.left) → LooksAt meaning a d (path_looks paths)
looks-paths meaning a b c d paths reads misses left =
    subst (LooksAt meaning a d)
    (sym (map-append dated paths.reads (paths.misses ++ paths.left)
    ∙ ap (λ l. map dated paths.reads ++ l) (map-append dated paths.misses paths.left)))
    (looks-then meaning a b d (map dated paths.reads) (map dated paths.misses ++ map dated paths.left)
    reads (looks-then meaning b c d (map dated paths.misses) (map dated paths.left) misses left))

all-dated : (all : List (List ℕ)) (dates : List Dated) (named : List (List ℕ))
    → all ≡ paths_in dates ++ [] → all ≡ named → paths_in dates ≡ named
all-dated all dates named are is = sym (are ∙ append-nil (paths_in dates)) ∙ is

-- what was seen at the paths that records name
pub records-seen : (meaning : Meaning) (a b c d : Option History) (ignored : List (List ℕ))
    (records : List Rec) (paths : JobPaths) (times : RecordTimes)
    → paths.found ≡ read_paths ignored records → paths.missed ≡ missed_paths ignored records
    → paths.left ≡ left_paths ignored records
    → AreDated meaning a b paths.found [] times.reads
    → AreDated meaning b c paths.missed [] times.misses → AreDated meaning c d paths.left [] times.left
    → (seen : PathTimes) × AreOf ignored records seen × LooksAt meaning a d (path_looks seen)
    × (times ≡ record_times seen)
records-seen meaning a b c d ignored records paths times found missed left reads misses last =
    let seen : PathTimes = record { reads = reads.dates; misses = misses.dates; left = last.dates } in (
      seen,
      record {
        reads = all-dated paths.found reads.dates (read_paths ignored records) reads.are found;
        misses = all-dated paths.missed misses.dates (missed_paths ignored records) misses.are missed;
        left = all-dated paths.left last.dates (left_paths ignored records) last.are left;
      },
      looks-paths meaning a b c d seen reads.looked misses.looked last.looked,
      rw (← reads.times, ← misses.times, ← last.times) refl,
    )
