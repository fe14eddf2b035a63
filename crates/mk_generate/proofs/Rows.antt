-- The generated files of small numbers, what runs inside are asked, and what is told of them.
use Rattle.std.proofs.Common.{◌≡◌, ◌∷◌, ◌++◌, [], List, ℕ, Ok, codes, refl}
use Rattle.std.specs.Fmt.{digits}
use Rattle.mk_cli.specs.Words as cli
use Rattle.mk_modes.specs.declared.report.End.TheVariants.{Done}
use Rattle.mk_modes.specs.declared.report.Report.{Report}
use Rattle.mk_trace.specs.declared.event.Event.TheVariants.{Kept, Start, End, Wait}
use Rattle.mk_generate.specs.Counts as counts
use Rattle.mk_generate.specs.Input as spec
use Rattle.mk_generate.specs.Inside as inside

abbrev head : List ℕ
head = codes ".MAKE.MODE=meta curdirOk=yes missing-meta=yes missing-filemon=yes\n"

makefile_of_one : spec.makefile_of 1 ≡ head ++ codes "all: o0\n.PHONY: all\no0: s0\n\tcat o0 s0 s0\n"
unfolding digits
makefile_of_one = refl

makefile_of_two : spec.makefile_of 2 ≡ head
    ++ codes "all: o0 o1\n.PHONY: all\no0: s0\n\tcat o0 s0 s1\no1: s1\n\tcat o1 s1 s0\n"
unfolding digits
makefile_of_two = refl

sources_of_two : spec.files_of 2 ≡ spec.file (codes "makefile") (spec.makefile_of 2)
    ∷ spec.file (codes "s0") (codes "0\n") ∷ spec.file (codes "s1") (codes "1\n") ∷ []
unfolding digits
sources_of_two = refl

source_of_forty : spec.source_file 40 ≡ spec.file (codes "s40") (codes "600\n")
unfolding digits
source_of_forty = refl

-- what the words of a run inside ask for
words_ask_for_it : cli.order (codes "/w") inside.words ≡ Ok inside.order
words_ask_for_it = refl

-- a run that started a target, and kept a source and what is made of the target
abbrev one_started : Report
one_started = record {
  status = 0;
  end = Done;
  plan = codes "s0" ∷ codes "o0" ∷ codes "all" ∷ [];
  events = Kept 0 ∷ Start 1 1 ∷ Wait ∷ End 1 1 0 ∷ Kept 2 ∷ [];
}

one_is_started : counts.counts_of one_started ≡ codes "1 started 0 kept"
unfolding digits
one_is_started = refl

-- and one that kept it, behind a first line of another node
abbrev one_kept : Report
one_kept = record {
  status = 0;
  end = Done;
  plan = codes "s0" ∷ codes "o0" ∷ codes "all" ∷ [];
  events = Kept 0 ∷ Kept 1 ∷ Start 2 1 ∷ Wait ∷ End 2 1 0 ∷ [];
}

one_is_kept : counts.counts_of one_kept ≡ codes "0 started 1 kept"
unfolding digits
one_is_kept = refl
