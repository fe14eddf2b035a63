-- Whole files.
use Rattle.std.proofs.Common.{◌≡◌, ℕ, zero, suc, List, [], Some, None, Ok, sym, ap, ◌∙◌}
use Rattle.mk_lines.specs.Lines.{lines_from}
use Rattle.mk_blocks.specs.Blocks.{parse}
use Rattle.mk_blocks.specs.Languages.{LineMeaning}
use Rattle.mk_blocks.specs.Meaning as m
use Rattle.mk_blocks.specs.FileFaults as faults
use Rattle.mk_blocks.specs.Runs as runs
use Rattle.mk_blocks.specs.Runs.{Reads, Run, run_at}
use Rattle.mk_blocks.specs.Outcomes.{done, silent, ◌>>=◌}
use Rattle.mk_blocks.specs.Places as p
use Rattle.mk_blocks.specs.Ties.{Closes, Does, Ties, sorted}
use Rattle.mk_blocks.specs.declared.kind.LineKind.{LineKind}
use Rattle.mk_blocks.proofs.PlaceLemmas as place
use Rattle.mk_blocks.proofs.OutcomeLemmas.{bind-bind, bind-same}

module _ {S W F : Type 0} (M : LineMeaning S W) (kind : List ℕ → LineKind) where
  whole : (files : runs.Files S W F) (name bytes : List ℕ) (r : Run S)
      → m.file_meaning M kind files name bytes r
      ≡ (silent (faults.file_checked kind name bytes)
      >>= λ given. p.left_in M files name kind [] zero (parse kind (lines_from 1 bytes)) r
      >>= λ q. done (m.closed_run M q))
  whole files name bytes r =
      let lines = parse kind (lines_from 1 bytes) in
      let read = m.meaning M files name lines.block [] r in
      bind-bind (silent (faults.file_checked kind name bytes)) _ _
      ∙ bind-same (silent (faults.file_checked kind name bytes)) _ _ (λ given.
      sym (ap (λ o. o >>= (λ q. done (m.closed_run M q)))
      (place.left_in-start M files name kind lines r)
      ∙ bind-bind read (λ a. done a.run) (λ q. done (m.closed_run M q))))

  -- a file is checked, then its lines are read, and then it is closed
  file-parts : (room : ℕ) (name bytes : List ℕ) (r : Run S)
      → m.file_at {F = F} M kind room name bytes r
      ≡ (silent (faults.file_checked kind name bytes)
      >>= λ given. p.left_in M (m.files_at M kind room) name kind [] zero (parse kind
      (lines_from 1 bytes)) r
      >>= λ q. done (m.closed_run M q))
  unfolding m.file_at m.files_at
  file-parts zero name bytes r = whole None name bytes r
  file-parts (suc room) name bytes r = whole (Some (m.file_at M kind room)) name bytes r

-- what is left behind the checks of a file, and behind its lines
module _ {X W F : Type 0} (ties : Ties X W F) where
  abbrev pub closed_next : ties.Answers → Run ties.State → Reads W F (Run ties.State)
  closed_next answers r = done (m.closed_run (ties.meaning answers) r)

  module _ (room : ℕ) (name bytes : List ℕ) (x : X) (count : ℕ) where
    abbrev pub checked_next : ties.Answers → Unit {0} → Reads W F (Run ties.State)
    checked_next answers given =
        p.left_in (ties.meaning answers) (m.files_at (ties.meaning answers) ties.kind room) name
        ties.kind
        [] zero (parse ties.kind (lines_from 1 bytes)) (run_at (ties.state x) count)
        >>= closed_next answers

    pub file-checked : (answers : ties.Answers)
        → m.file_at {F = F} (ties.meaning answers) ties.kind room name bytes (run_at
        (ties.state x) count)
        ≡ (silent (faults.file_checked ties.kind name bytes) >>= checked_next answers)
    file-checked answers =
        file-parts (ties.meaning answers) ties.kind room name bytes (run_at (ties.state x) count)

-- the end of a file
pub Closes-does : {X W F : Type 0} (ties : Ties X W F) {x y : X} (count : ℕ) → Closes ties x y
    → Does ties (sorted {W = W} {F = F}) x y
    (λ answers (given : Unit {0}). done (run_at (ties.state y) count)) (Ok tt)
    (λ answers. done (m.closed_run (ties.meaning answers) (run_at (ties.state x) count)))
Closes-does ties {y = y} count closes = record {
  leads = closes.leads;
  gives = λ answers agrees. record {
    acts = [];
    did = closes.did;
    is = ap (λ s. done (run_at s count)) (sym (closes.state answers agrees));
  };
}
