-- A job of one command, from its stamp to its meta file, as its history tells of it.
use Rattle.std.proofs.Common.{◌≡◌, inl, inr, ℕ, false, true, List, [], ◌∷◌, None, Some, refl, codes}
use Rattle.mk_meta.specs.Jobs.{meta_of_job}
use Rattle.mk_meta.specs.Texts.{head, meta_text}
use Rattle.mk_meta.specs.TrueHistory.{IsTrue, meta_path}
use Rattle.mk_meta.specs.declared.meta.Meta.{Meta}
use Rattle.mk_world.proofs.RecordLemmas.{exact_records_tell}
use Rattle.mk_world.specs.Talks.{NextOf}
use Rattle.mk_world.specs.declared.command.Cmd.{Cmd}
use Rattle.mk_world.specs.declared.command.Task.{Task}
use Rattle.mk_world.specs.declared.history.Happening.{Happening}
use Rattle.mk_world.specs.declared.history.Happening.TheVariants.{Stamp, Put, Start, Step, End}
use Rattle.mk_world.specs.declared.step.Deed.TheVariants.{Write}
use Rattle.mk_world.specs.declared.step.Next.TheVariants.{More, Over}
use Rattle.mk_world.specs.declared.step.Op.TheVariants as op
use Rattle.mk_world.specs.declared.step.Request.TheVariants as ask

abbrev target : List ℕ
target = codes "t"

-- each command writes one file
abbrev writes : NextOf
writes cmd [] = More (ask.Write target (codes "x\n"))
writes cmd (answer ∷ answers) = Over 0 []

abbrev task : Task
task = record {
  lines = record {
    text = [];
    ignore = false;
    silent = false;
    always = false;
    compared = true;
  } ∷ record {
    text = codes "put t x";
    ignore = false;
    silent = true;
    always = false;
    compared = true;
  } ∷ [];
  cwd = codes "/w";
  target = target;
  exports = [];
}

abbrev cmd : Cmd
cmd = record { text = codes "put t x"; cwd = codes "/w"; exports = [] }

abbrev meta : Meta
meta = meta_of_job (record { 0 = 5 }) task [] (Some ((op.Write target ∷ []) ∷ []))

-- the empty line has a number too
records : meta.records ≡ Some (record { line = 2; op = op.Write target } ∷ [])
records = refl

abbrev events : List Happening
events =
    Stamp (meta_path target) (head target) 5 ∷ Start 1 5 cmd
    ∷ Step 1 5 (Write target (codes "x\n")) 6 ∷ End 1 5
    ∷ Put (meta_path target) (meta_text meta) 7 ∷ []

true_of_it : IsTrue writes meta events
true_of_it = record {
  before = [];
  first = head target;
  during = Start 1 5 cmd ∷ Step 1 5 (Write target (codes "x\n")) 6 ∷ End 1 5 ∷ [];
  time = 7;
  since = [];
  doings = record { deeds = Write target (codes "x\n") ∷ []; status = 0; output = [] } ∷ [];
  all = refl;
  unchanged = tt;
  commands = refl;
  well = (
    record {
      talks = (ask.Write target (codes "x\n"), None, refl, refl, refl);
      well = inl refl;
    },
    tt,
  );
  over = refl;
  records = record {
    children = (op.Write target ∷ []) ∷ [];
    tell = (exact_records_tell (Write target (codes "x\n") ∷ []), tt);
    all = refl;
  };
  alone = (
    inr (λ path among. tt),
    (inl (Write target (codes "x\n"), refl), (inr (λ path among. tt), tt)),
  );
}
