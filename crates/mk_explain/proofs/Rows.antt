-- Lines of reasons, computed from the definitions.
use Rattle.std.proofs.Common.{◌≡◌, ℕ, List, [], ◌∷◌, Bool, true, false, Some, None, codes, refl}
use Rattle.std.specs.Fmt.{digits}
use Rattle.mk_bytes.specs.declared.pair.Pair.{Pair}
use Rattle.mk_filemon.specs.declared.record.Rec.{Rec}
use Rattle.mk_meta.specs.declared.meta.Meta.{Meta}
use Rattle.mk_oodate.specs.declared.reason.Age.TheVariants as age
use Rattle.mk_oodate.specs.declared.reason.Times.{Times}
use Rattle.mk_oodate.specs.declared.reason.Why.{Why}
use Rattle.mk_oodate.specs.declared.reason.Why.TheVariants as why
use Rattle.mk_world.specs.declared.command.Task.{Task}
use Rattle.mk_world.specs.declared.command.TaskLine.{TaskLine}
use Rattle.mk_world.specs.declared.step.Op.TheVariants as op
use Rattle.mk_world.specs.declared.time.When.{When}
use Rattle.mk_world.specs.declared.time.When.TheVariants as when
use Rattle.mk_explain.specs.Lines.{Names, line_of}

abbrev line : Bool → Bool → List ℕ → TaskLine
line ignore compared text = record {
  text = text;
  ignore = ignore;
  silent = false;
  always = false;
  compared = compared;
}

-- a line that is compared, and whose status counts
abbrev plain : List ℕ → TaskLine
plain text = line false true text

abbrev task : List TaskLine → Task
task lines = record { lines = lines; cwd = codes "/w"; target = codes "t"; exports = [] }

-- a job that read `a`, missed `b` and wrote `t`
abbrev records : List Rec
records =
    record { line = 1; op = op.Read (codes "a") } ∷ record { line = 1; op = op.Miss (codes "b") }
    ∷ record { line = 1; op = op.Write (codes "t") } ∷ []

abbrev meta : List TaskLine → Meta
meta lines = record {
  stamp = record { 0 = 4 };
  exports = [];
  lines = lines;
  cwd = codes "/w";
  target = codes "t";
  output = [];
  records = Some records;
}

abbrev at : ℕ → When
at number = when.At (record { 0 = number })

abbrev times : Times
times = record {
  target = at 5;
  meta = when.Missing;
  sources = age.At (record { 0 = 7 }) ∷ age.New ∷ age.Old ∷ [];
  reads = at 8 ∷ [];
  misses = at 9 ∷ [];
  left = when.Missing ∷ [];
}

abbrev names : Names
names = record {
  node = codes "t";
  sources = codes "a" ∷ codes "b" ∷ codes "c" ∷ [];
  ignored = [];
}

-- what is told where the commands were `cat t a b`, and are `cat t b a`
abbrev told : Why → List ℕ
told reason =
    line_of names (task (plain (codes "cat t b a") ∷ []))
    (Some (meta (plain (codes "cat t a b") ∷ []))) times reason

always_row : told why.Always ≡ codes "t always\n"
always_row = refl

missing_row : told why.Missing ≡ codes "t missing\n"
missing_row = refl

newer_row : told (why.Newer 0) ≡ codes "t newer a 7 5\n"
unfolding digits
newer_row = refl

new_row : told (why.Newer 1) ≡ codes "t newer b new 5\n"
unfolding digits
new_row = refl

old_row : told (why.Newer 2) ≡ codes "t newer c old 5\n"
unfolding digits
old_row = refl

no_meta_row : told why.NoMeta ≡ codes "t no meta\n"
no_meta_row = refl

touched_row : told why.Touched ≡ codes "t touched 5 missing\n"
unfolding digits
touched_row = refl

command_row : told why.Command ≡ codes "t command 1\n- cat t a b\n+ cat t b a\n"
unfolding digits
command_row = refl

no_records_row : told why.NoRecords ≡ codes "t no records\n"
no_records_row = refl

read_row : told (why.Read 0) ≡ codes "t read a 8 4\n"
unfolding digits
read_row = refl

appeared_row : told (why.Appeared 0) ≡ codes "t appeared b\n"
appeared_row = refl

left_row : told (why.Left 0) ≡ codes "t left t\n"
left_row = refl

-- a time that is not known
unknown_row : line_of names (task []) None (record times { target = when.Unknown; meta = at 6 }) why.Touched
    ≡ codes "t touched unknown 6\n"
unfolding digits
unknown_row = refl

-- what cannot come says nothing more
nothing_row : line_of names (task []) None times why.Command ≡ codes "t \n"
nothing_row = refl

-- the directory comes first
directory_row : line_of names (record (task []) { cwd = codes "/v" })
    (Some (meta (plain (codes "x") ∷ []))) times why.Command ≡ codes "t directory\n"
directory_row = refl

-- then the exported variables
abbrev pair : Pair
pair = record { name = codes "CC"; value = codes "cc" }

exports_row : line_of names (record (task []) { exports = pair ∷ [] })
    (Some (meta (plain (codes "x") ∷ []))) times why.Command ≡ codes "t exports\n"
exports_row = refl

-- then the number of lines
lines_row : line_of names (task (plain (codes "y") ∷ plain (codes "z") ∷ []))
    (Some (meta (plain (codes "x") ∷ []))) times why.Command ≡ codes "t lines 1 2\n"
unfolding digits
lines_row = refl

-- a line that is not compared is passed over, and an ignored one has a `-`
compared_row : line_of names (task (line false false (codes "b") ∷ plain (codes "d") ∷ []))
    (Some (meta (plain (codes "a") ∷ line true true (codes "d") ∷ []))) times why.Command
    ≡ codes "t command 2\n- -d\n+ d\n"
unfolding digits
compared_row = refl

-- a backslash and a newline, in a name and in a text
escaped_row : line_of (record names { node = codes "a\\b" }) (task (plain (codes "x\ny") ∷ []))
    (Some (meta (plain (codes "\\") ∷ []))) times why.Command
    ≡ codes "a\\\\b command 1\n- \\\\\n+ x\\ny\n"
unfolding digits
escaped_row = refl
