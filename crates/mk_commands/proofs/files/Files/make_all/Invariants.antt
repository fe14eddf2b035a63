use Rattle.std.proofs.Common.{◌≡◌, ◌≤◌, length}
use Rattle.std.specs.Vec.Iter.{into_iter_items}
use Rattle.mk_commands.specs.Changes.{changed_all}
use Rattle.mk_commands.specs.Files.{files_in, room_in}
use Rattle.mk_commands.proofs.files.Files.make_all.Given as goal

-- the changes so far are made, and there is room for the others
abbrev pub invariant-loop-change : goal.invariant-loop-change
invariant-loop-change l = record {
  files : changed_all (files_in l.self) (into_iter_items l.change-iterator)
      ≡ changed_all (files_in l.initial.self) l.fn.changes.items;
  room : length (into_iter_items l.change-iterator) ≤ room_in l.self;
}
