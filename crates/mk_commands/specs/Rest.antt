-- What a command does from some moment to its end, as contracts see it.
use Rattle.std.specs.Prelude.{map, Some}
use Rattle.mk_world.specs.Records.{op_of}
use Rattle.mk_world.specs.Talks.{Doing}
use Rattle.mk_world.specs.declared.step.Ended.{Ended}
use Rattle.mk_commands.specs.declared.rest.Rest.{Rest}

abbrev pub doing_of : Rest → Doing
doing_of rest = record { deeds = rest.deeds; status = rest.status; output = rest.output }

-- the answer to a command that was asked: its doing, with the ticket 0 and with its records
abbrev pub answer_of : Doing → Ended
answer_of doing = record {
  ticket = record { 0 = 0 };
  status = doing.status;
  output = doing.output;
  records = Some (map op_of doing.deeds);
}
