-- What is known of a path, touch by touch.
use Rattle.std.specs.Prelude.{Bool, true, false, not, ◌||◌, ◌&&◌, if◌then◌else◌}
use Rattle.mk_recorder.specs.declared.known.Touch.{Touch}
use Rattle.mk_recorder.specs.declared.known.Touch.TheVariants as touch
use Rattle.mk_recorder.specs.declared.known.Change.{Change}
use Rattle.mk_recorder.specs.declared.known.Change.TheVariants.{Untouched, Made, Gone}
use Rattle.mk_recorder.specs.declared.known.Known.{Known}

abbrev pub not_known : Known
not_known = record {
  found = false;
  seen = false;
  missed = false;
  listed = false;
  folder = false;
  ran = false;
  kept = false;
  fresh = false;
  change = Untouched;
}

abbrev pub is_untouched : Change → Bool
is_untouched Untouched = true
is_untouched Made = false
is_untouched Gone = false

abbrev pub is_made_by : Change → Bool
is_made_by Untouched = false
is_made_by Made = true
is_made_by Gone = false

abbrev pub is_gone_by : Change → Bool
is_gone_by Untouched = false
is_gone_by Made = false
is_gone_by Gone = true

-- the command has not changed it
abbrev pub is_outer : Known → Bool
is_outer known = is_untouched known.change

abbrev pub is_made : Known → Bool
is_made known = is_made_by known.change

abbrev pub is_gone : Known → Bool
is_gone known = is_gone_by known.change

-- it may have been there before the command
abbrev pub is_old : Known → Bool
is_old known = is_outer known && not known.missed

-- what is read there may be older than the command
abbrev pub holds_old : Known → Bool
holds_old known = is_outer known || known.kept

-- the same where it is opened, which may have made it
abbrev pub may_hold : Known → Bool
may_hold known = is_old known || known.kept

abbrev pub read_or_made : Known → Known
read_or_made known =
    if may_hold known then record known { found = true } else record known { change = Made }

abbrev pub updated : Known → Known
updated known =
    record known { found = known.found || may_hold known; fresh = false; change = Made }

-- written by one that does not read it: old bytes may stay
abbrev pub overwritten : Known → Known
overwritten known = record known { kept = known.kept || is_old known; change = Made }

abbrev pub removed : Known → Known
removed known =
    record known { seen = known.seen || holds_old known; kept = false; fresh = false; change = Gone }

abbrev pub run : Known → Known
run known =
    record known { found = known.found || holds_old known; ran = known.ran || is_outer known }

abbrev pub listed : Known → Known
listed known = record known { listed = known.listed || is_outer known; folder = true }

-- What is known of a path behind one more touch: what is read, looked at and missed counts where
-- the command has not changed the path before, and what is read also where old bytes may stay in
-- it.
abbrev pub after : Known → Touch → Known
after known touch.Read = record known { found = known.found || holds_old known }
after known touch.Run = run known
after known touch.Look = record known { seen = known.seen || is_outer known }
after known touch.Miss = record known { missed = known.missed || is_outer known }
after known touch.Make = record known { fresh = false; change = Made }
after known touch.NewFolder = record known { folder = true; fresh = true; change = Made }
after known touch.Update = updated known
after known touch.Overwrite = overwritten known
after known touch.Empty = record known { kept = false; change = Made }
after known touch.ReadOrMake = read_or_made known
after known touch.Remove = removed known
after known touch.Folder = record known { folder = true }
after known touch.List = listed known

-- something is there, as far as it is known
abbrev pub stands : Known → Bool
stands known = is_made known || (is_outer known && (known.found || known.seen))
