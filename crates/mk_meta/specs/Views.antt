-- What the parts of a meta file that are read stand for.
use Rattle.mk_meta.specs.Reading.{Front, Middle}
use Rattle.mk_meta.specs.declared.reading.Front.{Front as ReadFront}
use Rattle.mk_meta.specs.declared.reading.Middle.{Middle as ReadMiddle}

abbrev pub front_view : ReadFront → Front
front_view read = record { stamp = read.stamp; lines = read.lines; cwd = read.cwd }

abbrev pub middle_view : ReadMiddle → Middle
middle_view read =
    record { exports = read.exports; target = read.target; output = read.output }
