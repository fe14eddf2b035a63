-- Runs one behind the other, and changes at one time.
use Rattle.std.proofs.Common.{refl, arith}
use Rattle.mk_example.proofs.AgainLemmas.{edited-ready}
use Rattle.mk_example.proofs.CopyLemmas.{copies-right}
use Rattle.mk_example.specs.Copies.{ChangesMayShareATime, CopiesAreRightAgain, edited}

pub copies-right-again : CopiesAreRightAgain
copies-right-again bytes newer old mid new time out out_mid out_again out_after err err_again report again ready run done
    idle later run_again done_again =
    copies-right newer (edited mid newer time) new out_again out_after err_again again
    (edited-ready bytes newer mid time (copies-right bytes old mid out out_mid err report ready run done) idle later)
    run_again done_again

pub one-time-lawful : ChangesMayShareATime
one-time-lawful bytes = record {
  events = (
    ((omega arith, tt), refl),
    (
      ((omega arith, tt), refl),
      (
        ((omega arith, tt), omega arith),
        (
          ((omega arith, tt), tt),
          (((omega arith, tt), omega arith), (((omega arith, tt), tt), tt)),
        ),
      ),
    ),
  );
}
