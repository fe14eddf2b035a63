use Rattle.std.proofs.Common.{◌≡◌, false, Some, IfSome, subst, sym}
use Rattle.std.specs.Str.{bytes_eq}
use Rattle.mk_realworld.specs.Known.{sights_in}
use Rattle.mk_realworld.proofs.KnownLemmas.{others_stay, seen-itself}
use Rattle.mk_realworld.proofs.known.KnownTimes.learn.Goals as goal

pub returns-clause-others : goal.returns-clause-others
returns-clause-others c = λ other apart.
    subst (λ found. IfSome found (λ seen. sights_in c.args.self.now other ≡ Some seen))
    (sym (others_stay c.args.self.now.sights c.insert.new.self c.in_ok-path.path.items c.args.sight
    c.in_ok-insert.ensures.updates other
    (subst (λ path. bytes_eq other path ≡ false) (sym c.in_ok-path.ensures.items) apart)))
    (seen-itself (sights_in c.args.self.now other))
