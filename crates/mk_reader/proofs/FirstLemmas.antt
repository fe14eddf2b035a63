-- What was read changes before a call of a reader, and nothing is asked.
use Rattle.std.proofs.Common.{◌≡◌, [], Result, Ok}
use Rattle.mk_blocks.specs.Outcomes.{Outcome}
use Rattle.mk_blocks.specs.Ties.{Does}
use Rattle.mk_blocks.specs.declared.fault.LanguageFault.{LanguageFault}
use Rattle.mk_makefile.specs.Questions.{Answers}
use Rattle.mk_makefile.specs.declared.fault.Outside.{Outside}
use Rattle.mk_reader.specs.Ties.{Outer, reader_ties}
use Rattle.mk_reader.specs.declared.reader.Reader.{Reader}
use Rattle.mk_reader.proofs.GaveLemmas.{Stays, leads-same, nothing_done}
use Rattle.mk_reader.proofs.TieLemmas.{left-then}

module _ {W S : Type 0} (o : Outer W S) where
  pub changed-first : {A B D E : Type 0} (sorted : D → LanguageFault E Outside) {x y z : Reader W S}
      {answer : Result A D} {rest : Answers → A → Outcome B E} {other whole : Answers → Outcome B E}
      → Does (reader_ties o) sorted y z rest answer other
      → Stays o x y → y.world.now ≡ x.world.now
      → y.state.now.notes.items ≡ x.state.now.notes.items
      → ((answers : Answers) → whole answers ≡ other answers)
      → Does (reader_ties o) sorted x z rest answer whole
  changed-first {A} {B} {D} {E} sorted {x} {y} {z} {answer} {rest} {other} {whole} does stays world noted same =
      let first : Does (reader_ties o) sorted x y (λ answers (u : Unit {0}). other answers) (Ok tt) whole =
      record {
        leads = leads-same o x y stays world noted;
        gives = λ answers agrees. record {
          acts = [];
          did = nothing_done o x y stays.same noted;
          is = same answers;
        };
      } in
      left-then (reader_ties o) sorted first does
