-- Contents that are joined, one after the other.
use Rattle.std.proofs.Common.{◌≡◌, ℕ, zero, suc, add-one, refl, List, [], ◌∷◌, ◌++◌, Bor, ◌+◌, ◌<◌, length, drop, arith, true, false, is_some, sym, ◌∙◌, append_assoc}
use Rattle.mk_world.specs.declared.step.Answer.{Answer}
use Rattle.mk_world.specs.declared.step.Answer.TheVariants.{Found, Missing, Stands, Done}
use Rattle.mk_commands.specs.Commands.{joins}
use Rattle.mk_commands.specs.Seen.{contents_of}
use Rattle.mk_commands.specs.Turns.{ends, found}
use Rattle.mk_commands.specs.Words.{held}

-- A join that has come as far as these sources and answers.
pub record IsPartOf (cwd target : List ℕ) (sources : List (List ℕ)) (answers : List Answer)
    (sources_left : List (List ℕ)) (answers_left : List Answer) : Type 0 where
  pub text : List ℕ
  pub contents : contents_of answers ≡ text ++ contents_of answers_left
  pub same : joins cwd target [] sources answers ≡ joins cwd target text sources_left answers_left

one_later : (i : ℕ) (sources : List (Bor (List ℕ)))
    → drop 1 (held (drop i sources)) ≡ held (drop (suc i) sources)
one_later zero [] = refl
one_later zero (source ∷ sources) = refl
one_later (suc i) [] = refl
one_later (suc i) (source ∷ sources) = one_later i sources

pub drop-held : (i : ℕ) (sources : List (Bor (List ℕ)))
    → drop 1 (held (drop i sources)) ≡ held (drop (i + 1) sources)
drop-held i sources = rw add-one (one_later i sources)

-- a file that was found is joined to the text
pub one_more : (cwd target : List ℕ) (sources : List (List ℕ)) (answers : List Answer)
    (left : List (List ℕ)) (answer : Answer) (more : List Answer)
    → 0 < length left → is_some (found answer) ≡ true
    → IsPartOf cwd target sources answers left (answer ∷ more)
    → IsPartOf cwd target sources answers (drop 1 left) more
one_more cwd target sources answers [] answer more some is part = absurd (omega arith)
one_more cwd target sources answers (source ∷ left) (Found bytes) more some is part = record {
  text = part.text ++ bytes;
  contents = part.contents ∙ sym (append_assoc part.text bytes (contents_of more));
  same = part.same;
}
one_more cwd target sources answers (source ∷ left) Missing more some is part = absurd (cc)
one_more cwd target sources answers (source ∷ left) Stands more some is part = absurd (cc)
one_more cwd target sources answers (source ∷ left) Done more some is part = absurd (cc)

-- a file that was not found ends the join
pub fails_at : (cwd target : List ℕ) (sources : List (List ℕ)) (answers : List Answer)
    (left : List (List ℕ)) (answer : Answer) (more : List Answer)
    → 0 < length left → is_some (found answer) ≡ false
    → IsPartOf cwd target sources answers left (answer ∷ more)
    → joins cwd target [] sources answers ≡ ends 1 [] more
fails_at cwd target sources answers [] answer more some is part = absurd (omega arith)
fails_at cwd target sources answers (source ∷ left) (Found bytes) more some is part = cc
fails_at cwd target sources answers (source ∷ left) Missing more some is part = part.same
fails_at cwd target sources answers (source ∷ left) Stands more some is part = part.same
fails_at cwd target sources answers (source ∷ left) Done more some is part = part.same
