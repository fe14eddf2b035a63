-- Lines on standard error, piece by piece.
use Rattle.std.proofs.Common.{◌≡◌, ◌∙◌, ℕ, List, [], ◌∷◌, ◌++◌, Result, Ok, Err, OnOk, OnErr, ap, refl, sym}
use Rattle.std.proofs.Common.{append_assoc}
use Rattle.std.specs.Prelude.{codes}
use Rattle.mk_bytes.specs.Bytes.{newline}
use Rattle.mk_modes.specs.Messages.{as_line, command_text, place_text}

-- the line of a command of a target, with what is wrong in three pieces
pub command-line : (n m b c a : List ℕ) → as_line (command_text n m (b ++ (c ++ a)))
    ≡ codes "bmake: target " ++ (n ++ (codes " command " ++ (m ++ (codes ": "
    ++ (b ++ (c ++ (a ++ newline ∷ [])))))))
command-line n m b c a =
    let nl = newline ∷ [] in
    let wrong = append_assoc b (c ++ a) nl ∙ ap (λ l. b ++ l) (append_assoc c a nl) in
    let behind = append_assoc m (codes ": " ++ (b ++ (c ++ a))) nl
    ∙ ap (λ l. m ++ (codes ": " ++ l)) wrong in
    let all = append_assoc n (codes " command " ++ (m ++ (codes ": " ++ (b ++ (c ++ a))))) nl
    ∙ ap (λ l. n ++ (codes " command " ++ l)) behind in
    ap (λ l. codes "bmake: target " ++ l) all

-- a piece, and what stands behind it
joined : (piece others tail all : List ℕ) → others ++ tail ≡ all
    → (piece ++ others) ++ tail ≡ piece ++ all
joined piece others tail all is = append_assoc piece others tail ∙ ap (λ l. piece ++ l) is

-- what stands before the fault of a place in a file
abbrev pub place_head : List ℕ → List ℕ → List ℕ
place_head file number = codes "bmake: \"" ++ (file ++ (codes "\" line " ++ (number ++ codes ": ")))

-- the line of a place in a file, in three pieces
pub place-line : (f n wrong : List ℕ)
    → as_line (place_text f n wrong) ≡ place_head f n ++ (wrong ++ newline ∷ [])
place-line f n wrong =
    let nl = newline ∷ [] in
    let all = codes ": " ++ (wrong ++ nl) in
    let left = joined f (codes "\" line " ++ (n ++ (codes ": " ++ wrong))) nl
    (codes "\" line " ++ (n ++ all))
    (ap (λ l. codes "\" line " ++ l) (joined n (codes ": " ++ wrong) nl all refl))
    in
    let right = joined f (codes "\" line " ++ (n ++ codes ": ")) (wrong ++ nl)
    (codes "\" line " ++ (n ++ all))
    (ap (λ l. codes "\" line " ++ l) (joined n (codes ": ") (wrong ++ nl) all refl))
    in
    ap (λ l. codes "bmake: \"" ++ l) (left ∙ sym right)

-- what holds of a call that went well, and follows from it
pub OnOk-map : {A E : Type 0} (r : Result A E) (P Q : Type 0) → (P → Q) → OnOk r P → OnOk r Q
OnOk-map (Ok x) P Q step holds = step holds
OnOk-map (Err e) P Q step holds = tt

-- what holds of a call that failed, and follows from it
pub OnErr-map : {A E : Type 0} (r : Result A E) (P Q : Type 0) → (P → Q) → OnErr r P → OnErr r Q
OnErr-map (Ok x) P Q step holds = tt
OnErr-map (Err e) P Q step holds = step holds
