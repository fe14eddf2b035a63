-- Words that references find among the variables of `:@`.
use Rattle.std.proofs.Common.{◌≡◌, ℕ, false, ◌+◌, ◌≤◌, List, [], length, nat_lt}
use Rattle.std.proofs.Common.{Some, Result, Ok, Err, inl, inr, refl, ap, ◌∙◌, arith}
use Rattle.std.proofs.lemmas.Bool.Decides.{nat_tests}
use Rattle.mk_ast.specs.Tree as tree
use Rattle.mk_ast.specs.Tree.{no_mods}
use Rattle.mk_bytes.specs.Agrees.{Agrees}
use Rattle.mk_bytes.specs.Texts.{is_among}
use Rattle.mk_bytes.specs.declared.pair.Pair.{Pair}
use Rattle.mk_values.specs.Calls.{Gives}
use Rattle.mk_values.specs.Chains.{chained, defined_as}
use Rattle.mk_values.specs.Evaluators.{Answer, Counted, Finder, Progress, ◌>>=◌, answer_then}
use Rattle.mk_values.specs.Evaluators.{behind, gives, noting, tried}
use Rattle.mk_values.specs.Limits.{appended, max_text}
use Rattle.mk_values.specs.Names.{Context, in_name, last_value, raw_of}
use Rattle.mk_values.specs.Parts.{reference_appended, shown}
use Rattle.mk_values.specs.Steps.{IsNamed, Lends}
use Rattle.mk_values.specs.Texts.{has_dollar}
use Rattle.mk_values.specs.Value.{variable}
use Rattle.mk_values.specs.declared.chain.Found.{Found}
use Rattle.mk_values.specs.declared.fault.ExpandFault.{ExpandFault}
use Rattle.mk_values.specs.declared.fault.ExpandFault.TheVariants.{NoMemory}
use Rattle.mk_values.proofs.ChainLemmas.{chained_none}
use Rattle.mk_values.proofs.PlainLemmas.{tree_value-plain, variable-plain}

-- what a word finds that a variable of `:@` stands for
pub lends : (open_names : List (List ℕ)) (bound : List Pair) (one : tree.Part) (name word : List ℕ)
    → IsNamed one name → length name ≤ max_text
    → is_among open_names name ≡ false → last_value bound name ≡ Some word
    → has_dollar word ≡ false → length word ≤ max_text
    → Lends open_names bound one name word
lends open_names bound one name word named short among is none fits find c p opened same =
    let above : raw_of c name ≡ Ok (Some word) = rw (same, is) refl in
    let shut : is_among c.open_names name ≡ false = rw opened among in
    let small : nat_lt max_text (length {A = ℕ} [] + length word) ≡ false =
    grind (arith, nat_tests, fits) in
    let value : (variable find c p name).answer ≡ Ok (defined_as word, noting name p) =
    ap (λ (one : Counted Found). one.answer) (variable-plain find c p name word shut above none)
    ∙ rw small refl in
    ap (λ one. one.answer) (named find c p)
    ∙ ap (λ (text : Counted (List ℕ)). (text >>= λ n. variable find c n.1 n.0
    >>= λ v. chained find (in_name c) v.1 n.0 v.0 no_mods).answer)
    (tree_value-plain find (in_name c) p name short)
    ∙ ap (λ (one : Answer Found). answer_then one
    (λ v. chained find (in_name c) v.1 name v.0 no_mods))
    value
    ∙ ap (λ one. one.answer) (chained_none find (in_name c) (noting name p) name (defined_as word))

-- what such a word gives behind a text
appended-lent : (find : Finder) (c : Context) (p q : Progress) (text : List ℕ) (one : tree.Part)
    (word : List ℕ)
    → (find c p one).answer ≡ Ok (defined_as word, q)
    → (reference_appended find c p text one).answer ≡ behind (appended text word) q
appended-lent find c p q text one word is =
    ap (λ (found : Answer Found). answer_then
    (answer_then found (λ f. gives (shown c.keep one f.0) f.1))
    (λ v. tried (appended text v.0) v.1)) is

pub gives-lent : {X : Type 0} (find : Finder) (c : Context) (p q : Progress) (text : List ℕ)
    (one : tree.Part) (word : List ℕ) (view : X → List ℕ) (answer : Result X ExpandFault)
    → (find c p one).answer ≡ Ok (defined_as word, q)
    → Agrees NoMemory view answer (appended text word)
    → Gives view q answer (reference_appended find c p text one).answer
gives-lent find c p q text one word view (Ok x) found is =
    appended-lent find c p q text one word found ∙ ap (λ value. behind value q) is
gives-lent find c p q text one word view (Err fault) found (inl want) = inl (inl want)
gives-lent find c p q text one word view (Err fault) found (inr is) =
    inr (appended-lent find c p q text one word found ∙ ap (λ value. behind value q) is)

-- the same where a reference may not be opened
pub gives-not : (find : Finder) (c : Context) (p : Progress) (text : List ℕ) (one : tree.Part)
    (fault : ExpandFault)
    → find c p one ≡ tried (Err fault) p
    → (reference_appended find c p text one).answer ≡ Err (fault, p)
gives-not find c p text one fault is =
    ap (λ (found : Counted Found). answer_then
    (answer_then found.answer (λ f. gives (shown c.keep one f.0) f.1))
    (λ v. tried (appended text v.0) v.1)) is
