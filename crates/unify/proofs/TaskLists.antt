-- Lists of tasks.
use Rattle.std.proofs.Common.{ℕ, ◌≡◌, ◌+◌, ◌<◌, List, [], ◌∷◌, ◌++◌, length, drop, get_or, append_assoc, refl, ap, ◌∙◌, add-one, drop-cons, arith}
use Rattle.term_store.specs.Trees.{Tables}
use Rattle.term_store.specs.declared.ids.TyId.{TyId}
use Rattle.term_store.specs.declared.ids.TermId.{TermId}
use Rattle.unify.specs.Equation.{Equation}
use Rattle.unify.specs.Task.{type_tasks, term_tasks, marks, pending}
use Rattle.unify.specs.declared.task.Task.{Task}
use Rattle.unify.specs.declared.task.Task.TheVariants.{Types, Terms, TypesDone, TermsDone}

pub pending_more : (s : Tables) (es : List Equation) (xs ys : List Task) → pending s es (xs ++ ys) ≡ pending s (pending s es xs) ys
pending_more s es [] ys = refl
pending_more s es (Types i j ∷ xs) ys = pending_more s _ xs ys
pending_more s es (Terms i j ∷ xs) ys = pending_more s _ xs ys
pending_more s es (TypesDone i j ∷ xs) ys = pending_more s es xs ys
pending_more s es (TermsDone i j ∷ xs) ys = pending_more s es xs ys

pub marks_more : (xs ys : List Task) → marks (xs ++ ys) ≡ marks xs + marks ys
marks_more [] ys = omega arith
marks_more (Types i j ∷ xs) ys = marks_more xs ys
marks_more (Terms i j ∷ xs) ys = marks_more xs ys
marks_more (TypesDone i j ∷ xs) ys = omega (arith, marks_more xs ys)
marks_more (TermsDone i j ∷ xs) ys = omega (arith, marks_more xs ys)

-- one more pair from the back
pub type_tasks_more : (old now new : List Task) (is js : List TyId) (n : ℕ) (d e : TyId) → n < length is → length is ≡ length js
    → now ≡ old ++ type_tasks (drop (n + 1) is) (drop (n + 1) js) → new ≡ now ++ (Types (get_or is n d) (get_or js n e) ∷ [])
    → new ≡ old ++ type_tasks (drop n is) (drop n js)
type_tasks_more old now new is js n d e l h f g =
    let m : n < length js = omega arith in
    let one : List Task = Types (get_or is n d) (get_or js n e) ∷ [] in
    let x : drop n is ≡ get_or is n d ∷ drop (n + 1) is = rw add-one (drop-cons is n d l) in
    let y : drop n js ≡ get_or js n e ∷ drop (n + 1) js = rw add-one (drop-cons js n e m) in
    rw (x, y)
    (g ∙ ap (λ xs. xs ++ one) f ∙ append_assoc old (type_tasks (drop (n + 1) is) (drop (n + 1) js)) one)

pub term_tasks_more : (old now new : List Task) (is js : List TermId) (n : ℕ) (d e : TermId) → n < length is → length is ≡ length js
    → now ≡ old ++ term_tasks (drop (n + 1) is) (drop (n + 1) js) → new ≡ now ++ (Terms (get_or is n d) (get_or js n e) ∷ [])
    → new ≡ old ++ term_tasks (drop n is) (drop n js)
term_tasks_more old now new is js n d e l h f g =
    let m : n < length js = omega arith in
    let one : List Task = Terms (get_or is n d) (get_or js n e) ∷ [] in
    let x : drop n is ≡ get_or is n d ∷ drop (n + 1) is = rw add-one (drop-cons is n d l) in
    let y : drop n js ≡ get_or js n e ∷ drop (n + 1) js = rw add-one (drop-cons js n e m) in
    rw (x, y)
    (g ∙ ap (λ xs. xs ++ one) f ∙ append_assoc old (term_tasks (drop (n + 1) is) (drop (n + 1) js)) one)
