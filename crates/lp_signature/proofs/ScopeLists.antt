-- Scopes, one parameter further.
use Rattle.std.proofs.Common.{ℕ, ◌≡◌, ◌+◌, ◌<◌, Option, List, [], ◌∷◌, ◌++◌, length, get_or, take, refl, ap, sym, ◌∙◌}
use Rattle.std.proofs.lemmas.List.{take_more}
use Rattle.lp_terms.specs.Term.{Lp}
use Rattle.zm_logic.specs.Tree as tree
use Rattle.lp_signature.specs.declared.scope.Bound.{Bound}
use Rattle.lp_signature.specs.Translation.{Scope, read_type, read_term}
use Rattle.lp_signature.specs.View.{bound_in, all_bound_in, scope_tree, variable_or}

all_bound_append : (s : Scope) (bs cs : List Bound) → all_bound_in s (bs ++ cs) ≡ all_bound_in (all_bound_in s bs) cs
all_bound_append s [] cs = refl
all_bound_append s (b ∷ bs) cs = all_bound_append (bound_in s b) bs cs

pub scope_more : (bs : List Bound) (i : ℕ) (d : Bound) → i < length bs
    → scope_tree (take (i + 1) bs) ≡ bound_in (scope_tree (take i bs)) (get_or bs i d)
scope_more bs i d h = ap scope_tree (take_more bs i d h) ∙ all_bound_append Scope.none (take i bs) (get_or bs i d ∷ [])

-- what is found so far, and at one more parameter
pub type_more : (bs : List Bound) (i n : ℕ) (b : Bound) (u : Lp) (found next now : Option ℕ) → i < length bs → b ≡ get_or bs i b
    → ((s : Scope) → read_type (bound_in s b) n ≡ variable_or next (read_type s n))
    → ((u : Lp) → variable_or now u ≡ variable_or next (variable_or found u))
    → read_type (scope_tree (take i bs)) n ≡ variable_or found u → read_type (scope_tree (take (i + 1) bs)) n ≡ variable_or now u
type_more bs i n b u found next now h e at later before =
    ap (λ s. read_type s n) (scope_more bs i b h ∙ ap (bound_in (scope_tree (take i bs))) (sym e)) ∙ at (scope_tree (take i bs))
    ∙ ap (variable_or next) before ∙ sym (later u)

pub term_more : (bs : List Bound) (i n : ℕ) (t : tree.Ty) (b : Bound) (found next now : Option ℕ) → i < length bs → b ≡ get_or bs i b
    → ((s : Scope) (u : Lp) → read_term (bound_in s b) n t u ≡ variable_or next (read_term s n t u))
    → ((u : Lp) → variable_or now u ≡ variable_or next (variable_or found u))
    → ((u : Lp) → read_term (scope_tree (take i bs)) n t u ≡ variable_or found u)
    → (u : Lp) → read_term (scope_tree (take (i + 1) bs)) n t u ≡ variable_or now u
term_more bs i n t b found next now h e at later before u =
    ap (λ s. read_term s n t u) (scope_more bs i b h ∙ ap (bound_in (scope_tree (take i bs))) (sym e)) ∙ at (scope_tree (take i bs)) u
    ∙ ap (variable_or next) (before u) ∙ sym (later u)
