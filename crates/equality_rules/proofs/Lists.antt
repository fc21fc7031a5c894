-- The tests on lists of trees, member by member of the lists that the code has.
use Rattle.std.proofs.Common.{ℕ, ◌≡◌, ◌<◌, get_or, Some, Bool, ◌&&◌, List, [], ◌∷◌, length, refl, ap, ◌∙◌}
use Rattle.zm_logic.specs.Tree as tree
use Rattle.zm_logic.specs.declared.tree.Ty.{Ty}
use Rattle.zm_logic.specs.View.{type_tree, types_tree}
use Rattle.zm_logic.specs.Same.{same_type, same_types}
use Rattle.zm_logic.specs.Typing.{symbol_at}
use Rattle.term_store.specs.Node.{TermsBelow, type_at, types_at, term_at, terms_at}
use Rattle.term_store.specs.declared.ids.TyId.{TyId}
use Rattle.term_store.specs.declared.ids.TermId.{TermId}
use Rattle.term_store.proofs.Loops.{term_below_at}
use Rattle.equality_rules.specs.Typed.{constructs, is_type, are_types}
use Rattle.equality_rules.specs.Heads.{instance_at, instances_at, takes, arguments_at, head_is, heads_are, is_typed, are_typed, is_applied}
use Rattle.equality_rules.proofs.Standing.{how_many_at}
use Rattle.equality_rules.proofs.Pairwise.{pairwise, each}

-- an id of a list of ids of the store
pub id_of_term_below : (k : ℕ) (is : List TermId) (j : ℕ) (d : TermId) → TermsBelow k is → j < length is → (get_or is j d).0 < k
id_of_term_below k is j d h l = term_below_at k is h j d l

-- a declared type at types, and an id
abbrev pub instance_test : List tree.Ty → tree.Tys → Ty → TyId → Bool
instance_test T ts x i = same_type (instance_at ts (type_tree x)) (type_at T i)

pub instances_pairwise : (T : List tree.Ty) (ts : tree.Tys) (xs : List Ty) (is : List TyId)
    → same_types (instances_at ts (types_tree xs)) (types_at T is) ≡ pairwise (instance_test T ts) xs is
instances_pairwise T ts [] [] = refl
instances_pairwise T ts [] (i ∷ is) = refl
instances_pairwise T ts (x ∷ xs) [] = refl
instances_pairwise T ts (x ∷ xs) (i ∷ is) = ap (λ b. instance_test T ts x i && b) (instances_pairwise T ts xs is)

-- two declared types, each at types
abbrev pub both_test : tree.Tys → tree.Tys → Ty → Ty → Bool
both_test ss ts x y = same_type (instance_at ss (type_tree x)) (instance_at ts (type_tree y))

pub both_pairwise : (ss ts : tree.Tys) (xs ys : List Ty)
    → same_types (instances_at ss (types_tree xs)) (instances_at ts (types_tree ys)) ≡ pairwise (both_test ss ts) xs ys
both_pairwise ss ts [] [] = refl
both_pairwise ss ts [] (y ∷ ys) = refl
both_pairwise ss ts (x ∷ xs) [] = refl
both_pairwise ss ts (x ∷ xs) (y ∷ ys) = ap (λ b. both_test ss ts x y && b) (both_pairwise ss ts xs ys)

-- a declared type at types, and a term
abbrev pub head_test : List tree.Symbol → List tree.Term → tree.Tys → Ty → TermId → Bool
head_test symbols U ts x i = head_is symbols (term_at U i) (instance_at ts (type_tree x))

pub heads_pairwise : (symbols : List tree.Symbol) (U : List tree.Term) (ts : tree.Tys) (xs : List Ty) (is : List TermId)
    → heads_are symbols (terms_at U is) (instances_at ts (types_tree xs)) ≡ pairwise (head_test symbols U ts) xs is
heads_pairwise symbols U ts [] [] = refl
heads_pairwise symbols U ts [] (i ∷ is) = refl
heads_pairwise symbols U ts (x ∷ xs) [] = refl
heads_pairwise symbols U ts (x ∷ xs) (i ∷ is) = ap (λ b. head_test symbols U ts x i && b) (heads_pairwise symbols U ts xs is)

-- types, and terms
abbrev pub type_test : List tree.Symbol → List tree.Ty → TyId → Bool
type_test symbols T i = is_type symbols (type_at T i)

pub types_each : (symbols : List tree.Symbol) (T : List tree.Ty) (is : List TyId) → are_types symbols (types_at T is) ≡ each (type_test symbols T) is
types_each symbols T [] = refl
types_each symbols T (i ∷ is) = ap (λ b. type_test symbols T i && b) (types_each symbols T is)

abbrev pub term_test : List tree.Symbol → List tree.Term → TermId → Bool
term_test symbols U i = is_typed symbols (term_at U i)

pub terms_each : (symbols : List tree.Symbol) (U : List tree.Term) (is : List TermId) → are_typed symbols (terms_at U is) ≡ each (term_test symbols U) is
terms_each symbols U [] = refl
terms_each symbols U (i ∷ is) = ap (λ b. term_test symbols U i && b) (terms_each symbols U is)

-- a constructor at types, and a function at types and terms
pub con_is_type : (symbols : List tree.Symbol) (T : List tree.Ty) (x : tree.Ty) (c : ℕ) (is : List TyId) → x ≡ tree.Ty.con c (types_at T is)
    → is_type symbols x ≡ (constructs (symbol_at symbols c) (length is) && are_types symbols (types_at T is))
con_is_type symbols T x c is e =
    ap (is_type symbols) e ∙ ap (λ n. constructs (symbol_at symbols c) n && are_types symbols (types_at T is)) (how_many_at T is)

pub applied_is : (symbols : List tree.Symbol) (T : List tree.Ty) (U : List tree.Term) (f : ℕ) (is : List TyId) (js : List TermId)
    → is_applied symbols f (types_at T is) (terms_at U js)
    ≡ ((takes (symbol_at symbols f) (length is) && heads_are symbols (terms_at U js) (arguments_at (symbol_at symbols f) (types_at T is)))
    && (are_types symbols (types_at T is) && are_typed symbols (terms_at U js)))
applied_is symbols T U f is js =
    ap (λ n. (takes (symbol_at symbols f) n && heads_are symbols (terms_at U js) (arguments_at (symbol_at symbols f) (types_at T is)))
    && (are_types symbols (types_at T is) && are_typed symbols (terms_at U js))) (how_many_at T is)

pub applied_found : (symbols : List tree.Symbol) (T : List tree.Ty) (U : List tree.Term) (f : ℕ) (is : List TyId) (js : List TermId) (d : tree.Symbol)
    → symbol_at symbols f ≡ Some d
    → is_applied symbols f (types_at T is) (terms_at U js)
    ≡ ((takes (Some d) (length is) && heads_are symbols (terms_at U js) (arguments_at (Some d) (types_at T is)))
    && (are_types symbols (types_at T is) && are_typed symbols (terms_at U js)))
applied_found symbols T U f is js d e =
    applied_is symbols T U f is js
    ∙ ap (λ o. (takes o (length is) && heads_are symbols (terms_at U js) (arguments_at o (types_at T is)))
    && (are_types symbols (types_at T is) && are_typed symbols (terms_at U js))) e
