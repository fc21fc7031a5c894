-- The declaration of a number, by its place in the list.
use Rattle.std.proofs.Common.{ℕ, zero, suc, ◌≡◌, ◌-◌, false, Bor, Option, None, Some, List, [], ◌∷◌, map, option_map, option_copied, slice_get, refl, ap, sym, ◌∙◌, arith}
use Rattle.std.proofs.lemmas.Option.{slice_get-map}
use Rattle.std.proofs.lemmas.Option.{none-some}
use Rattle.zm_logic.specs.Tree as tree
use Rattle.zm_logic.specs.Typing.{nth}
use Rattle.zm_logic.specs.declared.problem.Symbol.{Symbol}
use Rattle.zm_logic.specs.View.{symbol_tree}
use Rattle.zm_logic.specs.Typing.{symbol_at}
use Rattle.zm_logic.specs.Same.{same_type}
use Rattle.zm_logic.specs.View.{type_tree, sense_tree}
use Rattle.zm_logic.specs.declared.tree.Ty.{Ty}
use Rattle.zm_logic.specs.declared.problem.Sense.TheVariants as senses
use Rattle.equality_rules.specs.Heads.{declared, instance_at, makes_at, result_is}

nth_place : (xs : List tree.Symbol) (n : ℕ) → nth xs n ≡ slice_get xs n
nth_place [] n = refl
nth_place (x ∷ xs) zero = refl
nth_place (x ∷ xs) (suc n) = nth_place xs n

seen : (o : Option (Bor Symbol)) → option_map (λ d. symbol_tree d.now) o ≡ option_map symbol_tree (option_copied o)
seen None = refl
seen (Some d) = refl

pub declared_at : (xs : List Symbol) (n : ℕ) (o : Option (Bor Symbol)) → (n ≡ 0 → ⊥) → option_copied o ≡ slice_get xs (n - 1)
    → option_map (λ d. symbol_tree d.now) o ≡ declared (map symbol_tree xs) n
declared_at xs zero o h e = absurd (h refl)
declared_at xs (suc n) o h e =
    let z : suc n - 1 ≡ n = omega arith in
    seen o ∙ ap (option_map symbol_tree) (e ∙ ap (slice_get xs) z) ∙ sym (slice_get-map symbol_tree xs n) ∙ sym (nth_place (map symbol_tree xs) n)

-- the symbol of a number that is declared
pub declared_some : (xs : List tree.Symbol) (n : ℕ) (d : tree.Symbol) → Some d ≡ declared xs n → symbol_at xs n ≡ Some d
declared_some xs zero d e = absurd (none-some d (sym e))
declared_some xs (suc n) d e = sym e

-- what it makes
pub function_makes : (xs : List Symbol) (n : ℕ) (d : Symbol) (r : Ty) (ts : tree.Tys) (t : tree.Ty)
    → Some (symbol_tree d) ≡ declared (map symbol_tree xs) n → d.sense ≡ senses.Function r
    → same_type (instance_at ts (type_tree r)) t ≡ result_is (symbol_at (map symbol_tree xs) n) ts t
function_makes xs n d r ts t e f =
    ap (λ s. makes_at (sense_tree s) ts t) (sym f) ∙ ap (λ o. result_is o ts t) (sym (declared_some (map symbol_tree xs) n (symbol_tree d) e))

pub constructor_makes : (xs : List Symbol) (n : ℕ) (d : Symbol) (ts : tree.Tys) (t : tree.Ty)
    → Some (symbol_tree d) ≡ declared (map symbol_tree xs) n → d.sense ≡ senses.Constructor
    → false ≡ result_is (symbol_at (map symbol_tree xs) n) ts t
constructor_makes xs n d ts t e f =
    ap (λ s. makes_at (sense_tree s) ts t) (sym f) ∙ ap (λ o. result_is o ts t) (sym (declared_some (map symbol_tree xs) n (symbol_tree d) e))

pub predicate_makes : (xs : List Symbol) (n : ℕ) (d : Symbol) (ts : tree.Tys) (t : tree.Ty)
    → Some (symbol_tree d) ≡ declared (map symbol_tree xs) n → d.sense ≡ senses.Predicate
    → false ≡ result_is (symbol_at (map symbol_tree xs) n) ts t
predicate_makes xs n d ts t e f =
    ap (λ s. makes_at (sense_tree s) ts t) (sym f) ∙ ap (λ o. result_is o ts t) (sym (declared_some (map symbol_tree xs) n (symbol_tree d) e))

pub none_makes : (xs : List tree.Symbol) (n : ℕ) (ts : tree.Tys) (t : tree.Ty) → None ≡ declared xs n → false ≡ result_is (symbol_at xs n) ts t
none_makes xs zero ts t e = refl
none_makes xs (suc n) ts t e = ap (λ o. result_is o ts t) e
