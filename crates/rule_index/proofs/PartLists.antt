-- The part of an index in a list of parts, the last part being that of index 0.
use Rattle.std.proofs.Common.{ℕ, suc, ◌≡◌, ◌+◌, ◌-◌, ◌<◌, ◌≤◌, ◌==◌, Bool, true, false, if◌then◌else◌, List, [], ◌∷◌, length, get_or, refl, ap, sym, ◌∙◌, arith}
use Rattle.std.proofs.lemmas.Bool.{ne_eqb}
use Rattle.zm_logic.specs.Tree as tree
use Rattle.rule_index.specs.declared.part.Part.{Part}
use Rattle.zm_logic.specs.View.{type_tree, term_tree, step_of_type, step_of_term}
use Rattle.zm_logic.specs.declared.tree.Term.{fold-roll-Term}
use Rattle.zm_logic.specs.declared.tree.Term.TheVariants as term_code
use Rattle.zm_logic.specs.declared.tree.Term.TheOpen as term_layer
use Rattle.zm_logic.specs.declared.tree.Ty.{fold-roll-Ty}
use Rattle.zm_logic.specs.declared.tree.Ty.TheVariants as type_code
use Rattle.zm_logic.specs.declared.tree.Ty.TheOpen as type_layer
use Rattle.rule_index.specs.declared.part.Part.TheVariants as parts
use Rattle.rule_index.specs.Instance.{type_in, term_in, type_part, term_part, lift_type, lift_term}
use Rattle.rule_index.specs.View.{part_tree, parts_tree}
use Rattle.rule_index.proofs.Equal.{itself, number}

below : (a b : ℕ) → a ≤ b → (a ≡ b → ⊥) → a < b
below a b l h = omega (arith, h)

differs : (a b : ℕ) → (a == b) ≡ false → a ≡ b → ⊥
differs a b x q = let y : true ≡ false = sym (ap (λ j. j == b) q ∙ itself b) ∙ x in cc

same_length : (ps : List Part) → length (parts_tree ps) ≡ length ps
same_length [] = refl
same_length (p ∷ ps) = ap suc (same_length ps)

pub type_part_past : (ps : List Part) (i : ℕ) → length ps ≤ i → type_part (parts_tree ps) i ≡ tree.Ty.bound i
type_part_past [] i h = refl
type_part_past (p ∷ ps) i h =
    let n = same_length ps in
    let t : (i == length (parts_tree ps)) ≡ false = ne_eqb i (length (parts_tree ps)) (λ e. omega arith) in
    rw t (type_part_past ps i (omega arith))

pub type_part_at : (ps : List Part) (i : ℕ) (e : Part) → i < length ps → type_part (parts_tree ps) i ≡ type_in (part_tree (get_or ps (length ps - 1 - i) e)) i
type_part_at [] i e h = absurd (omega arith)
type_part_at (p ∷ ps) i e h = go (λ l. type_part_at ps i e l) (i == length (parts_tree ps)) refl
  where
    n : length (parts_tree ps) ≡ length ps
    n = same_length ps

    go : (i < length ps → type_part (parts_tree ps) i ≡ type_in (part_tree (get_or ps (length ps - 1 - i) e)) i)
        → (b : Bool) → (i == length (parts_tree ps)) ≡ b
        → (if b then type_in (part_tree p) i else type_part (parts_tree ps) i) ≡ type_in (part_tree (get_or (p ∷ ps) (length (p ∷ ps) - 1 - i) e)) i
    go ih true x =
        let is : i ≡ length (parts_tree ps) = number i (length (parts_tree ps)) x in
        let first : length (p ∷ ps) - 1 - i ≡ 0 = omega (arith, is, n) in
        rw first refl
    go ih false x =
        let l : i < length ps = below i (length ps) (omega arith) (λ q. differs i (length (parts_tree ps)) x (q ∙ sym n)) in
        let next : length (p ∷ ps) - 1 - i ≡ suc (length ps - 1 - i) = omega (arith, l) in
        rw next (ih l)

pub term_part_past : (ps : List Part) (i : ℕ) → length ps ≤ i → term_part (parts_tree ps) i ≡ tree.Term.bound i
term_part_past [] i h = refl
term_part_past (p ∷ ps) i h =
    let n = same_length ps in
    let t : (i == length (parts_tree ps)) ≡ false = ne_eqb i (length (parts_tree ps)) (λ e. omega arith) in
    rw t (term_part_past ps i (omega arith))

pub term_part_at : (ps : List Part) (i : ℕ) (e : Part) → i < length ps → term_part (parts_tree ps) i ≡ term_in (part_tree (get_or ps (length ps - 1 - i) e)) i
term_part_at [] i e h = absurd (omega arith)
term_part_at (p ∷ ps) i e h = go (λ l. term_part_at ps i e l) (i == length (parts_tree ps)) refl
  where
    n : length (parts_tree ps) ≡ length ps
    n = same_length ps

    go : (i < length ps → term_part (parts_tree ps) i ≡ term_in (part_tree (get_or ps (length ps - 1 - i) e)) i)
        → (b : Bool) → (i == length (parts_tree ps)) ≡ b
        → (if b then term_in (part_tree p) i else term_part (parts_tree ps) i) ≡ term_in (part_tree (get_or (p ∷ ps) (length (p ∷ ps) - 1 - i) e)) i
    go ih true x =
        let is : i ≡ length (parts_tree ps) = number i (length (parts_tree ps)) x in
        let first : length (p ∷ ps) - 1 - i ≡ 0 = omega (arith, is, n) in
        rw first refl
    go ih false x =
        let l : i < length ps = below i (length ps) (omega arith) (λ q. differs i (length (parts_tree ps)) x (q ∙ sym n)) in
        let next : length (p ∷ ps) - 1 - i ≡ suc (length ps - 1 - i) = omega (arith, l) in
        rw next (ih l)

pub part_is_type : (ps : List Part) (i d : ℕ) (x : _) (e : Part) → i < length ps → e ≡ get_or ps (length ps - 1 - i) e → e ≡ parts.OfType x
    → lift_type d (type_tree x) ≡ lift_type d (type_part (parts_tree ps) i)
part_is_type ps i d x e l at is =
    sym (ap (lift_type d) (type_part_at ps i e l ∙ ap (λ p. type_in (part_tree p) i) (sym at ∙ is)))

pub part_is_no_type : (ps : List Part) (i d : ℕ) (x : _) (e : Part) → i < length ps → e ≡ get_or ps (length ps - 1 - i) e → e ≡ parts.OfTerm x
    → tree.Ty.bound (i + d) ≡ lift_type d (type_part (parts_tree ps) i)
part_is_no_type ps i d x e l at is =
    sym (ap (lift_type d) (type_part_at ps i e l ∙ ap (λ p. type_in (part_tree p) i) (sym at ∙ is)))

pub part_is_term : (ps : List Part) (i d : ℕ) (x : _) (e : Part) → i < length ps → e ≡ get_or ps (length ps - 1 - i) e → e ≡ parts.OfTerm x
    → lift_term d (term_tree x) ≡ lift_term d (term_part (parts_tree ps) i)
part_is_term ps i d x e l at is =
    sym (ap (lift_term d) (term_part_at ps i e l ∙ ap (λ p. term_in (part_tree p) i) (sym at ∙ is)))

pub part_is_no_term : (ps : List Part) (i d : ℕ) (x : _) (e : Part) → i < length ps → e ≡ get_or ps (length ps - 1 - i) e → e ≡ parts.OfType x
    → tree.Term.bound (i + d) ≡ lift_term d (term_part (parts_tree ps) i)
part_is_no_term ps i d x e l at is =
    sym (ap (lift_term d) (term_part_at ps i e l ∙ ap (λ p. term_in (part_tree p) i) (sym at ∙ is)))

pub type_bound : (i : ℕ) → type_tree (type_code.Bound i) ≡ tree.Ty.bound i
type_bound i = sym (ap type_tree (type_code.rolls-Bound i)) ∙ fold-roll-Ty tree.Ty step_of_type (type_layer.Bound i)

pub term_bound : (i : ℕ) → term_tree (term_code.Bound i) ≡ tree.Term.bound i
term_bound i = sym (ap term_tree (term_code.rolls-Bound i)) ∙ fold-roll-Term tree.Term step_of_term (term_layer.Bound i)
