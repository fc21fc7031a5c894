-- What derivations promise. Each statement is the contract of a function of the module laws.
use Rattle.std.specs.Prelude.{ℕ, ◌≡◌, List, [], ◌∷◌, Option, Some, None, codes}
use Rattle.zm_logic.specs.Tree.{Form, Rule, Symbol, Opening, either, implies}
use Rattle.zm_logic.specs.Typing.{WellTyped}
use Rattle.zm_logic.specs.Calculus.{Derives}
use Rattle.sequent_proof.specs.Rules.{RuleName}
use Rattle.sequent_proof.specs.Tree.{DTree, DTrees, added, IsDerivation}
use Rattle.sequent_proof.specs.Text.{lines}

-- the sequent at the root of a derivation has a derivation in the calculus
abbrev pub DerivationsDerive : Type 0
DerivationsDerive = (symbols : List Symbol) (rules : List Rule) (t : DTree) → IsDerivation symbols rules [] t → Derives symbols rules (added t)

-- a conversion has no line, and its child stands no further in
abbrev pub ConversionsAreNotPrinted : Type 0
ConversionsAreNotPrinted =
    (level : ℕ) (g : List Form) (f : Form) (second : Option Form) (part : Option Opening) (t : DTree)
    → lines level (DTree.node g RuleName.conversion f second part (DTrees.more t DTrees.none)) ≡ lines level t

-- p implies itself: not-implies, and then a formula and its negation
abbrev pub implies_itself : Form → DTree
implies_itself p =
    DTree.node (Form.negation (implies p p) ∷ []) RuleName.not_implies (Form.negation (implies p p)) None None
    (DTrees.more (DTree.node (p ∷ Form.negation p ∷ []) RuleName.closes p (Some (Form.negation p)) None DTrees.none) DTrees.none)

abbrev pub EachFormulaImpliesItself : Type 0
EachFormulaImpliesItself =
    (symbols : List Symbol) (rules : List Rule) (p : Form) → WellTyped symbols p
    → IsDerivation symbols rules [] (implies_itself p) × (lines 0 (implies_itself p) ≡ codes "not-imp\n  axiom\n")

-- p or p implies p: both cases of the disjunction close
abbrev pub closes_on : Form → DTree
closes_on p = DTree.node (p ∷ []) RuleName.closes p (Some (Form.negation p)) None DTrees.none

abbrev pub either_implies : Form → DTree
either_implies p =
    DTree.node (Form.negation (implies (either p p) p) ∷ []) RuleName.not_implies (Form.negation (implies (either p p) p)) None None
    (DTrees.more
    (DTree.node (either p p ∷ Form.negation p ∷ []) RuleName.disjunction (either p p) None None
    (DTrees.more (closes_on p) (DTrees.more (closes_on p) DTrees.none)))
    DTrees.none)

abbrev pub DisjunctionIsIdempotent : Type 0
DisjunctionIsIdempotent =
    (symbols : List Symbol) (rules : List Rule) (p : Form) → WellTyped symbols p
    → IsDerivation symbols rules [] (either_implies p) × (lines 0 (either_implies p) ≡ codes "not-imp\n  or\n    axiom\n    axiom\n")
