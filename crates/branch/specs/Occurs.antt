-- The parameters that occur in a tree, those in the types that parameters carry among them.
use Rattle.std.specs.Prelude.{◌≡◌, ◌⊎◌}
use Rattle.zm_logic.specs.Tree.{Ty, Tys, Term, Terms, Form}
use Rattle.zm_logic.specs.Parameter.{Parameter}

module _ (p : Parameter) where
  abbrev mutual
    pub OccursInType : Ty → Type 0
    OccursInType (Ty.bound i) = ⊥
    OccursInType (Ty.param n) = p ≡ Parameter.type_param n
    OccursInType (Ty.meta n) = p ≡ Parameter.type_meta n
    OccursInType (Ty.con c ts) = OccursInTypes ts

    pub OccursInTypes : Tys → Type 0
    OccursInTypes Tys.none = ⊥
    OccursInTypes (Tys.more t ts) = OccursInType t ⊎ OccursInTypes ts

  abbrev mutual
    pub OccursInTerm : Term → Type 0
    OccursInTerm (Term.bound i) = ⊥
    OccursInTerm (Term.eps n t) = (p ≡ Parameter.eps n t) ⊎ OccursInType t
    OccursInTerm (Term.meta n t) = (p ≡ Parameter.meta n t) ⊎ OccursInType t
    OccursInTerm (Term.app f ts us) = OccursInTypes ts ⊎ OccursInTerms us

    pub OccursInTerms : Terms → Type 0
    OccursInTerms Terms.none = ⊥
    OccursInTerms (Terms.more u us) = OccursInTerm u ⊎ OccursInTerms us

  abbrev pub OccursIn : Form → Type 0
  OccursIn Form.truth = ⊥
  OccursIn Form.falsity = ⊥
  OccursIn (Form.atom q ts us) = OccursInTypes ts ⊎ OccursInTerms us
  OccursIn (Form.equal t a b) = OccursInType t ⊎ OccursInTerm a ⊎ OccursInTerm b
  OccursIn (Form.negation f) = OccursIn f
  OccursIn (Form.binary c f g) = OccursIn f ⊎ OccursIn g
  OccursIn (Form.quantified q t f) = OccursInType t ⊎ OccursIn f
  OccursIn (Form.quantified_types q f) = OccursIn f
