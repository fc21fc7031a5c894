-- A branch whose offers can be listed.
use Rattle.std.proofs.Common.{List, sym, subst}
use Rattle.term_store.specs.Trees.{Tables, Extends}
use Rattle.term_store.specs.declared.ids.FormId.{FormId}
use Rattle.param_store.specs.View.{forms_of, HasForms}
use Rattle.param_store.proofs.Stay.{forms_stay}
use Rattle.branch.specs.Listing.{AreNumbered}

-- the quantified formulas of a branch keep their numbers while the store grows
pub known_still : (s t : Tables) → Extends s t → (params forms : List FormId) → HasForms s params → HasForms s forms
    → AreNumbered (forms_of s params) (forms_of s forms) → AreNumbered (forms_of t params) (forms_of t forms)
known_still s t e params forms h k n =
    subst (λ ps. AreNumbered ps (forms_of t forms)) (sym (forms_stay s t e params h))
    (subst (AreNumbered (forms_of s params)) (sym (forms_stay s t e forms k)) n)
