-- The offers of a branch as they are listed over the ids of a store, part by part.
use Rattle.std.specs.Prelude.{◌≡◌, true, false, List, [], ◌++◌}
use Rattle.std.specs.List.{Contains}
use Rattle.zm_logic.specs.Tree.{Form, Symbol}
use Rattle.term_store.specs.Trees.{Tables}
use Rattle.term_store.specs.Open.{HasRedex, redex_of}
use Rattle.term_store.specs.declared.ids.FormId.{FormId}
use Rattle.term_store.specs.declared.opening.Redex.{Redex}
use Rattle.param_store.specs.RawOffers.{is_quantified}
use Rattle.param_store.specs.View.{AreForms, HasForms, forms_of}
use Rattle.branch.specs.declared.listed.Listed.{Listed}
use Rattle.branch.specs.Setting.{Setting}
use Rattle.branch.specs.Normal.{Fault}
use Rattle.branch.specs.BranchOffers.{Entry, has_equality}
use Rattle.branch.specs.Offers.{Offer}
use Rattle.branch.specs.Left.{AreLeft, Fails}
use Rattle.branch.specs.Listed.{AreListed}

-- each quantified formula of the branch has a number
abbrev pub AreNumbered : List Form → List Form → Type 0
AreNumbered table branch = (f : Form) → Contains branch f → is_quantified f ≡ true → Contains table f

-- a search without rules over ids, with the trees of its table and of a branch
pub record IsCase (u : Tables) (declared : List Symbol) (params forms : List FormId) (s : Setting) (numbered stands : List Form) : Type 0 where
  pub symbols : s.symbols ≡ declared
  pub rules : s.rules ≡ []
  pub table : AreForms u numbered params
  pub branch : AreForms u stands forms

-- what is left of some entries is listed behind the offers that were listed before
pub record Adds (Are : List Entry → Type 0) (s : Setting) (branch : List Form) (u v : Tables) (old new : List Listed) : Type 0 where
  pub entries : List Entry
  pub are : Are entries
  pub offers : List Offer
  pub left : AreLeft s branch entries offers
  pub listed : (os : List Offer) → AreListed u os old → AreListed v (os ++ offers) new

-- of a part of a branch, whose entries are known by the setting, the table and the branch
module _ (Are : Setting → List Form → List Form → List Entry → Type 0) (u v : Tables) (symbols : List Symbol) (params forms : List FormId) where
  -- the offers are listed
  abbrev pub AddsPart : List Listed → List Listed → Type 0
  AddsPart old new =
      (s : Setting) (table branch : List Form) → IsCase u symbols params forms s table branch → Adds (Are s table branch) s branch u v old new

  -- an entry is too deep, and the place is named
  abbrev pub IsTooDeep : Redex → Type 0
  IsTooDeep at =
      HasRedex v at
      × ((s : Setting) (table branch : List Form) → IsCase u symbols params forms s table branch
      → Fails (Are s table branch) s (Fault.deep (redex_of v at)))

-- What offers are listed from: the ids are the store's, each quantified formula has a number, and no unnegated equality is
-- on the branch.
pub record IsReady (s : Tables) (params forms : List FormId) : Type 0 where
  pub has : HasForms s forms
  pub numbered : HasForms s params
  pub known : AreNumbered (forms_of s params) (forms_of s forms)
  pub plain : has_equality (forms_of s forms) ≡ false
